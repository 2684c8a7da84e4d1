-- What calls return of what a definition says.
use Rattle.std.specs.Prelude.{◌≡◌, ◌≢◌, ◌<◌, ◌⊎◌, ℕ, Bool, true, false, ◌∷◌, ◌++◌, length, map, slice_get, Some, Result, Ok, Err}
use Rattle.std.specs.Prelude.{Contains, List}
use Rattle.std.specs.List.{fold}
use Rattle.fax_bits.specs.Faults.{ByKind, kind_of}
pub use Rattle.fax_bits.specs.Faults.{IsFault}
use Rattle.fax_bits.specs.declared.error.DecodeError.{DecodeError}
use Rattle.fax_bits.specs.declared.codes.Mode.{Mode}
use Rattle.fax_bits.specs.Bits.{Bits}
use Rattle.fax_reading.specs.Rows.{Row, is_black, changes, last_pixel}
use Rattle.fax_reading.specs.Context.{Held, painted_front}
use Rattle.fax_reading.specs.Lines.{Line, Pen, draw_run, draw_mode, line_1d, line_2d, found_1d, found_2d}
use Rattle.fax_bits.specs.Repetition.{Turn}

-- ---- Errors, and what a row shows (auxiliary).

-- the row of a whole line, or the front of a broken one
abbrev pub front_of : Line → Row
front_of (Line.whole row rest) = row
front_of (Line.broken front fault) = front

-- a pixel of the row is black (T.4, 4.1.1)
abbrev pub HasBlack : Row → Type 0
HasBlack row = Contains row true

-- A front ends where a changing element of the row is next: the front is a prefix of the row and not all of it, and
-- the next pixel differs from the front's last one, or from white left of the row (T.4, 4.2.1.1).
abbrev pub StopsAtChange : Row → Row → Type 0
StopsAtChange row front = (pixel : Bool) × (after : Row) × (row ≡ front ++ pixel ∷ after) × (pixel ≢ last_pixel false front)

-- ---- One line, and one step of it, as calls draw them (auxiliary)

-- What a call that draws a line returns, given the definition's line, and leaves in the front and of the bits: the
-- whole line; or the broken one and its fault; or an allocation failure, where a changing element is to be stored (T.4,
-- 4.1 and 4.2; T.6, 2.2).
abbrev pub DrawsLine : Line → Result (Unit {0}) DecodeError → Row → Bits → Type 0
DrawsLine line (Ok x) front rest = line ≡ Line.whole front rest
DrawsLine line (Err e) front rest = ByKind (kind_of e) (line ≡ Line.broken front e) (StopsAtChange (front_of line) front) ⊥

-- the pen of a context, where these bits are left to read (T.4, 4.1.1 and 4.2.1.3)
abbrev pub pen_of : Held → Bits → Pen
pen_of held rest = record { front = held.front; color = held.color; rest = rest }

-- what a step of a line yields: the pen to continue with, or the line (T.4, 4.1.1 and 4.2.1.3; T.6, 2.2)
abbrev pub Step : Type 0
Step = Turn Pen Line

-- a run of the present colour, read and painted (T.4, 4.1.1)
abbrev pub step_of_run : Held → Bits → Step
step_of_run held rest = (draw_run held.settings.strict held.settings.columns (pen_of held rest)).turn

-- a mode, drawn against the reference row (T.4, 4.2.1.3; T.6, 2.2)
abbrev pub step_of_mode : Held → Bits → Mode → Step
step_of_mode held rest mode = (draw_mode held.settings.strict held.settings.columns held.reference (pen_of held rest) mode).turn

-- the same steps of a strict reading
abbrev pub strict_step_of_run : Held → Bits → Step
strict_step_of_run held rest = (draw_run true held.settings.columns (pen_of held rest)).turn

abbrev pub strict_step_of_mode : Held → Bits → Mode → Step
strict_step_of_mode held rest mode = (draw_mode true held.settings.columns held.reference (pen_of held rest) mode).turn

-- the line is broken
abbrev pub is_broken : Line → Bool
is_broken (Line.whole row rest) = false
is_broken (Line.broken front fault) = true

-- the line is broken with this step
abbrev pub breaks : Step → Bool
breaks (Turn.next pen) = false
breaks (Turn.done line) = is_broken line

-- What a call that draws a step of a line leaves of whether a run of the line was cut: a strict reading's step is the same if
-- none was, and breaks the line where the first is cut (T.4, 4.1.1 and 4.2.1.3).
abbrev pub TellsCut : Step → Pen → Bool → Bool → Type 0
TellsCut strict pen before false = (before ≡ false) × (strict ≡ Turn.next pen)
TellsCut strict pen before true = (before ≡ true) ⊎ (breaks strict ≡ true)

-- a one-dimensional line (T.4, 4.1.1)
abbrev pub line_from_1d : Held → Bits → Line
line_from_1d held rest = line_1d held.settings.strict held.settings.columns rest

-- a two-dimensional line against the reference row (T.4, 4.2; T.6, 2.2)
abbrev pub line_from_2d : Held → Bits → Line
line_from_2d held rest = line_2d held.settings.strict held.settings.columns held.reference rest

-- the words that a run of the present colour finds (T.4, 4.1.1)
abbrev pub words_of_run : Held → Bits → List Bits
words_of_run held rest = (draw_run held.settings.strict held.settings.columns (pen_of held rest)).words

-- the words that drawing a mode finds: those of its runs, where it is horizontal (T.4, 4.2.1.3; T.6, 2.2)
abbrev pub words_of_mode : Held → Bits → Mode → List Bits
words_of_mode held rest mode = (draw_mode held.settings.strict held.settings.columns held.reference (pen_of held rest) mode).words

-- the words that a one-dimensional line finds (T.4, 4.1.1)
abbrev pub words_from_1d : Held → Bits → List Bits
words_from_1d held rest = found_1d held.settings.strict held.settings.columns rest

-- the words that a two-dimensional line finds (T.4, 4.2; T.6, 2.2)
abbrev pub words_from_2d : Held → Bits → List Bits
words_from_2d held rest = found_2d held.settings.strict held.settings.columns held.reference rest

-- the front that a step yields (T.4, 4.1.1 and 4.2.1.3; T.6, 2.2)
abbrev pub front_after : Step → Row
front_after (Turn.next pen) = pen.front
front_after (Turn.done line) = front_of line

-- what a call that draws a step of a line returns, and the pen that it leaves (T.4, 4.1.1 and 4.2.1.3; T.6, 2.2)
abbrev pub DrawsStep : Step → Result (Unit {0}) DecodeError → Pen → Type 0
DrawsStep step (Ok x) pen = step ≡ Turn.next pen
DrawsStep step (Err e) pen =
    ByKind (kind_of e) (step ≡ Turn.done (Line.broken pen.front e)) (StopsAtChange (front_after step) pen.front) ⊥

-- ---- Changes that are stored.

-- Painting n pixels adds a changing element at the end of the front (T.4, 4.2.1.1).
abbrev pub StoresChange : Held → ℕ → Type 0
StoresChange held count = (row : Row)
    × (painted_front held count ≡ Ok row)
    × (length held.front < length row)
    × (last_pixel false held.front ≢ is_black held.color)

-- Continuing the front in white adds a changing element: the row isn't full, and its last pixel is black (T.4,
-- 4.2.1.1).
abbrev pub RepairStoresChange : Held → Type 0
RepairStoresChange held = (length held.front < held.settings.columns) × (last_pixel false held.front ≡ true)

-- A line that failed with this error is repaired: the reading is lenient, the data has EOLs, and the error is a fault of
-- the data (T.4, 4.1.2).
pub record IsRepairable (held : Held) (error : DecodeError) : Type 0 where
  pub lenient : held.settings.strict ≡ false
  pub has_eols : held.has_eols ≡ true
  pub fault : IsFault error

-- ---- What a run over all lines returns (auxiliary).

-- the line of an index is among these lines, and paints a black pixel
abbrev pub PaintsBlack : List Line → ℕ → Type 0
PaintsBlack lines index = (line : Line) × (slice_get lines index ≡ Some line) × HasBlack (front_of line)

-- what a sink means after some more rows, each accepted as its changes
abbrev pub meaning_after : {M : Type 0} → (M → List ℕ → M) → M → List Row → M
meaning_after step meaning rows = fold step meaning (map changes rows)

-- a statement that is true unless an allocation failed or a row was refused
abbrev pub OnAnswer : {T : Type 0} → Result T DecodeError → Type 0 → Type 0
OnAnswer (Ok x) P = P
OnAnswer (Err fault) P = IsFault fault → P
