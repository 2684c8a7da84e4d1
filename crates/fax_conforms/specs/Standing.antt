-- Lines that stand at the start of some bits, from a position of the line on (T.4, 4.1 and 4.2; T.6, 2.2).
use Rattle.std.specs.Prelude.{◌≡◌, ◌≢◌, ◌↔◌, ℕ, suc, ◌-◌, ◌<◌, ◌≤◌, ◌+◌, pos, ◌+ℤ◌, true, false, if◌then◌else◌}
use Rattle.std.specs.Prelude.{List, [], ◌∷◌, ◌++◌, length, take, replicate, Ok}
use Rattle.hayro_ccitt.specs.Bits.{Bits}
use Rattle.hayro_ccitt.specs.Color.{Color}
use Rattle.hayro_ccitt.specs.Color.TheVariants.{White, Black}
use Rattle.hayro_ccitt.specs.EncodingMode.{EncodingMode}
use Rattle.hayro_ccitt.specs.Encodings.{EncodesLine, EncodesLine1D, EncodesLine2D}
use Rattle.hayro_ccitt.specs.Mode.{Mode}
use Rattle.hayro_ccitt.specs.Mode.TheVariants.{Pass, Horizontal, Vertical}
use Rattle.hayro_ccitt.specs.Context.{ArePassed}
use Rattle.hayro_ccitt.specs.Rows.{Row, AreChanges, pixels, pixel_before, is_black, opposite, a1, a2, b1, b2}
use Rattle.hayro_ccitt.specs.Runs.{read_run}
use Rattle.fax_conforms.specs.declared.lines.Pen.{Pen}

-- the bits here begin with a line of an encoding of this row, and this follows it (T.4, 4.1.1 and 4.2.2; T.6, 2.2)
abbrev pub LineStands : EncodingMode → Row → Row → Bits → Bits → Type 0
LineStands encoding reference row here rest = (bits : Bits) × EncodesLine encoding reference row bits × (here ≡ bits ++ rest)

-- ---- auxiliary: the rows and the bits after them for which something stands here

-- of rows of this width and bits after them, the ones are the others
abbrev pub Leads : ℕ → (Row → Bits → Type 0) → (Row → Bits → Type 0) → Type 0
Leads columns ones others = (row : Row) (rest : Bits) → length row ≡ columns → (ones row rest ↔ others row rest)

-- there are none
abbrev pub Never : ℕ → (Row → Bits → Type 0) → Type 0
Never columns ones = (row : Row) (rest : Bits) → length row ≡ columns → ones row rest → ⊥

-- this row and these bits alone
abbrev pub IsOnly : Row → Bits → Row → Bits → Type 0
IsOnly row rest other others = (other ≡ row) × (others ≡ rest)

-- Some bits are passed, from here to what is next: whatever follows them, the ones that stand at their start are the others that
-- stand after them.
pub record Passes (columns : ℕ) (ones others : Bits → Row → Bits → Type 0) (here next : Bits) : Type 0 where
  pub passed : Bits
  pub is : here ≡ passed ++ next
  pub leads : (more : Bits) → Leads columns (ones (passed ++ more)) (others more)

-- ---- From a position of a line on

-- how far a line is drawn: the pixels so far, the first position right of a0, and the present colour (T.4, 4.2.1.1)
pub record Spot : Type 0 where
  pub front : Row
  pub from : ℕ
  pub color : Color

-- the start of a line: nothing is painted, a0 is left of the row, and the colour is white (T.4, 4.2.1.1)
abbrev pub line_start : Spot
line_start = record { front = []; from = 0; color = White }

-- The row goes on from there: its first pixels are the front, and the next one has the present colour, which is that of the
-- pixel at a0 (T.4, 4.2.1.1).
pub record GoesOnFrom (row : Row) (at : Spot) : Type 0 where
  pub front : at.front ≡ take (at.from - 1) row
  pub color : at.from ≤ length row → pixel_before row at.from ≡ is_black at.color

-- valid steps of a two-dimensional line stand here (T.4, 4.2.1.3; T.6, 2.2)
abbrev pub StepsStand : Row → Row → ℕ → Color → Bits → Bits → Type 0
StepsStand reference row from color here rest = (bits : Bits) × EncodesLine2D reference row from color bits ×
    (here ≡ bits ++ rest)

-- a row goes on from a position, and its valid steps stand here (T.4, 4.2.1.3; T.6, 2.2)
abbrev pub LineFrom : Row → Spot → Bits → Row → Bits → Type 0
LineFrom reference at here row rest = GoesOnFrom row at × StepsStand reference row at.from at.color here rest

-- this mode is valid at a position, with what stands after its word (T.4, 4.2.1.3; T.6, 2.2)
abbrev pub StepsAfter : Row → Row → ℕ → Color → Mode → Bits → Bits → Type 0
StepsAfter reference row from color Pass here rest =
    (b2 reference from color < a1 row from) × StepsStand reference row (suc (b2 reference from color)) color here rest
StepsAfter reference row from color (Vertical k) here rest =
    (pos (a1 row from) ≡ pos (b1 reference from color) +ℤ k)
    × StepsStand reference row (suc (a1 row from)) (opposite color) here rest
StepsAfter reference row from color Horizontal here rest = (middle after : Bits)
    × (read_run color here ≡ Ok (a1 row from - (from - 1), middle))
    × (read_run (opposite color) middle ≡ Ok (a2 row from - a1 row from, after))
    × StepsStand reference row (suc (a2 row from)) color after rest

-- a row goes on from a position with this mode
abbrev pub ModeFrom : Row → Spot → Mode → Bits → Row → Bits → Type 0
ModeFrom reference at mode here row rest = GoesOnFrom row at × StepsAfter reference row at.from at.color mode here rest

-- Runs of a one-dimensional line stand here, for the pixels after the front; the first one of a line alone may be empty (T.4,
-- 4.1.1).
abbrev pub RunsFrom : Spot → Bits → Row → Bits → Type 0
RunsFrom at here row rest = (others : Row) × (bits : Bits) × (row ≡ at.front ++ others)
    × (0 < at.from → (more : Row) → others ≢ is_black (opposite at.color) ∷ more)
    × EncodesLine1D at.color others bits × (here ≡ bits ++ rest)

-- ---- auxiliary: what a pen has drawn

abbrev pub from_of : Pen → ℕ
from_of pen = if pen.begun then suc pen.painted else 0

abbrev pub spot_of : Pen → List ℕ → Spot
spot_of pen places = record { front = pixels pen.painted places; from = from_of pen; color = pen.color }

-- the changes are those of the pixels painted; none are before a line has begun, which is white, and it is black where a line
-- has begun and no pixel is painted
pub record IsDrawn (columns : ℕ) (pen : Pen) (places : List ℕ) : Type 0 where
  pub lawful : AreChanges pen.painted places
  pub within : pen.painted ≤ columns
  pub start : pen.begun ≡ false → (pen.painted ≡ 0) × (pen.color ≡ White)
  pub black : pen.begun ≡ true → pen.painted ≡ 0 → pen.color ≡ Black

-- the reference row's changes are valid, and those that the pen has passed are not right of a0
pub record IsAbove (columns : ℕ) (pen : Pen) (reference : List ℕ) : Type 0 where
  pub lawful : AreChanges columns reference
  pub passed : ArePassed reference pen.painted pen.passed

-- pixels of the pen's colour are painted up to a position
pub record IsPainted (pen next : Pen) (places new : List ℕ) (place : ℕ) : Type 0 where
  pub painted : next.painted ≡ place
  pub begun : next.begun ≡ true
  pub color : next.color ≡ pen.color
  pub passed : next.passed ≡ pen.passed
  pub lawful : AreChanges next.painted new
  pub pixels_are : pixels next.painted new
      ≡ pixels pen.painted places ++ replicate (next.painted - pen.painted) (is_black pen.color)

-- The run of the pen's colour here, which isn't beyond the row's end; only the first run of a line is empty, and one at the
-- row's end (T.4, 4.1.1 and 4.2.1.3).
pub record NextRun (columns : ℕ) (pen : Pen) (here rest : Bits) (run : ℕ) : Type 0 where
  pub read : read_run pen.color here ≡ Ok (run, rest)
  pub within : pen.painted + run ≤ columns
  pub some : pen.begun ≡ true → pen.painted < columns → 0 < run

-- such a run is painted, and the colour turned
pub record PaintsRun (columns : ℕ) (pen next : Pen) (places new : List ℕ) (here rest : Bits) : Type 0 where
  pub run : ℕ
  pub stands : NextRun columns pen here rest run
  pub painted : IsPainted pen (record next { color = pen.color }) places new (pen.painted + run)
  pub turned : next.color ≡ opposite pen.color

-- a pen has drawn more of a line
pub record DrawsOn (columns : ℕ) (reference : List ℕ) (old next : Pen) (places : List ℕ) : Type 0 where
  pub drawn : IsDrawn columns next places
  pub above : IsAbove columns next reference
  pub onward : from_of old < from_of next
