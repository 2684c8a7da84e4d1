-- Why a check ends early.
use Rattle.std.specs.Prelude.{◌≡◌, ◌≢◌, ◌⊎◌, ◌≤◌, ◌<◌, ◌+◌, ◌++◌, ℕ, ℤ, ◌<ℤ◌, Bool, true, false, List, [], ◌∷◌, length, drop}
use Rattle.std.specs.Prelude.{Result, Ok, Err, IfErr, OnOk}
use Rattle.hayro_ccitt.specs.Bits.{Bits}
use Rattle.hayro_ccitt.specs.CodeLists.{mode_codes}
use Rattle.hayro_ccitt.specs.CodeReading.{read_code}
use Rattle.hayro_ccitt.specs.Color.{Color}
use Rattle.hayro_ccitt.specs.DecodeSettings.{DecodeSettings}
use Rattle.hayro_ccitt.specs.EncodingMode.TheVariants.{Group4}
use Rattle.hayro_ccitt.specs.Encodings.{padding, EncodesRows, EncodesRowsWithEols}
use Rattle.hayro_ccitt.specs.Mode.{Mode}
use Rattle.hayro_ccitt.specs.Mode.TheVariants.{Pass, Vertical}
use Rattle.hayro_ccitt.specs.Pictures.{Allows}
use Rattle.hayro_ccitt.specs.Rows.{Row, HaveWidth, AreChanges, pixels, white_row}
use Rattle.hayro_ccitt.specs.Runs.{read_run}
use Rattle.fax_conforms.specs.Conforming.{EolStands, EolLineStands, FilledStands}
use Rattle.fax_conforms.specs.Standing.{Leads, Never, Passes, IsOnly}
use Rattle.fax_conforms.specs.declared.lines.Pen.{Pen}
use Rattle.fax_conforms.specs.declared.stops.Rule.{Rule}
use Rattle.fax_conforms.specs.declared.stops.Rule.TheVariants as rule
use Rattle.fax_conforms.specs.declared.stops.Violation as at
use Rattle.fax_conforms.specs.declared.stops.Stop.{Stop}
use Rattle.fax_conforms.specs.declared.stops.Stop.TheVariants.{Violation, OutOfMemory}

-- it ends where a rule is broken, and not because an allocation failed
abbrev pub IsBroken : Stop → Type 0
IsBroken (Violation at) = Unit {0}
IsBroken OutOfMemory = ⊥

-- the same of a result
abbrev pub IsViolated : {T : Type 0} → Result T Stop → Type 0
IsViolated (Ok x) = ⊥
IsViolated (Err stop) = IsBroken stop

-- ---- What a rule says of the bits from a place on

-- the words of a run of a colour are here (T.4, 4.1.1)
abbrev pub RunIsHere : Color → ℕ → Bits → Type 0
RunIsHere color run here = (rest : Bits) × (read_run color here ≡ Ok (run, rest))

-- the word of a mode is here (T.4 table 4, T.6 table 1)
abbrev pub ModeIsHere : Mode → Bits → Type 0
ModeIsHere mode here = (rest : Bits) × (read_code mode_codes here ≡ Ok (mode, rest))

-- A run is here that is longer than the one that is right in its place, or a vertical mode that is farther to the right than each
-- that is (T.4, 4.1.1 and 4.2.1.3).
abbrev pub IsTooFar : Bits → Bits → Type 0
IsTooFar here right =
    ((color : Color) × (run other : ℕ) × RunIsHere color run here × RunIsHere color other right × (other < run))
    ⊎ ((k : ℤ) × ModeIsHere (Vertical k) here × ((other : ℤ) → ModeIsHere (Vertical other) right → other <ℤ k))

-- A run of no pixels is here where one of some is right, or a vertical mode that is farther to the left than each that is right
-- (T.4, 4.1.1 and 4.2.1.3).
abbrev pub IsTooNear : Bits → Bits → Type 0
IsTooNear here right =
    ((color : Color) × (other : ℕ) × RunIsHere color 0 here × RunIsHere color other right × (0 < other))
    ⊎ ((k : ℤ) × ModeIsHere (Vertical k) here × ((other : ℤ) → ModeIsHere (Vertical other) right → k <ℤ other))

-- How the bits from a place on break a rule, where others would be right (T.4, 4.1.1 to 4.1.3 and 4.2.1.3): there is no word of
-- the kind that the others begin with, or one that can't be in its place. `Columns` is of the settings, and of no place; the
-- procedure's rules are broken by no word.
abbrev pub Breaks : Rule → ℕ → Bits → Bits → Type 0
Breaks rule.Mode place here right = ((mode : Mode) → ModeIsHere mode here → ⊥) × (mode : Mode) × ModeIsHere mode right
Breaks rule.Run place here right =
    (color : Color) × ((run : ℕ) → RunIsHere color run here → ⊥) × (run : ℕ) × RunIsHere color run right
Breaks rule.RowEnd place here right = IsTooFar here right
Breaks rule.NoPixels place here right = IsTooNear here right
Breaks rule.Columns place here right = ⊥
Breaks rule.Eol place here right = ((rest : Bits) → EolStands here rest → ⊥) × (rest : Bits) × EolStands right rest
Breaks rule.Tag place here right = (here ≡ []) × (right ≢ [])
Breaks rule.Padding place here right =
    ((rest : Bits) → here ≡ padding place ++ rest → ⊥) × (rest : Bits) × (right ≡ padding place ++ rest)
Breaks rule.PassToEnd place here right = ModeIsHere Pass here × (ModeIsHere Pass right → ⊥)
Breaks rule.Procedure place here right = ⊥
Breaks rule.Kind place here right = ⊥
Breaks rule.Fill place here right = ⊥
Breaks rule.End place here right = ⊥

-- ---- Where what stands somewhere departs from what is right

-- From some bits of the data on, those up to the place of a violation begin lines of this width, and each line that they begin
-- goes
-- on with other bits than are there, which break the rule.
pub record Departs (columns : ℕ) (lines : Bits → Row → Bits → Type 0) (bits here : Bits) (found : at.Violation) : Type 0 where
  pub within : found.place ≤ length bits
  pub passed : Bits
  pub is : here ≡ passed ++ drop found.place bits
  pub begins : (row : Row) × (more : Bits) × (length row ≡ columns) × lines (passed ++ more) row []
  pub otherwise : (row : Row) (more rest : Bits) → length row ≡ columns → lines (passed ++ more) row rest
      → Breaks found.rule found.place (drop found.place bits) more

-- what ends early does so at such a violation, or because an allocation failed
abbrev pub EndsAt : ℕ → (Bits → Row → Bits → Type 0) → Bits → Bits → Stop → Type 0
EndsAt columns lines bits here (Violation found) = Departs columns lines bits here found
EndsAt columns lines bits here OutOfMemory = Unit {0}

-- ---- auxiliary: a run that a line can't have

-- the run that a pen expects isn't here, or is beyond the row's end, or has no pixels
abbrev pub IsWrongRun : ℕ → Pen → Rule → Bits → Type 0
IsWrongRun columns pen rule.Run here = (run : ℕ) → RunIsHere pen.color run here → ⊥
IsWrongRun columns pen rule.RowEnd here = (run : ℕ) × RunIsHere pen.color run here × (columns < pen.painted + run)
IsWrongRun columns pen rule.NoPixels here = RunIsHere pen.color 0 here × (pen.begun ≡ true) × (pen.painted < columns)
IsWrongRun columns pen rule.Mode here = ⊥
IsWrongRun columns pen rule.Columns here = ⊥
IsWrongRun columns pen rule.Eol here = ⊥
IsWrongRun columns pen rule.Tag here = ⊥
IsWrongRun columns pen rule.Padding here = ⊥
IsWrongRun columns pen rule.PassToEnd here = ⊥
IsWrongRun columns pen rule.Procedure here = ⊥
IsWrongRun columns pen rule.Kind here = ⊥
IsWrongRun columns pen rule.Fill here = ⊥
IsWrongRun columns pen rule.End here = ⊥

-- such a run is at the place of a violation
pub record HasWrongRun (columns : ℕ) (pen : Pen) (bits here : Bits) (found : at.Violation) : Type 0 where
  pub within : found.place ≤ length bits
  pub is : here ≡ drop found.place bits
  pub wrong : IsWrongRun columns pen found.rule here

abbrev pub RunEndsAt : ℕ → Pen → Bits → Bits → Stop → Type 0
RunEndsAt columns pen bits here (Violation found) = HasWrongRun columns pen bits here found
RunEndsAt columns pen bits here OutOfMemory = Unit {0}

-- ---- A line that is read

-- Of the rows and the bits after them for which a line stands (T.4, 4.1 and 4.2; T.6, 2.2), there are only the row of these
-- changes and these bits, whatever the bits after it are. If it ends early, and not because an allocation failed, there are none,
-- and a rule is broken there.
pub record ReadsLine (columns : ℕ) (lines : Bits → Row → Bits → Type 0) (changes : List ℕ) (here rest whole : Bits)
    (answer : Result (Unit {0}) Stop) : Type 0 where
  pub row : OnOk answer (Leads columns (lines here) (IsOnly (pixels columns changes) rest))
  pub passes : OnOk answer (Passes columns lines (IsOnly (pixels columns changes)) here rest)
  pub lawful : OnOk answer (AreChanges columns changes)
  pub none : IfErr answer (λ e. IsBroken e → Never columns (lines here))
  pub at : IfErr answer (EndsAt columns lines whole here)

-- ---- A violation of a picture

-- the last of some rows, or the one before them
abbrev pub last_row : Row → List Row → Row
last_row reference [] = reference
last_row reference (row ∷ rows) = last_row row rows

-- Lines have EOLs in Group 3 if the settings ask for them, or if the data begins with one (T.4, 4.1.2).
abbrev pub HaveEols : DecodeSettings → Bits → Bool → Type 0
HaveEols settings whole true =
    (settings.encoding ≢ Group4) × ((settings.end_of_line ≡ true) ⊎ ((rest : Bits) × EolStands whole rest))
HaveEols settings whole false =
    (settings.encoding ≡ Group4) ⊎ ((settings.end_of_line ≡ false) × ((rest : Bits) → EolStands whole rest → ⊥))

-- the lines of the rows of a picture, with EOLs or filled up to whole bytes where lines are aligned (T.4, 4.1 and 4.2; T.6, 2.2)
abbrev pub EncodesLines : DecodeSettings → Bool → List Row → Bits → Type 0
EncodesLines settings true rows bits = EncodesRowsWithEols settings.encoding (white_row settings.columns) rows bits
EncodesLines settings false rows bits =
    EncodesRows settings.encoding settings.rows_are_byte_aligned (white_row settings.columns) rows bits

-- a further line stands here, with its EOL or what fills it
abbrev pub LineOfPicture : DecodeSettings → Bool → Row → Bits → Row → Bits → Type 0
LineOfPicture settings true reference here row rest = EolLineStands settings reference row here rest
LineOfPicture settings false reference here row rest = FilledStands settings reference row here rest

-- From here on the lines of some rows are before a violation, and a further row is allowed: the bits up to the place begin its
-- line, and each line that begins with them goes on otherwise.
pub record DepartsInLine (settings : DecodeSettings) (has_eols : Bool) (bits here : Bits) (found : at.Violation) : Type 0 where
  pub rows : List Row
  pub lines : Bits
  pub next : Bits
  pub widths : HaveWidth settings.columns rows
  pub encodes : EncodesLines settings has_eols rows lines
  pub is : here ≡ lines ++ next
  pub allows : Allows settings (length rows + 1)
  pub departs : Departs settings.columns
      (LineOfPicture settings has_eols (last_row (white_row settings.columns) rows)) bits next found

-- what ends early does so at such a violation, or because an allocation failed
abbrev pub EndsInLine : DecodeSettings → Bool → Bits → Bits → Stop → Type 0
EndsInLine settings has_eols bits here (Violation found) = DepartsInLine settings has_eols bits here found
EndsInLine settings has_eols bits here OutOfMemory = Unit {0}

-- The data departs from the pictures that its settings allow at the place of a violation. There are no columns (0 and `Columns`);
-- or the bits before it are the lines of some rows and the beginning of another line, one row more is allowed, and each line that
-- begins so goes on with other bits than the data, which break the rule (T.4, 4.1 and 4.2; T.6, 2).
abbrev pub IsViolationOf : DecodeSettings → Bits → at.Violation → Type 0
IsViolationOf settings whole found = ((settings.columns ≡ 0) × (found.place ≡ 0) × (found.rule ≡ rule.Columns))
    ⊎ ((0 < settings.columns) × (has_eols : Bool) × HaveEols settings whole has_eols
    × DepartsInLine settings has_eols whole whole found)

-- what ends early does so at such a violation, or because an allocation failed
abbrev pub EndsInPicture : DecodeSettings → Bits → Stop → Type 0
EndsInPicture settings whole (Violation found) = IsViolationOf settings whole found
EndsInPicture settings whole OutOfMemory = Unit {0}
