-- What decoding leaves: in the sink, in the context, and of the reading.
use Rattle.std.specs.Prelude.{sum_by, ◌≡◌, ◌≢◌, ◌≤◌, ◌<◌, ℕ, ◌+◌, ◌-◌, ◌*◌, Bool, true, false, not, ◌&&◌, if◌then◌else◌, List, []}
use Rattle.std.specs.Prelude.{max, length, take, get_or, Option, Some, None, ◌==◌, Result, Ok, Err, OnOk, OnErr, IfOk, IfErr}
use Rattle.fax_bits.specs.declared.codes.Color.TheVariants.{White}
use Rattle.fax_bits.specs.declared.error.DecodeError.{DecodeError}
use Rattle.fax_bits.specs.declared.error.DecodeError.TheVariants.{OutOfMemory, Refused}
use Rattle.fax_reading.specs.Answers.{IsFault, OnAnswer, DrawsLine, HasBlack, PaintsBlack, front_of, is_broken, meaning_after}
use Rattle.fax_bits.specs.Bits.{Bits, BitsAt, here}
use Rattle.fax_reading.specs.Context.{Context, Held, Repairs, redrawn, with_cut, with_missed}
use Rattle.fax_reading.specs.Damage.{Damaged, repairs_by_line, cuts_by_line, misses_by_line}
use Rattle.fax_bits.specs.declared.settings.DecodeSettings.{DecodeSettings}
use Rattle.fax_bits.specs.declared.settings.EncodingMode.{EncodingMode}
use Rattle.fax_reading.specs.Lines.{Line, line_found}
use Rattle.fax_reading.specs.PlainReading.{Gap, end_of, lines_of}
use Rattle.fax_reading.specs.PlainReading.{Progress, row_before, failed_at}
use Rattle.fax_reading.specs.PlainReading.{misses_eol, line_by}
use Rattle.fax_reading.specs.Rows.{Row, changes}
use Rattle.fax_reading.specs.Space.{most_stored, room_for}
use Rattle.fax_reading.specs.Work.{CountsRun, words_of, most_counted}

-- auxiliary: what a sink means, whether it has refused a row, and which rows it refuses
pub record SinkState (M : Type 0) : Type 1 where
  pub meaning : M
  pub refused : Bool
  pub refuses : List ℕ → Type 0

-- ---- Whole data (auxiliary): the terms of the contracts of `decode` and of its drivers

-- Which rows were accepted and what was returned, for a reading with these rows, this end and this state of its EOLs: the
-- first of its rows were accepted, each as its changes, and all of them unless an allocation failed or a row was refused.
pub record TakesRows {M A : Type 0} (rows : List Row) (outcome : Result A DecodeError) (sought : Bool) (step : M → List ℕ → M)
    (before after : SinkState M) (held : Held) (answer : Result A DecodeError) : Type 0 where
  pub taken : held.taken ≤ length rows
  pub meaning : after.meaning ≡ meaning_after step before.meaning (take held.taken rows)
  pub all : OnAnswer answer (held.taken ≡ length rows)
  pub ok : IfOk answer (λ a. outcome ≡ Ok a)
  pub fault : IfErr answer (λ e. IsFault e → outcome ≡ Err e)
  pub has_eols : OnAnswer answer (held.has_eols ≡ sought)

-- When fewer were accepted: an allocation fails only in a line that paints a black pixel, a row is refused only where
-- there is one, and only then does the sink say that it has refused.
pub record StopsShort {M A : Type 0} (rows : List Row) (lines : List Line) (before after : SinkState M) (held : Held)
    (answer : Result A DecodeError) : Type 0 where
  pub memory : answer ≡ Err OutOfMemory → PaintsBlack lines held.taken
  pub refused : answer ≡ Err Refused → held.taken < length rows
  pub refused_row : answer ≡ Err Refused → after.refuses (changes (get_or rows held.taken []))
  pub flag : answer ≡ Err Refused → after.refused ≡ true
  pub no_flag : answer ≢ Err Refused → after.refused ≡ before.refused

-- How much damage was counted after this number of rows, if the lines of a reading yield this damage: that of the accepted rows,
-- and all of it unless an allocation failed or a row was refused (T.4, 4.1.2).
pub record CountsDamage {A : Type 0} (by_line : List (List Damaged)) (taken counted : ℕ)
    (answer : Result A DecodeError) : Type 0 where
  pub of_taken : counted ≡ sum_by length (take taken by_line)
  pub all : OnAnswer answer (counted ≡ sum_by length by_line)

-- ---- All rows of some bits: the contract of the drivers

-- What a run over the rows of some bits leaves, read by the settings: the accepted rows, why there are fewer if there are, how
-- many were repaired, in how many a run was cut, how many EOLs were missed, and at most this much work (T.4, 4.1 and 4.2; T.6,
-- 2.2 and 2.4.1).
pub record DecodesRows {M : Type 0} (bits : Bits) (step : M → List ℕ → M) (before after : SinkState M) (old new : Context)
    (answer : Result Bits DecodeError) : Type 0 where
  pub settings : new.held.settings ≡ old.held.settings
  pub reading : TakesRows (end_of old.held.settings bits).rows (end_of old.held.settings bits).outcome
      (end_of old.held.settings bits).has_eols step before after new.held answer
  pub short : StopsShort (end_of old.held.settings bits).rows (lines_of old.held.settings bits) before after new.held answer
  pub repaired : CountsDamage (repairs_by_line old.held.settings bits) new.held.taken new.held.repairs.rows answer
  pub cut : CountsDamage (cuts_by_line old.held.settings bits) new.held.taken new.held.repairs.cut answer
  pub missed : CountsDamage (misses_by_line old.held.settings bits) new.held.taken new.held.repairs.missed answer
  pub work : CountsRun (words_of old.held.settings bits) new.held.taken old.ticks new.ticks
      (most_counted old.held.settings.encoding (length bits))

-- a run over the rows of some bits that took this number of rows and left these bits failed where the reading does (T.4, 4.1.2)
abbrev pub FailsHere : DecodeSettings → Bits → ℕ → Bits → Type 0
FailsHere settings bits taken rest = length bits - length rest ≡ failed_at settings bits taken

-- ---- One turn: what calls that read a line or pass a gap leave (auxiliary)

-- a call that returns no value, and leaves these bits
abbrev pub leaving : Result (Unit {0}) DecodeError → Bits → Result Bits DecodeError
leaving (Ok x) rest = Ok rest
leaving (Err e) rest = Err e

-- what a call says of a gap: that the reading is over, or that a line is here; and whether EOLs are sought
abbrev pub gap_said : Result Bool DecodeError → Bool → Bits → Gap
gap_said (Ok over) has_eols rest = elim over [ true ↦ Gap.over (Ok rest) | false ↦ Gap.line_at has_eols rest ]
gap_said (Err e) has_eols rest = Gap.over (Err e)

-- What a call leaves that reads the line here, in data of this encoding: what was drawn of the line, and of the context only
-- another front and colour, and whether a run was cut. Its work is at least a tick for each word that the line finds, unless an
-- allocation failed, and at most four for each, one for each change of the reference row, and this many more. Its lists have no
-- more room than they had, or than the changes stored account for (T.4, 4.1 and 4.2; T.6, 2.2).
pub record ReadsLine (encoding : EncodingMode) (more : ℕ) (old new : Context) (answer : Result (Unit {0}) DecodeError)
    (before after : BitsAt) : Type 0 where
  pub drawn : DrawsLine (line_by encoding old.held.settings.strict old.held.settings.columns old.held.reference (here before))
      answer new.held.front (here after)
  pub cut : OnOk answer (new.cut ≡ is_broken (line_by encoding true old.held.settings.columns old.held.reference (here before)))
  pub held : new.held ≡ redrawn old.held new.held.front new.held.color
  pub same_bits : after.bits ≡ before.bits
  pub counts : old.ticks ≤ new.ticks
  pub at_least : OnAnswer answer (old.ticks + length
      (line_found encoding old.held.settings.strict old.held.settings.columns old.held.reference (here before)) ≤ new.ticks)
  pub at_most : new.ticks ≤ old.ticks + 4 * length
      (line_found encoding old.held.settings.strict old.held.settings.columns old.held.reference (here before)) + more
      + length (changes old.held.reference)
  pub space : new.space ≤ max old.space (room_for (most_stored old.held.reference
      (line_by encoding old.held.settings.strict old.held.settings.columns old.held.reference (here before))))

-- the context after one more row
abbrev pub with_row_taken : Held → Row → Held
with_row_taken h row =
    record {
      reference = row;
      front = [];
      color = White;
      taken = h.taken + 1;
      repairs = h.repairs;
      has_eols = h.has_eols;
      fault_start = h.fault_start;
      settings = h.settings;
    }

-- what is counted with a row after this number of rows, given whether a run of it was cut
abbrev pub cuts_with : Bool → ℕ → Repairs → Repairs
cuts_with cut taken before = if cut then with_cut taken before else before

-- What is counted of this number of accepted rows, with the row of one more line, given as a strict reading has it too: a broken
-- line was repaired, and a run of one that only the strict reading breaks was cut (T.4, 4.1.1 and 4.1.2).
abbrev pub repairs_with : Line → Line → ℕ → Repairs → Repairs
repairs_with (Line.whole row rest) strict taken before = cuts_with (is_broken strict) taken before
repairs_with (Line.broken front fault) strict taken before =
    record before { rows = before.rows + 1; fault = fault; last = taken + 1 }

-- what is counted after the gap after the accepted rows, which begins here: a missed EOL, in lenient data (T.4, 4.1.2)
abbrev pub repairs_after : Held → Bits → Repairs
repairs_after held here =
    if misses_eol held.settings held.taken held.has_eols here && not held.settings.strict then with_missed held.taken held.repairs
    else held.repairs

-- the fault of the last row, if it was repaired: if more rows are repaired now than before it
abbrev pub damage_since : Repairs → ℕ → Option DecodeError
damage_since repairs before = if repairs.rows == before then None else Some repairs.fault

-- whether a run of the last row was cut: if runs are cut in more rows now than before it
abbrev pub cut_since : Repairs → ℕ → Bool
cut_since repairs before = not (repairs.cut == before)

-- the offset of a gap if its EOL was missed: if more EOLs were missed after it than before
abbrev pub missed_since : Repairs → ℕ → ℕ → Option ℕ
missed_since repairs before place = if repairs.missed == before then None else Some place

-- the context between two rows of the reading, with this number of repaired rows
abbrev pub context_at : DecodeSettings → Progress → Repairs → Held
context_at settings so_far repairs = record {
  reference = row_before settings.columns so_far.rows;
  front = [];
  color = White;
  taken = length so_far.rows;
  repairs = repairs;
  has_eols = so_far.has_eols;
  fault_start = None;
  settings = settings;
}

-- the row of a line was read, which a strict reading has like this, and these bits follow it
pub record RowIsTaken (line strict : Line) (row : Result (Row × Bits) DecodeError) (old new : Held) (rest : Bits) : Type 0 where
  pub taken : Row
  pub is : row ≡ Ok (taken, rest)
  pub held : new ≡ record (with_row_taken old taken) { repairs = repairs_with line strict old.taken old.repairs }

-- What a call leaves that reads a line, where the line yields this row.
pub record TakesOneRow (line strict : Line) (row : Result (Row × Bits) DecodeError) (old new : Held)
    (answer : Result (Unit {0}) DecodeError) (rest : Bits) : Type 0 where
  pub taken : OnOk answer (RowIsTaken line strict row old new rest)
  pub fault : IfErr answer (λ e. IsFault e → row ≡ Err e)
  pub held : OnErr answer (new ≡ redrawn old new.front new.color)
  pub memory : answer ≡ Err OutOfMemory → HasBlack (front_of line)
  pub not_refused : answer ≢ Err Refused
