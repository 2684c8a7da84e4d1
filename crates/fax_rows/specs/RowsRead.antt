-- Rows one at a time: what a reader of rows has read, and what a call leaves that reads the next row.
use Rattle.std.specs.Prelude.{sum_by, slice_get, take, ◌≡◌, ◌≢◌, ◌≤◌, ◌<◌, ◌+◌, ◌-◌, ◌*◌, ◌/◌, ℕ, Bool}
use Rattle.std.specs.Prelude.{true, false, not, drop, [], length, get_or, Option, None, Some, Result, Ok, Err, OnErr, IfOk}
use Rattle.std.specs.Prelude.{IfErr, min, suc}
use Rattle.fax_bits.specs.declared.error.DecodeError.{DecodeError}
use Rattle.fax_bits.specs.declared.error.DecodeError.TheVariants.{OutOfMemory, Refused}
use Rattle.fax_rows.specs.declared.row_reader.RowReader.TheInside.{Inside}
use Rattle.fax_rows.specs.declared.row_reader.RowState.{RowState}
use Rattle.fax_rows.specs.declared.row_reader.Stand.{Stand}
use Rattle.fax_rows.specs.declared.row_reader.Stand.TheVariants.{AtLine, AfterRow, AtEnd, AtFault}
use Rattle.fax_bits.specs.declared.settings.DecodeSettings.{DecodeSettings}
use Rattle.fax_reading.specs.Answers.{IsFault, PaintsBlack}
use Rattle.fax_bits.specs.Bits.{Bits, BitsAt}
use Rattle.fax_reading.specs.Context.{Context, Held, Repairs}
use Rattle.fax_reading.specs.Damage.{fault_in, cut_in, missed_before, repairs_by_line, cuts_by_line, misses_by_line}
use Rattle.fax_reading.specs.Decoding.{context_at, repairs_with}
use Rattle.fax_reading.specs.Lines.{Line}
use Rattle.fax_reading.specs.PlainReading.{Progress, with_row, first_gap, move_on, row_of_line, line_here}
use Rattle.fax_reading.specs.PlainReading.{end_of, line_of_turn, plain, lines_of, line_starts, row_ends, failed_at}
use Rattle.fax_bits.specs.Repetition.{Turn, Reaches}
use Rattle.fax_reading.specs.Rows.{Row, changes}
use Rattle.fax_reading.specs.Space.{most_room}
use Rattle.fax_reading.specs.Work.{IsPaidUpTo, found_here, most_counted, words_of}

-- ---- What is visible of a reader of rows

-- how a reading has ended, if it has: well, or with an error
abbrev pub ended : Stand → Option (Result (Unit {0}) DecodeError)
ended AtLine = None
ended AfterRow = None
ended AtEnd = Some (Ok tt)
ended (AtFault error) = Some (Err error)

-- whether a line is here, and no gap before it
abbrev pub is_at_line : Stand → Bool
is_at_line AtLine = true
is_at_line AfterRow = false
is_at_line AtEnd = false
is_at_line (AtFault error) = false

-- what is read and with which settings, the number of rows read, the last one, the offset of its line, its fault if it was
-- repaired and whether a run of it was cut, the offset at which the last gap lacked an EOL, how the reading has ended, whether
-- there is a line here, the offset of the next bit, the work of all calls, and for how many changes each of the two lists has
-- room at most
pub record RowsRead : Type 0 where
  pub settings : DecodeSettings
  pub bits : Bits
  pub taken : ℕ
  pub row : Row
  pub line_start : ℕ
  pub damage : Option DecodeError
  pub cut : Bool
  pub missed : Option ℕ
  pub end : Option (Result (Unit {0}) DecodeError)
  pub at_line : Bool
  pub place : ℕ
  pub ticks : ℕ
  pub space : ℕ

-- what a reading keeps between two rows, and the bits from here on
abbrev pub seen : RowState → Context → BitsAt → RowsRead
seen rows ctx reader = record {
  settings = ctx.held.settings;
  bits = reader.bits;
  taken = ctx.held.taken;
  row = ctx.held.reference;
  line_start = rows.started_at;
  damage = rows.damage;
  cut = rows.cut;
  missed = rows.missed;
  end = ended rows.stand;
  at_line = is_at_line rows.stand;
  place = reader.place;
  ticks = ctx.ticks;
  space = ctx.space;
}

abbrev pub rows_read_of : Inside → RowsRead
rows_read_of r = seen r.rows r.ctx r.reader

-- whether a line follows a gap that was passed, given whether the reading is over
abbrev pub line_after : Result Bool DecodeError → Result Bool DecodeError
line_after (Ok over) = Ok (not over)
line_after (Err error) = Err error

-- whether there was a row, where a line was read
abbrev pub row_came : Result (Unit {0}) DecodeError → Result Bool DecodeError
row_came (Ok x) = Ok true
row_came (Err error) = Err error

-- the state of a reading that passed a gap, given the result of the gap
abbrev pub stand_after : Result Bool DecodeError → Stand
stand_after (Ok true) = AtEnd
stand_after (Ok false) = AtLine
stand_after (Err error) = AtFault error

-- where the line of the last row begins, or after a faulty gap, the offset of that gap
abbrev pub start_after : Result Bool DecodeError → ℕ → ℕ → ℕ
start_after (Ok over) place before = before
start_after (Err error) place before = place

-- the number of rows whose gap was passed: that after the last row is passed with the next call, unless the reading has ended
abbrev pub gaps_before : Option (Result (Unit {0}) DecodeError) → Bool → ℕ → ℕ
gaps_before (Some end) at_line taken = taken
gaps_before None true taken = taken
gaps_before None false taken = taken - 1

abbrev pub gaps_passed : RowsRead → ℕ
gaps_passed rows = gaps_before rows.end rows.at_line rows.taken

-- ---- The contract

-- The reading has ended well: all rows were read, and the bytes up to here are the byte count of the plain reading.
pub record HasEnded (settings : DecodeSettings) (bits : Bits) (taken place : ℕ) : Type 0 where
  pub all : taken ≡ length (plain settings bits).rows
  pub count : (plain settings bits).outcome ≡ Ok ((place + 7) / 8)

-- It has ended with an error: the fault of the plain reading, after all of its rows; or an allocation failure in a line that
-- paints a black pixel. The next bit is the first one of the line that couldn't be read; or, where strict data lacks an EOL, the
-- first one after the last row (T.4, 4.1.2).
pub record HasFailed (settings : DecodeSettings) (bits : Bits) (taken place : ℕ) (error : DecodeError) : Type 0 where
  pub all : IsFault error → taken ≡ length (plain settings bits).rows
  pub fault : IsFault error → (plain settings bits).outcome ≡ Err error
  pub memory : error ≡ OutOfMemory → PaintsBlack (lines_of settings bits) taken
  pub not_refused : error ≢ Refused
  pub fails_at : place ≡ failed_at settings bits taken

-- What a call that reads the next row leaves: the row of the plain reading with this index, or the end.
pub record ReadsNext (old new : RowsRead) (result : Result Bool DecodeError) : Type 0 where
  pub settings : new.settings ≡ old.settings
  pub bits : new.bits ≡ old.bits
  -- its work is added to that of the calls before
  pub counts : old.ticks ≤ new.ticks
  -- a row was read
  pub more : result ≡ Ok true → (new.end ≡ None) × (new.taken ≡ old.taken + 1)
      × (new.taken ≤ length (plain old.settings old.bits).rows)
  pub row : result ≡ Ok true → new.row ≡ get_or (plain old.settings old.bits).rows old.taken []
  pub line_start : result ≡ Ok true → new.line_start ≡ get_or (line_starts old.settings old.bits) old.taken 0
  -- the next bit is the first one after the row (T.4, 4.1.2 and 4.1.3)
  pub place : result ≡ Ok true → new.place ≡ get_or (row_ends old.settings old.bits) old.taken 0
  -- its line was whole, or it was repaired after this fault (T.4, 4.1.2)
  pub damage : result ≡ Ok true → new.damage ≡ fault_in (get_or (repairs_by_line old.settings old.bits) old.taken [])
  -- whether a run of it was cut at the row's end (T.4, 4.1.1 and 4.2.1.3)
  pub cut : result ≡ Ok true → new.cut ≡ cut_in (get_or (cuts_by_line old.settings old.bits) old.taken [])
  -- there was none
  pub end : result ≡ Ok false → (new.end ≡ Some (Ok tt)) × (new.taken ≡ old.taken)
      × HasEnded old.settings old.bits new.taken new.place
  pub error : IfErr result (λ e. (new.end ≡ Some (Err e)) × (new.taken ≡ old.taken)
      × HasFailed old.settings old.bits new.taken new.place e)
  -- the offset of the fault: the first bit of the line that couldn't be read, or where its EOL is missing (T.4, 4.1.2)
  pub fault_start : old.end ≡ None → OnErr result (new.line_start ≡ failed_at old.settings old.bits old.taken)
  -- where the EOL was missed in the gap after the last row, if it was (T.4, 4.1.2)
  pub missed : new.missed ≡ missed_before old.settings old.bits old.taken
  -- no row was read: the last row and its damage are unchanged, and at the end so is the offset of its line
  pub last : result ≢ Ok true → (new.row ≡ old.row) × (new.damage ≡ old.damage) × (new.cut ≡ old.cut)
  pub last_start : result ≡ Ok false → new.line_start ≡ old.line_start

-- What a call that passes the gap before the next line leaves: it reaches a line, or the end.
pub record ReachesNextLine (old new : RowsRead) (result : Result Bool DecodeError) : Type 0 where
  pub settings : new.settings ≡ old.settings
  pub bits : new.bits ≡ old.bits
  pub counts : old.ticks ≤ new.ticks
  pub taken : new.taken ≡ old.taken
  pub line : result ≡ Ok true → new.at_line ≡ true
  pub unended : result ≡ Ok true → new.end ≡ None
  pub end : result ≡ Ok false → (new.end ≡ Some (Ok tt)) × HasEnded old.settings old.bits new.taken new.place
  pub error : IfErr result (λ e. (new.end ≡ Some (Err e)) × HasFailed old.settings old.bits new.taken new.place e)
  pub fault_start : OnErr result (new.line_start ≡ failed_at old.settings old.bits old.taken)
  pub missed : new.missed ≡ missed_before old.settings old.bits old.taken
  -- the last row and its damage are unchanged, and so is the offset of its line if the gap has no fault
  pub last : (new.row ≡ old.row) × (new.damage ≡ old.damage) × (new.cut ≡ old.cut)
  pub last_start : IfOk result (λ line. new.line_start ≡ old.line_start)

-- what a call returns after the end
abbrev pub at_end_of_rows : Result (Unit {0}) DecodeError → Result Bool DecodeError
at_end_of_rows (Ok x) = Ok false
at_end_of_rows (Err error) = Err error

-- ---- What is so between two calls (auxiliary): a reading begins with it, and each call keeps it

-- the reading reaches a line here
pub record StandsAtLine (settings : DecodeSettings) (bits : Bits) (held : Held) (rest : Bits) : Type 0 where
  pub wide : 0 < settings.columns
  pub first : Progress
  pub so_far : Progress
  pub begins : first_gap settings.encoding settings bits ≡ Turn.next first
  pub room : length first.rest ≤ length bits
  pub reaches : Reaches (move_on settings) first so_far
  pub held_is : held ≡ context_at settings so_far held.repairs
  pub rest_is : rest ≡ so_far.rest

-- the reading reached a line, and its row was read
pub record StandsAfterRow (settings : DecodeSettings) (bits : Bits) (held : Held) (rest : Bits) : Type 0 where
  pub wide : 0 < settings.columns
  pub first : Progress
  pub so_far : Progress
  pub row : Row
  pub begins : first_gap settings.encoding settings bits ≡ Turn.next first
  pub room : length first.rest ≤ length bits
  pub reaches : Reaches (move_on settings) first so_far
  pub row_is : row_of_line settings so_far.has_eols so_far.rest (line_of_turn settings so_far) ≡ Ok (row, rest)
  pub held_is : held ≡ context_at settings (with_row so_far row rest) held.repairs

-- The reading of the bits of some data with columns is over, and this is what all of it is: its rows, how it ended, whether EOLs
-- were sought to the end, and its damage.
pub record IsWhole (settings : DecodeSettings) (bits : Bits) (held : Held) (outcome : Result Bits DecodeError) : Type 0 where
  pub rows : held.taken ≡ length (end_of settings bits).rows
  pub ends : (end_of settings bits).outcome ≡ outcome
  pub has_eols : held.has_eols ≡ (end_of settings bits).has_eols
  pub repaired : sum_by length (take held.taken (repairs_by_line settings bits)) ≡ sum_by length (repairs_by_line settings bits)
  pub cut : sum_by length (take held.taken (cuts_by_line settings bits)) ≡ sum_by length (cuts_by_line settings bits)
  pub missed : sum_by length (take held.taken (misses_by_line settings bits)) ≡ sum_by length (misses_by_line settings bits)

-- the state of a reader of rows
abbrev pub ReaderStands : Stand → DecodeSettings → Bits → Held → ℕ → Type 0
ReaderStands AtLine settings bits held place = StandsAtLine settings bits held (drop place bits)
ReaderStands AfterRow settings bits held place = StandsAfterRow settings bits held (drop place bits)
ReaderStands AtEnd settings bits held place =
    HasEnded settings bits held.taken place × (0 < settings.columns → IsWhole settings bits held (Ok (drop place bits)))
ReaderStands (AtFault error) settings bits held place =
    HasFailed settings bits held.taken place error
    × (0 < settings.columns → IsFault error → IsWhole settings bits held (Err error))

-- the EOLs missed in this number of gaps were counted, and the last repaired row is before one of them (T.4, 4.1.2)
pub record MissesAreCounted (settings : DecodeSettings) (bits : Bits) (repairs : Repairs) (gaps : ℕ) : Type 0 where
  pub few : repairs.missed ≤ gaps
  pub last : repairs.last ≤ gaps
  pub counted : repairs.missed ≡ sum_by length (take gaps (misses_by_line settings bits))

-- after a row they were counted up to its line
pub record MissesAfterRow (settings : DecodeSettings) (bits : Bits) (held : Held) : Type 0 where
  pub line : Line
  pub strict : Line
  pub before : Repairs
  pub line_is : slice_get (lines_of settings bits) (held.taken - 1) ≡ Some line
  pub repairs_are : held.repairs ≡ repairs_with line strict (held.taken - 1) before
  pub counted : MissesAreCounted settings bits before (held.taken - 1)

abbrev pub Misses : Stand → DecodeSettings → Bits → Held → Type 0
Misses AtLine settings bits held = MissesAreCounted settings bits held.repairs held.taken
Misses AfterRow settings bits held = MissesAfterRow settings bits held
Misses AtEnd settings bits held = MissesAreCounted settings bits held.repairs held.taken
Misses (AtFault error) settings bits held = MissesAreCounted settings bits held.repairs held.taken

-- the repaired rows among those read were counted, those in which a run was cut, and the EOLs that were missed (T.4, 4.1.1 and
-- 4.1.2)
pub record DamageIsCounted (stand : Stand) (settings : DecodeSettings) (bits : Bits) (held : Held) : Type 0 where
  pub few : held.repairs.rows ≤ held.taken
  pub counted : held.repairs.rows ≡ sum_by length (take held.taken (repairs_by_line settings bits))
  pub few_cut : held.repairs.cut ≤ held.taken
  pub cut : held.repairs.cut ≡ sum_by length (take held.taken (cuts_by_line settings bits))
  pub misses : Misses stand settings bits held

-- once a gap was passed, it is known where it lacked an EOL (T.4, 4.1.2)
abbrev pub MissIsReported : Stand → DecodeSettings → Bits → ℕ → Option ℕ → Type 0
MissIsReported AtLine settings bits taken missed = missed ≡ missed_before settings bits taken
MissIsReported AfterRow settings bits taken missed = Unit {0}
MissIsReported AtEnd settings bits taken missed = missed ≡ missed_before settings bits taken
MissIsReported (AtFault error) settings bits taken missed = missed ≡ missed_before settings bits taken

-- What was counted up to a line since a count is paid, from a first line before which this much was counted; where EOLs are
-- sought, what ceasing to seek them costs is left. The row before has no more changes than columns, and but one more than bits.
pub record PaidAtLine (from : ℕ) (settings : DecodeSettings) (bits : Bits) (held : Held) (rest : Bits) (ticks : ℕ) : Type 0 where
  pub begun : ℕ
  pub giving_up : ℕ
  pub enough : begun + (16 * length bits + 6 + giving_up) ≤ from + most_counted settings.encoding (length bits)
  pub sought : held.has_eols ≡ true → 8 * length bits + 8 ≤ giving_up
  pub within : length rest ≤ length bits
  pub paid : IsPaidUpTo begun (length bits) giving_up settings.encoding held.has_eols ticks (length (changes held.reference)) rest
  pub short : length (changes held.reference) ≤ suc (min settings.columns (length bits))

-- What was counted up to the line of the last row is paid, and that line counted as much as it may.
pub record PaidAfterRow (from : ℕ) (settings : DecodeSettings) (bits : Bits) (held : Held) (rest : Bits)
    (ticks : ℕ) : Type 0 where
  pub before : Held
  pub start : Bits
  pub ticks_before : ℕ
  pub at_line : PaidAtLine from settings bits before start ticks_before
  pub kept : held.has_eols ≡ before.has_eols
  pub row_is : row_of_line settings before.has_eols start (line_here settings before.reference start) ≡ Ok (held.reference, rest)
  pub line : ticks ≤ ticks_before + 4 * length (found_here settings before.reference start) + 2
      + length (changes before.reference)
  pub stored : length (changes held.reference) ≤ length (found_here settings before.reference start) + 1
  pub short : length (changes held.reference) ≤ suc (min settings.columns (length bits))

-- the account of a reader of rows
abbrev pub IsPaid : ℕ → Stand → DecodeSettings → Bits → Held → ℕ → ℕ → Type 0
IsPaid from AtLine settings bits held place ticks = PaidAtLine from settings bits held (drop place bits) ticks
IsPaid from AfterRow settings bits held place ticks = PaidAfterRow from settings bits held (drop place bits) ticks
IsPaid from AtEnd settings bits held place ticks = ticks ≤ from + most_counted settings.encoding (length bits)
IsPaid from (AtFault error) settings bits held place ticks = ticks ≤ from + most_counted settings.encoding (length bits)

-- the words of the lines of the rows that were read were counted since a count, and what was counted is paid
pub record WorkIsPaid (from : ℕ) (stand : Stand) (settings : DecodeSettings) (bits : Bits) (held : Held)
    (place ticks : ℕ) : Type 0 where
  pub words : from + sum_by length (take held.taken (words_of settings bits)) ≤ ticks
  pub paid : IsPaid from stand settings bits held place ticks

-- it is there by the plain reading of these bits, and its work is counted from here on
abbrev pub IsStanding : ℕ → RowState → Context → BitsAt → Type 0
IsStanding from rows ctx reader =
    ReaderStands rows.stand ctx.held.settings reader.bits ctx.held reader.place
    × DamageIsCounted rows.stand ctx.held.settings reader.bits ctx.held
    × WorkIsPaid from rows.stand ctx.held.settings reader.bits ctx.held reader.place ctx.ticks
    × MissIsReported rows.stand ctx.held.settings reader.bits ctx.held.taken rows.missed

-- at the first bit of a line
abbrev pub IsStandingAtLine : ℕ → RowState → Context → BitsAt → Type 0
IsStandingAtLine from rows ctx reader = (is_at_line rows.stand ≡ true) × (IsStanding from rows ctx reader)

-- and it has no more room than its bits account for
abbrev pub IsReading : Inside → Type 0
IsReading r = IsStanding 0 r.rows r.ctx r.reader × (r.ctx.space ≤ most_room r.ctx.held.settings r.reader.bits)
