-- A gap that is passed and a row that is read in data of which more may come.
use Rattle.std.specs.Prelude.{◌≡◌, ◌≢◌, ◌≤◌, ◌+◌, ◌*◌, ℕ, Bool, true, false, [], ◌++◌, length, max, not, ◌⊎◌, ◌&&◌}
use Rattle.std.specs.Prelude.{◌||◌, ◌==◌, Result, Ok, Err}
use Rattle.std.specs.Prelude.{OnErr, OnOk, IfErr, IfOk}
use Rattle.fax_bits.specs.declared.codes.Color.TheVariants.{White}
use Rattle.fax_bits.specs.declared.error.DecodeError.{DecodeError}
use Rattle.fax_bits.specs.declared.settings.DecodeSettings.{DecodeSettings}
use Rattle.fax_bits.specs.declared.error.DecodeError.TheVariants.{InvalidCode, OutOfMemory, Refused}
use Rattle.fax_reading.specs.Answers.{HasBlack, IsFault, front_of}
use Rattle.fax_bits.specs.Bits.{AreWholeBytes, Bits, BitsAt, here}
use Rattle.fax_reading.specs.Context.{Context, Repairs, redrawn}
use Rattle.fax_reading.specs.Continuations.{is_short}
use Rattle.fax_bits.specs.Faults.{misses_end, no_memory}
use Rattle.fax_reading.specs.GapsContinued.{first_gap_is_settled, gap_is_settled}
use Rattle.fax_rows.specs.declared.row_reader.RowState.{RowState}
use Rattle.fax_rows.specs.declared.row_reader.Stand.{Stand}
use Rattle.fax_reading.specs.Decoding.{TakesOneRow, cut_since, damage_since, gap_said, missed_since, repairs_after}
use Rattle.fax_rows.specs.RowsRead.{DamageIsCounted, IsPaid, ReaderStands, line_after, stand_after, start_after}
use Rattle.fax_reading.specs.PlainReading.{gap_after_row, line_here, row_of_line}
use Rattle.fax_reading.specs.Rows.{changes}
use Rattle.fax_reading.specs.Space.{most_stored, room_for}
use Rattle.fax_bits.specs.Ticks.{looked, looked_ahead, tag_tests}
use Rattle.fax_reading.specs.Work.{found_here}

-- What a call that reads the line that begins some bits leaves, with these bits after it: its row, its work and its room
-- (T.4, 4.1 and 4.2; T.6, 2.2).
pub record ReadsRow (old new : Context) (answer : Result (Unit {0}) DecodeError) (start rest : Bits) : Type 0 where
  pub row : TakesOneRow (line_here old.held.settings old.held.reference start)
      (line_here (record old.held.settings { strict = true }) old.held.reference start)
      (row_of_line old.held.settings old.held.has_eols start (line_here old.held.settings old.held.reference start))
      old.held new.held answer rest
  pub counts : old.ticks ≤ new.ticks
  pub at_least : OnOk answer (old.ticks + length (found_here old.held.settings old.held.reference start) ≤ new.ticks)
  pub at_most : new.ticks ≤ old.ticks + 4 * length (found_here old.held.settings old.held.reference start) + 2
      + length (changes old.held.reference)
  pub stored : OnOk answer (length (changes new.held.reference)
      ≤ length (found_here old.held.settings old.held.reference start) + 1)
  pub width : OnOk answer (length new.held.reference ≡ old.held.settings.columns)
  -- after an error the next bit is the first one of the line
  pub put_back : OnErr answer (rest ≡ start)
  pub space : new.space ≤ max old.space (room_for (most_stored old.held.reference
      (line_here old.held.settings old.held.reference start)))

-- What a call that passes the gap that begins some bits leaves, with these bits after it: whether the image ends there, the
-- EOLs that were missed, and its work (T.4, 4.1.2 and 4.1.4; T.6, 2.4.1.1).
pub record PassesGap (old new : Context) (answer : Result Bool DecodeError) (start rest : Bits) : Type 0 where
  pub gap : gap_after_row old.held.settings old.held.taken old.held.has_eols start ≡ gap_said answer new.held.has_eols rest
  pub held : new.held ≡ record old.held { has_eols = new.held.has_eols; repairs = new.held.repairs }
  pub missed : new.held.repairs ≡ repairs_after old.held start
  pub given_up : IfOk answer (λ over. over ≡ true → new.held.has_eols ≡ old.held.has_eols)
  pub only_code : IfErr answer (λ e. e ≡ InvalidCode)
  pub unchanged : OnErr answer (new.held ≡ old.held)
  -- after an error the next bit is the first one of the gap
  pub put_back : OnErr answer (rest ≡ start)
  pub counts : old.ticks ≤ new.ticks
  pub work : OnOk answer (new.held.has_eols ≡ old.held.has_eols
      → new.ticks + 4 * length rest ≤ old.ticks + 4 * length start
      + tag_tests old.held.settings.encoding + looked_ahead old.held.settings.encoding rest)
  pub work_given_up : OnOk answer (new.held.has_eols ≢ old.held.has_eols → new.ticks ≤ old.ticks + 2 * length start)
  pub work_refused : OnErr answer (new.ticks ≤ old.ticks + looked start)

-- What a call leaves that finds no EOL where strict data must have one: nothing is passed, and each bit that was looked at is a
-- tick (T.4, 4.1.2).
pub record LacksEol (old new : Context) (start rest : Bits) : Type 0 where
  pub strict : old.held.settings.strict ≡ true
  pub put_back : rest ≡ start
  pub ticks : new.ticks ≡ old.ticks + looked start

-- these bits may follow: whole bytes, and none if the data is finished
pub record CanCome (is_last : Bool) (more : Bits) : Type 0 where
  pub bytes : AreWholeBytes more
  pub none : is_last ≡ true → more ≡ []

-- the data ended within a line that was drawn with this result
abbrev pub falls_short : Result (Unit {0}) DecodeError → Bool
falls_short (Ok x) = false
falls_short (Err error) = misses_end error

-- more data is needed for a line that was drawn with this result
abbrev pub needs_more : Bool → Result (Unit {0}) DecodeError → Bool
needs_more is_last answer = not is_last && falls_short answer

-- a change of the row couldn't be stored
abbrev pub lacks_memory : Result (Unit {0}) DecodeError → Bool
lacks_memory (Ok x) = false
lacks_memory (Err error) = no_memory error

-- a line wasn't read: more data is needed, or there is no memory
abbrev pub IsUnread : Result Bool DecodeError → Type 0
IsUnread (Ok read) = read ≡ false
IsUnread (Err error) = error ≡ OutOfMemory

-- What a call that tries to read the line here leaves: whatever bits follow, its row or its fault; or the line is left, and
-- what the context holds is as at its start, since the line is short and more data may come, or since a change can't be stored
-- (T.4, 4.1 and 4.2; T.6, 2.2).
pub record TriesRow (is_last : Bool) (old new : Context) (answer : Result Bool DecodeError)
    (before after : BitsAt) : Type 0 where
  pub read : answer ≡ Ok true → (more : Bits) → CanCome is_last more
      → ReadsRow old new (Ok tt) (here before ++ more) (here after ++ more)
  pub failed : IfErr answer (λ e. IsFault e → (more : Bits) → CanCome is_last more
      → ReadsRow old new (Err e) (here before ++ more) (here after ++ more))
  pub left : IsUnread answer → new.held ≡ redrawn old.held [] White
  pub short : answer ≡ Ok false
      → (is_last ≡ false) × (is_short (line_here old.held.settings old.held.reference (here before)) ≡ true)
  pub memory : answer ≡ Err OutOfMemory → HasBlack (front_of (line_here old.held.settings old.held.reference (here before)))
  pub not_refused : answer ≢ Err Refused
  pub counts : old.ticks ≤ new.ticks
  pub at_most : new.ticks ≤ old.ticks + 4 * length (found_here old.held.settings old.held.reference (here before)) + 2
      + length (changes old.held.reference)
  pub space : new.space ≤ max old.space (room_for (most_stored old.held.reference
      (line_here old.held.settings old.held.reference (here before))))

-- ---- What is kept between two rows

-- after a gap that begins at this offset
abbrev pub rows_after_gap : RowState → Result Bool DecodeError → ℕ → Context → Context → RowState
rows_after_gap rows over place old new = record {
  started_at = start_after over place rows.started_at;
  damage = rows.damage;
  cut = rows.cut;
  missed = missed_since new.held.repairs old.held.repairs.missed place;
  stand = stand_after over;
}

-- after a line that begins at this offset, before which so many rows were damaged, and so many had a cut run: its row, or its
-- fault
abbrev pub rows_after_line : RowState → Result (Unit {0}) DecodeError → ℕ → ℕ → ℕ → Repairs → RowState
rows_after_line rows (Ok x) place damaged cut repairs = record {
  started_at = place;
  damage = damage_since repairs damaged;
  cut = cut_since repairs cut;
  missed = rows.missed;
  stand = Stand.AfterRow;
}
rows_after_line rows (Err error) place damaged cut repairs = record {
  started_at = place;
  damage = rows.damage;
  cut = rows.cut;
  missed = rows.missed;
  stand = Stand.AtFault error;
}

-- What a call leaves that passes the gap here, which begins at this offset of the data: what is kept after it, and whatever
-- bits follow, if they change nothing of the gap, that it is passed (T.4, 4.1.2 and 4.1.4; T.6, 2.4.1.1).
pub record PassesGapHere (gap_start : ℕ) (rows kept : RowState) (old new : Context) (before after : BitsAt)
    (answer : Result Bool DecodeError) : Type 0 where
  pub over : Result Bool DecodeError
  pub said : answer ≡ line_after over
  pub kept_is : kept ≡ rows_after_gap rows over gap_start old new
  pub passes : (more : Bits)
      → (more ≡ []) ⊎ (gap_is_settled old.held.settings old.held.taken old.held.has_eols (here before) ≡ true)
      → PassesGap old new over (here before ++ more) (here after ++ more)
  pub begun : before.place ≤ length before.bits
  pub within : after.place ≤ length after.bits
  pub same_bits : after.bits ≡ before.bits
  pub put_back : OnErr over (here after ≡ here before)
  pub space : new.space ≡ old.space

-- no data that follows these bits changes what is before the first line: without columns there is no line, or the gap there is
-- settled (T.4, 4.1.2; T.6, 2.4.1.1)
abbrev pub front_is_settled : DecodeSettings → Bits → Bool
front_is_settled settings bits = (settings.columns == 0) || first_gap_is_settled settings.encoding settings bits

-- What a call leaves that passes what is before the first line of the data, where these are all bits of it (T.4, 4.1.2; T.6,
-- 2.4.1.1).
pub record StandsAlone (stand : Stand) (old new : Context) (bits : Bits) (place : ℕ) : Type 0 where
  pub damage : DamageIsCounted stand old.held.settings bits new.held
  pub stands : ReaderStands stand old.held.settings bits new.held place
  pub paid : (from : ℕ) → old.ticks ≡ from → IsPaid from stand old.held.settings bits new.held place new.ticks

-- what it changes: no row was taken, and the settings, the bits and the room are as they were
pub record TakesNone (old new : Context) (before after : BitsAt) : Type 0 where
  pub none_taken : new.held.taken ≡ 0
  pub settings : new.held.settings ≡ old.held.settings
  pub same_bits : after.bits ≡ before.bits
  pub space : new.space ≡ old.space

-- What a call leaves that passes what is before the first line of the data, where these are its bits: where the reading stands,
-- whatever bits follow, if they change nothing of it (T.4, 4.1.2; T.6, 2.4.1.1).
pub record StandsFirst (stand : Stand) (old new : Context) (before after : BitsAt) : Type 0 where
  pub stands : (more : Bits)
      → (more ≡ []) ⊎ (front_is_settled old.held.settings before.bits ≡ true)
      → ReaderStands stand old.held.settings (before.bits ++ more) new.held after.place
  pub damage : (more : Bits) → DamageIsCounted stand old.held.settings (before.bits ++ more) new.held
  pub paid : (more : Bits)
      → (more ≡ []) ⊎ (front_is_settled old.held.settings before.bits ≡ true)
      → IsPaid old.ticks stand old.held.settings (before.bits ++ more) new.held after.place new.ticks
  pub within : after.place ≤ length after.bits
  pub row : new.held.reference ≡ old.held.reference
  pub counts : old.ticks ≤ new.ticks
