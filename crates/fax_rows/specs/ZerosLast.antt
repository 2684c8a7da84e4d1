-- The zeros with which the data ends, of which only the number is kept: the gap before them, and the line that they begin: not
-- part of the trusted specification.
use Rattle.std.specs.Prelude.{◌≡◌, ◌≤◌, ◌&&◌, ℕ, Bool, true, false, [], ◌++◌, drop, length, nat_le, if◌then◌else◌, replicate}
use Rattle.std.specs.Prelude.{◌+◌, Result, Ok, Err}
use Rattle.fax_bits.specs.Bits.{Bits, BitsAt}
use Rattle.fax_bits.specs.declared.error.DecodeError.{DecodeError}
use Rattle.fax_bits.specs.declared.error.DecodeError.TheVariants.{InvalidCode}
use Rattle.fax_bits.specs.declared.settings.EncodingMode.{EncodingMode}
use Rattle.fax_reading.specs.Context.{Context}
use Rattle.fax_reading.specs.PlainReading.{eols_here}
use Rattle.fax_rows.specs.declared.gap_count.GapCount.{GapCount}
use Rattle.fax_rows.specs.declared.row_reader.RowState.{RowState}
use Rattle.fax_rows.specs.GapsCounted.{behind_tag, eols_of_count, has_tags, left_before}
use Rattle.fax_rows.specs.RowsRead.{IsStanding, ReachesNextLine, seen}

-- what a gap comes to in which an EOL is missing, and none comes later (T.4, 4.1.2)
abbrev pub given_up : Bool → Result Bool DecodeError
given_up true = Err InvalidCode
given_up false = Ok false

-- only whether EOLs are sought changes, and the repairs
pub record ChangesEols (old new : Context) : Type 0 where
  pub held : new.held ≡ record old.held { has_eols = new.held.has_eols; repairs = new.held.repairs }
  pub ticks : new.ticks ≡ old.ticks
  pub space : new.space ≡ old.space

-- a tag of one, or none, and so many zeros
abbrev pub zeros_at : Bool → ℕ → BitsAt
zeros_at tag zeros = record { bits = behind_tag tag (replicate zeros false ++ []); place = 0 }

-- what is left of what was counted after the EOLs of a gap were passed, and the tag of RTC with them (T.4, 4.2.4)
abbrev pub zeros_passed : EncodingMode → GapCount → GapCount
zeros_passed encoding count = if nat_le 6 count.eols && has_tags encoding then record count { tag = false } else count

-- The reading is after a row, at the gap with which the data ends: EOLs that were counted, a tag of one, or none, and zeros.
pub record EndsInZeros (from : ℕ) (rows : RowState) (ctx : Context) (whole : Bits) (start : ℕ) (count : GapCount) : Type 0 where
  pub within : start ≤ length whole
  pub stands : IsStanding from rows ctx (record { bits = whole; place = start })
  pub eols : eols_here ctx.held.settings (drop start whole) ≡ eols_of_count ctx.held.settings.encoding count []
  pub first : Bits
  pub are : drop start whole ≡ first ++ left_before count []
  pub alone : count.eols ≡ 0 → first ≡ []

-- It was passed, and what is left of what was counted are the bits that are next.
pub record PassesZeros (from : ℕ) (rows kept : RowState) (old new : Context) (whole : Bits) (start : ℕ) (left : GapCount)
    (answer : Result Bool DecodeError) : Type 0 where
  pub place : ℕ
  pub onward : start ≤ place
  pub within : place ≤ length whole
  pub here : drop place whole ≡ left_before left []
  pub stands : IsStanding from kept new (record { bits = whole; place = place })
  pub reaches : ReachesNextLine (seen rows old (record { bits = whole; place = start }))
      (seen kept new (record { bits = whole; place = place })) answer

-- A row is read at most, and the settings are the same, whatever the zeros are.
pub record CountsZeros (old new : Context) (answer : Result Bool DecodeError) : Type 0 where
  pub settings : new.held.settings ≡ old.held.settings
  pub taken : answer ≡ Ok true → new.held.taken ≡ old.held.taken + 1
  pub width : answer ≡ Ok true → length new.held.reference ≡ old.held.settings.columns
