-- What is before the first line, whose bits are counted as they come.
use Rattle.std.specs.Prelude.{◌≡◌, ◌≤◌, ◌+◌, ℕ, Bool, true, false, not, [], ◌++◌, drop, length, Ok, Some}
use Rattle.fax_bits.specs.Bits.{Bits, BitsAt, here}
use Rattle.fax_bits.specs.declared.settings.DecodeSettings.{DecodeSettings}
use Rattle.fax_bits.specs.declared.settings.EncodingMode.{EncodingMode}
use Rattle.fax_bits.specs.declared.settings.EncodingMode.TheVariants.{Group4, Group3_1D, Group3_2D}
use Rattle.fax_reading.specs.Context.{Context}
use Rattle.fax_rows.specs.declared.gap_count.GapCount.{GapCount}
use Rattle.fax_rows.specs.declared.gap_count.GapStep.{GapStep}
use Rattle.fax_rows.specs.GapsCounted.{IsTidy, LiesAt, counted_by, none_counted}
use Rattle.fax_rows.specs.RowsRead.{stand_after}
use Rattle.fax_rows.specs.RowsTried.{StandsFirst, front_is_settled}

-- EOLs before the first line have no tags (T.4, 4.1.2)
abbrev pub front_encoding : EncodingMode → EncodingMode
front_encoding Group4 = Group4
front_encoding Group3_1D = Group3_1D
front_encoding Group3_2D = Group3_1D

abbrev pub front_rules : DecodeSettings → DecodeSettings
front_rules settings = record settings { encoding = front_encoding settings.encoding }

-- ---- A step there: not part of the trusted specification

-- The bits of some data up to this offset are before the first line, and this was counted of them.
pub record CountsFront (settings : DecodeSettings) (whole : Bits) (at : ℕ) (count : GapCount) : Type 0 where
  pub gone : Bits
  pub are : whole ≡ gone ++ drop at whole
  pub place : at ≡ length gone
  pub is : counted_by (front_rules settings) none_counted gone ≡ Some count

-- The reading waits there: few of the bits here weren't counted, and data that follows those can change what is before the first
-- line (T.4, 4.1.2; T.6, 2.4.1.1).
pub record WaitsAtFront (settings : DecodeSettings) (whole : Bits) (at : ℕ) (count : GapCount) (after : Bits) : Type 0 where
  pub stands : CountsFront settings whole at count
  pub unsettled : front_is_settled settings (stands.gone ++ after) ≡ false
  pub tidy : IsTidy count
  pub few : length after ≤ 16

-- The data ends with zeros that were counted: sixteen of them or more.
pub record FrontEndsWithZeros (settings : DecodeSettings) (whole : Bits) (at : ℕ) (count : GapCount) (after : Bits) : Type 0 where
  pub stands : CountsFront settings whole at count
  pub enough : 16 ≤ count.zeros
  pub none_left : after ≡ []

-- What is before the first line was passed, to this offset, and a line follows or not.
abbrev pub PassesFront : Context → Context → Bits → ℕ → Bool → Type 0
PassesFront old new whole next line =
    StandsFirst (stand_after (Ok (not line))) (record old { ticks = new.ticks }) new (record { bits = whole; place = 0 })
    (record { bits = whole; place = next })

-- what became of it, where the bits here are known from this offset on
abbrev pub FrontLeaves : GapStep → Context → Context → Bits → ℕ → GapCount → BitsAt → Type 0
FrontLeaves GapStep.Waits old new whole at count after = WaitsAtFront old.held.settings whole at count (here after)
FrontLeaves GapStep.Zeros old new whole at count after = FrontEndsWithZeros old.held.settings whole at count (here after)
FrontLeaves GapStep.Missed old new whole at count after = ⊥
FrontLeaves (GapStep.Passed line) old new whole at count after = PassesFront old new whole at line

-- only what was passed changes what the context holds, and no EOL is missing before the first line
abbrev pub StaysUnless : GapStep → Context → Context → Type 0
StaysUnless GapStep.Waits old new = new.held ≡ old.held
StaysUnless GapStep.Zeros old new = new.held ≡ old.held
StaysUnless GapStep.Missed old new = ⊥
StaysUnless (GapStep.Passed line) old new = Unit {0}

-- whatever the data is
abbrev pub StepsAtFront : Bool → Context → Context → GapCount → GapCount → BitsAt → BitsAt → GapStep → Type 0
StepsAtFront is_last old new count next before after step =
    (whole more : Bits) (dropped : ℕ) → LiesAt whole dropped before.bits more → (is_last ≡ true → more ≡ [])
    → CountsFront old.held.settings whole (dropped + before.place) count
    → FrontLeaves step old new whole (dropped + after.place) next after

-- no row is taken
pub record TakesNoRow (old new : Context) : Type 0 where
  pub taken : new.held.taken ≡ old.held.taken
  pub settings : new.held.settings ≡ old.held.settings
  pub space : new.space ≡ old.space
  pub counts : old.ticks ≤ new.ticks
