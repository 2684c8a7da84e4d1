-- A gap whose bits are looked at one after the other, as they come.
use Rattle.std.specs.Prelude.{◌≡◌, ◌+◌, ◌==◌, ℕ, suc, Bool, true, false, not, ◌&&◌, [], ◌∷◌, ◌++◌, length, nat_le, if◌then◌else◌}
use Rattle.fax_bits.specs.declared.settings.DecodeSettings.{DecodeSettings}
use Rattle.fax_bits.specs.declared.settings.EncodingMode.{EncodingMode}
use Rattle.fax_bits.specs.Bits.{Bits}
use Rattle.fax_reading.specs.Context.{Held}
use Rattle.fax_reading.specs.PlainReading.{limit_met}
use Rattle.fax_rows.specs.GapsCounted.{ends_at_two, has_tags}
use Rattle.fax_feeds.specs.declared.gap_look.GapLook.{GapLook}
use Rattle.fax_feeds.specs.declared.gap_look.GapRules.{GapRules}
use Rattle.fax_feeds.specs.declared.gap_look.GapStage.{GapStage}
use Rattle.fax_feeds.specs.declared.gap_look.GapStage.TheVariants.{Start, Damage, AfterEol, AfterTag, Settled}

-- ---- Where nothing was looked at

abbrev pub nothing_seen : GapLook
nothing_seen = record { stage = Start; zeros = 0; bits = 0 }

-- ---- On what it depends: not part of the trusted specification

-- after a row: an EOL that is missing is sought in a lenient reading (T.4, 4.1.2)
abbrev pub rules_after_row : DecodeSettings → ℕ → Bool → GapRules
rules_after_row settings taken has_eols = record {
  has_tags = has_tags settings.encoding;
  ends_at_two = ends_at_two settings.encoding settings.end_of_block;
  seeks = has_eols && not (limit_met settings taken) && not settings.strict;
}

-- before the first line: EOLs have no tags there (T.4, 4.1.2)
abbrev pub first_rules : EncodingMode → Bool → GapRules
first_rules encoding end_of_block =
    record { has_tags = false; ends_at_two = ends_at_two encoding end_of_block; seeks = false }

-- once what is before the first line was passed, or before
abbrev pub rules_for : Bool → Held → GapRules
rules_for true held = rules_after_row held.settings held.taken held.has_eols
rules_for false held = first_rules held.settings.encoding held.settings.end_of_block

-- ---- What is found: not part of the trusted specification

-- an EOL more is after the first one: two may be the end
abbrev pub one_eol_more : Bool → GapStage
one_eol_more true = Settled
one_eol_more false = AfterEol

-- after a one before which so many zeros were seen: they are an EOL, or a tag, or neither
abbrev pub stage_after : GapRules → GapStage → ℕ → GapStage
stage_after rules Start seen =
    if nat_le 11 seen then AfterEol else (if rules.seeks then Damage else Settled)
stage_after rules Damage seen = if nat_le 11 seen then AfterEol else Damage
stage_after rules AfterEol seen =
    if nat_le 11 seen then one_eol_more rules.ends_at_two else (if (seen == 0) && rules.has_tags then AfterTag else Settled)
stage_after rules AfterTag seen = if nat_le 11 seen then one_eol_more rules.ends_at_two else Settled
stage_after rules Settled seen = Settled

-- after some bits, before which so many seen were
abbrev pub stage_following : GapRules → GapStage → ℕ → Bits → GapStage
stage_following rules stage seen [] = stage
stage_following rules stage seen (false ∷ here) = stage_following rules stage (suc seen) here
stage_following rules stage seen (true ∷ here) = stage_following rules (stage_after rules stage seen) 0 here

-- the zeros at their end
abbrev pub zeros_after : ℕ → Bits → ℕ
zeros_after seen [] = seen
zeros_after seen (false ∷ here) = zeros_after (suc seen) here
zeros_after seen (true ∷ here) = zeros_after 0 here

abbrev pub is_settled : GapStage → Bool
is_settled Start = false
is_settled Damage = false
is_settled AfterEol = false
is_settled AfterTag = false
is_settled Settled = true

-- how many of some bits are looked at: up to the one with which nothing that follows changes the gap, or all
abbrev pub bits_needed : GapRules → GapStage → ℕ → Bits → ℕ
bits_needed rules stage seen [] = 0
bits_needed rules stage seen (false ∷ here) = if is_settled stage then 0 else suc (bits_needed rules stage (suc seen) here)
bits_needed rules stage seen (true ∷ here) =
    if is_settled stage then 0 else suc (bits_needed rules (stage_after rules stage seen) 0 here)

-- ---- How far it was looked at: not part of the trusted specification

-- the first of some bits were looked at, up to the rest
pub record LooksTo (rules : GapRules) (old new : GapLook) (here rest : Bits) : Type 0 where
  pub looked : Bits
  pub are : here ≡ looked ++ rest
  pub stage : new.stage ≡ stage_following rules old.stage old.zeros looked
  pub zeros : new.zeros ≡ zeros_after old.zeros looked
  pub bits : new.bits ≡ old.bits + length looked
  -- none was looked at beyond those needed
  pub needed : (others : Bits) → bits_needed rules old.stage old.zeros (looked ++ others)
      ≡ length looked + bits_needed rules new.stage new.zeros others

abbrev pub LooksOn : GapRules → GapLook → GapLook → Bits → Type 0
LooksOn rules old new here = (rest : Bits) × LooksTo rules old new here rest

-- the gap that begins some bits was looked at so far
abbrev pub IsSeen : GapRules → GapLook → Bits → Type 0
IsSeen rules look here = LooksOn rules nothing_seen look here

-- each bit that was looked at is a tick
abbrev pub CountsLooks : GapLook → GapLook → ℕ → ℕ → Type 0
CountsLooks old new before after = after + old.bits ≡ before + new.bits
