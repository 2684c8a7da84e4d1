-- A gap waits exactly while its bits are counted: until then data that follows can change it.
use Rattle.fax_rows.proofs.Names.{◌≡◌, ◌∙◌, ap, sym, true, false, Bool, Bits, DecodeSettings, EncodingMode, refl, arith}
use Rattle.fax_rows.proofs.Names.{Group3_1D, Group3_2D, Group4, ◌||◌}
use Rattle.std.proofs.Common.{◌++◌, ◌∷◌, ◌<◌, [], Some, leb, replicate, zero, suc, ℕ}
use Rattle.std.proofs.lemmas.Bool.{false≢true}
use Rattle.fax_bits.specs.Ones.{holds_one}
use Rattle.fax_reading.proofs.GapsContinued.ContinuedEols.{after_first_tag, following_one, last_tag_tested}
use Rattle.fax_reading.specs.GapsContinued.{eols_are_settled, eols_here_are_settled, gap_is_settled}
use Rattle.fax_rows.proofs.Readings.GapsCounted.{Lawful, stands}
use Rattle.fax_rows.proofs.Readings.GapsEnded.{found_at_end}
use Rattle.fax_rows.specs.declared.gap_count.GapCount.{GapCount}
use Rattle.fax_rows.specs.GapsCounted.{behind_tag, counted_by, eols_of_count, left_before, none_counted}

-- zeros alone hold no one
zeros_hold_none : (n : ℕ) → holds_one (replicate n false ++ []) ≡ false
zeros_hold_none zero = refl
zeros_hold_none (suc n) = zeros_hold_none n

zeros_follow : (n : ℕ) → following_one (replicate n false ++ []) ≡ replicate n false ++ []
zeros_follow zero = refl
zeros_follow (suc n) = refl

untagged_open : (tags : Bool) (tag : Bool) (n : ℕ) → (tag ≡ true → tags ≡ true) → tags ≡ false
    → holds_one (behind_tag tag (replicate n false ++ [])) ≡ false
untagged_open tags true n lawful none = absurd (false≢true (sym none ∙ lawful refl))
untagged_open tags false n lawful none = zeros_hold_none n

-- after the tag nothing but zeros is left
tagged_open : (eols : ℕ) (tag : Bool) (n : ℕ) → (tag ≡ true → 0 < eols)
    → holds_one (after_first_tag (eols, behind_tag tag (replicate n false ++ []))) ≡ false
tagged_open zero true n lawful = absurd (omega (arith, lawful refl))
tagged_open zero false n lawful = zeros_hold_none n
tagged_open (suc eols) true n lawful = zeros_hold_none n
tagged_open (suc eols) false n lawful = ap holds_one (zeros_follow n) ∙ zeros_hold_none n

few_open : (n : ℕ) → n < 2 → leb 2 n ≡ false
few_open zero few = refl
few_open (suc zero) few = refl
few_open (suc (suc n)) few = absurd (omega (arith, few))

-- the EOLs that were counted aren't settled
open_by : (encoding : EncodingMode) (block : Bool) (count : GapCount) → Lawful encoding block count
    → eols_are_settled encoding block (eols_of_count encoding count []) ≡ false
open_by Group3_1D block count lawful = untagged_open false count.tag count.zeros (λ t. (lawful.tag t).0) refl
open_by Group3_2D block count lawful =
    ap holds_one (last_tag_tested (count.eols, left_before count []))
    ∙ tagged_open count.eols count.tag count.zeros (λ t. (lawful.tag t).1)
open_by Group4 false count lawful = untagged_open false count.tag count.zeros (λ t. (lawful.tag t).0) refl
open_by Group4 true count lawful =
    ap (λ (b : Bool). b || holds_one (left_before count [])) (few_open count.eols (lawful.few refl))
    ∙ untagged_open false count.tag count.zeros (λ t. (lawful.tag t).0) refl

-- so those are that all bits were counted of
pub counted_eols_are_open : (settings : DecodeSettings) (gone : Bits) (count : GapCount)
    → counted_by settings none_counted gone ≡ Some count → eols_here_are_settled settings gone ≡ false
counted_eols_are_open settings gone count is =
    ap (eols_are_settled settings.encoding settings.end_of_block) (found_at_end settings gone count is)
    ∙ open_by settings.encoding settings.end_of_block count (stands settings 0 false gone [] count is).1

-- Data that follows can change a gap whose bits were all counted.
pub counted_is_open : (settings : DecodeSettings) (taken : ℕ) (sought : Bool) (gone : Bits) (count : GapCount)
    → counted_by settings none_counted gone ≡ Some count → gap_is_settled settings taken sought gone ≡ false
counted_is_open settings taken sought gone count is =
    let open_here = counted_eols_are_open settings gone count is in rw (open_here, gap_is_settled) refl

-- ---- A one that is counted no longer ends it

one_after_zeros : (n : ℕ) (rest : Bits) → holds_one (replicate n false ++ true ∷ rest) ≡ true
one_after_zeros zero rest = refl
one_after_zeros (suc n) rest = one_after_zeros n rest
