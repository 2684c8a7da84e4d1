-- Lists of rows in the caller's memory, from what the sink leaves.
use Rattle.std.proofs.Common.{◌≡◌, ℕ, suc, ◌+◌, ◌-◌, ◌≤◌, ◌<◌, List, [], ◌∷◌, ◌++◌, length, take, drop, set, refl, sym, ap}
use Rattle.std.proofs.Common.{◌∙◌, arith, append_assoc}
use Rattle.std.proofs.lemmas.List.{append-nil, length-append, drop-drop, length-set, take_more_set, drop-set-lt}
use Rattle.std.proofs.lemmas.Slice.{take-put_mid, drop-put_mid}
use borrow.Rule.Slice.PartMut.{put_mid}
use Rattle.hayro_ccitt.specs.Answers.{meaning_after}
use Rattle.hayro_ccitt.specs.Rows.{Row, AscendFrom, changes}
use Rattle.c_rows.specs.Listing.{Listing, with_listed, listed, listed_row}
use Rattle.c_rows.proofs.Reporting.{counts}

-- ---- one row
-- there are no more changes than positions
pub few_changes : (from width : ℕ) (places : List ℕ) → from ≤ width → AscendFrom from width places → from + length places ≤ width
few_changes from width [] le ascend = omega arith
few_changes from width (place ∷ places) le ascend =
    let after = ascend.0 in
    let within = ascend.1 in
    let rest = few_changes (suc place) width places (omega arith) ascend.2 in
    omega arith

-- the same in each part is the same
pub same_listing : (end end' : ℕ) (numbers numbers' rest rest' : List ℕ) (count count' name : ℕ)
    → end ≡ end' → numbers ≡ numbers' → rest ≡ rest' → count ≡ count'
    → ◌≡◌ {A = Listing} (record { end = end; numbers = numbers; rest = rest; changes = count; name = name })
    (record { end = end'; numbers = numbers'; rest = rest'; changes = count'; name = name })
same_listing end end' numbers numbers' rest rest' count count' name e f g h = cc

-- a row is written after the earlier ones
pub listed_more : (end : ℕ) (row lists part : List ℕ) → end ≤ length lists → length row < length lists - end → part ≡ row
    → (take (end + 1 + length row) (put_mid (end + 1) (end + 1 + length row - (end + 1)) (set lists end (length row)) part)
    ≡ take end lists ++ listed_row row) × (drop (end + 1 + length row) (put_mid (end + 1) (end + 1 + length row - (end + 1))
    (set lists end (length row)) part) ≡ drop (length (listed_row row)) (drop end lists))
listed_more end row lists part within room is =
    let count : ℕ = end + 1 + length row - (end + 1) in
    let now : List ℕ = set lists end (length row) in
    let same : length part ≡ length row = ap length is in
    let inside : end < length lists = omega arith in
    let begun : end + 1 ≤ length now = omega (arith, length-set lists end (length row)) in
    let after : end + 1 + length row ≡ (end + 1) + length part = omega arith in
    let reach : (end + 1) + count ≤ end + 1 + length row = omega arith in
    let whole : length part ≡ count = omega arith in
    let more : end + 1 + length row ≡ end + length (listed_row row) = omega arith in
    let before : end < end + 1 + length row = omega arith in (
      take-put_mid (end + 1) count now part (end + 1 + length row) after begun ∙ ap (λ (l : List ℕ). l ++ part)
          (take_more_set lists end (length row) inside) ∙ ap (λ (l : List ℕ). (take end lists ++ length row ∷ []) ++ l) is
          ∙ append_assoc (take end lists) (length row ∷ []) row,
      drop-put_mid (end + 1) count now part (end + 1 + length row) reach begun whole ∙ drop-set-lt (end + 1 + length row) lists
          end (length row) before ∙ ap (λ (n : ℕ). drop n lists) more ∙ sym (drop-drop (length (listed_row row)) end lists),
    )

-- ---- all rows
-- rows were listed after others
pub record HasListed (rows : List Row) (before after : Listing) : Type 0 where
  pub end : after.end ≡ before.end + length (listed rows)
  pub numbers : after.numbers ≡ before.numbers ++ listed rows
  pub rest : after.rest ≡ drop (length (listed rows)) before.rest
  pub changes : after.changes ≡ meaning_after counts before.changes rows
  pub name : after.name ≡ before.name

-- what the sink means after rows
pub rows_listed : (before : Listing) (rows : List Row) → HasListed rows before (meaning_after with_listed before rows)
rows_listed before [] =
    record { end = omega arith; numbers = sym (append-nil before.numbers); rest = refl; changes = refl; name = refl }
rows_listed before (row ∷ rows) =
    let next : Listing = with_listed before (changes row) in
    let others : HasListed rows next (meaning_after with_listed next rows) = rows_listed next rows in
    let one : List ℕ = listed_row (changes row) in
    let more : length (listed (row ∷ rows)) ≡ length one + length (listed rows) = length-append one (listed rows) in
    record {
      end = omega (arith, others.end);
      numbers = others.numbers ∙ append_assoc before.numbers one (listed rows);
      rest =
          others.rest ∙ drop-drop (length (listed rows)) (length one) before.rest ∙ ap (λ (n : ℕ). drop n before.rest) (sym more);
      changes = others.changes;
      name = others.name;
    }
