-- Rows over a picture.
use Rattle.std.proofs.Common.{◌≡◌, ℕ, suc, ◌+◌, ◌<◌, ◌≤◌, ◌≢◌, ◌⊎◌, List, [], length, take}
use Rattle.std.proofs.Common.{get_or, set, sym, ap, ◌∙◌, arith, inl, inr}
use Rattle.std.proofs.Common.{length-take}
use Rattle.std.proofs.lemmas.List.{length-set}
use Rattle.std.proofs.lemmas.Bool.{cases_eq}
use Rattle.std.proofs.lemmas.List.{get_or-take, get_or-set_same, get_or-set_other}
use Rattle.fax_reading.specs.Rows.{Row}
use Rattle.fax_pictures.specs.Pictures.{laid_over, with_row_at, LieOver, Picture}
use Rattle.fax_pictures.proofs.LaidLists.{with_row_at-set}

-- and one row more
pub one_more_lies : (left top index k : ℕ) (part : List Row) (row : Row) (old now new : Picture) → index ≡ top + k
    → k < length part → row ≡ get_or part k [] → index < length old.rows → LieOver left top (take k part) old now
    → new ≡ record now { rows = with_row_at index (laid_over left row (get_or now.rows index [])) now.rows }
    → LieOver left top (take (suc k) part) old new
one_more_lies left top index k part row old now new at within is here before step =
    let count : length (take k part) ≡ k = omega (arith, length-take k part, within) in
    let more : length (take (suc k) part) ≡ suc k = omega (arith, length-take (suc k) part, within) in
    let inside : index < length now.rows = omega (arith, here, before.size.1) in
    let laid : Row = laid_over left row (get_or now.rows index []) in
    let rows : new.rows ≡ set now.rows index laid =
    ap (λ (p : Picture). p.rows) step ∙ with_row_at-set index laid now.rows inside in
    let columns : new.columns ≡ now.columns = ap (λ (p : Picture). p.columns) step in
    let as_before : get_or now.rows index [] ≡ get_or old.rows index [] = before.others index (inr (omega (arith, at, count))) in
    record {
      size = (columns ∙ before.size.0, omega (arith, ap length rows, length-set now.rows index laid, before.size.1));
      over = λ j h low. elim (cases_eq j k) [
        | inl same ↦
            let there : top + j ≡ index = omega (arith, same, at) in
            ap (λ (r : List Row). get_or r (top + j) []) rows ∙ ap (λ (y : ℕ). get_or (set now.rows index laid) y []) there
            ∙ get_or-set_same now.rows index laid [] inside
            ∙ ap (laid_over left row) as_before
            ∙ ap (λ (r : Row). laid_over left r (get_or old.rows index []))
            (is ∙ sym (get_or-take (suc k) part k [] (omega arith)))
            ∙ ap (λ (i : ℕ). laid_over left (get_or (take (suc k) part) i []) (get_or old.rows index [])) (sym same)
            ∙ ap (λ (y : ℕ). laid_over left (get_or (take (suc k) part) j []) (get_or old.rows y [])) (sym there)
        | inr other ↦
            let lt : j < k = omega (arith, h, more, other) in
            let apart : top + j ≢ index = λ e. absurd (omega (arith, e, at, lt)) in
            ap (λ (r : List Row). get_or r (top + j) []) rows
            ∙ get_or-set_other now.rows index (top + j) laid [] apart
            ∙ before.over j (omega (arith, lt, count)) low
            ∙ ap (λ (r : Row). laid_over left r (get_or old.rows (top + j) []))
            (get_or-take k part j [] lt ∙ sym (get_or-take (suc k) part j [] (omega (arith, lt))))
      ];
      others = λ y h.
          let apart : y ≢ index = λ e. elim h [
            | inl above ↦ absurd (omega (arith, e, at, above))
            | inr below ↦ absurd (omega (arith, e, at, below, more))
          ] in
          let still : (y < top) ⊎ (top + length (take k part) ≤ y) = elim h [
            | inl above ↦ inl above
            | inr below ↦ inr (omega (arith, below, more, count))
          ] in
          ap (λ (r : List Row). get_or r y []) rows ∙ get_or-set_other now.rows index y laid [] apart ∙ before.others y still;
    }

-- all rows that reach it
pub all_lie : (left top k : ℕ) (part : List Row) (old new : Picture) → (length part ≤ k) ⊎ (length old.rows ≤ top + k)
    → LieOver left top (take k part) old new → LieOver left top part old new
all_lie left top k part old new end laid = record {
  size = laid.size;
  over = λ j h low.
      let lt : j < k = elim end [
        | inl none ↦ omega (arith, none, h)
        | inr past ↦ omega (arith, past, low)
      ] in
      laid.over j (omega (arith, lt, h, length-take k part)) low
      ∙ ap (λ (r : Row). laid_over left r (get_or old.rows (top + j) [])) (get_or-take k part j [] lt);
  others = λ y h. laid.others y (elim h [
    | inl above ↦ inl above
    | inr below ↦ inr (omega (arith, below, length-take k part))
  ]);
}
