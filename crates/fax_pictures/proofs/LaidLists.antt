-- Lists over others, and lists with another element.
use Rattle.std.proofs.Common.{◌≡◌, ℕ, zero, suc, ◌+◌, ◌-◌, ◌<◌, ◌≤◌, List, [], ◌∷◌, ◌++◌, length, take, drop, get_or}
use Rattle.std.proofs.Common.{set, refl, sym, ap, ◌∙◌, arith, inl, inr}
use Rattle.std.proofs.Common.{length-append, length-take, length-drop}
use Rattle.std.proofs.lemmas.Bool.{cases_lt}
use Rattle.std.proofs.lemmas.List.{get_or-drop, get_or-take, same_lists, get_or_append_left, get_or-append_right}
use Rattle.fax_reading.specs.Rows.{Row}
use Rattle.fax_pictures.specs.Pictures.{laid_over, with_row_at}

pub with_row_at-set : (k : ℕ) (row : Row) (rows : List Row) → k < length rows → with_row_at k row rows ≡ set rows k row
with_row_at-set zero row [] lt = absurd (omega arith)
with_row_at-set zero row (x ∷ rows) lt = refl
with_row_at-set (suc k) row [] lt = absurd (omega arith)
with_row_at-set (suc k) row (x ∷ rows) lt = ap (λ (l : List Row). x ∷ l) (with_row_at-set k row rows (omega arith))

module _ {A : Type 0} (left : ℕ) (part row : List A) where
  abbrev middle : List A
  middle = take (length row - left) part

  abbrev back : List A
  back = drop (left + length part) row

  pub length-laid_over : length (laid_over left part row) ≡ length row
  length-laid_over =
      omega (
        arith,
        length-append (take left row) (middle ++ back),
        length-append middle back,
        length-take left row,
        length-take (length row - left) part,
        length-drop (left + length part) row,
      )

  pub before_laid : (x : ℕ) (d : A) → x < length row → x < left → get_or (laid_over left part row) x d ≡ get_or row x d
  before_laid x d within lt =
      get_or_append_left (take left row) (middle ++ back) d x (omega (arith, length-take left row)) ∙ get_or-take left row x d lt

  -- from there on
  from_laid : (x : ℕ) (d : A) → x < length row → left ≤ x
      → get_or (laid_over left part row) x d ≡ get_or (middle ++ back) (x - left) d
  from_laid x d within le =
      get_or-append_right (take left row) (middle ++ back) left x d (omega (arith, length-take left row)) le

  pub in_laid : (x : ℕ) (d : A) → x < length row → left ≤ x → x < left + length part
      → get_or (laid_over left part row) x d ≡ get_or part (x - left) d
  in_laid x d within le lt =
      from_laid x d within le
      ∙ get_or_append_left middle back d (x - left) (omega (arith, length-take (length row - left) part))
      ∙ get_or-take (length row - left) part (x - left) d (omega arith)

  pub after_laid : (x : ℕ) (d : A) → x < length row → left + length part ≤ x
      → get_or (laid_over left part row) x d ≡ get_or row x d
  after_laid x d within le =
      let there : left + length part + (x - left - length part) ≡ x = omega arith in
      from_laid x d within (omega arith)
      ∙ get_or-append_right middle back (length part) (x - left) d (omega (arith, length-take (length row - left) part))
      (omega arith)
      ∙ get_or-drop (left + length part) row (x - left - length part) d ∙ ap (λ (n : ℕ). get_or row n d) there

-- the first elements
pub take-laid_over : {A : Type 0} (columns left : ℕ) (part row : List A) → columns ≤ length row
    → take columns (laid_over left part row) ≡ laid_over left part (take columns row)
take-laid_over {A} columns left part row le =
    let wide : length (take columns row) ≡ columns = omega (arith, length-take columns row) in
    same_lists (take columns (laid_over left part row)) (laid_over left part (take columns row))
    (omega (
      arith,
      length-take columns (laid_over left part row),
      length-laid_over left part row,
      length-laid_over left part (take columns row),
      wide,
    ))
    (λ k d h. let lt : k < columns = omega (arith, h, length-take columns (laid_over left part row)) in
    get_or-take columns (laid_over left part row) k d lt ∙ elim (cases_lt k left) [
      | inl before ↦ before_laid left part row k d (omega arith) before ∙ sym (get_or-take columns row k d lt)
          ∙ sym (before_laid left part (take columns row) k d (omega (arith, wide)) before)
      | inr from ↦ elim (cases_lt k (left + length part)) [
        | inl inside ↦ in_laid left part row k d (omega arith) from inside
            ∙ sym (in_laid left part (take columns row) k d (omega (arith, wide)) from inside)
        | inr after ↦ after_laid left part row k d (omega arith) after ∙ sym (get_or-take columns row k d lt)
            ∙ sym (after_laid left part (take columns row) k d (omega (arith, wide)) after)
      ]
    ])
