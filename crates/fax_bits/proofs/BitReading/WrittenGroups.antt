-- When the rows of groups of modes that are written out are those of the code list.
use Rattle.fax_bits.proofs.Names.{common_steps, ◌≡◌, ℕ, suc, zero, ◌+◌, ◌<◌, Bool, true, false, ◌&&◌, eqb, List, [], ◌∷◌, length}
use Rattle.fax_bits.proofs.Names.{get_or, refl, arith, and_parts, false≢true}
use Rattle.fax_bits.specs.ModeGroups.{group_row, AreRows}

-- whether two lists are the same
abbrev pub same_items : List ℕ → List ℕ → Bool
same_items [] [] = true
same_items [] (y ∷ ys) = false
same_items (x ∷ xs) [] = false
same_items (x ∷ xs) (y ∷ ys) = eqb x y && same_items xs ys

same_items-true : (xs ys : List ℕ) → same_items xs ys ≡ true → xs ≡ ys
same_items-true [] [] e = refl
same_items-true [] (y ∷ ys) e = absurd (false≢true e)
same_items-true (x ∷ xs) [] e = absurd (false≢true e)
same_items-true (x ∷ xs) (y ∷ ys) e = grind (arith, common_steps, same_items-true xs ys)

-- each of some rows, from an index on, is that of its bits
abbrev pub are_rows : List (List ℕ) → ℕ → Bool
are_rows [] index = true
are_rows (row ∷ rows) index = same_items row (group_row index) && are_rows rows (suc index)

rows_agree_at : (rows : List (List ℕ)) (from index : ℕ) → are_rows rows from ≡ true → index < length rows
    → get_or rows index [] ≡ group_row (from + index)
rows_agree_at [] from index e lt = absurd (omega arith)
rows_agree_at (row ∷ rows) from zero e lt = grind (arith, and_parts, same_items-true)
rows_agree_at (row ∷ rows) from (suc index) e lt = grind (arith, rows_agree_at rows (suc from) index, and_parts)

pub rows_agree : (rows : List (List ℕ)) → length rows ≡ 1024 → are_rows rows 0 ≡ true → AreRows rows
rows_agree rows count all = grind (arith, rows_agree_at rows 0)
