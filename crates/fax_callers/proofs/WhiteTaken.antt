-- Rows that a sink of white rows accepted.
use Rattle.std.proofs.Common.{◌≡◌, ℕ, zero, suc, ◌≤◌, Bool, true, false, ◌&&◌, List, [], ◌∷◌, length, take, refl, ◌∙◌, arith}
use Rattle.hayro_ccitt.specs.Answers.{meaning_after}
use Rattle.hayro_ccitt.specs.Rows.{Row, changes}
use Rattle.fax_callers.specs.Blank.{AreWhite, is_white_row}

-- the step of the sink
abbrev pub keeps_white : Bool → List ℕ → Bool
keeps_white white row = white && is_white_row row

-- a black row is never forgotten
stays_false : (rows : List Row) → meaning_after keeps_white false rows ≡ false
stays_false [] = refl
stays_false (row ∷ rows) = stays_false rows

-- if all rows are white the first one is, and the others are
first_white : (places : List ℕ) (rows : List Row) → true ≡ meaning_after keeps_white (true && is_white_row places) rows
    → (places ≡ []) × (true ≡ meaning_after keeps_white true rows)
first_white [] rows same = (refl, same)
first_white (place ∷ places) rows same = let never : true ≡ false = same ∙ stays_false rows in cc

-- the accepted rows are white
pub taken_white : (rows : List Row) (n : ℕ) → n ≤ length rows → true ≡ meaning_after keeps_white true (take n rows)
    → AreWhite rows n
taken_white [] n within same k lt = absurd (omega (arith, within, lt))
taken_white (row ∷ rows) zero within same k lt = absurd (omega (arith, lt))
taken_white (row ∷ rows) (suc n) within same zero lt = (first_white (changes row) (take n rows) same).0
taken_white (row ∷ rows) (suc n) within same (suc k) lt =
    taken_white rows n (omega (arith, within)) (first_white (changes row) (take n rows) same).1 k (omega (arith, lt))
