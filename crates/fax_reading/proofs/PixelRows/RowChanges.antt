-- What painting does to the changes.
use Rattle.fax_reading.proofs.Names.{◌≡◌, ℕ, zero, suc, ◌+◌, Bool, true, cond, List, [], ◌∷◌, ◌++◌, length, replicate, refl}
use Rattle.fax_reading.proofs.Names.{arith, beq, Row, last_pixel, common_steps}

-- The changes of a row by recursion: the positions, counted from one on, where a pixel differs from the one before it. It
-- is the same list as `changes`, in a form for induction.
abbrev pub changes_from : ℕ → Bool → Row → List ℕ
changes_from place before [] = []
changes_from place before (pixel ∷ row) =
    cond (beq before pixel) (changes_from (suc place) pixel row) (place ∷ changes_from (suc place) pixel row)

pub changes_from-append : (place : ℕ) (before : Bool) (front row : Row) → changes_from place before (front ++ row)
    ≡ changes_from place before front ++ changes_from (place + length front) (last_pixel before front) row
changes_from-append place before [] row = let e : place + 0 ≡ place = omega arith in rw e refl
changes_from-append place before (pixel ∷ front) row =
    grind (arith, common_steps, changes_from-append (suc place) pixel front row)

pub same_beq : (b : Bool) → beq b b ≡ true
same_beq b = grind (arith, common_steps)

-- pixels of the colour before them change nothing
pub changes_from-same : (place n : ℕ) (color : Bool) → changes_from place color (replicate n color) ≡ []
changes_from-same place zero color = refl
changes_from-same place (suc n) color = rw (same_beq color) (changes_from-same (suc place) n color)
