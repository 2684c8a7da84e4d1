-- Rows in the other colour.
use Rattle.fax_encode.proofs.Names.{◌≡◌, ℕ, zero, suc, ◌-◌, ◌<◌, Bool, true, false, not, List, [], ◌∷◌, ◌++◌}
use Rattle.fax_encode.proofs.Names.{length, get_or, map, ◌⊎◌, inl, inr, replicate, refl, sym, ap, ◌∙◌, arith}
use Rattle.fax_encode.proofs.Names.{drop}
use Rattle.fax_reading.specs.Rows.{AreChanges, Row, pixels, pixels_from}
use Rattle.fax_reading.proofs.PixelRows.ChangesAndPixels.{AscendFrom-wider}

-- pixels of one colour
other_colour : (n : ℕ) (color : Bool) → replicate n (not color) ≡ map not (replicate n color)
other_colour zero color = refl
other_colour (suc n) color = ap (λ (r : Row). not color ∷ r) (other_colour n color)

map-not-append : (one two : Row) → map not (one ++ two) ≡ map not one ++ map not two
map-not-append [] two = refl
map-not-append (pixel ∷ one) two = ap (λ (r : Row). not pixel ∷ r) (map-not-append one two)

pub pixels_from-not : (place : ℕ) (color : Bool) (width : ℕ) (places : List ℕ)
    → pixels_from place (not color) width places ≡ map not (pixels_from place color width places)
pixels_from-not place color width [] = other_colour (width - place) color
pixels_from-not place color width (change ∷ places) =
    ap (λ (r : Row). r ++ pixels_from change (not (not color)) width places) (other_colour (change - place) color)
    ∙ ap (λ (r : Row). map not (replicate (change - place) color) ++ r) (pixels_from-not change (not color) width places)
    ∙ sym (map-not-append (replicate (change - place) color) (pixels_from change (not color) width places))

-- a row that begins with a black pixel, without its first change
pub white_first : (width : ℕ) (rest : List ℕ) → AreChanges width (0 ∷ rest)
    → AreChanges width rest × (pixels width rest ≡ map not (pixels width (0 ∷ rest)))
white_first width rest lawful =
    (AscendFrom-wider 0 1 width width rest (omega arith) (omega arith) lawful.2, pixels_from-not 0 true width rest)

-- a row that begins with a white pixel, with a change before its first one
pub black_first : (width : ℕ) (changes : List ℕ) → 0 < width → AreChanges width changes
    → (length changes ≡ 0) ⊎ (0 < get_or changes 0 0)
    → AreChanges width (0 ∷ changes) × (pixels width (0 ∷ changes) ≡ map not (pixels width changes))
black_first width [] some lawful first = ((omega arith, some, tt), pixels_from-not 0 false width [])
black_first width (change ∷ places) some lawful first =
    let here : 0 < change = elim first [
      | inl none ↦ absurd (omega (arith, none))
      | inr above ↦ above
    ] in
    ((omega arith, some, (omega (arith, here), lawful.1, lawful.2)), pixels_from-not 0 false width (change ∷ places))

-- a list that begins with 0
pub begins_with_zero : (changes : List ℕ) → 0 < length changes → get_or changes 0 0 ≡ 0 → changes ≡ 0 ∷ drop 1 changes
begins_with_zero [] some e = absurd (omega (arith, some))
begins_with_zero (change ∷ places) some e = ap (λ (n : ℕ). n ∷ places) e
