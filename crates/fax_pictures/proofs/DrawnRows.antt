-- Rows drawn pixel by pixel.
use Rattle.std.proofs.Common.{◌≡◌, ℕ, suc, ◌+◌, ◌<◌, Bool, true, false, not, List, [], ◌∷◌, ◌++◌}
use Rattle.std.proofs.Common.{length, get_or, refl, sym, ap, ◌∙◌, subst, arith}
use mathlib.Core.Bool.{beq}
use Rattle.std.proofs.Common.{cond, append-nil, ◌≢◌}
use Rattle.std.specs.Prelude.{map}
use Rattle.std.specs.List.{range_with_len}
use Rattle.std.proofs.lemmas.List.{get_or_default, get_or-map, same_lists}
use Rattle.std.proofs.lemmas.List.FromFn.{get_or-map-range_with_len, length-map-range_with_len, map-range_with_len_more}
use Rattle.fax_pictures.specs.Pictures.{Picture}
use Rattle.fax_reading.specs.Rows.{AreChanges, Row, changes, last_pixel, pixels}
use Rattle.fax_reading.proofs.PixelRows.ChangesAndPixels.{AreChanges-changes, changes-recursive, last_pixel-append}
use Rattle.fax_reading.proofs.PixelRows.ChangesAndPixels.{pixels-changes}
use Rattle.fax_reading.proofs.PixelRows.RowChanges.{changes_from, changes_from-append}

-- The changes of the first pixels of a row, and the colour of the last of them.
pub record AreDrawn (pixel : ℕ → Bool) (x : ℕ) (places : List ℕ) (before : Bool) : Type 0 where
  pub changes : places ≡ changes_from 0 false (map pixel (range_with_len 0 x))
  pub last : before ≡ last_pixel false (map pixel (range_with_len 0 x))

module _ (pixel : ℕ → Bool) (x : ℕ) (places : List ℕ) (before here : Bool) (drawn : AreDrawn pixel x places before)
    (is : here ≡ pixel x) where
  abbrev front : Row
  front = map pixel (range_with_len 0 x)

  whole : map pixel (range_with_len 0 (x + 1)) ≡ front ++ here ∷ []
  whole = map-range_with_len_more pixel 0 x x (omega arith) ∙ ap (λ (b : Bool). front ++ b ∷ []) (sym is)

  count : 0 + length front ≡ x
  count = omega (arith, length-map-range_with_len pixel 0 x)

  more : changes_from 0 false (map pixel (range_with_len 0 (x + 1))) ≡ places ++ cond (beq before here) [] (x ∷ [])
  more =
      ap (changes_from 0 false) whole ∙ changes_from-append 0 false front (here ∷ [])
      ∙ ap (λ (l : List ℕ). l ++ changes_from (0 + length front) (last_pixel false front) (here ∷ [])) (sym drawn.changes)
      ∙ ap (λ (n : ℕ). places ++ changes_from n (last_pixel false front) (here ∷ [])) count
      ∙ ap (λ (b : Bool). places ++ changes_from x b (here ∷ [])) (sym drawn.last)

  last : here ≡ last_pixel false (map pixel (range_with_len 0 (x + 1)))
  last = sym (ap (last_pixel false) whole ∙ last_pixel-append false front (here ∷ []))

-- a pixel of the colour of the one before it is no change
unchanged : (before here : Bool) (x : ℕ) → here ≡ before → cond (beq before here) [] (x ∷ []) ≡ []
unchanged true true x e = refl
unchanged true false x e = cc
unchanged false true x e = cc
unchanged false false x e = refl

-- and one of another colour is
changed : (before here : Bool) (x : ℕ) → here ≢ before → cond (beq before here) [] (x ∷ []) ≡ x ∷ []
changed true true x other = absurd (other refl)
changed true false x other = refl
changed false true x other = refl
changed false false x other = absurd (other refl)

-- a pixel of the same colour
pub same_drawn : (pixel : ℕ → Bool) (x : ℕ) (places : List ℕ) (before here : Bool) → AreDrawn pixel x places before
    → here ≡ pixel x → here ≡ before → AreDrawn pixel (x + 1) places here
same_drawn pixel x places before here drawn is same = record {
  changes = sym (more pixel x places before here drawn is ∙ ap (λ (l : List ℕ). places ++ l) (unchanged before here x same)
      ∙ append-nil places);
  last = last pixel x places before here drawn is;
}

-- a pixel of the other colour
pub other_drawn : (pixel : ℕ → Bool) (x : ℕ) (places : List ℕ) (before here : Bool) → AreDrawn pixel x places before
    → here ≡ pixel x → here ≢ before → AreDrawn pixel (x + 1) (places ++ x ∷ []) here
other_drawn pixel x places before here drawn is other = record {
  changes = sym (more pixel x places before here drawn is ∙ ap (λ (l : List ℕ). places ++ l) (changed before here x other));
  last = last pixel x places before here drawn is;
}

-- all pixels of a row
pub all_drawn : (pixel : ℕ → Bool) (columns : ℕ) (places : List ℕ) (before : Bool) → AreDrawn pixel columns places before
    → AreChanges columns places × (pixels columns places ≡ map pixel (range_with_len 0 columns))
all_drawn pixel columns places before drawn =
    let row : Row = map pixel (range_with_len 0 columns) in
    let long : length row ≡ columns = length-map-range_with_len pixel 0 columns in
    let are : places ≡ changes row = drawn.changes ∙ sym (changes-recursive row) in (
      subst (λ (n : ℕ). AreChanges n places) long
          (subst (λ (l : List ℕ). AreChanges (length row) l) (sym are) (AreChanges-changes row)),
      ap (λ (n : ℕ). pixels n places) (sym long) ∙ ap (pixels (length row)) are ∙ pixels-changes row,
    )

-- ---- all rows of a picture
pub picture_is : (one two : Picture) → one.columns ≡ two.columns → one.rows ≡ two.rows → one ≡ two
picture_is one two columns rows =
    ap (λ (n : ℕ). record { columns = n; rows = one.rows }) columns
    ∙ ap (λ (r : List Row). record { columns = two.columns; rows = r }) rows

pub rows_drawn : (row : ℕ → Row) (n : ℕ) (rows : List Row) → length rows ≡ n
    → ((k : ℕ) → k < n → get_or rows k [] ≡ row k) → rows ≡ map row (range_with_len 0 n)
rows_drawn row n rows count each = same_lists rows (map row (range_with_len 0 n))
    (count ∙ sym (length-map-range_with_len row 0 n))
    (λ k d h. let lt : k < n = omega (arith, h, count) in
    get_or_default rows k d [] h ∙ each k lt ∙ sym (get_or-map-range_with_len row 0 n k k d lt (omega arith)))

length_mapped : (f : Row → Row) (rows : List Row) → length (map f rows) ≡ length rows
length_mapped f [] = refl
length_mapped f (row ∷ rows) = ap suc (length_mapped f rows)

pub rows_mapped : (f : Row → Row) (old new : List Row) → length new ≡ length old
    → ((k : ℕ) → k < length old → get_or new k [] ≡ f (get_or old k [])) → new ≡ map f old
rows_mapped f old new count each = same_lists new (map f old) (count ∙ sym (length_mapped f old))
    (λ k d h. let lt : k < length old = omega (arith, h, count) in
    get_or_default new k d [] h ∙ each k lt ∙ sym (get_or-map f old k [] d lt))

-- ---- pixels that are compared
pub are_apart : (one two : Bool) → not (beq one two) ≡ true → one ≢ two
are_apart true true e = cc
are_apart true false e = λ same. cc
are_apart false true e = λ same. cc
are_apart false false e = cc

pub are_same : (one two : Bool) → not (beq one two) ≡ false → one ≡ two
are_same true true e = refl
are_same true false e = cc
are_same false true e = cc
are_same false false e = refl
