-- Black pixels, counted run by run and row by row.
use Rattle.std.proofs.Common.{◌≡◌, ℕ, suc, ◌+◌, ◌-◌, ◌*◌, ◌<◌, ◌≤◌, Bool, true, false, not, List, [], ◌∷◌, ◌++◌, length, get_or}
use Rattle.std.proofs.Common.{drop, replicate, sym, ap, subst, ◌∙◌, arith}
use Rattle.std.proofs.Math.Seq.{drop-cons}
use Rattle.std.proofs.lemmas.List.{drop_all}
use Rattle.std.specs.List.{fold}
use Rattle.std.proofs.lemmas.List.Sums.{sum_by-append, sum_by-cons}
use Rattle.std.proofs.lemmas.List.Folds.{sum_by-replicate}
use Rattle.hayro_ccitt.proofs.PixelRows.ChangesAndPixels.{AscendFrom-here}
use Rattle.hayro_ccitt.specs.Rows.{Row, AscendFrom, AreChanges, pixels, pixels_from}
use Rattle.fax_callers.specs.Counting.{number_of_pixel, black_in_row, black_in, in_64_bits}

-- What is counted so far and what is left add up to the row's number: a run of this colour began at this position, and the
-- changes from an index on are left.
pub record IsCounted (columns : ℕ) (changes : List ℕ) (index start : ℕ) (is_black : Bool) (black : ℕ) : Type 0 where
  pub sum : black + black_in_row (pixels_from start is_black columns (drop index changes)) ≡ black_in_row (pixels columns changes)
  pub ascend : AscendFrom start columns (drop index changes)
  pub within : start ≤ columns
  pub few : black ≤ start

-- a pixel counts one at most
at_most : (n : ℕ) (color : Bool) → n * number_of_pixel color ≤ n
at_most n true = omega arith
at_most n false = omega arith

-- nothing is counted at the row's start
pub none_counted : (columns : ℕ) (changes : List ℕ) → AreChanges columns changes → IsCounted columns changes 0 0 false 0
none_counted columns changes are = record { sum = omega arith; ascend = are; within = omega arith; few = omega arith }

-- a run of one colour, and what follows it
one_run : (count : ℕ) (color : Bool) (row : Row)
    → black_in_row (replicate count color ++ row) ≡ count * number_of_pixel color + black_in_row row
one_run count color row =
    sum_by-append number_of_pixel (replicate count color) row
    ∙ ap (λ (n : ℕ). n + black_in_row row) (sum_by-replicate number_of_pixel count color)

-- a black run counts as it is, and a white one does not count
pub black_run : (black count now : ℕ) (color : Bool) → color ≡ true → now ≡ black + count
    → now ≡ black + count * number_of_pixel color
black_run black count now true same is = omega (arith, is)
black_run black count now false same is = cc

pub white_run : (black count now : ℕ) (color : Bool) → color ≡ false → now ≡ black → now ≡ black + count * number_of_pixel color
white_run black count now true same is = cc
white_run black count now false same is = omega (arith, is)

module _ (columns : ℕ) (changes : List ℕ) (index start : ℕ) (is_black : Bool) (black : ℕ)
    (counted : IsCounted columns changes index start is_black black) where
  -- the run that began there ends at the next change
  abbrev next : ℕ
  next = get_or changes index 0

  module _ (more : index < length changes) where
    left : drop index changes ≡ next ∷ drop (suc index) changes
    left = drop-cons changes index 0 more

    ascends : AscendFrom start columns (next ∷ drop (suc index) changes)
    ascends = subst (AscendFrom start columns) left counted.ascend

    pub right : start ≤ next
    right = ascends.0

    pub inside : next < columns
    inside = ascends.1

    pub one_more : (now : ℕ) → now ≡ black + (next - start) * number_of_pixel is_black
        → IsCounted columns changes (index + 1) next (not is_black) now
    one_more now is =
        let row : Row = pixels_from next (not is_black) columns (drop (suc index) changes) in
        let at : index + 1 ≡ suc index = omega arith in
        let run =
        ap (λ (l : List ℕ). black_in_row (pixels_from start is_black columns l)) left ∙ one_run (next - start) is_black row in
        let e : now + black_in_row row ≡ black_in_row (pixels columns changes) = omega (arith, run, counted.sum, is) in
        record {
          sum = ap (λ (n : ℕ). now + black_in_row (pixels_from next (not is_black) columns (drop n changes))) at ∙ e;
          ascend = subst (λ (n : ℕ). AscendFrom next columns (drop n changes)) (sym at)
              (AscendFrom-here next columns (drop (suc index) changes) ascends.2);
          within = omega (arith, inside);
          few = omega (arith, is, right, counted.few, at_most (next - start) is_black);
        }

  -- the last run ends at the row's end
  pub last_run : length changes ≤ index
      → black_in_row (pixels columns changes) ≡ black + (columns - start) * number_of_pixel is_black
  last_run over =
      let none : drop index changes ≡ [] = drop_all index changes over in
      let run = ap (λ (l : List ℕ). black_in_row (pixels_from start is_black columns l)) none
      ∙ (sum_by-replicate number_of_pixel (columns - start) is_black) in
      omega (arith, run, counted.sum)

-- ---- all rows

-- rows whose black pixels are counted one after another
pub counts_all : (n : ℕ) (rows : List Row)
    → fold (λ before row. in_64_bits (before + black_in_row row)) (in_64_bits n) rows ≡ in_64_bits (n + black_in rows)
counts_all n [] = omega arith
counts_all n (row ∷ rows) =
    let once : in_64_bits (in_64_bits n + black_in_row row) ≡ in_64_bits (n + black_in_row row) = omega arith in
    let sum : n + black_in_row row + black_in rows ≡ n + black_in (row ∷ rows) =
    omega (arith, sum_by-cons black_in_row row rows) in
    ap (λ (m : ℕ). fold (λ before r. in_64_bits (before + black_in_row r)) m rows) once ∙ counts_all (n + black_in_row row) rows
    ∙ ap in_64_bits sum
