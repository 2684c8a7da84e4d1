-- The runs of a one-dimensional line that are read, each of them valid.
use Rattle.hayro_ccitt.proofs.Names.{◌≡◌, ◌≢◌, ℕ, zero, suc, ◌+◌, ◌-◌, ◌<◌, ◌≤◌, Bool, true, false, not, [], ◌∷◌, ◌++◌}
use Rattle.hayro_ccitt.proofs.Names.{length}
use Rattle.hayro_ccitt.proofs.Names.{replicate, Ok, refl, ap, sym, ◌∙◌, append_assoc, arith, inl, inr, cases_lt}
use Rattle.hayro_ccitt.proofs.Names.{length-append}
use Rattle.hayro_ccitt.proofs.Names.{length-replicate, append_cancel_left, append-nil, Color, Bits, Row, is_black, opposite}
use Rattle.hayro_ccitt.proofs.Names.{run_from, EncodesLine1D}
use Rattle.hayro_ccitt.proofs.EncodedPictures.EncodedLines.{run_read}
use Rattle.hayro_ccitt.proofs.PixelRows.ReferencePlaces.{opposite_twice}
use Rattle.fax_conforms.specs.Standing.{Spot, RunsFrom, Leads}
use Rattle.fax_conforms.proofs.ModesLead.{other_pixel, painted_on}
use Rattle.fax_conforms.proofs.SpelledRuns.{run_is_spelled, same_run}

-- the first run of the pixels that are left, and the runs after it
pub record HasRun (at : Spot) (here : Bits) (row : Row) (rest : Bits) : Type 0 where
  pub run : ℕ
  pub others : Row
  pub after : Bits
  pub read : run_from at.color (0, here) ≡ Ok (run, after)
  pub row_is : row ≡ at.front ++ (replicate run (is_black at.color) ++ others)
  pub some : 0 < run + length others
  pub maximal : (more : Row) → others ≢ is_black at.color ∷ more
  pub line : Bits
  pub encodes : EncodesLine1D (opposite at.color) others line
  pub stands : after ≡ line ++ rest

-- a list of pixels that begins with neither colour is empty
neither : (row : Row) (c : Bool) → ((more : Row) → row ≢ c ∷ more) → ((more : Row) → row ≢ not c ∷ more) → length row ≡ 0
neither [] c mine other = refl
neither (false ∷ row) false mine other = absurd (mine row refl)
neither (true ∷ row) true mine other = absurd (mine row refl)
neither (false ∷ row) true mine other = absurd (other row refl)
neither (true ∷ row) false mine other = absurd (other row refl)

begins_with : (n : ℕ) (c d : Bool) (others more : Row) → 0 < n → replicate n c ++ others ≡ d ∷ more → c ≡ d
begins_with zero c d others more lt e = absurd (omega arith)
begins_with (suc n) c d others more lt e = cc

not_itself : (b : Bool) → b ≢ not b
not_itself false e = cc
not_itself true e = cc

run_length : (at : Spot) (n : ℕ) (others row : Row) → row ≡ at.front ++ (replicate n (is_black at.color) ++ others)
    → length row ≡ length at.front + (n + length others)
run_length at n others row row_is =
    ap length row_is ∙ length-append at.front (replicate n (is_black at.color) ++ others)
    ∙ ap (λ (m : ℕ). length at.front + m) (length-append (replicate n (is_black at.color)) others
    ∙ ap (λ (m : ℕ). m + length others) (length-replicate n (is_black at.color)))

has_run : (at : Spot) (here : Bits) (row : Row) (rest : Bits) (columns : ℕ) → length row ≡ columns → columns ≤ 4294967295
    → length at.front < columns → RunsFrom at here row rest → HasRun at here row rest
has_run at here row rest columns row_len small open_end (others, bits, row_is, first, EncodesLine1D.over, is) =
    absurd (let l : length row ≡ length at.front = ap length (row_is ∙ append-nil at.front) in omega
    (arith, l, row_len, open_end))
has_run at here row rest columns row_len small open_end
    (others, bits, row_is, first, EncodesLine1D.run n word {row = after} {bits = next} spells some maximal line, is) =
    let few = run_length at n after row row_is in
    record {
      run = n;
      others = after;
      after = next ++ rest;
      read = ap (λ (x : Bits). run_from at.color (0, x)) (is ∙ append_assoc word next rest)
          ∙ run_read at.color n word (next ++ rest) spells (omega (arith, few, row_len, small));
      row_is = row_is;
      some = some;
      maximal = maximal;
      line = next;
      encodes = line;
      stands = refl;
    }

module _ (columns : ℕ) (at : Spot) (here : Bits) (small : columns ≤ 4294967295) (open_end : length at.front < columns) where
  -- the first run of a valid line
  pub record HasOneRun : Type 0 where
    pub run : ℕ
    pub after : Bits
    pub read : run_from at.color (0, here) ≡ Ok (run, after)
    pub within : length at.front + run ≤ columns
    pub some : 0 < at.from → 0 < run

  pub one_run : (row : Row) (rest : Bits) → length row ≡ columns → RunsFrom at here row rest → HasOneRun
  one_run row rest row_len stands =
      let has = has_run at here row rest columns row_len small open_end stands in
      let count = run_length at has.run has.others row has.row_is in
      record {
        run = has.run;
        after = has.after;
        read = has.read;
        within = omega (arith, count, row_len);
        some = λ begun. elim (cases_lt 0 has.run) [
          | inl lt ↦ lt
          | inr ge ↦
              let none : has.run ≡ 0 = omega arith in
              let only : stands.0 ≡ has.others = append_cancel_left at.front stands.0 has.others
              (sym stands.2 ∙ has.row_is ∙ ap (λ (n : ℕ). at.front ++ (replicate n (is_black at.color) ++ has.others)) none) in
              absurd (let empty = neither has.others (is_black at.color) has.maximal (λ more e.
              stands.3 begun more (only ∙ e ∙ ap (λ (b : Bool). b ∷ more) (sym (other_pixel at.color)))) in
              let some : 0 < has.run + length has.others = has.some in omega (arith, some, empty, none))
        ];
      }

  module _ (after : Bits) (run place : ℕ) (read : run_from at.color (0, here) ≡ Ok (run, after))
      (to : place ≡ length at.front + run) (within : place ≤ columns) (some : 0 < at.from → 0 < run) where
    run_on : (row : Row) (rest : Bits) → length row ≡ columns → RunsFrom at here row rest
        → RunsFrom (painted_on at place (opposite at.color)) after row rest
    run_on row rest row_len stands =
        let has = has_run at here row rest columns row_len small open_end stands in
        let same = same_run has.run run has.after after (sym has.read ∙ read) in
        let count : place - length at.front ≡ has.run = omega (arith, to, same.0) in (
          has.others,
          has.line,
          rw count (has.row_is ∙ sym (append_assoc at.front (replicate has.run (is_black at.color)) has.others)),
          (λ begun more e. has.maximal more (e ∙ ap (λ (c : Color). is_black c ∷ more) (opposite_twice at.color))),
          has.encodes,
          sym same.1 ∙ has.stands,
        )

    run_back : (row : Row) (rest : Bits) → length row ≡ columns → RunsFrom (painted_on at place
        (opposite at.color)) after row rest
        → RunsFrom at here row rest
    run_back row rest row_len (others, line, row_is, maximal, encodes, stands) =
        let word = run_is_spelled at.color run here after read in
        let count : place - length at.front ≡ run = omega (arith, to) in
        let split : row ≡ at.front ++ (replicate run (is_black at.color) ++ others) =
        rw count at row_is ∙ append_assoc at.front (replicate run (is_black at.color)) others in
        let size = run_length at run others row split in
        let last : (more : Row) → others ≢ is_black at.color ∷ more = λ more e. maximal (omega arith) more
        (e ∙ ap (λ (c : Color). is_black c ∷ more) (sym (opposite_twice at.color))) in (
          replicate run (is_black at.color) ++ others,
          word.0 ++ line,
          split,
          (λ begun more e. not_itself (is_black at.color) (begins_with run (is_black at.color) (is_black
              (opposite at.color)) others
              more (some begun) e ∙ other_pixel at.color)),
          EncodesLine1D.run run word.0 word.1 (omega (arith, size, row_len, open_end)) last encodes,
          word.2 ∙ ap (λ (x : Bits). word.0 ++ x) stands ∙ sym (append_assoc word.0 line rest),
        )

    pub run_leads : Leads columns (RunsFrom at here) (RunsFrom (painted_on at place (opposite at.color)) after)
    run_leads row rest row_len = (run_on row rest row_len, run_back row rest row_len)
