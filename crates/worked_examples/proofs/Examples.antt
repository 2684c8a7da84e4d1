-- The examples.
use Rattle.std.proofs.Common.{◌≡◌, ◌≢◌, ◌*◌, ℕ, ◌+◌, ◌-◌, ◌≤◌, true, false, [], ◌∷◌, ◌++◌, length, drop, take, Result, Ok, Err}
use Rattle.std.proofs.Common.{List, length-append, subst, ◌∙◌, arith, ◌⊎◌, inl, inr, replicate, Some, None, refl, sym, ap}
use Rattle.std.specs.Prelude.{map, pos, negsuc}
use Rattle.std.proofs.lemmas.List.Elements.{All-cons}
use Rattle.hayro_ccitt.specs.Color.TheVariants.{White}
use Rattle.hayro_ccitt.specs.DecodeError.{DecodeError}
use Rattle.hayro_ccitt.specs.Bits.{Bits, bits_of}
use Rattle.hayro_ccitt.specs.Rows.{Row, changes, pixels, white_row}
use Rattle.hayro_ccitt.specs.Lines.{Line}
use Rattle.hayro_ccitt.specs.Encodings.{Spells, EncodesLine1D, EncodesLine2D, IsPicture, eol}
use Rattle.hayro_ccitt.specs.LocalityByK.{IsTaggedBody}
use Rattle.hayro_ccitt.proofs.DamagedLines.DamageByK.{encoded_follows}
use Rattle.hayro_ccitt.proofs.DamagedLines.EncodedBodies.{encoded_lines_are_bodies}
use Rattle.worked_examples.specs.Examples.{hex, EncodesTwoLines, EncodesTaggedRows, with_eols, three_rows, bits_changed}
use Rattle.worked_examples.specs.Examples.{bits_added, words_added, group3_1d, HaveLocalBodies, ReadsDamage, LimitAfterTheBody}
use Rattle.worked_examples.specs.Examples.{OneLineFollows, reading_of}
use Rattle.worked_examples.specs.Examples.{OneLineDiffers, ReadsDamageByK, with_tags, four_rows, AreInRange, row_lost}
use Rattle.worked_examples.specs.Examples.{AreAlikeAfterTheFirst, ReadsRowsAfter, FeedsOneByte}
use Rattle.worked_examples.specs.Examples.{TwoLinesConform, LongRunIsShort, WhiteRowIsOneMode, two_lines}
use Rattle.hayro_ccitt.specs.Pictures.{IsLimitedPicture}
use Rattle.hayro_ccitt.specs.PlainReading.{eols_here}
use Rattle.hayro_ccitt.specs.RowsKept.{MakesNoRtc, PutsInStep}
use Rattle.fax_encode.specs.Shortest.{shortest_from, shortest_line_2d, shortest_run, shortest_words}
use Rattle.std.specs.Prelude.{nat_lt, ◌<◌}
use Rattle.std.proofs.lemmas.Bool.{agree_below, agree_below_at, ltb-true}
use Rattle.hayro_ccitt.specs.EndOfLine.{after_eol, next_eol}
use Rattle.hayro_ccitt.specs.Locality.{IsLocal, EndsBefore, ComesToLine, EndAlike}
use Rattle.hayro_ccitt.specs.Repetition.{Turn, Reaches}
use Rattle.hayro_ccitt.specs.PlainReading.{Progress, Move, first_line, move_on, plain}
use Rattle.hayro_ccitt.proofs.PixelRows.ChangesAndPixels.{changes-recursive}
use Rattle.hayro_ccitt.proofs.PixelRows.RowChanges.{changes_from-same}
use Rattle.hayro_ccitt.proofs.Readings.Repeated.{next_is}
use Rattle.hayro_ccitt.specs.DecodeSettings.{DecodeSettings}
use Rattle.hayro_ccitt.proofs.DamagedLines.BodyTests.{local_by_tests}

pub two_lines_encoded : EncodesTwoLines
two_lines_encoded = (
  false ∷ false ∷ true ∷ true ∷ true ∷ false ∷ false ∷ false ∷ true ∷ false ∷ true ∷ [],
  _,
  EncodesLine2D.horizontal 0 (false ∷ false ∷ true ∷ []) (omega arith) (inr (inl (refl, refl)))
      (Spells.terminating 5 (true ∷ true ∷ false ∷ false ∷ []) (inr (inr (inr (inr (inr (inl (refl, refl))))))) (omega arith))
      (Spells.terminating 1 (false ∷ true ∷ false ∷ []) (inr (inl (refl, refl))) (omega arith))
      (EncodesLine2D.vertical 7 (true ∷ []) (pos 0) (omega arith) (inr (inr (inl (refl, refl)))) refl EncodesLine2D.over),
  (
    false ∷ false ∷ false ∷ false ∷ false ∷ true ∷ false ∷ false ∷ false ∷ false ∷ false ∷ false ∷ true ∷ false ∷ true ∷ true
        ∷ true ∷ [],
    [],
    EncodesLine2D.vertical 0 (false ∷ false ∷ false ∷ false ∷ false ∷ true ∷ false ∷ []) (negsuc 2) (omega arith)
        (inr (inr (inr (inr (inr (inr (inr (inr (inl (refl, refl)))))))))) refl
        (EncodesLine2D.vertical 3 (false ∷ false ∷ false ∷ false ∷ false ∷ true ∷ false ∷ []) (negsuc 2) (omega arith)
        (inr (inr (inr (inr (inr (inr (inr (inr (inl (refl, refl)))))))))) refl
        (EncodesLine2D.vertical 4 (true ∷ []) (pos 0) (omega arith) (inr (inr (inl (refl, refl)))) refl
        (EncodesLine2D.vertical 6 (true ∷ []) (pos 0) (omega arith) (inr (inr (inl (refl, refl)))) refl
        (EncodesLine2D.vertical 7 (true ∷ []) (pos 0) (omega arith) (inr (inr (inl (refl, refl)))) refl EncodesLine2D.over)))),
    refl,
    refl,
  ),
  refl,
)

eight_white : EncodesLine1D White (pixels 8 []) (true ∷ false ∷ false ∷ true ∷ true ∷ [])
eight_white = EncodesLine1D.run 8 (true ∷ false ∷ false ∷ true ∷ true ∷ []) (Spells.terminating 8
    (true ∷ false ∷ false ∷ true ∷ true ∷ []) (inr (inr (inr (inr (inr (inr (inr (inr (inl (refl, refl)))))))))) (omega arith))
    (omega arith) (λ rest e. absurd cc) EncodesLine1D.over

pub tagged_rows_encoded : EncodesTaggedRows
tagged_rows_encoded = (
  _,
  _,
  omega arith,
  (
    omega arith,
    All-cons (λ row. length row ≡ 8) (pixels 8 []) (pixels 8 [] ∷ []) refl
        (All-cons (λ row. length row ≡ 8) (pixels 8 []) [] refl (λ k d lt. absurd (omega arith))),
  ),
  (
    0,
    _,
    _,
    (_, inl (refl, eight_white)),
    (
      0,
      _,
      [],
      (
        true ∷ [],
        inr (
          refl,
          EncodesLine2D.vertical 0 (true ∷ []) (pos 0) (omega arith) (inr (inr (inl (refl, refl)))) refl EncodesLine2D.over,
        ),
      ),
      refl,
      refl,
    ),
    refl,
  ),
  (0, _, (0, _, (0, _, (0, _, (0, _, (0, [], refl, refl), refl), refl), refl), refl), refl),
  refl,
)

-- what a line that is whole, or broken, leaves
whole_stays : (n : ℕ) (row others : Row) (rest more : Bits) → Line.whole row rest ≡ Line.whole others more → n ≤ length rest
    → n ≤ length more
whole_stays n row others rest more e le = subst (λ (bits : Bits). n ≤ length bits) (let same : rest ≡ more = cc in same) le

broken_stays : (n : ℕ) (front others : Row) (fault : DecodeError) (more : Bits) → Line.broken front fault ≡ Line.whole others more
    → n ≤ length more
broken_stays n front others fault more e = absurd cc

-- a body that begins at bit 29 is local, by the tests of the bits
local_of : (bits : Bits) (to : ℕ) → 29 ≤ to → to ≤ length bits → after_eol 0 (drop 17 bits) ≡ Some (drop 29 bits)
    → take (to - 29) (drop 29 bits) ≢ replicate (to - 29) false → next_eol (take (to - 29) (drop 29 bits)) ≡ None
    → (after : Bits) × (after_eol 0 (drop to bits) ≡ Some after) × EndsBefore 8 after (drop 29 bits)
    → IsLocal with_eols bits 29 to
local_of bits to order within starts one no_eol closes = (local_by_tests with_eols bits 29 to).1 (record {
  encoding = refl;
  lenient = refl;
  order = order;
  within = within;
  starts = inr (omega arith, starts);
  one = one;
  no_eol = no_eol;
  closes = closes;
})

pub local_bodies : HaveLocalBodies
local_bodies = (
  local_of (bits_of (hex three_rows)) 39 (omega arith) (omega arith) refl (λ e. absurd cc) refl
      (_, refl, λ row rest e. whole_stays _ _ row _ rest e (omega arith)),
  local_of (bits_of (hex bits_changed)) 39 (omega arith) (omega arith) refl (λ e. absurd cc) refl
      (_, refl, λ row rest e. broken_stays _ _ row _ rest e),
  local_of (bits_of (hex bits_added)) 47 (omega arith) (omega arith) refl (λ e. absurd cc) refl
      (_, refl, λ row rest e. whole_stays _ _ row _ rest e (omega arith)),
  local_of (bits_of (hex words_added)) 111 (omega arith) (omega arith) refl (λ e. absurd cc) refl
      (_, refl, λ row rest e. whole_stays _ _ row _ rest e (omega arith)),
)

pub damage_read : ReadsDamage
damage_read = (refl, refl, refl)

-- ---- The limit after the body

-- where a step leads: nowhere further, or on from what its first turn leads to
reaches_parts : {S R : Type 0} (step : S → Turn S R) (first last : S) → Reaches step first last
    → (first ≡ last) ⊎ ((after : S) × (step first ≡ Turn.next after) × Reaches step after last)
reaches_parts step first last (Reaches.stays same) = inl refl
reaches_parts step first last (Reaches.moves same after end e reaches) = inr (after, e, reaches)

-- where a turn continues
abbrev goes_on : Progress → Move → Progress
goes_on start (Turn.next after) = after
goes_on start (Turn.done end) = start

-- the settings, and the states that the reading reaches
abbrev limit_of_three : DecodeSettings
limit_of_three = group3_1d 8 3 "l"

abbrev no_row : Progress
no_row = first_line limit_of_three (bits_of (hex three_rows))

abbrev one_row : Progress
one_row = goes_on no_row (move_on limit_of_three no_row)

abbrev two_rows : Progress
two_rows = goes_on one_row (move_on limit_of_three one_row)

not_before_two : ComesToLine limit_of_three (bits_of (hex three_rows)) 29 2 → ⊥
not_before_two (so_far, reaches, rest, count) = by_none (reaches_parts (move_on limit_of_three) no_row so_far reaches)
  where
    Leads : Progress → Type 0
    Leads state = (state ≡ so_far)
        ⊎ ((after : Progress) × (move_on limit_of_three state ≡ Turn.next after) × Reaches (move_on limit_of_three) after so_far)

    on : (state next : Progress) → move_on limit_of_three state ≡ Turn.next next → (after : Progress)
        → move_on limit_of_three state ≡ Turn.next after → Reaches (move_on limit_of_three) after so_far → Leads next
    on state next e after f more = reaches_parts (move_on limit_of_three) next so_far
        (subst (λ (s : Progress). Reaches (move_on limit_of_three) s so_far) (next_is after next (sym f ∙ e)) more)

    by_two : Leads two_rows → ⊥
    by_two (inl e) = let n : 5 ≡ 27 = ap (λ (s : Progress). length s.rest) e ∙ ap length rest in absurd (omega (arith, n))
    by_two (inr (after, e, more)) = absurd cc

    by_one : Leads one_row → ⊥
    by_one (inl e) = let n : 1 ≡ 2 = ap (λ (s : Progress). length s.rows) e ∙ count in absurd (omega (arith, n))
    by_one (inr (after, e, more)) = by_two (on one_row two_rows refl after e more)

    by_none : Leads no_row → ⊥
    by_none (inl e) = let n : 0 ≡ 2 = ap (λ (s : Progress). length s.rows) e ∙ count in absurd (omega (arith, n))
    by_none (inr (after, e, more)) = by_one (on no_row one_row refl after e more)

count_is : (count n : ℕ) → ◌≡◌ {A = Result ℕ DecodeError} (Ok count) (Ok n) → count ≡ n
count_is count n e = cc

pub limit_after : LimitAfterTheBody
limit_after rows count count2 (EndAlike.faults fault e f) = absurd cc
limit_after rows count count2 (EndAlike.no_columns e f g) = absurd (omega (arith, e))
limit_after rows count count2 (EndAlike.before place n le one two) =
    let end : 0 ≡ length one.rest =
    ap (λ (r : Result Bits DecodeError). elim r [ Ok rest ↦ length rest | Err fault ↦ 0 ]) one.ends in
    let place_is : place + length one.rest ≡ 56 = one.place_is in
    absurd (omega (arith, le, end, place_is))
limit_after rows count count2 (EndAlike.past place place2 n n2 lt lt2 one two counts) =
    let sum : 8 * n + 128 ≡ 8 * n2 + 56 = counts in
    omega (arith, sum, count_is count n one.count_is, count_is count2 n2 two.count_is)
limit_after rows count count2 (EndAlike.at_limit index place place2 n n2 comes comes2 met limit many le le2 one two) =
    let second : index ≡ 2 = omega (arith, met, limit) in
    absurd (not_before_two (subst (ComesToLine limit_of_three (bits_of (hex three_rows)) 29) second comes))

-- ---- Locality in two dimensions

pub one_line_follows : OneLineFollows
one_line_follows =
    encoded_follows with_tags refl 0 (pixels 8 (3 ∷ 5 ∷ [])) (pixels 8 (3 ∷ 5 ∷ [])) (true ∷ true ∷ true ∷ [])
    (drop 57 (bits_of (hex four_rows))) (drop 41 (bits_of (hex four_rows)))
    (EncodesLine2D.vertical 0 (true ∷ []) (pos 0) (omega arith) (inr (inr (inl (refl, refl)))) refl
    (EncodesLine2D.vertical 4 (true ∷ []) (pos 0) (omega arith) (inr (inr (inl (refl, refl)))) refl
    (EncodesLine2D.vertical 6 (true ∷ []) (pos 0) (omega arith) (inr (inr (inl (refl, refl)))) refl EncodesLine2D.over)))
    ((_, refl), inr (inl (_, refl))) refl

-- the first line with its EOL, and the bits from the third one's EOL on
abbrev first_line_of : Bits
first_line_of = eol 0 ++ (true ∷ true ∷ false ∷ false ∷ true ∷ true ∷ []) ++ []

abbrev from_third : Bits
from_third = drop 41 (bits_of (hex four_rows))

-- a second line of one white and one black run
body_of : (m : ℕ) (word : Bits) → IsPicture 8 (pixels 8 (m ∷ (m + 2) ∷ []) ∷ pixels 8 [] ∷ [])
    → EncodesLine2D (pixels 8 []) (pixels 8 (m ∷ (m + 2) ∷ [])) 0 White (false ∷ false ∷ true ∷ word ++ true ∷ true ∷ true ∷ [])
    → IsTaggedBody with_tags ((first_line_of ++ eol 0)
    ++ ((false ∷ false ∷ false ∷ true ∷ word ++ true ∷ true ∷ true ∷ []) ++ from_third))
    (length (first_line_of ++ eol 0)) (length (first_line_of ++ eol 0) + length
    (false ∷ false ∷ false ∷ true ∷ word ++ true ∷ true ∷ true ∷ []))
body_of m word picture encodes =
    encoded_lines_are_bodies with_tags (white_row 8) (pixels 8 []) (pixels 8 (m ∷ (m + 2) ∷ [])) (pixels 8 [] ∷ []) first_line_of
    (false ∷ false ∷ false ∷ true ∷ word ++ true ∷ true ∷ true ∷ []) from_third 0
    (record { columns = omega arith; rows = omega arith }) refl refl
    picture (0, true ∷ true ∷ false ∷ false ∷ true ∷ true ∷ [], [], (_, inl (refl, eight_white)), refl, refl)
    (_, inr (refl, encodes)) (_, refl)

-- rows of eight pixels
eights : (row : Row) → length row ≡ 8 → IsPicture 8 (row ∷ pixels 8 [] ∷ [])
eights row e = (
  omega arith,
  All-cons (λ row. length row ≡ 8) row (pixels 8 [] ∷ []) e
      (All-cons (λ row. length row ≡ 8) (pixels 8 []) [] refl (λ k d lt. absurd (omega arith))),
)

pub one_line_differs : OneLineDiffers
one_line_differs = record {
  encoding = refl;
  lenient = refl;
  before = refl;
  after = refl;
  body = body_of 3 (true ∷ false ∷ false ∷ false ∷ []) (eights _ refl)
      (EncodesLine2D.horizontal 0 (false ∷ false ∷ true ∷ []) (omega arith) (inr (inl (refl, refl)))
      (Spells.terminating 3 (true ∷ false ∷ false ∷ false ∷ []) (inr (inr (inr (inl (refl, refl))))) (omega arith))
      (Spells.terminating 2 (true ∷ true ∷ []) (inr (inr (inl (refl, refl)))) (omega arith))
      (EncodesLine2D.vertical 6 (true ∷ []) (pos 0) (omega arith) (inr (inr (inl (refl, refl)))) refl EncodesLine2D.over));
  other = body_of 4 (true ∷ false ∷ true ∷ true ∷ []) (eights _ refl)
      (EncodesLine2D.horizontal 0 (false ∷ false ∷ true ∷ []) (omega arith) (inr (inl (refl, refl)))
      (Spells.terminating 4 (true ∷ false ∷ true ∷ true ∷ []) (inr (inr (inr (inr (inl (refl, refl)))))) (omega arith))
      (Spells.terminating 2 (true ∷ true ∷ []) (inr (inr (inl (refl, refl)))) (omega arith))
      (EncodesLine2D.vertical 7 (true ∷ []) (pos 0) (omega arith) (inr (inr (inl (refl, refl)))) refl EncodesLine2D.over));
  sought = inl refl;
  follow = one_line_follows;
}

pub damage_by_k_read : ReadsDamageByK
damage_by_k_read = (refl, refl, refl)

wide_row_drawn : (plain (group3_1d 2560 0 "b") (bits_of (hex "00101F35001001001001001001"))).rows ≡ white_row 2560 ∷ []
wide_row_drawn = refl

no_changes : (columns : ℕ) → changes (white_row columns) ≡ []
no_changes columns = changes-recursive (white_row columns) ∙ changes_from-same 0 columns false

-- a row of 2560 white pixels, whose changes are not looked for one by one
pub wide_row_read : reading_of (group3_1d 2560 0 "b") "00101F35001001001001001001" ≡ ([] ∷ [], Ok 13)
wide_row_read =
    let outcome = (plain (group3_1d 2560 0 "b") (bits_of (hex "00101F35001001001001001001"))).outcome in
    let drawn = ap (λ (rows : List Row). (map changes rows, outcome)) wide_row_drawn in
    drawn ∙ ap (λ (row : List ℕ). (row ∷ [], Ok 13)) (no_changes 2560)

pub are_in_range : AreInRange
are_in_range = (record { columns = omega arith; rows = omega arith }, refl, refl)

-- ---- Rows after damage

-- the line after the second EOL puts readings in step
puts_in_step : PutsInStep with_eols (drop 17 (bits_of (hex three_rows))) (drop 29 (bits_of (hex three_rows)))
    (drop 51 (bits_of (hex three_rows)))
puts_in_step = record {
  eol = refl;
  alone = refl;
  next = _;
  next_is = refl;
  after = _;
  after_is = refl;
  ends = λ reference row rest e. whole_stays _ _ row _ rest e (omega arith);
  count = 1;
  following_is = refl;
  unreferred = inr (λ reference other. refl);
}

-- some bits, without those before others
left_over : (before here : Bits) → drop (length before) (before ++ here) ≡ here
left_over [] here = refl
left_over (bit ∷ before) here = left_over before here

-- of 56 bits none makes six EOLs before the last 27
no_rtc : (bits line : Bits) → length bits ≡ 56 → length line ≡ 27
    → ((k : ℕ) → k < 29 → (eols_here with_eols (drop k bits)).0 < 6) → MakesNoRtc with_eols bits line
no_rtc bits line all some few before here split more =
    let place : length before < 29 = omega (arith, all, some, ap length split, length-append before here, more) in
    let there : drop (length before) bits ≡ here = ap (drop (length before)) split ∙ left_over before here in
    subst (λ (b : Bits). (eols_here with_eols b).0 < 6) there (few (length before) place)

few_eols : (bits : Bits) → agree_below (λ k. nat_lt (eols_here with_eols (drop k bits)).0 6) (λ k. true) 29 ≡ true
    → (k : ℕ) → k < 29 → (eols_here with_eols (drop k bits)).0 < 6
few_eols bits tests k below =
    ltb-true _ _ (agree_below_at (λ k. nat_lt (eols_here with_eols (drop k bits)).0 6) (λ k. true) 29 k tests below)

pub alike_after_the_first : AreAlikeAfterTheFirst
alike_after_the_first = (
  refl,
  record {
    encoding = inl refl;
    lenient = refl;
    unlimited = refl;
    wide = omega arith;
    same = refl;
    step = puts_in_step;
    sought = inl refl;
    sought_too = inl refl;
    no_rtc = no_rtc (bits_of (hex three_rows)) (drop 29 (bits_of (hex three_rows))) refl refl
        (few_eols (bits_of (hex three_rows)) refl);
    no_rtc_too = no_rtc (bits_of (hex row_lost)) (drop 29 (bits_of (hex three_rows))) refl refl
        (few_eols (bits_of (hex row_lost)) refl);
  },
)

pub rows_after_read : ReadsRowsAfter
rows_after_read = (refl, refl)

-- ---- Data in pieces

pub feeds_one_byte : FeedsOneByte
feeds_one_byte = record {
  fit = omega arith;
  lie = record {
    within = omega arith;
    more = bits_of (hex "C0");
    bits = refl;
    can_come = record { bytes = refl; none = λ e. absurd cc };
  };
  stands = record { fresh = refl; ticks = refl; state = refl; start = refl };
  known = record {
    gone = [];
    are = refl;
    place = refl;
    long = refl;
    counted = λ e. refl;
    zeros = λ e. absurd cc;
    missed = λ some. absurd (omega (arith, some));
  };
}

-- ---- Conforming data

pub two_lines_conform : TwoLinesConform
two_lines_conform = (
  pixels 8 (5 ∷ 6 ∷ []) ∷ pixels 8 (2 ∷ 3 ∷ 5 ∷ 6 ∷ []) ∷ [],
  inr (IsLimitedPicture.of_t6 (take 28 (bits_of (hex two_lines))) (record {
    encoding = refl;
    limit = refl;
    some = omega arith;
    picture = (
      omega arith,
      All-cons (λ row. length row ≡ 8) (pixels 8 (5 ∷ 6 ∷ [])) (pixels 8 (2 ∷ 3 ∷ 5 ∷ 6 ∷ []) ∷ []) refl
          (All-cons (λ row. length row ≡ 8) (pixels 8 (2 ∷ 3 ∷ 5 ∷ 6 ∷ [])) [] refl (λ k d lt. absurd (omega arith))),
    );
    lines = two_lines_encoded;
    begins = (drop 28 (bits_of (hex two_lines)), refl);
  })),
)

-- ---- The shortest encoding

pub long_run_is_short : LongRunIsShort
unfolding shortest_run shortest_words
long_run_is_short = (refl, refl)

pub white_row_is_one_mode : WhiteRowIsOneMode
unfolding shortest_line_2d shortest_from shortest_run shortest_words
white_row_is_one_mode = refl
