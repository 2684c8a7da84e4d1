-- The first RTC in a page is the one that closes it.
use Rattle.hayro_ccitt.proofs.Names.{◌≡◌, ◌≢◌, ℕ, zero, suc, ◌+◌, ◌<◌, ◌≤◌, true, false, Bool, cond, leb}
use Rattle.hayro_ccitt.proofs.Names.{Option, Some, None, [], ◌∷◌, ◌++◌, List, length, replicate, refl, ap, ◌∙◌}
use Rattle.hayro_ccitt.proofs.Names.{append_assoc, append-nil, arith, inl, inr, cases_lt, le-leb, lt-ltb, le-ltb, cond-false}
use Rattle.hayro_ccitt.proofs.Names.{cond-true, All-head, All-tail, Bits, Color, White, Row, HaveWidth}
use Rattle.hayro_ccitt.proofs.Names.{EncodesLine, EncodesLine1D, EncodesRowsWithEols, Spells, eol}
use Rattle.std.proofs.lemmas.Bool.{and_right, lt-leb}
use Rattle.hayro_ccitt.specs.EncodingMode.{EncodingMode}
use Rattle.hayro_ccitt.specs.EncodingMode.TheVariants.{Group4, Group3_1D, Group3_2D}
use Rattle.hayro_ccitt.specs.Encodings.{ClosesWithEols, PictureT4, tag_of}
use Rattle.hayro_ccitt.specs.Rows.{white_row}
use Rattle.hayro_ccitt.proofs.BitReading.ZerosInWords.{scan, holds_a_one, word_one}
use Rattle.hayro_ccitt.proofs.DamagedLines.AnyReference.{quiet_line}
use Rattle.hayro_ccitt.proofs.DamagedLines.EncodedBodies.{quiet_1d}
use Rattle.fax_callers.specs.Rtc.{after_rtc, is_rtc, none_seen, one_more_up_to, with_one}
use Rattle.fax_callers.specs.declared.rtc.EolsSeen.{EolsSeen}

-- ---- One bit, or zeros

abbrev pub seen_with : ℕ → ℕ → Bool → EolsSeen
seen_with eols zeros at_tag = record { eols = eols; zeros = zeros; at_tag = at_tag }

-- what follows RTC, where this was just seen
abbrev pub goes_on : Bool → EolsSeen → Bits → Option Bits
goes_on tags seen here = cond (is_rtc seen) (Some here) (after_rtc tags seen here)

few_seen : (eols zeros : ℕ) → eols < 6 → is_rtc (seen_with eols zeros false) ≡ false
few_seen eols _ lt = rw (lt-leb 6 eols lt) refl

zero_passed : (tags : Bool) (eols zeros : ℕ) (rest : Bits) → eols < 6
    → after_rtc tags (seen_with eols zeros false) (false ∷ rest)
    ≡ after_rtc tags (seen_with eols (one_more_up_to 11 zeros) false) rest
zero_passed tags eols zeros rest lt =
    cond-false (is_rtc (seen_with eols (one_more_up_to 11 zeros) false)) (Some rest)
    (after_rtc tags (seen_with eols (one_more_up_to 11 zeros) false) rest) (few_seen eols (one_more_up_to 11 zeros) lt)

-- a zero more leaves as many to come
enough : (zeros n : ℕ) → 11 ≤ zeros + suc n → 11 ≤ one_more_up_to 11 zeros + n
enough zeros n le = elim (cases_lt zeros 11) [
  | inl lt ↦ rw (lt-ltb zeros 11 lt) (omega arith)
  | inr ge ↦ rw (le-ltb zeros 11 ge) (omega arith)
]

zeros_passed : (tags : Bool) (eols zeros n : ℕ) (rest : Bits) → eols < 6 → 11 ≤ zeros + n → (more : ℕ) × (11 ≤ more)
    × (after_rtc tags (seen_with eols zeros false) (replicate n false ++ rest)
    ≡ after_rtc tags (seen_with eols more false) rest)
zeros_passed tags eols zeros zero rest lt le = (zeros, omega arith, refl)
zeros_passed tags eols zeros (suc n) rest lt le =
    let on = zeros_passed tags eols (one_more_up_to 11 zeros) n rest lt (enough zeros n le) in
    (on.0, on.1, zero_passed tags eols zeros (replicate n false ++ rest) lt ∙ on.2)

-- a one after eleven zeros ends an EOL
one_passed : (tags : Bool) (eols zeros : ℕ) (rest : Bits) → eols < 6 → 11 ≤ zeros
    → after_rtc tags (seen_with eols zeros false) (true ∷ rest) ≡ goes_on tags (seen_with (suc eols) 0 tags) rest
one_passed tags eols zeros rest lt le =
    let more : one_more_up_to 6 eols ≡ suc eols = rw (lt-ltb eols 6 lt) refl in
    let seen : with_one tags (seen_with eols zeros false) ≡ seen_with (suc eols) 0 tags
    = cond-true (leb 11 zeros) (seen_with (one_more_up_to 6 eols) 0 tags) none_seen (le-leb 11 zeros le)
    ∙ ap (λ (n : ℕ). seen_with n 0 tags) more in
    ap (λ (s : EolsSeen). goes_on tags s rest) seen

-- another one ends the row of EOLs
one_ends : (tags : Bool) (eols zeros : ℕ) (rest : Bits) → zeros < 11
    → after_rtc tags (seen_with eols zeros false) (true ∷ rest) ≡ after_rtc tags none_seen rest
one_ends tags eols zeros rest lt =
    let seen : with_one tags (seen_with eols zeros false) ≡ none_seen
    = cond-false (leb 11 zeros) (seen_with (one_more_up_to 6 eols) 0 tags) none_seen (lt-leb 11 zeros lt) in
    ap (λ (s : EolsSeen). goes_on tags s rest) seen

-- ---- EOLs

eol_passed : (tags : Bool) (eols zeros fill : ℕ) (rest : Bits) → eols < 6
    → after_rtc tags (seen_with eols zeros false) (eol fill ++ rest) ≡ goes_on tags (seen_with (suc eols) 0 tags) rest
eol_passed tags eols zeros fill rest lt =
    let on = zeros_passed tags eols zeros (11 + fill) (true ∷ rest) lt (omega arith) in
    ap (after_rtc tags (seen_with eols zeros false)) (append_assoc (replicate (11 + fill) false) (true ∷ []) rest)
    ∙ on.2 ∙ one_passed tags eols on.0 rest lt on.1

-- the tag of one after an EOL
tag_passed : (eols : ℕ) (rest : Bits)
    → goes_on true (seen_with eols 0 true) (true ∷ rest) ≡ goes_on true (seen_with eols 0 false) rest
tag_passed eols rest =
    cond-false (is_rtc (seen_with eols 0 true)) (Some (true ∷ rest)) (after_rtc true (seen_with eols 0 true) (true ∷ rest))
    (and_right (leb 6 eols) false refl)

-- tags follow EOLs
abbrev pub tags_in : EncodingMode → Bool
tags_in Group3_2D = true
tags_in Group3_1D = false
tags_in Group4 = false

-- an EOL of RTC, with its tag
tagged_passed : (encoding : EncodingMode) (eols zeros fill : ℕ) (rest : Bits) → eols < 6 → encoding ≢ Group4
    → after_rtc (tags_in encoding) (seen_with eols zeros false) (eol fill ++ (tag_of encoding ++ rest))
    ≡ goes_on (tags_in encoding) (seen_with (suc eols) 0 false) rest
tagged_passed Group4 eols _ fill rest lt three = absurd (three refl)
tagged_passed Group3_1D eols zeros fill rest lt three = eol_passed false eols zeros fill rest lt
tagged_passed Group3_2D eols zeros fill rest lt three =
    eol_passed true eols zeros fill (true ∷ rest) lt ∙ tag_passed (suc eols) rest

-- the EOLs of RTC
closing_passed : (encoding : EncodingMode) (n eols zeros : ℕ) (closing more : Bits) → encoding ≢ Group4 → eols + suc n ≡ 6
    → ClosesWithEols encoding (suc n) closing
    → after_rtc (tags_in encoding) (seen_with eols zeros false) (closing ++ more) ≡ Some more
closing_passed encoding zero eols zeros closing more three six (fill, next, then, is) =
    let split : closing ++ more ≡ eol fill ++ (tag_of encoding ++ more)
    = ap (λ (b : Bits). b ++ more) (is ∙ ap (λ (b : Bits). (eol fill ++ tag_of encoding) ++ b) then)
    ∙ simp (append_assoc, append-nil) in
    let full : is_rtc (seen_with (suc eols) 0 false) ≡ true = rw (le-leb 6 (suc eols) (omega arith)) refl in
    ap (after_rtc (tags_in encoding) (seen_with eols zeros false)) split
    ∙ tagged_passed encoding eols zeros fill more (omega arith) three
    ∙ cond-true (is_rtc (seen_with (suc eols) 0 false)) (Some more)
    (after_rtc (tags_in encoding) (seen_with (suc eols) 0 false) more)
    full
closing_passed encoding (suc n) eols zeros closing more three six (fill, next, then, is) =
    let split : closing ++ more ≡ eol fill ++ (tag_of encoding ++ (next ++ more))
    = ap (λ (b : Bits). b ++ more) is ∙ simp append_assoc in
    ap (after_rtc (tags_in encoding) (seen_with eols zeros false)) split
    ∙ tagged_passed encoding eols zeros fill (next ++ more) (omega arith) three
    ∙ cond-false (is_rtc (seen_with (suc eols) 0 false)) (Some (next ++ more))
    (after_rtc (tags_in encoding) (seen_with (suc eols) 0 false) (next ++ more)) (few_seen (suc eols) 0 (omega arith))
    ∙ closing_passed encoding n (suc eols) 0 next more three (omega arith) then

-- ---- The words of a line

-- bits without eleven zeros, where no EOL was seen
words_passed : (tags : Bool) (n k : ℕ) (bits rest : Bits) → n ≤ 10 → scan n bits ≡ Some k
    → after_rtc tags (seen_with 0 n false) (bits ++ rest) ≡ after_rtc tags (seen_with 0 k false) rest
words_passed tags n k [] rest le e = let same : n ≡ k = cc in rw same refl
words_passed tags n k (true ∷ bits) rest le e =
    one_ends tags 0 n (bits ++ rest) (omega arith) ∙ words_passed tags 0 k bits rest (omega arith) e
words_passed tags n k (false ∷ bits) rest le e = elim (cases_lt n 10) [
  | inl lt ↦
      let up : one_more_up_to 11 n ≡ suc n = rw (lt-ltb n 11 (omega arith)) refl in
      let on : scan (suc n) bits ≡ Some k = rw (lt-ltb n 10 lt) at e in
      zero_passed tags 0 n (bits ++ rest) (omega arith)
      ∙ ap (λ (z : ℕ). after_rtc tags (seen_with 0 z false) (bits ++ rest)) up
      ∙ words_passed tags (suc n) k bits rest (omega arith) on
  | inr ge ↦ absurd (let none : None ≡ Some k = rw (le-ltb n 10 ge) at e in cc)
]

-- the same where EOLs were seen, if there is a one among the bits
line_passed : (tags : Bool) (eols n k : ℕ) (bits rest : Bits) → eols < 6 → n ≤ 10 → scan n bits ≡ Some k → holds_a_one bits ≡ true
    → after_rtc tags (seen_with eols n false) (bits ++ rest) ≡ after_rtc tags (seen_with 0 k false) rest
line_passed tags eols n k [] rest few le e one = absurd cc
line_passed tags eols n k (true ∷ bits) rest few le e one =
    one_ends tags eols n (bits ++ rest) (omega arith) ∙ words_passed tags 0 k bits rest (omega arith) e
line_passed tags eols n k (false ∷ bits) rest few le e one = elim (cases_lt n 10) [
  | inl lt ↦
      let up : one_more_up_to 11 n ≡ suc n = rw (lt-ltb n 11 (omega arith)) refl in
      let on : scan (suc n) bits ≡ Some k = rw (lt-ltb n 10 lt) at e in
      zero_passed tags eols n (bits ++ rest) few
      ∙ ap (λ (z : ℕ). after_rtc tags (seen_with eols z false) (bits ++ rest)) up
      ∙ line_passed tags eols (suc n) k bits rest few (omega arith) on one
  | inr ge ↦ absurd (let none : None ≡ Some k = rw (le-ltb n 10 ge) at e in cc)
]

-- a one stays among bits, whatever follows them
one_stays : (bits more : Bits) → holds_a_one bits ≡ true → holds_a_one (bits ++ more) ≡ true
one_stays [] more one = absurd cc
one_stays (true ∷ bits) more one = refl
one_stays (false ∷ bits) more one = one_stays bits more one

run_holds_one : (color : Color) (n : ℕ) (bits : Bits) → Spells color n bits → holds_a_one bits ≡ true
run_holds_one color n bits (Spells.terminating m word has small) = word_one bits (inl (color, n, has))
run_holds_one color n bits (Spells.makeup m word {n = k} {bits = next} has large rest) =
    one_stays word next (word_one word (inl (color, m, has)))

line_1d_holds_one : (color : Color) (row : Row) (bits : Bits) → EncodesLine1D color row bits → 0 < length row
    → holds_a_one bits ≡ true
line_1d_holds_one color row bits EncodesLine1D.over some = absurd (omega arith)
line_1d_holds_one color row bits (EncodesLine1D.run n word {row = others} {bits = next} spells first maximal rest) some =
    one_stays word next (run_holds_one color n word spells)

-- a line, with its tag, after its EOL
encoded_passed : (encoding : EncodingMode) (above row : Row) (line rest : Bits) → encoding ≢ Group4
    → EncodesLine encoding above row line → 0 < length row
    → (zeros : ℕ) × (goes_on (tags_in encoding) (seen_with 1 0 (tags_in encoding)) (line ++ rest)
    ≡ after_rtc (tags_in encoding) (seen_with 0 zeros false) rest)
encoded_passed Group4 above row line rest three is some = absurd (three refl)
encoded_passed Group3_1D above row line rest three is some =
    let quiet = quiet_1d White row line is 0 (omega arith) in (
      quiet.0,
      line_passed false 1 0 quiet.0 line rest (omega arith) (omega arith) quiet.1 (line_1d_holds_one White row line is some),
    )
encoded_passed Group3_2D above row line rest three (words, inl (tagged, is)) some =
    let quiet = quiet_1d White row words is 0 (omega arith) in (
      quiet.0,
      ap (λ (b : Bits). goes_on true (seen_with 1 0 true) (b ++ rest)) tagged
          ∙ line_passed true 1 0 quiet.0 words rest (omega arith) (omega arith) quiet.1
          (line_1d_holds_one White row words is some),
    )
encoded_passed Group3_2D above row line rest three (words, inr (tagged, is)) some =
    let quiet = quiet_line above row 0 White words is 1 (omega arith) in (
      quiet.0,
      ap (λ (b : Bits). goes_on true (seen_with 1 0 true) (b ++ rest)) tagged
          ∙ words_passed true 1 quiet.0 words rest (omega arith) quiet.1,
    )

-- ---- The lines of a page, and its RTC

lines_passed : (encoding : EncodingMode) (columns : ℕ) (reference : Row) (rows : List Row) (bits closing more : Bits) (zeros : ℕ)
    → encoding ≢ Group4 → 0 < columns → HaveWidth columns rows → EncodesRowsWithEols encoding reference rows bits
    → ClosesWithEols encoding 6 closing
    → after_rtc (tags_in encoding) (seen_with 0 zeros false) (bits ++ (closing ++ more)) ≡ Some more
lines_passed encoding columns reference [] bits closing more zeros three wide widths are closes =
    ap (λ (b : Bits). after_rtc (tags_in encoding) (seen_with 0 zeros false) (b ++ (closing ++ more))) are
    ∙ closing_passed encoding 5 0 zeros closing more three refl closes
lines_passed encoding columns reference (row ∷ rows) bits closing more zeros three wide widths (fill, line, next, is, are, split)
    closes =
    let some : 0 < length row = omega (arith, wide, All-head (λ row. length row ≡ columns) row rows widths) in
    let rest : Bits = next ++ (closing ++ more) in
    let after = encoded_passed encoding reference row line rest three is some in
    let here : bits ++ (closing ++ more) ≡ eol fill ++ (line ++ rest)
    = ap (λ (b : Bits). b ++ (closing ++ more)) split ∙ simp append_assoc in
    ap (after_rtc (tags_in encoding) (seen_with 0 zeros false)) here
    ∙ eol_passed (tags_in encoding) 0 zeros fill (line ++ rest) (omega arith) ∙ after.1
    ∙ lines_passed encoding columns row rows next closing more after.0 three wide
    (All-tail (λ row. length row ≡ columns) row rows widths) are closes

-- so what follows the first RTC is what follows the page
pub after_page : (encoding : EncodingMode) (columns : ℕ) (rows : List Row) (bits more : Bits) → encoding ≢ Group4
    → PictureT4 encoding columns rows bits → after_rtc (tags_in encoding) none_seen (bits ++ more) ≡ Some more
after_page encoding columns rows bits more three (lines, closing, some, picture, are, closes, split) =
    ap (after_rtc (tags_in encoding) none_seen) (ap (λ (b : Bits). b ++ more) split ∙ append_assoc lines closing more)
    ∙ lines_passed encoding columns (white_row columns) rows lines closing more 0 three picture.0 picture.1 are closes
