-- EOLs and lines of two inputs that begin with the same bits: what is found ahead of a one among these is found in both.
use Rattle.fax_reading.proofs.Names.{append_cancel_right, DecodeSettings, eols_with_tags, length-append, pass_last_tag, Group3_1D}
use Rattle.fax_reading.proofs.Names.{EncodingMode, common_steps, tagged_eols, false≢true, line_found, Group3_2D, after_eol, arith}
use Rattle.fax_reading.proofs.Names.{eols_here, none-some, AreWords, all_eols, one_more, or_right, past_tag, eols_by, line_by, []}
use Rattle.fax_reading.proofs.Names.{Group4, Option, joined, length, false, Bits, Bool, Line, List, None, Some, cond, eols, refl}
use Rattle.fax_reading.proofs.Names.{true, zero, ◌++◌, Row, leb, suc, sym, ◌+◌, ◌<◌, ◌∙◌, ◌∷◌, ◌≡◌, ◌≤◌, ap, ℕ}
use Rattle.fax_bits.proofs.BitReading.ConsecutiveEols.{eols_with_tags-some, after_eol_shorter, past_tag_shorter, length-one_more}
use Rattle.fax_bits.proofs.BitReading.ConsecutiveEols.{count_shorter, counts_tagged, counts_plain, CountsEols, all_tagged}
use Rattle.fax_reading.proofs.DrawingLines.ReadLines.{line_1d_took_bits, line_2d_took_bits, TookBits}
use Rattle.fax_reading.proofs.GapsContinued.ContinuedEols.{count_then_more, all_eols-more, eol-more}
use Rattle.fax_reading.specs.GapsContinued.{eols_are_settled, holds_one}
use Rattle.fax_bits.proofs.BitReading.ZerosInWords.{holds_a_one, word_one}
use Rattle.fax_bits.proofs.{BitReading.ConsecutiveEols.count_same, BitReading.ZeroRuns.eols_enough}
use Rattle.fax_reading.proofs.DrawingLines.WhatFollows.{line_1d_found, line_2d_found}
use Rattle.fax_reading.proofs.DamagedLines.PastEol.{past_shorter, past}
use Rattle.fax_reading.proofs.{GapsContinued.SettledGaps.eols_here-more, CodeWords.WordsFound.words_synchronised}

-- ---- The bits of a line contain a one

-- after the tag of a line a one follows
abbrev pub one_after_tag : Bits → Bool
one_after_tag [] = false
one_after_tag (tag ∷ bits) = holds_one bits

-- a one follows among the bits of a line, after its tag if it has one
abbrev pub one_in_line : EncodingMode → Bits → Bool
one_in_line Group3_1D bits = holds_one bits
one_in_line Group3_2D bits = one_after_tag bits
one_in_line Group4 bits = holds_one bits

-- a one follows here
pub one_in_bits : (encoding : EncodingMode) (bits : Bits) → one_in_line encoding bits ≡ true → holds_one bits ≡ true
one_in_bits encoding bits one = grind arith

-- ---- What is found among the first bits is found in them alone

-- a count, and what follows
abbrev IsPair : ℕ × Bits → ℕ → Bits → Type 0
IsPair found count rest = found ≡ (count, rest)

module _ (x : Bits) where
  -- an EOL that ends among them
  eol_first : (seen : ℕ) (bits rest : Bits) → after_eol seen (bits ++ x) ≡ Some rest → length x ≤ length rest
      → (left : Bits) × (rest ≡ left ++ x) × (after_eol seen bits ≡ Some left)
  eol_first seen [] rest e le = absurd (omega (arith, after_eol_shorter seen x rest e, le))
  eol_first seen (false ∷ bits) rest e le = eol_first (suc seen) bits rest e le
  eol_first seen (true ∷ bits) rest e le = grind (arith, common_steps)

  no_eol_first : (bits : Bits) → after_eol 0 (bits ++ x) ≡ None → after_eol 0 bits ≡ None
  no_eol_first bits none = by_after_eol (after_eol 0 bits) refl
    where
      by_after_eol : (o : Option Bits) → after_eol 0 bits ≡ o → after_eol 0 bits ≡ None
      by_after_eol None e = e
      by_after_eol (Some rest) e = absurd (none-some (rest ++ x) (sym none ∙ eol-more x bits rest e))

  -- the next EOL, if it ends among them
  pub past_front : (seen : ℕ) (bits rest : Bits) → past seen (bits ++ x) ≡ Some rest → length x ≤ length rest
      → (left : Bits) × (rest ≡ left ++ x) × (past seen bits ≡ Some left)
  past_front seen [] rest e le = absurd (omega (arith, past_shorter seen x rest e, le))
  past_front seen (false ∷ bits) rest e le = past_front (suc seen) bits rest e le
  past_front seen (true ∷ bits) rest e le = grind (arith, common_steps, past_front 0 bits rest)

  same_bits : (count : ℕ) (bits more : Bits) → IsPair (0, bits ++ x) count (more ++ x) → IsPair (0, bits) count more
  same_bits count bits more e = grind (arith, common_steps, append_cancel_right)

  -- a count that is one more
  one_fewer : (count : ℕ) (rest : Bits) (found : ℕ × Bits) → one_more found ≡ (count, rest) → (fewer : ℕ) × (count ≡ suc fewer)
      × (found ≡ (fewer, rest))
  one_fewer count rest (n, left) e = grind (arith, common_steps)

  module _ {pass : Bits → Bits} {count : ℕ → Bits → ℕ × Bits} (counts : CountsEols pass count) (Fits : ℕ → Bits → Type 0)
      (fewer : (most : ℕ) (bits left : Bits) → Fits (suc most) bits → length left < length bits → Fits most left)
      (more : Bits) (passes : (most n : ℕ) (left : Bits) → Fits most left → count most (pass (left ++ x)) ≡ (n, more ++ x)
      → pass (left ++ x) ≡ pass left ++ x) where
    count_first : (most : ℕ) (bits : Bits) (n : ℕ) → Fits most bits → count most (bits ++ x) ≡ (n, more ++ x)
        → count most bits ≡ (n, more)
    count_first zero bits n fits e = counts.start bits ∙ same_bits n bits more (sym (counts.start (bits ++ x)) ∙ e)
    count_first (suc most) bits n fits e =
        by_after_eol (λ left m small f. count_first most left m small f) (after_eol 0 (bits ++ x)) refl
      where
        by_after_eol : ((left : Bits) (m : ℕ) → Fits most left → count most (left ++ x) ≡ (m, more ++ x)
            → count most left ≡ (m, more)) → (o : Option Bits) → after_eol 0 (bits ++ x) ≡ o → count (suc most) bits ≡ (n, more)
        by_after_eol on None f = counts.none (suc most) bits (no_eol_first bits f)
            ∙ same_bits n bits more (sym (counts.none (suc most) (bits ++ x) f) ∙ e)
        by_after_eol on (Some rest) f = let (m, is, counted) = one_fewer n (more ++ x) (count most (pass rest))
            (sym (counts.some most (bits ++ x) rest f) ∙ e) in
            let le : length x ≤ length rest = omega (
              arith,
              ap (λ (f : ℕ × Bits). length f.1) counted,
              length-append more x,
              count_shorter counts most (pass rest),
              counts.passes rest,
            ) in
            let (left, split, g) = eol_first 0 bits rest f le in
            let shorter = after_eol_shorter 0 bits left g in
            let at : count most (pass (left ++ x)) ≡ (m, more ++ x) = ap (λ (b : Bits). count most (pass b)) (sym split)
            ∙ counted in
            let tag = passes most m left (fewer most bits left fits shorter) at in
            counts.some most bits left g ∙ ap one_more (on (pass left) m (fewer most bits (pass left) fits
            (omega (arith, shorter, counts.passes left))) (ap (count most) (sym tag) ∙ at)) ∙ ap (λ (k : ℕ). (k, more)) (sym is)

  -- a number of EOLs at most
  pub eols_first : (most : ℕ) (bits more : Bits) (n : ℕ) → eols most (bits ++ x) ≡ (n, more ++ x) → eols most bits ≡ (n, more)
  eols_first most bits more n e = count_first counts_plain (λ m b. Unit {0}) (λ m b left fits lt. tt) more
      (λ m k left fits f. refl) most bits n tt e

  -- all of them
  all_first : (bits more : Bits) (n : ℕ) → all_eols (bits ++ x) ≡ (n, more ++ x) → all_eols bits ≡ (n, more)
  all_first bits more n e = sym (eols_enough (length (bits ++ x)) bits (omega (arith, length-append bits x)))
      ∙ eols_first (length (bits ++ x)) bits more n e

  -- a tag before an EOL, where the EOLs after it end among them
  tag_first : (most n : ℕ) (left more : Bits) → length left + length x ≤ most → 0 < length more
      → eols_with_tags most (past_tag (left ++ x)) ≡ (n, more ++ x) → past_tag (left ++ x) ≡ past_tag left ++ x
  tag_first most n [] more fits some e = absurd (omega (
    arith,
    past_tag_shorter x,
    count_shorter counts_tagged most (past_tag x),
    ap (λ (f : ℕ × Bits). length f.1) e,
    length-append more x,
  ))
  tag_first most n (false ∷ left) more fits some e = refl
  tag_first zero n (true ∷ left) more fits some e = absurd (omega (arith, fits))
  tag_first (suc most) n (true ∷ left) more fits some e = by_after_eol (after_eol 0 (left ++ x)) refl
    where
      by_after_eol : (o : Option Bits) → after_eol 0 (left ++ x) ≡ o
          → past_tag (true ∷ left ++ x) ≡ past_tag (true ∷ left) ++ x
      by_after_eol None f = rw (f, no_eol_first left f, past_tag) refl
      by_after_eol (Some rest) f = let tagged : past_tag (true ∷ left ++ x) ≡ left ++ x = rw (f, past_tag) refl in
          let counted = sym (eols_with_tags-some most (left ++ x) rest f) ∙ ap (eols_with_tags (suc most)) (sym tagged) ∙ e in
          let (left2, is, g) = eol_first 0 left rest f (omega (
            arith,
            ap (λ (f : ℕ × Bits). length f.1) counted,
            length-one_more (eols_with_tags most (past_tag rest)),
            count_shorter counts_tagged most (past_tag rest),
            past_tag_shorter rest,
            length-append more x,
          )) in
          rw (f, g, past_tag) refl

  -- what is before the tag of RTC, or of a line
  last_tag_first : (found : ℕ × Bits) (more : Bits) (n : ℕ) → IsPair (pass_last_tag found) n (more ++ x)
      → one_after_tag more ≡ true
      → (raw : Bits) × (0 < length raw) × IsPair found n (raw ++ x) × IsPair (pass_last_tag (n, raw)) n more
  last_tag_first found [] n e one = absurd (false≢true one)
  last_tag_first (m, []) (b ∷ more) n e one = grind (arith, common_steps)
  last_tag_first (m, false ∷ rest) (b ∷ more) n e one = (b ∷ more, omega arith, e, grind (arith, common_steps))
  last_tag_first (m, true ∷ rest) (b ∷ more) n e one = either_way (leb 6 m) refl e
    where
      either_way : (six : Bool) → leb 6 m ≡ six → IsPair (cond six (m, rest) (m, true ∷ rest)) n (b ∷ more ++ x) → (raw : Bits)
          × (0 < length raw) × IsPair (m, true ∷ rest) n (raw ++ x) × IsPair (pass_last_tag (n, raw)) n (b ∷ more)
      either_way true six f = (true ∷ b ∷ more, omega arith, grind (arith, common_steps), grind (arith, common_steps))
      either_way false few f = (b ∷ more, omega arith, f, grind (arith, common_steps))

  tagged_first : (bits more : Bits) (n : ℕ) → tagged_eols (bits ++ x) ≡ (n, more ++ x) → one_after_tag more ≡ true
      → tagged_eols bits ≡ (n, more)
  tagged_first bits more n e one = let (raw, some, is, last) = last_tag_first (all_tagged (bits ++ x)) more n e one in
      ap pass_last_tag (count_same counts_tagged (length bits) (length (bits ++ x)) bits (omega arith)
      (omega (arith, length-append bits x)) ∙ count_first counts_tagged (λ most b. length b + length x ≤ most) (λ most b left fits
      lt. omega (arith, fits, lt)) raw (λ most k left fits f. tag_first most k left raw fits some f) (length (bits ++ x)) bits n
      (omega (arith, length-append bits x)) is) ∙ last

  by_first : (encoding : EncodingMode) (block : Bool) (bits more : Bits) (n : ℕ)
      → eols_by encoding block (bits ++ x) ≡ (n, more ++ x) → one_in_line encoding more ≡ true
      → eols_by encoding block bits ≡ (n, more)
  by_first Group3_1D block bits more n e one = all_first bits more n e
  by_first Group3_2D block bits more n e one = tagged_first bits more n e one
  by_first Group4 true bits more n e one = eols_first 2 bits more n e
  by_first Group4 false bits more n e one = all_first bits more n e

-- ---- So it is found whatever follows

pub all_front : (x y bits more : Bits) (n : ℕ) → all_eols (bits ++ x) ≡ (n, more ++ x) → holds_one more ≡ true
    → all_eols (bits ++ y) ≡ (n, more ++ y)
all_front x y bits more n e one = let is = all_first x bits more n e in
    all_eols-more y bits (ap (λ (f : ℕ × Bits). holds_one f.1) is ∙ one) ∙ ap (count_then_more y) is

pub eols_front : (x y : Bits) (settings : DecodeSettings) (bits more : Bits) (n : ℕ) → eols_here settings (bits ++ x) ≡ (
  n,
  more
      ++ x,
) → one_in_line settings.encoding more ≡ true → eols_here settings (bits ++ y) ≡ (n, more ++ y)
eols_front x y settings bits more n e one = let is = by_first x settings.encoding settings.end_of_block bits more n e one in
    eols_here-more y settings bits (ap (eols_are_settled settings.encoding settings.end_of_block) is
    ∙ (grind (arith, common_steps, or_right))) ∙ ap (count_then_more y) is

-- ---- A whole line is read again, whatever follows

-- what was read of a line, and that it is read again
abbrev pub ReadAgain : EncodingMode → Bool → ℕ → Row → Bits → Row → Bits → Type 0
ReadAgain encoding strict columns reference here row rest = (bits : Bits) × (here ≡ bits ++ rest)
    × ((more : Bits) → line_by encoding strict columns reference (bits ++ more) ≡ Line.whole row more)

pub line_again : (encoding : EncodingMode) (strict : Bool) (columns : ℕ) (reference : Row) (here : Bits) (row : Row) (rest : Bits)
    → line_by encoding strict columns reference here ≡ Line.whole row rest
    → ReadAgain encoding strict columns reference here row rest
line_again Group3_1D strict columns reference here row rest e =
    let again = line_1d_found strict columns here row rest e in (again.bits, again.is, again.again)
line_again Group3_2D strict columns reference [] row rest e = absurd cc
line_again Group3_2D strict columns reference (true ∷ here) row rest e =
    let again = line_1d_found strict columns here row rest e in
    (true ∷ again.bits, ap (λ (b : Bits). true ∷ b) again.is, again.again)
line_again Group3_2D strict columns reference (false ∷ here) row rest e =
    let again = line_2d_found strict columns reference here row rest e in
    (false ∷ again.bits, ap (λ (b : Bits). false ∷ b) again.is, again.again)
line_again Group4 strict columns reference here row rest e =
    let again = line_2d_found strict columns reference here row rest e in (again.bits, again.is, again.again)

-- ---- Its bits contain a one, after its tag

same_ones : (bits : Bits) → holds_a_one bits ≡ holds_one bits
same_ones [] = refl
same_ones (bit ∷ bits) = grind (arith, common_steps, same_ones bits)

-- a one at the front
pub one_stays : (front rest : Bits) → holds_one front ≡ true → holds_one (front ++ rest) ≡ true
one_stays [] rest one = absurd (false≢true one)
one_stays (true ∷ front) rest one = refl
one_stays (false ∷ front) rest one = one_stays front rest one

one_in_words : (words : List Bits) → AreWords words → 0 < length (joined words) → holds_one (joined words) ≡ true
one_in_words [] are some = absurd (omega (arith, some))
one_in_words (word ∷ words) are some = one_stays word (joined words) (sym (same_ones word) ∙ word_one word are.0)

-- a whole line consumed bits
took_bits : (line : Line) (n : ℕ) (row : Row) (rest : Bits) → TookBits n line → line ≡ Line.whole row rest → length rest < n
took_bits line n row rest took e = grind arith

-- the bits of words that were consumed
words_consumed : (words : List Bits) (bits rest : Bits) → AreWords words → bits ++ rest ≡ joined words ++ rest
    → length rest < length (bits ++ rest) → holds_one bits ≡ true
words_consumed words bits rest are is took = grind (arith, common_steps, append_cancel_right, one_in_words, length-append)

pub one_in_whole : (encoding : EncodingMode) (strict : Bool) (columns : ℕ) (reference : Row) (bits rest : Bits) (row : Row) → 0
    < columns → line_by encoding strict columns reference (bits ++ rest) ≡ Line.whole row rest → one_in_line encoding bits ≡ true
one_in_whole Group3_1D strict columns reference bits rest row wide e = words_consumed (line_found Group3_1D strict columns
    reference (bits ++ rest)) bits rest (words_synchronised.before_eol Group3_1D strict columns reference (bits ++ rest)).are
    (words_synchronised.to_the_end Group3_1D strict columns reference row (bits ++ rest) rest e)
    (grind (arith, common_steps, took_bits, line_1d_took_bits))
one_in_whole Group4 strict columns reference bits rest row wide e = words_consumed (line_found Group4 strict columns reference
    (bits ++ rest)) bits rest (words_synchronised.before_eol Group4 strict columns reference (bits ++ rest)).are
    (words_synchronised.to_the_end Group4 strict columns reference row (bits ++ rest) rest e)
    (grind (arith, common_steps, took_bits, line_2d_took_bits))
one_in_whole Group3_2D strict columns reference [] [] row wide e = absurd cc
one_in_whole Group3_2D strict columns reference [] (bit ∷ rest) row wide e = grind
    (arith, common_steps, took_bits, line_1d_took_bits, line_2d_took_bits)
one_in_whole Group3_2D strict columns reference (true ∷ bits) rest row wide e =
    one_in_whole Group3_1D strict columns reference bits rest row wide e
one_in_whole Group3_2D strict columns reference (false ∷ bits) rest row wide e =
    one_in_whole Group4 strict columns reference bits rest row wide e
