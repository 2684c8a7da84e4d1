-- What the entry of a table of pairs says of the run codes here.
use Rattle.fax_lines.proofs.Names.{common_steps}
use Rattle.fax_lines.proofs.Names.{◌≡◌, ◌≢◌, ℕ, ◌+◌, ◌-◌, ◌*◌, ◌/◌, ◌%◌, ◌≤◌, Bool, true, false, ◌&&◌, ◌++◌, length, drop}
use Rattle.fax_lines.proofs.Names.{Option, Some, None, refl, sym, ap, ◌∙◌, arith, and_parts, ltb-true, Color}
use Rattle.fax_lines.proofs.Names.{Bits, BitsAt, here, opposite, word_at, codes_of, padded, is_short, pair_entry}
use Rattle.fax_lines.proofs.Names.{append_assoc, length-append, drop-drop, moved, IsWordHere, IsShort}
use Rattle.fax_lines.proofs.Names.{TwoRuns, AreTwoRunsHere, subst}
use Rattle.fax_bits.proofs.{BitReading.ZerosInWords.codes_free, CodeWords.LooksAhead.length-padded}
use Rattle.fax_bits.proofs.CodeWords.LooksAhead.{stands_in_padded}
use Rattle.fax_bits.proofs.CodeWords.ReadCodes.{read_code_again, word_at_found}
use Rattle.std.proofs.Math.Seq.{drop-append_seam}

-- the words of two short runs are here
record AreBothSeen (color : Color) (seen : Bits) (entry : ℕ) : Type 0 where
  first : ℕ × Bits
  second : ℕ × Bits
  found : word_at (codes_of color) seen ≡ Some first
  found2 : word_at (codes_of (opposite color)) first.1 ≡ Some second
  short : IsShort first.0
  short2 : IsShort second.0
  is : entry ≡ (length seen - length second.1) * 4096 + second.0 * 64 + first.0

short_by : (run : ℕ) → is_short run ≡ true → IsShort run
short_by run e = grind (arith, common_steps, and_parts, ltb-true)

-- an entry that isn't 0 says so
words_of_entry : (color : Color) (seen : Bits) (entry : ℕ) → entry ≡ pair_entry color seen → entry ≢ 0
    → AreBothSeen color seen entry
words_of_entry color seen entry e other = by_first (word_at (codes_of color) seen) refl
  where
    by_test : (first second : ℕ × Bits) → word_at (codes_of color) seen ≡ Some first
        → word_at (codes_of (opposite color)) first.1 ≡ Some second → (t : Bool) → is_short first.0 && is_short second.0 ≡ t
        → AreBothSeen color seen entry
    by_test first second a b true t = grind (arith, common_steps, and_parts, short_by)
    by_test first second a b false t = let none : entry ≡ 0 = rw (a, pair_entry, b, t) at e in absurd (other none)

    by_second : (first : ℕ × Bits) → word_at (codes_of color) seen ≡ Some first → (o : Option (ℕ × Bits))
        → word_at (codes_of (opposite color)) first.1 ≡ o → AreBothSeen color seen entry
    by_second first a (Some second) b = by_test first second a b (is_short first.0 && is_short second.0) refl
    by_second first a None b = let none : entry ≡ 0 = rw (a, pair_entry, b) at e in absurd (other none)

    by_first : (o : Option (ℕ × Bits)) → word_at (codes_of color) seen ≡ o → AreBothSeen color seen entry
    by_first (Some first) a = by_second first a (word_at (codes_of (opposite color)) first.1) refl
    by_first None a = let none : entry ≡ 0 = rw (a, pair_entry) at e in absurd (other none)

-- two words here, one after the other
pub record AreBothHere (color : Color) (at : BitsAt) (run run2 width : ℕ) : Type 0 where
  pub between : ℕ
  pub after : ℕ
  pub first : IsWordHere color at run between
  pub second : IsWordHere (opposite color) (moved between at) run2 after
  pub bits : width ≡ between + after
  pub short : IsShort run
  pub short2 : IsShort run2
  pub few : width ≤ 12

words_there : (color : Color) (at : BitsAt) (entry : ℕ) → AreBothSeen color (padded 12 (here at)) entry → 12 ≤ length (here at)
    → AreBothHere color at (entry % 64) (entry / 64 % 64) (entry / 4096)
words_there color at entry words enough =
    let seen : Bits = padded 12 (here at) in
    let (w, has, is) = word_at_found (codes_of color) seen words.first words.found in
    let (w2, has2, is2) = word_at_found (codes_of (opposite color)) words.first.1 words.second words.found2 in
    let whole : seen ≡ (w ++ w2) ++ words.second.1 =
    is ∙ ap (λ (x : Bits). w ++ x) is2 ∙ sym (append_assoc w w2 words.second.1) in
    let len : length w + length w2 + length words.second.1 ≡ 12 =
    omega (arith, length-padded 12 (here at), ap length whole, length-append (w ++ w2) words.second.1, length-append w w2) in
    let low : entry % 64 ≡ words.first.0 = omega (arith, words.is, words.short.below, words.short2.below) in
    let high : entry / 64 % 64 ≡ words.second.0 = omega (arith, words.is, words.short.below, words.short2.below) in
    let width : entry / 4096 ≡ length w + length w2 =
    omega (arith, words.is, words.short.below, words.short2.below, len, length-padded 12 (here at)) in
    let tail : Bits = drop (length (w ++ w2)) (here at) in
    let stands : here at ≡ w ++ (w2 ++ tail) =
    stands_in_padded 12 (here at) (w ++ w2) words.second.1 whole (omega (arith, len, enough, length-append w w2))
    ∙ append_assoc w w2 tail in
    let on : here (moved (length w) at) ≡ w2 ++ tail =
    sym (drop-drop (length w) at.place at.bits) ∙ ap (drop (length w)) stands ∙ drop-append_seam w (w2 ++ tail) in
    let on2 : here (moved (length w2) (moved (length w) at)) ≡ tail =
    sym (drop-drop (length w2) (at.place + length w) at.bits) ∙ ap (drop (length w2)) on ∙ drop-append_seam w2 tail in
    rw (low, high) (record {
      between = length w;
      after = length w2;
      first = grind (arith, common_steps, read_code_again, codes_free);
      second = grind (arith, common_steps, read_code_again, codes_free);
      bits = width;
      short = words.short;
      short2 = words.short2;
      few = omega (arith, width, len);
    })

-- the entry of twelve bits that are here says which two words are here
pub pair_there : (color : Color) (at : BitsAt) (entry : ℕ) → entry ≡ pair_entry color (padded 12 (here at)) → entry ≢ 0
    → 12 ≤ length (here at) → AreBothHere color at (entry % 64) (entry / 64 % 64) (entry / 4096)
pair_there color at entry e other enough = grind (arith, common_steps, words_there, words_of_entry)

-- two runs after no bits are here
pub two_here_too : (color : Color) (at : BitsAt) (runs : TwoRuns) → AreTwoRunsHere color (moved 0 at) runs
    → AreTwoRunsHere color at runs
two_here_too color at runs there =
    let none : at.place + 0 ≡ at.place = omega arith in
    subst (λ (p : ℕ). AreTwoRunsHere color (record { bits = at.bits; place = p }) runs) none there
