-- The shortest words of a run, word by word.
use Rattle.fax_coding.proofs.Names.{◌≡◌, ℕ, zero, suc, ◌+◌, ◌-◌, ◌*◌, ◌/◌, ◌%◌, ◌<◌, ◌≤◌, true, false, ltb, ◌++◌, length, refl}
use Rattle.fax_coding.proofs.Names.{sym}
use Rattle.fax_coding.proofs.Names.{ap, ◌∙◌, arith, inl, inr, lt-ltb, le-ltb, cases_lt, length-append, Color, Bits, Word, IsWord}
use Rattle.fax_coding.proofs.Names.{word_of_length, chosen_rest, first_makeup}
use Rattle.fax_coding.proofs.Names.{Bool, leb, ◌&&◌, List, [], ◌∷◌, Code, word_of, cond, eqb, White, Black, codes_of, leb-true}
use Rattle.fax_coding.proofs.Names.{and_parts, opposite}
use Rattle.fax_coding.specs.Shortest.{shortest_words, shortest_run}
use Rattle.fax_coding.proofs.ShortestRuns.{first_long, first_late, top}
use Rattle.fax_words.proofs.RunsWritten.{rest_few, rest_more}
use Rattle.fax_coding.proofs.RunLengths.{word_length, long_word, least_run, rest_least}

words_enough : (color : Color) (some more n : ℕ) → n < 1664 * suc some → n < 1664 * suc more
    → shortest_words color some n ≡ shortest_words color more n
unfolding shortest_words
words_enough color zero zero n lt one = refl
words_enough color zero (suc more) n lt one = let e : ltb n 2624 ≡ true = lt-ltb n 2624 (omega arith) in rw e refl
words_enough color (suc some) zero n lt one = let e : ltb n 2624 ≡ true = lt-ltb n 2624 (omega arith) in rw e refl
words_enough color (suc some) (suc more) n lt one = elim (cases_lt n 2624) [
  | inl few ↦ let e : ltb n 2624 ≡ true = lt-ltb n 2624 few in rw e refl
  | inr many ↦
      let e : ltb n 2624 ≡ false = le-ltb n 2624 many in
      let first : ℕ = first_makeup color (n / 64) in
      let long = first_long color (n / 64) in
      rw e (ap (λ (b : Bits). word_of_length color (64 * first) ++ b)
      (words_enough color some more (n - 64 * first) (omega (arith, long.0, lt)) (omega (arith, long.0, one))))
]

-- a long run begins with its first make-up word
pub shortest_more : (color : Color) (n times : ℕ) → 2624 ≤ n → times ≡ first_makeup color (n / 64)
    → shortest_run color n ≡ word_of_length color (64 * times) ++ shortest_run color (n - 64 * times)
unfolding shortest_run shortest_words
shortest_more color n times many is =
    let first : ℕ = first_makeup color (n / 64) in
    let long = first_long color (n / 64) in
    let e : ltb n 2624 ≡ false = le-ltb n 2624 many in
    let one : n / 1664 ≡ suc (n / 1664 - 1) = omega (arith, many) in
    let begun : shortest_words color (suc (n / 1664 - 1)) n
    ≡ word_of_length color (64 * first) ++ shortest_words color (n / 1664 - 1) (n - 64 * first) = rw e refl in
    ap (λ (m : ℕ). shortest_words color m n) one ∙ begun
    ∙ ap (λ (b : Bits). word_of_length color (64 * first) ++ b) (words_enough color (n / 1664 - 1) ((n - 64 * first) / 1664)
    (n - 64 * first) (omega (arith, long.0, many)) (omega (arith, long.0)))
    ∙ ap (λ (m : ℕ). word_of_length color (64 * m) ++ shortest_run color (n - 64 * m)) (sym is)

words_few : (color : Color) (words n : ℕ) → n < 2624 → shortest_words color words n ≡ chosen_rest color n
unfolding shortest_words
words_few color zero n few = refl
words_few color (suc words) n few = let e : ltb n 2624 ≡ true = lt-ltb n 2624 few in rw e refl

-- a shorter one is two words at most
pub shortest_few : (color : Color) (n : ℕ) → n < 2624 → shortest_run color n ≡ chosen_rest color n
unfolding shortest_run
shortest_few color n few = words_few color (n / 1664) n few

-- and a few pixels are one
pub shortest_one : (color : Color) (n : ℕ) → n < 64 → shortest_run color n ≡ word_of_length color n
shortest_one color n few = shortest_few color n (omega (arith, few)) ∙ rest_few color n few

-- ---- Their bits.
-- one word less
pub bits_more : (color : Color) (n times bits : ℕ) (word : Word) → 2624 ≤ n → times ≡ first_makeup color (n / 64)
    → IsWord (word_of_length color (64 * times)) word
    → bits + word.count + length (shortest_run color (n - 64 * times)) ≡ bits + length (shortest_run color n)
bits_more color n times bits word many is coded =
    omega (
      arith,
      ap length (shortest_more color n times many is),
      length-append (word_of_length color (64 * times)) (shortest_run color (n - 64 * times)),
      word_length (word_of_length color (64 * times)) word coded,
    )

-- words of one length at the front
pub white_front : (words n : ℕ) → 1664 * words ≤ n - 2688
    → 6 * words + length (shortest_run White (n - 1664 * words)) ≡ length (shortest_run White n)
unfolding top
white_front zero n le = let same : n - 1664 * zero ≡ n = omega arith in
    omega (arith, ap (λ (m : ℕ). length (shortest_run White m)) same)
white_front (suc words) n le =
    let rest : n - 1664 - 1664 * words ≡ n - 1664 * suc words = omega arith in
    let six : length (word_of_length White 1664) ≡ 6 = refl in
    omega (
      arith,
      white_front words (n - 1664) (omega (arith, le)),
      ap (λ (m : ℕ). length (shortest_run White m)) rest,
      ap length (shortest_more White n 26 (omega (arith, le)) (sym (first_late White (n / 64) (omega (arith, le))))),
      length-append (word_of_length White 1664) (shortest_run White (n - 1664)),
      six,
    )

pub black_front : (words n : ℕ) → 2560 * words ≤ n - 5376
    → 12 * words + length (shortest_run Black (n - 2560 * words)) ≡ length (shortest_run Black n)
unfolding top
black_front zero n le = let same : n - 2560 * zero ≡ n = omega arith in
    omega (arith, ap (λ (m : ℕ). length (shortest_run Black m)) same)
black_front (suc words) n le =
    let rest : n - 2560 - 2560 * words ≡ n - 2560 * suc words = omega arith in
    omega (
      arith,
      black_front words (n - 2560) (omega (arith, le)),
      ap (λ (m : ℕ). length (shortest_run Black m)) rest,
      ap length (shortest_more Black n 40 (omega (arith, le)) (sym (first_late Black (n / 64) (omega (arith, le))))),
      length-append (word_of_length Black 2560) (shortest_run Black (n - 2560)),
      long_word Black,
    )

pub rest_one : (color : Color) (n : ℕ) (last : Word) → n < 64 → IsWord (word_of_length color (n % 64)) last
    → last.count ≡ length (chosen_rest color n)
rest_one color n last few is =
    let same : n % 64 ≡ n = omega (arith, few) in
    omega (
      arith,
      ap length (rest_few color n few),
      ap (λ (m : ℕ). length (word_of_length color m)) same,
      word_length (word_of_length color (n % 64)) last is,
    )

pub rest_two : (color : Color) (n : ℕ) (first last : Word) → 64 ≤ n → IsWord (word_of_length color (64 * (n / 64))) first
    → IsWord (word_of_length color (n % 64)) last → last.count + first.count ≡ length (chosen_rest color n)
rest_two color n first last many one two =
    omega (
      arith,
      ap length (rest_more color n many),
      length-append (word_of_length color (64 * (n / 64))) (word_of_length color (n % 64)),
      word_length (word_of_length color (64 * (n / 64))) first one,
      word_length (word_of_length color (n % 64)) last two,
    )

-- ---- A bound.
are_few : List (Code ℕ) → Bool
are_few [] = true
are_few (c ∷ list) = leb (length c.word) 13 && are_few list

word_few : (test : ℕ → Bool) (list : List (Code ℕ)) → are_few list ≡ true → length (word_of test list) ≤ 13
unfolding are_few
word_few test [] all = omega arith
word_few test (c ∷ list) all =
    let parts = and_parts (leb (length c.word) 13) (are_few list) all in
    by_test (test c.value) c.word (word_of test list) (leb-true (length c.word) 13 parts.0) (word_few test list parts.1)
  where
    by_test : (t : Bool) (first second : Bits) → length first ≤ 13 → length second ≤ 13 → length (cond t first second) ≤ 13
    by_test true first second a b = a
    by_test false first second a b = b

length_few : (color : Color) (n : ℕ) → length (word_of_length color n) ≤ 13
unfolding are_few
length_few White n = word_few (λ m. eqb m n) (codes_of White) refl
length_few Black n = word_few (λ m. eqb m n) (codes_of Black) refl

rest_few_bits : (color : Color) (n : ℕ) → length (chosen_rest color n) ≤ 26
rest_few_bits color n = elim (cases_lt n 64) [
  | inl lt ↦ omega (arith, ap length (rest_few color n lt), length_few color n)
  | inr ge ↦
      omega (
        arith,
        ap length (rest_more color n ge),
        length-append (word_of_length color (64 * (n / 64))) (word_of_length color (n % 64)),
        length_few color (64 * (n / 64)),
        length_few color (n % 64),
      )
]

-- what a run has at least, and that it has no more bits than its pixels and 26
few_bounds : (color : Color) (n : ℕ) → n < 2624
    → (least_run color ≤ length (shortest_run color n)) × (length (shortest_run color n) ≤ n + 26)
few_bounds color n few =
    let is = ap length (shortest_few color n few) in
    (omega (arith, is, rest_least color n), omega (arith, is, rest_few_bits color n))

pub run_bounds : (color : Color) (bound n : ℕ) → n ≤ bound
    → (least_run color ≤ length (shortest_run color n)) × (length (shortest_run color n) ≤ n + 26)
run_bounds color zero n le = few_bounds color n (omega (arith, le))
run_bounds color (suc bound) n le = elim (cases_lt n 2624) [
  | inl few ↦ few_bounds color n few
  | inr many ↦
      let first : ℕ = first_makeup color (n / 64) in
      let long = first_long color (n / 64) in
      let rest = run_bounds color bound (n - 64 * first) (omega (arith, le, long.0)) in
      let is = ap length (shortest_more color n first many refl) in
      let sum = length-append (word_of_length color (64 * first)) (shortest_run color (n - 64 * first)) in
      (omega (arith, rest.0, is, sum), omega (arith, rest.1, long, many, is, sum, length_few color (64 * first)))
]

pub least_of_run : (color : Color) (n : ℕ) → least_run color ≤ length (shortest_run color n)
least_of_run color n = (run_bounds color n n (omega arith)).0

-- and two runs, one of each colour
pub two_runs_least : (color : Color) (m n : ℕ) → 6 ≤ length (shortest_run color m) + length (shortest_run (opposite color) n)
unfolding least_run
two_runs_least White m n = omega (arith, least_of_run White m, least_of_run Black n)
two_runs_least Black m n = omega (arith, least_of_run Black m, least_of_run White n)
