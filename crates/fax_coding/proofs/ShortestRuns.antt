-- The shortest words of a run spell it, and no words that do have fewer bits.
use Rattle.fax_coding.proofs.Names.{◌≡◌, ℕ, zero, suc, ◌+◌, ◌-◌, ◌*◌, ◌/◌, ◌%◌, ◌<◌, ◌≤◌, Bool, true, false, cond, eqb, leb, ltb}
use Rattle.fax_coding.proofs.Names.{◌&&◌, ◌||◌, List, [], ◌∷◌, ◌++◌, length, refl, sym, ap, subst, ◌∙◌, arith, inl, inr}
use Rattle.fax_coding.proofs.Names.{agree_below_at, and_parts, eqb-true, leb-true, lt-ltb, le-leb, le-ltb}
use Rattle.fax_coding.proofs.Names.{cases_lt, length-append, Color, White, Black, Bits, Code, Has, codes_of, Spells}
use Rattle.fax_coding.proofs.Names.{word_of_length, chosen_rest, first_makeup, shortest_words, shortest_run, ShortestRuns}
use Rattle.fax_coding.proofs.ChosenWords.{makeup_word, rest_spelled}
use Rattle.std.proofs.lemmas.Bool.{lt-leb, ne_eqb}
use Rattle.fax_coding.proofs.Names.{chosen_run, ◌⊎◌, ltb-true}
use Rattle.fax_coding.proofs.RunLengths.{run_parts}
use Rattle.fax_words.proofs.RunsWritten.{run_more, run_rest}
use Rattle.std.proofs.lemmas.Bool.{or_cases}

-- ---- Bits of make-up words, in times of 64 pixels.
-- the bits of the make-up word of this many times 64 pixels; none has no word
one : Color → ℕ → ℕ
one color zero = 0
one color (suc times) = length (word_of_length color (64 * suc times))

-- the bits of the terminating word
ends : Color → ℕ → ℕ
ends color n = length (word_of_length color n)

-- the bits of the shortest make-up words
best : Color → ℕ → ℕ → ℕ
best color zero times = one color times
best color (suc words) times =
    cond (leb 41 times) (one color (first_makeup color times) + best color words (times - first_makeup color times))
    (one color times)

total : Color → ℕ → ℕ
total color times = best color times times

one_none : (color : Color) → one color 0 ≡ 0
unfolding one
one_none color = refl

-- ---- The first make-up word.
either_long : (b : Bool) (m n : ℕ) → (26 ≤ m) × (m ≤ 40) → (26 ≤ n) × (n ≤ 40) → (26 ≤ cond b m n) × (cond b m n ≤ 40)
either_long true m n left right = left
either_long false m n left right = right

pub first_long : (color : Color) (times : ℕ) → (26 ≤ first_makeup color times) × (first_makeup color times ≤ 40)
first_long White times = either_long (leb 66 times && leb times 67) 40 26 (omega arith, omega arith) (omega arith, omega arith)
first_long Black times =
    either_long (eqb times 56 || eqb times 84) 28 _ (omega arith, omega arith)
    (either_long (eqb times 57 || eqb times 85) 29 _ (omega arith, omega arith)
    (either_long (leb 48 times && leb times 67 || leb 82 times && leb times 107 || leb 121 times && leb times 123) 30 40
    (omega arith, omega arith) (omega arith, omega arith)))

-- the word that comes first in all longer runs
unfoldable pub top : Color → ℕ
top White = 26
top Black = 40

-- and from which length on, in times of 64 pixels
abbrev pub late : Color → ℕ
late White = 68
late Black = 124

pub first_late : (color : Color) (times : ℕ) → late color ≤ times → first_makeup color times ≡ top color
unfolding top
first_late White times many =
    let a : leb times 67 ≡ false = lt-leb times 67 (omega arith) in
    let b : leb 66 times ≡ true = le-leb 66 times (omega arith) in
    rw (a, b) refl
first_late Black times many =
    let a : eqb times 56 ≡ false = ne_eqb times 56 (omega arith) in
    let b : eqb times 84 ≡ false = ne_eqb times 84 (omega arith) in
    let c : eqb times 57 ≡ false = ne_eqb times 57 (omega arith) in
    let d : eqb times 85 ≡ false = ne_eqb times 85 (omega arith) in
    let e : leb times 67 ≡ false = lt-leb times 67 (omega arith) in
    let f : leb times 107 ≡ false = lt-leb times 107 (omega arith) in
    let g : leb times 123 ≡ false = lt-leb times 123 (omega arith) in
    let h : leb 48 times ≡ true = le-leb 48 times (omega arith) in
    let i : leb 82 times ≡ true = le-leb 82 times (omega arith) in
    let j : leb 121 times ≡ true = le-leb 121 times (omega arith) in
    rw (a, b, c, d, e, f, g, h, i, j) refl

-- ---- The least sum of bits.
best_few : (color : Color) (words times : ℕ) → times ≤ 40 → best color words times ≡ one color times
unfolding best
best_few color zero times few = refl
best_few color (suc words) times few = let e : leb 41 times ≡ false = lt-leb 41 times (omega arith) in rw e refl

best_many : (color : Color) (words times : ℕ) → 41 ≤ times → best color (suc words) times
    ≡ one color (first_makeup color times) + best color words (times - first_makeup color times)
unfolding best
best_many color words times many = let e : leb 41 times ≡ true = le-leb 41 times many in rw e refl

best_enough : (color : Color) (some more times : ℕ) → times ≤ 26 * some + 40 → times ≤ 26 * more + 40
    → best color some times ≡ best color more times
best_enough color zero more times le le2 = best_few color zero times le ∙ sym (best_few color more times le)
best_enough color (suc some) zero times le le2 = best_few color (suc some) times le2 ∙ sym (best_few color zero times le2)
best_enough color (suc some) (suc more) times le le2 = elim (cases_lt times 41) [
  | inl few ↦ best_few color (suc some) times (omega arith) ∙ sym (best_few color (suc more) times (omega arith))
  | inr many ↦
      let first : ℕ = first_makeup color times in
      let long = first_long color times in
      let rest = best_enough color some more (times - first) (omega (arith, long.0, long.1)) (omega (arith, long.0, long.1)) in
      best_many color some times many ∙ ap (λ (m : ℕ). one color first + m) rest ∙ sym (best_many color more times many)
]

total_few : (color : Color) (times : ℕ) → times ≤ 40 → total color times ≡ one color times
unfolding total
total_few color times few = best_few color times times few

total_many : (color : Color) (times : ℕ) → 41 ≤ times
    → total color times ≡ one color (first_makeup color times) + total color (times - first_makeup color times)
unfolding total
total_many color zero many = absurd (omega arith)
total_many color (suc times) many =
    let first : ℕ = first_makeup color (suc times) in
    let long = first_long color (suc times) in
    best_many color times (suc times) many ∙ ap (λ (m : ℕ). one color first + m)
    (best_enough color times (suc times - first) (suc times - first) (omega (arith, long.0)) (omega arith))

-- ---- One more word costs at least what it adds to the least sum.
-- the values of a function at so many numbers, from one on
values : (ℕ → ℕ) → ℕ → ℕ → List ℕ
values f from zero = []
values f from (suc count) = f from ∷ values f (suc from) count

-- each of some sums is at most the first one and the bits of a word
fit : ℕ → List ℕ → List ℕ → Bool
fit first [] words = true
fit first (sum ∷ sums) [] = true
fit first (sum ∷ sums) (word ∷ words) = leb sum (first + word) && fit first sums words

-- so are those from each sum on, each of which is computed once
all_fit : List ℕ → List ℕ → Bool
all_fit [] words = true
all_fit (sum ∷ sums) words = fit sum (sum ∷ sums) words && all_fit sums words

fit_at : (f g : ℕ → ℕ) (sum from from2 count count2 k : ℕ) → fit sum (values f from count) (values g from2 count2) ≡ true
    → k < count → k < count2 → f (from + k) ≤ sum + g (from2 + k)
unfolding values fit
fit_at f g sum from from2 zero count2 k e lt lt2 = absurd (omega arith)
fit_at f g sum from from2 (suc count) zero k e lt lt2 = absurd (omega arith)
fit_at f g sum from from2 (suc count) (suc count2) zero e lt lt2 =
    let both = and_parts (leb (f from) (sum + g from2)) (fit sum (values f (suc from) count) (values g (suc from2) count2)) e in
    let at : from + zero ≡ from = omega arith in
    let at2 : from2 + zero ≡ from2 = omega arith in
    rw (at, at2) (leb-true (f from) (sum + g from2) both.0)
fit_at f g sum from from2 (suc count) (suc count2) (suc k) e lt lt2 =
    let both = and_parts (leb (f from) (sum + g from2)) (fit sum (values f (suc from) count) (values g (suc from2) count2)) e in
    let at : from + suc k ≡ suc from + k = omega arith in
    let at2 : from2 + suc k ≡ suc from2 + k = omega arith in
    rw (at, at2) (fit_at f g sum (suc from) (suc from2) count count2 k both.1 (omega arith) (omega arith))

all_fit_at : (f g : ℕ → ℕ) (from count count2 j k : ℕ) → all_fit (values f from count) (values g 0 count2) ≡ true
    → j + k < count → k < count2 → f ((from + j) + k) ≤ f (from + j) + g k
unfolding values all_fit
all_fit_at f g from zero count2 j k e lt lt2 = absurd (omega arith)
all_fit_at f g from (suc count) count2 zero k e lt lt2 =
    let both = and_parts (fit (f from) (f from ∷ values f (suc from) count) (values g 0 count2))
    (all_fit (values f (suc from) count) (values g 0 count2)) e in
    let at : from + zero ≡ from = omega arith in
    let none : 0 + k ≡ k = omega arith in
    let here = fit_at f g (f from) from 0 (suc count) count2 k both.0 (omega arith) lt2 in
    rw at (subst (λ (m : ℕ). f (from + k) ≤ f from + g m) none here)
all_fit_at f g from (suc count) count2 (suc j) k e lt lt2 =
    let both = and_parts (fit (f from) (f from ∷ values f (suc from) count) (values g 0 count2))
    (all_fit (values f (suc from) count) (values g 0 count2)) e in
    let at : from + suc j ≡ suc from + j = omega arith in
    rw at (all_fit_at f g (suc from) count count2 j k both.1 (omega arith) lt2)

adds_early : (color : Color) → all_fit (values (total color) 0 164) (values (one color) 0 41) ≡ true
unfolding values fit all_fit total best one
adds_early White = refl
adds_early Black = refl

adds_first : (color : Color) (times more : ℕ) → times < 124 → more ≤ 40
    → total color (times + more) ≤ total color times + one color more
adds_first color times more early few =
    let none : 0 + times ≡ times = omega arith in
    let here = all_fit_at (total color) (one color) 0 164 41 times more (adds_early color) (omega arith) (omega arith) in
    subst (λ (m : ℕ). total color (m + more) ≤ total color m + one color more) none here

top_long : (color : Color) → (26 ≤ top color) × (top color ≤ 40) × (late color ≤ 124)
unfolding top
top_long White = (omega arith, omega arith, omega arith)
top_long Black = (omega arith, omega arith, omega arith)

late_word : (color : Color) (times : ℕ) → 124 ≤ times
    → total color times ≡ one color (top color) + total color (times - top color)
late_word color times many =
    total_many color times (omega (arith, many))
    ∙ ap (λ (m : ℕ). one color m + total color (times - m)) (first_late color times (omega (arith, many, (top_long color).2)))

one_some : (color : Color) (times : ℕ) → 0 < times → one color times ≡ length (word_of_length color (64 * times))
unfolding one
one_some color zero lt = absurd (omega arith)
one_some color (suc times) lt = refl

adds : (color : Color) (bound times more : ℕ) → times ≤ bound → more ≤ 40
    → total color (times + more) ≤ total color times + one color more
adds color zero times more le few = adds_first color times more (omega arith) few
adds color (suc bound) times more le few = elim (cases_lt times 124) [
  | inl early ↦ adds_first color times more early few
  | inr late ↦
      let word : ℕ = top color in
      let long = top_long color in
      let less = adds color bound (times - word) more (omega (arith, long.0)) few in
      let one_more : (times - word) + more ≡ (times + more) - word = omega (arith, long.1, late) in
      let one_word = late_word color times late in
      let other_word = late_word color (times + more) (omega (arith, late)) in
      let is : total color ((times - word) + more) ≡ total color ((times + more) - word) = ap (total color) one_more in
      omega (arith, less, one_word, other_word, is)
]

-- ---- Runs.
rest_bits : (color : Color) (n : ℕ) → n < 2624 → length (chosen_rest color n) ≡ total color (n / 64) + ends color (n % 64)
unfolding one ends
rest_bits color n lt = elim (cases_lt n 64) [
  | inl few ↦
      let e : ltb n 64 ≡ true = lt-ltb n 64 few in
      let none : n / 64 ≡ 0 = omega arith in
      let zero_bits = total_few color 0 (omega arith) in
      rw (e, none, zero_bits) (omega arith)
  | inr many ↦
      let e : ltb n 64 ≡ false = le-ltb n 64 many in
      let at : n - n % 64 ≡ 64 * (n / 64) = omega arith in
      let word : one color (n / 64) ≡ length (word_of_length color (64 * (n / 64))) = one_some color (n / 64) (omega arith) in
      let sum = total_few color (n / 64) (omega arith) in
      rw (e, at) (length-append (word_of_length color (64 * (n / 64))) (word_of_length color (n % 64))
      ∙ ap (λ (m : ℕ). m + ends color (n % 64)) (sym (sum ∙ word)))
]

-- words spell their run, with that sum of bits
words_are : (color : Color) (words n : ℕ) → n < 1664 * suc words → Spells color n (shortest_words color words n)
    × (length (shortest_words color words n) ≡ total color (n / 64) + ends color (n % 64))
unfolding shortest_words
words_are color zero n lt = (rest_spelled color n (omega arith), rest_bits color n (omega arith))
words_are color (suc words) n lt = elim (cases_lt n 2624) [
  | inl few ↦ let e : ltb n 2624 ≡ true = lt-ltb n 2624 few in rw e (rest_spelled color n few, rest_bits color n few)
  | inr many ↦
      let e : ltb n 2624 ≡ false = le-ltb n 2624 many in
      let first : ℕ = first_makeup color (n / 64) in
      let long = first_long color (n / 64) in
      let left : ℕ = n - 64 * first in
      let front : Bits = word_of_length color (64 * first) in
      let on = words_are color words left (omega (arith, long.0, lt)) in
      let times : left / 64 ≡ n / 64 - first = omega (arith, long.1) in
      let same : left % 64 ≡ n % 64 = omega (arith, long.1) in
      let makeup = makeup_word color (64 * first) (omega (arith, long.0)) (omega (arith, long.1)) (omega arith) in
      let whole : 64 * first + left ≡ n = omega (arith, long.1) in
      rw e (
        subst (λ (m : ℕ). Spells color m (front ++ shortest_words color words left)) whole
            (Spells.makeup (64 * first) front makeup (omega (arith, long.0)) on.0),
        omega (
          arith,
          length-append front (shortest_words color words left),
          on.1,
          ap (total color) times,
          ap (ends color) same,
          total_many color (n / 64) (omega arith),
          one_some color first (omega (arith, long.0)),
        ),
      )
]

-- ---- Any words.
-- a word has no fewer bits than the one that is cited, and a make-up word has up to 40 times 64 pixels
is_listed : Color → ℕ → Bits → Bool
is_listed color n word =
    cond (ltb n 64) (leb (ends color n) (length word))
    (eqb (n % 64) 0 && (leb (n / 64) 40 && leb (one color (n / 64)) (length word)))

are_listed : Color → List (Code ℕ) → Bool
are_listed color [] = true
are_listed color (c ∷ list) = is_listed color c.value c.word && are_listed color list

listed_here : (color : Color) (list : List (Code ℕ)) (n : ℕ) (word : Bits) → are_listed color list ≡ true → Has list n word
    → is_listed color n word ≡ true
unfolding are_listed
listed_here color [] n word all has = absurd has
listed_here color (c ∷ list) n word all (inl (value, spelled)) =
    let parts = and_parts (is_listed color c.value c.word) (are_listed color list) all in
    subst (λ (m : ℕ). is_listed color m word ≡ true) value
    (subst (λ (b : Bits). is_listed color c.value b ≡ true) spelled parts.0)
listed_here color (c ∷ list) n word all (inr has) =
    let parts = and_parts (is_listed color c.value c.word) (are_listed color list) all in
    listed_here color list n word parts.1 has

has_listed : (color : Color) (n : ℕ) (word : Bits) → Has (codes_of color) n word → is_listed color n word ≡ true
unfolding are_listed is_listed one ends
has_listed White n word has = listed_here White (codes_of White) n word refl has
has_listed Black n word has = listed_here Black (codes_of Black) n word refl has

terminating_listed : (color : Color) (n : ℕ) (word : Bits) → n < 64 → is_listed color n word ≡ true → ends color n ≤ length word
unfolding is_listed
terminating_listed color n word few is =
    let e : ltb n 64 ≡ true = lt-ltb n 64 few in
    leb-true (ends color n) (length word) (rw e at is)

makeup_listed : (color : Color) (n : ℕ) (word : Bits) → 64 ≤ n → is_listed color n word ≡ true
    → (n % 64 ≡ 0) × (n / 64 ≤ 40) × (one color (n / 64) ≤ length word)
unfolding is_listed
makeup_listed color n word many is =
    let e : ltb n 64 ≡ false = le-ltb n 64 many in
    let parts = and_parts (eqb (n % 64) 0) (leb (n / 64) 40 && leb (one color (n / 64)) (length word)) (rw e at is) in
    let others = and_parts (leb (n / 64) 40) (leb (one color (n / 64)) (length word)) parts.1 in (
      eqb-true (n % 64) 0 parts.0,
      leb-true (n / 64) 40 others.0,
      leb-true (one color (n / 64)) (length word) others.1,
    )

no_fewer : (color : Color) (n : ℕ) (bits : Bits) → Spells color n bits
    → total color (n / 64) + ends color (n % 64) ≤ length bits
no_fewer color n bits (Spells.terminating m word has small) =
    let le = terminating_listed color m word small (has_listed color m word has) in
    let none : m / 64 ≡ 0 = omega (arith, small) in
    let same : m % 64 ≡ m = omega (arith, small) in
    let few = total_few color 0 (omega arith) in
    let nothing : total color (m / 64) ≡ 0 = ap (total color) none ∙ (few ∙ one_none color) in
    let last : ends color (m % 64) ≡ ends color m = ap (ends color) same in
    omega (arith, le, nothing, last)
no_fewer color n bits (Spells.makeup m word {n = k} {bits = next} has large rest) =
    let is = makeup_listed color m word large (has_listed color m word has) in
    let whole : m % 64 ≡ 0 = is.0 in
    let times : (m + k) / 64 ≡ k / 64 + m / 64 = omega (arith, whole) in
    let same : (m + k) % 64 ≡ k % 64 = omega (arith, whole) in
    let on = no_fewer color k next rest in
    let more = adds color (k / 64) (k / 64) (m / 64) (omega arith) is.1 in
    let sum : total color ((m + k) / 64) ≡ total color (k / 64 + m / 64) = ap (total color) times in
    let last : ends color ((m + k) % 64) ≡ ends color (k % 64) = ap (ends color) same in
    omega (arith, on, more, sum, last, is.2, length-append word next)

-- ---- T.4's words, unless they have more bits.
-- the bits of the make-up words by T.4's rule
usual : Color → ℕ → ℕ
usual color times = times / 40 * 12 + one color (times % 40)

usual_bits : (color : Color) (n : ℕ) → length (chosen_run color n) ≡ usual color (n / 64) + ends color (n % 64)
unfolding usual
usual_bits color n =
    let rest : ℕ = n % 2560 in
    let times : rest / 64 ≡ n / 64 % 40 = omega arith in
    let same : rest % 64 ≡ n % 64 = omega arith in
    let long : n / 2560 ≡ n / 64 / 40 = omega arith in
    let after = rest_bits color rest (omega arith) in
    let few = total_few color (rest / 64) (omega arith) in
    let word : one color (rest / 64) ≡ one color (n / 64 % 40) = ap (one color) times in
    let last : ends color (rest % 64) ≡ ends color (n % 64) = ap (ends color) same in
    omega (arith, run_parts color n, long, after, few, word, last)

-- the first word is T.4's, or T.4's words have more bits
is_dearer : Color → ℕ → Bool
is_dearer color times = ltb times 41 || (eqb (first_makeup color times) 40 || ltb (total color times) (usual color times))

dearer_early : (color : Color) (times : ℕ) → times < 124 → is_dearer color times ≡ true
unfolding is_dearer usual total best one
dearer_early White times lt = agree_below_at (is_dearer White) (λ m. true) 124 times refl lt
dearer_early Black times lt = agree_below_at (is_dearer Black) (λ m. true) 124 times refl lt

dearer_first : (color : Color) (times : ℕ) → times < 124 → 41 ≤ times
    → (first_makeup color times ≡ 40) ⊎ (total color times < usual color times)
unfolding is_dearer
dearer_first color times lt many =
    let few : ltb times 41 ≡ false = le-ltb times 41 many in
    let is : (eqb (first_makeup color times) 40 || ltb (total color times) (usual color times)) ≡ true
    = (let all = dearer_early color times lt in rw few at all) in
    elim (or_cases (eqb (first_makeup color times) 40) (ltb (total color times) (usual color times)) is) [
      | inl same ↦ inl (eqb-true (first_makeup color times) 40 same)
      | inr dear ↦ inr (ltb-true (total color times) (usual color times) dear)
    ]

usual_more : (color : Color) (times : ℕ) → 40 ≤ times → usual color times ≡ usual color (times - 40) + 12
unfolding usual
usual_more color times many =
    let rest : times % 40 ≡ (times - 40) % 40 = omega arith in
    let word : one color (times % 40) ≡ one color ((times - 40) % 40) = ap (one color) rest in
    omega (arith, word)

longest : (color : Color) → one color 40 ≡ 12
unfolding one
longest White = refl
longest Black = refl

white_dearer : (bound times : ℕ) → times ≤ bound → 68 ≤ times → total White times < usual White times
unfolding top
white_dearer zero times le many = absurd (omega arith)
white_dearer (suc bound) times le many = elim (cases_lt times 124) [
  | inl early ↦
      elim (dearer_first White times early (omega arith)) [
        | inl same ↦ absurd (omega (arith, same, first_late White times many))
        | inr dear ↦ dear
      ]
  | inr late ↦
      let less = white_dearer bound (times - 40) (omega arith) (omega arith) in
      let one_more = adds White (times - 40) (times - 40) 40 (omega arith) (omega arith) in
      let whole : (times - 40) + 40 ≡ times = omega arith in
      let is : total White ((times - 40) + 40) ≡ total White times = ap (total White) whole in
      omega (arith, less, one_more, is, usual_more White times (omega arith), longest White)
]

dearer : (color : Color) (times : ℕ) → 41 ≤ times → (first_makeup color times ≡ 40) ⊎ (total color times < usual color times)
unfolding top
dearer White times many = elim (cases_lt times 124) [
  | inl early ↦ dearer_first White times early many
  | inr late ↦ inr (white_dearer times times (omega arith) (omega arith))
]
dearer Black times many = elim (cases_lt times 124) [
  | inl early ↦ dearer_first Black times early many
  | inr late ↦ inl (first_late Black times late)
]

-- a word of 2560 pixels and a terminating word
chosen_seam : (color : Color) (n : ℕ) → 2560 ≤ n → n < 2624 → chosen_rest color n ≡ chosen_run color n
chosen_seam color n many few =
    let last : ℕ = n - 2560 in
    let e : ltb n 64 ≡ false = le-ltb n 64 (omega arith) in
    let f : ltb last 64 ≡ true = lt-ltb last 64 (omega arith) in
    let word : n - n % 64 ≡ 2560 = omega arith in
    let same : n % 64 ≡ last = omega arith in
    let kept : last % 64 ≡ last = omega arith in
    let mine : chosen_rest color n ≡ word_of_length color 2560 ++ word_of_length color last
    = rw (e, word, same) refl in
    let after : chosen_rest color last ≡ word_of_length color last = rw (f, kept) refl in
    mine ∙ (ap (λ (b : Bits). word_of_length color 2560 ++ b) (sym (run_rest color last (omega arith) ∙ after))
    ∙ sym (run_more color n many))

usual_kept : (color : Color) (words n : ℕ) → n < 1664 * suc words
    → length (chosen_run color n) ≤ length (shortest_words color words n) → shortest_words color words n ≡ chosen_run color n
unfolding shortest_words
usual_kept color zero n lt le = sym (run_rest color n (omega arith))
usual_kept color (suc words) n lt le = elim (cases_lt n 2624) [
  | inl few ↦
      let e : ltb n 2624 ≡ true = lt-ltb n 2624 few in
      rw e (elim (cases_lt n 2560) [
        | inl short ↦ sym (run_rest color n short)
        | inr seam ↦ chosen_seam color n seam few
      ])
  | inr many ↦
      let e : ltb n 2624 ≡ false = le-ltb n 2624 many in
      elim (dearer color (n / 64) (omega arith)) [
        | inl same ↦
            let left : ℕ = n - 2560 in
            let front : Bits = word_of_length color 2560 in
            let mine : shortest_words color (suc words) n ≡ front ++ shortest_words color words left = rw (e, same) refl in
            let other = run_more color n (omega arith) in
            let on = usual_kept color words left (omega (arith, lt)) (omega (
              arith,
              le,
              ap length mine,
              ap length other,
              length-append front (shortest_words color words left),
              length-append front (chosen_run color left),
            )) in
            mine ∙ (ap (λ (b : Bits). front ++ b) on ∙ sym other)
        | inr dear ↦ absurd (omega (arith, le, dear, (words_are color (suc words) n lt).1, usual_bits color n))
      ]
]

-- the shortest words of a run
pub shortest_runs : ShortestRuns
unfolding shortest_run
shortest_runs color n =
    let are = words_are color (n / 1664) n (omega arith) in
    (are.0, λ bits spells. omega (arith, are.1, no_fewer color n bits spells), usual_kept color (n / 1664) n (omega arith))
