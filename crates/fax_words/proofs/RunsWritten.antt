-- Runs and one-dimensional lines, word by word.
use Rattle.fax_words.proofs.Names.{[], zero}
use Rattle.fax_words.proofs.Names.{◌≡◌, ℕ, suc, ◌+◌, ◌-◌, ◌*◌, ◌/◌, ◌%◌, ◌<◌, ◌≤◌, true, false, ltb, List, ◌∷◌, ◌++◌, length}
use Rattle.fax_words.proofs.Names.{get_or, drop, replicate, refl, sym, ap, subst, ◌∙◌, arith, append_assoc, flat_map, lt-ltb}
use Rattle.fax_words.proofs.Names.{le-ltb, slice_get-get_or, drop_some, AscendFrom-wider, opposite, AscendFrom, Color, Bits}
use Rattle.fax_words.proofs.Names.{low_bits, Word, IsWord, word_of_length, chosen_rest, chosen_run, chosen_runs, White, Black}
use Rattle.fax_words.proofs.Names.{length-drop, nil_from_length}

-- a few pixels are a terminating word
pub rest_few : (color : Color) (n : ℕ) → n < 64 → chosen_rest color n ≡ word_of_length color n
rest_few color n lt =
    let few : ltb n 64 ≡ true = lt-ltb n 64 lt in
    let same : n % 64 ≡ n = omega arith in
    rw (few, same) refl

-- more are two words
pub rest_more : (color : Color) (n : ℕ) → 64 ≤ n
    → chosen_rest color n ≡ word_of_length color (64 * (n / 64)) ++ word_of_length color (n % 64)
rest_more color n ge =
    let more : ltb n 64 ≡ false = le-ltb n 64 ge in
    let same : n - n % 64 ≡ 64 * (n / 64) = omega arith in
    rw (more, same) refl

-- a long run begins with the word of 2560 pixels
pub run_more : (color : Color) (n : ℕ) → 2560 ≤ n → chosen_run color n ≡ word_of_length color 2560 ++ chosen_run color (n - 2560)
run_more color n ge =
    let times : n / 2560 ≡ suc ((n - 2560) / 2560) = omega arith in
    let rest : n % 2560 ≡ (n - 2560) % 2560 = omega arith in
    ap (λ (k : ℕ). flat_map (λ word. word) (replicate k (word_of_length color 2560)) ++ chosen_rest color (n % 2560)) times ∙ ap
    (λ (k : ℕ). flat_map (λ word. word) (replicate (suc ((n - 2560) / 2560)) (word_of_length color 2560)) ++ chosen_rest color k)
    rest ∙ append_assoc (word_of_length color 2560)
    (flat_map (λ word. word) (replicate ((n - 2560) / 2560) (word_of_length color 2560))) (chosen_rest color ((n - 2560) % 2560))

-- a short one is its rest
pub run_rest : (color : Color) (n : ℕ) → n < 2560 → chosen_run color n ≡ chosen_rest color n
run_rest color n lt =
    let none : n / 2560 ≡ 0 = omega arith in
    let all : n % 2560 ≡ n = omega arith in
    ap (λ (k : ℕ). flat_map (λ word. word) (replicate k (word_of_length color 2560)) ++ chosen_rest color (n % 2560)) none
    ∙ ap (chosen_rest color) all

-- a short run is one word
pub short_run : (color : Color) (n : ℕ) (word : Word) → n < 64 → IsWord (word_of_length color n) word
    → low_bits word.count word.bits ≡ chosen_run color n
short_run color n word lt is = is.spells ∙ sym (run_rest color n (omega arith) ∙ rest_few color n lt)

-- what was written, and what is left to write, with one part more
pub one_part : (old now rest part left whole : Bits) → now ++ rest ≡ whole → rest ≡ part ++ left → old ≡ now ++ part
    → old ++ left ≡ whole
one_part old now rest part left whole e split more =
    ap (λ (b : Bits). b ++ left) more ∙ append_assoc now part left ∙ ap (λ (b : Bits). now ++ b) (sym split) ∙ e

-- the bits of words, and of one more after them
pub more_bits : {all before word front back : Bits} → all ≡ before ++ word → before ≡ front → word ≡ back → all ≡ front ++ back
more_bits {all} {before} {word} {front} {back} both same more =
    both ∙ ap (λ (b : Bits). b ++ word) same ∙ ap (λ (b : Bits). front ++ b) more

-- a change is left of the row's end
pub left_of_end : (first width : ℕ) (places : List ℕ) (i : ℕ) → AscendFrom first width places → i < length places
    → get_or places i width < width
left_of_end first width [] i ascend lt = absurd (omega arith)
left_of_end first width (p ∷ places) zero ascend lt = ascend.1
left_of_end first width (p ∷ places) (suc i) ascend lt = left_of_end (suc p) width places i ascend.2 (omega arith)

-- ---- One-dimensional lines.
module _ (columns place i : ℕ) (color : Color) (changes : List ℕ) (lt : i < length changes)
    (ascend : AscendFrom place columns (drop i changes)) where
  -- the next change
  pub next_is : drop i changes ≡ get_or changes i 0 ∷ drop (i + 1) changes
  next_is = drop_some changes i (get_or changes i 0) (slice_get-get_or changes i 0 lt)

  ascends : AscendFrom place columns (get_or changes i 0 ∷ drop (i + 1) changes)
  ascends = subst (λ (l : List ℕ). AscendFrom place columns l) next_is ascend

  pub next_within : get_or changes i 0 ≤ columns
  next_within = let within : get_or changes i 0 < columns = ascends.1 in omega arith

  pub next_right : place ≤ get_or changes i 0
  next_right = ascends.0

  pub next_ascends : AscendFrom (get_or changes i 0) columns (drop (i + 1) changes)
  next_ascends = AscendFrom-wider (get_or changes i 0) (suc (get_or changes i 0)) columns columns (drop (i + 1) changes)
      (omega arith) (omega arith) ascends.2

  -- the run up to it
  pub next_run : chosen_runs columns color place (drop i changes) ≡ chosen_run color (get_or changes i 0 - place)
      ++ chosen_runs columns (opposite color) (get_or changes i 0) (drop (i + 1) changes)
  next_run = ap (chosen_runs columns color place) next_is

-- and the last one
pub last_run : (columns place i : ℕ) (changes : List ℕ) → i < length changes → length changes < i + 2
    → AscendFrom place columns (drop i changes) → chosen_runs columns White place (drop i changes)
    ≡ chosen_run White (get_or changes i 0 - place) ++ chosen_run Black (columns - get_or changes i 0)
last_run columns place i changes last few ascend =
    next_run columns place i White changes last ascend
    ∙ ap (λ (l : List ℕ). chosen_run White (get_or changes i 0 - place) ++ chosen_runs columns Black (get_or changes i 0) l)
    (nil_from_length (drop (i + 1) changes) (omega (arith, few, length-drop (i + 1) changes)))

-- the changes after two of them
pub two_ascend : (columns place i : ℕ) (color : Color) (changes : List ℕ) → i + 1 < length changes
    → AscendFrom place columns (drop i changes)
    → (get_or changes (i + 1) 0 ≤ columns) × AscendFrom (get_or changes (i + 1) 0) columns (drop (i + 2) changes)
two_ascend columns place i color changes second ascend =
    let following = next_ascends columns place i color changes (omega (arith, second)) ascend in
    let two : i + 1 + 1 ≡ i + 2 = omega arith in (
      next_within columns (get_or changes i 0) (i + 1) (opposite color) changes second following,
      subst (λ (n : ℕ). AscendFrom (get_or changes (i + 1) 0) columns (drop n changes)) two
          (next_ascends columns (get_or changes i 0) (i + 1) (opposite color) changes second following),
    )

-- and the one after it
pub two_runs : (columns place i : ℕ) (color : Color) (changes : List ℕ) → i < length changes
    → i + 1 < length changes → AscendFrom place columns (drop i changes) → chosen_runs columns color place (drop i changes) ≡
    (chosen_run color (get_or changes i 0 - place) ++ chosen_run (opposite color) (get_or changes (i + 1) 0 - get_or changes i 0))
    ++ chosen_runs columns (opposite (opposite color)) (get_or changes (i + 1) 0) (drop (i + 1 + 1) changes)
two_runs columns place i color changes first second ascend =
    let one : Bits = chosen_run color (get_or changes i 0 - place) in
    let two : Bits = chosen_run (opposite color) (get_or changes (i + 1) 0 - get_or changes i 0) in
    let rest : Bits = chosen_runs columns (opposite (opposite color)) (get_or changes (i + 1) 0) (drop (i + 1 + 1) changes) in
    next_run columns place i color changes first ascend ∙ ap (λ (b : Bits). one ++ b) (next_run columns
    (get_or changes i 0) (i + 1) (opposite color) changes second (next_ascends columns place i color changes first ascend))
    ∙ sym (append_assoc one two rest)

-- four runs, white first
module _ (columns place i : ℕ) (changes : List ℕ) (fourth : i + 3 < length changes)
    (ascend : AscendFrom place columns (drop i changes)) where
  abbrev one : ℕ
  one = get_or changes i 0

  abbrev two : ℕ
  two = get_or changes (i + 1) 0

  abbrev three : ℕ
  three = get_or changes (i + 2) 0

  abbrev four : ℕ
  four = get_or changes (i + 3) 0

  third_ascends : AscendFrom two columns (drop (i + 2) changes)
  third_ascends = (two_ascend columns place i White changes (omega (arith, fourth)) ascend).1

  fourth_ascends : AscendFrom three columns (drop (i + 3) changes)
  fourth_ascends = let e : i + 2 + 1 ≡ i + 3 = omega arith in
      subst (λ (n : ℕ). AscendFrom three columns (drop n changes)) e
      (next_ascends columns two (i + 2) White changes (omega arith) third_ascends)

  pub four_ascend : AscendFrom four columns (drop (i + 4) changes)
  four_ascend = let e : i + 3 + 1 ≡ i + 4 = omega arith in
      subst (λ (n : ℕ). AscendFrom four columns (drop n changes)) e
      (next_ascends columns three (i + 3) Black changes fourth fourth_ascends)

  pub four_within : four ≤ columns
  four_within = next_within columns three (i + 3) Black changes fourth fourth_ascends

  pub four_runs : chosen_runs columns White place (drop i changes)
      ≡ ((chosen_run White (one - place) ++ chosen_run Black (two - one))
      ++ (chosen_run White (three - two) ++ chosen_run Black (four - three)))
      ++ chosen_runs columns White four (drop (i + 4) changes)
  four_runs =
      let front : Bits = chosen_run White (one - place) ++ chosen_run Black (two - one) in
      let back : Bits = chosen_run White (three - two) ++ chosen_run Black (four - three) in
      let rest : Bits = chosen_runs columns White four (drop (i + 4) changes) in
      let last : i + 2 + 1 ≡ i + 3 = omega arith in
      let after : i + 2 + 1 + 1 ≡ i + 4 = omega arith in
      let following : i + 1 + 1 ≡ i + 2 = omega arith in
      let ahead : chosen_runs columns White two (drop (i + 2) changes) ≡ back ++ rest =
      two_runs columns two (i + 2) White changes (omega arith) (omega arith) third_ascends
      ∙ ap (λ (n : ℕ). (chosen_run White (three - two) ++ chosen_run Black (get_or changes n 0 - three))
      ++ chosen_runs columns White (get_or changes n 0) (drop (i + 2 + 1 + 1) changes)) last
      ∙ ap (λ (n : ℕ). back ++ chosen_runs columns White four (drop n changes)) after in
      two_runs columns place i White changes (omega arith) (omega arith) ascend
      ∙ ap (λ (n : ℕ). front ++ chosen_runs columns White two (drop n changes)) following
      ∙ ap (λ (b : Bits). front ++ b) ahead ∙ sym (append_assoc front back rest)
