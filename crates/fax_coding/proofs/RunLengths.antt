-- How many bits runs take.
use Rattle.fax_coding.proofs.Names.{◌≡◌, ℕ, zero, suc, ◌+◌, ◌-◌, ◌*◌, ◌/◌, ◌%◌, ◌<◌, ◌≤◌, true, cond, leb, ltb, List, []}
use Rattle.fax_coding.proofs.Names.{◌∷◌, ◌++◌, length, drop, get_or, replicate, agree_below_at, leb-true}
use Rattle.fax_coding.proofs.Names.{refl, sym, ap, ◌∙◌, arith, flat_map, length-append, Color, White, Black, Bits}
use Rattle.fax_coding.proofs.Names.{AscendFrom, length-low_bits, Word, word_of_length, chosen_rest, chosen_run, chosen_runs}
use Rattle.fax_coding.proofs.Names.{IsWord, opposite}
use Rattle.fax_words.proofs.RunsWritten.{rest_few, rest_more, short_run, two_runs}

-- a word is as long as its number of bits says
pub word_length : (word : Bits) (coded : Word) → IsWord word coded → length word ≡ coded.count
word_length word coded is = sym (ap length is.spells) ∙ length-low_bits coded.count coded.bits

pub long_word : (color : Color) → length (word_of_length color 2560) ≡ 12
long_word White = refl
long_word Black = refl

long_words : (color : Color) (times : ℕ)
    → length (flat_map (λ word. word) (replicate times (word_of_length color 2560))) ≡ times * 12
long_words color zero = refl
long_words color (suc times) =
    omega (
      arith,
      length-append (word_of_length color 2560) (flat_map (λ word. word) (replicate times (word_of_length color 2560))),
      long_word color,
      long_words color times,
    )

-- the words of 2560 pixels and the rest
pub run_parts : (color : Color) (n : ℕ) → length (chosen_run color n) ≡ n / 2560 * 12 + length (chosen_rest color (n % 2560))
run_parts color n =
    omega (
      arith,
      length-append (flat_map (λ word. word) (replicate (n / 2560) (word_of_length color 2560))) (chosen_rest color (n % 2560)),
      long_words color (n / 2560),
    )

-- and the rest is a terminating word alone
pub short_rest : (color : Color) (n : ℕ) (last : Word) → n % 2560 < 64 → IsWord (word_of_length color (n % 2560 % 64)) last
    → n / 2560 * 12 + last.count ≡ length (chosen_run color n)
short_rest color n last few is =
    let rest : ℕ = n % 2560 in
    let same : rest % 64 ≡ rest = omega (arith, few) in
    omega (
      arith,
      run_parts color n,
      ap length (rest_few color rest few),
      ap (λ (m : ℕ). length (word_of_length color m)) same,
      word_length (word_of_length color (rest % 64)) last is,
    )

-- or a make-up word before it
pub long_rest : (color : Color) (n : ℕ) (first last : Word) → 64 ≤ n % 2560
    → IsWord (word_of_length color (64 * (n % 2560 / 64))) first → IsWord (word_of_length color (n % 2560 % 64)) last
    → n / 2560 * 12 + last.count + first.count ≡ length (chosen_run color n)
long_rest color n first last more one two =
    let rest : ℕ = n % 2560 in
    let front : Bits = word_of_length color (64 * (rest / 64)) in
    let after : Bits = word_of_length color (rest % 64) in
    omega (
      arith,
      run_parts color n,
      ap length (rest_more color rest more),
      length-append front after,
      word_length front first one,
      word_length after last two,
    )

-- ---- whole rows
-- less than 64 pixels are one word
pub short_bits : (color : Color) (n : ℕ) (word : Word) → n < 64 → IsWord (word_of_length color n) word
    → word.count ≡ length (chosen_run color n)
short_bits color n word lt is =
    omega (arith, ap length (short_run color n word lt is), length-low_bits word.count word.bits)

-- the next two runs are counted
pub pair_taken : (columns place i : ℕ) (changes : List ℕ) (bits first second whole : ℕ) → i < length changes
    → i + 1 < length changes → AscendFrom place columns (drop i changes)
    → first ≡ length (chosen_run White (get_or changes i 0 - place))
    → second ≡ length (chosen_run Black (get_or changes (i + 1) 0 - get_or changes i 0))
    → bits + length (chosen_runs columns White place (drop i changes)) ≡ whole
    → (bits + (first + second)) + length (chosen_runs columns White (get_or changes (i + 1) 0) (drop (i + 1 + 1) changes)) ≡ whole
pair_taken columns place i changes bits first second whole lt more ascend one two e =
    let black : ℕ = get_or changes i 0 in
    let white : ℕ = get_or changes (i + 1) 0 in
    let rest : Bits = chosen_runs columns White white (drop (i + 1 + 1) changes) in
    omega (
      arith,
      e,
      one,
      two,
      ap length (two_runs columns place i White changes lt more ascend),
      length-append (chosen_run White (black - place) ++ chosen_run Black (white - black)) rest,
      length-append (chosen_run White (black - place)) (chosen_run Black (white - black)),
    )

-- ---- at least
-- what a run has at least
unfoldable pub least_run : Color → ℕ
least_run White = 4
least_run Black = 2

word_least : (color : Color) (n : ℕ) → n < 64 → least_run color ≤ length (word_of_length color n)
unfolding least_run
word_least White n lt = leb-true 4 (length (word_of_length White n))
    (agree_below_at (λ m. leb 4 (length (word_of_length White m))) (λ m. true) 64 n refl lt)
word_least Black n lt = leb-true 2 (length (word_of_length Black n))
    (agree_below_at (λ m. leb 2 (length (word_of_length Black m))) (λ m. true) 64 n refl lt)

pub rest_least : (color : Color) (n : ℕ) → least_run color ≤ length (chosen_rest color n)
rest_least color n = omega (
  arith,
  length-append (cond (ltb n 64) [] (word_of_length color (n - n % 64))) (word_of_length color (n % 64)),
  word_least color (n % 64) (omega arith),
)

run_least : (color : Color) (n : ℕ) → least_run color ≤ length (chosen_run color n)
run_least color n = omega (arith, run_parts color n, rest_least color (n % 2560))

-- and the runs of a row: three bits for each change, and a few
abbrev pub least_rest : Color → ℕ
least_rest White = 3
least_rest Black = 2

least_parts : (color : Color) → (least_rest color ≤ least_run color)
    × (least_rest color + 3 ≤ least_run color + least_rest (opposite color))
unfolding least_run
least_parts White = (omega arith, omega arith)
least_parts Black = (omega arith, omega arith)

-- by either words
module _ (run : Color → ℕ → Bits) (runs : ℕ → Color → ℕ → List ℕ → Bits)
    (each : (color : Color) (n : ℕ) → least_run color ≤ length (run color n))
    (last : (width place : ℕ) (color : Color) → runs width color place [] ≡ run color (width - place))
    (more : (width place change : ℕ) (color : Color) (list : List ℕ)
    → runs width color place (change ∷ list) ≡ run color (change - place) ++ runs width (opposite color) change list) where
  pub runs_least : (color : Color) (place width : ℕ) (list : List ℕ)
      → length list * 3 + least_rest color ≤ length (runs width color place list)
  runs_least color place width [] =
      omega (arith, ap length (last width place color), each color (width - place), (least_parts color).0)
  runs_least color place width (change ∷ list) = omega (
    arith,
    ap length (more width place change color list),
    length-append (run color (change - place)) (runs width (opposite color) change list),
    each color (change - place),
    (least_parts color).1,
    runs_least (opposite color) change width list,
  )

pub row_least : (columns : ℕ) (changes : List ℕ) → length changes * 3 + 3 ≤ length (chosen_runs columns White 0 changes)
row_least columns changes = runs_least chosen_run chosen_runs run_least (λ width place color. refl)
    (λ width place change color list. refl) White 0 columns changes
