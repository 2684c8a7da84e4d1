-- The tables of code words have the word of each length at its position.
use Rattle.fax_words.proofs.Names.{◌≡◌, ℕ, ◌+◌, ◌*◌, ◌^◌, ◌<◌, ◌≤◌, Bool, true, ◌&&◌, leb, ltb, get_or, refl}
use Rattle.fax_words.proofs.Names.{sym, subst, agree_below_at, leb-true, ltb-true, and_parts, Color, White}
use Rattle.fax_words.proofs.Names.{Black, WHITE_TERMINATING, BLACK_TERMINATING, WHITE_MAKEUP, BLACK_MAKEUP, COMMON_MAKEUP, Bits}
use Rattle.fax_words.proofs.Names.{low_bits, Word, word_of_length, IsWord}
use Rattle.fax_bits.proofs.BitReading.WhiteWordsListed.{same_bits, same_bits-true}

-- whether an entry is a word
is_word : Bits → ℕ × ℕ × ℕ → Bool
is_word word entry = leb entry.1 13 && ltb entry.2 (2 ^ entry.1) && same_bits (low_bits entry.1 entry.2) word

word_from : (word : Bits) (entry : ℕ × ℕ × ℕ) (coded : Word) → coded.count ≡ entry.1 → coded.bits ≡ entry.2
    → is_word word entry ≡ true → IsWord word coded
unfolding is_word
word_from word entry coded count bits e =
    let one = and_parts (leb entry.1 13 && ltb entry.2 (2 ^ entry.1)) (same_bits (low_bits entry.1 entry.2) word) e in
    let two = and_parts (leb entry.1 13) (ltb entry.2 (2 ^ entry.1)) one.0 in
    let few : entry.1 ≤ 13 = leb-true entry.1 13 two.0 in
    let fits : entry.2 < 2 ^ entry.1 = ltb-true entry.2 (2 ^ entry.1) two.1 in
    let spells = same_bits-true (low_bits entry.1 entry.2) word one.1 in
    record { few = rw count few; fits = rw (count, bits) fits; spells = rw (count, bits) spells }

pub white_terminating : (n : ℕ) (coded : Word) → n < 64 → coded.count ≡ (get_or WHITE_TERMINATING n (0, 0, 0)).1
    → coded.bits ≡ (get_or WHITE_TERMINATING n (0, 0, 0)).2 → IsWord (word_of_length White n) coded
unfolding is_word same_bits
white_terminating n coded lt count bits = word_from (word_of_length White n) (get_or WHITE_TERMINATING n (0, 0, 0)) coded count
    bits (agree_below_at (λ m. is_word (word_of_length White m) (get_or WHITE_TERMINATING m (0, 0, 0))) (λ m. true) 64 n refl lt)

pub black_terminating : (n : ℕ) (coded : Word) → n < 64 → coded.count ≡ (get_or BLACK_TERMINATING n (0, 0, 0)).1
    → coded.bits ≡ (get_or BLACK_TERMINATING n (0, 0, 0)).2 → IsWord (word_of_length Black n) coded
unfolding is_word same_bits
black_terminating n coded lt count bits = word_from (word_of_length Black n) (get_or BLACK_TERMINATING n (0, 0, 0)) coded count
    bits (agree_below_at (λ m. is_word (word_of_length Black m) (get_or BLACK_TERMINATING m (0, 0, 0))) (λ m. true) 64 n refl lt)

pub white_makeup : (times i : ℕ) (coded : Word) → i < 27 → times ≡ i + 1 → coded.count ≡ (get_or WHITE_MAKEUP i (0, 0, 0)).1
    → coded.bits ≡ (get_or WHITE_MAKEUP i (0, 0, 0)).2 → IsWord (word_of_length White (64 * times)) coded
unfolding is_word same_bits
white_makeup times i coded lt is count bits = subst (λ (m : ℕ). IsWord (word_of_length White (64 * m)) coded)
    (sym is) (word_from (word_of_length White (64 * (i + 1))) (get_or WHITE_MAKEUP i (0, 0, 0)) coded count bits (agree_below_at
    (λ m. is_word (word_of_length White (64 * (m + 1))) (get_or WHITE_MAKEUP m (0, 0, 0))) (λ m. true) 27 i refl lt))

pub black_makeup : (times i : ℕ) (coded : Word) → i < 27 → times ≡ i + 1 → coded.count ≡ (get_or BLACK_MAKEUP i (0, 0, 0)).1
    → coded.bits ≡ (get_or BLACK_MAKEUP i (0, 0, 0)).2 → IsWord (word_of_length Black (64 * times)) coded
unfolding is_word same_bits
black_makeup times i coded lt is count bits = subst (λ (m : ℕ). IsWord (word_of_length Black (64 * m)) coded)
    (sym is) (word_from (word_of_length Black (64 * (i + 1))) (get_or BLACK_MAKEUP i (0, 0, 0)) coded count bits (agree_below_at
    (λ m. is_word (word_of_length Black (64 * (m + 1))) (get_or BLACK_MAKEUP m (0, 0, 0))) (λ m. true) 27 i refl lt))

pub common_makeup : (color : Color) (times i : ℕ) (coded : Word) → i < 13 → times ≡ i + 28 → coded.count ≡ (get_or COMMON_MAKEUP i
    (0, 0, 0)).1 → coded.bits ≡ (get_or COMMON_MAKEUP i (0, 0, 0)).2 → IsWord (word_of_length color (64 * times)) coded
unfolding is_word same_bits
common_makeup White times i coded lt is count bits = subst (λ (m : ℕ). IsWord (word_of_length White (64 * m)) coded)
    (sym is) (word_from (word_of_length White (64 * (i + 28))) (get_or COMMON_MAKEUP i (0, 0, 0)) coded count bits (agree_below_at
    (λ m. is_word (word_of_length White (64 * (m + 28))) (get_or COMMON_MAKEUP m (0, 0, 0))) (λ m. true) 13 i refl lt))
common_makeup Black times i coded lt is count bits = subst (λ (m : ℕ). IsWord (word_of_length Black (64 * m)) coded)
    (sym is) (word_from (word_of_length Black (64 * (i + 28))) (get_or COMMON_MAKEUP i (0, 0, 0)) coded count bits (agree_below_at
    (λ m. is_word (word_of_length Black (64 * (m + 28))) (get_or COMMON_MAKEUP m (0, 0, 0))) (λ m. true) 13 i refl lt))
