-- The tables of white code words have the word of each length at its position.
use Rattle.fax_bits.proofs.Names.{common_steps, ◌≡◌, ℕ, ◌+◌, ◌*◌, ◌^◌, ◌<◌, ◌≤◌, Bool, true, false, ◌&&◌, ◌||◌, leb, ltb, eqb}
use Rattle.fax_bits.proofs.Names.{List, [], ◌∷◌, get_or, refl, sym, subst, arith, beq, agree_below_at, leb-true, ltb-true}
use Rattle.fax_bits.proofs.Names.{eqb-true, and_parts, or_cases, false≢true, WHITE_TERMINATING, WHITE_MAKEUP, COMMON_MAKEUP, Bits}
use Rattle.fax_bits.proofs.Names.{low_bits, Code, Has, white_codes, IsWhiteWord}
use Rattle.fax_bits.specs.declared.tables.CodeWord.{CodeWord}

unfoldable pub same_bits : Bits → Bits → Bool
same_bits [] [] = true
same_bits (a ∷ x) (b ∷ y) = beq a b && same_bits x y
same_bits [] (b ∷ y) = false
same_bits (a ∷ x) [] = false

pub same_bits-true : (x y : Bits) → same_bits x y ≡ true → x ≡ y
unfolding same_bits
same_bits-true [] [] e = refl
same_bits-true (a ∷ x) (b ∷ y) e = grind (arith, common_steps, same_bits-true x y)
same_bits-true [] (b ∷ y) e = absurd (false≢true e)
same_bits-true (a ∷ x) [] e = absurd (false≢true e)

-- whether a list has a word for a length
unfoldable listed : List (Code ℕ) → ℕ → Bits → Bool
listed [] n word = false
listed (c ∷ list) n word = (eqb c.value n && same_bits c.word word) || listed list n word

has_listed : (list : List (Code ℕ)) (n : ℕ) (word : Bits) → listed list n word ≡ true → Has list n word
unfolding listed
has_listed [] n word e = absurd (false≢true e)
has_listed (c ∷ list) n word e = grind (arith, has_listed list n word, or_cases, and_parts, eqb-true, same_bits-true)

-- whether an entry is the word of a length, with at most this many bits
is_word : ℕ → ℕ → ℕ × ℕ × ℕ → Bool
is_word most n entry =
    (ltb 0 entry.1 && leb entry.1 most) && (ltb entry.2 (2 ^ entry.1) && listed white_codes n (low_bits entry.1 entry.2))

word_from : (most n : ℕ) (entry : ℕ × ℕ × ℕ) (word : CodeWord) → most ≤ 12 → (n < 64 → most ≤ 8) → word.count ≡ entry.1
    → word.bits ≡ entry.2 → is_word most n entry ≡ true → IsWhiteWord n word
unfolding is_word
word_from most n entry word twelve eight count bits e = let parts = and_parts (ltb 0 entry.1 && leb entry.1 most) _ e in
    let size = and_parts (ltb 0 entry.1) (leb entry.1 most) parts.0 in
    let rest = and_parts (ltb entry.2 (2 ^ entry.1)) (listed white_codes n (low_bits entry.1 entry.2)) parts.1 in
    let below = leb-true entry.1 most size.1 in
    let above = ltb-true 0 entry.1 size.0 in
    let fits : entry.2 < 2 ^ entry.1 = ltb-true entry.2 (2 ^ entry.1) rest.0 in
    let has = has_listed white_codes n (low_bits entry.1 entry.2) rest.1 in
    record {
      listed = rw (count, bits) has;
      few = omega (arith, count, below, twelve);
      short = λ lt. let le = eight lt in omega (arith, count, below, le);
      fits = rw (count, bits) fits;
      some = omega (arith, count, above);
    }

pub white_terminating_listed : (n : ℕ) (word : CodeWord) → n < 64 → word.count ≡ (get_or WHITE_TERMINATING n (0, 0, 0)).1
    → word.bits ≡ (get_or WHITE_TERMINATING n (0, 0, 0)).2 → IsWhiteWord n word
unfolding is_word listed same_bits
white_terminating_listed n word lt count bits = word_from 8 n (get_or WHITE_TERMINATING n (0, 0, 0)) word (omega arith) (λ
    l. omega arith) count bits (agree_below_at (λ m. is_word 8 m (get_or WHITE_TERMINATING m (0, 0, 0))) (λ m. true) 64 n refl lt)

pub white_makeup_listed : (times i : ℕ) (word : CodeWord) → i < 27 → times ≡ i + 1 → word.count
    ≡ (get_or WHITE_MAKEUP i (0, 0, 0)).1 → word.bits ≡ (get_or WHITE_MAKEUP i (0, 0, 0)).2 → IsWhiteWord (64 * times) word
unfolding is_word listed same_bits
white_makeup_listed times i word lt is count bits = subst (λ (m : ℕ). IsWhiteWord (64 * m) word)
    (sym is) (word_from 12 (64 * (i + 1)) (get_or WHITE_MAKEUP i (0, 0, 0)) word (omega arith) (λ l. omega arith) count bits
    (agree_below_at (λ m. is_word 12 (64 * (m + 1)) (get_or WHITE_MAKEUP m (0, 0, 0))) (λ m. true) 27 i refl lt))

pub common_makeup_listed : (times i : ℕ) (word : CodeWord) → i < 13 → times ≡ i + 28 → word.count
    ≡ (get_or COMMON_MAKEUP i (0, 0, 0)).1 → word.bits ≡ (get_or COMMON_MAKEUP i (0, 0, 0)).2 → IsWhiteWord (64 * times) word
unfolding is_word listed same_bits
common_makeup_listed times i word lt is count bits = subst (λ (m : ℕ). IsWhiteWord (64 * m) word)
    (sym is) (word_from 12 (64 * (i + 28)) (get_or COMMON_MAKEUP i (0, 0, 0)) word (omega arith) (λ l. omega arith) count bits
    (agree_below_at (λ m. is_word 12 (64 * (m + 28)) (get_or COMMON_MAKEUP m (0, 0, 0))) (λ m. true) 13 i refl lt))
