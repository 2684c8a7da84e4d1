-- What the bytes of a header begin with.
use Rattle.std.proofs.Common.{◌≡◌, ◌<◌, ◌≤◌, ◌+◌, ◌==◌, ℕ, zero, suc, Bool, true, false, List, [], ◌∷◌, None, length, drop}
use Rattle.std.proofs.Common.{get_or, arith, refl, rules}
use Rattle.std.specs.Prelude.{not}
use Rattle.std.specs.Char.{is_ascii_digit}
use Rattle.std.specs.List.{list_all}
use Rattle.std.specs.Str.{IsUtf8}
use Rattle.std.specs.Str.Parse.{AllDigits}
use Rattle.std.proofs.lemmas.Bool.{and_parts}
use Rattle.std.proofs.lemmas.Fmt.{IsAscii-from_digits}
use Rattle.std.proofs.lemmas.Str.{IsUtf8-from_ascii}
use Rattle.std.proofs.lemmas.Str.Parse.{numerals_by_value}
use Rattle.fax_program.specs.Arguments.{are_digits, number_of}
use Rattle.faxpack.specs.Pictures.{digit_count, gap_length, is_space}

-- one more digit
pub digits_more : (bytes : List ℕ) (i : ℕ) → i < length bytes → is_ascii_digit (get_or bytes i 0) ≡ true
    → digit_count (drop i bytes) ≡ suc (digit_count (drop (i + 1) bytes))
unfolding digit_count
digits_more [] i within digit = absurd (omega (arith, within))
digits_more (b ∷ bytes) zero within digit = rw digit refl
digits_more (b ∷ bytes) (suc i) within digit = let e : suc i + 1 ≡ suc (i + 1) = omega arith in
    rw e (digits_more bytes i (omega (arith, within)) digit)

-- no more digits
pub digits_end : (bytes : List ℕ) (i : ℕ) → i < length bytes → is_ascii_digit (get_or bytes i 0) ≡ false
    → digit_count (drop i bytes) ≡ 0
unfolding digit_count
digits_end [] i within digit = absurd (omega (arith, within))
digits_end (b ∷ bytes) zero within digit = rw digit refl
digits_end (b ∷ bytes) (suc i) within digit = digits_end bytes i (omega (arith, within)) digit

-- no digits are after the end
pub digits_past : (bytes : List ℕ) (i : ℕ) → length bytes ≤ i → digit_count (drop i bytes) ≡ 0
unfolding digit_count
digits_past [] zero past = refl
digits_past [] (suc i) past = refl
digits_past (b ∷ bytes) zero past = absurd (omega (arith, past))
digits_past (b ∷ bytes) (suc i) past = digits_past bytes i (omega (arith, past))

-- a byte of a comment
pub comment_more : (bytes : List ℕ) (i : ℕ) → i < length bytes
    → gap_length true (drop i bytes) ≡ suc (gap_length (not (get_or bytes i 0 == 10)) (drop (i + 1) bytes))
unfolding gap_length
comment_more [] i within = absurd (omega (arith, within))
comment_more (b ∷ bytes) zero within = refl
comment_more (b ∷ bytes) (suc i) within = let e : suc i + 1 ≡ suc (i + 1) = omega arith in
    rw e (comment_more bytes i (omega (arith, within)))

-- a comment begins
pub comment_begins : (bytes : List ℕ) (i : ℕ) → i < length bytes → (get_or bytes i 0 == 35) ≡ true
    → gap_length false (drop i bytes) ≡ suc (gap_length true (drop (i + 1) bytes))
unfolding gap_length
comment_begins [] i within sign = absurd (omega (arith, within))
comment_begins (b ∷ bytes) zero within sign = rw sign refl
comment_begins (b ∷ bytes) (suc i) within sign = let e : suc i + 1 ≡ suc (i + 1) = omega arith in
    rw e (comment_begins bytes i (omega (arith, within)) sign)

-- a byte of white space
pub space_more : (bytes : List ℕ) (i : ℕ) → i < length bytes → (get_or bytes i 0 == 35) ≡ false
    → is_space (get_or bytes i 0) ≡ true → gap_length false (drop i bytes) ≡ suc (gap_length false (drop (i + 1) bytes))
unfolding gap_length
space_more [] i within sign space = absurd (omega (arith, within))
space_more (b ∷ bytes) zero within sign space = rw (sign, space) refl
space_more (b ∷ bytes) (suc i) within sign space = let e : suc i + 1 ≡ suc (i + 1) = omega arith in
    rw e (space_more bytes i (omega (arith, within)) sign space)

-- the gap ends
pub gap_end : (bytes : List ℕ) (i : ℕ) → i < length bytes → (get_or bytes i 0 == 35) ≡ false → is_space (get_or bytes i 0) ≡ false
    → gap_length false (drop i bytes) ≡ 0
unfolding gap_length
gap_end [] i within sign space = absurd (omega (arith, within))
gap_end (b ∷ bytes) zero within sign space = rw (sign, space) refl
gap_end (b ∷ bytes) (suc i) within sign space = gap_end bytes i (omega (arith, within)) sign space

-- no gap is after the end
pub gap_past : (in_comment : Bool) (bytes : List ℕ) (i : ℕ) → length bytes ≤ i → gap_length in_comment (drop i bytes) ≡ 0
unfolding gap_length
gap_past true [] zero past = refl
gap_past false [] zero past = refl
gap_past true [] (suc i) past = refl
gap_past false [] (suc i) past = refl
gap_past in_comment (b ∷ bytes) zero past = absurd (omega (arith, past))
gap_past in_comment (b ∷ bytes) (suc i) past = gap_past in_comment bytes i (omega (arith, past))

-- a list of digits is of digits in the radix ten
digits_of_ten : (word : List ℕ) → list_all is_ascii_digit word ≡ true → AllDigits 10 word
digits_of_ten word digits = (numerals_by_value (λ (ds : List ℕ). list_all is_ascii_digit ds ≡ true) (search rules)).to word digits

-- what isn't UTF-8 writes no number
pub no_number : (word : List ℕ) → (IsUtf8 word → ⊥) → None ≡ number_of word
no_number word never = go (are_digits word) refl
  where
    go : (b : Bool) → are_digits word ≡ b → None ≡ number_of word
    go false e = rw e refl
    go true e = absurd (never
        (IsUtf8-from_ascii word (IsAscii-from_digits word (digits_of_ten word (and_parts _ (list_all is_ascii_digit word) e).1))))
