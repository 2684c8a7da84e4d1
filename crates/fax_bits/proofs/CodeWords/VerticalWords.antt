-- The vertical modes that bits begin with are next to each other.
use Rattle.fax_bits.proofs.Names.{◌≡◌, ℕ, zero, suc, ◌-◌, ◌<◌, ◌≤◌, ◌∷◌, List, [], ◌++◌, length, take, drop, Option, Some, None}
use Rattle.fax_bits.proofs.Names.{Ok, refl, sym, ap, ◌∙◌, arith, ◌⊎◌, inl, inr, append_assoc, length-append, drop-drop, drop_at}
use Rattle.fax_bits.proofs.Names.{common_steps, padded, Mode, Pass, Horizontal, Vertical, Bits, BitsAt, here}
use Rattle.fax_bits.proofs.Names.{mode_codes, word_at, read_code, Has, moved}
use Rattle.fax_bits.proofs.BitReading.ZerosInWords.{modes_free}
use Rattle.fax_bits.proofs.CodeWords.ReadCodes.{read_code_again, word_at_found}
use Rattle.fax_bits.specs.ModeGroups.{VerticalWord, distance_of, offset_of, vertical_words, width_of, offset_at}
use Rattle.fax_bits.specs.ModeGroups.{AreNextWords, first_mode, ten_bits, words_of}

-- ---- Whether a vertical mode is first
words_zero : (here : Bits) → vertical_words zero here ≡ []
unfolding vertical_words
words_zero here = refl

words_none : (most : ℕ) (here : Bits) → word_at mode_codes here ≡ None → vertical_words (suc most) here ≡ []
unfolding vertical_words
words_none most here e = rw e refl

words_other : (most : ℕ) (here : Bits) (found : Mode × Bits) → word_at mode_codes here ≡ Some found → offset_of found.0 ≡ None
    → vertical_words (suc most) here ≡ []
unfolding vertical_words
words_other most here found e o = rw (e, o) refl

words_on : (most : ℕ) (here : Bits) (found : Mode × Bits) (offset : ℕ) → word_at mode_codes here ≡ Some found
    → offset_of found.0 ≡ Some offset → vertical_words (suc most) here
    ≡ record { offset = offset; width = length here - length found.1 } ∷ vertical_words most found.1
unfolding vertical_words
words_on most here found offset e o = rw (e, o) refl

-- ---- A vertical mode of the list
record IsVertical (mode : Mode) (word : Bits) (offset : ℕ) : Type 0 where
  is : mode ≡ Vertical (distance_of offset)
  some : 0 < length word
  few : length word ≤ 7
  near : offset ≤ 6

is_vertical : (mode : Mode) (word : Bits) (offset : ℕ) → Has mode_codes mode word → offset_of mode ≡ Some offset
    → IsVertical mode word offset
is_vertical mode word offset (inl i) e = absurd (let no : offset_of Pass ≡ Some offset = ap offset_of i.0 ∙ e in cc)
is_vertical mode word offset (inr (inl i)) e = grind arith
is_vertical mode word offset (inr (inr (inl i))) e = grind (arith)
is_vertical mode word offset (inr (inr (inr (inl i)))) e = grind (arith)
is_vertical mode word offset (inr (inr (inr (inr (inl i))))) e = grind (arith)
is_vertical mode word offset (inr (inr (inr (inr (inr (inl i)))))) e = grind (arith)
is_vertical mode word offset (inr (inr (inr (inr (inr (inr (inl i))))))) e = grind (arith)
is_vertical mode word offset (inr (inr (inr (inr (inr (inr (inr (inl i)))))))) e = grind (arith)
is_vertical mode word offset (inr (inr (inr (inr (inr (inr (inr (inr (inl i))))))))) e = grind (arith)
is_vertical mode word offset (inr (inr (inr (inr (inr (inr (inr (inr (inr i))))))))) e = elim i [ ]

-- ---- One after another
-- a vertical mode is first, and others may follow
record BeginWithWord (most : ℕ) (seen : Bits) : Type 0 where
  mode : Mode
  offset : ℕ
  word : Bits
  rest : Bits
  has : Has mode_codes mode word
  there : seen ≡ word ++ rest
  vertical : IsVertical mode word offset
  words : vertical_words (suc most) seen ≡ record { offset = offset; width = length word } ∷ vertical_words most rest

begin_with_word : (most : ℕ) (seen : Bits) (found : Mode × Bits) (offset : ℕ) → word_at mode_codes seen ≡ Some found
    → offset_of found.0 ≡ Some offset → BeginWithWord most seen
begin_with_word most seen found offset e o = let (word, has, there) = word_at_found mode_codes seen found e in
    grind (arith, length-append word found.1, is_vertical found.0 word offset has o, words_on most seen found offset e o)

-- none is first, or one is
one_or_none : (most : ℕ) (seen : Bits) → (vertical_words (suc most) seen ≡ []) ⊎ BeginWithWord most seen
one_or_none most seen = by_word (word_at mode_codes seen) refl
  where
    by_offset : (found : Mode × Bits) (o : Option ℕ) → word_at mode_codes seen ≡ Some found → offset_of found.0 ≡ o
        → (vertical_words (suc most) seen ≡ []) ⊎ BeginWithWord most seen
    by_offset found None e o = inl (words_other most seen found e o)
    by_offset found (Some offset) e o = inr (begin_with_word most seen found offset e o)

    by_word : (o : Option (Mode × Bits)) → word_at mode_codes seen ≡ o
        → (vertical_words (suc most) seen ≡ []) ⊎ BeginWithWord most seen
    by_word None e = inl (words_none most seen e)
    by_word (Some found) e = by_offset found (offset_of found.0) e refl

-- what is after a word
after_word : (at : BitsAt) (seen more word rest : Bits) → here at ≡ seen ++ more → seen ≡ word ++ rest
    → here (moved (length word) at) ≡ rest ++ more
after_word at seen more word rest is there = sym (drop-drop (length word) at.place at.bits)
    ∙ ap (λ (x : Bits). drop (length word) x) (is ∙ ap (λ (x : Bits). x ++ more) there ∙ append_assoc word rest more)
    ∙ drop_at word (rest ++ more) (length word) refl

-- a mode in the first bits here is next
pub read_on : (at : BitsAt) (seen more word rest : Bits) (mode : Mode) → here at ≡ seen ++ more → Has mode_codes mode word
    → seen ≡ word ++ rest → read_code mode_codes (here at) ≡ Ok (mode, here (moved (length word) at))
read_on at seen more word rest mode is has there = grind (arith, append_assoc, read_code_again, modes_free, after_word)

pub next_words : (most : ℕ) (at : BitsAt) (seen more : Bits) → here at ≡ seen ++ more → AreNextWords (vertical_words most seen) at
next_words zero at seen more is = rw (words_zero seen) tt
next_words (suc most) at seen more is = grind (arith, next_words most, one_or_none, read_on, after_word)

-- ---- How many there are, and their bits
pub words_few : (most : ℕ) (seen : Bits) → length (vertical_words most seen) ≤ most
words_few zero seen = rw (words_zero seen) (omega arith)
words_few (suc most) seen = grind (arith, words_few most, one_or_none)

pub words_within : (most : ℕ) (seen : Bits) → width_of (vertical_words most seen) ≤ length seen
words_within zero seen = rw (words_zero seen) (omega arith)
words_within (suc most) seen = grind (arith, words_within most, one_or_none, length-append)

-- each has bits
pub words_have_bits : (most count : ℕ) (seen : Bits) → count ≤ length (vertical_words most seen)
    → count ≤ width_of (take count (vertical_words most seen))
words_have_bits most zero seen h = omega arith
words_have_bits zero (suc count) seen h = absurd (omega (arith, h, words_few zero seen))
words_have_bits (suc most) (suc count) seen h = grind (arith, words_have_bits most count, one_or_none)

-- their offsets
pub words_near : (most : ℕ) (seen : Bits) (k : ℕ) → offset_at (vertical_words most seen) k ≤ 6
words_near zero seen k = rw (words_zero seen) (omega arith)
words_near (suc most) seen k = grind (arith, words_near most, one_or_none)

-- the bits of the first ones
pub words_part : (count : ℕ) (words : List VerticalWord) → width_of (take count words) ≤ width_of words
words_part zero words = omega arith
words_part (suc count) [] = omega arith
words_part (suc count) (word ∷ words) = omega (arith, words_part count words)

-- ---- Ten bits that are here
-- the first bits, if there are as many
pub padded_first : (n : ℕ) (bits : Bits) → n ≤ length bits → bits ≡ padded n bits ++ drop n bits
padded_first zero bits h = refl
padded_first (suc n) [] h = absurd (omega arith)
padded_first (suc n) (b ∷ bits) h = ap (λ (x : Bits). b ∷ x) (padded_first n bits (omega arith))

module _ (at : BitsAt) (number : ℕ) (is : ten_bits number ≡ padded 10 (here at)) (enough : 10 ≤ length (here at)) where
  ten_here : here at ≡ ten_bits number ++ drop 10 (here at)
  ten_here = padded_first 10 (here at) enough ∙ ap (λ (x : Bits). x ++ drop 10 (here at)) (sym is)

  pub group_next : AreNextWords (words_of number) at
  unfolding words_of
  group_next = next_words 4 at (ten_bits number) (drop 10 (here at)) ten_here

  first_found : (mode : Mode) → first_mode number ≡ Some mode → (word : Bits) × (rest : Bits) × Has mode_codes mode word
      × (ten_bits number ≡ word ++ rest)
  unfolding first_mode
  first_found mode e = by_word (word_at mode_codes (ten_bits number)) refl
    where
      by_word : (o : Option (Mode × Bits)) → word_at mode_codes (ten_bits number) ≡ o → (word : Bits) × (rest : Bits)
          × Has mode_codes mode word × (ten_bits number ≡ word ++ rest)
      by_word None f = absurd (let no : Option.None ≡ Some mode = rw f at e in cc)
      by_word (Some found) f = grind (arith, word_at_found mode_codes (ten_bits number) found f)

  pub first_next : (mode : Mode) (width : ℕ) → ((word : Bits) → Has mode_codes mode word → length word ≡ width)
      → first_mode number ≡ Some mode → read_code mode_codes (here at) ≡ Ok (mode, here (moved width at))
  first_next mode width wide e = let (word, rest, has, there) = first_found mode e in
      rw (← wide word has) (read_on at (ten_bits number) (drop 10 (here at)) word rest mode ten_here has there)

pub horizontal_wide : (word : Bits) → Has mode_codes Horizontal word → length word ≡ 3
horizontal_wide word has = grind (arith, common_steps)

pub pass_wide : (word : Bits) → Has mode_codes Pass word → length word ≡ 4
pass_wide word has = grind (arith, common_steps)
