-- Vertical modes that are next to each other, and what ten bits say of them. This is not part of the trusted specification: no
-- contract of a public call cites it.
use Rattle.std.specs.Prelude.{◌≡◌, ℕ, zero, suc, ◌+◌, ◌-◌, ◌*◌, ◌^◌, ◌<◌, ◌≤◌, ℤ, pos, negsuc, ◌+ℤ◌, ⊤, List, [], ◌∷◌, map, take}
use Rattle.std.specs.Prelude.{Option, Some, None, option_map, Ok, length, get_or}
use Rattle.fax_bits.specs.Bits.{Bits, BitsAt, here, low_bits}
use Rattle.fax_bits.specs.CodeLists.{mode_codes}
use Rattle.fax_bits.specs.CodeReading.{read_code, word_at}
use Rattle.fax_bits.specs.Window.{moved}
use Rattle.fax_bits.specs.declared.codes.Mode.{Mode}
use Rattle.fax_bits.specs.declared.codes.Mode.TheVariants.{Pass, Horizontal, Vertical}

-- a vertical mode: its distance from b1 and three more, and the number of bits of its code word
pub record VerticalWord : Type 0 where
  pub offset : ℕ
  pub width : ℕ

-- the distance from b1 (T.4, 4.2.1.3.2)
abbrev pub distance_of : ℕ → ℤ
distance_of offset = pos offset +ℤ negsuc 2

-- the offset of a vertical mode
abbrev pub offset_of : Mode → Option ℕ
offset_of Pass = None
offset_of Horizontal = None
offset_of (Vertical (pos distance)) = Some (distance + 3)
offset_of (Vertical (negsuc distance)) = Some (2 - distance)

-- the vertical modes that bits begin with, so many at most (T.4, 4.2.1.2)
unfoldable pub vertical_words : ℕ → Bits → List VerticalWord
vertical_words zero here = []
vertical_words (suc most) here = elim (word_at mode_codes here) [
  | Some found ↦ elim (offset_of found.0) [
    | Some offset ↦ record { offset = offset; width = length here - length found.1 } ∷ vertical_words most found.1
    | None ↦ []
  ]
  | None ↦ []
]

-- the number of bits of all
abbrev pub width_of : List VerticalWord → ℕ
width_of [] = 0
width_of (word ∷ words) = word.width + width_of words

-- the offset of one of them, and 3 after the last
abbrev pub offset_at : List VerticalWord → ℕ → ℕ
offset_at words index = get_or (map (λ word. word.offset) words) index 3

-- a vertical mode is next
pub record IsNextWord (word : VerticalWord) (at : BitsAt) : Type 0 where
  pub read : read_code mode_codes (here at) ≡ Ok (Vertical (distance_of word.offset), here (moved word.width at))
  pub some : 0 < word.width
  pub few : word.width ≤ 7
  pub near : word.offset ≤ 6

-- vertical modes are next, one after another
abbrev pub AreNextWords : List VerticalWord → BitsAt → Type 0
AreNextWords [] at = ⊤
AreNextWords (word ∷ words) at = IsNextWord word at × AreNextWords words (moved word.width at)

-- ---- Ten bits

-- auxiliary: the ten bits of a number, the highest first
unfoldable pub ten_bits : ℕ → Bits
ten_bits number = low_bits 10 number

-- the vertical modes that ten bits begin with, four at most
unfoldable pub words_of : ℕ → List VerticalWord
words_of number = vertical_words 4 (ten_bits number)

-- the mode that they begin with
unfoldable pub first_mode : ℕ → Option Mode
first_mode number = option_map (λ found. found.0) (word_at mode_codes (ten_bits number))

-- auxiliary: the row of a look-up for these modes
abbrev pub row_for : List VerticalWord → List ℕ
row_for words =
    offset_at words 0 ∷ offset_at words 1 ∷ offset_at words 2 ∷ offset_at words 3
    ∷ (2 ^ length words - 1 + 16 * width_of (take 1 words))
    ∷ (width_of (take 2 words) + 16 * width_of (take 3 words)) ∷ width_of (take 4 words) ∷ length words ∷ []

-- auxiliary: that for ten bits
unfoldable pub group_row : ℕ → List ℕ
group_row number = row_for (words_of number)

-- the rows of a look-up, one for each value of ten bits
pub record AreRows (rows : List (List ℕ)) : Type 0 where
  pub count : length rows ≡ 1024
  pub each : (index : ℕ) → index < 1024 → get_or rows index [] ≡ group_row index
