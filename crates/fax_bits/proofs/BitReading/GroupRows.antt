-- What the row of ten bits says of their modes.
use Rattle.fax_bits.proofs.Names.{common_steps, ◌≡◌, ℕ, suc, zero, ◌+◌, ◌*◌, ◌^◌, ◌-◌, ◌/◌, ◌%◌, ◌<◌, ◌≤◌, get_or, length, ap}
use Rattle.fax_bits.proofs.Names.{refl, arith, take, take_all, pow_pos, eqb, true, Some, Horizontal, Pass, Vertical, Mode, Option}
use Rattle.fax_bits.proofs.Names.{None}
use Rattle.std.proofs.lemmas.Bool.{agree_below_at}
use Rattle.fax_bits.proofs.BitReading.BitLists.{length-low_bits}
use Rattle.fax_bits.proofs.CodeWords.VerticalWords.{words_few, words_within, words_have_bits, words_near, words_part}
use Rattle.fax_bits.specs.ModeGroups.{first_mode, group_row, offset_at, ten_bits, width_of, words_of}

-- ---- The items of the row
pub row_count : (number : ℕ) → get_or (group_row number) 7 0 ≡ length (words_of number)
unfolding group_row
row_count number = refl

pub row_offset : (number k d : ℕ) → k < 4 → get_or (group_row number) k d ≡ offset_at (words_of number) k
unfolding group_row
row_offset number k d h = grind arith

-- ---- How many modes there are, their bits and offsets
pub four_words : (number : ℕ) → length (words_of number) ≤ 4
unfolding words_of
four_words number = words_few 4 (ten_bits number)

pub row_width : (number : ℕ) → get_or (group_row number) 6 0 ≡ width_of (words_of number)
unfolding group_row
row_width number = ap width_of (take_all 4 (words_of number) (four_words number))

pub within_ten : (number : ℕ) → width_of (words_of number) ≤ 10
unfolding words_of ten_bits
within_ten number = omega (arith, words_within 4 (ten_bits number), length-low_bits 10 number)

pub bits_for_each : (number count : ℕ) → count ≤ length (words_of number) → count ≤ width_of (take count (words_of number))
unfolding words_of
bits_for_each number count h = words_have_bits 4 count (ten_bits number) h

pub part_within : (number count : ℕ) → width_of (take count (words_of number)) ≤ width_of (words_of number)
part_within number count = words_part count (words_of number)

pub few_in_part : (number count : ℕ) → width_of (take count (words_of number)) ≤ 10
few_in_part number count = omega (arith, part_within number count, within_ten number)

pub bits_for_all : (number : ℕ) → length (words_of number) ≤ width_of (words_of number)
bits_for_all number =
    omega (arith, bits_for_each number (length (words_of number)) (omega arith), part_within number (length (words_of number)))

pub offset_near : (number k : ℕ) → offset_at (words_of number) k ≤ 6
unfolding words_of
offset_near number k = words_near 4 (ten_bits number) k

-- ---- The items that hold two numbers
below_sixteen : (count : ℕ) → count ≤ 4 → 2 ^ count ≤ 16
below_sixteen zero few = omega arith
below_sixteen (suc zero) few = omega arith
below_sixteen (suc (suc zero)) few = omega arith
below_sixteen (suc (suc (suc zero))) few = omega arith
below_sixteen (suc (suc (suc (suc zero)))) few = omega arith
below_sixteen (suc (suc (suc (suc (suc n))))) few = absurd (omega (arith, few))

pub row_used : (number : ℕ) → get_or (group_row number) 4 0 % 16 ≡ 2 ^ length (words_of number) - 1
unfolding group_row
row_used number = grind (arith, below_sixteen, four_words, pow_pos)

pub row_first_width : (number count : ℕ) → 0 < count → count ≤ 4
    → get_or (group_row number) (4 + count / 2) 0 / 2 ^ (4 * (count % 2)) % 16 ≡ width_of (take count (words_of number))
unfolding group_row
row_first_width number zero some few = absurd (omega (arith, some))
row_first_width number (suc zero) some few = omega (
  arith,
  below_sixteen (length (words_of number)) (four_words number),
  pow_pos (length (words_of number)),
  few_in_part number 1,
)
row_first_width number (suc (suc zero)) some few = omega (arith, few_in_part number 2)
row_first_width number (suc (suc (suc zero))) some few = omega (arith, few_in_part number 2, few_in_part number 3)
row_first_width number (suc (suc (suc (suc zero)))) some few = omega (arith, few_in_part number 4)
row_first_width number (suc (suc (suc (suc (suc n))))) some few = absurd (omega (arith, few))

-- ---- The mode that is first
-- the number of a mode that isn't vertical
abbrev pub mode_number : Option Mode → ℕ
mode_number None = 0
mode_number (Some Horizontal) = 1
mode_number (Some Pass) = 2
mode_number (Some (Vertical distance)) = 0

-- whether it has a number shows in the first bits
pub first_horizontal : (number : ℕ) → number < 1024 → eqb (mode_number (first_mode number)) 1 ≡ eqb (number / 128) 1
unfolding first_mode ten_bits
first_horizontal number h = agree_below_at (λ k. eqb (mode_number (first_mode k)) 1) (λ k. eqb (k / 128) 1) 1024 number refl h

pub first_pass : (number : ℕ) → number < 1024 → eqb (mode_number (first_mode number)) 2 ≡ eqb (number / 64) 1
unfolding first_mode ten_bits
first_pass number h = agree_below_at (λ k. eqb (mode_number (first_mode k)) 2) (λ k. eqb (k / 64) 1) 1024 number refl h

pub numbered_one : (mode : Option Mode) → eqb (mode_number mode) 1 ≡ true → mode ≡ Some Horizontal
numbered_one mode e = grind (arith, common_steps)

pub numbered_two : (mode : Option Mode) → eqb (mode_number mode) 2 ≡ true → mode ≡ Some Pass
numbered_two mode e = grind (arith, common_steps)
