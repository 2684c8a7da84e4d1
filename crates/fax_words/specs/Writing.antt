-- Bits that are written one after another.
use Rattle.std.specs.Prelude.{◌≡◌, ℕ, ◌^◌, ◌<◌, ◌≤◌, List, ◌++◌}
use Rattle.fax_bits.specs.Bits.{Bits, bits_of, low_bits}
use Rattle.fax_bits.specs.declared.codes.Color.{Color}
use Rattle.fax_bits.specs.declared.codes.Mode.TheVariants.{Horizontal}
use Rattle.fax_reading.specs.Rows.{opposite}
use Rattle.fax_words.specs.Chosen.{chosen_run, word_of_mode}
use Rattle.fax_words.specs.declared.words.Word.{Word}

-- the whole bytes, and the bits after them, fewer than 64
pub record Written : Type 0 where
  pub bytes : List ℕ
  pub rest : Bits

-- all bits that were written
abbrev pub all_bits : Written → Bits
all_bits written = bits_of written.bytes ++ written.rest

-- horizontal mode and its two runs are written, the first of this colour (T.4, 4.2.1.3.1)
abbrev pub WritesHorizontal : Color → ℕ → ℕ → Written → Written → Type 0
WritesHorizontal color first second old new = all_bits new
    ≡ all_bits old ++ (word_of_mode Horizontal ++ (chosen_run color first ++ chosen_run (opposite color) second))

-- what a writer had: the number of bytes, and the bits after them
pub record Marked : Type 0 where
  pub count : ℕ
  pub rest : Bits

-- a number whose lowest bits, at most 13, spell this word
pub record IsWord (word : Bits) (coded : Word) : Type 0 where
  pub few : coded.count ≤ 13
  pub fits : coded.bits < 2 ^ coded.count
  pub spells : low_bits coded.count coded.bits ≡ word
