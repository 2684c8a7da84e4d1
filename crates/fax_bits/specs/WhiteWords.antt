-- The words of white runs as numbers (auxiliary).
use Rattle.std.specs.Prelude.{◌<◌, ◌≤◌, ◌^◌, ℕ}
use Rattle.fax_bits.specs.Bits.{low_bits}
use Rattle.fax_bits.specs.CodeLists.{white_codes}
use Rattle.fax_bits.specs.CodeReading.{Has}
use Rattle.fax_bits.specs.declared.tables.CodeWord.{CodeWord}

-- the word of this many white pixels (T.4, 4.1.1, tables 2 and 3)
pub record IsWhiteWord (pixels : ℕ) (word : CodeWord) : Type 0 where
  pub listed : Has white_codes pixels (low_bits word.count word.bits)
  pub few : word.count ≤ 12
  pub short : pixels < 64 → word.count ≤ 8
  pub fits : word.bits < 2 ^ word.count
  pub some : 0 < word.count
