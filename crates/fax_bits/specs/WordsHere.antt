-- Words that are here. This is not part of the trusted specification: no contract of a public call cites it.
use Rattle.std.specs.Prelude.{◌≡◌, ◌+◌, ◌≤◌, ℕ, Ok, length}
use Rattle.fax_bits.specs.declared.codes.Color.{Color}
use Rattle.fax_bits.specs.Bits.{Bits, BitsAt, here}
use Rattle.fax_bits.specs.CodeReading.{read_code}
use Rattle.fax_bits.specs.Runs.{codes_of, read_run, run_from}
use Rattle.fax_bits.specs.Ticks.{run_found}
use Rattle.fax_bits.specs.Window.{moved}

-- a word of a colour's list is here, for this run, and has this width
pub record IsWordHere (color : Color) (at : BitsAt) (run width : ℕ) : Type 0 where
  pub read : read_code (codes_of color) (here at) ≡ Ok (run, here (moved width at))
  pub few : width ≤ 13

-- a run is here, with this number of bits and of words
pub record IsRunHere (color : Color) (at : BitsAt) (run width words : ℕ) : Type 0 where
  pub read : read_run color (here at) ≡ Ok (run, here (moved width at))
  pub found : length (run_found color (0, here at)) ≡ words

-- A run goes on after make-up words: it is the same, and the words between were counted.
pub record RunGoesOn (color : Color) (before : ℕ) (from : Bits) (after : ℕ) (to : Bits) (ticks now : ℕ) : Type 0 where
  pub run : run_from color (before, from) ≡ run_from color (after, to)
  pub counted : now + length (run_found color (after, to)) ≡ ticks + length (run_found color (before, from))
  pub onward : length to ≤ length from
