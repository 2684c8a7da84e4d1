use Rattle.fax_bits.proofs.Names.{◌≡◌, ◌/◌, ◌<◌, ◌^◌, get_or, length, min, false, true}
use Rattle.fax_bits.proofs.Names.{arith, cases_lt, eq-eqb, false≢true, slice_get-get_or, get_or_past, bits_in}
use Rattle.fax_bits.proofs.{BitReading.WindowWords.top_bit}
use Rattle.fax_bits.specs.declared.bit_reader.BitReader.TheInside.{Inside}
use Rattle.fax_bits.specs.Window.{IsFilled}
use Rattle.fax_bits.proofs.bit_reader.pass_one.Goals as goal

-- if the window begins with a one, it is there
module _ (r : Inside) (filled : IsFilled r) (fits : r.window < 2 ^ 64) (begins : r.window / 2 ^ 63 ≡ 1) where
  is_one : get_or (bits_in r.order r.«data».now) r.place false ≡ true
  is_one = grind (arith, top_bit, eq-eqb)

  there : r.place < length (bits_in r.order r.«data».now)
  there = grind (arith, cases_lt, false≢true, get_or_past, is_one)

pub returns-clause-one : goal.returns-clause-one
returns-clause-one c = grind (arith, top_bit, slice_get-get_or, there, is_one)

pub returns-clause-moved : goal.returns-clause-moved
returns-clause-moved c = grind (arith, top_bit, there, min)
