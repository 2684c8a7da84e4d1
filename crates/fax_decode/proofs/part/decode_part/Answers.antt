use Rattle.std.proofs.Common.{◌^◌, ◌<◌, refl, arith}
use Rattle.hayro_ccitt.specs.Bits.{Bits, bits_in}
use Rattle.fax_decode.proofs.StrictReadings.{lenient_rows}
use Rattle.fax_decode.proofs.part.decode_part.Goals as goal

pub returns-in_default-clause-rows : goal.returns-in_default-clause-rows
returns-in_default-clause-rows c =
    let columns : c.args.settings.columns < 2 ^ 32 = omega arith in
    let rows : c.args.settings.rows < 2 ^ 32 = omega arith in
    let bits : Bits = bits_in c.args.order c.args.«data».now in
    lenient_rows c.strict_then_lenient.ensures c.args.settings bits c.read_rows-strict.result c.requires.lenient
    (record { columns = columns; rows = rows }) c.read_rows-strict.ensures.reading (c.in_default.ensures.none refl)
