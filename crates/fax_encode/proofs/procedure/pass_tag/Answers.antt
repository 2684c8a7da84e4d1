use Rattle.fax_encode.specs.Procedure.{tag_of_line}
use Rattle.fax_encode.proofs.ComparedBits.{all_compared, bit_counted, no_tag, none_passed}
use Rattle.fax_encode.proofs.procedure.pass_tag.Goals as goal

pub returns-in-Group3_2D-clause-compares : goal.returns-in-Group3_2D-clause-compares
returns-in-Group3_2D-clause-compares c = rw c.in-Group3_2D.is c.pass_bit.ensures

pub returns-in-Group3_2D-clause-ticks : goal.returns-in-Group3_2D-clause-ticks
returns-in-Group3_2D-clause-ticks c = rw c.tick.ensures (bit_counted c.args.ticks.now c.pass_bit.ensures)

pub returns-in-Group3_1D-clause-compares : goal.returns-in-Group3_1D-clause-compares
returns-in-Group3_1D-clause-compares c = all_compared
    (none_passed (tag_of_line c.args.kind.encoding c.args.kind.is_two_dimensional) c.args.reader.now)
    (no_tag c.args.kind.encoding c.args.kind.is_two_dimensional c.in-Group3_1D.is)
