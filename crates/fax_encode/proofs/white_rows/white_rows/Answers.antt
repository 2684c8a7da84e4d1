use Rattle.fax_encode.proofs.Names.{◌*◌, ◌/◌, arith}
use Rattle.fax_encode.proofs.WhiteRowLines.{white_less}
use Rattle.fax_encode.proofs.white_rows.white_rows.Goals as goal

pub returns-clause-white : goal.returns-clause-white
returns-clause-white c =
    white_less (c.zero_bytes.result / c.args.width * c.args.width) c.zero_bytes.result c.args.bitmap.now
    (omega arith) c.zero_bytes.ensures.within c.zero_bytes.ensures.white
