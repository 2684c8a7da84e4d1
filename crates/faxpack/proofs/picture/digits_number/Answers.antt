use Rattle.faxpack.proofs.Headers.{no_number}
use Rattle.faxpack.proofs.picture.digits_number.Goals as goal

pub returns-in-Err : goal.returns-in-Err
returns-in-Err c = no_number c.args.word.now (c.in-Err.ensures.cases.0)
