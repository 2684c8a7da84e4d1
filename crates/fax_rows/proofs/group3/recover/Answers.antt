use Rattle.fax_rows.proofs.Names.{rules}
use Rattle.fax_rows.proofs.group3.recover.Goals as goal

pub returns-clause-put_back : goal.returns-clause-put_back
returns-clause-put_back c = search rules
