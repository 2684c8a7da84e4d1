use Rattle.fax_rows.proofs.Readings.ZeroLines.{last_zeros}
use Rattle.fax_rows.proofs.zeros_last.bytes_of_zeros.Goals as goal

pub returns-then-not-tag-clause-plain : goal.returns-then-not-tag-clause-plain
returns-then-not-tag-clause-plain c e = last_zeros c.args.bits c.requires.few
