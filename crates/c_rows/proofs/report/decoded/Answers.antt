use Rattle.hayro_ccitt.specs.Bits.{bits_in}
use Rattle.c_rows.proofs.Reporting.{no_memory}
use Rattle.c_rows.proofs.report.decoded.Goals as goal

pub returns-in_default-clause-report : goal.returns-in_default-clause-report
returns-in_default-clause-report g c = no_memory c.args.settings (bits_in c.args.order c.args.«data».now)
