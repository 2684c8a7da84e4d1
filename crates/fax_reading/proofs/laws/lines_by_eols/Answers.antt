use Rattle.fax_reading.proofs.DamagedLines.LinesByEols.{starts_are}
use Rattle.fax_reading.proofs.DamagedLines.LinesByEols.{lines_by_eols as the_lemma}
use Rattle.fax_reading.proofs.laws.lines_by_eols.Goals as goal

pub returns-clause-starts : goal.returns-clause-starts
returns-clause-starts c = starts_are

pub returns-clause-rows : goal.returns-clause-rows
returns-clause-rows c = the_lemma
