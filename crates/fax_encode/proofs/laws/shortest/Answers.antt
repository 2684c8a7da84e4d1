use Rattle.fax_encode.proofs.ShortestBySettings.{none_is_shorter, no_line_is_shorter, no_runs_are_shorter}
use Rattle.fax_encode.proofs.ShortestRuns.{shortest_runs}
use Rattle.fax_encode.proofs.ShortestLines.{shortest_lines}
use Rattle.fax_encode.proofs.ShortestPictures.{shortest_pictures_t6}
use Rattle.fax_encode.proofs.laws.shortest.Goals as goal

pub returns-clause-runs : goal.returns-clause-runs
returns-clause-runs c = shortest_runs

pub returns-clause-lines : goal.returns-clause-lines
returns-clause-lines c = shortest_lines

pub returns-clause-pictures : goal.returns-clause-pictures
returns-clause-pictures c = shortest_pictures_t6

pub returns-clause-chosen : goal.returns-clause-chosen
returns-clause-chosen c = none_is_shorter

pub returns-clause-kinds : goal.returns-clause-kinds
returns-clause-kinds c = no_line_is_shorter

pub returns-clause-rows : goal.returns-clause-rows
returns-clause-rows c = no_runs_are_shorter
