use Rattle.std.proofs.Common.{◌-◌}
use Rattle.fax_decode.proofs.words.read_words.Given as goal

abbrev pub decreases-loop-made : goal.decreases-loop-made
decreases-loop-made l = l.settings.rows - l.made.rows
