use Rattle.std.proofs.lemmas.Bool.{eqb-true, eqb-false}
use Rattle.fax_lines.proofs.DrawingLines.GroupMasks.{set_before_count, first_before_count}
use Rattle.fax_lines.proofs.vertical_groups.are_regular.Goals as goal

pub returns-clause-all : goal.returns-clause-all
returns-clause-all c e =
    set_before_count c.args.modes.now.regular c.used.result _ c.requires.mask c.used.ensures.few c.requires.few
    c.used.ensures.value (eqb-true _ 0 e)

pub returns-clause-some : goal.returns-clause-some
returns-clause-some c e =
    first_before_count c.args.modes.now.regular c.used.result _ c.requires.mask c.used.ensures.few c.requires.few
    c.used.ensures.value (eqb-false _ 0 e)
