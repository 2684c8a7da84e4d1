use Rattle.std.proofs.Common.{Bool, subst, sym}
use Rattle.c_rows.specs.RowsFed.{TurnsToFed}
use Rattle.c_rows.proofs.feeding.Feeding.stays_within_line.Goals as goal

pub returns-clause-goes_on : goal.returns-clause-goes_on
returns-clause-goes_on c e next answer turns =
    subst (λ (kept : Bool). TurnsToFed kept c.args.self.now.rows next answer) (sym c.if-self.false)
    (c.stays_within_line.ensures.goes_on e next answer
    (subst (λ (kept : Bool). TurnsToFed kept c.stays_within_line.new.self next answer) c.if-self.false turns))
