use Rattle.fax_rows.proofs.Names.{arith, common_steps, ap, length, length-append, refl, here}
use Rattle.fax_rows.proofs.Readings.GapsTidy.{all_counted, few_counted, few_within, one_ends, one_left_within}
use Rattle.fax_rows.proofs.gap_count.count_gap.Goals as goal

pub go_back_to_eol-requires-clause-after : goal.go_back_to_eol-requires-clause-after
go_back_to_eol-requires-clause-after c =
    grind (arith, common_steps, one_left_within c.args.settings)

pub returns-then-ended-2-clause-ends : goal.returns-then-ended-2-clause-ends
returns-then-ended-2-clause-ends c e =
    grind (arith, common_steps, one_ends c.args.settings)

pub go_back_to_eol-requires-then-count-lt16-clause-after : goal.go_back_to_eol-requires-then-count-lt16-clause-after
go_back_to_eol-requires-then-count-lt16-clause-after c =
    grind (arith, common_steps, few_within)

pub returns-then-count-lt16-clause-open : goal.returns-then-count-lt16-clause-open
returns-then-count-lt16-clause-open c e =
    grind (arith, common_steps, few_counted c.args.settings)

pub returns-else-count-lt16-clause-open : goal.returns-else-count-lt16-clause-open
returns-else-count-lt16-clause-open c e =
    grind (arith, common_steps, all_counted c.args.settings)

pub returns-then-count-lt16-clause-work : goal.returns-then-count-lt16-clause-work
returns-then-count-lt16-clause-work c = grind (arith, common_steps, few_counted c.args.settings)

pub returns-then-ended-2-clause-onward : goal.returns-then-ended-2-clause-onward
returns-then-ended-2-clause-onward c =
    let ends = returns-then-ended-2-clause-ends c refl in
    omega (arith, ap length ends.are, length-append ends.first (here c.go_back_to_eol.new.reader))

pub returns-then-count-lt16-clause-onward : goal.returns-then-count-lt16-clause-onward
returns-then-count-lt16-clause-onward c =
    let waits = returns-then-count-lt16-clause-open c refl in
    omega (arith, ap length waits.are, length-append waits.first (here c.go_back_to_eol-then-count-lt16.new.reader))
