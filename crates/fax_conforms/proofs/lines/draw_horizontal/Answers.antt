use Rattle.hayro_ccitt.proofs.Names.{◌∙◌}
use Rattle.hayro_ccitt.proofs.Names.{arith, err_from_is_err_and, here}
use Rattle.fax_conforms.proofs.RunsDepart.{first_departs, second_departs, horizontal_passes, run_in}
use Rattle.fax_conforms.proofs.RunsDrawn.{horizontal_on}
use Rattle.fax_conforms.proofs.WordsPaid.{paid_after}
use Rattle.fax_conforms.proofs.lines.draw_horizontal.Goals as goal

pub returns-in_err-between-clause-at : goal.returns-in_err-between-clause-at
returns-in_err-between-clause-at c =
    let p = err_from_is_err_and c.from_residual.result c.from_residual.ensures.1 in
    rw (p.1, p.2) (λ reference ref_len. first_departs c.args.columns c.args.pen c.args.coding.now.items (omega (
      arith,
      c.ranges.columns.fits,
    )) c.requires.drawn
    c.requires.open_end reference ref_len _ c.args.reader.now.bits (here c.args.reader.now)
    c.in_err-between.ensures.at)

pub returns-in_err-next-clause-at : goal.returns-in_err-next-clause-at
returns-in_err-next-clause-at c =
    let p = err_from_is_err_and c.from_residual-in_err-next.result c.from_residual-in_err-next.ensures.1 in
    rw (p.1, p.2) (λ reference ref_len. second_departs c.args.columns c.args.pen c.args.coding.now.items (omega (
      arith,
      c.ranges.columns.fits,
    )) c.requires.drawn
    c.requires.open_end c.in_ok-between.between c.paint_run.new.coding.items _ _
    c.in_ok-between.ensures.run reference ref_len _ c.args.reader.now.bits
    (run_in c.args.columns c.in_ok-between.between c.args.reader.now.bits c.paint_run.new.reader.bits
    (here c.paint_run.new.reader) _ c.paint_run.ensures.same_bits c.in_err-next.ensures.at))

pub returns-clause-leads : goal.returns-clause-leads
returns-clause-leads c = horizontal_passes c.args.columns c.args.pen c.args.coding.now.items (omega (
  arith,
  c.ranges.columns.fits,
))
    c.requires.drawn
    c.requires.open_end c.in_ok-between.between c.paint_run.new.coding.items _ _ c.in_ok-between.ensures.run
    c.in_ok-next.next c.paint_run-2.new.coding.items _ c.in_ok-next.ensures.run

pub returns-clause-on : goal.returns-clause-on
returns-clause-on c = horizontal_on c.args.columns c.args.pen c.args.coding.now.items (omega (arith, c.ranges.columns.fits))
    c.requires.drawn
    c.requires.open_end c.in_ok-between.between c.paint_run.new.coding.items _ _ c.in_ok-between.ensures.run
    c.in_ok-next.next c.paint_run-2.new.coding.items _ c.in_ok-next.ensures.run

pub returns-clause-passed : goal.returns-clause-passed
returns-clause-passed c = c.in_ok-next.ensures.run.painted.passed ∙ c.in_ok-between.ensures.run.painted.passed

pub returns-in_err-between-clause-pays : goal.returns-in_err-between-clause-pays
returns-in_err-between-clause-pays c =
    let p = err_from_is_err_and c.from_residual.result c.from_residual.ensures.1 in
    rw (p.1, p.2) c.in_err-between.ensures.pays

pub returns-in_err-next-clause-pays : goal.returns-in_err-next-clause-pays
returns-in_err-next-clause-pays c =
    let p = err_from_is_err_and c.from_residual-in_err-next.result c.from_residual-in_err-next.ensures.1 in
    rw (p.1, p.2) (paid_after _ _ _ _ _ _ 0 _ _ c.in_err-next.ensures.pays c.paint_run.ensures.pays.counts
    (omega (arith, c.in_ok-between.ensures.pays.paid)) (λ next. omega arith))

pub returns-clause-pays : goal.returns-clause-pays
returns-clause-pays c = paid_after _ _ _ _ _ _ 0 _ _ c.in_ok-next.ensures.pays c.paint_run.ensures.pays.counts
    (omega (arith, c.in_ok-between.ensures.pays.paid)) (λ next. omega arith)
