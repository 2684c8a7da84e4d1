use Rattle.hayro_ccitt.proofs.Names.{arith, err_from_is_err_and, here}
use Rattle.fax_conforms.proofs.RunsDepart.{run_passes, runs_depart}
use Rattle.fax_conforms.proofs.lines.draw_run.Goals as goal

pub returns-clause-leads : goal.returns-clause-leads
returns-clause-leads c = run_passes c.args.columns c.args.pen c.args.coding.now.items (omega (arith, c.ranges.columns.fits))
    c.requires.drawn
    c.requires.open_end c.in_ok-next.next c.paint_run.new.coding.items _ _ c.in_ok-next.ensures.run

pub returns-in_err-next-clause-at : goal.returns-in_err-next-clause-at
returns-in_err-next-clause-at c =
    let p = err_from_is_err_and c.from_residual.result c.from_residual.ensures.1 in
    rw (p.1, p.2) (runs_depart c.args.columns c.args.pen c.args.coding.now.items (omega (arith, c.ranges.columns.fits))
    c.requires.drawn
    c.requires.open_end _ c.args.reader.now.bits (here c.args.reader.now) c.in_err-next.ensures.at)

pub returns-in_err-next-clause-pays : goal.returns-in_err-next-clause-pays
returns-in_err-next-clause-pays c =
    let p = err_from_is_err_and c.from_residual.result c.from_residual.ensures.1 in
    rw (p.1, p.2) c.in_err-next.ensures.pays
