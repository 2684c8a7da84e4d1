use Rattle.hayro_ccitt.proofs.Names.{ap, err_from_is_err_and}
use Rattle.hayro_ccitt.proofs.Names.{sym, subst, arith, pixels, Pass, drop}
use Rattle.fax_conforms.specs.declared.lines.Pen.{Pen}
use Rattle.fax_conforms.specs.Standing.{Leads, LineFrom, ModeFrom, spot_of, DrawsOn}
use Rattle.fax_conforms.proofs.PensDrawn.{pass_on, pass_drawn, pass_right}
use Rattle.fax_conforms.proofs.WordsPaid.{unpaid}
use Rattle.fax_conforms.proofs.Passed.{departs_at}
use Rattle.fax_conforms.proofs.ModesDepart.{begins_here, pass_departs}
use Rattle.fax_conforms.specs.declared.stops.Rule.TheVariants.{PassToEnd}
use Rattle.fax_conforms.proofs.lines.draw_pass.Goals as goal

pub paint_to-requires-clause-right : goal.paint_to-requires-clause-right
paint_to-requires-clause-right c =
    pass_right c.args.columns c.args.pen c.args.coding.now.items (omega (arith, c.ranges.columns.fits)) c.requires.drawn
    c.requires.open_end c.args.reference.now c.requires.above c.find_above-above.result.b2 c.find_above-above.ensures.b2
    c.if-above-columns.false

pub returns-clause-leads : goal.returns-clause-leads
returns-clause-leads c = λ here. subst (λ (p : Pen). Leads c.args.columns
    (ModeFrom (pixels c.args.columns c.args.reference.now) (spot_of c.args.pen c.args.coding.now.items) Pass here)
    (LineFrom (pixels c.args.columns c.args.reference.now) (spot_of p c.paint_to.new.coding.items) here))
    (sym c.with_passed.ensures)
    (pass_drawn c.args.columns c.args.pen c.args.coding.now.items (omega (arith, c.ranges.columns.fits)) c.requires.drawn
    c.requires.open_end c.args.reference.now c.requires.above c.find_above-above.result.b2 c.find_above-above.ensures.b2
    c.if-above-columns.false c.in_ok-next.next c.paint_to.new.coding.items c.in_ok-next.ensures.painted here)

pub returns-clause-on : goal.returns-clause-on
returns-clause-on c = subst (λ (p : Pen). DrawsOn c.args.columns c.args.reference.now c.args.pen p c.paint_to.new.coding.items)
    (sym c.with_passed.ensures)
    (pass_on c.args.columns c.args.pen c.args.coding.now.items (omega (arith, c.ranges.columns.fits)) c.requires.drawn
    c.requires.open_end c.args.reference.now c.requires.above c.find_above-above.result.b2 c.find_above-above.ensures.b2
    c.if-above-columns.false c.in_ok-next.next c.paint_to.new.coding.items c.in_ok-next.ensures.painted
    c.find_above-above.result.passed c.find_above-above.ensures.above)

pub returns-then-above-columns-clause-at : goal.returns-then-above-columns-clause-at
returns-then-above-columns-clause-at c = rw c.broken.ensures.exact (λ bits within is.
    departs_at c.args.columns bits c.args.pen.word PassToEnd within
    (begins_here c.args.columns c.args.pen c.args.coding.now.items (omega (arith, c.ranges.columns.fits)) c.requires.drawn
    c.requires.open_end c.args.reference.now c.requires.above) (λ row more rest row_len stands.
    pass_departs c.args.columns c.args.pen c.args.coding.now.items (omega (arith, c.ranges.columns.fits)) c.requires.drawn
    c.requires.open_end c.args.reference.now c.requires.above c.args.pen.word (drop c.args.pen.word bits) row more rest row_len
    stands (omega (arith, c.if-above-columns.true, c.find_above-above.ensures.b2)) is))

pub returns-then-above-columns-clause-pays : goal.returns-then-above-columns-clause-pays
returns-then-above-columns-clause-pays c =
    let passes = c.find_above-above.ensures.passes in
    unpaid c.broken.result _ _ _ _ _ c.broken.ensures.exact (omega (arith, passes.forward, passes.work))
    (omega (arith, passes.forward, passes.work, passes.passed.within))

pub returns-in_err-next-clause-pays : goal.returns-in_err-next-clause-pays
returns-in_err-next-clause-pays c =
    let p = err_from_is_err_and c.from_residual.result c.from_residual.ensures.1 in
    let passes = c.find_above-above.ensures.passes in
    rw (p.1, p.2) (record {
      counts = omega (arith, passes.forward, passes.work);
      paid = tt;
      at_most = omega (arith, passes.forward, passes.work, passes.passed.within);
    })

pub returns-clause-pays : goal.returns-clause-pays
returns-clause-pays c =
    let passes = c.find_above-above.ensures.passes in
    record {
      counts = omega (arith, passes.forward, passes.work);
      paid = omega (
        arith,
        passes.forward,
        passes.work,
        passes.passed.within,
        c.paint_to.ensures.few,
        ap (λ (p : Pen). p.passed) c.with_passed.ensures,
      );
      at_most = omega (arith, passes.forward, passes.work, passes.passed.within);
    }
