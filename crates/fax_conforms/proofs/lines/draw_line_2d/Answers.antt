use Rattle.hayro_ccitt.proofs.Names.{◌≡◌, ℕ, AreChanges, arith, err_from_is_err_and, here, pixels, ◌∙◌, subst}
use Rattle.fax_conforms.proofs.LinesDone.{line_2d_done}
use Rattle.fax_conforms.proofs.Broken.{broken_never}
use Rattle.fax_conforms.proofs.Passed.{passes_now, passes_on, passes_all, stop_after, stop_in}
use Rattle.fax_conforms.proofs.lines.draw_line_2d.Goals as goal

pub modes-preserved : goal.modes-preserved
modes-preserved c = record {
  leads = passes_on c.args.columns _ _ _ c.modes.invariant.leads c.in_ok-pen.ensures.leads;
  drawn = c.in_ok-pen.ensures.on.drawn;
  above = c.in_ok-pen.ensures.on.above;
  same_bits = c.draw_mode.ensures.same_bits ∙ c.modes.invariant.same_bits;
  counts = omega (arith, c.draw_mode.ensures.pays.counts, c.modes.invariant.counts);
  work = omega (arith, c.in_ok-pen.ensures.pays.paid, c.modes.invariant.work);
}

pub returns-in_err-pen-clause-reads : goal.returns-in_err-pen-clause-reads
returns-in_err-pen-clause-reads c =
    let p = err_from_is_err_and c.from_residual.result c.from_residual.ensures.1 in
    let at = stop_after c.args.columns c.args.reader.now.bits _ _ c.modes.invariant.leads _
    (stop_in _ c.args.columns c.args.reader.now.bits c.modes.reader.bits (here c.modes.reader) _ c.modes.invariant.same_bits
    c.in_err-pen.ensures.at) in
    rw (p.1, p.2) (record {
      row = tt;
      passes = tt;
      lawful = tt;
      none = λ broken. broken_never _ c.args.columns _ _ _ at broken;
      at = at;
    })

pub returns-clause-reads : goal.returns-clause-reads
returns-clause-reads c =
    let whole : c.modes.pen.painted ≡ c.args.columns = omega (arith, c.modes.invariant.drawn.within, c.modes-test.false) in
    let passes = passes_on c.args.columns _ _ _ c.modes.invariant.leads (passes_all c.args.columns (here c.modes.reader)
    (line_2d_done c.args.columns c.modes.pen c.modes.coding.items c.modes.invariant.drawn c.modes-test.false c.requires.wide
    (pixels c.args.columns c.args.reference.now))) in
    record {
      row = passes_now c.args.columns _ _ passes;
      passes = passes;
      lawful = subst (λ (n : ℕ). AreChanges n c.modes.coding.items) whole c.modes.invariant.drawn.lawful;
      none = tt;
      at = tt;
    }

pub returns-in_err-pen-clause-pays : goal.returns-in_err-pen-clause-pays
returns-in_err-pen-clause-pays c =
    let p = err_from_is_err_and c.from_residual.result c.from_residual.ensures.1 in
    rw (p.1, p.2) (record {
      counts = omega (arith, c.modes.invariant.counts, c.draw_mode.ensures.pays.counts);
      paid = tt;
      at_most = omega (arith, c.draw_mode.ensures.pays.at_most, c.modes.invariant.work);
    })

pub returns-clause-pays : goal.returns-clause-pays
returns-clause-pays c = record {
  counts = c.modes.invariant.counts;
  paid = omega (arith, c.modes.invariant.work);
  at_most = omega (arith, c.modes.invariant.work);
}
