use Rattle.hayro_ccitt.proofs.Names.{arith}
use Rattle.hayro_ccitt.proofs.Names.{err_from_is_err_and, here, ◌∙◌}
use Rattle.fax_conforms.proofs.LinesDone.{line_1d_done}
use Rattle.fax_conforms.proofs.Passed.{passes_on, passes_all, stop_after, stop_in}
use Rattle.fax_conforms.proofs.lines.draw_line_1d.Goals as goal

pub runs-preserved : goal.runs-preserved
runs-preserved c = record {
  leads = λ reference. passes_on c.args.columns _ _ _ (c.runs.invariant.leads reference) c.in_ok-pen.ensures.leads;
  drawn = c.in_ok-pen.ensures.drawn;
  same_bits = c.draw_run.ensures.same_bits ∙ c.runs.invariant.same_bits;
  counts = omega (arith, c.draw_run.ensures.pays.counts, c.runs.invariant.counts);
  work = omega (arith, c.in_ok-pen.ensures.pays.paid, c.runs.invariant.work);
}

pub returns-in_err-pen-clause-at : goal.returns-in_err-pen-clause-at
returns-in_err-pen-clause-at c =
    let p = err_from_is_err_and c.from_residual.result c.from_residual.ensures.1 in
    rw (p.1, p.2) (λ reference. stop_after c.args.columns c.args.reader.now.bits _ _ (c.runs.invariant.leads reference) _
    (stop_in _ c.args.columns c.args.reader.now.bits c.runs.reader.bits (here c.runs.reader) _ c.runs.invariant.same_bits
    c.in_err-pen.ensures.at))

pub returns-clause-row : goal.returns-clause-row
returns-clause-row c = λ reference. passes_on c.args.columns _ _ _ (c.runs.invariant.leads reference)
    (passes_all c.args.columns (here c.runs.reader) (line_1d_done c.args.columns c.runs.pen c.runs.coding.items
    c.runs.invariant.drawn c.runs-test.false c.requires.wide))

pub returns-in_err-pen-clause-pays : goal.returns-in_err-pen-clause-pays
returns-in_err-pen-clause-pays c =
    let p = err_from_is_err_and c.from_residual.result c.from_residual.ensures.1 in
    rw (p.1, p.2) (record {
      counts = omega (arith, c.runs.invariant.counts, c.draw_run.ensures.pays.counts);
      paid = tt;
      at_most = omega (arith, c.draw_run.ensures.pays.at_most, c.runs.invariant.work);
    })

pub returns-clause-pays : goal.returns-clause-pays
returns-clause-pays c = record {
  counts = c.runs.invariant.counts;
  paid = omega (arith, c.runs.invariant.work);
  at_most = omega (arith, c.runs.invariant.work);
}
