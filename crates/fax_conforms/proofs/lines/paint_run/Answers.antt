use Rattle.hayro_ccitt.proofs.Names.{arith, err_from_is_err_and}
use Rattle.fax_conforms.proofs.lines.paint_run.Goals as goal

pub returns-in_err-place-clause-pays : goal.returns-in_err-place-clause-pays
returns-in_err-place-clause-pays c =
    let p = err_from_is_err_and c.from_residual.result c.from_residual.ensures.1 in
    rw (p.1, p.2) (record {
      counts = c.run_end.ensures.pays.counts;
      paid = tt;
      at_most = omega (arith, c.run_end.ensures.pays.at_most);
    })

pub returns-in_err-next-clause-pays : goal.returns-in_err-next-clause-pays
returns-in_err-next-clause-pays c =
    let p = err_from_is_err_and c.from_residual-in_err-next.result c.from_residual-in_err-next.ensures.1 in
    rw (p.1, p.2) (record {
      counts = c.run_end.ensures.pays.counts;
      paid = tt;
      at_most = omega (arith, c.run_end.ensures.pays.at_most);
    })

pub returns-clause-pays : goal.returns-clause-pays
returns-clause-pays c = record {
  counts = c.run_end.ensures.pays.counts;
  paid = omega (arith, c.in_ok-place.ensures.pays.paid, c.paint_to.ensures.few);
  at_most = omega (arith, c.run_end.ensures.pays.at_most);
}
