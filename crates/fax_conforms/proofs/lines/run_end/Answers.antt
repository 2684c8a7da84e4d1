use Rattle.hayro_ccitt.proofs.Names.{subst, arith, ℕ, here}
use Rattle.fax_conforms.specs.Stops.{RunIsHere}
use Rattle.fax_conforms.specs.declared.stops.Rule.TheVariants.{Run, RowEnd, NoPixels}
use Rattle.fax_conforms.proofs.RunsDepart.{wrong_here}
use Rattle.fax_conforms.proofs.WordsPaid.{unpaid}
use Rattle.fax_conforms.proofs.lines.run_end.Goals as goal

pub returns-in_default-clause-at : goal.returns-in_default-clause-at
returns-in_default-clause-at c = wrong_here c.broken.result c.args.columns c.args.pen c.args.reader.now c.bit_pos-word.result Run
    c.broken.ensures.exact c.bit_pos-word.ensures.place c.bit_pos-word.ensures.within
    (λ run is. c.in_default.ensures.none run is.0 is.1)

pub returns-then-run-columns-clause-at : goal.returns-then-run-columns-clause-at
returns-then-run-columns-clause-at c = wrong_here c.broken-then-run-columns.result c.args.columns c.args.pen c.args.reader.now
    c.bit_pos-word.result RowEnd c.broken-then-run-columns.ensures.exact c.bit_pos-word.ensures.place
    c.bit_pos-word.ensures.within (
      c.in-Some.run',
      (here c.run.new.reader, c.in-Some.ensures.found),
      omega (arith, c.if-run-columns.true, c.requires.within),
    )

pub returns-then-is_empty_run-clause-at : goal.returns-then-is_empty_run-clause-at
returns-then-is_empty_run-clause-at c =
    let empty = c.is_empty_run.ensures.none c.if-is_empty_run.true in
    wrong_here c.broken-then-is_empty_run.result c.args.columns c.args.pen c.args.reader.now c.bit_pos-word.result NoPixels
    c.broken-then-is_empty_run.ensures.exact c.bit_pos-word.ensures.place c.bit_pos-word.ensures.within (
      subst (λ (n : ℕ). RunIsHere c.args.pen.color n (here c.args.reader.now)) empty.2
          (here c.run.new.reader, c.in-Some.ensures.found),
      empty.0,
      empty.1,
    )

pub returns-in_default-clause-pays : goal.returns-in_default-clause-pays
returns-in_default-clause-pays c =
    unpaid c.broken.result _ _ _ _ _ c.broken.ensures.exact c.run.ensures.counts
    (omega (arith, c.run.ensures.at_most))

pub returns-then-run-columns-clause-pays : goal.returns-then-run-columns-clause-pays
returns-then-run-columns-clause-pays c =
    unpaid c.broken-then-run-columns.result _ _ _ _ _ c.broken-then-run-columns.ensures.exact c.run.ensures.counts
    (omega (arith, c.run.ensures.at_most))

pub returns-then-is_empty_run-clause-pays : goal.returns-then-is_empty_run-clause-pays
returns-then-is_empty_run-clause-pays c =
    unpaid c.broken-then-is_empty_run.result _ _ _ _ _ c.broken-then-is_empty_run.ensures.exact c.run.ensures.counts
    (omega (arith, c.run.ensures.at_most))

pub returns-clause-pays : goal.returns-clause-pays
returns-clause-pays c = record {
  counts = c.run.ensures.counts;
  paid = omega (arith, c.in-Some.ensures.work, c.in-Some.ensures.shorter);
  at_most = omega (arith, c.run.ensures.at_most);
}
