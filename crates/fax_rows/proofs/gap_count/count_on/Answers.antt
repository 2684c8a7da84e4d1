use Rattle.fax_rows.proofs.Names.{common_steps}
use Rattle.fax_rows.proofs.Names.{◌≡◌, ◌++◌, ◌∷◌, ◌∙◌, [], sym, arith, length-append, here, true, false}
use Rattle.std.proofs.Common.{append-nil, replicate}
use Rattle.std.proofs.lemmas.List.{length-replicate}
use Rattle.fax_bits.proofs.BitReading.SoughtEols.{looked-zeros}
use Rattle.fax_bits.proofs.BitReading.ZeroRuns.{looked_run}
use Rattle.fax_rows.proofs.Readings.GapsCounted.{all_are_counted, one_counted_next, zeros_counted}
use Rattle.fax_rows.proofs.gap_count.count_on.Goals.{In-None, In-Some}
use Rattle.fax_rows.proofs.gap_count.count_on.Goals as goal

zeros_left : (c : In-None) → here c.ones.rest ≡ replicate c.zero_run-zeros.result.0 false
zeros_left c = rw c.in-None.is at c.zero_run-zeros.ensures.end

run_here : (c : In-Some) → here c.ones.rest ≡ replicate c.zero_run-zeros.result.0 false ++ true ∷ here c.in-Some.after
run_here c = let one = rw c.in-Some.is at c.zero_run-zeros.ensures.one in one.1

same_there : (c : In-Some) → c.in-Some.after.bits ≡ c.ones.rest.bits
same_there c = let one = rw c.in-Some.is at c.zero_run-zeros.ensures.one in one.0

pub returns-in-None-clause-open : goal.returns-in-None-clause-open
returns-in-None-clause-open c e =
    grind (
      arith,
      common_steps,
      all_are_counted
          (zeros_counted c.zero_run-zeros.result.0 [] c.ones.invariant.counts (zeros_left c ∙ sym (append-nil (replicate
          c.zero_run-zeros.result.0 false)))),
    )

pub returns-in-None-clause-work_open : goal.returns-in-None-clause-work_open
returns-in-None-clause-work_open c e = grind (arith, common_steps, looked-zeros, length-replicate, zeros_left c)

pub returns-then-not-count_one-clause-ends : goal.returns-then-not-count_one-clause-ends
returns-then-not-count_one-clause-ends c e =
    let at = (goal.at.returns-then-not-count_one-clause-ends c).In-Some in
    grind (
      arith,
      common_steps,
      zeros_counted c.zero_run-zeros.result.0 (true ∷ here c.in-Some.after) c.ones.invariant.counts (run_here at),
    )

pub returns-then-not-count_one-clause-work : goal.returns-then-not-count_one-clause-work
returns-then-not-count_one-clause-work c e =
    let at = (goal.at.returns-then-not-count_one-clause-work c).In-Some in
    grind (arith, common_steps, looked_run, length-append, length-replicate, run_here at)

pub ones-preserved : goal.ones-preserved
ones-preserved c =
    let at = (goal.at.ones-preserved c).In-Some in
    grind (
      arith,
      common_steps,
      looked_run,
      length-append,
      length-replicate,
      run_here at,
      same_there at,
      one_counted_next {next = c.count_one.new.count} (zeros_counted c.zero_run-zeros.result.0
          (true ∷ here c.in-Some.after) c.ones.invariant.counts
          (run_here at)),
    )
