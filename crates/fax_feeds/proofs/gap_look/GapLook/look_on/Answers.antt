use Rattle.fax_feeds.proofs.Names.{common_steps}
use Rattle.fax_feeds.proofs.Names.{◌≡◌, ◌+◌, ◌≤◌, ◌++◌, ◌∷◌, ap, arith, length, here, replicate, true, false}
use Rattle.fax_feeds.proofs.Names.{length-append, length-drop, length-replicate}
use Rattle.fax_bits.proofs.BitReading.SoughtEols.{looked-zeros}
use Rattle.fax_bits.proofs.BitReading.ZeroRuns.{looked_run}
use Rattle.fax_feeds.proofs.Readings.GapsSeen.{looks_at_run, looks_at_zeros}
use Rattle.fax_feeds.proofs.gap_look.GapLook.look_on.Goals.{In-None, In-Some}
use Rattle.fax_feeds.proofs.gap_look.GapLook.look_on.Goals as goal

only_zeros : (c : In-None) → here c.ones.rest ≡ replicate c.zero_run-zeros.result.0 false
only_zeros c = rw c.in-None.is at c.zero_run-zeros.ensures.end

pub returns-in-None-clause-looks : goal.returns-in-None-clause-looks
returns-in-None-clause-looks c = grind (arith, common_steps, looks_at_zeros, only_zeros c)

pub returns-in-None-clause-ticks : goal.returns-in-None-clause-ticks
returns-in-None-clause-ticks c = grind (arith, common_steps, looked-zeros, length-replicate, only_zeros c)

pub returns-in-None-clause-all : goal.returns-in-None-clause-all
returns-in-None-clause-all c e = grind (arith, common_steps, length-append, length-replicate, only_zeros c)

run_here : (c : In-Some) → here c.ones.rest ≡ replicate c.zero_run-zeros.result.0 false ++ true ∷ here c.in-Some.after
run_here c = let one = rw c.in-Some.is at c.zero_run-zeros.ensures.one in one.1

-- the bits looked at are within the data
run_within : (c : In-Some) → c.ones.self.bits + c.zero_run-zeros.result.0 + 1 ≤ length c.args.reader.now.bits
run_within c =
    let looks = c.ones.invariant.looks in
    let n = c.zero_run-zeros.result.0 in
    omega (
      arith,
      looks.bits,
      ap length looks.are,
      length-append looks.looked (here c.ones.rest),
      ap length (run_here c),
      length-append (replicate n false) (true ∷ here c.in-Some.after),
      length-replicate n false,
      c.requires.before,
      c.bit_pos-start.ensures.place,
      c.bit_pos-start.ensures.within,
      length-drop c.args.reader.now.place c.args.reader.now.bits,
    )

pub overflow_add-self-in-Some : goal.overflow_add-self-in-Some
overflow_add-self-in-Some c =
    omega (arith, run_within (goal.at.overflow_add-self-in-Some c).In-Some, c.bit_pos-start.ensures.fit)

pub ones-preserved : goal.ones-preserved
ones-preserved c = grind (arith, common_steps, looks_at_run, looked_run, run_here ((goal.at.ones-preserved c).In-Some))
