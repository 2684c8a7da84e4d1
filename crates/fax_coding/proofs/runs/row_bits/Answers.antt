use Rattle.fax_coding.proofs.Names.{◌≡◌, ◌+◌, ◌-◌, ◌<◌, ℕ, List, length, drop, get_or, sym, ap, ◌∙◌, arith}
use Rattle.fax_coding.proofs.Names.{length-append, White, Black, chosen_run}
use Rattle.fax_coding.proofs.Names.{chosen_runs}
use Rattle.fax_coding.proofs.RunLengths.{pair_taken}
use Rattle.fax_coding.proofs.runs.row_bits.Goals as goal
use Rattle.fax_words.proofs.RunsWritten.{last_run, two_ascend}

pub loop-next-preserved : goal.loop-next-preserved
loop-next-preserved c =
    let i : ℕ = c.loop-next.next in
    let columns : ℕ = c.args.columns in
    let changes : List ℕ = c.args.changes.now in
    let place : ℕ = c.loop-next.place in
    let white : ℕ = get_or changes (i + 1) 0 in
    let first : i < length changes = omega (arith, c.loop-next-test.true) in
    let second : i + 1 < length changes = omega (arith, c.loop-next-test.true) in
    let two : i + 1 + 1 ≡ i + 2 = omega arith in
    let ascend = c.loop-next.invariant.ascend in
    let after = two_ascend columns place i White changes second ascend in
    record {
      counted = omega (arith, second);
      within = after.0;
      ascend = after.1;
      few = omega (
        arith,
        c.from-bits.ensures,
        c.from.ensures,
        c.from-in-loop-next.ensures,
        c.run_bits.type_inv,
        c.run_bits-in-loop-next.type_inv,
        c.loop-next.invariant.few,
      );
      taken = ap (λ (n : ℕ). c.loop-next.bits + n + length (chosen_runs columns White white (drop (i + 2) changes)))
          (c.from-bits.ensures) ∙ ap (λ (n : ℕ). c.loop-next.bits + (c.from.result + c.from-in-loop-next.result)
          + length (chosen_runs columns White white (drop n changes))) (sym two) ∙ pair_taken columns place i changes
          c.loop-next.bits c.from.result c.from-in-loop-next.result _ first second ascend (c.from.ensures ∙ c.run_bits.ensures)
          (c.from-in-loop-next.ensures ∙ c.run_bits-in-loop-next.ensures) c.loop-next.invariant.taken;
    }

pub returns : goal.returns
returns c =
    let i : ℕ = c.loop-next.next in
    let columns : ℕ = c.args.columns in
    let changes : List ℕ = c.args.changes.now in
    let place : ℕ = c.loop-next.place in
    let black : ℕ = get_or changes i 0 in
    let last : i < length changes =
    omega (arith, c.loop-next-test.false, c.if-next-changes.false, c.loop-next.invariant.counted) in
    let split = last_run columns place i changes last (omega (arith, c.loop-next-test.false)) c.loop-next.invariant.ascend in
    omega (
      arith,
      ap length split,
      length-append (chosen_run White (black - place)) (chosen_run Black (columns - black)),
      c.loop-next.invariant.taken,
      c.from-4.ensures,
      c.from-2.ensures,
      c.from-3.ensures,
      c.run_bits-2.ensures,
      c.run_bits-3.ensures,
    )
