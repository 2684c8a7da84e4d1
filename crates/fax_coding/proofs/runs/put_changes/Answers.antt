use Rattle.fax_coding.proofs.Names.{◌≡◌, ◌+◌, ◌-◌, ◌<◌, ◌++◌, ℕ, List, OnOk, length, drop, get_or, sym, ap, subst, ◌∙◌, arith}
use Rattle.fax_coding.proofs.Names.{White, Black, Bits, chosen_run, chosen_runs}
use Rattle.fax_coding.proofs.Names.{all_bits}
use Rattle.fax_words.proofs.RunsWritten.{four_ascend, four_runs, four_within, two_runs}
use Rattle.fax_words.proofs.RunsWritten.{one_part}
use Rattle.fax_coding.proofs.runs.put_changes.Goals as goal
use Rattle.fax_words.proofs.RunsWritten.{last_run, two_ascend}

pub twos-preserved : goal.twos-preserved
twos-preserved c =
    let i : ℕ = c.twos.next in
    let columns : ℕ = c.args.columns in
    let changes : List ℕ = c.args.changes.now in
    let place : ℕ = c.twos.place in
    let black : ℕ = get_or changes i 0 in
    let white : ℕ = get_or changes (i + 1) 0 in
    let first : i < length changes = omega (arith, c.twos-test.true) in
    let second : i + 1 < length changes = omega (arith, c.twos-test.true) in
    let two : i + 1 + 1 ≡ i + 2 = omega arith in
    let ascend = c.twos.invariant.ascend in
    let after = two_ascend columns place i White changes second ascend in
    let left : Bits = chosen_runs columns White white (drop (i + 1 + 1) changes) in
    let split = two_runs columns place i White changes first second ascend in
    record {
      counted = omega (arith, second);
      within = after.0;
      ascend = after.1;
      written = ap (λ (n : ℕ). all_bits c.put_runs.new.writer ++ chosen_runs columns White white (drop n changes)) (sym two)
          ∙ one_part (all_bits c.put_runs.new.writer)
          (all_bits c.twos.writer) (chosen_runs columns White place (drop i changes)) (chosen_run White (black - place)
          ++ chosen_run Black (white - black)) left _ c.twos.invariant.written split c.in_ok-put_runs.ensures;
    }

pub fours-preserved : goal.fours-preserved
fours-preserved c =
    let i : ℕ = c.fours.next in
    let columns : ℕ = c.args.columns in
    let changes : List ℕ = c.args.changes.now in
    let place : ℕ = c.fours.place in
    let ascend = c.fours.invariant.ascend in
    let fourth : i + 3 < length changes = omega (arith, c.fours-test.true) in
    record {
      counted = omega (arith, fourth);
      within = four_within columns place i changes fourth ascend;
      ascend = four_ascend columns place i changes fourth ascend;
      written = one_part (all_bits c.put_four_runs.new.writer) (all_bits c.fours.writer)
          (chosen_runs columns White place (drop i changes)) _
          (chosen_runs columns White (get_or changes (i + 3) 0) (drop (i + 4) changes)) _ c.fours.invariant.written
          (four_runs columns place i changes fourth ascend) c.in_ok-put_four_runs.ensures;
    }

pub returns : goal.returns
returns c =
    let i : ℕ = c.twos.next in
    let columns : ℕ = c.args.columns in
    let changes : List ℕ = c.args.changes.now in
    let place : ℕ = c.twos.place in
    let last : i < length changes =
    omega (arith, c.twos-test.false, c.if-next-changes.false, c.twos.invariant.counted) in
    let split = last_run columns place i changes last (omega (arith, c.twos-test.false)) c.twos.invariant.ascend in
    subst (λ (b : Bits). OnOk c.put_runs-2.result (all_bits c.put_runs-2.new.writer ≡ b))
    (ap (λ (b : Bits). all_bits c.twos.writer ++ b) (sym split) ∙ c.twos.invariant.written) c.put_runs-2.ensures
