use Rattle.hayro_ccitt.proofs.Names.{◌≡◌, ℕ, ◌+◌, ◌-◌, false, min, refl, sym, subst, ◌∙◌, arith, here, Color, Row, Line, line_1d}
use Rattle.hayro_ccitt.proofs.Names.{read_run, Ok, Bits}
use Rattle.hayro_ccitt.proofs.KeptRows.StepsReported.{RunsPassed, run_passed, runs_whole, runs_broken, run_work}
use Rattle.hayro_ccitt.proofs.KeptRows.StepsReported.{no_run_work}
use Rattle.hayro_ccitt.proofs.CodeWords.ReadRuns.{run_shorter}
use Rattle.hayro_ccitt.proofs.in_step.pass_runs.Goals as goal

pub runs-smaller : goal.runs-smaller
runs-smaller c =
    run_shorter c.runs.color 0 (here c.runs.reader) c.in-Some.run' (here c.run_length.new.reader)
    (c.in-Some.ensures.run c.in-Some.run' refl)

pub runs-preserved : goal.runs-preserved
runs-preserved c =
    let read : read_run c.runs.color (here c.runs.reader) ≡ Ok (c.in-Some.run', here c.run_length.new.reader)
    = c.in-Some.ensures.run c.in-Some.run' refl in
    let columns = c.settings-columns.result.columns in
    let begun = here c.args.reader.now in
    let more = run_passed columns begun c.runs.passed c.runs.color (here c.runs.reader) (here c.run_length.new.reader)
    c.in-Some.run' c.runs-test.true c.runs.invariant.6 read in (
      c.in-Some.ensures.same_bits ∙ c.runs.invariant.0,
      c.in-Some.ensures.only_ticks.held ∙ c.runs.invariant.1,
      omega (arith, c.in-Some.ensures.only_ticks.counts, c.runs.invariant.2),
      omega (
        arith,
        c.in-Some.ensures.at_most,
        c.runs.invariant.3,
        run_work c.runs.color (here c.runs.reader) (here c.run_length.new.reader) c.in-Some.run' read,
      ),
      c.runs.invariant.4,
      omega (arith, c.min-passed.ensures, c.runs-test.true),
      subst (λ (n : ℕ). RunsPassed columns begun (c.runs.passed + n) c.opposite-color.result (here c.run_length.new.reader))
          (sym c.min-passed.ensures)
          (subst (λ (color : Color). RunsPassed columns begun (c.runs.passed + min c.in-Some.run' (columns - c.runs.passed)) color
          (here c.run_length.new.reader))
          (sym c.opposite-color.ensures) more),
      c.in-Some.ensures.only_ticks.space ∙ c.runs.invariant.7,
    )

pub returns-in-None-clause-broken : goal.returns-in-None-clause-broken
returns-in-None-clause-broken c = λ e.
    let missing = c.in-None.ensures.none refl in
    subst (λ (columns : ℕ). (row : Row) (rest : Bits) → line_1d false columns (here c.args.reader.now) ≡ Line.whole row rest → ⊥)
    c.runs.invariant.4
    (runs_broken c.settings-columns.result.columns (here c.args.reader.now) c.runs.passed c.runs.color (here c.runs.reader)
    missing.0 c.runs-test.true c.runs.invariant.6 missing.1)

pub returns-in-None-clause-at_most : goal.returns-in-None-clause-at_most
returns-in-None-clause-at_most c =
    omega (arith, c.in-None.ensures.at_most, c.runs.invariant.3, no_run_work c.runs.color (here c.runs.reader))

pub returns-clause-whole : goal.returns-clause-whole
returns-clause-whole c = λ e.
    subst (λ (columns : ℕ). (row : Row) × (line_1d false columns (here c.args.reader.now) ≡ Line.whole row (here c.runs.reader)))
    c.runs.invariant.4
    (runs_whole c.settings-columns.result.columns (here c.args.reader.now) c.runs.passed c.runs.color (here c.runs.reader)
    (omega (arith, c.runs-test.false)) c.runs.invariant.6)
