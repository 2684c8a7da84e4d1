use Rattle.std.proofs.Common.{arith, sym, ◌∙◌, ◌≡◌, ◌≤◌, ◌<◌, ◌+◌, ◌-◌, ◌^◌, length, min, get_or}
use Rattle.std.proofs.lemmas.Bool.{ltb-false}
use Rattle.fax_guess.proofs.BlackRuns.{run_more, run_none}
use Rattle.fax_guess.proofs.pixel_count.black_in_row.Goals as goal

pub runs-preserved : goal.runs-preserved
runs-preserved c =
    let changes = c.args.changes.now in
    let more : c.runs.index + 1 < length changes = omega (arith, c.runs-test.true) in
    let next : c.saturating_add-black.result
    ≡ min (c.runs.black + (get_or changes (c.runs.index + 1) 0 - get_or changes c.runs.index 0)) (2 ^ 64 - 1) =
    rw (← c.run.ensures) c.saturating_add-black.ensures in
    record {
      black = run_more c.args.columns c.runs.black _ c.runs.index changes more next ∙ c.runs.invariant.black;
      within = omega (arith, more);
      fits = omega (arith, next);
    }

pub returns-in-None : goal.returns-in-None
returns-in-None c =
    let past : length c.args.changes.now ≤ c.runs.index = ltb-false _ _ (sym c.in-None.ensures.lookup.0) in
    run_none c.args.columns c.runs.black c.runs.index c.args.changes.now past c.runs.invariant.fits ∙ c.runs.invariant.black
