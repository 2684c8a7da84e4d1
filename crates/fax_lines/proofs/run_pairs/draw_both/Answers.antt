use Rattle.fax_lines.proofs.Names.{◌+◌, ℕ, List, [], ◌∷◌, ◌++◌, refl, arith, White, GoesOn, pen_at, Pen}
use Rattle.fax_lines.proofs.DrawingLines.UsualStrokes.{two_runs, next_lawful, reached_black, reached_both, pixels-pending}
use Rattle.fax_lines.proofs.run_pairs.draw_both.Goals as goal

pub returns-in-None-clause-drawn : goal.returns-in-None-clause-drawn
returns-in-None-clause-drawn c window rest runs on =
    let a = c.args in
    let follow = c.requires.follow in
    let turned = c.in-None.ensures.end in
    record {
      drawn = rw turned.1 (two_runs a.settings a.painted a.settings.columns a.row.now.items window.at rest.at a.runs
          a.ticks.now c.tick_times.new.ticks runs follow (omega (arith, turned.0, follow.inside, follow.fits)) on
          c.tick_times.ensures);
      reached = reached_black a.settings.columns (a.painted + a.runs.first) a.row.now.items _ (omega (arith, follow.inside))
          (next_lawful a.painted a.runs.first a.row.now.items follow.row_is_open.lawful follow.right) turned.1;
    }

pub returns-in-Some-clause-drawn : goal.returns-in-Some-clause-drawn
returns-in-Some-clause-drawn c window rest runs on =
    let a = c.args in
    let follow = c.requires.follow in
    let turned = c.in-Some.ensures.inside in
    let place : ℕ = a.painted + a.runs.first + a.runs.second in
    let row : List ℕ = a.row.now.items ++ (a.painted + a.runs.first) ∷ [] in
    let pen : Pen = pen_at a.painted a.row.now.items White window.at in
    let now : ℕ = c.tick_times.new.ticks in
    let seen : GoesOn a.settings.strict a.settings.columns pen (pen_at place row White rest.at) a.ticks.now now =
    two_runs a.settings a.painted place a.row.now.items window.at rest.at a.runs a.ticks.now c.tick_times.new.ticks
    runs follow (omega (arith, turned)) on c.tick_times.ensures in
    record {
      drawn = rw (turned.2, turned.0, pixels-pending place row) seen;
      reached = rw turned.0 (reached_both a.settings.columns (a.painted + a.runs.first) a.runs.second a.row.now.items
          row _ follow.some (omega (arith, turned))
          (next_lawful a.painted a.runs.first a.row.now.items follow.row_is_open.lawful follow.right) follow.row_is_open.even
          refl (rw turned.0 at turned.2));
    }
