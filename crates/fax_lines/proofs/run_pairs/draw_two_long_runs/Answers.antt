use Rattle.fax_lines.proofs.Names.{◌≡◌, ◌+◌, refl, arith, common_steps}
use Rattle.fax_lines.proofs.DrawingLines.UsualStrokes.{reached_white, white_ends_here}
use Rattle.fax_lines.proofs.run_pairs.draw_two_long_runs.Goals as goal

pub returns-then-white-room-clause-drawn : goal.returns-then-white-room-clause-drawn
returns-then-white-room-clause-drawn c =
    let a = c.args in
    let unfilled = c.requires.«open» in
    let white = c.in_ok-white in
    record {
      drawn = white_ends_here a.line.now.settings.strict a.line.now.settings.columns a.painted a.pen.now.row.items
          a.pen.now.window.at c.pass_run.new.window.at white.white.run white.white.width white.white.words a.pen.now.ticks
          c.tick_times.new.ticks unfilled.inside unfilled.lawful unfilled.even (rw c.copy-rest.ensures at white.ensures.run)
          (omega (arith, c.if-white-room-2.false)) (omega (arith, c.if-white-room.true))
          (rw c.copy-rest.ensures at white.ensures.moved) c.tick_times.ensures;
      reached = reached_white c.args.line.now.settings.columns c.args.painted _ unfilled.inside unfilled.lawful;
    }

pub returns-clause-drawn : goal.returns-clause-drawn
returns-clause-drawn c =
    let at = c.args.pen.now.window.at in
    let white = c.in_ok-white in
    let black = c.in_ok-black in
    let first = rw c.copy-rest.ensures at white.ensures.moved in
    let sum : at.place + white.white.width + black.black.width ≡ at.place + (white.white.width + black.black.width) =
    omega arith in
    let second = rw first at black.ensures.moved in
    c.draw_both.ensures.drawn c.args.pen.now.window c.pass_run-2.new.window (record {
      width = white.white.width;
      width2 = black.black.width;
      words = white.white.words;
      words2 = black.black.words;
      first = rw c.copy-rest.ensures at white.ensures.run;
      second = rw first at black.ensures.run;
      bits = refl;
      count = refl;
    }) (grind (arith, common_steps, second, sum))
