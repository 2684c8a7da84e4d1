use Rattle.fax_lines.proofs.Names.{refl, arith, White}
use Rattle.fax_bits.proofs.CodeWords.WordsHere.{run_here_too}
use Rattle.fax_lines.proofs.DrawingLines.UsualStrokes.{white_ends, reached_white}
use Rattle.fax_lines.proofs.run_pairs.draw_two_runs.Goals as goal

pub returns-then-first-room-2-clause-drawn : goal.returns-then-first-room-2-clause-drawn
returns-then-first-room-2-clause-drawn c =
    let unfilled = c.requires.«open» in
    let full = c.if-first-room-2.true in
    let same = c.ensure_bits.ensures.same in
    record {
      drawn = white_ends _ _ _ _ _ _ _ _ _ _ _ _ unfilled.inside unfilled.lawful unfilled.even refl
          (rw same at c.in_ok-first.ensures.run) (omega (arith, full)) (omega (arith, full)) (rw same at c.pass.ensures.moved)
          c.tick_times.ensures;
      reached = reached_white c.args.settings.columns c.args.painted _ unfilled.inside unfilled.lawful;
    }

pub returns-clause-drawn : goal.returns-clause-drawn
returns-clause-drawn c =
    let same = c.ensure_bits.ensures.same in
    let still = c.ensure_bits-2.ensures.same in
    c.draw_both.ensures.drawn c.args.pen.now.window c.pass-2.new.self (record {
      width = c.in_ok-first.width;
      width2 = c.in_ok-second.width2;
      words = c.in_ok-first.words;
      words2 = c.in_ok-second.words2;
      first = run_here_too White _ _ _ _ (rw same at c.in_ok-first.ensures.run);
      second = rw (still, same) at c.in_ok-second.ensures.run;
      bits = refl;
      count = refl;
    }) (rw (still, same) at c.pass-2.ensures.moved)
