use Rattle.fax_lines.proofs.Names.{◌≡◌, ◌≤◌, ◌+◌, length, pen_of, words_from_1d, here, max, room_for, changes, front_of}
use Rattle.fax_lines.proofs.Names.{line_from_1d}
use Rattle.fax_lines.proofs.Names.{true, line_1d}
use Rattle.fax_reading.proofs.{DrawingLines.CutRuns.StrictSoFar, DrawingLines.Drawings.drawn_by}
use Rattle.fax_reading.proofs.{DrawingLines.Drawings.step_1d, DrawingLines.DrawnLines.IsDrawnSoFar}
use Rattle.fax_reading.proofs.DrawingLines.CountedLines.{found_1d_from}
use Rattle.fax_lines.proofs.context.decode_1d_line.Given as goal

-- what was drawn, that the words found so far were counted, how much room the lists have, and whether a strict reading breaks the
-- line
abbrev pub invariant-runs : goal.invariant-runs
invariant-runs l =
    IsDrawnSoFar (step_1d l.fn.ctx.held.settings.strict l.fn.ctx.held.settings.columns) l.fn.ctx l.ctx l.fn.reader l.reader
    × (l.ctx.ticks + length (found_1d_from l.fn.ctx.held.settings.strict l.fn.ctx.held.settings.columns
    (pen_of l.ctx.held (here l.reader))) ≡ l.fn.ctx.ticks + length (words_from_1d l.fn.ctx.held (here l.fn.reader)))
    × (l.ctx.space ≤ max l.fn.ctx.space (room_for (length (changes (front_of (line_from_1d l.fn.ctx.held (here l.fn.reader)))))))
    × StrictSoFar (line_1d true l.fn.ctx.held.settings.columns (here l.fn.reader))
    (drawn_by (step_1d true l.fn.ctx.held.settings.columns) (pen_of l.ctx.held (here l.reader))) l.ctx.cut

abbrev pub decreases-runs : goal.decreases-runs
decreases-runs l = length (here l.reader)
