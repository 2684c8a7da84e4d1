use Rattle.fax_lines.proofs.Names.{◌≤◌, max, length, pen_of, words_from_2d, here, changes, line_from_2d, most_stored, room_for}
use Rattle.fax_lines.proofs.Names.{true, line_2d}
use Rattle.fax_reading.proofs.{DrawingLines.CutRuns.StrictSoFar, DrawingLines.Drawings.drawn_by}
use Rattle.fax_reading.proofs.{DrawingLines.Drawings.step_2d, DrawingLines.DrawnLines.IsDrawnSoFar}
use Rattle.fax_reading.proofs.DrawingLines.CountedLines.{IsCountedSoFar, found_2d_from}
use Rattle.fax_lines.proofs.context.decode_2d_line.Given as goal

-- what was drawn, what the words found so far and the changes passed have counted, how much room the lists have, and whether a
-- strict reading breaks the line
abbrev pub invariant-modes : goal.invariant-modes
invariant-modes l =
    IsDrawnSoFar (step_2d l.fn.ctx.held.settings.strict l.fn.ctx.held.settings.columns l.fn.ctx.held.reference) l.fn.ctx
    l.ctx l.fn.reader l.reader × IsCountedSoFar (length (changes l.fn.ctx.held.reference)) l.fn.ctx.ticks l.ctx.ticks l.ctx.passed
    (length (words_from_2d l.fn.ctx.held (here l.fn.reader))) (length (found_2d_from l.fn.ctx.held.settings.strict
    l.fn.ctx.held.settings.columns l.fn.ctx.held.reference (pen_of l.ctx.held (here l.reader))))
    × (l.ctx.space ≤ max l.fn.ctx.space (room_for (most_stored l.fn.ctx.held.reference (line_from_2d l.fn.ctx.held
    (here l.fn.reader)))))
    × StrictSoFar (line_2d true l.fn.ctx.held.settings.columns l.fn.ctx.held.reference (here l.fn.reader))
    (drawn_by (step_2d true l.fn.ctx.held.settings.columns l.fn.ctx.held.reference) (pen_of l.ctx.held (here l.reader))) l.ctx.cut

abbrev pub decreases-modes : goal.decreases-modes
decreases-modes l = length (here l.reader)
