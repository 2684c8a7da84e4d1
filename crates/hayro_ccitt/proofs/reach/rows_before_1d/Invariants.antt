use Rattle.hayro_ccitt.proofs.Names.{◌≡◌, ◌+◌, ◌≤◌, length, here}
use Rattle.hayro_ccitt.proofs.DamagedLines.LinesPassed.{CountsRows}
use Rattle.hayro_ccitt.proofs.DamagedLines.PassedWork.{LinesPaid}
use Rattle.hayro_ccitt.proofs.reach.rows_before_1d.Given as goal

-- the lines so far are counted; each took a bit or more, and is paid
abbrev pub invariant-lines : goal.invariant-lines
invariant-lines l =
    (l.reader.bits ≡ l.fn.reader.bits) × (l.ctx.held ≡ l.fn.ctx.held) × (l.fn.ctx.ticks ≤ l.ctx.ticks)
    × (l.rows + length (here l.reader) ≤ 1 + length (here l.fn.reader))
    × CountsRows l.fn.ctx.held.settings (here l.fn.reader) l.rows (here l.reader)
    × LinesPaid (here l.fn.reader) (here l.reader) l.fn.ctx.ticks l.ctx.ticks
    × (l.ctx.space ≡ l.fn.ctx.space)

abbrev pub decreases-lines : goal.decreases-lines
decreases-lines l = length (here l.reader)
