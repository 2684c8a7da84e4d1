use Rattle.hayro_ccitt.proofs.Names.{◌≡◌, ◌≤◌, length, here}
use Rattle.hayro_ccitt.proofs.DamagedLines.LinesPassed.{ReadFurther}
use Rattle.hayro_ccitt.proofs.DamagedLines.PassedWork.{WordsPassed}
use Rattle.hayro_ccitt.proofs.reach.pass_modes.Given as goal

-- what is read from here on is read from the start, and the other way round unless it ends before; each word counts
abbrev pub invariant-modes : goal.invariant-modes
invariant-modes l =
    (l.reader.bits ≡ l.fn.reader.bits) × (l.ctx.held ≡ l.fn.ctx.held) × (l.fn.ctx.ticks ≤ l.ctx.ticks)
    × ReadFurther (here l.fn.reader) l.color (here l.reader)
    × WordsPassed (here l.fn.reader) (here l.reader) l.fn.ctx.ticks l.ctx.ticks
    × (l.ctx.space ≡ l.fn.ctx.space)

abbrev pub decreases-modes : goal.decreases-modes
decreases-modes l = length (here l.reader)
