use Rattle.hayro_ccitt.proofs.Names.{◌≡◌, ◌+◌, ◌≤◌, length, here}
use Rattle.hayro_ccitt.proofs.KeptRows.StepsReported.{RunsPassed}
use Rattle.hayro_ccitt.proofs.in_step.pass_runs.Given as goal

-- the runs so far are those of the line, and each word took a bit
abbrev pub invariant-runs : goal.invariant-runs
invariant-runs l =
    (l.reader.bits ≡ l.fn.reader.bits) × (l.ctx.held ≡ l.fn.ctx.held) × (l.fn.ctx.ticks ≤ l.ctx.ticks)
    × (l.ctx.ticks + length (here l.reader) ≤ l.fn.ctx.ticks + length (here l.fn.reader))
    × (l.columns ≡ l.fn.ctx.held.settings.columns) × (l.passed ≤ l.columns)
    × RunsPassed l.columns (here l.fn.reader) l.passed l.color (here l.reader)
    × (l.ctx.space ≡ l.fn.ctx.space)

abbrev pub decreases-runs : goal.decreases-runs
decreases-runs l = length (here l.reader)
