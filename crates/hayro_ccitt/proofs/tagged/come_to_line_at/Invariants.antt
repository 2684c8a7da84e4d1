use Rattle.fax_rows.proofs.Names.{◌≡◌, ◌+◌, ◌-◌, length, IsStandingAtLine}
use Rattle.hayro_ccitt.specs.TaggedBodies.{ComesLater}
use Rattle.hayro_ccitt.proofs.tagged.come_to_line_at.Given as goal

-- the reading is at a line, and no line before it begins at the position
abbrev pub invariant-lines : goal.invariant-lines
invariant-lines l = record {
  at : IsStandingAtLine l.fn.ctx.ticks l.rows l.ctx l.reader;
  settings : l.ctx.held.settings ≡ l.fn.ctx.held.settings;
  bits : l.reader.bits ≡ l.fn.reader.bits;
  later : ComesLater l.fn.ctx.held.settings l.fn.reader.bits l.fn.place l.ctx.held.taken;
}

-- there are at most as many rows as bits, and one more
abbrev pub decreases-lines : goal.decreases-lines
decreases-lines l = (length l.fn.reader.bits + 2) - l.ctx.held.taken
