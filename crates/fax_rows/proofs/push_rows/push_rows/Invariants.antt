use Rattle.fax_rows.proofs.Names.{◌≡◌, ◌≤◌, ◌-◌, false, length, take, Group4, meaning_after, plain, IsStanding, ended}
use Rattle.fax_rows.proofs.Names.{None, max, most_room}
use Rattle.fax_rows.specs.WhiteLines.{AreKnown}
use Rattle.fax_rows.proofs.push_rows.push_rows.Given as goal

-- the rows so far were read, and the sink means them
abbrev pub invariant-rows : goal.invariant-rows
invariant-rows g l = record {
  stands : IsStanding l.fn.ctx.ticks l.rows l.ctx l.reader;
  unended : ended l.rows.stand ≡ None;
  settings : l.ctx.held.settings ≡ l.fn.ctx.held.settings;
  bits : l.reader.bits ≡ l.fn.reader.bits;
  within : l.ctx.held.taken ≤ length (plain l.fn.ctx.held.settings l.fn.reader.bits).rows;
  width : g.D.Decoder.width l.decoder ≡ g.D.Decoder.width l.fn.decoder;
  meaning : g.D.Decoder.meaning l.decoder ≡ meaning_after (g.D.Decoder.step (g.D.Decoder.width l.fn.decoder))
      (g.D.Decoder.meaning l.fn.decoder) (take l.ctx.held.taken (plain l.fn.ctx.held.settings l.fn.reader.bits).rows);
  unrefused : g.D.Decoder.has_refused l.decoder ≡ g.D.Decoder.has_refused l.fn.decoder;
  space : l.ctx.space ≤ max l.fn.ctx.space (most_room l.fn.ctx.held.settings l.fn.reader.bits);
  unsought : l.fn.ctx.held.settings.encoding ≡ Group4 → l.ctx.held.has_eols ≡ false;
  known : AreKnown l.fn.ctx.held.settings l.lines;
}

-- the rows that are left
abbrev pub decreases-rows : goal.decreases-rows
decreases-rows g l = length (plain l.fn.ctx.held.settings l.fn.reader.bits).rows - l.ctx.held.taken
