use Rattle.fax_rows.proofs.Names.{◌≡◌, ◌≤◌, ◌-◌, length}
use Rattle.fax_rows.proofs.Readings.WhiteRowsPushed.{HasPushedWhite}
use Rattle.fax_rows.proofs.push_rows.push_white_lines.Given as goal

-- white rows were read, and the sink means them
abbrev pub invariant-white : goal.invariant-white
invariant-white g l = record {
  pushed : HasPushedWhite (g.D.Decoder.step (g.D.Decoder.width l.fn.decoder))
      l.fn.white.lines.now l.fn.white.dropped l.most l.count l.start l.fn.rows
      l.fn.ctx l.fn.reader l.reader (g.D.Decoder.meaning l.fn.decoder) (g.D.Decoder.meaning l.decoder);
  rows : l.rows ≡ l.fn.rows;
  ctx : l.ctx ≡ l.fn.ctx;
  bits : l.reader.bits ≡ l.fn.reader.bits;
  within : l.start ≤ length l.fn.reader.bits;
  width : g.D.Decoder.width l.decoder ≡ g.D.Decoder.width l.fn.decoder;
  unrefused : g.D.Decoder.has_refused l.decoder ≡ g.D.Decoder.has_refused l.fn.decoder;
}

-- the rows that are left
abbrev pub decreases-white : goal.decreases-white
decreases-white g l = l.most - l.count
