use Rattle.fax_feeds.proofs.Names.{◌≡◌, ◌-◌}
use Rattle.std.specs.Prelude.{◌^◌}
use Rattle.fax_rows.specs.WhiteLines.{AreKnown}
use Rattle.fax_feeds.specs.RowFeeds.{KeepsBits, PassesRows}
use Rattle.fax_feeds.proofs.row_feed.RowFeed.push_rows.Given as goal

-- the rows so far were read, and passed to the sink
abbrev pub invariant-rows : goal.invariant-rows
invariant-rows g l = record {
  passes : PassesRows (g.D.Decoder.step (g.D.Decoder.width l.fn.decoder)) (g.D.Decoder.meaning l.fn.decoder)
      (g.D.Decoder.meaning l.decoder) l.fn.self l.self;
  keeps : KeepsBits l.fn.self l.self;
  settings : l.self.ctx.held.settings ≡ l.fn.self.ctx.held.settings;
  width : g.D.Decoder.width l.decoder ≡ g.D.Decoder.width l.fn.decoder;
  unrefused : g.D.Decoder.has_refused l.decoder ≡ g.D.Decoder.has_refused l.fn.decoder;
  known : AreKnown l.fn.self.ctx.held.settings l.lines;
}

-- the rows that can still be counted
abbrev pub decreases-rows : goal.decreases-rows
decreases-rows g l = 2 ^ 64 - l.self.ctx.held.taken
