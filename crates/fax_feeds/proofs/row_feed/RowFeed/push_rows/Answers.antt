use Rattle.fax_feeds.proofs.Names.{◌≡◌, ◌∙◌, ap, arith, subst, sym, refl, Err, DecodeSettings, List, Ok, ℕ}
use Rattle.fax_lines.specs.SinkStates.{state_of}
use Rattle.fax_rows.specs.WhiteLines.{AreKnown}
use Rattle.fax_reading.proofs.PixelRows.ChangesAndPixels.{AreChanges-wider}
use Rattle.fax_feeds.proofs.Readings.RowsPassed.{keeps_on, passes_more, passed_goes_on, passes_on, pushed_to_refusal, then_pushed}
use Rattle.fax_feeds.specs.RowFeeds.{FeedsRow, PassesRows, PushesRows}
use Rattle.fax_feeds.specs.declared.row_feed.Fed.{Fed}
use Rattle.fax_feeds.proofs.row_feed.RowFeed.push_rows.{Given.Over}
use Rattle.fax_feeds.proofs.row_feed.RowFeed.push_rows.Goals.{After-row, After-push_white}
use Rattle.fax_feeds.proofs.row_feed.RowFeed.push_rows.Goals as goal

pub push_row-requires : goal.push_row-requires
push_row-requires g c =
    let settings = c.next_row-fed.ensures.counts.settings ∙ c.rows.invariant.settings in
    AreChanges-wider c.next_row-fed.new.self.ctx.held.settings.columns (g.D.Decoder.width c.rows.decoder) c.row.result.now
    (omega (arith, c.requires.width, c.rows.invariant.width, ap (λ (s : DecodeSettings). s.columns) settings))
    c.row.ensures.lawful

-- a row was read
reads_row : (g : Over) (c : After-row g) → FeedsRow c.rows.self c.next_row-fed.new.self (Ok Fed.Row)
reads_row g c = subst (FeedsRow c.rows.self c.next_row-fed.new.self) (c.is_row.ensures.row c.if-not-is_row.false) (record {
  reads = c.next_row-fed.ensures.reads;
  keeps = c.next_row-fed.ensures.keeps;
  over = c.next_row-fed.ensures.ended;
  counts = c.next_row-fed.ensures.counts;
})

-- which the sink refuses
pub returns-in-Err-clause-pushes : goal.returns-in-Err-clause-pushes
returns-in-Err-clause-pushes g c =
    let here = (goal.at.returns-in-Err-clause-pushes g c).After-row in
    let inv = c.rows.invariant in
    pushed_to_refusal (subst (λ (m : g.D.Decoder.Meaning). PassesRows (g.D.Decoder.step (g.D.Decoder.width c.args.decoder.now))
    (g.D.Decoder.meaning c.args.decoder.now) m c.args.self.now c.rows.self) (sym c.in-Err.ensures.kept) inv.passes) inv.keeps
    inv.settings (reads_row g here) (ap Err c.in-Err.ensures.only_refused) c.in-Err.ensures.refused
    (subst (g.D.Decoder.refuses c.push_row.new.self) c.row.ensures.changes c.in-Err.ensures.refused_row)

-- ---- The white rows after it

module _ (g : Over) (c : After-push_white g) where
  abbrev step_here : g.D.Decoder.Meaning → List ℕ → g.D.Decoder.Meaning
  step_here = g.D.Decoder.step (g.D.Decoder.width c.args.decoder.now)

  width_here : g.D.Decoder.width c.push_row.new.self ≡ g.D.Decoder.width c.args.decoder.now
  width_here = c.push_row.ensures.same_width ∙ c.rows.invariant.width

  -- the row is passed
  passes_row : FeedsRow c.rows.self c.next_row-fed.new.self (Ok Fed.Row)
      → PassesRows step_here (g.D.Decoder.meaning c.args.decoder.now) (g.D.Decoder.meaning c.push_row.new.self) c.args.self.now
      c.next_row-fed.new.self
  passes_row row =
      let meaning = g.D.Decoder.meaning c.rows.decoder in
      passes_more c.rows.invariant.passes row (c.in_default.ensures.taken
      ∙ ap (λ (w : ℕ). g.D.Decoder.step w meaning c.row.result.now) c.rows.invariant.width
      ∙ ap (step_here meaning) c.row.ensures.changes)

-- one more was read, which the sink refuses
pub returns-in-Err-push_white-clause-pushes : goal.returns-in-Err-push_white-clause-pushes
returns-in-Err-push_white-clause-pushes g c =
    let at = goal.at.returns-in-Err-push_white-clause-pushes g c in
    let inv = c.rows.invariant in
    let row = reads_row g at.After-row in
    then_pushed (passes_row g at.After-push_white row) (keeps_on inv.keeps row.keeps) (row.counts.settings ∙ inv.settings)
    (c.in_default.ensures.not_refused ∙ inv.unrefused)
    (subst (λ (w : ℕ). PushesRows (g.D.Decoder.step w) (state_of g.D.Decoder c.push_row.new.self)
    (state_of g.D.Decoder c.push_white.new.decoder) c.next_row-fed.new.self
    c.push_white.new.self (Err c.in-Err-push_white.refused))
    (width_here g at.After-push_white) c.in-Err-push_white.ensures.refused)

-- none was refused
pub rows-smaller : goal.rows-smaller
rows-smaller g c =
    let row = (reads_row g (goal.at.rows-smaller g c).After-row).counts.taken refl in
    omega (arith, row.0, row.1, (passed_goes_on c.in_default-push_white.ensures.passes.0).more)

pub rows-preserved : goal.rows-preserved
rows-preserved g c =
    let at = goal.at.rows-preserved g c in
    let inv = c.rows.invariant in
    let row = reads_row g at.After-row in
    let on = passed_goes_on c.in_default-push_white.ensures.passes.0 in
    record {
      passes = passes_on (passes_row g at.After-push_white row) (subst (λ (w : ℕ). PassesRows (g.D.Decoder.step w)
          (g.D.Decoder.meaning c.push_row.new.self) (g.D.Decoder.meaning c.push_white.new.decoder) c.next_row-fed.new.self
          c.push_white.new.self) (width_here g at.After-push_white) c.in_default-push_white.ensures.passes.0);
      keeps = keeps_on (keeps_on inv.keeps row.keeps) on.keeps;
      settings = on.settings ∙ row.counts.settings ∙ inv.settings;
      width = c.push_white.ensures.width ∙ width_here g at.After-push_white;
      unrefused = c.in_default-push_white.ensures.passes.1 ∙ c.in_default.ensures.not_refused ∙ inv.unrefused;
      known = subst (λ (s : DecodeSettings). AreKnown s c.push_white.new.lines) (row.counts.settings ∙ inv.settings)
          c.push_white.ensures.known;
    }
