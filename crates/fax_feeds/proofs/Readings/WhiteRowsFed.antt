-- White rows that are read one after another from data that comes in pieces are rows whatever data follows.
use Rattle.fax_feeds.proofs.Names.{◌≡◌, ◌∙◌, ℕ, zero, suc, List, [], Ok, ap, refl, subst, sym}
use Rattle.fax_feeds.proofs.Names.{AfterRow, Context, changes}
use Rattle.fax_feeds.proofs.Readings.FeedTurns.{IsReadBy, past_line}
use Rattle.fax_feeds.proofs.Readings.FeedWhite.{white_read_by, white_row}
use Rattle.fax_rows.proofs.Readings.RowsAgain.{white_unchanging}
use Rattle.fax_feeds.proofs.Readings.RowsPassed.{keeps_on, passes_more}
use Rattle.fax_feeds.specs.RowFeeds.{Feeding, FeedsRow, KeepsBits, PassesRows, feeding_of, no_gap}
use Rattle.fax_rows.specs.WhiteRows.{PassWhite, PassesWhite, Pushed, ReadsWhite}
use Rattle.fax_feeds.specs.declared.row_feed.Fed.{Fed}
use Rattle.fax_feeds.specs.declared.row_feed.RowFeed.TheInside.{Inside}
use Rattle.fax_rows.specs.declared.row_reader.RowState.{RowState}
use Rattle.fax_rows.specs.declared.white_lines.WhiteLines.{WhiteLines}

-- the feed after these rows
abbrev pub fed_to : {M : Type 0} → Inside → Pushed M → Inside
fed_to f now = past_line f now.ctx now.rows now.at.place

-- a feed is after rows that the sink means
pub record IsFedTo {M : Type 0} (step : M → List ℕ → M) (first : Feeding) (start : M) (f : Inside) (now : Pushed M) : Type 0 where
  pub read_by : IsReadBy (fed_to f now) now.at
  pub after : now.rows.stand ≡ AfterRow
  pub passes : PassesRows step start now.meaning first (feeding_of (fed_to f now))
  pub keeps : KeepsBits first (feeding_of (fed_to f now))
  pub settings : now.ctx.held.settings ≡ first.ctx.held.settings

module _ {M : Type 0} {step : M → List ℕ → M} {first : Feeding} {start : M} {f : Inside} {lines : WhiteLines}
    (fresh : f.gap ≡ no_gap) where
  -- a white line is the next row
  module _ {mid new : Pushed M} (fed : IsFedTo step first start f mid) (reads : ReadsWhite lines f.dropped mid new) where
    pub white_fed_row : FeedsRow (feeding_of (fed_to f mid)) (feeding_of (fed_to f new)) (Ok Fed.Row)
    white_fed_row = white_row fed.read_by refl fed.after fresh reads.follow reads.takes

    pub white_fed_by : IsReadBy (fed_to f new) new.at
    white_fed_by = white_read_by fed.read_by refl fed.after fresh reads.follow reads.takes

    pub white_fed_empty : [] ≡ changes new.ctx.held.reference
    white_fed_empty = white_unchanging reads.follow ∙ ap (λ (x : Context). changes x.held.reference) (sym reads.takes.new_is)

  pub one_fed : {mid new : Pushed M} → IsFedTo step first start f mid → PassesWhite step lines f.dropped mid new
      → IsFedTo step first start f new
  one_fed {mid} {new} fed passes =
      let reads = passes.reads in
      let row = white_fed_row fed reads in
      record {
        read_by = white_fed_by fed reads;
        after = ap (λ (r : RowState). r.stand) reads.takes.kept_is;
        passes = passes_more fed.passes row (passes.meaning ∙ ap (step mid.meaning) (white_fed_empty fed reads));
        keeps = keeps_on fed.keeps row.keeps;
        settings = row.counts.settings ∙ fed.settings;
      }

-- and so on
pub some_fed : {M : Type 0} (step : M → List ℕ → M) (first : Feeding) (start : M) (f : Inside) (lines : WhiteLines)
    → f.gap ≡ no_gap → (count : ℕ) (old new : Pushed M) → IsFedTo step first start f old
    → PassWhite step lines f.dropped count old new → IsFedTo step first start f new
some_fed step first start f lines fresh zero old new fed pass = subst (IsFedTo step first start f) (sym pass) fed
some_fed step first start f lines fresh (suc count) old new fed pass =
    one_fed fresh (some_fed step first start f lines fresh count old pass.0 fed pass.1) pass.2
