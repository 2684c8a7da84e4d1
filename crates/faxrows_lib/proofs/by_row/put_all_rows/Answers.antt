use Rattle.faxrows_lib.proofs.Names.{rules, ◌≡◌, ◌∙◌, ℕ, false, List, [], refl, sym, subst, Err, IsTextByRow, IsUnderWay, Ok}
use Rattle.faxrows_lib.proofs.Names.{Option, Outcome, PutsRows, used}
use Rattle.faxrows_lib.proofs.{by_row.put_all_rows.Given.Over, by_row.put_all_rows.Goals.After-feed_piece}
use Rattle.faxrows_lib.proofs.ReadToEnd.{if_err, put_fails, read_to_end, waits_fail}
use Rattle.faxrows_lib.proofs.RowsUnderWay.{fed_bits_kept, less_to_feed, rows_as_read, some_feed, way_begun, way_fed}
use Rattle.faxrows_lib.proofs.RowsUnderWay.{way_flushed}
use Rattle.faxrows_lib.proofs.RowsUnderWay.{way_put}
use Rattle.faxrows_lib.proofs.by_row.put_all_rows.Goals as goal

pub loop-outcome-init : goal.loop-outcome-init
loop-outcome-init g c = record {
  way = way_begun g.R.Read.remaining c.args.reader.now (g.W.Write.contents c.args.writer.now.0) c.requires.new
      c.requires.none_waits;
  reader = refl;
  writer = refl;
}

pub put_rows-requires : goal.put_rows-requires
put_rows-requires g c = record { some = some_feed c.loop-outcome.invariant.way }

pub returns-in_err-outcome-clause-fails : goal.returns-in_err-outcome-clause-fails
returns-in_err-outcome-clause-fails g c =
    let is : c.from_residual.result ≡ Err c.in_err-outcome.field-0.0 = search rules in
    if_err _ c.from_residual.result c.in_err-outcome.field-0.0 is
    (put_fails c.loop-outcome.invariant.way c.loop-outcome.invariant.reader c.in_err-outcome.ensures.puts.front
    c.in_err-outcome.ensures.by_writer.only c.in_err-outcome.ensures.by_writer.failed)

pub returns-in-Some-clause-reads : goal.returns-in-Some-clause-reads
returns-in-Some-clause-reads g c =
    read_to_end c.loop-outcome.invariant.way
    (subst (λ (end : Option Outcome). PutsRows (used g.W.Write.contents c.loop-outcome.writer c.put_rows.new.writer)
    c.loop-outcome.rows c.put_rows.new.rows c.loop-outcome.waiting.items c.put_rows.new.waiting.items (Ok end)) c.in-Some.is
    c.in_ok-outcome.ensures.puts)

pub returns-in_err-flush-in-None-clause-fails : goal.returns-in_err-flush-in-None-clause-fails
returns-in_err-flush-in-None-clause-fails g c =
    let is : c.from_residual-in_err-flush-in-None.result ≡ Err c.in_err-flush-in-None.field-0.0 = search rules in
    if_err _ c.from_residual-in_err-flush-in-None.result c.in_err-flush-in-None.field-0.0 is
    (waits_fail (way_put c.loop-outcome.invariant.way c.in_ok-outcome.ensures.puts) c.loop-outcome.invariant.reader
    c.in_err-flush-in-None.ensures.front c.in_err-flush-in-None.ensures.by_writer.only
    c.in_err-flush-in-None.ensures.by_writer.failed)

-- more data is needed, and what waited was written
module _ (g : Over) (c : After-feed_piece g) where
  unfinished : c.put_rows.new.rows.finished ≡ false
  unfinished = c.in_ok-outcome.ensures.puts.more c.in-None.is

  flushed : IsUnderWay c.args.rows.now.ctx.held.settings c.args.rows.now.order
      (used g.R.Read.remaining c.args.reader.now c.loop-outcome.reader) (g.W.Write.contents c.args.writer.now.0)
      (g.W.Write.contents c.flush.new.writer.0) c.put_rows.new.rows []
  flushed = way_flushed (way_put c.loop-outcome.invariant.way c.in_ok-outcome.ensures.puts)
      c.in_ok-flush-in-None.ensures.ok

  same_flag : c.flush.new.writer.1 ≡ c.args.writer.now.1
  same_flag = c.in_ok-flush-in-None.ensures.by_writer.flag ∙ c.in_ok-outcome.ensures.by_writer.flag
      ∙ c.loop-outcome.invariant.writer

pub loop-outcome-smaller : goal.loop-outcome-smaller
loop-outcome-smaller g c =
    let at = (goal.at.loop-outcome-smaller g c).After-feed_piece in
    let keeps = c.in_ok-outcome.ensures.puts.keeps in
    less_to_feed c.loop-outcome.invariant.way (fed_bits_kept keeps) (sym keeps.finished ∙ unfinished g at)
    c.in_ok-feed_piece.ensures.fed

pub loop-outcome-preserved : goal.loop-outcome-preserved
loop-outcome-preserved g c =
    let at = (goal.at.loop-outcome-preserved g c).After-feed_piece in
    record {
      way =
          subst (λ (waits : List ℕ). IsUnderWay c.args.rows.now.ctx.held.settings c.args.rows.now.order
          (used g.R.Read.remaining c.args.reader.now c.feed_piece.new.reader) (g.W.Write.contents c.args.writer.now.0)
          (g.W.Write.contents c.flush.new.writer.0) c.feed_piece.new.rows waits) (sym c.in_ok-flush-in-None.ensures.empty)
          (way_fed g.R.Read.remaining c.args.reader.now c.loop-outcome.reader c.feed_piece.new.reader (flushed g at)
          (unfinished g at) c.in_ok-feed_piece.ensures.fed);
      reader = c.in_ok-feed_piece.ensures.flag ∙ c.loop-outcome.invariant.reader;
      writer = same_flag g at;
    }

pub returns-in_err-feed_piece-clause-fails : goal.returns-in_err-feed_piece-clause-fails
returns-in_err-feed_piece-clause-fails g c =
    let at = (goal.at.returns-in_err-feed_piece-clause-fails g c).After-feed_piece in
    let is : c.from_residual-in_err-feed_piece.result ≡ Err c.in_err-feed_piece.field-0.0 = search rules in
    if_err _ c.from_residual-in_err-feed_piece.result c.in_err-feed_piece.field-0.0 is
    (rows_as_read IsTextByRow g.R.Read.remaining c.args.reader.now c.loop-outcome.reader c.feed_piece.new.reader
    (used g.W.Write.contents c.args.writer.now c.flush.new.writer) (flushed g at) (unfinished g at)
    c.in_err-feed_piece.field-0.0 c.in_err-feed_piece.ensures.none c.loop-outcome.invariant.reader (same_flag g at)
    c.in_err-feed_piece.ensures.read)
