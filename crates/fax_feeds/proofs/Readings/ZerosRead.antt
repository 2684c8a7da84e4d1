-- A turn of a feed whose data ends with zeros, of which it keeps the number alone.
use Rattle.fax_feeds.proofs.Names.{◌≡◌, ◌≢◌, ◌∙◌, ◌+◌, ◌<◌, ◌≤◌, [], ap, sym, refl, arith, length, false≢true}
use Rattle.fax_feeds.proofs.Names.{Bool, true, false, None, Some, Result, Ok, Err, ℕ, AfterRow, IfErr, InvalidCode}
use Rattle.fax_feeds.proofs.Names.{Bits, Context, Group3_2D, Held, White}
use Rattle.fax_feeds.proofs.Names.{DecodeError, is_at_line, ended, redrawn}
use Rattle.std.specs.Prelude.{◌^◌}
use Rattle.fax_feeds.proofs.Readings.FeedTurns.{within_bits}
use Rattle.fax_feeds.proofs.Readings.FeedsFramed.{next_of}
use Rattle.fax_feeds.proofs.Readings.FeedsOn.{at_line_unended, gap_feeds, none_row, reached_here, row_fits}
use Rattle.fax_feeds.proofs.Readings.FeedsCompleted.{full_is_plain}
use Rattle.fax_feeds.proofs.Readings.LooksKept.{fresh_look}
use Rattle.fax_feeds.proofs.Readings.PartsFed.{none_kept}
use Rattle.fax_feeds.proofs.Readings.RowsPassed.{counts_on, line_was_left, line_was_needed, line_was_read}
use Rattle.fax_feeds.proofs.Readings.RowsFed.{passed_some}
use Rattle.fax_feeds.proofs.Readings.ZerosFed.{IsAtZeros, zeros_come_on, zeros_lie, zeros_line, zeros_stay_known}
use Rattle.fax_feeds.specs.declared.row_feed.Fed.{Fed}
use Rattle.fax_feeds.specs.declared.row_feed.RowFeed.TheInside.{Inside}
use Rattle.fax_rows.specs.declared.gap_count.GapCount.{GapCount}
use Rattle.fax_rows.specs.declared.row_reader.RowState.{RowState}
use Rattle.fax_rows.specs.ZerosLast.{CountsZeros, EndsInZeros, PassesZeros, zeros_at}
use Rattle.fax_feeds.specs.RowFeeds.{Feeding, FeedsRow, IsFeedOf, IsKept, TriesLine, fed_row, fed_without_row, feeding_of}
use Rattle.fax_feeds.specs.RowFeeds.{of_settled_gap, offset_of}

-- A feed that keeps no part of a line, and is at the zeros with which the data ends.
pub record KeepsZeros (f : Inside) : Type 0 where
  pub kept : IsKept f
  pub begun : f.begun ≡ true
  pub none : f.part ≡ None
  pub zeros : f.gap.at_zeros ≡ true

pub at_zeros : {f : Inside} {whole : Bits} {tried : ℕ} → KeepsZeros f → IsFeedOf whole tried (feeding_of f)
    → IsAtZeros whole tried (feeding_of f)
at_zeros keeps fed = record {
  fed = fed;
  within = within_bits keeps.kept;
  begun = keeps.begun;
  none = keeps.none;
  zeros = keeps.zeros;
  unlooked = (keeps.kept.counted.zeros keeps.zeros).1;
}

-- it stays so where another context is left, and as many zeros
pub zeros_kept : {f : Inside} (ctx : Context) (rows : RowState) (count : GapCount) → KeepsZeros f
    → count.zeros ≡ f.gap.count.zeros
    → KeepsZeros (record f { ctx = ctx; rows = rows; gap = record f.gap { count = count } })
zeros_kept {f} ctx rows count keeps same =
    let kept = keeps.kept in
    let zeros = kept.counted.zeros keeps.zeros in
    record {
      kept = record {
        within = kept.within;
        fit = kept.fit;
        bytes = kept.bytes;
        unbegun = λ e. absurd (false≢true (sym e ∙ keeps.begun));
        seen = fresh_look _ _ zeros.1;
        line = λ line more. absurd (false≢true (sym more ∙ keeps.zeros));
        over = λ over more. absurd (false≢true (sym more ∙ keeps.zeros));
        counted = record {
          tidy = λ more. absurd (false≢true (sym more ∙ keeps.zeros));
          few = λ more. absurd (false≢true (sym more ∙ keeps.zeros));
          zeros = λ is. (omega (arith, zeros.0, same), zeros.1);
          missed = λ some. absurd (omega (arith, some, ap (λ (l : _). l.bits) zeros.1));
        };
        unkept = λ is. keeps.none;
        last = kept.last;
        part = none_kept f.part _ _ _ _ _ _ _ _ _ keeps.none kept.part;
      };
      begun = keeps.begun;
      none = keeps.none;
      zeros = keeps.zeros;
    }

-- ---- The line

-- its row is read, or it is left
pub zeros_line_row : {f : Inside} {begin ctx : Context} {rows : RowState} {answer : Result Bool DecodeError} → KeepsZeros f
    → is_at_line f.rows.stand ≡ true
    → begin ≡ record f.ctx { held = redrawn f.ctx.held [] White; passed = 0; cut = false }
    → length f.ctx.held.reference ≡ f.ctx.held.settings.columns
    → (0 < begin.held.settings.columns → (f.gap.count.tag ≡ true → begin.held.settings.encoding ≡ Group3_2D)
    → TriesLine true (offset_of (feeding_of f)) f.rows rows begin ctx (zeros_at f.gap.count.tag f.gap.count.zeros)
    (zeros_at f.gap.count.tag f.gap.count.zeros) answer)
    → CountsZeros begin ctx answer → (answer ≡ Ok true → rows.stand ≡ AfterRow) → (answer ≡ Ok false → rows ≡ f.rows)
    → f.ctx.held.taken + 1 < 2 ^ 64
    → FeedsRow (feeding_of f) (feeding_of (record f { ctx = ctx; rows = rows })) (fed_row answer)
zeros_line_row {f} {begin} {ctx} {rows} {answer} keeps line frame width tries counts stand left room = record {
  reads = λ whole tried unended fed.
      let at = at_zeros keeps fed in
      next_of (zeros_line at line frame width refl tries) (zeros_stay_known at line frame width refl tries)
      (zeros_lie at line frame width refl tries);
  keeps = record { order = refl; finished = refl; kept = refl; dropped = refl; room = refl };
  over = λ end e. let never = sym (at_line_unended f.rows.stand line) ∙ e in absurd cc;
  counts = record {
    settings = counts.settings ∙ ap (λ (c : Context). c.held.settings) frame;
    taken = λ e.
        let same = counts.taken (line_was_read answer e) ∙ ap (λ (c : Context). c.held.taken + 1) frame in
        (same, omega (arith, same, room));
    width = λ e. counts.width (line_was_read answer e) ∙ ap (λ (c : Context). c.held.settings.columns) frame;
    stands = λ e. (keeps.begun, stand (line_was_read answer e), keeps.none);
    unlooked = λ e more. absurd (false≢true (sym more ∙ keeps.zeros));
    few = λ e away.
        absurd (false≢true (sym away ∙ ap (λ (r : RowState). is_at_line r.stand) (left (line_was_left answer e)) ∙ line));
  };
}

-- no more rows can be counted: these are rows of no data
pub zeros_full : {f : Inside} → KeepsZeros f → is_at_line f.rows.stand ≡ true
    → (f.ctx.held.taken + 1 < 2 ^ 64 → f.ctx.held.repairs.rows ≤ f.ctx.held.taken → ⊥) → (error : DecodeError)
    → FeedsRow (feeding_of f) (feeding_of f) (Err error)
zeros_full {f} keeps line full error = record {
  reads = λ whole tried _ fed.
      let fits = row_fits keeps.begun line (full_is_plain fed) in absurd (full fits.0 fits.1);
  keeps = record { order = refl; finished = refl; kept = refl; dropped = refl; room = refl };
  over = λ end e. let never = sym (at_line_unended f.rows.stand line) ∙ e in absurd cc;
  counts = record {
    settings = refl;
    taken = λ e. cc;
    stands = λ e. cc;
    width = λ e. cc;
    unlooked = λ e. cc;
    few = λ e. cc;
  };
}

-- ---- The gap

module _ {f : Inside} {ctx : Context} {rows : RowState} {count : GapCount} {passed : Result Bool DecodeError}
    (keeps : KeepsZeros f) (unended : ended f.rows.stand ≡ None) (away : is_at_line f.rows.stand ≡ false)
    (count_is : count ≡ record f.gap.count { eols = 0 })
    (passes : (from : ℕ) (whole : Bits)
    → EndsInZeros from f.rows f.ctx whole (offset_of (feeding_of f)) (record f.gap.count { eols = 0 })
    → PassesZeros from f.rows rows f.ctx ctx whole (offset_of (feeding_of f)) (record f.gap.count { eols = 0 }) passed)
    (frame : ctx.held ≡ record f.ctx.held { has_eols = ctx.held.has_eols; repairs = ctx.held.repairs })
    (ticks : ctx.ticks ≡ f.ctx.ticks) (space : ctx.space ≡ f.ctx.space)
    (stand : passed ≡ Ok true → is_at_line rows.stand ≡ true) (code : IfErr passed (λ e. e ≡ InvalidCode)) where
  abbrev mid : Inside
  mid = record f { ctx = ctx; rows = rows; gap = record f.gap { count = count } }

  mid_is : feeding_of mid ≡ record (feeding_of f) {
    ctx = ctx;
    rows = rows;
    gap = record f.gap { count = record f.gap.count { eols = 0 } };
  }
  mid_is = ap (λ (n : GapCount). record (feeding_of f) { ctx = ctx; rows = rows; gap = record f.gap { count = n } }) count_is

  -- no line is reached
  pub zeros_gap_row : of_settled_gap passed ≢ Ok (Some true)
      → FeedsRow (feeding_of f) (feeding_of mid) (fed_without_row (of_settled_gap passed))
  zeros_gap_row other = record {
    reads = λ whole tried _ fed.
        let comes = zeros_come_on (at_zeros keeps fed) away mid_is (passes tried whole) frame ticks space stand code in
        next_of (gap_feeds (of_settled_gap passed) comes.0 other keeps.begun unended keeps.none keeps.none) comes.1.known
        comes.1.lie;
    keeps = record { order = refl; finished = refl; kept = refl; dropped = refl; room = refl };
    over = λ end e. let never = sym unended ∙ e in absurd cc;
    counts = record {
      settings = ap (λ (h : Held). h.settings) frame;
      taken = λ e. absurd (none_row (of_settled_gap passed) e);
      width = λ e. absurd (none_row (of_settled_gap passed) e);
      stands = λ e. absurd (none_row (of_settled_gap passed) e);
      unlooked = λ e. absurd (none_row (of_settled_gap passed) e);
      few = λ e. absurd (passed_some passed (line_was_needed (of_settled_gap passed) e));
    };
  }

  -- one is
  pub zeros_row_on : {new : Feeding} {answer : Result Fed DecodeError} → of_settled_gap passed ≡ Ok (Some true)
      → is_at_line rows.stand ≡ true → FeedsRow (feeding_of mid) new answer → FeedsRow (feeding_of f) new answer
  zeros_row_on {new} {answer} is line row = record {
    reads = λ whole tried _ fed.
        let comes = zeros_come_on (at_zeros keeps fed) away mid_is (passes tried whole) frame ticks space stand code in
        let next = row.reads whole (tried + comes.0.extra) (at_line_unended rows.stand line) comes.1 in
        next_of (reached_here (of_settled_gap passed) comes.0 is keeps.none keeps.none next.plainly keeps.begun)
        next.stands.known next.stands.lie;
    keeps = record {
      order = row.keeps.order;
      finished = row.keeps.finished;
      kept = row.keeps.kept;
      dropped = row.keeps.dropped;
      room = row.keeps.room;
    };
    over = λ end e. let never = sym unended ∙ e in absurd cc;
    counts = counts_on answer (ap (λ (h : Held). h.settings) frame) (ap (λ (h : Held). h.taken) frame) row.counts;
  }
