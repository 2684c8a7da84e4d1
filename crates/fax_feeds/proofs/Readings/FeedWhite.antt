-- A turn of a feed at a white line: it is a row whatever data follows.
use Rattle.fax_feeds.proofs.Names.{common_steps}
use Rattle.fax_feeds.proofs.Names.{◌≡◌, ◌∙◌, ◌+◌, ◌≤◌, ◌++◌, [], ap, sym, subst, refl}
use Rattle.fax_feeds.proofs.Names.{arith, length, drop, false≢true, inl}
use Rattle.fax_feeds.proofs.Names.{Bool, true, false, None, Ok, ℕ, Bits, BitsAt}
use Rattle.fax_feeds.proofs.Names.{Context, Row, append_assoc}
use Rattle.fax_feeds.proofs.Names.{bits_in, is_at_line, ended, AfterRow, IsStanding, ReadsNext}
use Rattle.fax_feeds.proofs.Names.{seen, changes, pixels, length-append}
use Rattle.fax_feeds.proofs.Names.{◌&&◌}
use Rattle.fax_bits.proofs.BitReading.BitLists.{length-low_bits}
use Rattle.fax_reading.proofs.PixelRows.ChangesAndPixels.{changes-pixels, length-pixels}
use Rattle.fax_feeds.proofs.Readings.FeedTurns.{IsReadBy, past_line, read_on_by, within_bits}
use Rattle.fax_feeds.proofs.Readings.FeedsFramed.{fed_of, framed, next_of, plain_of}
use Rattle.fax_feeds.proofs.Readings.FeedsOn.{no_line_paid, none_looked, none_paid}
use Rattle.fax_feeds.proofs.Readings.LooksKept.{fresh_look, none_counted_of}
use Rattle.fax_rows.proofs.Readings.RowsAgain.{gap_width, line_passed, white_reads, white_stands}
use Rattle.fax_feeds.proofs.Readings.RowsFed.{from_place, place_within}
use Rattle.fax_feeds.specs.RowFeeds.{DrawsRow, FeedsPlainly, FeedsRow, IsPlainFeedOf, KeepsBits, PassesEol, StandsIn}
use Rattle.fax_feeds.specs.RowFeeds.{fed_over, feeding_of, no_gap}
use Rattle.fax_feeds.specs.declared.counted_gaps.GapSoFar.{GapSoFar}
use Rattle.fax_rows.specs.WhiteRows.{TakesWhite}
use Rattle.fax_rows.specs.WhiteLines.{AreWhiteLine, IsWhiteLine, MayFollow, PassesLine, bits_of_word, eol_before}
use Rattle.fax_feeds.specs.declared.row_feed.Fed.{Fed}
use Rattle.fax_feeds.specs.declared.row_feed.RowFeed.TheInside.{Inside}
use Rattle.fax_rows.specs.declared.row_reader.RowState.{RowState}
use Rattle.fax_rows.specs.declared.white_lines.WhiteLines.{WhiteLines}

module _ {f : Inside} {before after : BitsAt} {rows : RowState} {ctx : Context} {place : ℕ} {lines : WhiteLines}
    (by : IsReadBy f before) (there : place ≡ after.place) (following : f.rows.stand ≡ AfterRow) (fresh : f.gap ≡ no_gap)
    (follow : MayFollow f.ctx.held.settings f.ctx.held.has_eols f.ctx.held.reference lines)
    (takes : TakesWhite lines (f.dropped + f.place) f.rows rows f.ctx ctx before after) where
  abbrev kept_bits : Bits
  kept_bits = bits_in f.order f.«data».items

  kept_passes : PassesLine lines (record { bits = kept_bits; place = f.place }) after
  kept_passes = subst (λ (b : BitsAt). PassesLine lines b after) by.is takes.passes

  abbrev count : ℕ
  count = kept_passes.word.count

  place_after : place ≡ f.place + count
  place_after = there ∙ ap (λ (b : BitsAt). b.place) kept_passes.moved_on

  within_kept : place ≤ length kept_bits
  within_kept = omega (arith, place_after, kept_passes.within)

  kept_there : drop f.place kept_bits ≡ bits_of_word kept_passes.word ++ drop place kept_bits
  kept_there = kept_passes.there ∙ ap (λ (n : ℕ). bits_of_word kept_passes.word ++ drop n kept_bits) (sym place_after)

  word_passed : (most : ℕ)
      × IsWhiteLine f.ctx.held.settings.encoding f.ctx.held.settings.columns f.ctx.held.has_eols most kept_passes.word
  word_passed = grind (arith, common_steps, line_passed, kept_passes)

  line_of_word : (line : Bits) × AreWhiteLine f.ctx.held.settings.encoding f.ctx.held.settings.columns line
      × (bits_of_word kept_passes.word ≡ eol_before f.ctx.held.has_eols ++ line)
  line_of_word = word_passed.1.line kept_passes.some

  gap_is : lines.gap ≡ length (eol_before f.ctx.held.has_eols)
  gap_is = gap_width f.ctx.held.settings f.ctx.held.has_eols f.ctx.held.reference lines follow

  abbrev line_after : Bits
  line_after = line_of_word.0

  gap_in_word : lines.gap ≤ count
  gap_in_word = omega (
    arith,
    gap_is,
    length-low_bits kept_passes.word.count kept_passes.word.bits,
    ap length line_of_word.2,
    length-append (eol_before f.ctx.held.has_eols) line_after,
  )

  -- the EOL is passed, where EOLs are sought
  eol_there : f.ctx.held.has_eols ≡ true → (to : ℕ) → f.dropped + f.place + 12 ≤ to
      → PassesEol (drop f.place kept_bits) (f.dropped + f.place) to
  eol_there sought to far = record {
    fill = [];
    after = line_after ++ drop place kept_bits;
    place = kept_there ∙ ap (λ (b : Bits). b ++ drop place kept_bits) (line_of_word.2
        ∙ ap (λ (s : Bool). eol_before s ++ line_after) sought);
    passed = omega (arith, far);
  }

  gap_is_eol : f.ctx.held.has_eols ≡ true → lines.gap ≡ 12
  gap_is_eol sought = gap_is ∙ ap (λ (s : Bool). length (eol_before s)) sought

  white_row_is : ctx.held.reference ≡ pixels f.ctx.held.settings.columns []
  white_row_is = ap (λ (x : Context). x.held.reference) takes.new_is ∙ follow.white

  no_changes : length (changes ctx.held.reference) ≡ 0
  no_changes = ap (λ (r : Row). length (changes r)) white_row_is
      ∙ ap length (changes-pixels f.ctx.held.settings.columns [] tt)

  white_draws : DrawsRow (feeding_of f) (feeding_of (past_line f ctx rows place))
  white_draws = record {
    start = f.dropped + f.place + lines.gap;
    onward = omega arith;
    past_eol = λ unfinished begun no_line sought. eol_there sought _ (omega (arith, gap_is_eol sought));
    most = omega (arith, no_changes, gap_in_word, place_after, within_kept);
    drawn = inl (omega (arith, no_changes, gap_in_word, place_after));
  }

  module _ {whole : Bits} {tried : ℕ} (feed : IsPlainFeedOf whole tried (feeding_of f)) where
    abbrev at_whole : BitsAt
    at_whole = record { bits = whole; place = f.dropped + f.place }

    abbrev next_whole : BitsAt
    next_whole = record { bits = whole; place = f.dropped + place }

    white_stood : IsStanding tried f.rows f.ctx at_whole
    white_stood = subst (λ (b : Bool). StandsIn b tried f.rows f.ctx at_whole) by.begun feed.stands

    whole_passes : PassesLine lines at_whole next_whole
    whole_passes = record {
      word = kept_passes.word;
      one = kept_passes.one;
      some = kept_passes.some;
      there = from_place feed.lie f.place (omega (arith, within_kept, place_after))
          ∙ ap (λ (b : Bits). b ++ feed.lie.more) kept_there
          ∙ append_assoc (bits_of_word kept_passes.word) (drop place kept_bits) feed.lie.more
          ∙ ap (λ (b : Bits). bits_of_word kept_passes.word ++ b) (sym (from_place feed.lie place within_kept))
          ∙ ap (λ (n : ℕ). bits_of_word kept_passes.word ++ drop n whole) next_is;
      within = omega (arith, place_within feed.lie place within_kept, place_after);
      moved_on = ap (λ (n : ℕ). record { bits = whole; place = n }) next_is;
    }
      where
        next_is : f.dropped + place ≡ f.dropped + f.place + count
        next_is = omega (arith, place_after)

    white_next : ReadsNext (fed_over whole (feeding_of f)) (fed_over whole (feeding_of (past_line f ctx rows place))) (Ok true)
    white_next =
        subst (λ (r : RowState). ReadsNext (fed_over whole (feeding_of f)) (seen r ctx next_whole) (Ok true)) (sym takes.kept_is)
        (subst (λ (x : Context). ReadsNext (fed_over whole (feeding_of f)) (seen (record {
          started_at = f.dropped + f.place + lines.gap;
          damage = None;
          cut = false;
          missed = None;
          stand = AfterRow;
        }) x next_whole) (Ok true)) (sym takes.new_is)
        (white_reads tried f.rows f.ctx at_whole white_stood following lines follow takes.unmet next_whole whole_passes))

    white_fed : IsPlainFeedOf whole (tried + 0) (feeding_of (past_line f ctx rows place))
    white_fed =
        let none : tried + 0 ≡ tried = omega arith in
        record {
          fit = feed.fit;
          lie = feed.lie;
          stands = subst (λ (b : Bool). StandsIn b (tried + 0) rows ctx next_whole) (sym by.begun)
              (subst (λ (n : ℕ). IsStanding n rows ctx next_whole) (sym none)
              (subst (λ (r : RowState). IsStanding tried r ctx next_whole) (sym takes.kept_is)
              (subst (λ (x : Context). IsStanding tried (record {
                started_at = f.dropped + f.place + lines.gap;
                damage = None;
                cut = false;
                missed = None;
                stand = AfterRow;
              }) x next_whole) (sym takes.new_is)
              (white_stands tried f.rows f.ctx at_whole white_stood following lines follow takes.unmet
              next_whole whole_passes))));
        }

    not_at_line : (begun : Bool) → (begun && is_at_line f.rows.stand) ≡ true → ⊥
    not_at_line true e = false≢true (sym (ap is_at_line following) ∙ e)
    not_at_line false e = false≢true e

    white_feeds : FeedsPlainly whole tried (feeding_of f) (feeding_of (past_line f ctx rows place)) (Ok Fed.Row)
    white_feeds = record {
      row = λ e. white_next;
      end = λ e. cc;
      fault = tt;
      none = λ left. cc;
      unsettled = λ e. cc;
      memory = λ e. cc;
      paints = λ e. cc;
      extra = 0;
      line_extra = 0;
      extra_is = refl;
      stands = white_fed;
      gap = 0;
      looks = none_looked (f.begun && is_at_line f.rows.stand) (f.gap.passed + f.gap.look.bits) (drop f.place kept_bits);
      looked = λ e. cc;
      line_work = no_line_paid by.none;
      goes_on = grind (
        arith,
        common_steps,
        no_changes,
        white_draws,
        place_after,
        not_at_line,
        eol_there,
        gap_is_eol,
        gap_in_word,
        within_kept,
        none_paid,
        false≢true,
      );
    }

  -- a white row is read
  pub white_row : FeedsRow (feeding_of f) (feeding_of (past_line f ctx rows place)) (Ok Fed.Row)
  white_row = record {
    reads = λ whole tried unended feed.
        let none : f.gap.passed ≡ 0 = ap (λ (g : GapSoFar). g.passed) fresh in
        let next = white_feeds (plain_of feed none) in
        let now = fed_of next.stands fresh within_kept in
        next_of (framed next feed now (within_bits by.kept) within_kept none none keeps_white) now.known now.lie;
    keeps = keeps_white;
    over = λ end e. let never = sym (ap ended following) ∙ e in absurd cc;
    counts = grind (arith, common_steps, white_row_is, length-pixels);
  }
    where
      keeps_white : KeepsBits (feeding_of f) (feeding_of (past_line f ctx rows place))
      keeps_white = record { order = refl; finished = refl; kept = refl; dropped = refl; room = refl }

  pub white_read_by : IsReadBy (past_line f ctx rows place) after
  white_read_by = read_on_by by there (ap (λ (b : BitsAt). b.bits) takes.passes.moved_on)
      (omega (arith, within_kept, after_bits)) (record {
        seen = fresh_look _ _ (ap (λ (g : GapSoFar). g.look) fresh);
        line = λ line follows. fresh;
        over = λ over follows. fresh;
        counted = none_counted_of fresh;
        last = λ zeros. absurd (false≢true (sym (ap (λ (g : GapSoFar). g.at_zeros) fresh) ∙ zeros));
      })
    where
      after_bits : length after.bits ≡ length kept_bits
      after_bits = ap (λ (b : BitsAt). length b.bits) kept_passes.moved_on
