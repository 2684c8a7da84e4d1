use Rattle.fax_rows.proofs.Names.{common_steps, ◌≡◌, ◌∙◌, ◌-◌, ◌≤◌, ℕ, Bool, List, [], Ok, Err, refl, sym, ap, subst, arith, true}
use Rattle.fax_rows.proofs.Names.{err_from_is_err_and, length, length-drop, DecodeSettings, Context}
use Rattle.fax_rows.proofs.Names.{ended}
use Rattle.fax_rows.proofs.Names.{get_or, here, failed_at, IsStanding, ReadsNext, seen, plain, max, most_room}
use Rattle.fax_reading.proofs.PixelRows.ChangesAndPixels.{AreChanges-wider}
use Rattle.fax_rows.proofs.Readings.RowsPushed.{decodes_rows, ends_unfailed, means_pushed, none_missed, of_same, rows_ended}
use Rattle.fax_rows.proofs.Readings.RowsPushed.{rows_refused, run_is_over}
use Rattle.fax_rows.specs.WhiteRows.{Pushed, PushesWhite}
use Rattle.fax_lines.specs.SinkStates.{state_of}
use Rattle.fax_rows.specs.WhiteLines.{AreKnown}
use Rattle.fax_rows.specs.declared.white_lines.WhiteLines.{WhiteLines}
use Rattle.fax_rows.proofs.Readings.WhiteRowsRead.{IsAfterRows, some_on}
use Rattle.fax_rows.proofs.Readings.WhiteRowsRead.{came_after, counted_mid, counted_now, refused_after}
use Rattle.fax_rows.proofs.Readings.WhiteRowsRead.{white_fails, white_refused, white_within}
use Rattle.fax_lines.proofs.Work.RoomTaken.{grown_more}
use Rattle.fax_rows.proofs.push_rows.push_rows.{Given.Over}
use Rattle.fax_rows.proofs.push_rows.push_rows.Goals.{After-next_row, After-push_row, After-push_white_rows}
use Rattle.fax_rows.proofs.push_rows.push_rows.Goals as goal

-- what the next row leaves
reads : (g : Over) (c : After-next_row g) → ReadsNext (seen c.rows.rows c.rows.ctx c.rows.reader)
    (seen c.next_row.new.self c.next_row.new.ctx c.next_row.new.reader) c.next_row.result
reads g c = c.next_row.ensures.reads c.args.ctx.now.ticks c.rows.invariant.stands

stands : (g : Over) (c : After-next_row g)
    → IsStanding c.args.ctx.now.ticks c.next_row.new.self c.next_row.new.ctx c.next_row.new.reader
stands g c = c.next_row.ensures.stands c.args.ctx.now.ticks c.rows.invariant.stands

-- the lists have no more room than the lines account for
room_there : (g : Over) (c : After-next_row g) → c.next_row.new.ctx.space
    ≤ max c.args.ctx.now.space (most_room c.args.ctx.now.held.settings c.args.reader.now.bits)
room_there g c =
    let inv = c.rows.invariant in
    let most = most_room c.args.ctx.now.held.settings c.args.reader.now.bits in
    grown_more c.args.ctx.now.space c.rows.ctx.space c.next_row.new.ctx.space most most inv.space
    (of_same (λ s b. c.next_row.new.ctx.space ≤ max c.rows.ctx.space (most_room s b)) inv.settings inv.bits
    (c.next_row.ensures.space c.args.ctx.now.ticks inv.stands)) (omega arith)

pub returns-then-has_ended-clause-rows : goal.returns-then-has_ended-clause-rows
returns-then-has_ended-clause-rows g c =
    grind (
      arith,
      common_steps,
      of_same,
      none_missed,
      ends_unfailed,
      decodes_rows,
      run_is_over,
      c.first_stand.ensures.alone.paid c.args.ctx.now.ticks refl,
    )

pub returns-in_err-next_row-clause-rows : goal.returns-in_err-next_row-clause-rows
returns-in_err-next_row-clause-rows g c =
    let there = (goal.at.returns-in_err-next_row-clause-rows g c).After-next_row in
    let answer = err_from_is_err_and c.from_residual.result c.from_residual.ensures.1 in
    let inv = c.rows.invariant in
    let error = (subst (ReadsNext (seen c.rows.rows c.rows.ctx c.rows.reader)
    (seen c.next_row.new.self c.next_row.new.ctx c.next_row.new.reader)) c.in_err-next_row.was (reads g there)).error in
    rw (answer.1, answer.2) (rows_ended c.requires.begins.columns c.next_row.new.self (c.next_row.ensures.settings ∙ inv.settings)
    (c.next_row.ensures.same_bits ∙ inv.bits) (stands g there) error.1 inv.within inv.meaning inv.unrefused
    (Err c.in_err-next_row.field-0.0) error.0)

pub push_row-requires : goal.push_row-requires
push_row-requires g c =
    let settings = c.next_row.ensures.settings ∙ c.rows.invariant.settings in
    AreChanges-wider c.next_row.new.ctx.held.settings.columns (g.D.Decoder.width c.rows.decoder) c.reference_row.result.now
    (omega (arith, c.requires.width, c.rows.invariant.width, ap (λ (s : DecodeSettings). s.columns) settings))
    c.reference_row.ensures.lawful

-- ---- A row was read

module _ (g : Over) (c : After-push_row g) where
  row_is : c.next_row.result ≡ Ok true
  row_is = c.in_ok-next_row.was ∙ ap (λ (b : Bool). Ok b) c.if-not-branch.false

  row_came_here : ReadsNext (seen c.rows.rows c.rows.ctx c.rows.reader)
      (seen c.next_row.new.self c.next_row.new.ctx c.next_row.new.reader) (Ok true)
  row_came_here = subst (ReadsNext (seen c.rows.rows c.rows.ctx c.rows.reader)
      (seen c.next_row.new.self c.next_row.new.ctx c.next_row.new.reader)) row_is
      (c.next_row.ensures.reads c.args.ctx.now.ticks c.rows.invariant.stands)

-- which the sink refuses
pub returns-in-Err-clause-rows : goal.returns-in-Err-clause-rows
returns-in-Err-clause-rows g c =
    let there = (goal.at.returns-in-Err-clause-rows g c).After-push_row in
    let inv = c.rows.invariant in
    rows_refused c.requires.begins.columns c.rows.rows c.next_row.new.self c.rows.ctx inv.settings inv.bits inv.stands
    (c.next_row.ensures.stands c.args.ctx.now.ticks inv.stands) (c.next_row.ensures.after (row_is g there))
    (row_came_here g there) c.take_back_row.ensures.frame
    c.damaged_rows-damaged_rows.ensures c.cut_rows-cut_rows.ensures (c.in-Err.ensures.kept ∙ inv.meaning) c.in-Err.ensures.refused
    (subst (g.D.Decoder.refuses c.push_row.new.self) c.reference_row.ensures.changes c.in-Err.ensures.refused_row)
    c.in-Err.ensures.only_refused

-- and the reader is at its line
pub returns-in-Err-clause-fails : goal.returns-in-Err-clause-fails
returns-in-Err-clause-fails g c =
    let there = (goal.at.returns-in-Err-clause-fails g c).After-push_row in
    let inv = c.rows.invariant in
    let came = (row_came_here g there).more refl in
    let taken : c.take_back_row.new.ctx.held.taken ≡ c.rows.ctx.held.taken
    = omega (arith, ap (λ (x : Context). x.held.taken) c.take_back_row.ensures.frame, came.1) in
    let starts = c.next_row.ensures.starts c.args.ctx.now.ticks inv.stands (row_is g there) in
    let started = c.next_row.ensures.started (row_is g there) in
    let back : length c.rows.reader.bits - length (here c.at_bit.result) ≡ c.next_row.new.self.started_at
    = grind (arith, common_steps, length-drop) in
    of_same (λ s b. length b - length (here c.at_bit.result) ≡ failed_at s b c.take_back_row.new.ctx.held.taken)
    inv.settings inv.bits
    (back ∙ starts ∙ ap (failed_at c.rows.ctx.held.settings c.rows.reader.bits) (sym taken))

-- ---- The white rows after it

-- the reading is after the row, which the sink means
abbrev read_before : (g : Over) → After-push_white_rows g → Pushed g.D.Decoder.Meaning
read_before g c = record {
  rows = c.next_row.new.self;
  ctx = c.next_row.new.ctx;
  at = c.next_row.new.reader;
  meaning = g.D.Decoder.meaning c.push_row.new.self;
}

after_before : (g : Over) (c : After-push_white_rows g) → c.next_row.result ≡ Ok true
    → IsAfterRows (g.D.Decoder.step (g.D.Decoder.width c.args.decoder.now))
    c.args.ctx.now.ticks c.args.ctx.now.held.settings c.args.reader.now.bits (g.D.Decoder.meaning c.args.decoder.now)
    (read_before g c)
after_before g c is =
    let inv = c.rows.invariant in
    let came = subst (ReadsNext (seen c.rows.rows c.rows.ctx c.rows.reader)
    (seen c.next_row.new.self c.next_row.new.ctx c.next_row.new.reader)) is
    (c.next_row.ensures.reads c.args.ctx.now.ticks inv.stands) in
    let within = of_same (λ s b. c.next_row.new.ctx.held.taken ≤ length (plain s b).rows) inv.settings inv.bits
    (came.more refl).2 in
    record {
      stands = c.next_row.ensures.stands c.args.ctx.now.ticks inv.stands;
      aligned_after_row = c.next_row.ensures.after is;
      settings_are = c.next_row.ensures.settings ∙ inv.settings;
      bits_are = c.next_row.ensures.same_bits ∙ inv.bits;
      within = within;
      means = means_pushed g.D.Decoder.step (g.D.Decoder.width c.rows.decoder) (g.D.Decoder.width c.args.decoder.now)
          (g.D.Decoder.meaning c.args.decoder.now) (g.D.Decoder.meaning c.rows.decoder) (g.D.Decoder.meaning c.push_row.new.self)
          (plain c.args.ctx.now.held.settings c.args.reader.now.bits).rows c.rows.ctx.held.taken c.next_row.new.ctx.held.taken
          c.next_row.new.ctx.held.reference c.reference_row.result.now inv.width inv.meaning c.in_default.ensures.taken
          c.reference_row.ensures.changes
          (of_same (λ s b. c.next_row.new.ctx.held.reference ≡ get_or (plain s b).rows c.rows.ctx.held.taken [])
          inv.settings inv.bits (came.row refl)) (came.more refl).1 within;
    }

-- white rows were read
module _ (g : Over) (c : After-push_white_rows g) where
  abbrev step_here : g.D.Decoder.Meaning → List ℕ → g.D.Decoder.Meaning
  step_here = g.D.Decoder.step (g.D.Decoder.width c.args.decoder.now)

  abbrev lines_here : WhiteLines
  lines_here = c.white_is_next-repeats.new.lines

  row_read : c.next_row.result ≡ Ok true
  row_read = c.in_ok-next_row.was ∙ ap (λ (b : Bool). Ok b) c.if-not-branch.false

  pushes_white : PushesWhite step_here lines_here 0 (state_of g.D.Decoder c.push_row.new.self)
      (state_of g.D.Decoder c.push_white_rows.new.decoder)
      c.next_row.new.self c.push_white_rows.new.rows
      c.next_row.new.ctx c.push_white_rows.new.ctx c.next_row.new.reader c.push_white_rows.new.reader c.push_white_rows.result
  pushes_white = grind (arith, common_steps, lines_here)

  after_mid : IsAfterRows step_here c.args.ctx.now.ticks c.args.ctx.now.held.settings c.args.reader.now.bits
      (g.D.Decoder.meaning c.args.decoder.now) pushes_white.mid
  after_mid = some_on step_here _ _ _ _ lines_here pushes_white.count (read_before g c) pushes_white.mid
      (after_before g c row_read) pushes_white.pass

-- one more was read, which the sink refuses
pub at_bit-requires-in-Err-push_white_rows : goal.at_bit-requires-in-Err-push_white_rows
at_bit-requires-in-Err-push_white_rows g c =
    let at = (goal.at.at_bit-requires-in-Err-push_white_rows g c).After-push_white_rows in
    white_within (after_mid g at) (refused_after (pushes_white g at) c.in-Err-push_white_rows.is).reads

pub returns-in-Err-push_white_rows-clause-rows : goal.returns-in-Err-push_white_rows-clause-rows
returns-in-Err-push_white_rows-clause-rows g c =
    let at = (goal.at.returns-in-Err-push_white_rows-clause-rows g c).After-push_white_rows in
    white_refused c.requires.begins.columns (after_mid g at) (refused_after (pushes_white g at) c.in-Err-push_white_rows.is)
    c.take_back_row-in-Err-push_white_rows.ensures.frame c.damaged_rows-repaired.ensures c.cut_rows-cut.ensures refl

pub returns-in-Err-push_white_rows-clause-fails : goal.returns-in-Err-push_white_rows-clause-fails
returns-in-Err-push_white_rows-clause-fails g c =
    let at = (goal.at.returns-in-Err-push_white_rows-clause-fails g c).After-push_white_rows in
    white_fails (after_mid g at) (refused_after (pushes_white g at) c.in-Err-push_white_rows.is).reads _ _
    (ap (λ (x : Context). x.held.taken) c.take_back_row-in-Err-push_white_rows.ensures.frame)
    c.at_bit-in-Err-push_white_rows.ensures

pub returns-in-Err-push_white_rows-clause-no_eols : goal.returns-in-Err-push_white_rows-clause-no_eols
returns-in-Err-push_white_rows-clause-no_eols g c = λ is.
    let at = (goal.at.returns-in-Err-push_white_rows-clause-no_eols g c).After-push_white_rows in
    grind (
      arith,
      common_steps,
      refused_after (pushes_white g at) c.in-Err-push_white_rows.is,
      counted_mid (pushes_white g at),
      c.rows.invariant.unsought is,
    )

pub returns-in-Err-push_white_rows-clause-same_bits : goal.returns-in-Err-push_white_rows-clause-same_bits
returns-in-Err-push_white_rows-clause-same_bits g c =
    let at = (goal.at.returns-in-Err-push_white_rows-clause-same_bits g c).After-push_white_rows in
    grind (arith, common_steps, refused_after (pushes_white g at) c.in-Err-push_white_rows.is, after_mid g at)

pub returns-in-Err-push_white_rows-clause-space : goal.returns-in-Err-push_white_rows-clause-space
returns-in-Err-push_white_rows-clause-space g c =
    let at = (goal.at.returns-in-Err-push_white_rows-clause-space g c).After-push_white_rows in
    grind (
      arith,
      common_steps,
      refused_after (pushes_white g at) c.in-Err-push_white_rows.is,
      counted_mid (pushes_white g at),
      room_there g (goal.at.returns-in-Err-push_white_rows-clause-space g c).After-next_row,
    )

-- none was refused
pub rows-smaller : goal.rows-smaller
rows-smaller g c =
    let at = (goal.at.rows-smaller g c).After-push_white_rows in
    let inv = c.rows.invariant in
    let is = c.in_default-push_white_rows.is in
    let came = (row_came_here g (goal.at.rows-smaller g c).After-push_row).more refl in
    let counted = counted_now (pushes_white g at) is in
    let now = subst (IsAfterRows (step_here g at) c.args.ctx.now.ticks c.args.ctx.now.held.settings c.args.reader.now.bits
    (g.D.Decoder.meaning c.args.decoder.now)) (sym (came_after (pushes_white g at) is).0) (after_mid g at) in
    omega (arith, came.1, counted.more, now.within)

pub rows-preserved : goal.rows-preserved
rows-preserved g c =
    let at = (goal.at.rows-preserved g c).After-push_white_rows in
    let inv = c.rows.invariant in
    let is = c.in_default-push_white_rows.is in
    let came = came_after (pushes_white g at) is in
    let counted = counted_now (pushes_white g at) is in
    let now = subst (IsAfterRows (step_here g at) c.args.ctx.now.ticks c.args.ctx.now.held.settings c.args.reader.now.bits
    (g.D.Decoder.meaning c.args.decoder.now)) (sym came.0) (after_mid g at) in
    record {
      stands = now.stands;
      unended = ap ended now.aligned_after_row;
      settings = now.settings_are;
      bits = now.bits_are;
      within = now.within;
      width = c.push_white_rows.ensures.width ∙ c.push_row.ensures.same_width ∙ inv.width;
      meaning = now.means;
      unrefused = came.1 ∙ c.in_default.ensures.not_refused ∙ inv.unrefused;
      space = rw (ap (λ (x : Context). x.space) counted.same) (room_there g (goal.at.rows-preserved g c).After-next_row);
      unsought = λ is. ap (λ (x : Context). x.held.has_eols) counted.same ∙ c.next_row.ensures.unsought (inv.unsought is);
      known = subst (λ (s : DecodeSettings). AreKnown s c.white_is_next-repeats.new.lines) (c.next_row.ensures.settings
          ∙ inv.settings) c.white_is_next-repeats.ensures.known;
    }
