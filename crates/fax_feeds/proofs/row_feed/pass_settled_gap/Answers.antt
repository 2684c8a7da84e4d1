use Rattle.fax_feeds.proofs.Names.{◌∙◌, ◌-◌, ap, arith, common_steps, false≢true, here, is_at_line, refl, sym}
use Rattle.fax_feeds.proofs.Readings.GapsSeen.{looked_within}
use Rattle.fax_feeds.proofs.Readings.RowsFed.{waits_for, waits_not}
use Rattle.fax_feeds.proofs.Readings.SettledGaps.{settled_comes}
use Rattle.fax_reading.specs.GapsContinued.{gap_is_settled}
use Rattle.fax_feeds.proofs.row_feed.pass_settled_gap.Goals as goal

pub returns-then-gap_waits : goal.returns-then-gap_waits
returns-then-gap_waits c =
    let held = c.args.ctx.now.held in
    let unsettled = waits_for c.args.is_last (gap_is_settled held.settings held.taken held.has_eols (here c.args.reader.now))
    (sym c.gap_waits.ensures.waits ∙ c.if-gap_waits.true) in
    record {
      extra = c.gap_waits.new.ctx.ticks - c.args.ctx.now.ticks;
      looks = grind (arith, common_steps, false≢true, looked_within);
      looked = λ e. (
        omega (arith, c.gap_waits.ensures.looked, c.gap_waits.ensures.onward),
        c.gap_waits.ensures.seen,
        c.gap_waits.ensures.all c.if-gap_waits.true,
      );
      none_looked = λ passed. absurd (passed refl);
      near = λ passed unfinished. absurd (passed refl);
      counts = omega (arith, c.gap_waits.ensures.looked, c.gap_waits.ensures.onward);
      onward = λ e. cc;
      at_line = λ e. absurd (false≢true (sym (ap is_at_line c.requires.after) ∙ e));
      past_eol = λ unfinished no_line sought e. cc;
      same_bits = refl;
      within = omega (arith, c.bit_pos-start.ensures.place, c.bit_pos-start.ensures.within);
      space = c.gap_waits.ensures.kept.1;
      frame = rw c.gap_waits.ensures.kept.0 refl;
      waits = λ e. (
        c.gap_waits.ensures.kept.0,
        omega (arith, c.gap_waits.ensures.looked, c.gap_waits.ensures.onward),
        refl,
        refl,
        unsettled.0,
        ap is_at_line c.requires.after,
        unsettled.1,
      );
      comes = λ from whole dropped passed lie starts stands. absurd (passed refl);
      stands = λ from whole dropped passed lie starts stands. absurd (passed refl);
      line = λ e. cc;
      only_code = tt;
    }

pub returns : goal.returns
returns c =
    let old = c.args.ctx.now in
    let mid = c.gap_waits.new.ctx in
    let more = mid.ticks - old.ticks in
    let held = old.held in
    let counted = c.gap_waits.ensures.looked in
    let closed = waits_not c.args.is_last (gap_is_settled held.settings held.taken held.has_eols (here c.args.reader.now))
    (sym c.gap_waits.ensures.waits ∙ c.if-gap_waits.false) in
    rw (c.of_settled_gap.ensures, c.new.ensures) (settled_comes old mid c.pass_gap_here.new.ctx c.args.reader.now
    c.pass_gap_here.new.reader c.gap_waits.ensures.kept.0 closed c.requires.after c.pass_gap_here.ensures c.gap_waits.new.look
    more c.gap_waits.ensures.kept.1 (omega (arith, counted, c.gap_waits.ensures.onward))
    (omega (arith, counted, c.gap_waits.ensures.onward)) c.gap_waits.ensures.seen
    (λ last. omega (arith, c.gap_waits.ensures.unlooked last)))
