use Rattle.fax_feeds.proofs.Names.{◌≡◌, ◌∙◌, ◌+◌, ap, arith, here, inr, refl, subst, sym, true}
use Rattle.fax_feeds.specs.declared.gap_look.GapLook.{GapLook}
use Rattle.fax_feeds.specs.declared.gap_look.GapRules.{GapRules}
use Rattle.fax_feeds.specs.declared.gap_look.GapStage.TheVariants.{Start}
use Rattle.fax_feeds.specs.GapsSeen.{is_settled, stage_following}
use Rattle.fax_feeds.specs.RowFeeds.{ComesOn, of_settled_gap}
use Rattle.fax_feeds.proofs.Readings.GapsSeen.{gap_seen}
use Rattle.fax_feeds.proofs.Readings.GapsSoFar.{after_row, at_line_counts, settled_counts}
use Rattle.fax_feeds.proofs.Readings.LooksKept.{unlooked}
use Rattle.fax_feeds.proofs.Readings.RowsFed.{passed_some}
use Rattle.fax_feeds.proofs.Readings.SettledGaps.{settled_comes}
use Rattle.fax_reading.specs.GapsContinued.{gap_is_settled}
use Rattle.fax_feeds.proofs.counted_gaps.come_to_counted_line.Goals as goal

pub come_by_counts-requires-clause-after : goal.come_by_counts-requires-clause-after
come_by_counts-requires-clause-after c =
    after_row c.args.rows.now.stand c.requires.unended (sym c.is_at_line.ensures ∙ c.if-is_at_line.false)

pub returns-then-is_at_line : goal.returns-then-is_at_line
returns-then-is_at_line c =
    let line = sym c.is_at_line.ensures ∙ c.if-is_at_line.true in
    at_line_counts line (c.requires.line line) (omega (
      arith,
      c.bit_pos-before.ensures.place,
      c.bit_pos-before.ensures.within,
    ))

pub returns-then-is_settled_at_once : goal.returns-then-is_settled_at_once
returns-then-is_settled_at_once c =
    let call = c.pass_gap_here in
    let old = c.args.ctx.now in
    let before = c.args.reader.now in
    let look = c.args.gap.now.look in
    let known = c.nothing_known.ensures.counted c.if-nothing_known.true in
    let away = sym c.is_at_line.ensures ∙ c.if-is_at_line.false in
    let closed : gap_is_settled old.held.settings old.held.taken old.held.has_eols (here before) ≡ true =
    sym (gap_seen old.held.settings old.held.taken old.held.has_eols (here before))
    ∙ ap (λ (r : GapRules). is_settled (stage_following r Start 0 (here before))) (sym c.rules_after_row-rules.ensures)
    ∙ c.is_settled_at_once.ensures c.if-is_settled_at_once.true in
    let comes = subst (λ (l : GapLook). ComesOn c.args.is_last (c.args.dropped + c.bit_pos-before.result) c.args.rows.now
    call.new.self look l old call.new.ctx before call.new.reader (of_settled_gap call.result))
    (sym (unlooked c.requires.seen (c.nothing_known.ensures.looked c.if-nothing_known.true)))
    (settled_comes old old call.new.ctx before call.new.reader refl (inr closed)
    (after_row c.args.rows.now.stand c.requires.unended away) call.ensures look 0 refl (omega arith) (omega arith)
    c.requires.seen (λ last. refl)) in
    rw (c.of_settled_gap.ensures) (settled_counts c.args.dropped look known known
    (omega (arith, c.bit_pos-before.ensures.place))
    (omega (arith, c.bit_pos-before.ensures.place, c.bit_pos-before.ensures.within)) away (of_settled_gap call.result) comes
    (λ e. absurd (passed_some call.result e)))
