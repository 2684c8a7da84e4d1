use Rattle.fax_feeds.proofs.Names.{common_steps, ◌≡◌, ◌∙◌, ◌+◌, ap, sym, subst, arith}
use Rattle.fax_feeds.proofs.Names.{BitsAt}
use Rattle.fax_feeds.proofs.Names.{Option, Ok, Bool, drop, not, stand_after, DecodeSettings}
use Rattle.fax_feeds.proofs.Readings.FeedTurns.{can_go_on}
use Rattle.fax_feeds.proofs.Readings.FrontsFed.{IsFrontBy, leaves, narrow_first, narrow_kept, passed_kept, passes_first}
use Rattle.fax_feeds.proofs.Readings.FrontsFed.{waiting_kept, waits_first}
use Rattle.fax_feeds.specs.CountedGaps.{CameFirst}
use Rattle.fax_feeds.specs.RowFeeds.{Feeding}
use Rattle.fax_feeds.proofs.row_feed.RowFeed.begin.Goals.{After-settings, then-line, else-line}
use Rattle.fax_feeds.proofs.row_feed.RowFeed.begin.Goals as goal

front_by : (c : After-settings) → IsFrontBy c.self.inside c.placed_at-reader.result
front_by c = record {
  kept = c.self.invariant;
  unbegun = ap (λ (f : Feeding). f.begun) c.self.view_is ∙ c.requires;
  is = grind (arith, common_steps);
}

settings_columns : (c : After-settings) → c.settings.result.columns ≡ c.self.inside.ctx.held.settings.columns
settings_columns c = ap (λ (s : DecodeSettings). s.columns) c.settings.ensures.value

pub come_to_first_line-line-requires-clause-on : goal.come_to_first_line-line-requires-clause-on
come_to_first_line-line-requires-clause-on c =
    let by = front_by (goal.at.come_to_first_line-line-requires-clause-on c).After-settings in
    can_go_on c.self.invariant (by.kept.unbegun by.unbegun).some_follow (ap (λ (b : BitsAt). drop b.place b.bits) by.is)

-- ---- There are no columns

pub invariant_of-self : goal.invariant_of-self
invariant_of-self c =
    let at = (goal.at.invariant_of-self c).After-settings in
    let stood = c.first_stand-self-inside in
    narrow_kept (front_by at) (omega (arith, settings_columns at, c.if-settings-eq0.true)) c.bit_pos-self-inside.ensures.place
    stood.ensures.first stood.ensures.takes_none stood.ensures.unfailed stood.ensures.at_line

pub returns-then-settings-eq0-clause-begins : goal.returns-then-settings-eq0-clause-begins
returns-then-settings-eq0-clause-begins c =
    let at = (goal.at.returns-then-settings-eq0-clause-begins c).After-settings in
    let stood = c.first_stand-self-inside in
    rw (← c.self.view_is) (λ whole tried fed. narrow_first (front_by at)
    (omega (arith, settings_columns at, c.if-settings-eq0.true)) c.bit_pos-self-inside.ensures.place
    stood.ensures.first stood.ensures.takes_none stood.ensures.unfailed stood.ensures.at_line fed)

-- ---- It waits

pub invariant_of-self-in_default : goal.invariant_of-self-in_default
invariant_of-self-in_default c =
    let at = (goal.at.invariant_of-self-in_default c).After-settings in
    waiting_kept (front_by at) c.bit_pos-self-inside-2.ensures.place c.come_to_first_line-line.ensures c.in_default.is
    (omega (arith, settings_columns at, c.if-settings-eq0.false))

pub returns-in_default-clause-begins : goal.returns-in_default-clause-begins
returns-in_default-clause-begins c =
    let at = (goal.at.returns-in_default-clause-begins c).After-settings in
    let call = c.come_to_first_line-line in
    rw (← c.self.view_is) (λ whole tried fed. waits_first (front_by at) c.bit_pos-self-inside-2.ensures.place call.ensures fed
    c.in_default.is (subst (λ (o : Option Bool). CameFirst o c.self.inside.ctx call.new.ctx whole
    (c.self.inside.dropped + call.new.reader.place) call.new.gap call.new.reader) c.in_default.is
    (leaves (front_by at) c.bit_pos-self-inside-2.ensures.place call.ensures fed)))

-- ---- It is passed

pub invariant_of-self-2 : goal.invariant_of-self-2
invariant_of-self-2 c =
    let at = (goal.at.invariant_of-self-2 c).After-settings in
    passed_kept (front_by at) c.bit_pos-self-inside-2.ensures.place c.come_to_first_line-line.ensures c.if-line.self
    (λ none. let never = sym c.in-Some.is ∙ none in absurd cc)

pub returns-clause-begins : goal.returns-clause-begins
returns-clause-begins c =
    let at = (goal.at.returns-clause-begins c).After-settings in
    let call = c.come_to_first_line-line in
    let stand_is : c.if-line.self ≡ stand_after (Ok (not c.in-Some.line)) = elim c.if-line.branch [
      | then-line w ↦ w.self-is ∙ ap (λ (b : Bool). stand_after (Ok (not b))) (sym w.if-line.true)
      | else-line w ↦ w.self-is ∙ ap (λ (b : Bool). stand_after (Ok (not b))) (sym w.if-line.false)
    ] in
    rw (← c.self.view_is) (λ whole tried fed. passes_first (front_by at) c.bit_pos-self-inside-2.ensures.place call.ensures
    c.in-Some.line c.if-line.self stand_is c.in-Some.is fed
    (subst (λ (o : Option Bool). CameFirst o c.self.inside.ctx call.new.ctx whole
    (c.self.inside.dropped + call.new.reader.place) call.new.gap call.new.reader) c.in-Some.is
    (leaves (front_by at) c.bit_pos-self-inside-2.ensures.place call.ensures fed)))
