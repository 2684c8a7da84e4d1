use Rattle.fax_feeds.proofs.Names.{◌∙◌, ◌+◌, sym, ap, subst, refl, is_some, ended}
use Rattle.fax_feeds.proofs.Readings.FeedsCompleted.{full_is_plain}
use Rattle.fax_feeds.proofs.Readings.FeedsFramed.{next_of}
use Rattle.fax_feeds.proofs.Readings.FeedsOn.{feeds_on, first_line_is, front_ends_feeds, front_waits_feeds, unbegun_looks}
use Rattle.fax_feeds.proofs.Readings.FeedsOn.{unended_stand}
use Rattle.fax_feeds.proofs.Readings.RowsPassed.{counts_on}
use Rattle.fax_feeds.specs.RowFeeds.{BeginsCounted, Feeding}
use Rattle.fax_feeds.proofs.row_feed.RowFeed.read_first.Goals as goal

pub returns-then-not-begin-clause-reads : goal.returns-then-not-begin-clause-reads
returns-then-not-begin-clause-reads c whole tried feed =
    let begins = subst (BeginsCounted whole tried c.args.self.now c.begin.new.self) c.if-not-begin.true
    (c.begin.ensures.begins whole tried feed) in
    let kept = c.begin.ensures.keeps.unkept in
    next_of (front_waits_feeds begins.begins c.requires.unbegun kept.0 kept.1 (full_is_plain feed)) begins.stands.known
    begins.stands.lie

pub returns-then-has_ended-clause-reads : goal.returns-then-has_ended-clause-reads
returns-then-has_ended-clause-reads c whole tried feed =
    let begins = subst (BeginsCounted whole tried c.args.self.now c.begin.new.self) c.if-not-begin.false
    (c.begin.ensures.begins whole tried feed) in
    let kept = c.begin.ensures.keeps.unkept in
    next_of (front_ends_feeds begins.begins c.requires.unbegun kept.0 kept.1
    (ap (λ (f : Feeding). is_some (ended f.rows.stand)) (sym c.self.view_is) ∙ sym c.has_ended.ensures ∙ c.if-has_ended.true))
    begins.stands.known begins.stands.lie

pub returns-clause-reads : goal.returns-clause-reads
returns-clause-reads c whole tried feed =
    let begins = subst (BeginsCounted whole tried c.args.self.now c.begin.new.self) c.if-not-begin.false
    (c.begin.ensures.begins whole tried feed) in
    let kept = c.begin.ensures.keeps.unkept in
    let unended = ap (λ (f : Feeding). is_some (ended f.rows.stand)) (sym c.self.view_is) ∙ sym c.has_ended.ensures
    ∙ c.if-has_ended.false in
    let next = c.read_from_gap.ensures.reads whole (tried + begins.begins.extra)
    (unended_stand c.begin.new.self.rows.stand unended) begins.stands in
    next_of (feeds_on begins.begins.extra
    (unbegun_looks c.args.self.now.begun _ c.requires.unbegun begins.begins.looks)
    kept.0 kept.1 begins.begins.begun
    (first_line_is c.begin.new.self.rows.stand unended (begins.begins.passes refl)) (begins.begins.reaches refl) next.plainly)
    next.stands.known next.stands.lie

pub returns-clause-counts : goal.returns-clause-counts
returns-clause-counts c = counts_on c.read_from_gap.result c.begin.ensures.keeps.settings c.begin.ensures.keeps.taken
    c.read_from_gap.ensures.counts

pub returns-then-not-begin-clause-counts : goal.returns-then-not-begin-clause-counts
returns-then-not-begin-clause-counts c = record {
  settings = c.begin.ensures.keeps.settings;
  taken = λ e. cc;
  width = λ e. cc;
  stands = λ e. cc;
  unlooked = λ e. cc;
  few = λ e away none. c.begin.ensures.keeps.few c.if-not-begin.true;
}
