use Rattle.std.proofs.Common.{refl, ap, subst, ◌∙◌, ℕ}
use Rattle.hayro_ccitt.specs.Decoding.{SinkState}
use Rattle.hayro_ccitt.specs.RowFeeds.{PushesRows}
use Rattle.c_rows.specs.declared.feeding.Feeding.{Feeding}
use Rattle.c_rows.proofs.FedRows.{passed_all, passed_kept, reading_of}
use Rattle.c_rows.proofs.feeding.Feeding.push_all.Goals as goal

pub returns-then-not-self-clause-passes : goal.returns-then-not-self-clause-passes
returns-then-not-self-clause-passes g c =
    passed_all c.if-not-self.true c.requires.unrefused c.push_rows.ensures.pushes refl

pub returns-clause-passes : goal.returns-clause-passes
returns-clause-passes g c =
    let D = g.D.Decoder in
    let mid : SinkState D.Meaning = record {
      meaning = D.meaning c.push_row.new.self;
      refused = D.has_refused c.push_row.new.self;
      refuses = D.refuses c.push_row.new.self;
    } in
    let after : SinkState D.Meaning = record {
      meaning = D.meaning c.push_rows-2.new.decoder;
      refused = D.has_refused c.push_rows-2.new.decoder;
      refuses = D.refuses c.push_rows-2.new.decoder;
    } in
    let first : Feeding = reading_of c.args.self.now c.args.self.now.rows refl in
    passed_kept {mid = mid} {first = first} c.if-not-self.false refl refl refl c.row.ensures.width
    (c.in_default.ensures.taken ∙ ap (D.step (D.width c.args.sink.now) (D.meaning c.args.sink.now)) c.row.ensures.changes)
    (passed_all {old = first} refl (c.in_default.ensures.not_refused ∙ c.requires.unrefused)
    (subst (λ (w : ℕ). PushesRows (D.step w) mid after c.args.self.now.rows c.push_rows-2.new.self c.push_rows-2.result)
    c.in_default.ensures.same_width c.push_rows-2.ensures.pushes) refl)
