use Rattle.hayro_ccitt.proofs.Names.{common_steps}
use Rattle.hayro_ccitt.proofs.Names.{OnErr, OnOk, ◌≡◌, ◌≢◌, ◌-◌, None, Some, Result, Ok, Err, rules, ap, subst, ◌∙◌, drop, length}
use Rattle.hayro_ccitt.proofs.Names.{arith, err_from_is_err_and, DecodeError, DecodeSettings, BitsAt, here, Context, AreSettings}
use Rattle.hayro_ccitt.proofs.Decoded.{decodes}
use Rattle.hayro_ccitt.proofs.Readings.PlainAnswers.{fault_left, decodes_badly, decodes_well}
use Rattle.hayro_ccitt.proofs.decode_bits.Goals as goal

pub returns-in_err-answer-clause-decodes : goal.returns-in_err-answer-clause-decodes
returns-in_err-answer-clause-decodes g c =
    let settings = c.restart.new.ctx.held.settings in
    let same = ap (λ (x : Context). x.held.settings) c.restart.ensures.frame in
    let some : settings.columns ≢ 0 =
    λ none. c.if-settings-eq0.false (ap (λ (s : DecodeSettings). s.columns) c.settings.ensures.value ∙ none) in
    let answer = err_from_is_err_and c.from_residual.result c.from_residual.ensures.1 in
    let bits = c.args.reader.now.bits in
    let left = c.decode_rows-answer.new in
    let rows = c.in_err-answer.ensures.rows in
    let place = subst (λ (r : Result (Unit {0}) DecodeError). OnErr r (c.fault_start_of.result ≡ Some
    (length left.reader.bits - length (here left.reader)))) c.in_err-answer.was c.fault_start_of.ensures.fault in
    rw (answer.1, answer.2, c.set_fault_start.ensures.frame, ← same)
    (decodes settings bits _ _ _ left.ctx.held c.fault_start_of.result _ (Err c.in_err-answer.field-0.0)
    (subst AreSettings c.settings.ensures.value c.settings.ensures.fit) c.requires.whole
    (decodes_badly settings bits _ _ _ left.ctx.held some c.in_err-answer.field-0.0 rows.reading rows.short)
    (search rules) (search rules) (record { of_taken = rows.repaired.of_taken; all = rows.repaired.all })
    (record { of_taken = rows.cut.of_taken; all = rows.cut.all })
    (record { of_taken = rows.missed.of_taken; all = rows.missed.all })
    (fault_left settings bits left.reader.bits (here left.reader) c.decode_rows-answer.ensures.same_bits left.ctx.held.taken
    c.in_err-answer.ensures.fails c.fault_start_of.result place) tt)

pub returns-clause-within : goal.returns-clause-within
returns-clause-within g c = grind (arith, common_steps)

pub returns-clause-decodes : goal.returns-clause-decodes
returns-clause-decodes g c =
    let settings = c.restart.new.ctx.held.settings in
    let same = ap (λ (x : Context). x.held.settings) c.restart.ensures.frame in
    let some : settings.columns ≢ 0 =
    λ none. c.if-settings-eq0.false (ap (λ (s : DecodeSettings). s.columns) c.settings.ensures.value ∙ none) in
    let at = ap (λ (at : BitsAt). at.place) c.align.ensures.moved in
    let moved = ap (λ (at : BitsAt). at.bits) c.align.ensures.moved in
    let bits = c.args.reader.now.bits in
    let left = c.decode_rows-answer.new in
    let rows = c.in_ok-answer.ensures.rows in
    let are = c.decode_rows-answer.ensures.same_bits in
    let none = subst (λ (r : Result (Unit {0}) DecodeError). OnOk r (c.fault_start_of.result ≡ None)) c.in_ok-answer.was
    c.fault_start_of.ensures.none in
    rw (c.set_fault_start.ensures.frame, ← same)
    (decodes settings bits _ _ _ left.ctx.held c.fault_start_of.result _ (Ok c.byte_pos.result)
    (subst AreSettings c.settings.ensures.value c.settings.ensures.fit) c.requires.whole
    (decodes_well settings bits _ _ _ left.ctx.held some left.reader.place c.byte_pos.result (here left.reader)
    (ap (drop left.reader.place) are) (omega (arith, at, c.align.ensures.within, ap length moved, ap length are))
    (omega (arith, c.byte_pos.ensures, at)) rows.reading rows.short)
    (search rules) (search rules) (record { of_taken = rows.repaired.of_taken; all = rows.repaired.all })
    (record { of_taken = rows.cut.of_taken; all = rows.cut.all })
    (record { of_taken = rows.missed.of_taken; all = rows.missed.all }) tt none)
