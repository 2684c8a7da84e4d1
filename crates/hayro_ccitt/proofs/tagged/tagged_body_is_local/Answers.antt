use Rattle.hayro_ccitt.proofs.Names.{◌≡◌, ◌∙◌, ◌↔◌, sym, ap, arith, IfOk-weaker, false≢true, false, Group3_2D}
use Rattle.hayro_ccitt.proofs.Names.{DecodeSettings, IsTrue, bits_in, drop}
use Rattle.hayro_ccitt.specs.LocalityByK.{IsReadBefore}
use Rattle.hayro_ccitt.specs.TaggedBodies.{IsLocal2D}
use Rattle.hayro_ccitt.proofs.BitReading.BitLists.{length-bits_in}
use Rattle.hayro_ccitt.proofs.DamagedLines.BodyWork.{eol_after_body}
use Rattle.hayro_ccitt.proofs.TaggedBodies.BodiesByTests.{ends_far, local_if_read}
use Rattle.hayro_ccitt.proofs.tagged.tagged_body_is_local.Goals.{After-end_of_tagged_body}
use Rattle.hayro_ccitt.proofs.tagged.tagged_body_is_local.Goals as goal

pub returns-then-not-is_lenient_2d-clause-local : goal.returns-then-not-is_lenient_2d-clause-local
returns-then-not-is_lenient_2d-clause-local c =
    let same = c.settings.ensures.value in (
      λ is. absurd (false≢true is),
      λ local. absurd (false≢true (sym c.if-not-is_lenient_2d.true ∙ c.is_lenient_2d.ensures.1 (
        ap (λ (s : DecodeSettings). s.encoding) same ∙ local.encoding,
        ap (λ (s : DecodeSettings). s.strict) same ∙ local.lenient,
      ))),
    )

pub returns-in_default-clause-local : goal.returns-in_default-clause-local
returns-in_default-clause-local c = (
  λ is. absurd (false≢true is),
  λ local. absurd (c.end_of_tagged_body.ensures.none c.in_default.is c.args.ctx.now.held.settings local.body),
)

pub returns-then-to-data-clause-local : goal.returns-then-to-data-clause-local
returns-then-to-data-clause-local c = (
  λ is. absurd (false≢true is),
  λ local. absurd (omega (arith, local.body.within, length-bits_in c.args.order c.args.data.now, c.if-to-data.true)),
)

pub is_read_before-requires-clause-line : goal.is_read_before-requires-clause-line
is_read_before-requires-clause-line c =
    let bits = bits_in c.args.order c.args.data.now in
    let body = c.in-Some.ensures.body in
    record {
      far = ends_far bits c.args.from c.args.to c.in-Some.end body;
      within = body.short;
      eol = eol_after_body bits (drop c.in-Some.end bits) c.args.from c.args.to (omega
          (arith, body.one.1, body.one.2)) body.within body.eol;
    }

pub returns-clause-local : goal.returns-clause-local
returns-clause-local c =
    let bits = bits_in c.args.order c.args.data.now in
    let settings = c.args.ctx.now.held.settings in
    let here = c.is_lenient_2d.ensures.0 c.if-not-is_lenient_2d.false in
    let same = c.settings.ensures.value in
    let lenient : (settings.encoding ≡ Group3_2D) × (settings.strict ≡ false) = (
      sym (ap (λ (s : DecodeSettings). s.encoding) same) ∙ here.0,
      sym (ap (λ (s : DecodeSettings). s.strict) same) ∙ here.1,
    ) in
    IfOk-weaker c.is_read_before.result
    (λ before. IsTrue before ↔ IsReadBefore settings bits c.args.from (drop c.in-Some.end bits))
    (λ local. IsTrue local ↔ IsLocal2D settings bits c.args.from c.args.to)
    (λ before is. local_if_read settings bits c.args.from c.args.to c.in-Some.end before lenient c.in-Some.ensures.body is)
    c.is_read_before.ensures.before
