use Rattle.hayro_ccitt.proofs.Names.{◌≡◌, ◌<◌, ◌∙◌, ◌↔◌, ℕ, Bool, true, Ok, sym, ap, subst, arith, refl, IfOk-weaker}
use Rattle.hayro_ccitt.proofs.Names.{Bits, BitsAt, Context, DecodeSettings, IsTrue, bits_in, drop, here, length, length-drop}
use Rattle.hayro_ccitt.specs.Work.{found_here}
use Rattle.hayro_ccitt.specs.LocalityByK.{IsReadBefore}
use Rattle.fax_rows.proofs.Work.CallsPaid.{failed_most}
use Rattle.hayro_ccitt.specs.TaggedBodies.{ComesFirst, EndsHere}
use Rattle.hayro_ccitt.proofs.TaggedBodies.LinesEnd.{bare_lines}
use Rattle.hayro_ccitt.proofs.TaggedBodies.LinesReached.{read_before}
use Rattle.hayro_ccitt.proofs.tagged.is_read_before.Goals.{After-line_here_ends_before}
use Rattle.hayro_ccitt.proofs.tagged.is_read_before.Goals as goal

pub returns-then-settings-eq0-clause-before : goal.returns-then-settings-eq0-clause-before
returns-then-settings-eq0-clause-before c =
    let none = sym (ap (λ (s : DecodeSettings). s.columns) c.settings.ensures.value) ∙ c.if-settings-eq0.true in (
      λ is. bare_lines c.args.ctx.now.held.settings (bits_in c.args.order c.args.data.now) c.args.from c.args.end
          c.requires.encoding none c.requires.line.far c.requires.line.within,
      λ read. refl,
    )

pub line_here_ends_before-requires-clause-within : goal.line_here_ends_before-requires-clause-within
line_here_ends_before-requires-clause-within c =
    omega (
      arith,
      c.requires.line.within,
      ap length c.come_to_line_at.ensures.kept.1,
      ap (λ (at : BitsAt). length at.bits) c.at_place-reader.ensures,
    )

module _ (c : After-line_here_ends_before) where
  abbrev settings : DecodeSettings
  settings = c.args.ctx.now.held.settings

  abbrev bits : Bits
  bits = bits_in c.args.order c.args.data.now

  abbrev now : BitsAt
  now = c.come_to_line_at.new.reader

  abbrev there : Context
  there = c.come_to_line_at.new.ctx

  came : c.come_to_line_at.result ≡ Ok true
  came = c.in-Ok-true.is ∙ ap (λ (b : Bool). Ok b) c.in-Ok-true.field-0-test

  reset_settings : c.reset.new.self.held.settings ≡ settings
  reset_settings = ap (λ (ctx : Context). ctx.held.settings) c.reset.ensures.frame

  settings_is : there.held.settings ≡ settings
  settings_is = c.come_to_line_at.ensures.kept.0 ∙ reset_settings

  start_bits : c.at_place-reader.result.bits ≡ bits
  start_bits = ap (λ (at : BitsAt). at.bits) c.at_place-reader.ensures

  bits_is : now.bits ≡ bits
  bits_is = c.come_to_line_at.ensures.kept.1 ∙ start_bits

  here_is : here now ≡ drop c.args.from bits
  here_is = ap (λ (b : Bits). drop now.place b) bits_is ∙ ap (λ (n : ℕ). drop n bits) (c.come_to_line_at.ensures.at came)

  first : ComesFirst c.args.ctx.now.ticks settings bits c.args.from there
  first = subst (λ (n : ℕ). ComesFirst n settings bits c.args.from there) (ap (λ
      (ctx : Context). ctx.ticks) c.reset.ensures.frame)
      (subst (λ (s : DecodeSettings). ComesFirst c.reset.new.self.ticks s bits c.args.from there) reset_settings
      (subst (λ (b : Bits). ComesFirst c.reset.new.self.ticks c.reset.new.self.held.settings b c.args.from there) start_bits
      (c.come_to_line_at.ensures.there came)))

  wide : 0 < settings.columns
  wide = omega (arith, c.if-settings-eq0.false, ap (λ (s : DecodeSettings). s.columns) c.settings.ensures.value)

  decided : (before : Bool) → IsTrue before ↔ EndsHere there.held.settings there.held.reference (here now)
      (drop c.args.end now.bits)
      → IsTrue before ↔ IsReadBefore settings bits c.args.from (drop c.args.end bits)
  decided before is =
      read_before settings c.requires.encoding wide bits c.args.from first.stands (omega (arith, length-drop c.args.from bits))
      (drop c.args.end bits) before refl first.later c.requires.line.eol
      (subst (λ (s : DecodeSettings). IsTrue before ↔ EndsHere s there.held.reference (drop c.args.from bits)
      (drop c.args.end bits))
      settings_is
      (subst (λ (l : Bits). IsTrue before ↔ EndsHere there.held.settings there.held.reference l (drop c.args.end bits)) here_is
      (subst (λ (b : Bits). IsTrue before ↔ EndsHere there.held.settings there.held.reference (here now) (drop c.args.end b))
      bits_is is)))

pub returns-in-Ok-true-clause-before : goal.returns-in-Ok-true-clause-before
returns-in-Ok-true-clause-before c =
    let at = (goal.at.returns-in-Ok-true-clause-before c).After-line_here_ends_before in
    IfOk-weaker c.line_here_ends_before.result
    (λ before. IsTrue before ↔ EndsHere (there at).held.settings (there at).held.reference (here (now at))
    (drop c.args.end (now at).bits))
    (λ before. IsTrue before ↔ IsReadBefore (settings at) (bits at) c.args.from (drop c.args.end (bits at))) (decided at)
    c.line_here_ends_before.ensures.before

pub returns-in-Ok-true-clause-at_most : goal.returns-in-Ok-true-clause-at_most
returns-in-Ok-true-clause-at_most c =
    let at = (goal.at.returns-in-Ok-true-clause-at_most c).After-line_here_ends_before in
    let words = ap (λ (s : DecodeSettings). length (found_here s (there at).held.reference (here (now at)))) (settings_is at)
    ∙ ap (λ (l : Bits). length (found_here (settings at) (there at).held.reference l)) (here_is at) in
    failed_most c.args.ctx.now.ticks (settings at) (wide at) (bits at) (there at).held (drop c.args.from (bits at))
    (there at).ticks
    (first at).paid c.line_here_ends_before.new.ctx.ticks (omega (arith, c.line_here_ends_before.ensures.at_most, words))
