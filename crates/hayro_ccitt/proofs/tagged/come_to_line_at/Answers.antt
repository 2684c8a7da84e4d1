use Rattle.fax_rows.proofs.Names.{◌≡◌, ◌≢◌, ◌∙◌, ◌+◌, ◌-◌, Bool, true, false, sym, ap, subst, arith, refl, Ok, Result}
use Rattle.fax_rows.proofs.Names.{DecodeError}
use Rattle.fax_rows.proofs.Names.{Bits, DecodeSettings, StandsAtLine, ended, length, length-drop, here, plain}
use Rattle.std.proofs.lemmas.Bool.{eq-eqb}
use Rattle.std.proofs.Common.{is_some}
use Rattle.fax_rows.specs.declared.row_reader.RowState.{RowState}
use Rattle.fax_rows.proofs.Readings.RowByRow.{at_line_stands, room_at_line}
use Rattle.fax_rows.proofs.Work.CallsPaid.{within_most}
use Rattle.hayro_ccitt.specs.TaggedBodies.{ComesLater}
use Rattle.hayro_ccitt.proofs.TaggedBodies.LinesReached.{later_on, none_whole, past_place}
use Rattle.hayro_ccitt.proofs.TaggedBodies.RowsPassed.{none_if_ended, standing_most}
use Rattle.hayro_ccitt.proofs.tagged.come_to_line_at.Goals.{After-pass_line}
use Rattle.hayro_ccitt.proofs.tagged.come_to_line_at.Goals as goal

pub returns-then-has_ended-clause-none : goal.returns-then-has_ended-clause-none
returns-then-has_ended-clause-none c = λ e.
    let settings = c.args.ctx.now.held.settings in
    let bits = c.args.reader.now.bits in
    let ends = ap (λ (r : RowState). is_some (ended r.stand)) (sym c.new-rows.ensures) ∙ sym c.has_ended.ensures
    ∙ c.if-has_ended.true in
    none_whole settings c.requires.encoding c.requires.wide bits c.args.place 0
    (none_if_ended c.first_stand.result settings bits c.first_stand.new.ctx.held c.first_stand.new.reader.place
    c.first_stand.ensures.alone.stands ends c.first_stand.ensures.unfailed c.first_stand.ensures.takes_none.none_taken)
    (λ so_far reaches is. omega arith)

pub returns-then-has_ended-clause-at_most : goal.returns-then-has_ended-clause-at_most
returns-then-has_ended-clause-at_most c =
    within_most c.args.ctx.now.ticks c.first_stand.result c.args.ctx.now.held.settings c.args.reader.now.bits
    c.first_stand.new.ctx.held c.first_stand.new.reader.place c.first_stand.new.ctx.ticks c.first_stand.ensures.alone.stands
    (c.first_stand.ensures.alone.paid c.args.ctx.now.ticks refl)

module _ (c : After-pass_line) where
  abbrev settings : DecodeSettings
  settings = c.args.ctx.now.held.settings

  abbrev bits : Bits
  bits = c.args.reader.now.bits

  stands : StandsAtLine settings bits c.lines.ctx.held (here c.lines.reader)
  stands = let inv = c.lines.invariant in
      subst (λ (s : DecodeSettings). StandsAtLine s bits c.lines.ctx.held (here c.lines.reader)) inv.settings
      (subst (λ (b : Bits). StandsAtLine c.lines.ctx.held.settings b c.lines.ctx.held (here c.lines.reader)) inv.bits
      (at_line_stands c.lines.rows.stand c.lines.ctx.held.settings c.lines.reader.bits c.lines.ctx.held c.lines.reader.place
      inv.at.0 inv.at.1.0))

  size : length (here c.lines.reader) ≡ length bits - c.lines.reader.place
  size = length-drop c.lines.reader.place c.lines.reader.bits
      ∙ ap (λ (b : Bits). length b - c.lines.reader.place) c.lines.invariant.bits

  one_later : ComesLater settings bits c.args.place (c.lines.ctx.held.taken + 1)
  one_later = later_on settings c.requires.encoding c.requires.wide bits c.args.place stands (omega (arith, size))
      (λ e. omega (arith, e, size, length-drop c.args.place bits, c.lines-test.true, c.bit_pos.ensures.place, c.requires.within))
      c.lines.invariant.later

pub lines-smaller : goal.lines-smaller
lines-smaller c =
    let inv = c.lines.invariant in
    let room = room_at_line c.args.ctx.now.ticks c.lines.rows c.lines.ctx c.lines.reader inv.at.1 inv.at.0 in
    omega (arith, c.in-Ok-true.ensures.passes.more c.in-Ok-true.field-0-test, room.0, ap length inv.bits)

pub lines-preserved : goal.lines-preserved
lines-preserved c =
    let at = (goal.at.lines-preserved c).After-pass_line in
    let inv = c.lines.invariant in
    let passes = c.in-Ok-true.ensures.passes in
    let test = c.in-Ok-true.field-0-test in
    record {
      at = passes.line test c.args.ctx.now.ticks inv.at;
      settings = c.pass_line.ensures.settings ∙ inv.settings;
      bits = c.pass_line.ensures.same_bits ∙ inv.bits;
      later = subst (ComesLater c.args.ctx.now.held.settings c.args.reader.now.bits c.args.place) (sym (passes.more test))
          (one_later at);
    }

pub returns-in-Ok-false-clause-none : goal.returns-in-Ok-false-clause-none
returns-in-Ok-false-clause-none c = λ e.
    let at = (goal.at.returns-in-Ok-false-clause-none c).After-pass_line in
    let inv = c.lines.invariant in
    let over = c.in-Ok-false.ensures.passes.over c.in-Ok-false.field-0-test c.args.ctx.now.ticks inv.at in
    let same = ap (λ (s : DecodeSettings). length (plain s c.lines.reader.bits).rows) inv.settings
    ∙ ap (λ (b : Bits). length (plain c.args.ctx.now.held.settings b).rows) inv.bits in
    none_whole c.args.ctx.now.held.settings c.requires.encoding c.requires.wide c.args.reader.now.bits c.args.place
    (c.lines.ctx.held.taken + 1) (omega (arith, over, same)) (one_later at)

pub returns-clause-none : goal.returns-clause-none
returns-clause-none c = λ e.
    let inv = c.lines.invariant in
    let settings = c.args.ctx.now.held.settings in
    let bits = c.args.reader.now.bits in
    let stands = subst (λ (s : DecodeSettings). StandsAtLine s bits c.lines.ctx.held (here c.lines.reader)) inv.settings
    (subst (λ (b : Bits). StandsAtLine c.lines.ctx.held.settings b c.lines.ctx.held (here c.lines.reader)) inv.bits
    (at_line_stands c.lines.rows.stand c.lines.ctx.held.settings c.lines.reader.bits c.lines.ctx.held c.lines.reader.place
    inv.at.0 inv.at.1.0)) in
    let size = length-drop c.lines.reader.place c.lines.reader.bits
    ∙ ap (λ (b : Bits). length b - c.lines.reader.place) inv.bits in
    let other : c.bit_pos-2.result ≢ c.args.place = λ same. differ (eq-eqb c.bit_pos-2.result c.args.place same) e in
    past_place settings c.requires.encoding c.requires.wide bits c.args.place stands (omega (arith, size))
    (omega (
      arith,
      size,
      length-drop c.args.place bits,
      c.lines-test.false,
      other,
      c.bit_pos.ensures.place,
      c.bit_pos-2.ensures.place,
      c.bit_pos-2.ensures.within,
      ap length inv.bits,
    )) inv.later
  where
    differ : {b : Bool} → b ≡ true → ◌≡◌ {A = Result Bool DecodeError} (Ok b) (Ok false) → ⊥
    differ is e = absurd cc

pub returns-clause-at_most : goal.returns-clause-at_most
returns-clause-at_most c =
    (standing_most c.args.ctx.now.ticks c.lines.rows c.lines.ctx c.lines.reader c.args.ctx.now.held.settings
    c.args.reader.now.bits
    c.lines.invariant.at.1 c.lines.invariant.settings c.lines.invariant.bits).1
