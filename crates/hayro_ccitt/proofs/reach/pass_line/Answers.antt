use Rattle.hayro_ccitt.proofs.Names.{◌≡◌, ◌+◌, ◌*◌, ◌≤◌, false, ◌∷◌, length, Some, None, sym, ap, ◌∙◌, arith, leb-true}
use Rattle.hayro_ccitt.proofs.Names.{length-drop, BitsAt, here, after_eol, next_eol, looked, common_steps}
use Rattle.hayro_ccitt.proofs.DamagedLines.LinesPassed.{line_passed, eol_passed}
use Rattle.fax_bits.proofs.BitReading.ConsecutiveEols.{next_eol_found}
use Rattle.hayro_ccitt.proofs.DamagedLines.PassedWork.{line_work}
use Rattle.hayro_ccitt.proofs.Work.EolsPassed.{looked_most}
use Rattle.hayro_ccitt.proofs.reach.pass_line.Goals.{After-bit_pos-2}
use Rattle.hayro_ccitt.proofs.reach.pass_line.Goals as goal

pub returns-clause-line : goal.returns-clause-line
returns-clause-line c = λ e. grind (arith, common_steps, eol_passed, next_eol_found, line_passed, length-drop, leb-true)

pub returns-clause-onward : goal.returns-clause-onward
returns-clause-onward c =
    (next_eol_found (here c.args.reader.now) (here c.skip_to_eol.new.self) c.if-not-skip_to_eol.ensures.next).0

pub returns-clause-only_ticks : goal.returns-clause-only_ticks
returns-clause-only_ticks c = grind (arith, common_steps, next_eol_found)

-- what is counted until all modes are passed
worked : (c : After-bit_pos-2) → c.pass_modes.new.ctx.ticks + 3 * length (here c.skip_to_eol.new.self)
    ≤ c.args.ctx.now.ticks + 3 * length (here c.args.reader.now) + 3 * looked (here c.skip_to_eol.new.self)
worked c =
    let old = here c.args.reader.now in
    let line = here c.read_bit.new.self in
    let found = here c.skip_to_eol.new.self in
    let is : old ≡ false ∷ line = grind (arith, common_steps) in
    let none : after_eol 0 old ≡ None
    = ap (λ (at : BitsAt). after_eol 0 (here at)) (sym c.copy-end.ensures.value) ∙ c.if-pass_eol.ensures.eol in
    let next : next_eol old ≡ Some found = c.if-not-skip_to_eol.ensures.next in
    let eol = next_eol_found old found next in
    line_work old line found eol.1.0 c.args.ctx.now.ticks c.pass_eol.new.ticks c.skip_to_eol.new.ticks c.pass_eol-2.new.ticks
    c.pass_modes.new.ctx.ticks is none next eol.1.1
    (omega (
      arith,
      c.ticks.ensures.value,
      c.pass_eol.ensures.ticks,
      ap (λ (at : BitsAt). looked (here at)) c.copy-end.ensures.value,
    ))
    (omega (arith, c.ticks-2.ensures.value, c.if-not-skip_to_eol.ensures.ticks))
    (omega (
      arith,
      c.ticks-3.ensures.value,
      c.pass_eol-2.ensures.ticks,
      ap (λ (at : BitsAt). looked (here at)) c.copy-end-2.ensures.value,
    ))
    c.pass_modes.ensures.at_most

pub returns-clause-to_eol : goal.returns-clause-to_eol
returns-clause-to_eol c = λ e. worked (goal.at.returns-clause-to_eol c).After-bit_pos-2

pub returns-clause-at_most : goal.returns-clause-at_most
returns-clause-at_most c =
    omega (arith, worked (goal.at.returns-clause-at_most c).After-bit_pos-2, looked_most (here c.skip_to_eol.new.self))

pub returns-then-pass_eol-clause-at_most : goal.returns-then-pass_eol-clause-at_most
returns-then-pass_eol-clause-at_most c = grind (arith, common_steps, looked_most)

pub returns-then-not-skip_to_eol-clause-at_most : goal.returns-then-not-skip_to_eol-clause-at_most
returns-then-not-skip_to_eol-clause-at_most c = grind (arith, common_steps, looked_most)
