use Rattle.hayro_ccitt.proofs.Names.{common_steps}
use Rattle.hayro_ccitt.proofs.Names.{◌≡◌, ℕ, length, drop, sym, ap, subst, ◌∙◌, arith, DecodeSettings, Bits, BitsAt, bits_in}
use Rattle.hayro_ccitt.proofs.Names.{here, TellsStep, IsInStepFrom, ◌⊎◌, ◌<◌, false, Group3_1D, Group3_2D, refl, Some, ◌↔◌}
use Rattle.hayro_ccitt.proofs.BitReading.BitLists.{bits_are_whole, length-bits_in}
use Rattle.hayro_ccitt.proofs.KeptRows.StepsReported.{step_found, no_step_found, rows_follow}
use Rattle.hayro_ccitt.proofs.in_step.in_step_from.Goals.{After-bit_pos}
use Rattle.hayro_ccitt.proofs.in_step.in_step_from.Goals as goal

pub returns-then-to-data-clause-place : goal.returns-then-to-data-clause-place
returns-then-to-data-clause-place c = grind (arith, common_steps, no_step_found, length-bits_in)

pub returns-then-not-pass_to_step-clause-place : goal.returns-then-not-pass_to_step-clause-place
returns-then-not-pass_to_step-clause-place c =
    let settings = c.args.ctx.now.held.settings in
    let bits = bits_in c.args.order c.args.data.now in
    no_step_found settings bits c.args.to (λ place given.
    c.pass_to_step.ensures.no_step c.if-not-pass_to_step.true given.line (drop place bits)
    (subst (λ (at : BitsAt). TellsStep settings (here at) given.line (drop place bits)) (sym c.at_place-reader.ensures)
    given.reported))

-- the offset that is returned is the only one
place_found : (c : After-bit_pos) (place : ℕ) → (Some c.bit_pos.result ≡ Some place)
    ↔ IsInStepFrom c.args.ctx.now.held.settings (bits_in c.args.order c.args.data.now) c.args.to place
place_found c =
    let settings = c.args.ctx.now.held.settings in
    let bits = bits_in c.args.order c.args.data.now in
    let at = c.pass_to_step.new.reader in
    let are = c.are_unlimited.ensures.0 c.if-not-are_unlimited.false in
    let set = subst (λ (s : DecodeSettings). ((s.encoding ≡ Group3_1D) ⊎ (s.encoding ≡ Group3_2D))
    × (s.strict ≡ false) × (s.rows ≡ 0) × (0 < s.columns)) c.settings.ensures.value are in
    let same : at.bits ≡ bits = c.pass_to_step.ensures.same_bits ∙ ap (λ (at : BitsAt). at.bits) c.at_place-reader.ensures in
    let after : here at ≡ drop c.bit_pos.result bits =
    ap (λ (b : Bits). drop at.place b) same ∙ ap (λ (n : ℕ). drop n bits) (sym c.bit_pos.ensures.place) in
    let reported = c.pass_to_step.ensures.step c.if-not-pass_to_step.false in
    step_found settings bits reported.0 c.args.to c.bit_pos.result set.0 set.1 set.2 set.3
    (omega (arith, c.if-to-data.false, length-bits_in c.args.order c.args.data.now))
    (omega (arith, c.bit_pos.ensures.within, ap length same))
    (subst (λ (at : BitsAt). TellsStep settings (here at) reported.0 (drop c.bit_pos.result bits)) c.at_place-reader.ensures
    (subst (λ (b : Bits). TellsStep settings (here c.at_place-reader.result) reported.0 b) after reported.1))

pub returns-clause-place : goal.returns-clause-place
returns-clause-place c = place_found (goal.at.returns-clause-place c).After-bit_pos

pub returns-clause-rows : goal.returns-clause-rows
returns-clause-rows c =
    rows_follow c.args.ctx.now.held.settings (bits_in c.args.order c.args.data.now) c.args.to c.bit_pos.result
    (bits_are_whole c.args.order c.args.data.now)
    ((place_found (goal.at.returns-clause-rows c).After-bit_pos c.bit_pos.result).0 refl)

pub returns-clause-within : goal.returns-clause-within
returns-clause-within c = grind (arith, common_steps, length-bits_in)

pub returns-then-not-pass_to_step-clause-at_most : goal.returns-then-not-pass_to_step-clause-at_most
returns-then-not-pass_to_step-clause-at_most c =
    omega (arith, c.pass_to_step.ensures.at_most, ap (λ (at : BitsAt). length (here at)) c.at_place-reader.ensures)

pub returns-clause-at_most : goal.returns-clause-at_most
returns-clause-at_most c =
    omega (arith, c.pass_to_step.ensures.at_most, ap (λ (at : BitsAt). length (here at)) c.at_place-reader.ensures)
