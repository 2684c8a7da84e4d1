use Rattle.fax_reading.specs.Lines.{place_from}
use Rattle.fax_lines.proofs.Names.{common_steps}
use Rattle.fax_lines.proofs.Names.{◌≡◌, ℕ, ℤ, ◌-◌, ◌≤◌, ◌+ℤ◌, ◌∙◌, pos, negsuc, length, ap, Ok, w8, SFits, arith, rules}
use Rattle.fax_lines.proofs.Names.{to_z-of_z, err_from_is_err_and, on_err_weaker, on_ok_weaker, Context, DecodeError, Held}
use Rattle.fax_lines.proofs.Names.{b1, here, right_of}
use Rattle.fax_reading.proofs.DrawingLines.CutRuns.{pass_cuts}
use Rattle.fax_reading.proofs.DrawingLines.Drawings.{try}
use Rattle.fax_reading.proofs.DrawingLines.DrawnLines.{IsUnpainted, paint_draws, pass_draws, unpainted, vertical_unpainted}
use Rattle.fax_lines.proofs.context.DecoderContext.draw_mode.Goals as goal

-- what a position is
placed : (painted : ℕ) (z : ℤ) (p : ℕ) → place_from painted z ≡ Ok p → (z ≡ pos p) × (p ≤ 4294967295) × (painted ≤ p)
placed painted (pos n) p is = grind (arith, common_steps)
placed painted (negsuc n) p is = grind (arith, common_steps)

pub returns-in_err-push_pixels-in-Vertical-clause-step : goal.returns-in_err-push_pixels-in-Vertical-clause-step
returns-in_err-push_pixels-in-Vertical-clause-step c =
    let e = c.in_err-push_pixels-in-Vertical.ensures in
    let p = err_from_is_err_and c.from_residual-in_err-push_pixels-in-Vertical.result
    c.from_residual-in_err-push_pixels-in-Vertical.ensures.1 in
    let old : Held = c.args.self.now.held in
    let place : ℕ = c.in_ok-place-in-Vertical.place in
    let fault : DecodeError = c.in_err-push_pixels-in-Vertical.field-0.0 in
    let narrow : SFits w8 c.in-Vertical.offset = search rules in
    let same = c.b1-b1.ensures.seeks.held in
    let painted : c.pixels_painted-painted.result ≡ length old.front =
    c.pixels_painted-painted.ensures ∙ ap (λ (h : Held). length h.front) same in
    let from : place_from (length old.front) (pos (b1 old.reference (right_of old.front) old.color) +ℤ c.in-Vertical.offset)
    ≡ Ok place =
    rw (painted, c.b1-b1.ensures.value, to_z-of_z narrow) at
    (rw c.in_ok-place-in-Vertical.ensures.ok_part at c.vertical_place.ensures.place) in
    let named = placed (length old.front) _ place from in
    let why : IsUnpainted c.b1-b1.new.self.held (place - c.pixels_painted-painted.result) fault =
    record { too_many = e.too_many.0; memory = e.memory; only = e.only } in
    let why_old : IsUnpainted old (place - length old.front) fault = rw (painted, same) at why in
    rw (c.in-Vertical.is, p.1, p.2)
    (vertical_unpainted old c.push_pixels-in-Vertical.new.self.held c.in-Vertical.offset place (here c.args.reader.now) fault
    named.0 named.1 named.2 (ap (λ (x : Context). x.held) e.unchanged ∙ same) why_old)

pub returns-in-Pass-clause-step : goal.returns-in-Pass-clause-step
returns-in-Pass-clause-step c =
    grind (arith, common_steps, try, paint_draws, on_ok_weaker, on_err_weaker, unpainted, pass_draws)

pub returns-in-Pass-clause-leaves : goal.returns-in-Pass-clause-leaves
returns-in-Pass-clause-leaves c = grind (arith, common_steps, pass_cuts c.args.self.now c.b2-b2.new.self c.push_pixels.new.self)
