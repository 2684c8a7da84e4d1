use Rattle.fax_lines.proofs.Names.{common_steps}
use Rattle.fax_lines.proofs.Names.{◌≡◌, ◌≢◌, Bool, true, false, Err, refl, sym, ap, ◌∙◌, arith, err_from_is_err_and}
use Rattle.fax_reading.proofs.PixelRows.ChangesAndPixels.{changes-pixels, length-pixels}
use Rattle.fax_lines.proofs.context.DecoderContext.fill_white.Goals as goal

-- a pixel that isn't white is black
black : (pixel : Bool) → pixel ≢ false → pixel ≡ true
black true other = refl
black false other = absurd (other refl)

pub returns-in_err-append_pixels-clause-memory : goal.returns-in_err-append_pixels-clause-memory
returns-in_err-append_pixels-clause-memory c =
    let s = c.self.inside in
    let painted = length-pixels s.pixels_decoded s.coding_changes.items c.self.invariant.front in
    let p = err_from_is_err_and c.from_residual.result c.from_residual.ensures.1 in
    rw (← c.self.view_is) (λ e.
    let stored = c.append_pixels.ensures.memory (c.in_err-append_pixels.was ∙ ap Err (sym p.2) ∙ sym p.1 ∙ e) in
    (omega (arith, stored.0, painted), black _ stored.1))

pub returns-clause-frame : goal.returns-clause-frame
returns-clause-frame c = grind (arith, common_steps, length-pixels)

pub returns-clause-space : goal.returns-clause-space
returns-clause-space c = grind (arith, common_steps, changes-pixels)
