use Rattle.fax_lines.proofs.Names.{common_steps, ◌≡◌, ◌-◌, ◌++◌, replicate, Ok, Err, sym, ap, ℕ, ◌∙◌, arith}
use Rattle.fax_lines.proofs.Names.{err_from_is_err_and, Row, is_black, paint, pixels, context_of}
use Rattle.fax_reading.proofs.PixelRows.ChangesAndPixels.{length-pixels, changes-pixels}
use Rattle.fax_reading.proofs.PixelRows.Painting.{paint-strict, paint-fits, StoresChange-painted}
use Rattle.fax_bits.specs.declared.error.DecodeError.TheVariants.{OutOfMemory}
use Rattle.fax_reading.specs.Answers.{StoresChange}
use Rattle.fax_lines.proofs.context.DecoderContext.push_and_cut.Goals.{After-append_pixels}
use Rattle.fax_lines.proofs.context.DecoderContext.push_and_cut.Goals as goal
use Rattle.std.proofs.Math.Bool.{or-true}

-- what is appended is what the rule paints
module _ (c : After-append_pixels) where
  abbrev front : Row
  front = pixels c.self.inside.pixels_decoded c.self.inside.coding_changes.items

  abbrev room : ℕ
  room = c.self.inside.settings.columns - c.self.inside.pixels_decoded

  is_painted : paint c.self.inside.settings.strict c.self.inside.settings.columns front c.self.inside.color c.args._count
      ≡ Ok (front ++ replicate room (is_black c.self.inside.color))
  is_painted = grind (arith, common_steps, length-pixels, paint-fits, room)

pub returns-then-self : goal.returns-then-self
returns-then-self c = grind (arith, common_steps, length-pixels, paint-strict)

pub returns-in_err-append_pixels : goal.returns-in_err-append_pixels
returns-in_err-append_pixels c =
    let s = c.self.inside in
    let painted = is_painted (goal.at.returns-in_err-append_pixels c).After-append_pixels in
    let p = err_from_is_err_and c.from_residual.result c.from_residual.ensures.1 in
    let stores : c.from_residual.result ≡ Err OutOfMemory → StoresChange (context_of s).held c.args._count = λ e.
    let stored = c.append_pixels.ensures.memory (c.in_err-append_pixels.was ∙ ap Err (sym p.2) ∙ sym p.1 ∙ e) in
    StoresChange-painted (context_of s).held c.args._count _ painted stored.0 stored.1 in
    grind (arith, common_steps, err_from_is_err_and, stores)

pub returns : goal.returns
returns c =
    let painted = is_painted (goal.at.returns c).After-append_pixels in
    let size = length-pixels c.self.inside.pixels_decoded c.self.inside.coding_changes.items c.self.invariant.front in
    grind (arith, common_steps, length-pixels, or-true, size, changes-pixels)
