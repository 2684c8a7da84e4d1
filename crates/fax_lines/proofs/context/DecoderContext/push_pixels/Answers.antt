use Rattle.fax_lines.proofs.Names.{common_steps, ◌≡◌, ◌-◌, ◌≤◌, min, ◌++◌, replicate, Ok, Err, sym, ap, ℕ, inr, ◌∙◌, arith}
use Rattle.fax_lines.proofs.Names.{err_from_is_err_and, Row, is_black, paint, pixels, context_of, le-ltb, lt-ltb}
use Rattle.fax_reading.proofs.PixelRows.ChangesAndPixels.{length-pixels, changes-pixels}
use Rattle.fax_reading.proofs.PixelRows.Painting.{paint-fits, StoresChange-painted}
use Rattle.fax_bits.specs.declared.error.DecodeError.TheVariants.{OutOfMemory}
use Rattle.fax_reading.specs.Answers.{StoresChange}
use Rattle.fax_lines.proofs.context.DecoderContext.push_pixels.Goals.{After-append_pixels}
use Rattle.fax_lines.proofs.context.DecoderContext.push_pixels.Goals as goal
use Rattle.std.proofs.Math.Bool.{or-false}

-- what is appended is what the rule paints
module _ (c : After-append_pixels) where
  abbrev front : Row
  front = pixels c.self.inside.pixels_decoded c.self.inside.coding_changes.items

  fits : c.args.count ≤ c.self.inside.settings.columns - c.self.inside.pixels_decoded
  fits = omega (arith, c.if-count-self.false)

  all : min c.args.count (c.self.inside.settings.columns - c.self.inside.pixels_decoded) ≡ c.args.count
  all = omega (arith, fits)

  is_painted : paint c.self.inside.settings.strict c.self.inside.settings.columns front c.self.inside.color c.args.count
      ≡ Ok (front ++ replicate c.args.count (is_black c.self.inside.color))
  is_painted = paint-fits c.self.inside.settings.strict c.self.inside.settings.columns c.self.inside.pixels_decoded
      c.self.inside.coding_changes.items c.self.inside.color c.args.count c.self.invariant.front (inr fits)
      ∙ ap (λ (n : ℕ). Ok (front ++ replicate n (is_black c.self.inside.color))) all

pub push_and_cut-requires : goal.push_and_cut-requires
push_and_cut-requires c =
    let size = length-pixels c.self.inside.pixels_decoded c.self.inside.coding_changes.items c.self.invariant.front in
    record { more = grind (arith, common_steps, lt-ltb, size) }

pub returns-in_err-append_pixels : goal.returns-in_err-append_pixels
returns-in_err-append_pixels c =
    let s = c.self.inside in
    let painted = is_painted (goal.at.returns-in_err-append_pixels c).After-append_pixels in
    let p = err_from_is_err_and c.from_residual.result c.from_residual.ensures.1 in
    let stores : c.from_residual.result ≡ Err OutOfMemory → StoresChange (context_of s).held c.args.count = λ e.
    let stored = c.append_pixels.ensures.memory (c.in_err-append_pixels.was ∙ ap Err (sym p.2) ∙ sym p.1 ∙ e) in
    StoresChange-painted (context_of s).held c.args.count _ painted stored.0 stored.1 in
    grind (arith, common_steps, err_from_is_err_and, stores)

pub returns : goal.returns
returns c =
    let painted = is_painted (goal.at.returns c).After-append_pixels in
    let size = length-pixels c.self.inside.pixels_decoded c.self.inside.coding_changes.items c.self.invariant.front in
    grind (arith, common_steps, length-pixels, le-ltb, or-false, size, changes-pixels)
