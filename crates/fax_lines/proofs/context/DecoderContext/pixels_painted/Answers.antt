use Rattle.fax_lines.proofs.Names.{sym}
use Rattle.fax_reading.proofs.PixelRows.ChangesAndPixels.{length-pixels}
use Rattle.fax_lines.proofs.context.DecoderContext.pixels_painted.Goals as goal

pub returns : goal.returns
returns c = rw (← c.self.view_is) (sym (length-pixels c.self.inside.pixels_decoded _ c.self.invariant.front))
