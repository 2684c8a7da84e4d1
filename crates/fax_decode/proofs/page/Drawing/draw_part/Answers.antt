use Rattle.std.proofs.Common.{◌≡◌, ◌∙◌, refl, arith}
use Rattle.fax_encode.specs.Packed.{bytes_of_row}
use Rattle.fax_decode.proofs.LaidParts.{part_drawn}
use Rattle.fax_decode.proofs.page.Drawing.draw_part.Goals as goal

pub returns-clause-drawn : goal.returns-clause-drawn
returns-clause-drawn c = λ refused words.
    let wide : c.div_ceil-width.result ≡ bytes_of_row c.args.settings.columns = omega (arith, c.div_ceil-width.ensures) in
    part_drawn c.args.page.now c.args.part.now c.args.settings c.in_ok-decoded.decoded.rows c.data-data.result.now
    c.as_slice-rows.result.now c.rows.result c.div_ceil-width.result c.args.self.now.picture c.note.new.self.picture
    c.lay_over.new.self c.requires.settings c.data-data.ensures c.rows.ensures (c.if-not-is_decoded.ensures.yes refl) wide
    (c.in_ok-decoded.ensures words) c.as_slice-rows.ensures.value (c.in_ok-note.ensures.picture ∙ c.if-not-pay.ensures.picture)
    c.lay_over.ensures.laid
