use Rattle.fax_bitmap.proofs.Names.{ℕ, ◌==◌, List, length, refl, ap, ◌∙◌, arith, and_parts, eqb-true, take_rest, length-drop}
use Rattle.fax_bitmap.proofs.Names.{low_bits}
use Rattle.fax_bitmap.proofs.ScannedRows.{plain_both, plain_word_there}
use Rattle.fax_bitmap.proofs.bitmap_rows.two_are_plain.Goals as goal

pub returns : goal.returns
returns c = λ is.
    let parts = and_parts (c.first_pixels.result == c.plain_word.result) (c.first_pixels-2.result == c.plain_word-2.result) is in
    let bytes : List ℕ = c.args.bytes.now in
    let rest = take_rest bytes 8 in
    let first = plain_word_there c.first_pixels.result c.args.is_black bytes (omega (arith, c.requires)) c.first_pixels.ensures
    (ap (low_bits 64) (eqb-true c.first_pixels.result c.plain_word.result parts.0) ∙ c.plain_word.ensures) in
    let second = plain_word_there c.first_pixels-2.result c.args.is_black _
    (omega (arith, c.requires, ap length rest, length-drop 8 bytes)) c.first_pixels-2.ensures
    (ap (low_bits 64) (eqb-true c.first_pixels-2.result c.plain_word-2.result parts.1) ∙ c.plain_word-2.ensures) in
    plain_both 8 8 16 c.args.is_black bytes _ refl rest first second
