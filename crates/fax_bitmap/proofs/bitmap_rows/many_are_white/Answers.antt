use Rattle.fax_bitmap.proofs.Names.{refl, false, and_parts, take_rest}
use Rattle.fax_bitmap.proofs.ScannedRows.{plain_both}
use Rattle.fax_bitmap.proofs.bitmap_rows.many_are_white.Goals as goal

pub returns : goal.returns
returns c = λ is.
    let parts = and_parts c.sixteen_are_plain.result c.sixteen_are_plain-2.result is in
    plain_both 128 128 256 false c.args.bytes.now _ refl (take_rest c.args.bytes.now 128)
    (c.sixteen_are_plain.ensures parts.0) (c.sixteen_are_plain-2.ensures parts.1)
