use Rattle.fax_bitmap.proofs.Names.{refl, and_parts, take_rest}
use Rattle.fax_bitmap.proofs.ScannedRows.{plain_both}
use Rattle.fax_bitmap.proofs.bitmap_rows.sixteen_are_plain.Goals as goal

pub returns : goal.returns
returns c = λ is.
    let parts = and_parts c.eight_are_plain.result c.eight_are_plain-2.result is in
    plain_both 64 64 128 c.args.is_black c.args.bytes.now _ refl (take_rest c.args.bytes.now 64)
    (c.eight_are_plain.ensures parts.0) (c.eight_are_plain-2.ensures parts.1)
