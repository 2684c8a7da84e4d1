use Rattle.fax_bitmap.proofs.Names.{refl, and_parts, take_rest}
use Rattle.fax_bitmap.proofs.ScannedRows.{plain_both}
use Rattle.fax_bitmap.proofs.bitmap_rows.eight_are_plain.Goals as goal

pub returns : goal.returns
returns c = λ is.
    let parts = and_parts c.four_are_plain.result c.four_are_plain-2.result is in
    plain_both 32 32 64 c.args.is_black c.args.bytes.now _ refl (take_rest c.args.bytes.now 32) (c.four_are_plain.ensures parts.0)
    (c.four_are_plain-2.ensures parts.1)
