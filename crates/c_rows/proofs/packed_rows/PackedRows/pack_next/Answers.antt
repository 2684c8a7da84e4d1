use Rattle.std.proofs.Common.{◌≡◌, ◌∙◌, arith, refl}
use Rattle.c_rows.specs.Packing.{bytes_of_row}
use Rattle.c_rows.proofs.WhiteRows.{packed_after, same_up_to}
use Rattle.c_rows.proofs.packed_rows.PackedRows.pack_next.Goals as goal

pub returns-clause-meaning : goal.returns-clause-meaning
returns-clause-meaning c =
    let s = c.write_white.new.self in
    let same = c.write_white.ensures in
    let on = c.go_on.ensures in
    let bytes : s.bytes ≡ bytes_of_row s.columns = omega (arith, s.whole) in
    same_up_to _ s.layout _ _ _ _ _ _ _ _ _ s.bitmap.ghost_name on.shape.layout on.start (on.written ∙ on.start) on.memory
    on.changes
    on.same_reference
    ∙ packed_after s.layout s.columns s.start s.written s.bytes c.args.changes.now s.bitmap.now c.pack_uncleared.new.row
    s.changes _ s.bitmap.ghost_name same.written bytes s.reaches (omega (arith, c.requires.room, same.start, same.size))
    (omega (arith, bytes, same.shape.columns, c.requires.room, same.start, same.size)) c.pack_uncleared.auto.row
    c.pack_uncleared.ensures.packed refl _ _ same.meaning same.shape.columns
