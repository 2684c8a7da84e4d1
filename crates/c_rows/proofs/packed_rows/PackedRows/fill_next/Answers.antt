use Rattle.std.proofs.Common.{◌≡◌, ◌+◌, ◌-◌, ◌≤◌, ◌∙◌, List, [], ℕ, arith, drop, length, refl, take}
use Rattle.std.proofs.lemmas.List.{length-drop, length-take}
use Rattle.c_rows.specs.Packing.{bytes_of_row}
use Rattle.c_rows.proofs.WhiteRows.{packed_after, same_up_to, white_bytes}
use Rattle.c_rows.proofs.packed_rows.PackedRows.fill_next.Goals as goal

pub returns-clause-meaning : goal.returns-clause-meaning
returns-clause-meaning c =
    let s = c.write_white.new.self in
    let same = c.write_white.ensures in
    let on = c.go_on.ensures in
    let end : ℕ = s.start + s.bytes in
    let old : List ℕ = take (end - s.start) (drop s.start s.bitmap.now) in
    let row : List ℕ = c.fill_bytes.new.bytes in
    let bytes : s.bytes ≡ bytes_of_row s.columns = omega (arith, s.whole) in
    let room : s.start + s.bytes ≤ length s.bitmap.now =
    omega (arith, s.whole, c.requires.room, same.shape.columns, same.start, same.size) in
    let long : length old ≡ bytes_of_row s.columns =
    omega (arith, length-take (end - s.start) (drop s.start s.bitmap.now), length-drop s.start s.bitmap.now, bytes, room) in
    same_up_to _ s.layout _ _ _ _ _ _ _ _ _ s.bitmap.ghost_name on.shape.layout on.start (on.written ∙ on.start) on.memory
    on.changes
    on.same_reference
    ∙ packed_after s.layout s.columns s.start s.written s.bytes [] s.bitmap.now row s.changes _
    s.bitmap.ghost_name same.written bytes s.reaches (omega (arith, room)) (omega (arith, room)) c.fill_bytes.auto.bytes
    (white_bytes s.layout.black_is_0 s.columns [] old row c.white_byte-white.result refl long c.white_byte-white.ensures
    c.fill_bytes.ensures)
    refl _ _ same.meaning same.shape.columns
