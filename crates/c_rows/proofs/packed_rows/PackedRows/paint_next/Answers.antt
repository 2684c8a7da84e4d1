use Rattle.std.proofs.Common.{◌≡◌, ◌+◌, ◌-◌, ◌≤◌, ◌∙◌, ℕ, ap, arith, drop, false, length, refl, replicate, take}
use Rattle.std.proofs.lemmas.List.{length-drop, length-take}
use Rattle.hayro_ccitt.specs.Bits.{bits_of}
use Rattle.hayro_ccitt.specs.Rows.{pixels}
use Rattle.c_rows.specs.Packing.{Packing, bytes_of_row, packing_up_to, with_packed}
use Rattle.c_rows.specs.declared.packed_rows.Layout.{Layout}
use Rattle.c_rows.proofs.WhiteRows.{packed_cleared, plain_row, row_cleared, same_up_to}
use Rattle.c_rows.proofs.packed_rows.PackedRows.paint_next.Goals as goal

pub paint_cleared-requires-clause-white : goal.paint_cleared-requires-clause-white
paint_cleared-requires-clause-white c =
    let s = c.fill_many.new.self in
    let same = c.fill_many.ensures in
    let n : ℕ = s.start + s.bytes - s.written in
    let room : s.start + s.bytes ≤ length s.bitmap.now =
    omega (arith, s.whole, c.requires.room, same.shape.columns, same.start, same.size) in
    let long : length (take n (drop s.written s.bitmap.now)) ≡ n =
    omega (arith, length-take n (drop s.written s.bitmap.now), length-drop s.written s.bitmap.now, s.in_order, room) in
    row_cleared s.written s.start s.bytes s.bitmap.now c.fill_bytes.new.bytes s.in_order room
    (c.fill_bytes.ensures ∙ ap (λ (k : ℕ). replicate k 0) long)

pub returns-clause-meaning : goal.returns-clause-meaning
returns-clause-meaning c =
    let s = c.fill_many.new.self in
    let same = c.fill_many.ensures in
    let on = c.go_on.ensures in
    let n : ℕ = s.start + s.bytes - s.written in
    let room : s.start + s.bytes ≤ length s.bitmap.now =
    omega (arith, s.whole, c.requires.room, same.shape.columns, same.start, same.size) in
    let long : length (take n (drop s.written s.bitmap.now)) ≡ n =
    omega (arith, length-take n (drop s.written s.bitmap.now), length-drop s.written s.bitmap.now, s.in_order, room) in
    let bytes : s.bytes ≡ bytes_of_row s.columns = omega (arith, s.whole) in
    let was = c.args.self.now in
    let before : Packing = packing_up_to was.layout was.start was.written was.bitmap.now was.changes was.bitmap.ghost_name in
    let plain : s.layout.black_is_0 ≡ false = ap (λ (l : Layout). l.black_is_0) same.shape.layout
    ∙ was.plain (omega (arith, c.requires.some, c.requires.few)) in
    same_up_to _ s.layout _ _ _ _ _ _ _ _ _ s.bitmap.ghost_name on.shape.layout on.start (on.written ∙ on.start) on.memory
    on.changes
    on.same_reference
    ∙ packed_cleared s.written s.start s.bytes s.bitmap.now c.fill_bytes.new.bytes s.in_order room
    (c.fill_bytes.ensures ∙ ap (λ (k : ℕ). replicate k 0) long) s.layout s.columns c.args.changes.now c.paint_cleared.new.row
    s.changes _ s.bitmap.ghost_name plain bytes s.reaches c.paint_cleared.auto.row
    (plain_row s.layout.black_is_0 (bits_of c.paint_cleared.new.row) (pixels s.columns c.args.changes.now) plain
    c.paint_cleared.ensures.painted) refl
    ∙ ap (λ (p : Packing). with_packed s.columns p c.args.changes.now) same.meaning
    ∙ ap (λ (n : ℕ). with_packed n before c.args.changes.now) same.shape.columns
