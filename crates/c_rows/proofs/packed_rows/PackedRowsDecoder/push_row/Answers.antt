use Rattle.std.proofs.Common.{◌≡◌, arith, length}
use Rattle.std.proofs.lemmas.Grind.{common_steps}
use Rattle.c_rows.proofs.WhiteRows.{one_white}
use Rattle.c_rows.proofs.packed_rows.PackedRowsDecoder.push_row.Goals as goal

pub returns-then-self-clause-taken : goal.returns-then-self-clause-taken
returns-then-self-clause-taken c =
    let s = c.args.self.now in
    let none : length c.args.changes.now ≡ 0 = grind (arith, common_steps) in
    one_white s.layout s.columns s.start s.written s.bytes c.args.changes.now s.bitmap.now s.changes _ s.bitmap.ghost_name
    none s.whole
    (omega (arith, s.whole, s.together (omega (arith, c.if-self.true)))) s.in_order c.counted-self.ensures
