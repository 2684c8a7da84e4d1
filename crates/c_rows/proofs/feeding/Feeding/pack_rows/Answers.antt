use Rattle.std.proofs.Common.{ℕ, Ok, refl, subst, arith}
use Rattle.hayro_ccitt.specs.Fed.{Fed}
use Rattle.c_rows.specs.GivenRows.{ArePackedRows, StandPacked, columns_of, room_of_packed}
use Rattle.c_rows.specs.Packing.{spaced}
use Rattle.c_rows.specs.declared.packed_rows.Layout.{Layout}
use Rattle.c_rows.proofs.FedRows.{gives_from, gives_no_row}
use Rattle.c_rows.proofs.feeding.Feeding.pack_rows.Goals as goal

pub returns-then-stays_within_line : goal.returns-then-stays_within_line
returns-then-stays_within_line c =
    let stays = c.stays_within_line.ensures in
    gives_no_row ArePackedRows room_of_packed _ _ (Ok Fed.NeedsMore)
    (record { rows_are = refl; others = refl; room = omega arith }) (stays.more c.if-stays_within_line.true) refl
    (stays.none_kept c.if-stays_within_line.true) stays.layout refl

pub returns : goal.returns
returns c =
    let stays = c.stays_within_line.ensures in
    gives_from c.args.self.now c.stays_within_line.new.self stays.layout (stays.goes_on c.if-stays_within_line.false)
    ArePackedRows room_of_packed
    (λ rows are. subst (λ (n : ℕ). StandPacked (spaced c.args.self.now.layout) n rows c.args.bytes.now c.pack_next_rows.new.bytes)
    stays.columns (subst (λ (l : Layout). StandPacked (spaced l) (columns_of c.stays_within_line.new.self) rows c.args.bytes.now
    c.pack_next_rows.new.bytes) stays.layout are)) c.pack_next_rows.ensures
