use Rattle.std.proofs.Common.{◌<◌, ◌≤◌, length, take, arith, inl, inr, true}
use Rattle.std.proofs.lemmas.Bool.{cases_lt}
use Rattle.hayro_ccitt.specs.Bits.{bits_of}
use Rattle.c_rows.specs.Packing.{bytes_of_row, row_read}
use Rattle.c_rows.proofs.TakenRows.{takes_next}
use Rattle.c_rows.proofs.strip.Strip.add_packed.Goals as goal

pub returns-then-black_is_0 : goal.returns-then-black_is_0
returns-then-black_is_0 c =
    let rows = c.in-Rows.encoder in
    let row = c.args.row.now in
    let e = c.push_row_by_polarity.ensures in
    rw (c.if-black_is_0.true, c.in-Rows.is, c.status_of_adding.ensures)
    (takes_next rows c.push_row_by_polarity.new.self (bytes_of_row rows.columns ≤ length row)
    (length row < bytes_of_row rows.columns) (row_read true rows.columns (bits_of row)) c.push_row_by_polarity.result
    (λ short whole. absurd (omega (arith, short, whole)))
    (λ no. elim (cases_lt (length row) (bytes_of_row rows.columns)) [ inl short ↦ short | inr whole ↦ absurd (no whole) ])
    e.taken e.whole e.not_a_row e.fails.kept e.fails.others e.fails.wanted e.fails.wants)

pub returns-else-black_is_0 : goal.returns-else-black_is_0
returns-else-black_is_0 c =
    let rows = c.in-Rows.encoder in
    let row = c.args.row.now in
    let e = c.push_packed_row.ensures in
    rw (c.if-black_is_0.false, c.in-Rows.is, c.status_of_adding-else-black_is_0.ensures)
    (takes_next rows c.push_packed_row.new.self (bytes_of_row rows.columns ≤ length row)
    (length row < bytes_of_row rows.columns) (take rows.columns (bits_of row)) c.push_packed_row.result
    (λ short whole. absurd (omega (arith, short, whole)))
    (λ no. elim (cases_lt (length row) (bytes_of_row rows.columns)) [ inl short ↦ short | inr whole ↦ absurd (no whole) ])
    e.taken e.whole e.not_a_row e.fails.kept e.fails.others e.fails.wanted e.fails.wants)
