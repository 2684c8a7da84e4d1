use Rattle.std.proofs.Common.{◌≡◌, ◌≤◌, ◌∙◌, ℕ, Bool, List, ◌++◌, length, take, drop, ap, sym, arith}
use Rattle.std.proofs.Math.Seq.{take-append_seam, drop-append_seam}
use Rattle.std.proofs.lemmas.List.{length-append, length-drop, length-take}
use Rattle.hayro_ccitt.specs.Bits.{bits_of}
use Rattle.hayro_ccitt.specs.Rows.{Row, changes, pixels}
use Rattle.hayro_ccitt.proofs.PixelRows.ChangesAndPixels.{pixels-changes}
use Rattle.c_rows.specs.Packing.{bytes_of_row, packed_row}
use Rattle.c_rows.specs.RowsGiven.{IsPacked}
use Rattle.c_rows.proofs.row_room.pack_over.Goals as goal

-- a row is packed over the first bytes
is_packed : (black_is_0 : Bool) (columns count : ℕ) (row : Row) (painted before : List ℕ) → bytes_of_row columns ≡ count
    → count ≤ length before → length painted ≡ count → length row ≡ columns
    → bits_of painted ≡ packed_row black_is_0 (pixels columns (changes row))
    → IsPacked black_is_0 columns row before (painted ++ drop count before)
is_packed black_is_0 columns count row painted before is room long width shows = record {
  room = omega (arith, is, room, long, length-append painted (drop count before), length-drop count before);
  row_is = ap (λ (n : ℕ). bits_of (take n (painted ++ drop count before))) (is ∙ sym long) ∙ ap bits_of
      (take-append_seam painted (drop count before))
      ∙ shows ∙ ap (packed_row black_is_0) (ap (λ (n : ℕ). pixels n (changes row)) (sym width) ∙ pixels-changes row);
  rest = ap (λ (n : ℕ). drop n (painted ++ drop count before)) (is ∙ sym long) ∙ drop-append_seam painted (drop count before)
      ∙ ap (λ (n : ℕ). drop n before) (sym is);
}

pub returns-clause-packed : goal.returns-clause-packed
returns-clause-packed c = λ has_room whole width places.
    let bytes = c.args.bytes.now in
    let columns = c.args.columns in
    let count = c.div_ceil-count.result in
    is_packed c.args.black_is_0 columns count whole c.pack_row.new.row bytes
    (omega (arith, c.div_ceil-count.ensures)) c.if-bytes-count.false
    (omega (arith, c.pack_row.auto.row, length-take count bytes, c.if-bytes-count.false))
    width (c.pack_row.ensures.packed ∙ ap (λ (row : List ℕ). packed_row c.args.black_is_0 (pixels columns row)) places)
