use Rattle.std.proofs.Common.{◌≡◌, ◌-◌, ℕ, List, length, take, drop, sym, ap, ◌∙◌, arith}
use Rattle.std.proofs.lemmas.List.{drop_min, length-drop, take_rest}
use Rattle.hayro_ccitt.specs.Bits.{bits_of}
use Rattle.hayro_ccitt.specs.Rows.{Row}
use Rattle.fax_encode.specs.RowByRow.{RowsEncoded, with_row, with_rows}
use Rattle.c_rows.specs.Packing.{bytes_of_row, row_read, rows_read}
use Rattle.c_rows.proofs.SpreadRows.{rows_read-row}
use Rattle.c_rows.proofs.encoding.push_rows.Goals as goal

pub loop-rest-preserved : goal.loop-rest-preserved
loop-rest-preserved c =
    let columns : ℕ = c.args.columns in
    let black : _ = c.args.layout.black_is_0 in
    let stride : ℕ = c.args.layout.stride in
    let rest : List ℕ = c.loop-rest.rest.now in
    let old : RowsEncoded = c.loop-rest.encoder in
    let new : RowsEncoded = c.push_row.new.encoder in
    let width : c.div_ceil-width.result ≡ bytes_of_row columns = omega (arith, c.div_ceil-width.ensures) in
    let here : List ℕ = take c.div_ceil-width.result rest in
    let after : take (length rest - c.min.result) (drop c.min.result rest) ≡ drop stride rest =
    take_rest rest c.min.result ∙ ap (λ (n : ℕ). drop n rest) c.min.ensures ∙ drop_min stride rest in
    let below : List Row = rows_read c.args.layout columns (drop stride rest) in
    let first : with_row old (row_read black old.columns (bits_of here)) ≡ with_row old (row_read black columns
    (bits_of (take (bytes_of_row columns) rest))) = ap (λ (n : ℕ). with_row old (row_read black n (bits_of here)))
    c.loop-rest.invariant.columns ∙ ap (λ (n : ℕ). with_row old (row_read black columns (bits_of (take n rest)))) width in
    let split = rows_read-row c.args.layout columns rest c.requires.some c.requires.reaches
    (omega (arith, width, c.loop-rest-test.true)) in
    record {
      columns = c.push_row.ensures.columns ∙ c.loop-rest.invariant.columns;
      shorter = omega (arith, ap length after, length-drop stride rest, c.loop-rest.invariant.shorter);
      pushed = ap (λ (l : List ℕ). with_rows new (rows_read c.args.layout columns l)) after
          ∙ ap (λ (r : RowsEncoded). with_rows r below) (c.in_ok-push_row.ensures.pushed ∙ first)
          ∙ ap (λ (l : List Row). with_rows old l) (sym split) ∙ c.loop-rest.invariant.pushed;
    }
