use Rattle.fax_bitmap.proofs.Names.{◌≡◌, ◌<◌, ◌++◌, List, ℕ, length, take, map, refl, rules, sym, ap, subst, ◌∙◌, arith}
use Rattle.fax_bitmap.proofs.Names.{append-nil, bits_of, Row, AreChanges, pixels, rows_of, bytes_of_row, shown}
use Rattle.fax_bitmap.proofs.ScannedRows.{rows_below, shown-none, one_more, lawful_more}
use Rattle.fax_bitmap.proofs.bitmap_rows.rows_of_bitmap.Goals as goal

pub loop-rest-preserved : goal.loop-rest-preserved
loop-rest-preserved c =
    let columns : ℕ = c.args.columns in
    let width : c.div_ceil-width.result ≡ bytes_of_row columns = omega (arith, c.div_ceil-width.ensures) in
    let copied : c.in_ok-to_vec.field-0.items ≡ c.as_slice.result.now = search rules in
    let same : c.in_ok-to_vec.field-0.items ≡ c.scan_row.new.list.items = copied ∙ c.as_slice.ensures.value in
    let some : 0 < columns = omega (arith, width, c.if-width-eq0.false) in
    record {
      lawful = lawful_more (λ row. row.items) columns c.loop-rest.rows.items _ c.in_ok-to_vec.field-0 c.in_ok-push.ensures.items
          (subst (AreChanges columns) (sym same) c.in_ok-scan_row.ensures.lawful) c.loop-rest.invariant.lawful;
      left = one_more (λ row. row.items) columns c.loop-rest.rows.items _ c.in_ok-to_vec.field-0
          (take columns (bits_of c.loop-rest.rest.now)) (shown columns c.loop-rest.rest.now) _ (shown columns c.args.bitmap.now)
          c.in_ok-push.ensures.items (ap (pixels columns) same ∙ c.in_ok-scan_row.ensures.pixels) (rows_below columns
          c.div_ceil-width.result c.loop-rest.rest.now _ some width c.loop-rest-test.true refl) c.loop-rest.invariant.left;
    }

pub returns-clause-pixels : goal.returns-clause-pixels
returns-clause-pixels c =
    let columns : ℕ = c.args.columns in
    let few : length c.loop-rest.rest.now < bytes_of_row columns =
    omega (arith, c.div_ceil-width.ensures, c.loop-rest-test.false) in
    sym (append-nil (rows_of columns (map (λ row. row.items) c.loop-rest.rows.items)))
    ∙ ap (λ (l : List Row). rows_of columns (map (λ row. row.items) c.loop-rest.rows.items) ++ l)
    (sym (shown-none columns c.loop-rest.rest.now few)) ∙ c.loop-rest.invariant.left
