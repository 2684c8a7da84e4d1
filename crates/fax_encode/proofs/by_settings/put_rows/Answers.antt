use Rattle.fax_encode.proofs.Names.{◌≡◌, ◌+◌, ◌∷◌, ◌++◌, List, ℕ, drop, map, length, sym, ap, subst, ◌∙◌, Bits, Row, AreChanges}
use Rattle.fax_encode.proofs.Names.{pixels, rows_of, chosen_part, left_after, all_bits}
use Rattle.fax_encode.proofs.LinesOfPictures.{line_written}
use Rattle.fax_encode.proofs.RowLists.{item_lawful, item_next}
use Rattle.fax_encode.proofs.Names.{lines_left}
use Rattle.fax_encode.proofs.by_settings.put_rows.Goals as goal

pub put_part-requires-clause-changes : goal.put_part-requires-clause-changes
put_part-requires-clause-changes c = subst (AreChanges c.args.columns) (sym c.as_slice.ensures.value) (item_lawful c.args.columns
    (λ row. row.items) c.args.rows.now c.loop-row.row-index c.row-item.result c.loop-row-test.true c.row-item.is c.requires.rows)

pub loop-row-preserved : goal.loop-row-preserved
loop-row-preserved c =
    let columns : ℕ = c.args.columns in
    let lists : List (List ℕ) = map (λ row. row.items) c.args.rows.now in
    let i : ℕ = c.loop-row.row-index in
    let items : List ℕ = c.row-item.result.items in
    let row : Row = pixels columns items in
    let reference : Row = pixels columns c.loop-row.reference.now in
    let rows : List Row = rows_of columns (drop (i + 1) lists) in
    let old : Bits = all_bits c.loop-row.writer in
    let new : Bits = all_bits c.put_part.new.writer in
    let lawful = item_lawful columns
    (λ row. row.items) c.args.rows.now i c.row-item.result c.loop-row-test.true c.row-item.is c.requires.rows in
    let next : rows_of columns (drop i lists) ≡ row ∷ rows =
    ap (rows_of columns) (item_next (λ row. row.items) c.args.rows.now i c.row-item.result c.loop-row-test.true c.row-item.is) in
    let left : c.in_ok-left.left
    ≡ left_after c.args.settings.effort c.args.settings.encoding c.args.settings.k c.loop-row.left reference row =
    c.in_ok-left.ensures.left
    ∙ ap (λ (l : List ℕ). left_after c.args.settings.effort c.args.settings.encoding c.args.settings.k c.loop-row.left
    reference (pixels columns l)) c.as_slice.ensures.value in
    record {
      lawful = subst (AreChanges columns) (sym c.as_slice-reference.ensures.value) lawful;
      whole = c.in_ok-left.ensures.whole;
      written = ap (λ (l : List ℕ). new ++ lines_left c.args.settings (length new) c.in_ok-left.left (pixels columns l) rows)
          c.as_slice-reference.ensures.value ∙ ap (λ (n : ℕ). new ++ lines_left c.args.settings (length new) n row rows) left
          ∙ line_written c.args.settings c.loop-row.left reference row rows old new (c.in_ok-left.ensures.written
          ∙ ap (λ (l : List ℕ). old ++ chosen_part c.args.settings (length old) c.loop-row.left reference (pixels columns l))
          c.as_slice.ensures.value) ∙ ap (λ (l : List Row).
          old ++ lines_left c.args.settings (length old) c.loop-row.left reference l) (sym next) ∙ c.loop-row.invariant.written;
    }
