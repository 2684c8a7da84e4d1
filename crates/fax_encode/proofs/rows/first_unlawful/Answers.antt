use Rattle.fax_encode.proofs.Names.{below_more, [], arith, refl, sym, subst, get_or_default, length-map, AreChanges}
use Rattle.fax_encode.proofs.RowLists.{item_at}
use Rattle.fax_encode.proofs.rows.first_unlawful.Goals as goal

pub loop-index-preserved : goal.loop-index-preserved
loop-index-preserved c =
    let here = subst (AreChanges c.args.columns) c.as_slice.ensures.value (c.if-not-is_row.ensures.0 refl) in
    let is = item_at (λ row. row.items) c.args.rows.now c.loop-index.index c.index-rows-index.result c.loop-index-test.true
    c.index-rows-index.is in
    below_more _ _ c.loop-index.invariant (subst (AreChanges c.args.columns) (sym is) here)

pub returns : goal.returns
returns c = λ k d lt. rw (get_or_default _ k d [] lt)
    (c.loop-index.invariant k (omega (arith, length-map c.args.rows.now (λ row. row.items))))
