use Rattle.fax_encode.proofs.Names.{ℕ, ◌∙◌, arith}
use Rattle.fax_pictures.specs.Turned.{rows_turned, turned, turned_row}
use Rattle.fax_pictures.proofs.DrawnRows.{picture_is, rows_drawn}
use Rattle.fax_pictures.proofs.bitmap.Bitmap.show_rows.Goals as goal

pub returns : goal.returns
returns c =
    let o : ℕ = c.args.orientation in
    picture_is c.loop-y.made (turned o c.args.self.now) (c.loop-y.invariant.columns ∙ c.columns_turned-columns.ensures)
    (rows_drawn (turned_row o c.args.self.now) (rows_turned o c.args.self.now) c.loop-y.made.rows
    (c.loop-y.invariant.count ∙ c.rows_turned-rows.ensures)
    (λ k h. c.loop-y.invariant.drawn k (omega (arith, h, c.loop-y-test.false, c.rows_turned-rows.ensures))))
