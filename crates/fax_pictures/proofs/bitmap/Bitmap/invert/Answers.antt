use Rattle.fax_encode.proofs.Names.{not, map, arith}
use Rattle.fax_pictures.specs.Pictures.{inverted}
use Rattle.fax_pictures.proofs.DrawnRows.{picture_is, rows_mapped}
use Rattle.fax_pictures.proofs.bitmap.Bitmap.invert.Goals as goal

pub returns-clause-inverted : goal.returns-clause-inverted
returns-clause-inverted c =
    picture_is c.loop-index.self (inverted c.args.self.now) c.loop-index.invariant.columns
    (rows_mapped (map not) c.args.self.now.rows c.loop-index.self.rows c.loop-index.invariant.count
    (λ k h. c.loop-index.invariant.above k
    (omega (arith, h, c.loop-index-test.false, c.rows.ensures, c.loop-index.invariant.count))))
