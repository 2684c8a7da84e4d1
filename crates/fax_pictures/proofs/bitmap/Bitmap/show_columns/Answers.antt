use Rattle.std.proofs.Common.{arith, ◌*◌, ◌<◌}
use Rattle.fax_pictures.proofs.ShownColumns.{columns_across, shows_all}
use Rattle.fax_pictures.proofs.bitmap.Bitmap.show_columns.Goals as goal

pub returns : goal.returns
returns c =
    shows_all c.args.orientation c.args.self.now c.args.made.now c.loop-block.made (λ x y. x < 512 * c.loop-block.block)
    c.loop-block.invariant
    (λ x y lx ly. omega (
      arith,
      lx,
      columns_across c.args.orientation c.args.self.now c.requires.across,
      c.loop-block-test.false,
      c.div_ceil-block-end.ensures,
      c.rows.ensures,
    ))
