use Rattle.fax_bitmap.proofs.Names.{rules, ◌≡◌, length}
use Rattle.fax_bitmap.proofs.PaintedRows.{white}
use Rattle.fax_bitmap.proofs.painting.paint_over.Goals as goal

pub returns-then-is_empty : goal.returns-then-is_empty
returns-then-is_empty c =
    let none : length c.args.changes.now ≡ 0 = search rules in
    record {
      painted = white c.args.columns c.args.changes.now c.args.row.now c.fill_apart.new.bytes none c.requires.fits.room
          c.fill_apart.ensures;
    }
