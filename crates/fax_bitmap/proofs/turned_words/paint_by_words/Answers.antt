use Rattle.fax_bitmap.proofs.Names.{◌-◌, arith}
use Rattle.fax_bitmap.proofs.PaintedRows.{filled}
use Rattle.fax_bitmap.proofs.turned_words.paint_by_words.Goals as goal

pub returns : goal.returns
returns c = record {
  painted = filled c.args.columns (4096 - c.args.columns) c.args.changes.now c.args.row.now c.put_words.new.row _
      c.requires.fits.changes c.requires.fits.room (omega (arith, c.requires.fits.room, c.requires.few)) c.put_words.ensures
      c.turn_at_changes.ensures.painted;
}
