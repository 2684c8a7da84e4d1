use Rattle.fax_encode.proofs.Names.{sym}
use Rattle.fax_pictures.proofs.PackedPictures.{rows_counted}
use Rattle.fax_pictures.proofs.bitmap.Bitmap.rows.Goals as goal

pub returns : goal.returns
returns c =
    let inside = c.self.inside in
    rw (← c.self.view_is) (sym (rows_counted inside.columns inside.rows inside.bytes.items c.self.invariant))
