use Rattle.fax_encode.proofs.Names.{ℕ, ◌*◌, length, sym, ap, ◌∙◌, bytes_of_row}
use Rattle.fax_pictures.proofs.PackedPictures.{rows_counted}
use Rattle.fax_pictures.proofs.bitmap.Bitmap.bytes.Goals as goal

pub returns-clause-length : goal.returns-clause-length
returns-clause-length c =
    let inside = c.self.inside in
    rw (← c.self.view_is) (ap length c.as_slice.ensures.value ∙ c.self.invariant.size
    ∙ ap (λ (n : ℕ). n * bytes_of_row inside.columns)
    (sym (rows_counted inside.columns inside.rows inside.bytes.items c.self.invariant)))
