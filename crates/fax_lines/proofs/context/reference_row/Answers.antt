use Rattle.fax_reading.proofs.{PixelRows.ChangesAndPixels.changes-pixels, PixelRows.ReferencePlaces.row_length}
use Rattle.fax_lines.proofs.context.reference_row.Goals as goal

pub returns-clause-changes : goal.returns-clause-changes
returns-clause-changes c =
    let inside = c.ctx.inside in
    let listed = changes-pixels inside.settings.columns inside.ref_changes.items c.ctx.invariant.reference in
    rw (← c.ctx.view_is, listed) c.as_slice.ensures.value

pub returns-clause-width : goal.returns-clause-width
returns-clause-width c =
    rw (← c.ctx.view_is) (row_length c.ctx.inside.settings.columns c.ctx.inside.ref_changes.items c.ctx.invariant.reference)
