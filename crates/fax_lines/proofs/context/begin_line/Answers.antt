use Rattle.fax_reading.proofs.PixelRows.ReferencePlaces.{row_length}
use Rattle.fax_lines.proofs.context.begin_line.Goals as goal

pub returns-clause-width : goal.returns-clause-width
returns-clause-width c =
    rw (← c.ctx.view_is) (row_length c.ctx.inside.settings.columns c.ctx.inside.ref_changes.items c.ctx.invariant.reference)
