use Rattle.fax_lines.proofs.Names.{refl}
use Rattle.fax_reading.proofs.{PixelRows.ChangesAndPixels.changes-pixels, PixelRows.ReferencePlaces.row_length}
use Rattle.fax_lines.proofs.context.reading_parts.Goals as goal

pub returns : goal.returns
returns c =
    let inside = c.ctx.inside in
    let listed = changes-pixels inside.settings.columns inside.ref_changes.items c.ctx.invariant.reference in (
      (refl, λ w. rw (← c.ctx.view_is) refl),
      record {
        writes_back = tt;
        changes = rw (← c.ctx.view_is, listed) c.as_slice.ensures.value;
        lawful = rw (← c.ctx.view_is, c.as_slice.ensures.value) c.ctx.invariant.reference;
        width = rw (← c.ctx.view_is) (row_length inside.settings.columns inside.ref_changes.items c.ctx.invariant.reference);
        ticks = rw (← c.ctx.view_is) refl;
      },
    )
