use Rattle.fax_lines.proofs.Names.{arith}
use Rattle.fax_lines.proofs.Names.{common_steps}
use Rattle.fax_lines.proofs.Names.{◌+◌, ◌-◌}
use Rattle.fax_reading.proofs.PixelRows.EndedPlaces.{ended_at}
use Rattle.fax_reading.proofs.PixelRows.ReferencePlaces.{end_within}
use Rattle.fax_lines.proofs.vertical_groups.modes_here.Goals as goal

pub regular_places-regular-requires-clause-below : goal.regular_places-regular-requires-clause-below
regular_places-regular-requires-clause-below c k = grind (arith, common_steps, ended_at, end_within)

pub returns-clause-lead : goal.returns-clause-lead
returns-clause-lead c =
    let line = c.args.line.now in
    let at = ended_at line.columns line.places.now c.requires.ended in
    let here = c.regular_places-regular.ensures in
    record {
      four = here.four.0;
      mask = here.four.1;
      named = λ k lt within. rw (at (c.args.stroke.index + k), c.offsets.ensures.each k 3 lt) at (here.place k lt within);
      regular = λ k lt set.
          let is = here.regular k lt set in
          record {
            right = is.right;
            left = rw (at (c.args.stroke.index + k + 1)) at is.left;
            after = λ some. rw (at (c.args.stroke.index + k - 1)) at (is.after some);
          };
    }
