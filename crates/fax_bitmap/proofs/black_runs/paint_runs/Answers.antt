use Rattle.fax_bitmap.proofs.Names.{◌∙◌, arith, refl}
use Rattle.fax_bitmap.proofs.BlackRuns.{all_painted_is_filled, last_painted, no_run_left, none_painted, run_painted}
use Rattle.fax_bitmap.proofs.black_runs.paint_runs.Goals as goal

pub runs-init : goal.runs-init
runs-init c =
    record {
      painted = none_painted c.args.columns c.args.changes.now c.args.row.now c.requires.fits.changes c.requires.white;
      within = omega arith;
      room = refl;
    }

pub runs-preserved : goal.runs-preserved
runs-preserved c =
    let is = c.runs.invariant in
    let more = c.runs-test.true in
    record {
      painted = run_painted c.args.columns c.args.changes.now c.runs.done c.runs.row c.paint_black.new.row (omega (arith, more))
          (omega (arith, is.room, c.requires.fits.room)) is.painted more c.paint_black.ensures.length
          c.paint_black.ensures.painted;
      within = omega (arith, more);
      room = c.paint_black.ensures.length ∙ is.room;
    }

pub returns-then-done-changes : goal.returns-then-done-changes
returns-then-done-changes c =
    let is = c.runs.invariant in
    record {
      painted = all_painted_is_filled c.args.columns c.args.changes.now c.runs.row c.paint_black-then-done-changes.new.row
          c.requires.fits.changes (is.room ∙ c.requires.fits.room)
          (last_painted c.args.columns c.args.changes.now c.runs.done c.runs.row c.paint_black-then-done-changes.new.row
          c.if-done-changes.true (omega (arith, is.room, c.requires.fits.room)) is.painted (omega (arith, c.runs-test.false))
          c.paint_black-then-done-changes.ensures.painted);
    }

pub returns-else-done-changes : goal.returns-else-done-changes
returns-else-done-changes c =
    let is = c.runs.invariant in
    record {
      painted = all_painted_is_filled c.args.columns c.args.changes.now c.runs.row c.runs.row c.requires.fits.changes
          (is.room ∙ c.requires.fits.room)
          (no_run_left c.args.columns c.args.changes.now c.runs.done c.runs.row (omega (arith, c.if-done-changes.false))
          (omega (arith, is.room, c.requires.fits.room)) is.painted);
    }
