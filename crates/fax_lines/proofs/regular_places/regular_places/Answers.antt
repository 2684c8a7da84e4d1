use Rattle.fax_lines.proofs.Names.{common_steps}
use Rattle.fax_lines.proofs.Names.{arith, ◌+◌, ◌-◌}
use Rattle.fax_lines.proofs.DrawingLines.RegularLanes.{changes_fit, length-reached, mask_from_fits, reached_inside, regular_at}
use Rattle.fax_lines.proofs.regular_places.regular_places.Goals as goal

pub overflow_cast-reached : goal.overflow_cast-reached
overflow_cast-reached c =
    let a = c.args in
    changes_fit a._columns a.places.now c.requires.below c.requires.fit.1 a.index (omega (arith, c.requires.within.1))

pub overflow_cast-next : goal.overflow_cast-next
overflow_cast-next c =
    let a = c.args in
    changes_fit a._columns a.places.now c.requires.below c.requires.fit.1 (a.index + 1) (omega (arith, c.requires.within.1))

pub overflow_cast-before : goal.overflow_cast-before
overflow_cast-before c =
    let a = c.args in
    changes_fit a._columns a.places.now c.requires.below c.requires.fit.1 (a.index - 1) (omega (arith, c.requires.within.1))

pub returns-clause-four : goal.returns-clause-four
returns-clause-four c =
    let a = c.args in (
      length-reached a.painted a.index a.places.now a.offsets.now c.requires.within c.requires.offsets,
      mask_from_fits a.painted a.index a.places.now a.offsets.now c.requires.within c.requires.offsets,
    )

pub returns-clause-place : goal.returns-clause-place
returns-clause-place c k lt inside = grind (arith, common_steps, reached_inside)

pub returns-clause-regular : goal.returns-clause-regular
returns-clause-regular c =
    let a = c.args in
    regular_at a.painted a.index a.places.now a.offsets.now c.requires.within c.requires.offsets a._columns c.requires.below
    c.requires.fit
