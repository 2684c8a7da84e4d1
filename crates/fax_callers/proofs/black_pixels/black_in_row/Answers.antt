use Rattle.std.proofs.Common.{◌≡◌, ◌+◌, ◌-◌, ◌*◌, sym, ◌∙◌, arith}
use Rattle.fax_callers.specs.Counting.{number_of_pixel}
use Rattle.fax_callers.proofs.RunsCounted.{none_counted, right, inside, one_more, last_run, black_run, white_run}
use Rattle.fax_callers.proofs.black_pixels.black_in_row.Goals as goal
use Rattle.fax_callers.proofs.black_pixels.black_in_row.Goals.{then-is_black, else-is_black, then-is_black-2, else-is_black-2}

pub loop-change-init : goal.loop-change-init
loop-change-init c = none_counted c.args.columns c.args.changes.now c.requires

pub overflow_sub-black : goal.overflow_sub-black
overflow_sub-black c = right _ _ _ _ _ _ c.loop-change.invariant c.loop-change-test.true

pub overflow_add-black : goal.overflow_add-black
overflow_add-black c =
    omega (
      arith,
      c.loop-change.invariant.few,
      c.ranges.columns.fits,
      right _ _ _ _ _ _ c.loop-change.invariant c.loop-change-test.true,
      inside _ _ _ _ _ _ c.loop-change.invariant c.loop-change-test.true,
    )

pub loop-change-preserved : goal.loop-change-preserved
loop-change-preserved c =
    one_more _ _ _ _ _ _ c.loop-change.invariant c.loop-change-test.true c.if-is_black.black (elim c.if-is_black.branch [
      | then-is_black w ↦ black_run c.loop-change.black _ c.if-is_black.black c.loop-change.is_black w.if-is_black.true w.black-is
      | else-is_black w ↦
          white_run c.loop-change.black _ c.if-is_black.black c.loop-change.is_black w.if-is_black.false w.black-is
    ])

pub overflow_sub-black-then-is_black-2 : goal.overflow_sub-black-then-is_black-2
overflow_sub-black-then-is_black-2 c = c.loop-change.invariant.within

pub overflow_add-black-then-is_black-2 : goal.overflow_add-black-then-is_black-2
overflow_add-black-then-is_black-2 c =
    omega (arith, c.loop-change.invariant.few, c.loop-change.invariant.within, c.ranges.columns.fits)

pub returns : goal.returns
returns c =
    let counted : c.if-is_black-2.black ≡ c.loop-change.black + (c.args.columns - c.loop-change.start)
    * number_of_pixel c.loop-change.is_black = elim c.if-is_black-2.branch [
      | then-is_black-2 w ↦
          black_run c.loop-change.black _ c.if-is_black-2.black c.loop-change.is_black w.if-is_black-2.true w.black-is
      | else-is_black-2 w ↦
          white_run c.loop-change.black _ c.if-is_black-2.black c.loop-change.is_black w.if-is_black-2.false w.black-is
    ] in
    c.from.ensures ∙ counted ∙ sym (last_run _ _ _ _ _ _ c.loop-change.invariant (omega (arith, c.loop-change-test.false)))
