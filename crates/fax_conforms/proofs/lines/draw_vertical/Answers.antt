use Rattle.hayro_ccitt.proofs.Names.{◌≡◌, ◌∙◌, ap, sym, subst, arith, pixels, Vertical, pos, ◌+ℤ◌, w8, w32, SFits, to_z}
use Rattle.hayro_ccitt.proofs.Names.{of_z, drop, ◌≤◌}
use Rattle.hayro_ccitt.proofs.Names.{to_z-of_z, rules, opposite, b1, err_from_is_err_and}
use Rattle.hayro_ccitt.proofs.DrawingLines.DrawnLines.{place_of}
use Rattle.fax_conforms.specs.declared.lines.Pen.{Pen}
use Rattle.fax_conforms.specs.Standing.{Leads, LineFrom, ModeFrom, spot_of, from_of}
use Rattle.fax_conforms.proofs.PensDrawn.{vertical_drawn}
use Rattle.fax_conforms.proofs.WordsPaid.{unpaid}
use Rattle.fax_conforms.proofs.Passed.{departs_at}
use Rattle.fax_conforms.proofs.ModesDepart.{begins_here, near_departs, far_departs, outside_left, outside_right}
use Rattle.fax_conforms.specs.declared.stops.Rule.TheVariants.{NoPixels, RowEnd}
use Rattle.std.proofs.lemmas.Int.{ints, by_lt_z}
use Rattle.std.specs.Int.{FitsUnsigned}
use mir.Val.{Fits}
use Rattle.fax_conforms.proofs.lines.draw_vertical.Goals as goal
use Rattle.fax_conforms.proofs.lines.draw_vertical.Goals.{After-from_of, After-broken}

-- the position that the mode names
named : (c : After-from_of) → pos (b1 (pixels c.args.columns c.args.reference.now) (from_of c.args.pen) c.args.pen.color)
    +ℤ c.args.offset ≡ pos c.in-Some.place
named c =
    let narrow : SFits w8 c.args.offset = search rules in
    let wide : SFits w32 c.from.result = search rules in
    let offset : to_z w32 (of_z w32 c.from.result) ≡ c.args.offset = to_z-of_z wide ∙ c.from.ensures ∙ to_z-of_z narrow in
    let at = place_of (pos c.find_above-above.result.b1 +ℤ to_z w32 (of_z w32 c.from.result)) c.checked_add_signed.result
    c.in-Some.place c.checked_add_signed.ensures c.in-Some.is in
    rw (← offset, c.find_above-above.ensures.b1) at.0

pub returns-clause-leads : goal.returns-clause-leads
returns-clause-leads c = λ here. subst (λ (p : Pen). Leads c.args.columns
    (ModeFrom (pixels c.args.columns c.args.reference.now) (spot_of c.args.pen c.args.coding.now.items)
    (Vertical c.args.offset) here)
    (LineFrom (pixels c.args.columns c.args.reference.now) (spot_of p c.paint_to.new.coding.items) here))
    (sym (c.turned.ensures ∙ ap (λ (p : Pen). record p { color = opposite p.color }) c.with_passed.ensures))
    (vertical_drawn c.args.columns c.args.pen c.args.coding.now.items (omega (arith, c.ranges.columns.fits)) c.requires.drawn
    c.requires.open_end c.args.reference.now c.requires.above c.args.offset c.in-Some.place
    (named (goal.at.returns-clause-leads c).After-from_of)
    (omega (arith, c.if-from-from_of.false, c.from-2.ensures, c.from_of.ensures)) c.if-place-columns.false
    c.in_ok-next.next c.paint_to.new.coding.items c.in_ok-next.ensures.painted here)

pub returns-then-from-from_of-clause-at : goal.returns-then-from-from_of-clause-at
returns-then-from-from_of-clause-at c = rw c.broken-then-from-from_of.ensures.exact (λ bits within is.
    departs_at c.args.columns bits c.args.pen.word NoPixels within
    (begins_here c.args.columns c.args.pen c.args.coding.now.items (omega (arith, c.ranges.columns.fits)) c.requires.drawn
    c.requires.open_end c.args.reference.now c.requires.above) (λ row more rest row_len stands.
    near_departs c.args.columns c.args.pen c.args.coding.now.items (omega (arith, c.ranges.columns.fits)) c.requires.drawn
    c.requires.open_end c.args.reference.now c.requires.above c.args.pen.word (drop c.args.pen.word bits) row more rest row_len
    stands c.args.offset (rw (named (goal.at.returns-then-from-from_of-clause-at c).After-from_of) (omega
    (arith, ints, c.if-from-from_of.true, c.from-2.ensures, c.from_of.ensures))) is))

pub returns-then-place-columns-clause-at : goal.returns-then-place-columns-clause-at
returns-then-place-columns-clause-at c = rw c.broken-then-place-columns.ensures.exact (λ bits within is.
    departs_at c.args.columns bits c.args.pen.word RowEnd within
    (begins_here c.args.columns c.args.pen c.args.coding.now.items (omega (arith, c.ranges.columns.fits)) c.requires.drawn
    c.requires.open_end c.args.reference.now c.requires.above) (λ row more rest row_len stands.
    far_departs c.args.columns c.args.pen c.args.coding.now.items (omega (arith, c.ranges.columns.fits)) c.requires.drawn
    c.requires.open_end c.args.reference.now c.requires.above c.args.pen.word (drop c.args.pen.word bits) row more rest row_len
    stands c.args.offset (rw (named (goal.at.returns-then-place-columns-clause-at c).After-from_of) (omega
    (arith, ints, c.if-place-columns.true))) is))

-- ---- The position is no number of 32 bits.
outside : (c : After-broken) → FitsUnsigned w32 (pos (b1 (pixels c.args.columns c.args.reference.now) (from_of c.args.pen)
    c.args.pen.color) +ℤ c.args.offset) → ⊥
outside c =
    let narrow : SFits w8 c.args.offset = search rules in
    let wide : SFits w32 c.from.result = search rules in
    let offset : to_z w32 (of_z w32 c.from.result) ≡ c.args.offset = to_z-of_z wide ∙ c.from.ensures ∙ to_z-of_z narrow in
    rw (← offset, c.find_above-above.ensures.b1) c.in_default.ensures

-- b1 is a number of 32 bits
b1_small : (c : After-broken) → b1 (pixels c.args.columns c.args.reference.now) (from_of c.args.pen) c.args.pen.color ≤ 4294967295
b1_small c =
    let fits : Fits w32 c.find_above-above.result.b1 = search rules in
    omega (arith, fits.fits, c.find_above-above.ensures.b1)

pub returns-in_default-clause-at : goal.returns-in_default-clause-at
returns-in_default-clause-at c =
    let narrow : SFits w8 c.args.offset = search rules in
    let begins = begins_here c.args.columns c.args.pen c.args.coding.now.items (omega (arith, c.ranges.columns.fits))
    c.requires.drawn c.requires.open_end c.args.reference.now c.requires.above in
    by_lt_z c.args.offset (pos 0)
    (λ left. rw (c.broken.ensures.exact, c.rule_outside.ensures.left (rw (to_z-of_z narrow) left)) (λ bits within is.
    departs_at c.args.columns bits c.args.pen.word NoPixels within begins (λ row more rest row_len stands.
    near_departs c.args.columns c.args.pen c.args.coding.now.items (omega (arith, c.ranges.columns.fits)) c.requires.drawn
    c.requires.open_end c.args.reference.now c.requires.above c.args.pen.word (drop c.args.pen.word bits) row more rest row_len
    stands c.args.offset (outside_left _ _ c.args.offset (b1_small c) (outside c) left) is)))
    (λ right. rw (c.broken.ensures.exact, c.rule_outside.ensures.right (rw (to_z-of_z narrow) right)) (λ bits within is.
    departs_at c.args.columns bits c.args.pen.word RowEnd within begins (λ row more rest row_len stands.
    far_departs c.args.columns c.args.pen c.args.coding.now.items (omega (arith, c.ranges.columns.fits)) c.requires.drawn
    c.requires.open_end c.args.reference.now c.requires.above c.args.pen.word (drop c.args.pen.word bits) row more rest row_len
    stands c.args.offset (outside_right _ _ c.args.offset (omega (arith, c.ranges.columns.fits)) (outside c) right) is)))

pub returns-in_default-clause-pays : goal.returns-in_default-clause-pays
returns-in_default-clause-pays c =
    let passes = c.find_above-above.ensures.passes in
    unpaid c.broken.result _ _ _ _ _ c.broken.ensures.exact (omega (arith, passes.forward, passes.work))
    (omega (arith, passes.forward, passes.work, passes.passed.within))

pub returns-then-from-from_of-clause-pays : goal.returns-then-from-from_of-clause-pays
returns-then-from-from_of-clause-pays c =
    let passes = c.find_above-above.ensures.passes in
    unpaid c.broken-then-from-from_of.result _ _ _ _ _ c.broken-then-from-from_of.ensures.exact
    (omega (arith, passes.forward, passes.work)) (omega (arith, passes.forward, passes.work, passes.passed.within))

pub returns-then-place-columns-clause-pays : goal.returns-then-place-columns-clause-pays
returns-then-place-columns-clause-pays c =
    let passes = c.find_above-above.ensures.passes in
    unpaid c.broken-then-place-columns.result _ _ _ _ _ c.broken-then-place-columns.ensures.exact
    (omega (arith, passes.forward, passes.work)) (omega (arith, passes.forward, passes.work, passes.passed.within))

pub returns-in_err-next-clause-pays : goal.returns-in_err-next-clause-pays
returns-in_err-next-clause-pays c =
    let p = err_from_is_err_and c.from_residual.result c.from_residual.ensures.1 in
    let passes = c.find_above-above.ensures.passes in
    rw (p.1, p.2) (record {
      counts = omega (arith, passes.forward, passes.work);
      paid = tt;
      at_most = omega (arith, passes.forward, passes.work, passes.passed.within);
    })

pub returns-clause-pays : goal.returns-clause-pays
returns-clause-pays c =
    let passes = c.find_above-above.ensures.passes in
    record {
      counts = omega (arith, passes.forward, passes.work);
      paid = omega (
        arith,
        passes.forward,
        passes.work,
        passes.passed.within,
        c.paint_to.ensures.few,
        ap (λ (p : Pen). p.passed) c.with_passed.ensures,
        ap (λ (p : Pen). p.passed) c.turned.ensures,
      );
      at_most = omega (arith, passes.forward, passes.work, passes.passed.within);
    }
