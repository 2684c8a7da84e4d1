use Rattle.fax_conforms.proofs.WordsPaid.{paid_after, unpaid}
use Rattle.hayro_ccitt.proofs.Names.{◌∙◌, ap, sym, arith, Ok, w8, to_z, of_z, to_z-of_z, SFits, rules, Mode, Pass}
use Rattle.hayro_ccitt.proofs.Names.{Horizontal, Vertical, here, pixels, ℕ, ◌*◌, length, subst, drop, Mode, IfErr-weaker}
use Rattle.fax_conforms.specs.Standing.{LineFrom, spot_of}
use Rattle.fax_conforms.specs.Stops.{ModeIsHere, EndsAt}
use Rattle.fax_conforms.specs.declared.stops.Rule.TheVariants as rule
use Rattle.fax_conforms.proofs.ModesDepart.{begins_here, mode_passes, no_mode_departs}
use Rattle.fax_conforms.proofs.Passed.{passes_on, passes_all, ends_here, ends_after, ends_in}
use Rattle.hayro_ccitt.proofs.PixelRows.ChangesAndPixels.{length-pixels}
use Rattle.fax_conforms.proofs.Stopped.{if_ok, if_two}
use Rattle.fax_conforms.proofs.lines.draw_mode.Goals as goal

-- ---- What is passed.
pub returns-in-Pass-clause-leads : goal.returns-in-Pass-clause-leads
returns-in-Pass-clause-leads c = if_ok c.draw_pass.result _ _ c.draw_pass.ensures.leads (λ next leads.
    passes_on c.args.columns (here c.args.reader.now) (here c.mode.new.reader) (here c.mode.new.reader)
    (mode_passes c.args.columns c.args.pen c.args.coding.now.items (omega (arith, c.ranges.columns.fits)) c.requires.drawn
    c.requires.open_end c.args.reference.now c.requires.above Pass _ _ (c.in-Some.ensures.found ∙ ap (λ (m : Mode). Ok (
      m,
      here
          c.mode.new.reader,
    )) c.in-Pass.is)) (passes_all c.args.columns (here c.mode.new.reader) leads))

pub returns-in-Vertical-clause-leads : goal.returns-in-Vertical-clause-leads
returns-in-Vertical-clause-leads c = if_ok c.draw_vertical.result _ _ c.draw_vertical.ensures.leads (λ next leads.
    passes_on c.args.columns (here c.args.reader.now) (here c.mode.new.reader) (here c.mode.new.reader)
    (mode_passes c.args.columns c.args.pen c.args.coding.now.items (omega (arith, c.ranges.columns.fits)) c.requires.drawn
    c.requires.open_end c.args.reference.now c.requires.above (Vertical (to_z w8 (of_z w8 c.in-Vertical.offset))) _ _
    (c.in-Some.ensures.found ∙ ap (λ (m : Mode). Ok (m, here c.mode.new.reader))
    (c.in-Vertical.is ∙ ap Vertical (sym (to_z-of_z (let narrow : SFits w8 c.in-Vertical.offset = search rules in narrow))))))
    (passes_all c.args.columns (here c.mode.new.reader) leads))

pub returns-in-Horizontal-clause-leads : goal.returns-in-Horizontal-clause-leads
returns-in-Horizontal-clause-leads c = if_ok c.draw_horizontal.result _ _ c.draw_horizontal.ensures.leads (λ next leads.
    passes_on c.args.columns (here c.args.reader.now) (here c.mode.new.reader) (here c.draw_horizontal.new.reader)
    (mode_passes c.args.columns c.args.pen c.args.coding.now.items (omega (arith, c.ranges.columns.fits)) c.requires.drawn
    c.requires.open_end c.args.reference.now c.requires.above Horizontal _ _ (c.in-Some.ensures.found ∙ ap (λ (m : Mode). Ok (
      m,
      here c.mode.new.reader,
    )) c.in-Horizontal.is))
    (leads (pixels c.args.columns c.args.reference.now) (length-pixels c.args.columns c.args.reference.now
    c.requires.above.lawful)))

-- ---- What departs.
pub returns-in_default-clause-at : goal.returns-in_default-clause-at
returns-in_default-clause-at c = ends_here c.broken.result c.args.columns c.args.reader.now c.bit_pos.result rule.Mode
    c.broken.ensures.exact c.bit_pos.ensures.place c.bit_pos.ensures.within (begins_here c.args.columns c.args.pen
    c.args.coding.now.items (omega (arith, c.ranges.columns.fits)) c.requires.drawn
    c.requires.open_end c.args.reference.now c.requires.above)
    (λ row more rest row_len stands. no_mode_departs c.args.columns c.args.pen c.args.coding.now.items (omega (
      arith,
      c.ranges.columns.fits,
    )) c.requires.drawn
    c.requires.open_end c.args.reference.now c.requires.above c.bit_pos.result (here c.args.reader.now) row more rest row_len
    stands
    c.in_default.ensures.none)

pub returns-in-Pass-clause-at : goal.returns-in-Pass-clause-at
returns-in-Pass-clause-at c = IfErr-weaker c.draw_pass.result _ _ (λ e ends.
    subst (λ (n : ℕ). EndsAt c.args.columns
    (LineFrom (pixels c.args.columns c.args.reference.now) (spot_of c.args.pen c.args.coding.now.items)) c.args.reader.now.bits
    (drop n c.args.reader.now.bits) e) c.bit_pos.ensures.place (ends c.args.reader.now.bits c.bit_pos.ensures.within
    (subst (λ (n : ℕ). ModeIsHere Pass (drop n c.args.reader.now.bits)) (sym c.bit_pos.ensures.place)
    (here c.mode.new.reader, (c.in-Some.ensures.found ∙ ap (λ (m : Mode). Ok (m, here c.mode.new.reader)) c.in-Pass.is)))))
    c.draw_pass.ensures.at

pub returns-in-Vertical-clause-at : goal.returns-in-Vertical-clause-at
returns-in-Vertical-clause-at c = IfErr-weaker c.draw_vertical.result _ _ (λ e ends.
    subst (λ (n : ℕ). EndsAt c.args.columns
    (LineFrom (pixels c.args.columns c.args.reference.now) (spot_of c.args.pen c.args.coding.now.items)) c.args.reader.now.bits
    (drop n c.args.reader.now.bits) e) c.bit_pos.ensures.place (ends c.args.reader.now.bits c.bit_pos.ensures.within
    (subst (λ (n : ℕ). ModeIsHere (Vertical (to_z w8 (of_z w8 c.in-Vertical.offset))) (drop n c.args.reader.now.bits)) (sym
    c.bit_pos.ensures.place) (
      here c.mode.new.reader,
      (c.in-Some.ensures.found ∙ ap (λ (m : Mode). Ok (m, here c.mode.new.reader))
          (c.in-Vertical.is ∙ ap Vertical (sym (to_z-of_z (let narrow : SFits w8 c.in-Vertical.offset = search rules in
          narrow))))),
    )))) c.draw_vertical.ensures.at

pub returns-in-Horizontal-clause-at : goal.returns-in-Horizontal-clause-at
returns-in-Horizontal-clause-at c = ends_after c.args.columns c.args.reader.now.bits (here c.args.reader.now)
    (here c.mode.new.reader) (mode_passes c.args.columns c.args.pen c.args.coding.now.items (omega (arith, c.ranges.columns.fits))
    c.requires.drawn
    c.requires.open_end c.args.reference.now c.requires.above Horizontal _ _ (c.in-Some.ensures.found ∙ ap (λ (m : Mode). Ok (
      m,
      here c.mode.new.reader,
    )) c.in-Horizontal.is)) c.draw_horizontal.result
    (ends_in _ c.draw_horizontal.result c.args.columns c.args.reader.now.bits c.mode.new.reader.bits (here c.mode.new.reader)
    c.mode.ensures.same_bits (IfErr-weaker c.draw_horizontal.result _ _ (λ e ends.
    ends (pixels c.args.columns c.args.reference.now) (length-pixels c.args.columns c.args.reference.now c.requires.above.lawful))
    c.draw_horizontal.ensures.at))

-- ---- What is counted.
pub returns-in_default-clause-pays : goal.returns-in_default-clause-pays
returns-in_default-clause-pays c = unpaid c.broken.result _ _ _ _ _ c.broken.ensures.exact (omega (arith, c.mode.ensures.ticks))
    (omega (arith, c.mode.ensures.ticks))

pub returns-in-Pass-clause-pays : goal.returns-in-Pass-clause-pays
returns-in-Pass-clause-pays c = paid_after c.draw_pass.result _ _ _ _ _ (4 * length (here c.mode.new.reader)) _ _
    c.draw_pass.ensures.pays (omega (arith, c.mode.ensures.ticks))
    (omega (arith, c.mode.ensures.ticks, c.in-Some.ensures.shorter)) (λ next. omega arith)

pub returns-in-Vertical-clause-pays : goal.returns-in-Vertical-clause-pays
returns-in-Vertical-clause-pays c = paid_after c.draw_vertical.result _ _ _ _ _ (4 * length (here c.mode.new.reader)) _ _
    c.draw_vertical.ensures.pays (omega (arith, c.mode.ensures.ticks))
    (omega (arith, c.mode.ensures.ticks, c.in-Some.ensures.shorter)) (λ next. omega arith)

pub returns-in-Horizontal-clause-pays : goal.returns-in-Horizontal-clause-pays
returns-in-Horizontal-clause-pays c =
    let drawn = c.draw_horizontal.ensures in
    record {
      counts = omega (arith, drawn.pays.counts, c.mode.ensures.ticks);
      paid = if_two c.draw_horizontal.result _ _ _ drawn.pays.paid drawn.passed (λ next paid passed.
          omega (arith, paid, passed, c.mode.ensures.ticks, c.in-Some.ensures.shorter));
      at_most = omega (arith, drawn.pays.at_most, c.mode.ensures.ticks, c.in-Some.ensures.shorter);
    }
