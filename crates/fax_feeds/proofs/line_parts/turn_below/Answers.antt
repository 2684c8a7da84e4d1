use Rattle.fax_feeds.proofs.Names.{common_steps}
use Rattle.fax_feeds.proofs.Names.{◌≡◌, ◌∙◌, ◌-◌, ◌+ℤ◌, ℕ, pos, ap, sym, subst, arith, length, changes, Ok, ◌≤◌}
use Rattle.fax_feeds.proofs.Names.{Turn, b1, right_of_painted, opposite}
use Rattle.fax_feeds.specs.LineParts.{PaintsTo}
use Rattle.fax_reading.specs.Lines.{place_from}
use Rattle.fax_feeds.proofs.DrawingLines.PartsOfLines.{at_mode_is, paints_all, passed_on, turn_goes}
use Rattle.fax_feeds.proofs.line_parts.turn_below.Goals as goal

-- a place that isn't left of what is painted is itself
place_itself : (painted place : ℕ) → painted ≤ place → place ≤ 4294967295 → place_from painted (pos place +ℤ pos 0) ≡ Ok place
place_itself painted place le fits = grind (arith, common_steps)

pub returns-clause-goes : goal.returns-clause-goes
returns-clause-goes c = λ rest.
    let held = c.args.ctx.now.held in
    let part = c.args.part.now in
    let place = c.places_after-b1.result.0 in
    let within = c.places_after-b1.ensures.within in
    let onward = c.places_after-b1.ensures.onward c.requires.lawful.within in
    record {
      leads = λ front is.
          let there : place_from (length front) (pos (b1 held.reference (right_of_painted (length front)) part.color) +ℤ pos 0)
          ≡ Ok place
          = subst (λ (n : ℕ). place_from (length front) (pos (b1 held.reference (right_of_painted n) part.color) +ℤ pos 0)
          ≡ Ok place) (sym is)
          (subst (λ (n : ℕ). place_from (length front) (pos n +ℤ pos 0) ≡ Ok place) c.places_after-b1.ensures.b1
          (place_itself (length front) place (omega (arith, is, onward)) (omega (arith, c.places_after-b1.type_inv.1)))) in
          let paints : PaintsTo held.settings front part.color (place - length front) place
          = subst (PaintsTo held.settings front part.color (place - length front)) (omega (arith, is, onward))
          (paints_all held.settings front part.color (place - length front) part.painted is c.requires.lawful.within
          (omega (arith, is, onward, within))) in
          let goes = turn_goes held.settings held.reference front part.color rest (pos 0) place place there paints in (
            goes.0,
            goes.1,
            goes.2 ∙ ap Turn.next (at_mode_is (record part { painted = place; color = c.opposite-part.result }) goes.0
                (opposite part.color) rest c.requires.run c.requires.mode c.opposite-part.ensures),
          );
      lawful = record {
        within = within;
        passed = passed_on (changes held.reference) part.painted place c.places_after-b1.new.passed onward
            c.places_after-b1.ensures.passes.passed;
      };
    }
