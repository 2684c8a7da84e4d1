use Rattle.fax_feeds.proofs.Names.{common_steps}
use Rattle.fax_feeds.proofs.Names.{◌≡◌, ◌∙◌, ◌-◌, ◌+ℤ◌, ℕ, pos, ap, sym, subst, refl, arith, length, Row, Context}
use Rattle.fax_feeds.proofs.Names.{DecodeSettings, Turn}
use Rattle.fax_feeds.proofs.Names.{b1, right_of_painted, opposite, Err, Color, ℤ, to_z, of_z, to_z-of_z, w8, SFits, rules}
use Rattle.fax_feeds.specs.declared.line_parts.KeptPart.{KeptPart}
use Rattle.fax_feeds.specs.LineParts.{PaintsTo, IsLawfulPart}
use Rattle.fax_reading.specs.Lines.{place_from}
use Rattle.fax_reading.specs.Rows.{paint}
use Rattle.fax_feeds.proofs.DrawingLines.PartsOfLines.{at_mode_is, lawful_after, turn_ends, turn_goes, turn_unpainted}
use Rattle.fax_feeds.proofs.line_parts.turn.Goals.{After-paint, After-vertical_place}
use Rattle.fax_feeds.proofs.line_parts.turn.Goals as goal
use Rattle.fax_feeds.proofs.Names.{too_many_pixels}

turn_settings : (c : After-paint) → c.settings.result ≡ c.args.ctx.now.held.settings
turn_settings c = c.settings.ensures.value ∙ ap (λ (x : Context). x.held.settings) c.places_after-b1.ensures.frame

-- the position by the number of pixels painted
place_is : (c : After-vertical_place) (front : Row) → length front ≡ c.args.part.now.painted
    → place_from (length front) (pos (b1 c.args.ctx.now.held.reference (right_of_painted (length front)) c.args.part.now.color)
    +ℤ c.args.offset)
    ≡ place_from c.args.part.now.painted (pos c.places_after-b1.result.0 +ℤ c.args.offset)
place_is c front is = grind (arith, common_steps)

-- an offset is itself
offset_is : (c : After-vertical_place) → to_z w8 (of_z w8 c.args.offset) ≡ c.args.offset
offset_is c = let narrow : SFits w8 c.args.offset = search rules in to_z-of_z narrow

turn_lawful : (c : After-paint) → IsLawfulPart c.args.ctx.now.held.settings c.args.ctx.now.held.reference c.paint.new.part
turn_lawful c = grind (arith, common_steps, lawful_after, turn_settings c)

pub returns-in_default-clause-goes : goal.returns-in_default-clause-goes
returns-in_default-clause-goes c = λ rest.
    let at = (goal.at.returns-in_default-clause-goes c).After-vertical_place in
    record {
      leads = λ front is. turn_ends c.args.ctx.now.held.settings c.args.ctx.now.held.reference front c.args.part.now.color rest
          c.args.offset (place_is at front is
          ∙ ap (λ (k : ℤ). place_from c.args.part.now.painted (pos c.places_after-b1.result.0 +ℤ k)) (sym (offset_is at))
          ∙ c.in_default.ensures.none);
      lawful = record { within = c.requires.lawful.within; passed = c.places_after-b1.ensures.passes.passed };
    }

pub returns-then-not-paint-clause-goes : goal.returns-then-not-paint-clause-goes
returns-then-not-paint-clause-goes c = λ rest.
    let at = (goal.at.returns-then-not-paint-clause-goes c).After-paint in
    record {
      leads = λ front is.
          let color : Color = c.args.part.now.color in
          turn_unpainted c.args.ctx.now.held.settings c.args.ctx.now.held.reference front color rest c.args.offset
          c.in-Some.place (place_is (goal.at.returns-then-not-paint-clause-goes c).After-vertical_place front is
          ∙ ap (λ (k : ℤ). place_from c.args.part.now.painted (pos c.places_after-b1.result.0 +ℤ k))
          (sym (offset_is (goal.at.returns-then-not-paint-clause-goes c).After-vertical_place)) ∙ c.in-Some.ensures.place)
          (subst (λ (n : ℕ). paint c.args.ctx.now.held.settings.strict c.args.ctx.now.held.settings.columns front color
          (c.in-Some.place - n) ≡ Err too_many_pixels) (sym is)
          (subst (λ (s : DecodeSettings). paint s.strict s.columns front color (c.in-Some.place - c.args.part.now.painted)
          ≡ Err too_many_pixels) (turn_settings at) (c.if-not-paint.ensures.too_many refl front is)));
      lawful = turn_lawful at;
    }

pub returns-clause-goes : goal.returns-clause-goes
returns-clause-goes c = λ rest.
    let at = (goal.at.returns-clause-goes c).After-paint in
    let part = c.paint.new.part in
    let there = turn_lawful at in
    record {
      leads = λ front is.
          let color : Color = c.args.part.now.color in
          let goes = turn_goes c.args.ctx.now.held.settings c.args.ctx.now.held.reference front color rest c.args.offset
          c.in-Some.place part.painted (place_is (goal.at.returns-clause-goes c).After-vertical_place front is
          ∙ ap (λ (k : ℤ). place_from c.args.part.now.painted (pos c.places_after-b1.result.0 +ℤ k))
          (sym (offset_is (goal.at.returns-clause-goes c).After-vertical_place)) ∙ c.in-Some.ensures.place)
          (subst (λ (n : ℕ). PaintsTo c.args.ctx.now.held.settings front color (c.in-Some.place - n) part.painted) (sym is)
          (subst (λ (s : DecodeSettings). PaintsTo s front color (c.in-Some.place - c.args.part.now.painted) part.painted)
          (turn_settings at) (c.if-not-paint.ensures.painted refl front is))) in (
            goes.0,
            goes.1,
            goes.2 ∙ ap Turn.next (at_mode_is (record part { color = c.opposite-part.result }) goes.0
                (opposite color) rest
                (ap (λ (p : KeptPart). p.in_run) c.paint.ensures.frame ∙ c.requires.run)
                (ap (λ (p : KeptPart). p.is_2d) c.paint.ensures.frame ∙ c.requires.mode)
                (c.opposite-part.ensures ∙ ap (λ (p : KeptPart). opposite p.color) c.paint.ensures.frame)),
          );
      lawful = record { within = there.within; passed = there.passed };
    }
