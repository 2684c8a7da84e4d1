use Rattle.fax_feeds.proofs.Names.{common_steps}
use Rattle.fax_feeds.proofs.Names.{◌≡◌, ◌∙◌, ◌-◌, ap, subst, refl, arith, length, Row, Context, DecodeSettings, Turn}
use Rattle.fax_feeds.proofs.Names.{b2, right_of_painted}
use Rattle.fax_feeds.specs.declared.line_parts.KeptPart.{KeptPart}
use Rattle.fax_feeds.specs.LineParts.{PaintsTo, IsLawfulPart}
use Rattle.fax_feeds.proofs.DrawingLines.PartsOfLines.{at_mode_is, lawful_after, pass_ends, pass_goes}
use Rattle.fax_feeds.proofs.line_parts.pass.Goals.{After-paint}
use Rattle.fax_feeds.proofs.line_parts.pass.Goals as goal

pass_settings : (c : After-paint) → c.settings.result ≡ c.args.ctx.now.held.settings
pass_settings c = c.settings.ensures.value ∙ ap (λ (x : Context). x.held.settings) c.places_after-b2.ensures.frame

pass_counted : (c : After-paint) (front : Row) → length front ≡ c.args.part.now.painted
    → b2 c.args.ctx.now.held.reference (right_of_painted (length front)) c.args.part.now.color - length front
    ≡ c.saturating_sub.result
pass_counted c front is = grind (arith, common_steps)

pass_lawful : (c : After-paint) → IsLawfulPart c.args.ctx.now.held.settings c.args.ctx.now.held.reference c.paint.new.part
pass_lawful c = grind (arith, common_steps, lawful_after, pass_settings c)

pub returns-then-not-paint-clause-goes : goal.returns-then-not-paint-clause-goes
returns-then-not-paint-clause-goes c = λ rest.
    let at = (goal.at.returns-then-not-paint-clause-goes c).After-paint in
    record {
      leads = λ front is. grind (
        arith,
        common_steps,
        pass_ends,
        pass_counted at front is,
        pass_settings at,
        c.if-not-paint.ensures.too_many refl front is,
      );
      lawful = pass_lawful at;
    }

pub returns-clause-goes : goal.returns-clause-goes
returns-clause-goes c = λ rest.
    let at = (goal.at.returns-clause-goes c).After-paint in
    record {
      leads = λ front is.
          let goes = pass_goes c.args.ctx.now.held.settings c.args.ctx.now.held.reference front c.args.part.now.color rest
          c.saturating_sub.result c.paint.new.part.painted (pass_counted at front is)
          (subst (λ (s : DecodeSettings). PaintsTo s front c.args.part.now.color c.saturating_sub.result
          c.paint.new.part.painted) (pass_settings at) (c.if-not-paint.ensures.painted refl front is)) in (
            goes.0,
            goes.1,
            goes.2 ∙ ap Turn.next (at_mode_is c.paint.new.part goes.0 c.args.part.now.color rest
                (ap (λ (p : KeptPart). p.in_run) c.paint.ensures.frame ∙ c.requires.run)
                (ap (λ (p : KeptPart). p.is_2d) c.paint.ensures.frame ∙ c.requires.mode)
                (ap (λ (p : KeptPart). p.color) c.paint.ensures.frame)),
          );
      lawful = pass_lawful at;
    }
