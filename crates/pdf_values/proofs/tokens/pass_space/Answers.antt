use Rattle.std.proofs.Common.{rules, arith, sym, ◌∙◌, ◌≡◌, ◌==◌, false}
use Rattle.std.proofs.lemmas.Grind.{common_steps}
use Rattle.pdf_values.proofs.Rests.{comment_passed, space_step, space_stops}
use Rattle.pdf_values.proofs.tokens.pass_space.Goals as goal

pub space-preserved-in-37-1 : goal.space-preserved-in-37-1
space-preserved-in-37-1 c = record {
  passes = search rules;
  passed = comment_passed c.space.source c.pass_comment.new.source c.in_ok-pass_comment-in-Some-eq37.ensures.passed (search
      rules) ∙ c.space.invariant.passed;
}

pub space-preserved : goal.space-preserved
space-preserved c = record {
  passes = search rules;
  passed = space_step c.space.source c.pass.new.self c.in-Some.byte c.in_ok-pass-in-Some.ensures.paid.0 (search rules)
      (search rules) ∙ c.space.invariant.passed;
}

pub returns-in_default-clause-passed : goal.returns-in_default-clause-passed
returns-in_default-clause-passed c =
    let other : (c.in-Some.byte == 37) ≡ false = grind (arith, common_steps) in
    sym (space_stops c.space.source.bytes c.space.source.place c.in-Some.byte (search rules) other (search rules))
    ∙ c.space.invariant.passed
