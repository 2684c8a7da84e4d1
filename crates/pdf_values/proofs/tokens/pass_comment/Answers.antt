use Rattle.std.proofs.Common.{rules, ap, ◌∙◌, List, ℕ}
use Rattle.pdf_values.specs.Tokens.{after_comment}
use Rattle.pdf_values.proofs.Rests.{rest_moved, comment_step}
use Rattle.pdf_values.proofs.tokens.pass_comment.Goals as goal

pub comment-init : goal.comment-init
comment-init c = record {
  passes = search rules;
  moves = search rules;
  passed = ap (λ (xs : List ℕ). after_comment xs) (rest_moved _ _ 1 c.in_ok-step.ensures.paid.0);
}

pub comment-preserved : goal.comment-preserved
comment-preserved c = record {
  passes = search rules;
  moves = search rules;
  passed = comment_step _ _ c.in-Some.byte c.in_ok-pass-in-Some.ensures.paid.0 (search rules) (search rules)
      ∙ c.comment.invariant.passed;
}
