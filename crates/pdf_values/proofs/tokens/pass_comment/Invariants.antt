use Rattle.std.specs.Prelude.{◌≡◌, drop}
use Rattle.std.proofs.Common.{◌<◌}
use Rattle.paid_cursor.specs.Places.{rest_of}
use Rattle.pdf_values.specs.Payments.{Passes}
use Rattle.pdf_values.specs.Tokens.{after_comment}
use Rattle.pdf_values.proofs.tokens.pass_comment.Given as goal

abbrev pub invariant-comment : goal.invariant-comment
invariant-comment l = record {
  passes : Passes l.fn.source l.source;
  moves : l.source.left < l.fn.source.left;
  passed : after_comment (rest_of l.source) ≡ after_comment (drop 1 (rest_of l.fn.source));
}

abbrev pub decreases-comment : goal.decreases-comment
decreases-comment l = l.source.left
