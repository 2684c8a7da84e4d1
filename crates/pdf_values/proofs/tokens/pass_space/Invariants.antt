use Rattle.std.specs.Prelude.{◌≡◌}
use Rattle.paid_cursor.specs.Places.{rest_of}
use Rattle.pdf_values.specs.Payments.{Passes}
use Rattle.pdf_values.specs.Tokens.{after_space}
use Rattle.pdf_values.proofs.tokens.pass_space.Given as goal

abbrev pub invariant-space : goal.invariant-space
invariant-space l = record {
  passes : Passes l.fn.source l.source;
  passed : after_space (rest_of l.source) ≡ after_space (rest_of l.fn.source);
}

abbrev pub decreases-space : goal.decreases-space
decreases-space l = l.source.left
