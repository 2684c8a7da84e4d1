use Rattle.std.specs.Prelude.{◌≡◌, ◌+◌}
use Rattle.std.specs.List.{prefix_len}
use Rattle.paid_cursor.specs.Places.{rest_of}
use Rattle.pdf_values.specs.Payments.{Passes}
use Rattle.pdf_values.specs.Tokens.{is_regular}
use Rattle.pdf_values.proofs.tokens.pass_regular.Given as goal

abbrev pub invariant-regular : goal.invariant-regular
invariant-regular l =
    Passes l.fn.source l.source
    × (l.source.place + prefix_len is_regular (rest_of l.source) ≡ l.fn.source.place + prefix_len is_regular (rest_of
    l.fn.source))

abbrev pub decreases-regular : goal.decreases-regular
decreases-regular l = l.source.left
