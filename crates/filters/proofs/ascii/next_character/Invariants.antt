use Rattle.std.proofs.Common.{◌≡◌, ◌≤◌}
use Rattle.paid_cursor.specs.Places.{budget}
use Rattle.filters.proofs.ascii.next_character.Given as goal

abbrev pub invariant-space : goal.invariant-space
invariant-space l =
    (budget l.source ≡ budget l.fn.source) × (l.source.bytes ≡ l.fn.source.bytes) × (l.source.left ≤ l.fn.source.left)

abbrev pub decreases-space : goal.decreases-space
decreases-space l = l.source.left
