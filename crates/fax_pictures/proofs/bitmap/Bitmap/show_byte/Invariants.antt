use Rattle.std.proofs.Common.{◌≡◌, ◌/◌, ◌%◌, ◌<◌}
use Rattle.fax_pictures.specs.Turned.{IsInBlock, Shows, column_shown}
use Rattle.fax_pictures.proofs.bitmap.Bitmap.show_byte.Given as goal

abbrev pub invariant-loop-bit : goal.invariant-loop-bit
invariant-loop-bit l = Shows l.orientation l.self l.initial.made l.made
    (λ x y. IsInBlock l.left x × (column_shown l.orientation l.self x y / 8 ≡ l.byte)
    × (column_shown l.orientation l.self x y % 8 < l.bit))
