use Rattle.std.proofs.Common.{◌*◌, ◌<◌}
use Rattle.fax_pictures.specs.Turned.{IsInBlock, Shows, column_shown}
use Rattle.fax_pictures.proofs.bitmap.Bitmap.show_block.Given as goal

abbrev pub invariant-loop-byte : goal.invariant-loop-byte
invariant-loop-byte l =
    Shows l.orientation l.self l.initial.made l.made (λ x y. IsInBlock l.left x
    × (column_shown l.orientation l.self x y < 8 * l.byte))
