use Rattle.std.proofs.Common.{◌*◌, ◌<◌}
use Rattle.fax_pictures.specs.Turned.{Shows}
use Rattle.fax_pictures.proofs.bitmap.Bitmap.show_columns.Given as goal

abbrev pub invariant-loop-block : goal.invariant-loop-block
invariant-loop-block l = Shows l.orientation l.self l.initial.made l.made (λ x y. x < 512 * l.block)
