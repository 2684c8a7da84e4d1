use Rattle.std.proofs.Common.{◌≡◌, ◌++◌, length, List, ℕ}
use Rattle.std.specs.Io.KnownBytes.{Appends}
use Rattle.fax_program.proofs.files.write_all.Given as goal

-- the bytes are those that were written, and the rest
abbrev pub invariant-loop-rest : goal.invariant-loop-rest
invariant-loop-rest g l =
    (written : List ℕ) × (l.initial.rest ≡ written ++ l.rest)
    × Appends (g.W.Write.contents l.fn.writer.0) (g.W.Write.contents l.writer.0) written × (l.writer.1 ≡ l.fn.writer.1)

abbrev pub decreases-loop-rest : goal.decreases-loop-rest
decreases-loop-rest g l = length l.rest
