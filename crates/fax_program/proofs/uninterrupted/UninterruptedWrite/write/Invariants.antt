use Rattle.std.specs.Io.KnownBytes.{Keeps}
use Rattle.fax_program.proofs.uninterrupted.UninterruptedWrite.write.Given as goal

-- what a signal interrupted did nothing
abbrev pub invariant-tries : goal.invariant-tries
invariant-tries g l = Keeps (g.W.Write.contents l.fn.self.0) (g.W.Write.contents l.self.0)
