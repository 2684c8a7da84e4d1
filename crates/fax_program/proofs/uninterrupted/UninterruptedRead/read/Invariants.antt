use Rattle.std.proofs.Common.{◌≡◌, length}
use Rattle.std.specs.Io.KnownBytes.{Keeps}
use Rattle.fax_program.proofs.uninterrupted.UninterruptedRead.read.Given as goal

-- what a signal interrupted did nothing
abbrev pub invariant-tries : goal.invariant-tries
invariant-tries g l = record {
  kept : Keeps (g.R.Read.remaining l.fn.self.0) (g.R.Read.remaining l.self.0);
  room : length l.buf ≡ length l.fn.buf;
}
