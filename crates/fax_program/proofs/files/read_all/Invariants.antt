use Rattle.std.proofs.Common.{◌≡◌, ◌-◌, ◌^◌, length, vec_len}
use Rattle.std.specs.Io.KnownBytes.{Consumes}
use Rattle.fax_bits.specs.Bits.{BitsFit}
use Rattle.fax_program.proofs.files.read_all.Given as goal

-- what was read, and that it fits
abbrev pub invariant-loop-count : goal.invariant-loop-count
invariant-loop-count g l = record {
  flag : l.reader.1 ≡ l.fn.reader.1;
  buffer : length l.buffer ≡ 65536;
  consumed : Consumes (g.R.Read.remaining l.fn.reader.0) (g.R.Read.remaining l.reader.0) l.input.items;
  fit : BitsFit l.input.items;
}

abbrev pub decreases-loop-count : goal.decreases-loop-count
decreases-loop-count g l = 2 ^ 61 - vec_len l.input
