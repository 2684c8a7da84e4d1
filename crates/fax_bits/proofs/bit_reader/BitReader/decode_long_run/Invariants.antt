use Rattle.fax_bits.proofs.Names.{◌≡◌, ◌+◌, length, run_found, here, run_from}
use Rattle.fax_bits.proofs.bit_reader.BitReader.decode_long_run.Given as goal

abbrev pub invariant-words : goal.invariant-words
invariant-words l = (run_from l.color (l.start, here l.fn.self) ≡ run_from l.color (l.total, here l.self))
    × (l.self.bits ≡ l.fn.self.bits) × (l.ticks + length (run_found l.color (l.total, here l.self))
    ≡ l.fn.ticks + length (run_found l.color (l.start, here l.fn.self)))

abbrev pub decreases-words : goal.decreases-words
decreases-words l = length (here l.self)
