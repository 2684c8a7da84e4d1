use Rattle.fax_bits.proofs.Names.{◌≡◌, ◌+◌}
use Rattle.fax_bits.proofs.codes.tick_times.Given as goal

abbrev pub invariant-loop : goal.invariant-loop
invariant-loop l = l.ticks ≡ l.fn.ticks + l.counter
