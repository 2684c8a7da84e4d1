-- The tick count of a context, borrowed: what a borrow of the count leaves (auxiliary).
use Rattle.std.specs.Prelude.{ℕ}
use Rattle.std.specs.Borrow.{Lends, MutBor, Fml}
use Rattle.fax_reading.specs.Context.{Context}
use Rattle.fax_lines.specs.contracts.context.DecoderContext.{the_row}
use Rattle.fax_bits.specs.contracts.codes.Ticks.{the_row as ticks_row}

-- a context with another tick count
abbrev pub with_ticks : Context → ℕ → Context
with_ticks c n = record c { ticks = n }

-- the context ends with the last count of the borrow, and the rest as it was
abbrev pub LendsTicks : MutBor Context → MutBor ℕ → Fml
LendsTicks c r = Lends the_row ticks_row c r (with_ticks c.now)
