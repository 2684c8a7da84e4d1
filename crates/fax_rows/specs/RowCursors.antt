-- A reading of rows between two calls, apart from its data: what is seen of it, and which data it is a reading of.
use Rattle.std.specs.Prelude.{◌≤◌, ℕ, length}
use Rattle.fax_bits.specs.declared.bit_reader.BitOrder.{BitOrder}
use Rattle.fax_rows.specs.declared.row_cursor.RowCursor.TheInside.{Inside}
use Rattle.fax_rows.specs.declared.row_reader.RowState.{RowState}
use Rattle.fax_bits.specs.Bits.{Bits, BitsAt}
use Rattle.fax_reading.specs.Context.{Context}
use Rattle.fax_reading.specs.Space.{most_room}
use Rattle.fax_rows.specs.RowsRead.{RowsRead, IsStanding, seen}

-- what is kept of a reading whose data is elsewhere: the context, what is kept besides it between two rows, the order of the
-- bits, and the offset of the next bit
pub record Paused : Type 0 where
  pub ctx : Context
  pub rows : RowState
  pub order : BitOrder
  pub place : ℕ

abbrev pub paused_of : Inside → Paused
paused_of r = record { ctx = r.ctx; rows = r.rows; order = r.order; place = r.place }

-- where these bits are read next
abbrev pub at_paused : Bits → Paused → BitsAt
at_paused bits paused = record { bits = bits; place = paused.place }

-- what was read of them
abbrev pub rows_over : Bits → Paused → RowsRead
rows_over bits paused = seen paused.rows paused.ctx (at_paused bits paused)

-- It is a reading of these bits: its rows so far are those of the plain reading.
pub record IsReadingOf (bits : Bits) (paused : Paused) : Type 0 where
  pub within : paused.place ≤ length bits
  pub stands : IsStanding 0 paused.rows paused.ctx (at_paused bits paused)
  pub space : paused.ctx.space ≤ most_room paused.ctx.held.settings bits
