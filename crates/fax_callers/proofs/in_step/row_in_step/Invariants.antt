use Rattle.hayro_ccitt.proofs.Names.{◌≡◌, ◌-◌, ◌<◌, ℕ, length, get_or, line_starts, plain, bits_in}
use Rattle.fax_callers.proofs.in_step.row_in_step.Given as goal

-- the reader reads this data, and no line that it has read begins at the place
abbrev pub invariant-rows : goal.invariant-rows
invariant-rows l = (l.rows.settings ≡ l.fn.settings) × (l.rows.bits ≡ bits_in l.fn.order l.fn.data)
    × ((row : ℕ) → row < l.rows.taken → get_or (line_starts l.fn.settings (bits_in l.fn.order l.fn.data)) row 0 ≡ l.place → ⊥)

abbrev pub decreases-rows : goal.decreases-rows
decreases-rows l = length (plain l.fn.settings (bits_in l.fn.order l.fn.data)).rows - l.rows.taken
