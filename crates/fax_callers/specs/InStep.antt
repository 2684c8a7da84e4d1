-- Lines from which on a damaged strip is as it was sent.
use Rattle.std.specs.Prelude.{ℕ, ◌<◌, length, get_or}
use Rattle.hayro_ccitt.specs.Bits.{Bits}
use Rattle.hayro_ccitt.specs.DecodeSettings.{DecodeSettings}
use Rattle.hayro_ccitt.specs.PlainReading.{line_starts, plain}
use Rattle.hayro_ccitt.specs.RowsKept.{IsInStepFrom}

-- no line of the reading begins where it is in step with what was sent, if the damage lies before the EOL at this offset (T.4,
-- 4.1.2)
abbrev pub NoLineInStep : DecodeSettings → Bits → ℕ → Type 0
NoLineInStep settings bits to = (row : ℕ) → row < length (plain settings bits).rows
    → IsInStepFrom settings bits to (get_or (line_starts settings bits) row 0) → ⊥
