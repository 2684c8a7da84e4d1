-- What a run with packed rows writes.
use Rattle.std.specs.Prelude.{◌≡◌, ℕ, List, take, Result, Ok, Err}
use Rattle.hayro_ccitt.specs.DecodeError.{DecodeError}
use Rattle.hayro_ccitt.specs.DecodeSettings.{DecodeSettings}
use Rattle.hayro_ccitt.specs.Bits.{Bits, bits_of}
use Rattle.hayro_ccitt.specs.PlainReading.{plain}
use Rattle.fax_encode.specs.Packed.{packed}
use Rattle.faxrows_lib.specs.Runs.{Outcome, EndsAfter}

-- how decoding ends, without the byte count
abbrev pub answer_of : Outcome → Result (Unit {0}) DecodeError
answer_of (Ok count) = Ok tt
answer_of (Err error) = Err error

-- The packed bytes of some data, with this result: they hold the first rows of the plain reading, and decoding may end like
-- this after that number of rows.
abbrev pub IsPackedOf : DecodeSettings → Bits → Result (Unit {0}) DecodeError → List ℕ → Type 0
IsPackedOf settings bits answer bytes =
    (taken : ℕ) × (outcome : Outcome) × EndsAfter settings bits taken outcome × (answer ≡ answer_of outcome)
    × (bits_of bytes ≡ packed (take taken (plain settings bits).rows))
