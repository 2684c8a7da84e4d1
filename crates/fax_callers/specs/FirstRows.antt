-- The first rows of an image.
use Rattle.std.specs.Prelude.{◌≡◌, ◌<◌, ◌≤◌, ℕ, Bool, true, false, List, [], length, take, get_or, Result, Ok, Err, IfErr, IsOk}
use Rattle.hayro_ccitt.specs.DecodeError.{DecodeError}
use Rattle.hayro_ccitt.specs.DecodeError.TheVariants.{OutOfMemory}
use Rattle.hayro_ccitt.specs.DecodeSettings.{DecodeSettings}
use Rattle.hayro_ccitt.specs.Answers.{IsFault, OnAnswer, PaintsBlack, meaning_after}
use Rattle.hayro_ccitt.specs.Bits.{Bits}
use Rattle.hayro_ccitt.specs.PlainReading.{Reading, plain, lines_of}
use Rattle.hayro_ccitt.specs.Rows.{Row, changes}
use Rattle.fax_callers.specs.Readings.{EndsAs}

-- what a sink means, how many rows it has accepted, and the most that it accepts
pub record Firsts (M : Type 0) : Type 0 where
  pub meaning : M
  pub rows : ℕ
  pub most : ℕ

-- a sink accepted this many of the first rows of the reading, and an allocation failed only in a line that paints a black pixel
pub record AcceptsFirst {M T : Type 0} (settings : DecodeSettings) (bits : Bits) (step : M → List ℕ → M) (before after : M)
    (count : ℕ) (answer : Result T DecodeError) : Type 0 where
  pub rows : after ≡ meaning_after step before (take count (plain settings bits).rows)
  pub memory : answer ≡ Err OutOfMemory → PaintsBlack (lines_of settings bits) count

-- it refused the row after them, and its flag says so
pub record RefusesNext (rows : List Row) (count : ℕ) (has_refused : Bool) (refuses : List ℕ → Type 0) : Type 0 where
  pub flag : has_refused ≡ true
  pub row : refuses (changes (get_or rows count []))

-- of the rows of the reading no more were accepted, and all of them unless an allocation failed or a row was refused; then the
-- call ends as the reading does
pub record ReadsAll {T : Type 0} (reading : Reading) (count : ℕ) (answer : Result T DecodeError) : Type 0 where
  pub taken : count ≤ length reading.rows
  pub all : OnAnswer answer (count ≡ length reading.rows)
  pub ended : EndsAs answer reading.outcome

-- Whether the reading has as many rows as asked for. If there are fewer, and no allocation failed and no row was refused, it ends
-- without an error, or with the fault that is the answer.
pub record TellsIfEnough (reading : Reading) (most : ℕ) (answer : Result Bool DecodeError) : Type 0 where
  pub as_many : answer ≡ Ok true → most ≤ length reading.rows
  pub fewer : answer ≡ Ok false → (length reading.rows < most) × IsOk reading.outcome
  pub fault : IfErr answer (λ e. IsFault e → (length reading.rows < most) × (reading.outcome ≡ Err e))
