-- The reading that a caller's result is about.
use Rattle.std.specs.Prelude.{◌≡◌, ◌≢◌, ◌<◌, ◌≤◌, ◌⊎◌, ℕ, Bool, true, List, [], length, take, get_or, Result, Ok, Err, IsOk}
use Rattle.hayro_ccitt.specs.BitOrder.{BitOrder}
use Rattle.hayro_ccitt.specs.DecodeError.{DecodeError}
use Rattle.hayro_ccitt.specs.DecodeError.TheVariants.{OutOfMemory, Refused}
use Rattle.hayro_ccitt.specs.DecodeSettings.{DecodeSettings}
use Rattle.hayro_ccitt.specs.Answers.{IsFault, OnAnswer, PaintsBlack, meaning_after}
use Rattle.hayro_ccitt.specs.Bits.{Bits, bits_in}
use Rattle.hayro_ccitt.specs.Pictures.{IsClosedPicture, IsLimitedPicture}
use Rattle.hayro_ccitt.specs.PlainReading.{Reading, plain, lines_of}
use Rattle.hayro_ccitt.specs.Rows.{Row, HaveWidth, changes}

-- the plain reading of some bytes, whose bits come in this order
abbrev pub reading_of : DecodeSettings → BitOrder → List ℕ → Reading
reading_of settings order bytes = plain settings (bits_in order bytes)

-- A call that returns without an error means a reading that ends without one, and a call that returns a fault of the data means
-- a reading that ends with that fault. An allocation failure and a refused row say nothing about the reading.
abbrev pub EndsAs : {T : Type 0} → Result T DecodeError → Result ℕ DecodeError → Type 0
EndsAs (Ok x) outcome = IsOk outcome
EndsAs (Err error) outcome = IsFault error → outcome ≡ Err error

-- Which rows a sink accepted: the first rows of the reading, and all of them unless an allocation failed or a row was refused. An
-- allocation failed either for the context or in a line that paints a black pixel; a refused row is the next row, and the sink
-- refuses it.
pub record TakesFirst {M : Type 0} (settings : DecodeSettings) (bits : Bits) (step : M → List ℕ → M) (before after : M)
    (refuses : List ℕ → Type 0) (answer : Result ℕ DecodeError) : Type 0 where
  pub taken : ℕ
  pub within : taken ≤ length (plain settings bits).rows
  pub meaning : after ≡ meaning_after step before (take taken (plain settings bits).rows)
  pub memory : answer ≡ Err OutOfMemory → (taken ≡ 0) ⊎ PaintsBlack (lines_of settings bits) taken
  pub refused : answer ≡ Err Refused → (taken < length (plain settings bits).rows)
      × refuses (changes (get_or (plain settings bits).rows taken []))
  pub all : OnAnswer answer (after ≡ meaning_after step before (plain settings bits).rows)
  -- each has as many pixels as there are columns (T.4, 4.1.1)
  pub widths : OnAnswer answer (HaveWidth settings.columns (plain settings bits).rows)

-- A closed picture is read as its rows, and the result is its number of bytes, whatever follows it (T.6, 2.4.1.1; T.4, 4.1.4).
-- So are as many lines as the row limit (T.6, 2.2; T.4, 4.1.1, 4.1.2 and 4.2.1).
pub record ReadsPictures (settings : DecodeSettings) (bits : Bits) (answer : Result ℕ DecodeError) : Type 0 where
  pub closed : (rows : List Row) (count : ℕ) → IsClosedPicture settings rows count bits
      → OnAnswer answer ((answer ≡ Ok count) × ((plain settings bits).rows ≡ rows))
  pub limited : (rows : List Row) → IsLimitedPicture settings rows bits
      → OnAnswer answer (IsOk answer × ((plain settings bits).rows ≡ rows))

-- a sink's flag says that it refused a row, if it did, and else what it said before
pub record FlagsRefusal (answer : Result ℕ DecodeError) (before after : Bool) : Type 0 where
  pub refused : answer ≡ Err Refused → after ≡ true
  pub not_refused : answer ≢ Err Refused → after ≡ before
