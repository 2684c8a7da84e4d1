-- What strips are that are copied.
use Rattle.std.specs.Prelude.{◌≡◌, ℕ, length, Ok}
use Rattle.hayro_ccitt.specs.DecodeSettings.{DecodeSettings}
use Rattle.hayro_ccitt.specs.Bits.{Bits}
use Rattle.hayro_ccitt.specs.Laws.{strictly}
use Rattle.hayro_ccitt.specs.PlainReading.{plain}

-- A strict reading takes so many bytes as all the rows of the settings (T.4, 4.1 and 4.2; T.6, 2.2).
pub record IsWholeStrip (settings : DecodeSettings) (bits : Bits) (bytes : ℕ) : Type 0 where
  pub outcome : (plain (strictly settings) bits).outcome ≡ Ok bytes
  pub rows : length (plain (strictly settings) bits).rows ≡ settings.rows
