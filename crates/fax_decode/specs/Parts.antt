-- What the decoded rows of a part are.
use Rattle.std.specs.Prelude.{◌≡◌, ℕ, length, Err}
use Rattle.hayro_ccitt.specs.DecodeSettings.{DecodeSettings}
use Rattle.hayro_ccitt.specs.Answers.{IsFault}
use Rattle.hayro_ccitt.specs.Bits.{Bits, bits_of}
use Rattle.hayro_ccitt.specs.Laws.{strictly}
use Rattle.hayro_ccitt.specs.PlainReading.{Reading, plain}
use Rattle.hayro_ccitt.specs.Rows.{HaveWidth}
use Rattle.fax_encode.specs.Packed.{packed}
use Rattle.fax_decode.specs.declared.part.Fault.{Fault}
use Rattle.fax_decode.specs.declared.part.PartRows.{PartRows}

-- The rows, each of so many pixels, are those of a reading, and it ends as they say (T.4, 4.1 and 4.2; T.6, 2.2).
pub record HasReading (columns : ℕ) (reading : Reading) (part : PartRows) : Type 0 where
  pub widths : HaveWidth columns reading.rows
  pub bitmap : bits_of part.bytes.items ≡ packed reading.rows
  pub rows : part.rows ≡ length reading.rows
  pub end : part.end ≡ reading.outcome

-- The reading that gave these rows ended with this fault.
pub record FailsAs (part : PartRows) (fault : Fault) : Type 0 where
  pub end : part.end ≡ Err fault.why
  pub is_fault : IsFault fault.why
  pub row : fault.row ≡ part.rows

-- The strict reading of some bits fails so, after so many rows.
pub record FailsStrictly (settings : DecodeSettings) (bits : Bits) (fault : Fault) : Type 0 where
  pub end : (plain (strictly settings) bits).outcome ≡ Err fault.why
  pub row : fault.row ≡ length (plain (strictly settings) bits).rows
