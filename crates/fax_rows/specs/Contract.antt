-- The contract of `decode` and of `decode_low_first`, over the bits of their data.
use Rattle.std.specs.Prelude.{◌≡◌, ◌<◌, ◌⊎◌, ◌↔◌, ℕ, true, false, List, length, take, sum_by, None, Some, Result, Ok, IsOk, OnOk}
use Rattle.std.specs.Prelude.{OnErr}
use Rattle.fax_bits.specs.declared.error.DecodeError.{DecodeError}
use Rattle.fax_bits.specs.declared.settings.DecodeSettings.{DecodeSettings}
use Rattle.fax_bits.specs.declared.settings.EncodingMode.TheVariants.{Group4}
use Rattle.fax_reading.specs.Answers.{OnAnswer, meaning_after}
use Rattle.fax_bits.specs.Bits.{Bits, BitsAt}
use Rattle.fax_reading.specs.Context.{Context, Held, fresh}
use Rattle.fax_reading.specs.Damage.{repairs_by_line, repairs_of, cuts_by_line, cuts_of, misses_by_line, misses_of}
use Rattle.fax_reading.specs.Decoding.{SinkState, TakesRows, StopsShort}
use Rattle.fax_reading.specs.Locality.{DamageStaysInRow}
use Rattle.fax_reading.specs.LocalityByK.{DamageEndsAt1D}
use Rattle.fax_reading.specs.Pictures.{IsClosedPicture, IsLimitedPicture}
use Rattle.fax_reading.specs.PlainReading.{plain, lines_of, failed_at}
use Rattle.fax_reading.specs.Rows.{Row, HaveWidth}
use Rattle.fax_reading.specs.RowsKept.{RowsBeforeStay, RowsAfterStay}
use Rattle.fax_reading.specs.Work.{CountsWork}
pub use Rattle.fax_lines.specs.PassedRows.{PassesRow}

-- Where the calls begin that decode all rows of a reader: at its first bit, with a context that holds no more than its
-- settings, of at least one column.
pub record BeginsRows (ctx : Context) (at : BitsAt) : Type 0 where
  pub columns : 0 < ctx.held.settings.columns
  pub fresh : ctx.held ≡ fresh ctx.held.settings
  pub start : at.place ≡ 0

-- What decoding leaves in a sink of this step, in the context, in the count of work and as its result, for data with
-- these bits.
pub record Decodes {M : Type 0} (settings : DecodeSettings) (bits : Bits) (step : M → List ℕ → M) (before after : SinkState M)
    (held : Held) (ticks : ℕ) (answer : Result ℕ DecodeError) : Type 0 where
  -- It counts at least the words of the accepted rows, and at most 128 ticks a bit and 256 more (T.4, 4.1 and 4.2; T.6,
  -- 2.2).
  pub work : CountsWork settings bits held.taken ticks
  -- The rows, the result and the byte count are those of the plain reading (T.4, 4.1 and 4.2; T.6, 2.2 and 2.4.1).
  pub reading : TakesRows (plain settings bits).rows (plain settings bits).outcome
      (plain settings bits).has_eols step before after held answer
  -- Unless an allocation failed or the sink refused a row, the sink means all rows, in order (T.4, 4.2.1.1).
  pub whole : OnAnswer answer (after.meaning ≡ meaning_after step before.meaning (plain settings bits).rows)
  -- Each row has as many pixels as there are columns (T.4, 4.1.1).
  pub widths : HaveWidth settings.columns (plain settings bits).rows
  -- No EOL is sought in Group 4, nor if there are no columns (T.6, 2.4.1).
  pub no_eols : (settings.encoding ≡ Group4) ⊎ (settings.columns ≡ 0) → held.has_eols ≡ false
  -- Fewer rows are accepted only if an allocation fails in a row with a black pixel, or the sink refuses a row (T.4,
  -- 4.2.1.1).
  pub short : StopsShort (plain settings bits).rows (lines_of settings bits) before after held answer
  -- After an error the context holds the offset of the first bit of the line that has no row, or if there is none, that of
  -- the first bit after the last row, where strict data lacks an EOL; else none (T.4, 4.1.2).
  pub fault_start : OnErr answer (held.fault_start ≡ Some (failed_at settings bits held.taken))
  pub no_fault : OnOk answer (held.fault_start ≡ None)
  -- Data that begins with a T.6 encoding closed by EOFB, or a T.4 one closed by RTC, is read as its picture, whatever
  -- follows it: the result is its byte count, the rows are its rows, and the sink means them (T.6, 2.4.1.1; T.4, 4.1.4
  -- and 4.2.4).
  pub closed : (rows : List Row) (count : ℕ) → IsClosedPicture settings rows count bits → OnAnswer answer (answer ≡ Ok count)
  pub closed_rows : (rows : List Row) (count : ℕ) → IsClosedPicture settings rows count bits → (plain settings bits).rows ≡ rows
  pub picture : (rows : List Row) (count : ℕ) → IsClosedPicture settings rows count bits
      → OnAnswer answer (after.meaning ≡ meaning_after step before.meaning rows)
  -- So is data that begins with as many lines as the row limit (T.6, 2.2; T.4, 4.1.1, 4.1.2 and 4.2.1).
  pub limited_rows : (rows : List Row) → IsLimitedPicture settings rows bits → (plain settings bits).rows ≡ rows
  pub limited : (rows : List Row) → IsLimitedPicture settings rows bits → OnAnswer answer (IsOk answer)
  pub limited_picture : (rows : List Row) → IsLimitedPicture settings rows bits
      → OnAnswer answer (after.meaning ≡ meaning_after step before.meaning rows)
  -- The context counts the rows that were repaired, of those accepted (T.4, 4.1.2).
  pub damaged_taken : held.repairs.rows ≡ sum_by length (take held.taken (repairs_by_line settings bits))
  pub damaged : OnAnswer answer (held.repairs.rows ≡ length (repairs_of settings bits))
  -- In a picture no row is repaired (T.4, 4.1.2).
  pub closed_whole : (rows : List Row) (count : ℕ) → IsClosedPicture settings rows count bits → held.repairs.rows ≡ 0
  pub limited_whole : (rows : List Row) → IsLimitedPicture settings rows bits → held.repairs.rows ≡ 0
  -- It counts the accepted rows after which the EOL was missed; after a repaired row none is (T.4, 4.1.2).
  pub missed_taken : held.repairs.missed ≡ sum_by length (take held.taken (misses_by_line settings bits))
  pub missed : OnAnswer answer (held.repairs.missed ≡ length (misses_of settings bits))
  -- In a picture none is (T.4, 4.1.2).
  pub closed_eols : (rows : List Row) (count : ℕ) → IsClosedPicture settings rows count bits → held.repairs.missed ≡ 0
  pub limited_eols : (rows : List Row) → IsLimitedPicture settings rows bits → held.repairs.missed ≡ 0
  -- It counts the accepted rows in which a run was cut at the row's end (T.4, 4.1.1 and 4.2.1.3).
  pub cut_taken : held.repairs.cut ≡ sum_by length (take held.taken (cuts_by_line settings bits))
  pub cut : OnAnswer answer (held.repairs.cut ≡ length (cuts_of settings bits))
  -- In a picture none is (T.4, 4.1.1 and 4.2.1.3).
  pub closed_runs : (rows : List Row) (count : ℕ) → IsClosedPicture settings rows count bits → held.repairs.cut ≡ 0
  pub limited_runs : (rows : List Row) → IsLimitedPicture settings rows bits → held.repairs.cut ≡ 0
  -- Where the strict reading ends without a fault, no row is repaired, no run cut and no EOL missed (T.4, 4.1.1 and 4.1.2).
  pub undamaged : IsOk (plain (record settings { strict = true }) bits).outcome → (held.repairs.rows ≡ 0)
      × (held.repairs.cut ≡ 0) × (held.repairs.missed ≡ 0)
  -- The strict reading ends without a fault exactly if this one does and the three counts are 0 (T.4, 4.1.1 and 4.1.2).
  pub silence : OnAnswer answer (IsOk (plain (record settings { strict = true }) bits).outcome
      ↔ (IsOk answer × (held.repairs.rows ≡ 0) × (held.repairs.cut ≡ 0) × (held.repairs.missed ≡ 0)))
  -- In lenient one-dimensional data with EOLs a change inside one line's body changes that row alone (T.4, 4.1.2).
  pub damage : OnAnswer answer (DamageStaysInRow settings bits (take held.taken (plain settings bits).rows) answer)
  -- In two-dimensional data a change inside one line changes no row from the next one-dimensional line on, if the lines in
  -- between are those of an encoding (T.4, 4.1.2 and 4.2).
  pub damage_by_k : OnAnswer answer (DamageEndsAt1D settings bits (take held.taken (plain settings bits).rows) answer)
  -- Whatever other data begins with the same bits up to a line has the same rows before that line (T.4, 4.1; T.6, 2.2).
  pub before_damage : OnAnswer answer (RowsBeforeStay settings bits (take held.taken (plain settings bits).rows))
  -- In lenient data of Group 3 with EOLs, whatever is before an EOL, the rows are the same again after the next one, if the
  -- line in between ends before it (T.4, 4.1.2).
  pub after_damage : OnAnswer answer (RowsAfterStay settings bits (take held.taken (plain settings bits).rows) answer)
