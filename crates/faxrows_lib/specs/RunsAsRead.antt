-- What a run of the program reads and writes that writes each row as soon as it is known.
use Rattle.std.specs.Prelude.{◌≡◌, ◌↔◌, ◌≢◌, ℕ, true, false, List, [], ◌++◌, take, None, IfSome, Option, Result, Err, IfOk, IfErr}
use Rattle.std.specs.Io.KnownBytes.{Appends, IsAtEnd}
use Rattle.hayro_ccitt.specs.BitOrder.{BitOrder}
use Rattle.hayro_ccitt.specs.Bits.{Bits, BitsFit, bits_in}
use Rattle.hayro_ccitt.specs.DecodeSettings.{DecodeSettings}
use Rattle.fax_program.specs.Devices.{AppendsFront, WasRead}
use Rattle.fax_program.specs.declared.fault.RunFault.{RunFault}
use Rattle.fax_program.specs.declared.fault.RunFault.TheVariants.{BadArguments, Read, TooLong, Write}
use Rattle.faxrows_lib.specs.Arguments.{arguments_of}
use Rattle.faxrows_lib.specs.Output.{Used, bytes_before, bytes_after}
use Rattle.faxrows_lib.specs.Runs.{rows_of}
use Rattle.faxrows_lib.specs.Text.{lines_of_rows}

-- A reader may have had these bytes, given those that were read and those that are left: they begin with those that were read,
-- are no more if it is at its end, and offsets of their bits fit.
pub record MayBe (input : List ℕ) (left : Option (List ℕ)) (whole : List ℕ) : Type 0 where
  pub more : List ℕ
  pub begins : whole ≡ input ++ more
  pub ends : IsAtEnd left → more ≡ []
  pub fit : BitsFit whole

-- a statement about the bits, in this order, of whatever bytes the reader may have had
abbrev pub OnData : {R : Type 0} → BitOrder → Used R → (Bits → Type 0) → Type 0
OnData order reader P = WasRead (bytes_before reader) (bytes_after reader)
    (λ input. (whole : List ℕ) → MayBe input (bytes_after reader) whole → P (bits_in order whole))

-- A call that reads data of these settings. `IsText` says what it may write of some bits where it returns some value: it wrote
-- such a text, or, if its writer failed, a front of one; and if something else failed, the lines of the first rows.
pub record WritesAsRead {R W T : Type 0} (IsText : DecodeSettings → Bits → T → List ℕ → Type 0) (settings : DecodeSettings)
    (order : BitOrder) (reader : Used R) (writer : Used W) (result : Result T RunFault) : Type 0 where
  pub written : IfOk result (λ value. OnData order reader (λ bits.
      (text : List ℕ) × IsText settings bits value text × Appends (bytes_before writer) (bytes_after writer) text))
  pub front : result ≡ Err Write → OnData order reader (λ bits.
      (value : T) × (text : List ℕ) × IsText settings bits value text
      × AppendsFront (bytes_before writer) (bytes_after writer) text)
  pub rows : IfErr result (λ fault. fault ≢ Write → OnData order reader (λ bits.
      (rows : ℕ) × Appends (bytes_before writer) (bytes_after writer) (lines_of_rows (take rows (rows_of settings bits)))))
  pub fit : result ≢ Err TooLong → WasRead (bytes_before reader) (bytes_after reader) BitsFit
  pub too_long : result ≡ Err TooLong → IfSome (bytes_before reader) (λ input. ¬ (BitsFit input))
  pub read : reader.before.1 ≡ false → ((result ≡ Err Read) ↔ (reader.after.1 ≡ true))
  pub write : writer.before.1 ≡ false → ((result ≡ Err Write) ↔ (writer.after.1 ≡ true))
  pub not_arguments : result ≢ Err BadArguments

-- a run with these arguments
pub record RunsAsRead {R W T : Type 0} (IsText : DecodeSettings → Bits → T → List ℕ → Type 0) (args : List (List ℕ))
    (reader : Used R) (writer : Used W) (result : Result T RunFault) : Type 0 where
  pub bad_arguments : (result ≡ Err BadArguments) ↔ (arguments_of args ≡ None)
  pub unused : result ≡ Err BadArguments → (reader.after ≡ reader.before) × (writer.after ≡ writer.before)
  pub writes : IfSome (arguments_of args) (λ meant.
      WritesAsRead IsText meant.settings meant.order reader writer result)
