-- What a run of the program reads and writes, and why it ends early, whatever it writes of the data.
use Rattle.std.specs.Prelude.{◌≡◌, ◌↔◌, ◌≢◌, ℕ, true, false, List, None, Some, IfSome, Result, Err, IfOk, IfErr}
use Rattle.std.specs.Io.KnownBytes.{Appends, IsAtEnd}
use Rattle.hayro_ccitt.specs.Bits.{Bits, BitsFit}
use Rattle.hayro_ccitt.specs.DecodeSettings.{DecodeSettings}
use Rattle.fax_program.specs.Devices.{AppendsFront, ReadsInput, WasRead}
use Rattle.fax_program.specs.declared.fault.RunFault.{RunFault}
use Rattle.fax_program.specs.declared.fault.RunFault.TheVariants.{BadArguments, Read, TooLong, Write}
use Rattle.faxrows_lib.specs.Arguments.{arguments_of}
use Rattle.faxrows_lib.specs.Output.{Used, bytes_before, bytes_after}
use Rattle.faxrows_lib.specs.Runs.{OnKnown}
use Rattle.faxrows_lib.specs.declared.arguments.Arguments.{Arguments}

-- a run has what its arguments mean, and all bytes that its reader had
pub record HasInput {R : Type 0} (args : List (List ℕ)) (reader : Used R) (arguments : Arguments) (input : List ℕ) : Type 0 where
  pub arguments_are : arguments_of args ≡ Some arguments
  pub all : IfSome (bytes_before reader) (λ known. input ≡ known)
  pub drained : IsAtEnd (bytes_after reader)
  pub fit : BitsFit input
  pub fit_so_far : WasRead (bytes_before reader) (bytes_after reader) BitsFit
  pub read : reader.before.1 ≡ false → reader.after.1 ≡ false

-- a run lacks them, and why
pub record LacksInput {R : Type 0} (args : List (List ℕ)) (reader : Used R) (fault : RunFault) : Type 0 where
  pub bad_arguments : (fault ≡ BadArguments) ↔ (arguments_of args ≡ None)
  pub unread : fault ≡ BadArguments → reader.after ≡ reader.before
  pub fit_so_far : fault ≢ TooLong → WasRead (bytes_before reader) (bytes_after reader) BitsFit
  pub too_long : fault ≡ TooLong → IfSome (bytes_before reader) (λ known. ¬ (BitsFit known))
  pub read : reader.before.1 ≡ false → ((fault ≡ Read) ↔ (reader.after.1 ≡ true))
  pub not_write : fault ≢ Write

-- A run with these arguments. `IsText` says what it may write of some data where it returns some value: it wrote such a text, or,
-- if its writer failed, a front of one.
pub record RunsProgram {R W T : Type 0} (IsText : DecodeSettings → Bits → T → List ℕ → Type 0) (args : List (List ℕ))
    (reader : Used R) (writer : Used W) (result : Result T RunFault) : Type 0 where
  pub bad_arguments : (result ≡ Err BadArguments) ↔ (arguments_of args ≡ None)
  pub unread : result ≡ Err BadArguments → reader.after ≡ reader.before
  pub unwritten : IfErr result (λ fault. fault ≢ Write → writer.after ≡ writer.before)
  pub written : IfOk result (λ value. OnKnown (arguments_of args) (bytes_before reader) (λ settings bits.
      (text : List ℕ) × IsText settings bits value text × Appends (bytes_before writer) (bytes_after writer) text))
  pub front : result ≡ Err Write → OnKnown (arguments_of args) (bytes_before reader) (λ settings bits.
      (value : T) × (text : List ℕ) × IsText settings bits value text
      × AppendsFront (bytes_before writer) (bytes_after writer) text)
  pub input : ReadsInput (bytes_before reader) (bytes_after reader) result
  pub read : reader.before.1 ≡ false → ((result ≡ Err Read) ↔ (reader.after.1 ≡ true))
  pub write : writer.before.1 ≡ false → ((result ≡ Err Write) ↔ (writer.after.1 ≡ true))
