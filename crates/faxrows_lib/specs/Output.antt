-- What a device gave or took in a call, and what is written of a text.
use Rattle.std.specs.Prelude.{◌≡◌, ℕ, Bool, true, List, ◌++◌, Option, Result, IfOk, IfErr, OnOk, OnErr}
use Rattle.std.specs.Io.KnownBytes.{Appends}
use Rattle.fax_program.specs.Devices.{AppendsFront}
use Rattle.fax_program.specs.declared.fault.RunFault.{RunFault}
use Rattle.fax_program.specs.declared.fault.RunFault.TheVariants.{Write}

-- a reader or a writer before a call and after it, each time with the flag that it has failed; and the bytes that it specifies:
-- those left to read, or those written
pub record Used (T : Type 0) : Type 0 where
  pub bytes : T → Option (List ℕ)
  pub before : T × Bool
  pub after : T × Bool

abbrev pub used : {T : Type 0} → (T → Option (List ℕ)) → T × Bool → T × Bool → Used T
used bytes before after = record { bytes = bytes; before = before; after = after }

-- its bytes before the call, and after it
abbrev pub bytes_before : {T : Type 0} → Used T → Option (List ℕ)
bytes_before device = device.bytes device.before.0

abbrev pub bytes_after : {T : Type 0} → Used T → Option (List ℕ)
bytes_after device = device.bytes device.after.0

-- A text came after bytes that waited to be written. A front of both was written, and what is left waits now.
abbrev pub PassesOn : Option (List ℕ) → Option (List ℕ) → List ℕ → List ℕ → List ℕ → Type 0
PassesOn before after waited text waits = (front : List ℕ) × Appends before after front × (waited ++ text ≡ front ++ waits)

-- The writer's flag is set if the call failed, and is as it was if it didn't; nothing but the writer fails.
pub record FailsByWriter {W T : Type 0} (writer : Used W) (result : Result T RunFault) : Type 0 where
  pub flag : OnOk result (writer.after.1 ≡ writer.before.1)
  pub failed : OnErr result (writer.after.1 ≡ true)
  pub only : IfErr result (λ fault. fault ≡ Write)

-- A text was put after what waited, and what is left waits now; or the writer failed, and has a front of both.
pub record PutsText {W : Type 0} (text waited waits : List ℕ) (writer : Used W) (result : Result (Unit {0}) RunFault)
    : Type 0 where
  pub ok : OnOk result (PassesOn (bytes_before writer) (bytes_after writer) waited text waits)
  pub front : OnErr result (AppendsFront (bytes_before writer) (bytes_after writer) (waited ++ text))
  pub fails : FailsByWriter writer result

-- A call wrote a text, all of it or, where the writer failed, a front of it; `IsText` says which texts go with the value that is
-- returned.
pub record WritesText {W T : Type 0} (IsText : T → List ℕ → Type 0) (writer : Used W) (result : Result T RunFault) : Type 0 where
  pub written : IfOk result (λ value. (text : List ℕ) × IsText value text
      × Appends (bytes_before writer) (bytes_after writer) text)
  pub front : OnErr result ((value : T) × (text : List ℕ) × IsText value text
      × AppendsFront (bytes_before writer) (bytes_after writer) text)
  pub flag : OnOk result (writer.after.1 ≡ writer.before.1)
  pub failed : OnErr result (writer.after.1 ≡ true)
  pub only : IfErr result (λ fault. fault ≡ Write)
