-- The errors of decoding by their kind (auxiliary): faults of the data, allocation failures, and refusals. Only here and for
-- their texts are they listed.
use Rattle.std.specs.Prelude.{ℕ, Bool, true, false}
use Rattle.fax_bits.specs.declared.error.DecodeError.{DecodeError}
use Rattle.fax_bits.specs.declared.error.DecodeError.TheVariants.{UnexpectedEof, InvalidCode, Overflow, OutOfMemory, Refused}

-- what an error is about: the data, the memory, or the sink
pub data ErrorKind : Type 0 where
  fault : ErrorKind
  memory : ErrorKind
  refusal : ErrorKind

-- the kind of an error
abbrev pub kind_of : DecodeError → ErrorKind
kind_of UnexpectedEof = ErrorKind.fault
kind_of InvalidCode = ErrorKind.fault
kind_of Overflow = ErrorKind.fault
kind_of OutOfMemory = ErrorKind.memory
kind_of Refused = ErrorKind.refusal

-- one of three statements: of a fault of the data, of an allocation failure, or of a refusal
abbrev pub ByKind : ErrorKind → Type 0 → Type 0 → Type 0 → Type 0
ByKind ErrorKind.fault OfFault OfMemory OfRefusal = OfFault
ByKind ErrorKind.memory OfFault OfMemory OfRefusal = OfMemory
ByKind ErrorKind.refusal OfFault OfMemory OfRefusal = OfRefusal

-- an error that is a fault of the data
abbrev pub IsFault : DecodeError → Type 0
IsFault e = ByKind (kind_of e) (Unit {0}) ⊥ ⊥

-- auxiliary: it is the end of the data that is missing
abbrev pub misses_end : DecodeError → Bool
misses_end UnexpectedEof = true
misses_end InvalidCode = false
misses_end Overflow = false
misses_end OutOfMemory = false
misses_end Refused = false

-- one, if a word that was looked for isn't there (auxiliary)
abbrev pub missed_words : DecodeError → ℕ
missed_words UnexpectedEof = 1
missed_words InvalidCode = 1
missed_words Overflow = 0
missed_words OutOfMemory = 0
missed_words Refused = 0

-- auxiliary: an allocation failed
abbrev pub is_memory : ErrorKind → Bool
is_memory ErrorKind.fault = false
is_memory ErrorKind.memory = true
is_memory ErrorKind.refusal = false

abbrev pub no_memory : DecodeError → Bool
no_memory e = is_memory (kind_of e)
