-- What holds of an error by its kind.
use Rattle.fax_bits.proofs.Names.{◌≡◌, ◌≢◌, arith, true, false, DecodeError, UnexpectedEof, OutOfMemory, Refused}
use Rattle.fax_bits.proofs.Names.{ByKind, ErrorKind, IsFault, misses_end, no_memory}

-- what holds of each fault of the data, of an allocation failure and of a refusal holds of every error
pub by_kind : (P : DecodeError → Type 0) → ((e : DecodeError) → IsFault e → P e) → P OutOfMemory → P Refused
    → (e : DecodeError) → P e
by_kind P of_fault of_memory of_refusal e = grind arith

-- the statement of the same kind follows where each follows
pub kind_weaker : (kind : ErrorKind) (A B C A2 B2 C2 : Type 0) → (A → A2) → (B → B2) → (C → C2) → ByKind kind A B C
    → ByKind kind A2 B2 C2
kind_weaker kind A B C A2 B2 C2 a b c p = grind arith

-- a fault of the data has that kind
pub fault_kind : (kind : ErrorKind) → ByKind kind (Unit {0}) ⊥ ⊥ → kind ≡ ErrorKind.fault
fault_kind kind is = grind arith

-- of a fault of the data it is the statement of faults
pub at_fault_kind : (kind : ErrorKind) (A B C : Type 0) → ByKind kind (Unit {0}) ⊥ ⊥ → ByKind kind A B C → A
at_fault_kind ErrorKind.fault A B C is p = p
at_fault_kind ErrorKind.memory A B C is p = absurd is
at_fault_kind ErrorKind.refusal A B C is p = absurd is

pub of_fault_kind : (kind : ErrorKind) (A B C : Type 0) → ByKind kind (Unit {0}) ⊥ ⊥ → A → ByKind kind A B C
of_fault_kind kind A B C is p = grind arith

-- only the end of the data is missing where it says so
pub missing_end : (e : DecodeError) → misses_end e ≡ true → e ≡ UnexpectedEof
missing_end e is = grind arith

pub not_missing_end : (e : DecodeError) → e ≢ UnexpectedEof → misses_end e ≡ false
not_missing_end e isnt = grind arith

-- a fault of the data is no allocation failure
pub fault_not_memory : (e : DecodeError) → IsFault e → e ≢ OutOfMemory
fault_not_memory e fault is = grind arith

pub no_memory_is : (e : DecodeError) → no_memory e ≡ true → e ≡ OutOfMemory
no_memory_is e is = grind arith
