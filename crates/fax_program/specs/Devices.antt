-- What a reader supplied, and what a writer took.
use Rattle.std.specs.Prelude.{◌≡◌, ◌≢◌, ℕ, List, ◌++◌, Option, IfSome, Result, Err, IfOk}
use Rattle.std.specs.Io.KnownBytes.{Appends, Consumes, IsAtEnd}
use Rattle.fax_bits.specs.Bits.{BitsFit}
use Rattle.fax_program.specs.declared.fault.RunFault.{RunFault}
use Rattle.fax_program.specs.declared.fault.RunFault.TheVariants.{TooLong, Write}

-- a writer took a front of a text, and perhaps all of it
abbrev pub AppendsFront : Option (List ℕ) → Option (List ℕ) → List ℕ → Type 0
AppendsFront before after text = (front : List ℕ) × (rest : List ℕ) × Appends before after front × (text ≡ front ++ rest)

-- a statement about the bytes that were read, where the reader specifies what it had and what is left
abbrev pub WasRead : Option (List ℕ) → Option (List ℕ) → (List ℕ → Type 0) → Type 0
WasRead before after P = (input : List ℕ) × Consumes before after input × P input

-- What a run has read, by how it ended: all that its reader had, if it ended well; and no more bytes than have offsets, unless
-- that is why it failed.
pub record ReadsInput {T : Type 0} (before after : Option (List ℕ)) (result : Result T RunFault) : Type 0 where
  pub drained : IfOk result (λ _. IsAtEnd after)
  pub fit : IfOk result (λ _. IfSome before BitsFit)
  pub fit_write : result ≡ Err Write → IfSome before BitsFit
  pub fit_so_far : result ≢ Err TooLong → WasRead before after BitsFit
  pub too_long : result ≡ Err TooLong → IfSome before (λ input. ¬ (BitsFit input))
