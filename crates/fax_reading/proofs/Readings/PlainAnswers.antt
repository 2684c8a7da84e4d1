-- What decoding leaves of whole data, given what a driver leaves of its bits.
use Rattle.fax_reading.proofs.Names.{common_steps, ◌≡◌, ◌≢◌, ℕ, ◌+◌, ◌-◌, ◌*◌, ◌/◌, ◌≤◌, IfOk, false, eqb, List, length, drop}
use Rattle.fax_reading.proofs.Names.{Option, Some, Result, Ok, Err, arith, cond-false, eqb-true, length-drop}
use Rattle.fax_reading.proofs.Names.{DecodeError, DecodeSettings, Bits, Held, SinkState, TakesRows}
use Rattle.fax_reading.proofs.Names.{StopsShort, FailsHere, Ending, plain, end_of, lines_of, bytes_before, failed_at}

-- a number of columns that isn't 0
pub some_columns : (n : ℕ) → n ≢ 0 → eqb n 0 ≡ false
some_columns n some = grind (arith, common_steps, eqb-true)

-- what is known of the accepted rows and of the result, in the terms of the contract of `decode`
abbrev pub LeavesRows : {M : Type 0} → DecodeSettings → Bits → (M → List ℕ → M) → SinkState M → SinkState M → Held
    → Result ℕ DecodeError → Type 0
LeavesRows settings bits step before after held answer =
    TakesRows (plain settings bits).rows (plain settings bits).outcome (plain settings bits).has_eols step before after held
    answer × StopsShort (plain settings bits).rows (lines_of settings bits) before after held answer

-- the bits before a position, in whole bytes
pub bytes_before-place : (bits : Bits) (place : ℕ) → place ≤ length bits
    → bytes_before bits (Ok (drop place bits)) ≡ Ok ((place + 7) / 8)
bytes_before-place bits place within = grind (arith, common_steps, length-drop)

-- a byte count within a number of bits is within the number of bytes
pub whole_bytes_within : (answer : Result ℕ DecodeError) (bits bytes : ℕ) → bits ≡ 8 * bytes → IfOk answer (λ n. 8 * n ≤ bits)
    → IfOk answer (λ n. n ≤ bytes)
whole_bytes_within answer bits bytes e within = grind arith

module _ {M : Type 0} (settings : DecodeSettings) (bits : Bits) (step : M → List ℕ → M) (before after : SinkState M)
    (held : Held) (some : settings.columns ≢ 0) where
  abbrev end : Ending
  end = end_of settings bits

  -- where the driver ended well at a position
  pub decodes_well : (place count : ℕ) (rest : Bits) → rest ≡ drop place bits → place ≤ length bits → (place + 7) / 8 ≡ count
      → TakesRows end.rows end.outcome end.has_eols step before after held (Ok rest) → StopsShort {A = Bits} end.rows
      (lines_of settings bits) before after held (Ok rest) → LeavesRows settings bits step before after held (Ok count)
  decodes_well place count rest at within counted takes short = grind
      (arith, common_steps, cond-false, some_columns, bytes_before-place)

  -- where it ended with an error
  pub decodes_badly : (error : DecodeError) → TakesRows end.rows end.outcome end.has_eols step before after held (Err error)
      → StopsShort {A = Bits} end.rows (lines_of settings bits) before after held (Err error)
      → LeavesRows settings bits step before after held (Err error)
  decodes_badly error takes short = grind (arith, common_steps, cond-false, some_columns)

-- where it failed
pub fault_left : (settings : DecodeSettings) (bits read rest : Bits) → read ≡ bits → (taken : ℕ) → FailsHere settings bits taken
    rest → (place : Option ℕ) → place ≡ Some (length read - length rest) → place ≡ Some (failed_at settings bits taken)
fault_left settings bits read rest are taken fails place is = grind (arith, common_steps)
