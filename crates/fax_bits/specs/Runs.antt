-- Runs of one colour (T.4, 4.1.1).
use Rattle.std.specs.Prelude.{ℕ, suc, ◌+◌, List, Result, Ok, Err, if◌then◌else◌, nat_lt, length}
use Rattle.fax_bits.specs.declared.error.DecodeError.{DecodeError}
use Rattle.fax_bits.specs.declared.error.DecodeError.TheVariants.{UnexpectedEof, Overflow}
use Rattle.fax_bits.specs.declared.codes.Color.{Color}
use Rattle.fax_bits.specs.declared.codes.Color.TheVariants.{White, Black}
use Rattle.fax_bits.specs.Bits.{Bits}
use Rattle.fax_bits.specs.CodeLists.{Code, white_codes, black_codes}
use Rattle.fax_bits.specs.CodeReading.{read_code}
use Rattle.fax_bits.specs.Repetition.{Turn, repeated}

-- the other colour: the colours of runs alternate (T.4, 4.1.1)
abbrev pub opposite : Color → Color
opposite White = Black
opposite Black = White

-- the words of each colour (T.4, 4.1.1)
abbrev pub codes_of : Color → List (Code ℕ)
codes_of White = white_codes
codes_of Black = black_codes

-- A word adds its length to the sum so far. A sum of more than 32 bits is a fault; a terminating word, which is below
-- 64, ends the run; after a make-up word the run continues (T.4, 4.1.1).
abbrev pub run_of_word : ℕ → (ℕ × Bits) → Turn (ℕ × Bits) (Result (ℕ × Bits) DecodeError)
run_of_word total (n, rest) =
    if nat_lt 4294967295 (total + n) then Turn.done (Err Overflow)
    else (if nat_lt n 64 then Turn.done (Ok (total + n, rest)) else Turn.next (total + n, rest))

-- one word of a run is read; a fault of the reading is the run's (T.4, 4.1.1)
abbrev pub run_turn : Color → (ℕ × Bits) → Turn (ℕ × Bits) (Result (ℕ × Bits) DecodeError)
run_turn color (total, here) = elim (read_code (codes_of color) here) [
  | Ok found ↦ run_of_word total found
  | Err fault ↦ Turn.done (Err fault)
]

-- a run whose words so far sum to a total: its length, and the bits after it (T.4, 4.1.1)
abbrev pub run_from : Color → (ℕ × Bits) → Result (ℕ × Bits) DecodeError
run_from color (total, here) = repeated (run_turn color) (Err UnexpectedEof) (suc (length here)) (total, here)

-- a whole run (T.4, 4.1.1)
abbrev pub read_run : Color → Bits → Result (ℕ × Bits) DecodeError
read_run color here = run_from color (0, here)
