-- The words that the turns of a run find.
use Rattle.fax_bits.proofs.Names.{◌≡◌, ℕ, suc, ◌+◌, ◌<◌, ◌≤◌, List, ◌++◌, length, Ok, Err, refl, ap, ◌∙◌, arith, le-ltb}
use Rattle.fax_bits.proofs.Names.{length-append, Color, DecodeError, Bits, Code, read_code, Turn, codes_of, run_turn}
use Rattle.fax_bits.proofs.Names.{word_found, run_gives, run_found, common_steps}
use Rattle.fax_bits.proofs.CodeWords.ReadRuns.{size, run_shrinks}
use Rattle.fax_bits.proofs.Repetition.Gathered.{gathered_after, gathered_turn}

-- the words of a turn, and then of the turns after it
abbrev pub given : {S R A : Type 0} → List A → (S → List A) → Turn S R → List A
given now rest turn = now ++ gathered_after rest turn

-- ---- The words of a run, by turns.
run_found_turn : (color : Color) (total : ℕ) (here : Bits) → run_found color (total, here)
    ≡ given (run_gives color (total, here)) (run_found color) (run_turn color (total, here))
run_found_turn color total here = gathered_turn (run_turn color) (run_gives color) size (run_shrinks color) (total, here)

pub one_word : {V : Type 0} (list : List (Code V)) (here : Bits) (found : V × Bits) → read_code list here ≡ Ok found
    → length (word_found list here) ≡ 1
one_word list here found e = rw (e, word_found) refl

-- a make-up word is one, and the run continues
pub run_found_on : (color : Color) (total n : ℕ) (here rest : Bits) → read_code (codes_of color) here ≡ Ok (n, rest)
    → total + n ≤ 4294967295 → 64 ≤ n → length (run_found color (total, here)) ≡ suc (length (run_found color (total + n, rest)))
run_found_on color total n here rest h k l = grind (arith, common_steps, le-ltb, length-append, one_word, run_found_turn)

-- a word that is missed is none
pub run_found_missed : (color : Color) (total : ℕ) (here : Bits) (e : DecodeError) → read_code (codes_of color) here ≡ Err e
    → length (run_found color (total, here)) ≡ 0
run_found_missed color total here e h = ap length (run_found_turn color total here) ∙ rw (h, run_turn, word_found) refl

-- a terminating word is one, and ends the run
pub run_found_ends : (color : Color) (total n : ℕ) (here rest : Bits) → read_code (codes_of color) here ≡ Ok (n, rest)
    → total + n ≤ 4294967295 → n < 64 → length (run_found color (total, here)) ≡ 1
run_found_ends color total n here rest h k l = grind (arith, common_steps)
