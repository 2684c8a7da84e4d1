-- Black pixels, counted run by run.
use Rattle.std.proofs.Common.{arith, ◌≡◌, ◌<◌, ◌≤◌, ◌+◌, ◌-◌, ◌^◌, ℕ, suc, List, get_or, length, drop, min, drop-cons}
use Rattle.std.proofs.lemmas.List.{drop_all}
use Rattle.fax_guess.specs.BlackPixels.{black_of}

-- A run up to a change.
pub run_more : (columns black next index : ℕ) (changes : List ℕ) → index + 1 < length changes
    → next ≡ min (black + (get_or changes (index + 1) 0 - get_or changes index 0)) (2 ^ 64 - 1)
    → min (next + black_of columns (drop (index + 2) changes)) (2 ^ 64 - 1)
    ≡ min (black + black_of columns (drop index changes)) (2 ^ 64 - 1)
run_more columns black next index changes within counted =
    let here : index < length changes = omega (arith, within) in
    let one : index + 1 ≡ suc index = omega arith in
    let two : index + 2 ≡ suc (suc index) = omega arith in
    let follows : suc index < length changes = omega (arith, within) in
    let run = rw one at counted in
    rw (two, drop-cons changes index 0 here, drop-cons changes (suc index) 0 follows) (omega (arith, run))

-- No run.
pub run_none : (columns black index : ℕ) (changes : List ℕ) → length changes ≤ index → black < 2 ^ 64
    → black ≡ min (black + black_of columns (drop index changes)) (2 ^ 64 - 1)
run_none columns black index changes past few = rw (drop_all index changes past) (omega (arith, few))
