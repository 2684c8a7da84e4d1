-- Bytes of zeros at the end of data.
use Rattle.std.proofs.Common.{arith, ◌≡◌, ◌∙◌, ◌<◌, ◌+◌, ◌-◌, ℕ, List, get_or, length, length-drop, take, drop, sym}
use Rattle.std.proofs.Common.{ap}
use Rattle.std.proofs.lemmas.List.{drop-drop, get_or-drop, take_rest}
use Rattle.std.proofs.lemmas.List.Elements.{All-drop}
use Rattle.fax_guess.specs.Outcomes.{AreZeros}

-- The byte at the place is one.
pub zero_here : (bytes : List ℕ) (first count : ℕ) → first ≡ count → first < length bytes → AreZeros (drop count bytes)
    → get_or bytes first 0 ≡ 0
zero_here bytes first count same within zeros =
    let here : 0 < length (drop count bytes) = omega (arith, same, within, length-drop count bytes) in
    let e : count + 0 ≡ first = omega (arith, same) in
    ap (λ (k : ℕ). get_or bytes k 0) (sym e) ∙ sym (get_or-drop count bytes 0 0) ∙ zeros 0 0 here

-- So are those after it.
pub zeros_after : (bytes : List ℕ) (first count : ℕ) → first ≡ count → AreZeros (drop count bytes)
    → AreZeros (take (length bytes - (first + 1)) (drop (first + 1) bytes))
zeros_after bytes first count same zeros =
    let next : count + 1 ≡ first + 1 = omega (arith, same) in
    let rest = All-drop (λ (byte : ℕ). byte ≡ 0) 1 (drop count bytes) zeros in
    rw (take_rest bytes (first + 1), ← next, ← drop-drop 1 count bytes) rest
