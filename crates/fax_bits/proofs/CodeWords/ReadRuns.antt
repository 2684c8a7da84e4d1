-- Runs, a word at a time.
use Rattle.fax_bits.proofs.Names.{suc, ◌≡◌, ℕ, ◌+◌, ◌<◌, ◌≤◌, Bool, true, false, cond, not, List, [], ◌∷◌, length, Result, Ok}
use Rattle.fax_bits.proofs.Names.{Err, Option, Some, None, SomeIff, refl, sym, subst, ◌∙◌, arith, ◌⊎◌, inl, inr, list_all}
use Rattle.fax_bits.proofs.Names.{and_parts, lt-ltb, le-ltb, length-append, DecodeError, UnexpectedEof, Overflow, Color, Bits}
use Rattle.fax_bits.proofs.Names.{Code, read_code, Has, Turn, codes_of, run_of_word, run_turn, run_from, common_steps}
use Rattle.fax_bits.proofs.CodeWords.ReadCodes.{read_code_found}
use Rattle.fax_bits.proofs.Repetition.Repeated.{Shrinks, after_turn, repeated_turn, repeated_keeps}

abbrev is_empty : Bits → Bool
is_empty [] = true
is_empty (b ∷ bits) = false

-- no word is empty
abbrev pub has_no_empty_word : {V : Type 0} → List (Code V) → Bool
has_no_empty_word list = list_all (λ c. not (is_empty c.word)) list

pub words_not_empty : (color : Color) → has_no_empty_word (codes_of color) ≡ true
words_not_empty color = grind (arith, common_steps)

pub word_length : {V : Type 0} (list : List (Code V)) (v : V) (w : Bits) → has_no_empty_word list ≡ true → Has list v w
    → 0 < length w
word_length [] v w e i = elim i [ ]
word_length (c ∷ list) v w e (inl i) = grind (arith, common_steps)
word_length (c ∷ list) v w e (inr i) = word_length list v w (and_parts (not (is_empty c.word)) (has_no_empty_word list) e).1 i

-- what is left after a word is shorter
pub read_code_shorter : {V : Type 0} (list : List (Code V)) (here : Bits) (v : V) (rest : Bits) → has_no_empty_word list ≡ true
    → read_code list here ≡ Ok (v, rest) → length rest < length here
read_code_shorter list here v rest e h = grind (arith, common_steps, length-append, read_code_found, word_length)

-- the size of a state of a run
abbrev pub size : ℕ × Bits → ℕ
size s = length s.1

abbrev RunTurn : Type 0
RunTurn = Turn (ℕ × Bits) (Result (ℕ × Bits) DecodeError)

-- which way a test went
pub chosen : {A : Type 0} (b : Bool) (x y z : A) → cond b x y ≡ z → ((b ≡ true) × (x ≡ z)) ⊎ ((b ≡ false) × (y ≡ z))
chosen b x y z e = grind (arith, common_steps)

pub not_done : (r : Result (ℕ × Bits) DecodeError) (t : ℕ × Bits) → ◌≡◌ {A = RunTurn} (Turn.done r) (Turn.next t) → ⊥
not_done r t e = cc

pub done_is : (r q : Result (ℕ × Bits) DecodeError) → ◌≡◌ {A = RunTurn} (Turn.done r) (Turn.done q) → r ≡ q
done_is r q e = cc

pub word_next : (total : ℕ) (found t : ℕ × Bits) → run_of_word total found ≡ Turn.next t → (total + found.0, found.1) ≡ t
word_next total found t e = grind (arith, common_steps)

shrinks_by : (color : Color) (total : ℕ) (here : Bits) (t : ℕ × Bits) (r : Result (ℕ × Bits) DecodeError)
    → read_code (codes_of color) here ≡ r → run_turn color (total, here) ≡ Turn.next t → length t.1 < length here
shrinks_by color total here t (Err e) h k = grind (arith, common_steps)
shrinks_by color total here t (Ok found) h k = let g : run_of_word total found ≡ Turn.next t = rw (h, run_turn) at k in
    subst (λ (s : ℕ × Bits). length s.1 < length here) (word_next total found t g)
    (read_code_shorter (codes_of color) here found.0 found.1 (words_not_empty color) h)

pub run_shrinks : (color : Color) → Shrinks (run_turn color) size
run_shrinks color s t e = shrinks_by color s.0 s.1 t (read_code (codes_of color) s.1) refl e

-- ---- The rules of a run, by which a loop continues.
run_is : (color : Color) (total : ℕ) (here : Bits)
    → run_from color (total, here) ≡ after_turn (run_from color) (run_turn color (total, here))
run_is color total here = repeated_turn (run_turn color) (Err UnexpectedEof) size (run_shrinks color) (total, here)

pub run_fails : (color : Color) (total : ℕ) (here : Bits) (e : DecodeError) → read_code (codes_of color) here ≡ Err e
    → run_from color (total, here) ≡ Err e
run_fails color total here e h = run_is color total here ∙ rw (h, run_turn) refl

pub run_passes : (color : Color) (total n : ℕ) (here rest : Bits) → read_code (codes_of color) here ≡ Ok (n, rest)
    → 4294967295 < total + n → run_from color (total, here) ≡ Err Overflow
run_passes color total n here rest h k = run_is color total here ∙ rw (h, run_turn, lt-ltb 4294967295 (total + n) k) refl

pub run_ends : (color : Color) (total n : ℕ) (here rest : Bits) → read_code (codes_of color) here ≡ Ok (n, rest)
    → total + n ≤ 4294967295 → n < 64 → run_from color (total, here) ≡ Ok (total + n, rest)
run_ends color total n here rest h k l = grind (arith, common_steps)

pub run_goes_on : (color : Color) (total n : ℕ) (here rest : Bits) → read_code (codes_of color) here ≡ Ok (n, rest)
    → total + n ≤ 4294967295 → 64 ≤ n → run_from color (total, here) ≡ run_from color (total + n, rest)
run_goes_on color total n here rest h k l = grind (arith, run_is, le-ltb)

-- ---- What a run leaves is shorter.
abbrev leaves_below : ℕ → Result (ℕ × Bits) DecodeError → Type 0
leaves_below n (Ok found) = length found.1 < n
leaves_below n (Err e) = Unit {0}

word_done : (total n : ℕ) (found : ℕ × Bits) (r : Result (ℕ × Bits) DecodeError) → length found.1 < n
    → run_of_word total found ≡ Turn.done r → leaves_below n r
word_done total n found r h e = grind (arith, common_steps)

turn_done : (color : Color) (total n : ℕ) (here : Bits) (r : Result (ℕ × Bits) DecodeError) (q : Result (ℕ × Bits) DecodeError)
    → length here ≤ n → read_code (codes_of color) here ≡ q → run_turn color (total, here) ≡ Turn.done r → leaves_below n r
turn_done color total n here r (Err fault) h e k = subst (leaves_below n) (done_is _ r (rw (e, run_turn) at k)) tt
turn_done color total n here r (Ok found) h e k = word_done total n found r
    (omega (arith, read_code_shorter (codes_of color) here found.0 found.1 (words_not_empty color) e)) (rw (e, run_turn) at k)

pub run_shorter : (color : Color) (total : ℕ) (here : Bits) (n : ℕ) (rest : Bits) → run_from color (total, here) ≡ Ok (n, rest)
    → length rest < length here
run_shorter color total here n rest e =
    let kept = repeated_keeps (run_turn color) (Err UnexpectedEof) (λ s. length s.1 ≤ length here) (leaves_below (length here)) tt
    (λ s t p k. omega (arith, p, run_shrinks color s t k)) (λ s r p k. turn_done color s.0 (length here) s.1 r
    (read_code (codes_of color) s.1) p refl k) (suc (length here)) (total, here) (omega arith) in
    subst (leaves_below (length here)) e kept

-- what is known of a value for which a fact is true
pub some_where : {P : Type 0} {v : ℕ} (o : Option ℕ) (x : ℕ) → SomeIff o P v → o ≡ Some x → P × (x ≡ v)
some_where None x iff is = absurd (let f : ◌≡◌ {A = Option ℕ} None (Some x) = is in cc)
some_where {P} {v} (Some y) x iff is = let same : y ≡ x = cc in (iff.0, sym same ∙ iff.1)
