-- The words that are chosen are in the lists, and spell runs.
use Rattle.fax_coding.proofs.Names.{◌≡◌, ℕ, zero, suc, ◌+◌, ◌-◌, ◌*◌, ◌/◌, ◌%◌, ◌<◌, ◌≤◌, Bool, true, false, cond, eqb, ltb, ◌||◌}
use Rattle.fax_coding.proofs.Names.{List, [], ◌∷◌, ◌++◌, replicate, refl, sym, subst, ◌∙◌, arith, ◌⊎◌, inl, inr, append_assoc}
use Rattle.fax_coding.proofs.Names.{flat_map, agree_below_at, eqb-true, ltb-true, lt-ltb, false≢true, cases_lt, Color, White}
use Rattle.fax_coding.proofs.Names.{Black, Bits, Code, Has, codes_of, Spells, word_of, word_of_length, chosen_rest, chosen_run}

-- whether a list has a word for a length
listed : List (Code ℕ) → ℕ → Bool
listed [] n = false
listed (c ∷ list) n = eqb c.value n || listed list n

-- then it is the chosen one
listed_word : (list : List (Code ℕ)) (n : ℕ) → listed list n ≡ true → Has list n (word_of (λ m. eqb m n) list)
unfolding listed
listed_word [] n e = absurd (false≢true e)
listed_word (c ∷ list) n e = by_eqb (listed_word list n) (eqb c.value n) refl e
  where
    by_eqb : (listed list n ≡ true → Has list n (word_of (λ m. eqb m n) list)) → (t : Bool) → eqb c.value n ≡ t
        → (t || listed list n) ≡ true → ((c.value ≡ n) × (c.word ≡ cond t c.word (word_of (λ m. eqb m n) list)))
        ⊎ Has list n (cond t c.word (word_of (λ m. eqb m n) list))
    by_eqb rest true is e = inl (eqb-true c.value n is, refl)
    by_eqb rest false is e = inr (rest e)

-- each length below 64 has a terminating word
pub terminating_word : (color : Color) (n : ℕ) → n < 64 → Has (codes_of color) n (word_of_length color n)
unfolding listed
terminating_word White n lt =
    listed_word (codes_of White) n (agree_below_at (λ m. listed (codes_of White) m) (λ m. true) 64 n refl lt)
terminating_word Black n lt =
    listed_word (codes_of Black) n (agree_below_at (λ m. listed (codes_of Black) m) (λ m. true) 64 n refl lt)

-- each multiple of 64 up to 2560 has a make-up word
makeup_times : (color : Color) (k : ℕ) → k < 40 → Has (codes_of color) (64 * k + 64) (word_of_length color (64 * k + 64))
unfolding listed
makeup_times White k lt = listed_word (codes_of White) (64 * k + 64)
    (agree_below_at (λ m. listed (codes_of White) (64 * m + 64)) (λ m. true) 40 k refl lt)
makeup_times Black k lt = listed_word (codes_of Black) (64 * k + 64)
    (agree_below_at (λ m. listed (codes_of Black) (64 * m + 64)) (λ m. true) 40 k refl lt)

pub makeup_word : (color : Color) (n : ℕ) → 64 ≤ n → n < 2624 → n % 64 ≡ 0 → Has (codes_of color) n (word_of_length color n)
makeup_word color n low high whole =
    subst (λ (m : ℕ). Has (codes_of color) m (word_of_length color m)) (let e : 64 * (n / 64 - 1) + 64 ≡ n = omega arith in e)
    (makeup_times color (n / 64 - 1) (omega arith))

-- up to 2623 pixels are spelled by a make-up word and a terminating word
rest_by : (color : Color) (n : ℕ) (below : Bool) → ltb n 64 ≡ below → n < 2624
    → Spells color n ((cond below [] (word_of_length color (n - n % 64))) ++ word_of_length color (n % 64))
rest_by color n true is lt =
    let below : n < 64 = ltb-true n 64 is in
    subst (λ (m : ℕ). Spells color m (word_of_length color (n % 64))) (let e : n % 64 ≡ n = omega arith in e)
    (Spells.terminating (n % 64) (word_of_length color (n % 64)) (terminating_word color (n % 64) (omega arith)) (omega arith))
rest_by color n false is lt = elim (cases_lt n 64) [
  | inl below ↦ absurd (false≢true (sym is ∙ lt-ltb n 64 below))
  | inr above ↦
      subst (λ (m : ℕ). Spells color m (word_of_length color (n - n % 64) ++ word_of_length color (n % 64)))
      (let e : (n - n % 64) + n % 64 ≡ n = omega arith in e) (Spells.makeup (n - n % 64) (word_of_length color (n - n % 64))
      (makeup_word color (n - n % 64) (omega arith) (omega arith) (omega arith)) (omega arith) (Spells.terminating (n % 64)
      (word_of_length color (n % 64)) (terminating_word color (n % 64) (omega arith)) (omega arith)))
]

pub rest_spelled : (color : Color) (n : ℕ) → n < 2624 → Spells color n (chosen_rest color n)
rest_spelled color n lt = rest_by color n (ltb n 64) refl lt

-- words of 2560 before what is spelled
more_spelled : (color : Color) (times n : ℕ) (bits : Bits) → Spells color n bits
    → Spells color (2560 * times + n) (flat_map (λ word. word) (replicate times (word_of_length color 2560)) ++ bits)
more_spelled color zero n bits spells =
    subst (λ (m : ℕ). Spells color m bits) (let e : n ≡ 2560 * zero + n = omega arith in e) spells
more_spelled color (suc times) n bits spells =
    let word : Bits = word_of_length color 2560 in
    let words : Bits = flat_map (λ word. word) (replicate times word) in
    let is : word ++ (words ++ bits) ≡ (word ++ words) ++ bits = sym (append_assoc word words bits) in
    let one : 2560 + (2560 * times + n) ≡ 2560 * suc times + n = omega arith in
    subst (λ (b : Bits). Spells color (2560 * suc times + n) b) is
    (subst (λ (m : ℕ). Spells color m (word ++ (words ++ bits))) one (Spells.makeup 2560 word
    (makeup_word color 2560 (omega arith) (omega arith) refl) (omega arith) (more_spelled color times n bits spells)))

-- what is chosen for a run spells it
pub run_spelled : (color : Color) (n : ℕ) → Spells color n (chosen_run color n)
run_spelled color n =
    subst (λ (m : ℕ). Spells color m (chosen_run color n)) (let e : 2560 * (n / 2560) + n % 2560 ≡ n = omega arith in e)
    (more_spelled color (n / 2560) (n % 2560) (chosen_rest color (n % 2560)) (rest_spelled color (n % 2560) (omega arith)))
