-- A run that is read is spelled by its words.
use Rattle.hayro_ccitt.proofs.Names.{◌≡◌, ℕ, zero, suc, ◌+◌, ◌<◌, ◌≤◌, ◌++◌, length, Result, Ok, Err, refl, ap, ◌∙◌, sym}
use Rattle.hayro_ccitt.proofs.Names.{subst}
use Rattle.hayro_ccitt.proofs.Names.{append_assoc, arith, inl, inr, cases_lt, Color, DecodeError, Bits, codes_of, read_code}
use Rattle.hayro_ccitt.proofs.Names.{run_from, Spells}
use Rattle.hayro_ccitt.proofs.CodeWords.ReadCodes.{read_code_found}
use Rattle.hayro_ccitt.proofs.CodeWords.ReadRuns.{read_code_shorter, words_not_empty, run_fails, run_passes, run_ends}
use Rattle.hayro_ccitt.proofs.CodeWords.ReadRuns.{run_goes_on}

-- the words of a run stand here, after others that sum to a total
pub record IsSpelled (color : Color) (total n : ℕ) (here rest : Bits) : Type 0 where
  pub run : ℕ
  pub word : Bits
  pub spells : Spells color run word
  pub sum : n ≡ total + run
  pub stands : here ≡ word ++ rest

-- one make-up word before the words of a run
one_word_more : (color : Color) (total m n : ℕ) (here after rest : Bits) → read_code (codes_of color) here ≡ Ok (m, after)
    → 64 ≤ m → IsSpelled color (total + m) n after rest → IsSpelled color total n here rest
one_word_more color total m n here after rest h large on =
    let word = read_code_found (codes_of color) here m after h in
    record {
      run = m + on.run;
      word = word.0 ++ on.word;
      spells = Spells.makeup m word.0 word.1 large on.spells;
      sum = omega (arith, on.sum);
      stands = word.2 ∙ ap (λ (x : Bits). word.0 ++ x) on.stands ∙ sym (append_assoc word.0 on.word rest);
    }

-- what two readings with one result have found
pub same_run : (a b : ℕ) (x y : Bits) → ◌≡◌ {A = Result (ℕ × Bits) DecodeError} (Ok (a, x)) (Ok (b, y)) → (a ≡ b) × (x ≡ y)
same_run a b x y e =
    let pair : ◌≡◌ {A = ℕ × Bits} (a, x) (b, y) = cc in
    (ap (λ (p : ℕ × Bits). p.0) pair, ap (λ (p : ℕ × Bits). p.1) pair)

-- a terminating word alone
last_word_alone : (color : Color) (total m n : ℕ) (here after rest : Bits) → read_code (codes_of color) here ≡ Ok (m, after)
    → m < 64 → ◌≡◌ {A = Result (ℕ × Bits) DecodeError} (Ok (total + m, after)) (Ok (n, rest)) → IsSpelled color total n here rest
last_word_alone color total m n here after rest h small same =
    let word = read_code_found (codes_of color) here m after h in
    let found = same_run (total + m) n after rest same in
    record {
      run = m;
      word = word.0;
      spells = Spells.terminating m word.0 word.1 small;
      sum = sym found.0;
      stands = word.2 ∙ ap (λ (x : Bits). word.0 ++ x) found.1;
    }

spelled_by : (k : ℕ) (color : Color) (total n : ℕ) (here rest : Bits) → length here < k
    → run_from color (total, here) ≡ Ok (n, rest)
    → IsSpelled color total n here rest
spelled_by zero color total n here rest lt e = absurd (omega arith)
spelled_by (suc k) color total n here rest lt e =
    by_word (read_code (codes_of color) here) refl (λ m after shorter f. spelled_by k color (total + m) n after rest
    (omega (arith, shorter, lt)) f)
  where
    by_word : (r : Result (ℕ × Bits) DecodeError) → read_code (codes_of color) here ≡ r
        → ((m : ℕ) (after : Bits) → length after < length here → run_from color (total + m, after) ≡ Ok (n, rest)
        → IsSpelled color (total + m) n after rest) → IsSpelled color total n here rest
    by_word (Err fault) h on = absurd (let f = run_fails color total here fault h in cc)
    by_word (Ok (m, after)) h on = elim (cases_lt 4294967295 (total + m)) [
      | inl over ↦ absurd (let f = run_passes color total m here after h over in cc)
      | inr fits ↦ elim (cases_lt m 64) [
        | inl small ↦ last_word_alone color total m n here after rest h small
            (sym (run_ends color total m here after h fits small) ∙ e)
        | inr large ↦ one_word_more color total m n here after rest h large (on m after
            (read_code_shorter (codes_of color) here m after (words_not_empty color) h)
            (sym (run_goes_on color total m here after h fits large) ∙ e))
      ]
    ]

-- Exactly the runs that are read are spelled (T.4, 4.1.1).
pub run_is_spelled : (color : Color) (n : ℕ) (here rest : Bits) → run_from color (0, here) ≡ Ok (n, rest)
    → (word : Bits) × Spells color n word × (here ≡ word ++ rest)
run_is_spelled color n here rest e =
    let is = spelled_by (suc (length here)) color 0 n here rest (omega arith) e in
    let sum : is.run ≡ n = omega (arith, is.sum) in
    (is.word, subst (λ (m : ℕ). Spells color m is.word) sum is.spells, is.stands)
