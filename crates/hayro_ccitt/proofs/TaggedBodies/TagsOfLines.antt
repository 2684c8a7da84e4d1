-- EOLs with their tags that end at a position, from wherever they are read.
use Rattle.fax_reading.proofs.Names.{none-some, IsTagOfLine, pass_last_tag, tagged_eols, take, append_assoc, take-append-drop}
use Rattle.fax_reading.proofs.Names.{leb, leb-true, ◌≢◌}
use Rattle.fax_reading.proofs.Names.{length-drop, drop-drop, next_eol, Bool, length-append, length-replicate, common_steps}
use Rattle.fax_reading.proofs.Names.{cases_lt, lt-leb, after_eol, past_tag, one_more, replicate, Option}
use Rattle.fax_reading.proofs.Names.{arith, false, subst, zero, true, drop, length, Some, None, refl, Bits, suc, sym, ap, inl}
use Rattle.fax_reading.proofs.Names.{inr, []}
use Rattle.fax_reading.proofs.Names.{◌+◌, ◌-◌, ◌<◌, ◌≤◌, ◌⊎◌, ◌∙◌, ◌∷◌, ◌++◌, ◌≡◌, ℕ}
use Rattle.fax_bits.proofs.BitReading.ConsecutiveEols.{all_tagged, all_tagged-none, all_tagged-some, after_eol_shorter}
use Rattle.fax_bits.proofs.BitReading.ConsecutiveEols.{past_tag_shorter, eol_of}
use Rattle.fax_bits.proofs.BitReading.ConsecutiveEols.{count_some, counts_tagged, count_moves}
use Rattle.fax_reading.proofs.DrawingLines.LinesLeaveBits.{LeavesBits, leaves_trans}
use Rattle.fax_reading.proofs.KeptRows.TurnsLeave.{past_tag_leaves, count_leaves}
use Rattle.fax_reading.proofs.DamagedLines.LineTails.{drop_at, zeros_of_eol}
use Rattle.fax_reading.proofs.DamagedLines.PastEol.{after_eol_is, next_eol_leaves}
use Rattle.fax_bits.proofs.BitReading.ZeroRuns.{looked_eol}
use Rattle.fax_bits.proofs.BitReading.ConsecutiveEols.{next_eol_found, count_past, last_tag_shorter}
use Rattle.fax_reading.proofs.Names.{looked, ◌*◌}

-- fewer than eleven zeros and a one are no EOL
few_zeros : (seen j : ℕ) (rest : Bits) → seen + j < 11 → after_eol seen (replicate j false ++ true ∷ rest) ≡ None
few_zeros seen zero rest lt = grind (arith, common_steps, lt-leb)
few_zeros seen (suc j) rest lt = few_zeros (suc seen) j rest (omega (arith, lt))

-- some of the zeros are left out
drop_zeros : (k z : ℕ) (rest : Bits) → k ≤ z → drop k (replicate z false ++ rest) ≡ replicate (z - k) false ++ rest
drop_zeros zero z rest le = let e : z - 0 ≡ z = omega arith in ap (λ (n : ℕ). replicate n false ++ rest) (sym e)
drop_zeros (suc k) zero rest le = absurd (omega (arith, le))
drop_zeros (suc k) (suc z) rest le =
    let e : suc z - suc k ≡ z - k = omega arith in
    drop_zeros k z rest (omega (arith, le)) ∙ ap (λ (n : ℕ). replicate n false ++ rest) (sym e)

-- all of them, the one after them and some bits more
drop_one : (k z : ℕ) (rest : Bits) → z < k → drop k (replicate z false ++ true ∷ rest) ≡ drop (k - (z + 1)) rest
drop_one zero z rest lt = absurd (omega (arith, lt))
drop_one (suc k) zero rest lt = let e : suc k - (0 + 1) ≡ k = omega arith in ap (λ (n : ℕ). drop n rest) (sym e)
drop_one (suc k) (suc z) rest lt =
    let e : suc k - (suc z + 1) ≡ k - (z + 1) = omega arith in
    drop_one k z rest (omega (arith, lt)) ∙ ap (λ (n : ℕ). drop n rest) (sym e)

-- EOLs with their tags from a position among some that were read: none, or no more than those, which end where those do
abbrev pub Among : ℕ → Bits → Bits → Type 0
Among count rest here = (all_tagged here ≡ (0, here)) ⊎ ((fewer : ℕ) × (fewer ≤ count) × (all_tagged here ≡ (fewer, rest)))

-- the same after one more
among_more : (count : ℕ) (rest here : Bits) → Among count rest here → Among (suc count) rest here
among_more count rest here (inl none) = inl none
among_more count rest here (inr some) = inr (some.0, omega (arith, some.1), some.2)

-- a pair by its parts
pair_is : (found : ℕ × Bits) (count : ℕ) (rest : Bits) → one_more found ≡ (count, rest) → (count ≡ suc found.0) × (found
    ≡ (found.0, rest))
pair_is (n, bits) count rest e = grind (arith, common_steps)

-- after an EOL and its tag
after_tag : (r rest : Bits) (count k : ℕ) → length rest + k ≤ length r → ((j : ℕ) → length rest + j ≤ length (past_tag r)
    → Among count rest (drop j (past_tag r))) → Among count rest (drop k r)
after_tag [] rest count k le on = on k le
after_tag (false ∷ r) rest count k le on = on k le
after_tag (true ∷ r) rest count k le on = by_eol k le (after_eol 0 r) refl
  where
    by_eol : (k : ℕ) → length rest + k ≤ suc (length r) → (o : Option Bits) → after_eol 0 r ≡ o
        → Among count rest (drop k (true ∷ r))
    by_eol k le None e =
        let same : past_tag (true ∷ r) ≡ true ∷ r = rw (e, past_tag) refl in
        subst (λ (b : Bits). Among count rest (drop k b)) same (on k (rw same le))
    by_eol zero le (Some after) e = inl (all_tagged-none (true ∷ r) refl)
    by_eol (suc k) le (Some after) e =
        let same : past_tag (true ∷ r) ≡ r = rw (e, past_tag) refl in
        subst (λ (b : Bits). Among count rest (drop k b)) same (on k (rw same (omega (arith, le))))

-- one step of that
among_step : (k count : ℕ) (here rest : Bits) → all_tagged here ≡ (count, rest) → length rest + k ≤ length here
    → ((j c : ℕ) (there : Bits) → length there < length here → all_tagged there ≡ (c, rest) → length rest + j ≤ length there
    → Among c rest (drop j there)) → Among count rest (drop k here)
among_step k count here rest is le on = by_eol (after_eol 0 here) refl
  where
    by_eol : (o : Option Bits) → after_eol 0 here ≡ o → Among count rest (drop k here)
    by_eol None e =
        let none : rest ≡ here = sym (ap (λ (f : ℕ × Bits). f.1) is) ∙ ap (λ (f : ℕ × Bits). f.1) (all_tagged-none here e) in
        let first : k ≡ 0 = omega (arith, le, ap length none) in
        inl (subst (λ (j : ℕ). all_tagged (drop j here) ≡ (0, drop j here)) (sym first) (all_tagged-none here e))
    by_eol (Some r) e = at_zeros (after_eol_is 0 here r e)
      where
        found : one_more (all_tagged (past_tag r)) ≡ (count, rest)
        found = sym (all_tagged-some here r e) ∙ is

        parts : (count ≡ suc (all_tagged (past_tag r)).0) × (all_tagged (past_tag r) ≡ ((all_tagged (past_tag r)).0, rest))
        parts = pair_is (all_tagged (past_tag r)) count rest found

        more : (j : ℕ) → length rest + j ≤ length (past_tag r) → Among (all_tagged (past_tag r)).0 rest (drop j (past_tag r))
        more j fits = on j (all_tagged (past_tag r)).0 (past_tag r)
            (omega (arith, after_eol_shorter 0 here r e, past_tag_shorter r)) parts.1 fits

        at_zeros : ((z : ℕ) × (here ≡ replicate z false ++ true ∷ r) × (11 ≤ 0 + z)) → Among count rest (drop k here)
        at_zeros (z, split, enough) = elim (cases_lt z k) [
          | inl past ↦
              let there : drop k here ≡ drop (k - (z + 1)) r = ap (drop k) split ∙ drop_one k z r past in
              let long : length here ≡ z + (1 + length r)
              = ap length split ∙ length-append (replicate z false) (true ∷ r)
              ∙ ap (λ (m : ℕ). m + suc (length r)) (length-replicate z false)
              ∙ omega arith in
              subst (Among count rest) (sym there) (subst (λ (c : ℕ). Among c rest (drop (k - (z + 1)) r)) (sym parts.0)
              (among_more (all_tagged (past_tag r)).0 rest (drop (k - (z + 1)) r)
              (after_tag r rest (all_tagged (past_tag r)).0 (k - (z + 1)) (omega (arith, le, long, past)) more)))
          | inr within ↦
              let there : drop k here ≡ replicate (z - k) false ++ true ∷ r = ap (drop k) split
              ∙ drop_zeros k z (true ∷ r) within in
              elim (cases_lt (z - k) 11) [
                | inl few ↦ inl (all_tagged-none (drop k here) (ap (after_eol 0) there
                    ∙ few_zeros 0 (z - k) r (omega (arith, few))))
                | inr many ↦ inr (
                  count,
                  omega arith,
                  all_tagged-some (drop k here) r (ap (after_eol 0) there ∙ eol_of 0 (z - k) r (omega (arith, many))) ∙ found,
                )
              ]
        ]

-- EOLs that are read from a position among others
pub among : (n k count : ℕ) (here rest : Bits) → length here ≤ n → all_tagged here ≡ (count, rest)
    → length rest + k ≤ length here → Among count rest (drop k here)
among zero k count here rest size is le =
    among_step k count here rest is le (λ j c there shorter e fits. absurd (omega (arith, shorter, size)))
among (suc n) k count here rest size is le =
    among_step k count here rest is le (λ j c there shorter e fits. among n j c there rest (omega (arith, shorter, size)) e fits)

-- where an EOL is found, none begins before it
pub none_before : (here found : Bits) (k : ℕ) → next_eol here ≡ Some found → length found < length (drop k here)
    → after_eol 0 (drop k here) ≡ None
none_before [] found k e lt = absurd cc
none_before (bit ∷ here) found k e lt = by_eol k lt (none_before here found) (after_eol 0 (bit ∷ here)) refl
  where
    by_eol : (k : ℕ) → length found < length (drop k (bit ∷ here)) → ((j : ℕ) → next_eol here ≡ Some found
        → length found < length (drop j here) → after_eol 0 (drop j here) ≡ None) → (o : Option Bits)
        → after_eol 0 (bit ∷ here) ≡ o
        → after_eol 0 (drop k (bit ∷ here)) ≡ None
    by_eol k lt on (Some rest) f = let g : ◌≡◌ {A = Option Bits} (Some (bit ∷ here)) (Some found) = rw (f, next_eol) at e in
        let same : (bit ∷ here) ≡ found = cc in absurd (omega (arith, lt, ap length same, length-drop k (bit ∷ here)))
    by_eol zero lt on None f = f
    by_eol (suc k) lt on None f = let g : next_eol here ≡ Some found = rw (f, next_eol) at e in on k g lt

-- where none is found, none begins
pub none_from : (here : Bits) (k : ℕ) → next_eol here ≡ None → after_eol 0 (drop k here) ≡ None
none_from [] k e = by_drop k
  where
    by_drop : (k : ℕ) → after_eol 0 (drop {A = Bool} k []) ≡ None
    by_drop zero = refl
    by_drop (suc k) = refl
none_from (bit ∷ here) k e = by_eol k (none_from here) (after_eol 0 (bit ∷ here)) refl
  where
    by_eol : (k : ℕ) → ((j : ℕ) → next_eol here ≡ None → after_eol 0 (drop j here) ≡ None) → (o : Option Bits)
        → after_eol 0 (bit ∷ here) ≡ o → after_eol 0 (drop k (bit ∷ here)) ≡ None
    by_eol k on (Some rest) f = absurd (let g : ◌≡◌ {A = Option Bits} (Some (bit ∷ here)) None = rw (f, next_eol) at e in cc)
    by_eol zero on None f = f
    by_eol (suc k) on None f = let g : next_eol here ≡ None = rw (f, next_eol) at e in on k g

-- ---- The places where EOLs end

-- eleven zeros and a one end here
abbrev pub EndsEol : Bits → ℕ → Type 0
EndsEol bits end = (12 ≤ end) × (end ≤ length bits) × (drop (end - 12) bits ≡ replicate 11 false ++ true ∷ drop end bits)

-- no two EOLs end at places that follow each other
pub ends_apart : (bits : Bits) (end : ℕ) → EndsEol bits end → EndsEol bits (suc end) → ⊥
ends_apart bits end one two =
    let step : suc end - 12 ≡ (end - 12) + 1 = omega (arith, one.0) in
    let there : drop 1 (drop (end - 12) bits) ≡ replicate 11 false ++ true ∷ drop (suc end) bits
    = drop-drop 1 (end - 12) bits ∙ ap (λ (n : ℕ). drop n bits) (sym step) ∙ two.2 in
    let both : replicate 10 false ++ true ∷ drop end bits ≡ replicate 11 false ++ true ∷ drop (suc end) bits
    = sym (ap (drop 1) one.2) ∙ there in absurd cc

-- fewer than six EOLs with their tags end at a position that begin before another
abbrev pub HaveFewBefore : Bits → ℕ → ℕ → Type 0
HaveFewBefore bits end limit = (place count : ℕ) → place < limit → all_tagged (drop place bits) ≡ (count, drop end bits)
    → count < 6

-- ---- The end of EOLs with their tags

-- a tag was passed only where an EOL follows it
no_tag_passed : (r : Bits) → after_eol 0 (past_tag r) ≡ None → past_tag r ≡ r
no_tag_passed [] none = refl
no_tag_passed (false ∷ r) none = refl
no_tag_passed (true ∷ r) none = by_eol (after_eol 0 r) refl
  where
    by_eol : (o : Option Bits) → after_eol 0 r ≡ o → past_tag (true ∷ r) ≡ true ∷ r
    by_eol None e = rw (e, past_tag) refl
    by_eol (Some after) e =
        let same : past_tag (true ∷ r) ≡ r = rw (e, past_tag) refl in
        absurd (none-some after (sym none ∙ (ap (after_eol 0) same ∙ e)))

-- some are counted only if one is here
counted_some : (here rest : Bits) (count : ℕ) → all_tagged here ≡ (suc count, rest) → (r : Bits) × (after_eol 0 here ≡ Some r)
counted_some here rest count is = by_eol (after_eol 0 here) refl
  where
    by_eol : (o : Option Bits) → after_eol 0 here ≡ o → (r : Bits) × (after_eol 0 here ≡ Some r)
    by_eol (Some r) e = (r, e)
    by_eol None e = absurd (omega (arith, ap (λ (f : ℕ × Bits). f.0) (sym (all_tagged-none here e) ∙ is)))

-- none is counted only if none is here
counted_none : (here rest : Bits) → all_tagged here ≡ (0, rest) → (after_eol 0 here ≡ None) × (here ≡ rest)
counted_none here rest is = by_eol (after_eol 0 here) refl
  where
    by_eol : (o : Option Bits) → after_eol 0 here ≡ o → (after_eol 0 here ≡ None) × (here ≡ rest)
    by_eol (Some r) e = absurd (omega (arith, count_some counts_tagged here r e, ap (λ (f : ℕ × Bits). f.0) is))
    by_eol None e = (e, sym (ap (λ (f : ℕ × Bits). f.1) (all_tagged-none here e)) ∙ ap (λ (f : ℕ × Bits). f.1) is)

-- an EOL ends with its last twelve bits
eol_ends : (here r : Bits) → after_eol 0 here ≡ Some r → LeavesBits here (replicate 11 false ++ true ∷ r)
eol_ends here r e = let zeros = zeros_of_eol here r e in
    (replicate zeros.0 false, zeros.1 ∙ append_assoc (replicate zeros.0 false) (replicate 11 false) (true ∷ r))

-- the last of them ends with its last twelve bits
tagged_ends : (n count : ℕ) (here rest : Bits) → length here ≤ n → all_tagged here ≡ (suc count, rest)
    → LeavesBits here (replicate 11 false ++ true ∷ rest)
tagged_ends zero count here rest size is =
    let some = counted_some here rest count is in absurd (omega (arith, size, after_eol_shorter 0 here some.0 some.1))
tagged_ends (suc n) zero here rest size is =
    let some = counted_some here rest zero is in
    let parts = pair_is (all_tagged (past_tag some.0)) 1 rest (sym (all_tagged-some here some.0 some.1) ∙ is) in
    let first : (all_tagged (past_tag some.0)).0 ≡ 0 = omega (arith, parts.0) in
    let none = counted_none (past_tag some.0) rest (subst (λ (c : ℕ). all_tagged (past_tag some.0) ≡ (c, rest)) first parts.1) in
    let same : some.0 ≡ rest = sym (no_tag_passed some.0 none.0) ∙ none.1 in
    subst (λ (b : Bits). LeavesBits here (replicate 11 false ++ true ∷ b)) same (eol_ends here some.0 some.1)
tagged_ends (suc n) (suc count) here rest size is =
    let some = counted_some here rest (suc count) is in
    let parts = pair_is (all_tagged (past_tag some.0)) (suc (suc count)) rest (sym (all_tagged-some here some.0 some.1) ∙ is) in
    let more : (all_tagged (past_tag some.0)).0 ≡ suc count = omega (arith, parts.0) in
    let last : Bits = replicate 11 false ++ true ∷ rest in
    let short : length (past_tag some.0) ≤ n = omega
    (arith, size, after_eol_shorter 0 here some.0 some.1, past_tag_shorter some.0) in
    let on = tagged_ends n count (past_tag some.0) rest short
    (subst (λ (c : ℕ). all_tagged (past_tag some.0) ≡ (c, rest)) more parts.1) in
    leaves_trans here (true ∷ some.0) last
    (leaves_trans here (replicate 11 false ++ true ∷ some.0) (true ∷ some.0) (eol_ends here some.0 some.1)
    (replicate 11 false, refl))
    (leaves_trans (true ∷ some.0) some.0 last (true ∷ [], refl)
    (leaves_trans some.0 (past_tag some.0) last (past_tag_leaves some.0) on))

-- ---- Their places

module _ (bits : Bits) where
  -- what is left of the bits begins where its length says
  place_left : (q : ℕ) (rest : Bits) → LeavesBits (drop q bits) rest → rest ≡ drop (length bits - length rest) bits
  place_left q rest leaves =
      let whole : bits ≡ (take q bits ++ leaves.0) ++ rest
      = sym (take-append-drop q bits) ∙ ap (λ (b : Bits). take q bits ++ b) leaves.1
      ∙ sym (append_assoc (take q bits) leaves.0 rest) in
      sym (drop_at bits (take q bits ++ leaves.0) rest (length bits - length rest) whole
      (omega (arith, ap length whole, length-append (take q bits ++ leaves.0) rest)))

  -- twelve bits before a place
  eol_place : (q end : ℕ) → end ≤ length bits → LeavesBits (drop q bits) (replicate 11 false ++ true ∷ drop end bits)
      → EndsEol bits end
  eol_place q end within leaves =
      let last : Bits = replicate 11 false ++ true ∷ drop end bits in
      let size : length last ≡ 12 + length (drop end bits) = omega arith in
      let fits : length last ≤ length bits
      = omega (arith, ap length leaves.1, length-append leaves.0 last, length-drop q bits) in
      let place : length bits - length last ≡ end - 12 = omega (arith, size, length-drop end bits, within) in (
        omega (arith, size, length-drop end bits, within, fits),
        within,
        sym (ap (λ (n : ℕ). drop n bits) place) ∙ sym (place_left q last leaves),
      )

  -- an EOL of twelve bits
  pub twelve_end : (end : ℕ) → end ≤ length bits → 12 ≤ end → after_eol 0 (drop (end - 12) bits) ≡ Some (drop end bits)
      → EndsEol bits end
  twelve_end end within far e = eol_place (end - 12) end within (eol_ends (drop (end - 12) bits) (drop end bits) e)

  module _ (end : ℕ) where
    pub few_at_first : HaveFewBefore bits end 0
    few_at_first place count lt e = absurd (omega (arith, lt))

    -- none that begins at its end or later ends there
    pub few_past_end : (limit : ℕ) → HaveFewBefore bits end limit → end ≤ limit → IsTagOfLine bits end
    few_past_end limit few past place count e = elim (cases_lt place limit) [
      | inl before ↦ few place count before e
      | inr after ↦ elim (cases_lt 0 count) [
        | inl some ↦ absurd (
            let moved = count_moves counts_tagged (length (drop place bits)) (drop place bits)
            (omega (arith, some, ap (λ (f : ℕ × Bits). f.0) e)) in
            omega (arith, moved, ap (λ (f : ℕ × Bits). length f.1) e, length-drop place bits, length-drop end bits, past, after)
            )
        | inr none ↦ omega (arith, none)
      ]
    ]

    -- where none is found, none ends
    pub few_if_none : (limit : ℕ) → HaveFewBefore bits end limit → next_eol (drop limit bits) ≡ None → IsTagOfLine bits end
    few_if_none limit few none place count e = elim (cases_lt place limit) [
      | inl before ↦ few place count before e
      | inr after ↦
          let there : drop (place - limit) (drop limit bits) ≡ drop place bits
          = drop-drop (place - limit) limit bits ∙ ap (λ (n : ℕ). drop n bits) (omega (arith, after)) in
          let no_eol : after_eol 0 (drop place bits) ≡ None
          = ap (after_eol 0) (sym there) ∙ none_from (drop limit bits) (place - limit) none in
          omega (arith, ap (λ (f : ℕ × Bits). f.0) (sym (all_tagged-none (drop place bits) no_eol) ∙ e))
    ]

-- what was counted before a tag of one was passed after six or more
pub before_last_tag : (found : ℕ × Bits) (count : ℕ) (after : Bits) → pass_last_tag found ≡ (count, after)
    → (found ≡ (count, found.1)) × ((found.1 ≡ after) ⊎ ((6 ≤ count) × (found.1 ≡ true ∷ after)))
before_last_tag (n, []) count after e = grind (arith, common_steps)
before_last_tag (n, false ∷ rest) count after e = grind (arith, common_steps)
before_last_tag (n, true ∷ rest) count after e = by_six (leb 6 n) refl
  where
    by_six : (b : Bool) → leb 6 n ≡ b → (◌≡◌ {A = ℕ × Bits} (n, true ∷ rest) (count, true ∷ rest))
        × (((true ∷ rest) ≡ after) ⊎ ((6 ≤ count) × ((true ∷ rest) ≡ true ∷ after)))
    by_six true is = grind (arith, common_steps, leb-true)
    by_six false is = grind (arith, common_steps)

module _ (bits : Bits) (end limit q next count : ℕ) (short : next ≤ length bits) (within : end ≤ length bits)
    (there : q ≤ length bits)
    (found : next_eol (drop limit bits) ≡ Some (drop q bits)) (counted : tagged_eols (drop q bits)
    ≡ (count, drop next bits)) where
  abbrev rest : Bits
  rest = (all_tagged (drop q bits)).1

  parts : (all_tagged (drop q bits) ≡ (count, rest)) × ((rest ≡ drop next bits) ⊎ ((6 ≤ count) × (rest ≡ true ∷ drop next bits)))
  parts = before_last_tag (all_tagged (drop q bits)) count (drop next bits) counted

  -- how far they reach
  reach : (length rest ≡ length bits - next) ⊎ (length rest ≡ 1 + (length bits - next))
  reach = elim parts.1 [
    | inl same ↦ inl (ap length same ∙ length-drop next bits)
    | inr tag ↦ inr (ap length tag.1 ∙ ap suc (length-drop next bits) ∙ omega arith)
  ]

  -- unless six end at the end, or one bit later with a tag
  pub few_after : HaveFewBefore bits end limit → (6 ≤ count → (next ≢ end) × (next ≢ end + 1)) → HaveFewBefore bits end next
  few_after few other place c lt e = elim (cases_lt place limit) [
    | inl before ↦ few place c before e
    | inr after ↦ elim (cases_lt place q) [
      | inl between ↦
          let same : drop (place - limit) (drop limit bits) ≡ drop place bits
          = drop-drop (place - limit) limit bits ∙ ap (λ (n : ℕ). drop n bits) (omega (arith, after)) in
          let longer : length (drop q bits) < length (drop (place - limit) (drop limit bits))
          = omega (arith, ap length same, length-drop q bits, length-drop place bits, between, there) in
          let none : after_eol 0 (drop place bits) ≡ None
          = ap (after_eol 0) (sym same) ∙ none_before (drop limit bits) (drop q bits) (place - limit) found longer in
          omega (arith, ap (λ (f : ℕ × Bits). f.0) (sym (all_tagged-none (drop place bits) none) ∙ e))
      | inr past ↦
          let same : drop (place - q) (drop q bits) ≡ drop place bits
          = drop-drop (place - q) q bits ∙ ap (λ (n : ℕ). drop n bits) (omega (arith, past)) in
          let fits : length rest + (place - q) ≤ length (drop q bits)
          = omega (arith, reach, length-drop q bits, past, lt, short) in
          at_place (subst (Among count rest) same (among (length (drop q bits)) (place - q) count (drop q bits) rest
          (omega arith) parts.0 fits))
    ]
  ]
    where
      at_place : Among count rest (drop place bits) → c < 6
      at_place (inl none) = omega (arith, ap (λ (f : ℕ × Bits). f.0) (sym none ∙ e))
      at_place (inr some) =
          let fewer : c ≡ some.0 = ap (λ (f : ℕ × Bits). f.0) (sym e ∙ some.2) in
          let ends : length bits - end ≡ length rest
          = sym (length-drop end bits) ∙ ap (λ (f : ℕ × Bits). length f.1) (sym e ∙ some.2) in
          elim (cases_lt c 6) [
            | inl few ↦ few
            | inr six ↦ absurd (
                let not_there = other (omega (arith, six, fewer, some.1)) in
                elim reach [
                  | inl same ↦ not_there.0 (omega (arith, same, ends, short, within))
                  | inr tag ↦ not_there.1 (omega (arith, tag, ends, short, within))
                ]
                )
          ]

  -- six or more ended there
  pub six_there : (end ≡ 0) ⊎ EndsEol bits end → 6 ≤ count → (next ≡ end) ⊎ (next ≡ end + 1) → IsTagOfLine bits end → ⊥
  six_there ends six is tag = elim (cases_lt place end) [
    | inl before ↦ by_end ends (omega (arith, near, before))
    | inr after ↦ elim (cases_lt end place) [
      | inl past ↦ by_past ends (omega (arith, near, past))
      | inr same ↦
          let at_end : rest ≡ drop end bits = left ∙ ap (λ (n : ℕ). drop n bits) (omega (arith, after, same)) in
          omega (arith, six, tag q count (parts.0 ∙ ap (λ (b : Bits). (count, b)) at_end))
    ]
  ]
    where
      place : ℕ
      place = length bits - length rest

      leaves : LeavesBits (drop q bits) rest
      leaves = count_leaves counts_tagged past_tag_leaves (length (drop q bits)) (drop q bits)

      left : rest ≡ drop place bits
      left = place_left bits q rest leaves

      few_left : length rest ≤ length bits
      few_left = omega (arith, ap length leaves.1, length-append leaves.0 rest, length-drop q bits)

      last : LeavesBits (drop q bits) (replicate 11 false ++ true ∷ rest)
      last = let n : count ≡ suc (count - 1) = omega (arith, six) in
          tagged_ends (length (drop q bits)) (count - 1) (drop q bits) rest (omega arith)
          (parts.0 ∙ ap (λ (c : ℕ). (c, rest)) n)

      its_end : EndsEol bits place
      its_end = eol_place bits q place (omega arith) (subst (λ (b : Bits). LeavesBits (drop q bits)
          (replicate 11 false ++ true ∷ b)) left last)

      near : (end ≤ place + 1) × (place ≤ end + 1)
      near = elim reach [
        | inl same ↦ (omega (arith, same, is, short, few_left), omega (arith, same, is, short, few_left))
        | inr tag ↦ (omega (arith, tag, is, short, few_left), omega (arith, tag, is, short, few_left))
      ]

      by_end : (end ≡ 0) ⊎ EndsEol bits end → end ≡ suc place → ⊥
      by_end (inl none) e = omega (arith, none, e)
      by_end (inr there) e = ends_apart bits place its_end (subst (EndsEol bits) e there)

      by_past : (end ≡ 0) ⊎ EndsEol bits end → place ≡ suc end → ⊥
      by_past (inl none) e = omega (arith, none, e, its_end.0)
      by_past (inr there) e = ends_apart bits end there (subst (EndsEol bits) e its_end)

-- ---- What is examined

-- no bit after a one is
looked_to_one : (before after : Bits) → looked (before ++ true ∷ after) + length after ≤ length (before ++ true ∷ after)
looked_to_one [] after = omega arith
looked_to_one (bit ∷ before) after = grind (arith, common_steps, length-append, looked_to_one before after)

-- what was looked at ahead ends with the next EOL
looked_before_eol : (p q r : Bits) → next_eol p ≡ Some q → after_eol 0 q ≡ Some r → looked (drop 1 p) + length r ≤ length p
looked_before_eol p q r found eol =
    let before = next_eol_leaves p q found in
    let zeros = after_eol_is 0 q r eol in
    by_front (before.0 ++ replicate zeros.0 false) (omega (
      arith,
      zeros.2,
      length-append before.0 (replicate zeros.0 false),
      length-replicate zeros.0 false,
    )) (before.1 ∙ ap (λ (b : Bits). before.0 ++ b) zeros.1 ∙ sym (append_assoc before.0 (replicate zeros.0 false) (true ∷ r)))
  where
    by_front : (front : Bits) → 0 < length front → p ≡ front ++ true ∷ r → looked (drop 1 p) + length r ≤ length p
    by_front [] some is = absurd (omega (arith, some))
    by_front (bit ∷ front) some is = rw is (omega (arith, looked_to_one front r))

-- an EOL has twelve bits or more
eol_is_long : (q r : Bits) → after_eol 0 q ≡ Some r → 12 + length r ≤ length q
eol_is_long q r e = let ends = eol_ends q r e in
    omega (
      arith,
      ap length ends.1,
      length-append ends.0 (replicate 11 false ++ true ∷ r),
      length-append (replicate 11 false)
          (true ∷ r),
    )

-- EOLs and tags that are passed are paid by their bits
pub eols_work : (base size ticks0 ticks1 ticks2 : ℕ) (p q r e : Bits) → next_eol p ≡ Some q → after_eol 0 q ≡ Some r
    → length e ≤ length r → ticks0 + 5 * length p ≤ base + 5 * size + looked (drop 1 p)
    → ticks1 + length q ≡ ticks0 + length p + looked q → ticks2 + 2 * length e ≤ ticks1 + 2 * length q + 3 + looked (drop 1 e)
    → ticks2 + 5 * length e ≤ base + 5 * size + looked (drop 1 e)
eols_work base size ticks0 ticks1 ticks2 p q r e found eol leaves before first second =
    omega (
      arith,
      before,
      first,
      second,
      leaves,
      looked_before_eol p q r found eol,
      looked_eol 0 q r eol,
      (next_eol_found p q found).0,
      eol_is_long q r eol,
    )

-- the EOLs and tags that were passed leave what follows the first, or less
tagged_past : (q r : Bits) → after_eol 0 q ≡ Some r → length (tagged_eols q).1 ≤ length r
tagged_past q r e = omega (arith, last_tag_shorter (all_tagged q), count_past counts_tagged q r e)

-- where EOLs are found and passed
pub record Passed (base size ticks0 ticks2 : ℕ) (p e : Bits) : Type 0 where
  pub shorter : length e < length p
  pub work : ticks2 + 5 * length e ≤ base + 5 * size + looked (drop 1 e)

pub passed : (base size ticks0 ticks1 ticks2 count : ℕ) (p q e : Bits) → next_eol p ≡ Some q → tagged_eols q ≡ (count, e)
    → ticks0 + 5 * length p ≤ base + 5 * size + looked (drop 1 p)
    → ticks1 + length q ≡ ticks0 + length p + looked q → ticks2 + 2 * length e ≤ ticks1 + 2 * length q + 3 + looked (drop 1 e)
    → Passed base size ticks0 ticks2 p e
passed base size ticks0 ticks1 ticks2 count p q e found counted before first second =
    let there = next_eol_found p q found in
    let leaves : length e ≤ length there.1.0
    = omega (arith, tagged_past q there.1.0 there.1.1, ap (λ (f : ℕ × Bits). length f.1) counted) in
    record {
      shorter = omega (arith, leaves, eol_is_long q there.1.0 there.1.1, there.0);
      work = eols_work base size ticks0 ticks1 ticks2 p q there.1.0 e found there.1.1 leaves before first second;
    }

-- bits are left where one is found
pub found_within : (bits : Bits) (q : ℕ) (p : Bits) → next_eol p ≡ Some (drop q bits) → q ≤ length bits
found_within bits q p found =
    let there = next_eol_found p (drop q bits) found in
    omega (arith, eol_is_long (drop q bits) there.1.0 there.1.1, length-drop q bits)
