-- Locality of a body, as tests of the bits, and these as they are made.
use Rattle.fax_reading.proofs.Names.{replicate-append-replicate, length-replicate, take-append-drop, DecodeSettings, LocalByTests}
use Rattle.fax_reading.proofs.Names.{IsLocalByTests, length-take-le, leading_zeros, length-append, append_assoc, common_steps, []}
use Rattle.fax_reading.proofs.Names.{line_from_1d, DecodeError, OutOfMemory, length-drop, EndsBefore, DrawsLine, Group3_1D, IsEol}
use Rattle.fax_reading.proofs.Names.{after_eol, drop-drop, none-some, replicate, cases_lt, eqb-true, leb-true, ltb-true, next_eol}
use Rattle.fax_reading.proofs.Names.{IsLocal, is_some, line_1d, BitsAt, IsTrue, Option, eq-eqb, le-leb, length, lt-leb, lt-ltb, ℕ}
use Rattle.fax_reading.proofs.Names.{arith, false, fresh, subst, Bits, Bool, Held, Line, List, None, Some, drop, here, refl, take}
use Rattle.fax_reading.proofs.Names.{true, zero, ◌++◌, Err, Row, eqb, inl, inr, leb, ltb, suc, sym, ◌+◌, ◌-◌, ◌<◌, ◌↔◌, ◌∙◌, ◌∷◌}
use Rattle.fax_reading.proofs.Names.{◌≡◌, ◌≢◌, ◌≤◌, ◌⊎◌, ap}
use Rattle.fax_reading.proofs.DamagedLines.LineTails.{none_in_body, body_1d, drop_at}
use Rattle.fax_reading.proofs.DamagedLines.PastEol.{after_eol_is, past-front, then_after, past_is, past}
use Rattle.std.proofs.Math.Seq.{take-add}
use Rattle.fax_bits.proofs.BitReading.ConsecutiveEols.{next_eol_found, eol_of}
use Rattle.fax_reading.proofs.KeptRows.EqualFronts.{past_front}

-- no zeros contain a one
no_one_in_zeros : (n : ℕ) (before after : Bits) → before ++ true ∷ after ≡ replicate n false → ⊥
no_one_in_zeros zero [] after e = absurd cc
no_one_in_zeros zero (b ∷ before) after e = absurd cc
no_one_in_zeros (suc n) [] after e = absurd cc
no_one_in_zeros (suc n) (b ∷ before) after e = grind (arith, no_one_in_zeros n before after)

-- bits that aren't all zeros contain a one
holds_one : (bits : Bits) → bits ≢ replicate (length bits) false → (before after : Bits) × (bits ≡ before ++ true ∷ after)
holds_one [] not_zeros = absurd (not_zeros refl)
holds_one (true ∷ bits) not_zeros = ([], bits, refl)
holds_one (false ∷ bits) not_zeros = let f
    = holds_one bits (λ e. not_zeros (ap (λ (b : Bits). false ∷ b) e)) in (false ∷ f.0, f.1, ap (λ (b : Bits). false ∷ b) f.2)

-- if none is found, there is none further on
none_further : (before here : Bits) → next_eol (before ++ here) ≡ None → after_eol 0 here ≡ None
none_further [] here e = by_here here e
  where
    by_here : (here : Bits) → next_eol here ≡ None → after_eol 0 here ≡ None
    by_here [] e = refl
    by_here (bit ∷ here) e = grind (arith, common_steps)
none_further (bit ∷ before) here e = grind (arith, none_further before here)

take_zeros : (k m : ℕ) (rest : Bits) → k < m
    → take m (replicate k false ++ true ∷ rest) ≡ replicate k false ++ true ∷ take (m - (k + 1)) rest
take_zeros k zero rest lt = absurd (omega arith)
take_zeros zero (suc m) rest lt = let e : suc m - (0 + 1) ≡ m = omega arith in ap (λ (n : ℕ). true ∷ take n rest) (sym e)
take_zeros (suc k) (suc m) rest lt = grind (arith, common_steps, rest, take_zeros k m rest (omega arith))

take-split : {A : Type 0} (j m : ℕ) (xs : List A) → j ≤ m → take m xs ≡ take j xs ++ take (m - j) (drop j xs)
take-split j m xs le =
    let e : m ≡ j + (m - j) = omega arith in ap (λ (n : ℕ). take n xs) e ∙ take-add j (m - j) xs

-- how far an EOL reaches
eol_lengths : (bits : Bits) (place end zeros : ℕ) → drop place bits ≡ replicate zeros false ++ true ∷ drop end bits
    → length bits - place ≡ zeros + (1 + (length bits - end))
eol_lengths bits place end zeros is = let step = length-append (replicate zeros false) (true ∷ drop end bits) in
    grind (arith, common_steps, step, length-drop place bits, length-drop end bits, length-replicate zeros false)

module _ (settings : DecodeSettings) (bits : Bits) (from to : ℕ) where
  from_tests : IsLocalByTests settings bits from to → IsLocal settings bits from to
  from_tests tests = record {
    encoding = tests.encoding;
    lenient = tests.lenient;
    order = tests.order;
    within = tests.within;
    starts = grind arith;
    one = one;
    no_eol = no_eol;
    closes = tests.closes;
  }
    where
      body : Bits
      body = take (to - from) (drop from bits)

      body_length : length body ≡ to - from
      body_length = length-take-le (to - from) (drop from bits) (omega (arith, length-drop from bits, tests.order, tests.within))

      one : (place : ℕ) × (from ≤ place) × (place < to) × ((more : Bits) × (drop place bits ≡ true ∷ more))
      one =
          let f = holds_one body (λ e. tests.one (e ∙ ap (λ (n : ℕ). replicate n false) body_length)) in
          let line : drop from bits ≡ f.0 ++ (true ∷ (f.1 ++ drop (to - from) (drop from bits))) =
          sym (take-append-drop (to - from) (drop from bits)) ∙ ap (λ (b : Bits). b ++ drop (to - from) (drop from bits)) f.2
          ∙ append_assoc f.0 (true ∷ f.1) (drop (to - from) (drop from bits)) in (
            from + length f.0,
            omega arith,
            omega (arith, body_length, ap length f.2, length-append f.0 (true ∷ f.1), tests.order),
            (
              f.1 ++ drop (to - from) (drop from bits),
              sym (drop-drop (length f.0) from bits)
                  ∙ drop_at (drop from bits) f.0 (true ∷ (f.1 ++ drop (to - from) (drop from bits))) (length f.0) line refl,
            ),
          )

      no_eol : (place end : ℕ) → from ≤ place → end ≤ to → IsEol bits place end → ⊥
      no_eol place end le le2 (lt, inside, eol) = let is = after_eol_is 0 (drop place bits) (drop end bits) eol in
          let j : ℕ = place - from in
          let there : drop j (drop from bits) ≡ replicate is.0 false ++ true ∷ drop end bits = grind
          (arith, common_steps, drop-drop) in
          let lengths = eol_lengths bits place end is.0 is.1 in
          let fits : is.0 < (to - from) - j = omega (arith, lengths, le, le2, lt, tests.order, tests.within) in
          let split : body ≡ take j (drop from bits)
          ++ (replicate is.0 false ++ true ∷ take (((to - from) - j) - (is.0 + 1)) (drop end bits)) = take-split j (to - from)
          (drop from bits) (omega (arith, le, le2, lt)) ∙ ap (λ (b : Bits). take j (drop from bits) ++ take ((to - from) - j) b)
          there ∙ ap (λ (b : Bits). take j (drop from bits) ++ b) (take_zeros is.0 ((to - from) - j) (drop end bits) fits) in
          grind (arith, none_further, eol_of)

  -- a local body passes the tests
  pub to_tests : IsLocal settings bits from to → IsLocalByTests settings bits from to
  to_tests local = record {
    encoding = local.encoding;
    lenient = local.lenient;
    order = local.order;
    within = local.within;
    starts = elim local.starts [ inl e ↦ inl e | inr e ↦ inr (twelve e.0 e.1) ];
    one = one;
    no_eol = none_found (next_eol (take (to - from) (drop from bits))) refl;
    closes = local.closes;
  }
    where
      twelve : (place : ℕ) → IsEol bits place from → (12 ≤ from) × (after_eol 0 (drop (from - 12) bits) ≡ Some (drop from bits))
      twelve place (lt, inside, eol) = let is = after_eol_is 0 (drop place bits) (drop from bits) eol in
          let more : ℕ = is.0 - 11 in
          grind (
            arith,
            common_steps,
            replicate-append-replicate more 11 false,
            append_assoc (replicate more false) (replicate 11 false) (true ∷ drop from bits),
            drop-drop more place bits,
            drop_at (drop place bits) (replicate more false) (replicate 11 false ++ true ∷ drop from bits) more,
            length-replicate more false,
          )

      one : take (to - from) (drop from bits) ≢ replicate (to - from) false
      one e = let j : ℕ = local.one.0 - from in
          let m : ℕ = ((to - from) - j) - 1 in
          let left : (to - from) - j ≡ suc m = omega (arith, local.one.1, local.one.2) in
          let there : drop j (drop from bits) ≡ true ∷ local.one.3.0 = grind (arith, common_steps, drop-drop) in
          let split : take (to - from) (drop from bits) ≡ take j (drop from bits) ++ true ∷ take m local.one.3.0 = take-split j
          (to - from) (drop from bits) (omega (arith, local.one.1, local.one.2)) ∙ ap (λ (n : ℕ). take j (drop from bits) ++ take
          n (drop j (drop from bits))) left ∙ ap (λ (b : Bits). take j (drop from bits) ++ take (suc m) b) there in
          no_one_in_zeros (to - from) (take j (drop from bits)) (take m local.one.3.0) (sym split ∙ e)

      none_found : (o : Option Bits) → next_eol (take (to - from) (drop from bits)) ≡ o
          → next_eol (take (to - from) (drop from bits)) ≡ None
      none_found None e = e
      none_found (Some found) e = let f = next_eol_found (take (to - from) (drop from bits)) found e in
          let both : ◌≡◌ {A = Option Bits} None (Some f.1.0) = sym (none_in_body bits from to local.closes.0
          (body_1d settings bits from to local)) ∙ past_is (take (to - from) (drop from bits)) ∙ ap then_after e ∙ f.1.1 in
          absurd cc

-- the law
pub local_by_tests : LocalByTests
local_by_tests settings bits from to = (to_tests settings bits from to, from_tests settings bits from to)

-- ---- An EOL before a position.
-- the EOL of the twelve bits before a position ends there
pub following_eol : (bits : Bits) (place end : ℕ) → 12 ≤ place → place ≤ length bits → end ≤ length bits
    → after_eol 0 (drop (place - 12) bits) ≡ Some (drop end bits)
    → IsTrue (eqb end place) ↔ ((place ≡ 0) ⊎ ((12 ≤ place) × (after_eol 0 (drop (place - 12) bits) ≡ Some (drop place bits))))
following_eol bits place end far within there eol =
    grind (arith, common_steps, eqb-true, eq-eqb, length-drop end bits, length-drop place bits)

-- ---- A one in a body.
zeros_only : (m : ℕ) (here : Bits) → m ≤ leading_zeros here → take m here ≡ replicate m false
zeros_only zero here le = refl
zeros_only (suc m) [] le = absurd (omega (arith, le))
zeros_only (suc m) (true ∷ here) le = absurd (omega (arith, le))
zeros_only (suc m) (false ∷ here) le = ap (λ (b : Bits). false ∷ b) (zeros_only m here (omega (arith, le)))

one_in_front : (m : ℕ) (here : Bits) → m ≤ length here → leading_zeros here < m → take m here ≡ replicate m false → ⊥
one_in_front zero here fits lt e = absurd (omega (arith, lt))
one_in_front (suc m) [] fits lt e = absurd (omega (arith, fits))
one_in_front (suc m) (true ∷ here) fits lt e = absurd cc
one_in_front (suc m) (false ∷ here) fits lt e = grind (arith, common_steps, one_in_front m here (omega (arith, fits)))

-- some bits contain a one if fewer zeros are here
pub one_by_zeros : (m zeros : ℕ) (here : Bits) → m ≤ length here → zeros ≡ leading_zeros here
    → IsTrue (ltb zeros m) ↔ (take m here ≢ replicate m false)
one_by_zeros m zeros here fits is = grind (arith, common_steps, cases_lt, lt-ltb, ltb-true, one_in_front, zeros_only)

-- ---- An EOL in a body.
-- an EOL is found where one ends
found_ends : (here : Bits) → is_some (next_eol here) ≡ is_some (past 0 here)
found_ends here = by_next_eol (next_eol here) refl ∙ ap is_some (sym (past_is here))
  where
    by_next_eol : (o : Option Bits) → next_eol here ≡ o → is_some (next_eol here) ≡ is_some (then_after (next_eol here))
    by_next_eol None e = rw e refl
    by_next_eol (Some found) e = let f = next_eol_found here found e in rw (e, f.1.1) refl

-- if there is no EOL, there is none in the first bits
pub no_eol_in_front : (m : ℕ) (here : Bits) → next_eol here ≡ None → is_some (next_eol (take m here)) ≡ false
no_eol_in_front m here none = found_ends (take m here) ∙ by_past (past 0 (take m here)) refl
  where
    by_past : (o : Option Bits) → past 0 (take m here) ≡ o → is_some (past 0 (take m here)) ≡ false
    by_past None e = rw e refl
    by_past (Some after) e = absurd (let whole = past-front 0 (take m here) after (drop m here) e in let nothing : past 0 here
        ≡ None = past_is here ∙ ap then_after none in let both : ◌≡◌ {A = Option Bits} None
        (Some (after ++ drop m here)) = sym nothing ∙ ap (past 0) (sym (take-append-drop m here)) ∙ whole in cc)

-- the next EOL is in the first bits if it ends there
eol_in_front : (m : ℕ) (here found after : Bits) → next_eol here ≡ Some found → after_eol 0 found ≡ Some after
    → is_some (next_eol (take m here)) ≡ leb (length (drop m here)) (length after)
eol_in_front m here found after next eol = found_ends (take m here) ∙ by_past (past 0 (take m here)) refl
  where
    whole : past 0 (take m here ++ drop m here) ≡ Some after
    whole = ap (past 0) (take-append-drop m here) ∙ past_is here ∙ ap then_after next ∙ eol

    by_past : (o : Option Bits) → past 0 (take m here) ≡ o
        → is_some (past 0 (take m here)) ≡ leb (length (drop m here)) (length after)
    by_past None e = grind (
      arith,
      lt-leb,
      cases_lt (length after) (length (drop m here)),
      past_front (drop m here) 0 (take m here) after whole,
    )
    by_past (Some front) e =
        grind (arith, common_steps, past-front 0 (take m here) front (drop m here) e, whole, le-leb, length-append)

-- an EOL is between two positions if the next one ends there
pub eol_by_ends : (bits : Bits) (from to end : ℕ) (found : Bits) → from ≤ to
    → to ≤ length bits → end ≤ length bits → next_eol (drop from bits) ≡ Some found → after_eol 0 found ≡ Some (drop end bits)
    → is_some (next_eol (take (to - from) (drop from bits))) ≡ leb end to
eol_by_ends bits from to end found order within le next eol =
    let step = eol_in_front (to - from) (drop from bits) found (drop end bits) next eol in
    grind (arith, le-leb, lt-leb, drop-drop, length-drop, cases_lt)

-- the next EOL, if one is found, is there
pub eol_found_stands : (here found : Bits) → next_eol here ≡ Some found → after_eol 0 found ≡ None → ⊥
eol_found_stands here found next none = grind (arith, common_steps, next_eol_found here found next, none-some)

-- ---- The end of a line.
-- the line that a lenient context reads
pub lenient_line : (held : Held) (settings : DecodeSettings) (at : BitsAt) (rest : Bits) → held ≡ fresh settings
    → settings.strict ≡ false → here at ≡ rest → line_from_1d held (here at) ≡ line_1d false settings.columns rest
lenient_line held settings at rest is lenient same = ap (λ (h : Held). line_from_1d h (here at)) is
    ∙ ap (λ (b : Bool). line_1d b settings.columns (here at)) lenient ∙ ap (λ (b : Bits). line_1d false settings.columns b) same

-- a whole line ends before an EOL does by twelve bits
pub whole_ends : (columns place end : ℕ) (bits here rest : Bits) (row : Row) → line_1d false columns here ≡ Line.whole row rest
    → rest ≡ drop place bits → place ≤ length bits → end ≤ length bits → IsTrue (leb (place + 12) end)
    ↔ EndsBefore columns (drop end bits) here
whole_ends columns place end bits here rest row is at within le = (
  grind (arith, leb-true, length-drop),
  λ ends. le-leb (place + 12) end
      (omega (arith, ends row rest is, ap length at, length-drop place bits, length-drop end bits, within, le)),
)

-- a broken line has no end
pub broken_ends : (columns : ℕ) (after here rest : Bits) (front : Row) (fault : DecodeError) → fault ≢ OutOfMemory
    → DrawsLine (line_1d false columns here) (Err fault) front rest → EndsBefore columns after here
broken_ends columns after here rest front fault other is row rest2 is2 = grind (arith, common_steps)

-- if the other tests succeed, a body is local if its line ends before the EOL after it
pub local_by_end : (settings : DecodeSettings) (bits : Bits) (from to end : ℕ) (before : Bool)
    → (settings.encoding ≡ Group3_1D) × (settings.strict ≡ false) → from ≤ to → to ≤ length bits → (from ≡ 0) ⊎ ((12 ≤ from)
    × (after_eol 0 (drop (from - 12) bits) ≡ Some (drop from bits))) → take (to - from) (drop from bits) ≢ replicate (to - from)
    false → is_some (next_eol (take (to - from) (drop from bits))) ≡ false → after_eol 0 (drop to bits) ≡ Some (drop end bits)
    → IsTrue before ↔ EndsBefore settings.columns (drop end bits) (drop from bits) → IsTrue before ↔ IsLocal settings bits from to
local_by_end settings bits from to end before lenient order within starts one no_eol eol ends = (
  λ test. (local_by_tests settings bits from to).1 (record {
    encoding = lenient.0;
    lenient = lenient.1;
    order = order;
    within = within;
    starts = starts;
    one = one;
    no_eol = grind (arith, common_steps);
    closes = (drop end bits, eol, ends.0 test);
  }),
  λ local. ends.1 (same_end local.closes.0 (sym local.closes.1 ∙ eol) local.closes.2),
)
  where
    same_end : (after : Bits) → ◌≡◌ {A = Option Bits} (Some after) (Some (drop end bits))
        → EndsBefore settings.columns after (drop from bits) → EndsBefore settings.columns (drop end bits) (drop from bits)
    same_end after e is = let same : after ≡ drop end bits = cc in
        subst (λ (x : Bits). EndsBefore settings.columns x (drop from bits)) same is
