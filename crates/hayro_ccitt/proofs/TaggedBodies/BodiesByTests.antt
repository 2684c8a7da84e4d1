-- The tag and the body of a line, as tests of the bits.
use Rattle.fax_reading.proofs.Names.{length-take-le, length-append, append_assoc, common_steps, [], length-drop, DecodeSettings}
use Rattle.fax_reading.proofs.Names.{IsTagOfLine, IsTaggedBody, IsPrefix, take-append-drop, Group3_1D, Group3_2D}
use Rattle.fax_reading.proofs.Names.{after_eol, drop-drop, replicate, next_eol, line_1d, Line, IsTrue, Option}
use Rattle.fax_reading.proofs.Names.{arith, false, true, subst, Bits, Bool, List, None, Some, drop, take, refl, zero, suc, sym}
use Rattle.fax_reading.proofs.Names.{ap, length}
use Rattle.fax_reading.proofs.Names.{◌++◌, ◌+◌, ◌-◌, ◌<◌, ◌≤◌, ◌↔◌, ◌∙◌, ◌∷◌, ◌≡◌, ◌≢◌, ◌⊎◌, ℕ, EndsBefore}
use Rattle.fax_reading.specs.LocalityByK.{IsReadBefore}
use Rattle.fax_reading.proofs.DamagedLines.BodyTests.{local_by_tests}
use Rattle.fax_reading.proofs.DamagedLines.LineTails.{drop_at, zeros_of_eol}
use Rattle.std.proofs.Math.Seq.{take-add}
use Rattle.hayro_ccitt.specs.TaggedBodies.{IsLocal2D, IsTaggedBodyTo}

-- ---- A one between two positions

none_in_zeros : (n : ℕ) (before after : Bits) → before ++ true ∷ after ≡ replicate n false → ⊥
none_in_zeros zero [] after e = absurd cc
none_in_zeros zero (b ∷ before) after e = absurd cc
none_in_zeros (suc n) [] after e = absurd cc
none_in_zeros (suc n) (b ∷ before) after e = grind (arith, none_in_zeros n before after)

one_in : (bits : Bits) → bits ≢ replicate (length bits) false → (before after : Bits) × (bits ≡ before ++ true ∷ after)
one_in [] not_zeros = absurd (not_zeros refl)
one_in (true ∷ bits) not_zeros = ([], bits, refl)
one_in (false ∷ bits) not_zeros = let f = one_in bits (λ e. not_zeros (ap (λ (b : Bits). false ∷ b) e)) in
    (false ∷ f.0, f.1, ap (λ (b : Bits). false ∷ b) f.2)

take_parts : {A : Type 0} (j m : ℕ) (xs : List A) → j ≤ m → take m xs ≡ take j xs ++ take (m - j) (drop j xs)
take_parts j m xs le =
    let e : m ≡ j + (m - j) = omega arith in ap (λ (n : ℕ). take n xs) e ∙ take-add j (m - j) xs

module _ (bits : Bits) (from to : ℕ) (order : from ≤ to) (within : to ≤ length bits) where
  abbrev between : Bits
  between = take (to - from) (drop from bits)

  between_length : length between ≡ to - from
  between_length = length-take-le (to - from) (drop from bits) (omega (arith, length-drop from bits, order, within))

  pub one_found : between ≢ replicate (to - from) false
      → (place : ℕ) × (from ≤ place) × (place < to) × IsPrefix (true ∷ []) (drop place bits)
  one_found some =
      let f = one_in between (λ e. some (e ∙ ap (λ (n : ℕ). replicate n false) between_length)) in
      let line : drop from bits ≡ f.0 ++ (true ∷ (f.1 ++ drop (to - from) (drop from bits)))
      = sym (take-append-drop (to - from) (drop from bits)) ∙ ap (λ (b : Bits). b ++ drop (to - from) (drop from bits)) f.2
      ∙ append_assoc f.0 (true ∷ f.1) (drop (to - from) (drop from bits)) in (
        from + length f.0,
        omega arith,
        omega (arith, between_length, ap length f.2, length-append f.0 (true ∷ f.1), order),
        (
          f.1 ++ drop (to - from) (drop from bits),
          sym (drop-drop (length f.0) from bits)
              ∙ drop_at (drop from bits) f.0 (true ∷ (f.1 ++ drop (to - from) (drop from bits))) (length f.0) line refl,
        ),
      )

  pub one_there : (place : ℕ) × (from ≤ place) × (place < to) × IsPrefix (true ∷ []) (drop place bits)
      → between ≢ replicate (to - from) false
  one_there one e =
      let j : ℕ = one.0 - from in
      let m : ℕ = ((to - from) - j) - 1 in
      let left : (to - from) - j ≡ suc m = omega (arith, one.1, one.2) in
      let there : drop j (drop from bits) ≡ true ∷ one.3.0 = grind (arith, common_steps, drop-drop) in
      let split : between ≡ take j (drop from bits) ++ true ∷ take m one.3.0
      = take_parts j (to - from) (drop from bits) (omega (arith, one.1, one.2))
      ∙ ap (λ (n : ℕ). take j (drop from bits) ++ take n (drop j (drop from bits))) left
      ∙ ap (λ (b : Bits). take j (drop from bits) ++ take (suc m) b) there in
      none_in_zeros (to - from) (take j (drop from bits)) (take m one.3.0) (sym split ∙ e)

-- ---- All premises on a body but the last

-- settings of one-dimensional data without columns: a line has no bits
abbrev bare : DecodeSettings → DecodeSettings
bare settings = record settings { encoding = Group3_1D; strict = false; columns = 0 }

-- such a line ends where it begins
bare_line : (here : Bits) → line_1d false 0 here ≡ Line.whole [] here
bare_line here = refl

bare_ends : (here after : Bits) → length after + 12 ≤ length here → EndsBefore 0 after here
bare_ends here after far row rest e =
    let both : Line.whole [] here ≡ Line.whole row rest = sym (bare_line here) ∙ e in
    let same : here ≡ rest = cc in omega (arith, far, ap length same)

-- an EOL has twelve bits or more
eol_takes : (here after : Bits) → after_eol 0 here ≡ Some after → length after + 12 ≤ length here
eol_takes here after e = let zeros = zeros_of_eol here after e in
    omega (
      arith,
      ap length zeros.1,
      length-append (replicate zeros.0 false ++ replicate 11 false) (true ∷ after),
      length-append (replicate zeros.0 false) (replicate 11 false),
    )

module _ (settings : DecodeSettings) (bits after : Bits) (from to : ℕ) (order : from < to) (within : to ≤ length bits)
    (eol : after_eol 0 (drop to bits) ≡ Some after) where
  far : length after + 12 ≤ length (drop from bits)
  far = omega (arith, eol_takes (drop to bits) after eol, length-drop to bits, length-drop from bits, order, within)

  -- what the tests say
  pub by_tests : (end : ℕ) → after ≡ drop end bits → end ≤ length bits
      → (from ≡ 0) ⊎ ((12 ≤ from) × (after_eol 0 (drop (from - 12) bits) ≡ Some (drop from bits)))
      → take (to - (from + 1)) (drop (from + 1) bits) ≢ replicate (to - (from + 1)) false
      → next_eol (take (to - from) (drop from bits)) ≡ None → IsTagOfLine bits from → IsTaggedBodyTo bits from to end
  by_tests end is short starts one no_eol tag =
      let place = one_found bits (from + 1) to (omega (arith, order)) within one in
      let local = (local_by_tests (bare settings) bits from to).1 (record {
        encoding = refl;
        lenient = refl;
        order = omega (arith, order);
        within = within;
        starts = starts;
        one = one_there bits from to (omega (arith, order)) within (place.0, omega (arith, place.1), place.2, place.3);
        no_eol = no_eol;
        closes = (after, eol, bare_ends (drop from bits) after far);
      }) in
      record {
        within = within;
        starts = local.starts;
        tag = tag;
        one = (place.0, omega (arith, place.1), place.2, place.3);
        no_eol = local.no_eol;
        eol = eol ∙ ap (λ (b : Bits). Some b) is;
        short = short;
      }

  -- a body passes the tests
  pub passes_tests : (given : DecodeSettings) (body : IsTaggedBody given bits from to)
      → ((from ≡ 0) ⊎ ((12 ≤ from) × (after_eol 0 (drop (from - 12) bits) ≡ Some (drop from bits))))
      × (next_eol (take (to - from) (drop from bits)) ≡ None)
  passes_tests given body =
      let tests = (local_by_tests (bare settings) bits from to).0 (record {
        encoding = refl;
        lenient = refl;
        order = omega (arith, order);
        within = within;
        starts = body.starts;
        one = (body.one.0, omega (arith, body.one.1), body.one.2, body.one.3);
        no_eol = body.no_eol;
        closes = (after, eol, bare_ends (drop from bits) after far);
      }) in (tests.starts, tests.no_eol)

-- where the EOL after a body ends
pub ends_far : (bits : Bits) (from to end : ℕ) → IsTaggedBodyTo bits from to end → from + 13 ≤ end
ends_far bits from to end body = omega (
  arith,
  eol_takes (drop to bits) (drop end bits) body.eol,
  length-drop to bits,
  length-drop end bits,
  body.within,
  body.short,
  body.one.1,
  body.one.2,
)

-- a body has a one after its tag
pub body_has_one : (given : DecodeSettings) (bits : Bits) (from to : ℕ) → IsTaggedBody given bits from to → (from + 1 ≤ to)
    × (take (to - (from + 1)) (drop (from + 1) bits) ≢ replicate (to - (from + 1)) false)
body_has_one given bits from to body = (
  omega (arith, body.one.1, body.one.2),
  one_there bits (from + 1) to (omega (arith, body.one.1, body.one.2)) body.within
      (body.one.0, omega (arith, body.one.1), body.one.2, body.one.3),
)

-- so it passes the others
pub body_tests : (given : DecodeSettings) (bits : Bits) (from to : ℕ) → IsTaggedBody given bits from to
    → ((from ≡ 0) ⊎ ((12 ≤ from) × (after_eol 0 (drop (from - 12) bits) ≡ Some (drop from bits))))
    × (next_eol (take (to - from) (drop from bits)) ≡ None)
body_tests given bits from to body = passes_tests given bits body.closes.0 from to (omega (arith, body.one.1, body.one.2))
    body.within body.closes.1 given body

-- so it is local if the line is read before its EOL
pub local_if_read : (settings : DecodeSettings) (bits : Bits) (from to end : ℕ) (read : Bool)
    → (settings.encoding ≡ Group3_2D) × (settings.strict ≡ false) → IsTaggedBodyTo bits from to end
    → IsTrue read ↔ IsReadBefore settings bits from (drop end bits) → IsTrue read ↔ IsLocal2D settings bits from to
local_if_read settings bits from to end read lenient body says = (
  λ is. record {
    encoding = lenient.0;
    lenient = lenient.1;
    body = record {
      within = body.within;
      starts = body.starts;
      tag = body.tag;
      one = body.one;
      no_eol = body.no_eol;
      closes = (drop end bits, body.eol, says.0 is);
    };
  },
  λ local. says.1 (same_end local.body.closes.0 (sym local.body.closes.1 ∙ body.eol) local.body.closes.2),
)
  where
    same_end : (after : Bits) → ◌≡◌ {A = Option Bits} (Some after) (Some (drop end bits)) → IsReadBefore settings bits from after
        → IsReadBefore settings bits from (drop end bits)
    same_end after e is = let same : after ≡ drop end bits = cc in
        subst (λ (x : Bits). IsReadBefore settings bits from x) same is
