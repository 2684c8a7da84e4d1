-- Where a picture by the coding procedure ends.
use Rattle.hayro_ccitt.proofs.Names.{◌≡◌, ℕ, zero, suc, ◌-◌, ◌<◌, ◌≤◌, Bool, true, false, Option, Some, None, ◌∷◌, ◌++◌, ◌↔◌}
use Rattle.hayro_ccitt.proofs.Names.{length, replicate, refl, ap, sym, subst, ◌∙◌, append_assoc, append_cancel_left, arith, Bits}
use Rattle.hayro_ccitt.proofs.Names.{BitsAt, EncodingMode, Group3_2D, eol, tag_of, here, is_some, length-replicate, IfSome}
use Rattle.hayro_ccitt.proofs.Names.{◌≢◌, ◌⊎◌, DecodeSettings, Group3_1D, Group4, inl, inr}
use Rattle.std.specs.Prelude.{IfNone, IsTrue, not}
use Rattle.fax_conforms.specs.Conforming.{TaggedEolStands}
use Rattle.fax_conforms.specs.ByProcedure.{ClosingStands, EndStands, FewZerosStand, PlainRtcStands, tagged_eols}
use Rattle.fax_conforms.proofs.EolsHere.{one_eol}

-- ---- Zeros at the end.
no_one_there : (m n : ℕ) (rest : Bits) → replicate m false ≡ replicate n false ++ true ∷ rest → ⊥
no_one_there zero zero rest e = absurd cc
no_one_there zero (suc n) rest e = absurd cc
no_one_there (suc m) zero rest e = absurd cc
no_one_there (suc m) (suc n) rest e =
    no_one_there m n rest (let f : replicate m false ≡ replicate n false ++ true ∷ rest = cc in f)

-- fewer than eight zeros were counted up to a one, or up to the end
pub few_zeros_counted : (o : Option BitsAt) (n : ℕ) (start bits : Bits) (ended : Bool) → n < 8 → is_some o ≡ not ended
    → IfSome o (λ after. (after.bits ≡ bits) × (start ≡ replicate n false ++ true ∷ here after))
    → IfNone o (start ≡ replicate n false) → IsTrue ended ↔ FewZerosStand start
few_zeros_counted (Some after) n start bits true few e one none = absurd cc
few_zeros_counted (Some after) n start bits false few e one none =
    (λ t. absurd cc, λ (zeros, some, is). absurd (no_one_there zeros n (here after) (sym is ∙ one.1)))
few_zeros_counted None n start bits true few e one none = (λ t. (n, few, none), λ stands. refl)
few_zeros_counted None n start bits false few e one none = absurd cc

-- or more
pub more_zeros_counted : (o : Option BitsAt) (n : ℕ) (start bits : Bits) → 8 ≤ n
    → IfSome o (λ after. (after.bits ≡ bits) × (start ≡ replicate n false ++ true ∷ here after))
    → IfNone o (start ≡ replicate n false) → FewZerosStand start → ⊥
more_zeros_counted (Some after) n start bits many one none (zeros, few, is) =
    no_one_there zeros n (here after) (sym is ∙ one.1)
more_zeros_counted None n start bits many one none (zeros, few, is) =
    let same : zeros ≡ n = sym (length-replicate zeros false) ∙ ap length (sym is ∙ none) ∙ length-replicate n false in
    omega (arith, few, same, many)

-- ---- RTC.

-- after its first EOL
pub rtc_begins : (encoding : EncodingMode) (here next rest : Bits) → TaggedEolStands encoding here next
    → PlainRtcStands encoding here rest ↔ (next ≡ tagged_eols encoding 5 ++ rest)
rtc_begins encoding here next rest (m, stands) = (to, back)
  where
    to : PlainRtcStands encoding here rest → next ≡ tagged_eols encoding 5 ++ rest
    to (n, is) =
        let same = one_eol here (tag_of encoding ++ next) (tag_of encoding ++ (tagged_eols encoding 5 ++ rest)) (m, stands)
        (n, is) in append_cancel_left (tag_of encoding) next (tagged_eols encoding 5 ++ rest) same

    back : next ≡ tagged_eols encoding 5 ++ rest → PlainRtcStands encoding here rest
    back is = (m, stands ∙ ap (λ (x : Bits). eol m ++ (tag_of encoding ++ x)) is)

pub no_rtc : (encoding : EncodingMode) (here rest : Bits) → ((next : Bits) → TaggedEolStands encoding here next → ⊥)
    → PlainRtcStands encoding here rest → ⊥
no_rtc encoding here rest none (n, is) = none (tagged_eols encoding 5 ++ rest) (n, is)

-- the first EOL, and the others
pub split_eols : (encoding : EncodingMode) (n : ℕ) (rest : Bits)
    → tagged_eols encoding (suc n) ++ rest ≡ eol 0 ++ (tag_of encoding ++ (tagged_eols encoding n ++ rest))
split_eols encoding n rest = append_assoc (eol 0) (tag_of encoding ++ tagged_eols encoding n) rest
    ∙ ap (λ (x : Bits). eol 0 ++ x) (append_assoc (tag_of encoding) (tagged_eols encoding n) rest)

-- one EOL fewer
pub one_tagged_eol : (encoding : EncodingMode) (left : ℕ) (here next rest : Bits) → 0 < left
    → here ≡ eol 0 ++ (tag_of encoding ++ next)
    → (here ≡ tagged_eols encoding left ++ rest) ↔ (next ≡ tagged_eols encoding (left - 1) ++ rest)
one_tagged_eol encoding zero here next rest some is = absurd (omega arith)
one_tagged_eol encoding (suc m) here next rest some is = (to, back)
  where
    fewer : tagged_eols encoding m ++ rest ≡ tagged_eols encoding (suc m - 1) ++ rest
    fewer = let e : m ≡ suc m - 1 = omega arith in ap (λ (n : ℕ). tagged_eols encoding n ++ rest) e

    to : here ≡ tagged_eols encoding (suc m) ++ rest → next ≡ tagged_eols encoding (suc m - 1) ++ rest
    to stands = append_cancel_left (tag_of encoding) next (tagged_eols encoding m ++ rest)
        (append_cancel_left (eol 0) (tag_of encoding ++ next) (tag_of encoding ++ (tagged_eols encoding m ++ rest))
        (sym is ∙ stands ∙ split_eols encoding m rest)) ∙ fewer

    back : next ≡ tagged_eols encoding (suc m - 1) ++ rest → here ≡ tagged_eols encoding (suc m) ++ rest
    back follows = is ∙ ap (λ (x : Bits). eol 0 ++ (tag_of encoding ++ x)) (follows ∙ sym fewer)
        ∙ sym (split_eols encoding m rest)

pub no_tagged_eol : (encoding : EncodingMode) (left : ℕ) (here rest : Bits) → 0 < left
    → ((next : Bits) → here ≡ eol 0 ++ (tag_of encoding ++ next) → ⊥) → here ≡ tagged_eols encoding left ++ rest → ⊥
no_tagged_eol encoding zero here rest some none stands = absurd (omega arith)
no_tagged_eol encoding (suc m) here rest some none stands =
    none (tagged_eols encoding m ++ rest) (stands ∙ split_eols encoding m rest)

pub no_eols_left : (encoding : EncodingMode) (left : ℕ) (here rest : Bits) → 0 ≡ left
    → (here ≡ tagged_eols encoding left ++ rest) ↔ (here ≡ rest)
no_eols_left encoding zero here rest none = (λ e. e, λ e. e)
no_eols_left encoding (suc m) here rest none = absurd (omega arith)

-- ---- The end of the block.

pub is_group3 : (encoding : EncodingMode) → (encoding ≡ Group3_1D) ⊎ (encoding ≡ Group3_2D) → encoding ≢ Group4
is_group3 encoding (inl one) = λ four. let e : Group3_1D ≡ Group4 = sym one ∙ four in cc
is_group3 encoding (inr two) = λ four. let e : Group3_2D ≡ Group4 = sym two ∙ four in cc

-- after some row it is RTC in Group 3
pub closes_by_rtc : (encoding : EncodingMode) (taken : ℕ) (start : Bits) (o : Option BitsAt) → encoding ≢ Group4 → 0 < taken
    → IfSome o (λ after. (rest : Bits) → PlainRtcStands encoding start rest ↔ (here after ≡ rest))
    → IfSome o (λ after. (rest : Bits) → ClosingStands encoding taken start rest ↔ (here after ≡ rest))
closes_by_rtc encoding taken start None three later found = tt
closes_by_rtc Group4 taken start (Some after) three later found = absurd (three refl)
closes_by_rtc Group3_1D taken start (Some after) three later found =
    λ rest. (λ (some, rtc). (found rest).0 rtc, λ is. (later, (found rest).1 is))
closes_by_rtc Group3_2D taken start (Some after) three later found =
    λ rest. (λ (some, rtc). (found rest).0 rtc, λ is. (later, (found rest).1 is))

pub no_rtc_closes : (encoding : EncodingMode) (taken : ℕ) (start : Bits) (o : Option BitsAt) → encoding ≢ Group4
    → IfNone o ((rest : Bits) → PlainRtcStands encoding start rest → ⊥)
    → IfNone o ((rest : Bits) → ClosingStands encoding taken start rest → ⊥)
no_rtc_closes encoding taken start (Some after) three none = tt
no_rtc_closes Group4 taken start None three none = absurd (three refl)
no_rtc_closes Group3_1D taken start None three none = λ rest (some, rtc). none rest rtc
no_rtc_closes Group3_2D taken start None three none = λ rest (some, rtc). none rest rtc

-- ---- The end of the picture, where there is to be no end of the block.
pub ends_at_limit : (closed : Bool) (settings : DecodeSettings) (taken : ℕ) (start : Bits) (few : Bool) → closed ≡ false
    → (settings.rows ≡ taken) × (0 < taken) → (IsTrue few ↔ FewZerosStand start)
    → IsTrue few ↔ ((rest : Bits) × EndStands closed settings taken start rest × FewZerosStand rest)
ends_at_limit true settings taken start few unclosed met zeros = absurd cc
ends_at_limit false settings taken start few unclosed met zeros = (
  λ t. (start, (met, refl), zeros.0 t),
  λ (rest, (limit, is), stands). zeros.1 (subst FewZerosStand (sym is) stands),
)
