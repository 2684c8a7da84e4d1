-- Where the end of the block departs from what the coding procedure writes.
use Rattle.hayro_ccitt.proofs.Names.{◌≡◌, ◌≢◌, ℕ, zero, suc, ◌-◌, ◌<◌, ◌≤◌, Bool, true, Option, Some, None, IfSome, ◌++◌, length}
use Rattle.hayro_ccitt.proofs.Names.{drop, refl, ap, sym, subst, ◌∙◌, arith, inr, Bits, BitsAt, here, eol, tag_of, DecodeSettings}
use Rattle.hayro_ccitt.proofs.Names.{EncodingMode, Group4, Group3_1D, Group3_2D}
use Rattle.std.specs.Prelude.{IfNone}
use Rattle.fax_encode.specs.Settings.{is_closed}
use Rattle.fax_conforms.specs.ByProcedure.{ClosingStands, PlainRtcStands, tagged_eols}
use Rattle.fax_conforms.specs.Conforming.{EolStands, EolsStand, TaggedEolStands}
use Rattle.fax_conforms.specs.Departures.{ClosingDeparts, FillInRtc, FilledEolStands, IsAt, NoClosing}
use Rattle.fax_conforms.specs.declared.stops.Rule.TheVariants.{Fill}
use Rattle.fax_conforms.specs.declared.stops.Violation.{Violation}
use Rattle.fax_conforms.proofs.ProcedureEnds.{split_eols}

-- ---- An EOL with fill.

-- one that isn't plain
pub filled_eol_stands : (start : Bits) → ((rest : Bits) → start ≡ eol 0 ++ rest → ⊥) → (rest : Bits) → EolStands start rest
    → FilledEolStands start
filled_eol_stands start none rest (zero, is) = absurd (none rest is)
filled_eol_stands start none rest (suc n, is) = (suc n, rest, omega arith, is)

-- where none is, and no plain one of RTC, there is none of RTC
pub no_other_eol : (encoding : EncodingMode) (start : Bits) → ((rest : Bits) → start ≡ eol 0 ++ (tag_of encoding ++ rest) → ⊥)
    → (FilledEolStands start → ⊥) → (rest : Bits) → TaggedEolStands encoding start rest → ⊥
no_other_eol encoding start none unfilled rest (zero, is) = none rest is
no_other_eol encoding start none unfilled rest (suc n, is) = unfilled (suc n, tag_of encoding ++ rest, omega arith, is)

-- ---- Fill in RTC.

-- some of its EOLs are passed
abbrev pub EolsPassed : EncodingMode → ℕ → Bits → Bits → Type 0
EolsPassed encoding n start next = (fill : ℕ) × (start ≡ eol fill ++ (tag_of encoding ++ (tagged_eols encoding n ++ next)))

eol_after : (encoding : EncodingMode) (n : ℕ) (next : Bits)
    → tagged_eols encoding n ++ (eol 0 ++ (tag_of encoding ++ next)) ≡ tagged_eols encoding (suc n) ++ next
eol_after encoding zero next = sym (split_eols encoding 0 next)
eol_after encoding (suc n) next = split_eols encoding n (eol 0 ++ (tag_of encoding ++ next))
    ∙ ap (λ (x : Bits). eol 0 ++ (tag_of encoding ++ x)) (eol_after encoding n next) ∙ sym (split_eols encoding (suc n) next)

-- and one more
pub one_eol_passed : (encoding : EncodingMode) (others : ℕ) (start next after : Bits) → 0 < others → others ≤ 5
    → next ≡ eol 0 ++ (tag_of encoding ++ after) → EolsPassed encoding (5 - others) start next
    → EolsPassed encoding (5 - (others - 1)) start after
one_eol_passed encoding others start next after some few is (fill, stands) =
    let n : ℕ = 5 - others in
    let e : suc n ≡ 5 - (others - 1) = omega arith in
    subst (λ (m : ℕ). EolsPassed encoding m start after) e (
      fill,
      stands ∙ ap (λ (x : Bits). eol fill ++ (tag_of encoding ++ x))
          (ap (λ (x : Bits). tagged_eols encoding n ++ x) is ∙ eol_after encoding n after),
    )

-- all are
pub rtc_passed : (encoding : EncodingMode) (others : ℕ) (start next : Bits) → 0 ≡ others
    → EolsPassed encoding (5 - others) start next → PlainRtcStands encoding start next
rtc_passed encoding zero start next none passed = passed
rtc_passed encoding (suc n) start next none passed = absurd (omega arith)

-- the next one has fill
pub fill_in_rtc_at : (encoding : EncodingMode) (reader next : BitsAt) (others : ℕ) (o : Option Violation) → 0 < others
    → next.bits ≡ reader.bits → EolsPassed encoding (5 - others) (here reader) (here next)
    → IfSome o (λ found. IsAt Fill next found × FilledEolStands (here next)) → IfSome o (FillInRtc encoding reader)
fill_in_rtc_at encoding reader next others None some same passed filled = tt
fill_in_rtc_at encoding reader next others (Some found) some same (fill, stands) ((rule, place, within), filled) =
    let rest : Bits = drop found.place reader.bits in
    let at : here next ≡ rest = ap (λ (n : ℕ). drop n next.bits) (sym place) ∙ ap (drop found.place) same in
    let few : 5 - others < 5 = omega arith in (
      rule,
      omega (arith, place, within, ap length same),
      (
        fill,
        5 - others,
        few,
        stands ∙ ap (λ (x : Bits). eol fill ++ (tag_of encoding ++ (tagged_eols encoding (5 - others) ++ x))) at,
        subst FilledEolStands at filled,
      ),
    )

-- ---- The end of the block.
rtc_is_closing : (encoding : EncodingMode) (taken : ℕ) (start rest : Bits) → encoding ≢ Group4 → 0 < taken
    → PlainRtcStands encoding start rest → ClosingStands encoding taken start rest
rtc_is_closing Group4 taken start rest three some rtc = absurd (three refl)
rtc_is_closing Group3_1D taken start rest three some rtc = (some, rtc)
rtc_is_closing Group3_2D taken start rest three some rtc = (some, rtc)

module _ (settings : DecodeSettings) (has_eols : Bool) (taken : ℕ) (reader : BitsAt) (o : Option Violation) where
  pub rtc_departs : is_closed settings.encoding has_eols settings.end_of_block ≡ true → settings.encoding ≢ Group4 → 0 < taken
      → IfSome o (FillInRtc settings.encoding reader) → IfSome o (ClosingDeparts settings has_eols taken reader)
  rtc_departs closed three some found = found_in o found
    where
      found_in : (o : Option Violation) → IfSome o (FillInRtc settings.encoding reader)
          → IfSome o (ClosingDeparts settings has_eols taken reader)
      found_in None found = tt
      found_in (Some at) found = (closed, inr (three, some, found))

  pub no_rtc_departs : ((rest : Bits) → ClosingStands settings.encoding taken (here reader) rest → ⊥)
      → IfNone o (EolsStand settings.encoding 6 (here reader)
      → (rest : Bits) × PlainRtcStands settings.encoding (here reader) rest)
      → IfNone o (NoClosing settings has_eols taken (here reader))
  no_rtc_departs none found = none_in o found
    where
      none_in : (o : Option Violation) → IfNone o (EolsStand settings.encoding 6 (here reader)
          → (rest : Bits) × PlainRtcStands settings.encoding (here reader) rest)
          → IfNone o (NoClosing settings has_eols taken (here reader))
      none_in (Some at) found = tt
      none_in None found = λ closed. (
        none,
        λ three some six.
            let (rest, rtc) = found six in
            none rest (rtc_is_closing settings.encoding taken (here reader) rest three some rtc),
      )
