-- The EOLs that are consumed before a line, and the bits that are examined ahead of it.
use Rattle.fax_reading.proofs.Names.{length-replicate, DecodeSettings, gap_after_row, length-append, from_next_eol, EncodingMode}
use Rattle.fax_reading.proofs.Names.{looked_ahead, common_steps, DecodeError, InvalidCode, after_eols, false≢true, misses_eol, ℕ}
use Rattle.fax_reading.proofs.Names.{next_eol, length, Option, Result, Group4, at_end, looked, OnErr, false, Bool, true, or_parts}
use Rattle.fax_reading.proofs.Names.{replicate, Group3_1D, Group3_2D, after_eol, limit_met, eols_here, tag_tests, gap_said, arith}
use Rattle.fax_reading.proofs.Names.{◌++◌, drop, Some, None, refl, Bits, IfOk, ◌<◌, ◌≡◌, ◌+◌, ◌*◌, ◌≤◌, ◌∷◌, Err, sym, ◌⊎◌}
use Rattle.fax_bits.proofs.{BitReading.ConsecutiveEols.next_eol_found, BitReading.ZeroRuns.looked_eol, CodeWords.ReadRuns.chosen}
use Rattle.fax_reading.proofs.DamagedLines.{LineTails.zeros_of_eol, PastEol.eols_here-none, EolsAlike.eols_past}
use Rattle.fax_reading.proofs.Readings.TurnsMoveOn.{eols_here_counted, eols_here_some}
use Rattle.fax_reading.proofs.{Readings.RowsAndGaps.missed_sought, Names.inl, Names.inr, Names.Gap, Names.[], Names.ap}

-- ---- An EOL here or further on

-- an EOL is here or further on, perhaps after fill, and ends where `after` begins
pub record EolWithin (here after : Bits) : Type 0 where
  pub fill : Bits
  pub place : here ≡ fill ++ replicate 11 false ++ true ∷ after

-- an EOL here
pub eol_within : (here after : Bits) → after_eol 0 here ≡ Some after → EolWithin here after
eol_within here after e = grind (arith, common_steps, zeros_of_eol)

within_further : (bit : Bool) (here after : Bits) → EolWithin here after → EolWithin (bit ∷ here) after
within_further bit here after eol = record { fill = bit ∷ eol.fill; place = ap (λ (x : Bits). bit ∷ x) eol.place }

-- the next EOL is here or further on
pub next_eol_within : (here found : Bits) → next_eol here ≡ Some found → (after : Bits) × (after_eol 0 found ≡ Some after)
    × EolWithin here after
next_eol_within [] found e = absurd cc
next_eol_within (bit ∷ here) found e = by_after_eol (λ f. next_eol_within here found f) (after_eol 0 (bit ∷ here)) refl
  where
    by_after_eol : (next_eol here ≡ Some found → (after : Bits) × (after_eol 0 found ≡ Some after) × EolWithin here after)
        → (o : Option Bits) → after_eol 0 (bit ∷ here) ≡ o → (after : Bits) × (after_eol 0 found ≡ Some after)
        × EolWithin (bit ∷ here) after
    by_after_eol on None is = grind (arith, common_steps, within_further)
    by_after_eol on (Some after) is = grind (arith, common_steps, eol_within (bit ∷ here) after is)

-- the bits up to the end of an EOL
pub length-within : (here after : Bits) (eol : EolWithin here after) → length here ≡ length eol.fill + 12 + length after
length-within here after eol = grind (arith, common_steps, length-append, length-replicate)

-- ---- EOLs that are counted

-- counting EOLs leaves at most the bits that were there
pub eols_here_shorter : (settings : DecodeSettings) (here : Bits) → length (eols_here settings here).1 ≤ length here
eols_here_shorter settings here = (eols_here_counted settings here).0

-- if none is counted, the offset doesn't change
pub eols_here_stay : (settings : DecodeSettings) (here rest : Bits) → eols_here settings here ≡ (0, rest) → rest ≡ here
eols_here_stay settings here rest is = grind (arith, common_steps, eols_here-none, eols_here_some)

-- ---- A line after a row

lines_same : (h k : Bool) (here rest : Bits) → ◌≡◌ {A = Gap} (Gap.line_at h here) (Gap.line_at k rest) → (h ≡ k) × (here ≡ rest)
lines_same h k here rest e = (cc, cc)

over_no_line : (outcome : Result Bits DecodeError) (h : Bool) (rest : Bits)
    → ◌≡◌ {A = Gap} (Gap.over outcome) (Gap.line_at h rest) → ⊥
over_no_line outcome h rest e = cc

-- a line follows EOLs neither at the limit nor at the end
following_line : (settings : DecodeSettings) (taken : ℕ) (h k : Bool) (found : ℕ × Bits) (rest : Bits)
    → after_eols settings taken h found ≡ Gap.line_at k rest
    → (h ≡ k) × (found.1 ≡ rest) × (limit_met settings taken ≡ false) × (at_end found.1 ≡ false)
following_line settings taken h k (count, here) rest e = grind (arith, common_steps, chosen, over_no_line, lines_same, or_parts)

-- The line follows the EOLs here.
record AfterEols (settings : DecodeSettings) (taken : ℕ) (h k : Bool) (here rest : Bits) : Type 0 where
  unsought : misses_eol settings taken h here ≡ false
  flag : h ≡ k
  place : (eols_here settings here).1 ≡ rest
  open_limit : limit_met settings taken ≡ false
  open_end : at_end (eols_here settings here).1 ≡ false

-- The line follows the next EOL, which was sought.
record AfterNextEol (settings : DecodeSettings) (h k : Bool) (here rest : Bits) : Type 0 where
  sought : h ≡ true
  kept : k ≡ true
  found : Bits
  next : next_eol here ≡ Some found
  place : (eols_here settings found).1 ≡ rest

-- No EOL is left, and the line is here.
record GivenUp (h k : Bool) (here rest : Bits) : Type 0 where
  sought : h ≡ true
  given_up : k ≡ false
  place : here ≡ rest

-- the ways in which a line follows a row
line_following : (settings : DecodeSettings) (taken : ℕ) (h k : Bool) (here rest : Bits) → gap_after_row settings taken h here
    ≡ Gap.line_at k rest → AfterEols settings taken h k here rest ⊎ (AfterNextEol settings h k here rest ⊎ GivenUp h k here rest)
line_following settings taken h k here rest e = elim (chosen (misses_eol settings taken h here) _ _ _ e) [
  | inl a ↦ let sought = missed_sought settings taken h here a.0 in
      elim (chosen settings.strict _ _ _ a.1)
      [ inl b ↦ absurd (over_no_line (Err InvalidCode) k rest b.1) | inr b ↦ inr (by_next_eol sought (next_eol here) refl b.1) ]
  | inr a ↦ grind (arith, common_steps, following_line settings taken h k (eols_here settings here) rest a.1)
]
  where
    by_next_eol : h ≡ true → (o : Option Bits) → next_eol here ≡ o → from_next_eol settings taken here o ≡ Gap.line_at k rest
        → AfterNextEol settings h k here rest ⊎ GivenUp h k here rest
    by_next_eol sought (Some found) next f =
        grind (arith, common_steps, following_line settings taken true k (eols_here settings found) rest f)
    by_next_eol sought None next f = grind (arith, common_steps, lines_same)

-- if EOLs are still sought, one was here or further on, and the line begins after it
pub line_past_eol : (settings : DecodeSettings) (taken : ℕ) (here rest : Bits) → gap_after_row settings taken true here
    ≡ Gap.line_at true rest → (after : Bits) × EolWithin here after × (length rest ≤ length after)
line_past_eol settings taken here rest e = elim (line_following settings taken true true here rest e) [
  | inl is ↦ by_after_eol is (after_eol 0 here) refl
  | inr (inl is) ↦ grind (arith, common_steps, next_eol_within here is.found is.next, eols_past settings is.found)
  | inr (inr is) ↦ absurd (false≢true (sym is.given_up))
]
  where
    by_after_eol : AfterEols settings taken true true here rest → (o : Option Bits) → after_eol 0 here ≡ o
        → (after : Bits) × EolWithin here after × (length rest ≤ length after)
    by_after_eol is (Some after) f = grind (arith, common_steps, eol_within here after f, eols_past settings here after f)
    by_after_eol is None f = grind (arith, common_steps, eols_here-none, false≢true)

-- if EOLs are no longer sought, the line is here
pub line_given_up : (settings : DecodeSettings) (taken : ℕ) (here rest : Bits)
    → gap_after_row settings taken true here ≡ Gap.line_at false rest → rest ≡ here
line_given_up settings taken here rest e =
    grind (arith, common_steps, line_following settings taken true false here rest e, false≢true)

-- a line that follows a row begins there or further on
pub line_after_shorter : (settings : DecodeSettings) (taken : ℕ) (h k : Bool) (here rest : Bits)
    → gap_after_row settings taken h here ≡ Gap.line_at k rest → length rest ≤ length here
line_after_shorter settings taken h k here rest e = elim (line_following settings taken h k here rest e) [
  | inl is ↦ omega (arith, ap length is.place, eols_here_shorter settings here)
  | inr (inl is) ↦
      omega (arith, ap length is.place, eols_here_shorter settings is.found, (next_eol_found here is.found is.next).0)
  | inr (inr is) ↦ omega (arith, ap length is.place)
]

-- without EOLs none are sought
pub line_without_eols : (settings : DecodeSettings) (taken : ℕ) (k : Bool) (here rest : Bits)
    → gap_after_row settings taken false here ≡ Gap.line_at k rest → (k ≡ false) × (length rest ≤ length here)
line_without_eols settings taken k here rest e = (
  grind (arith, common_steps, line_following settings taken false k here rest e, false≢true),
  line_after_shorter settings taken false k here rest e,
)

-- so none are sought after a gap, whatever it says
pub unsought_after : (settings : DecodeSettings) (taken : ℕ) (before has_eols : Bool) (here rest : Bits)
    (answer : Result Bool DecodeError) → before ≡ false → gap_after_row settings taken before here ≡ gap_said answer has_eols
    rest → IfOk answer (λ over. over ≡ true → has_eols ≡ before) → OnErr answer (has_eols ≡ before) → has_eols ≡ false
unsought_after settings taken before has_eols here rest answer unsought said given_up same = grind
    (arith, common_steps, line_without_eols)

-- if there is a line, bits are left
pub line_has_bits : (settings : DecodeSettings) (taken : ℕ) (k : Bool) (here rest : Bits)
    → gap_after_row settings taken false here ≡ Gap.line_at k rest → 0 < length rest
line_has_bits settings taken k here rest e =
    grind (arith, common_steps, line_following settings taken false k here rest e, false≢true)

-- ---- What is examined ahead

-- there are few tests of tags
pub few_tag_tests : (encoding : EncodingMode) → tag_tests encoding ≤ 3
few_tag_tests encoding = grind arith

-- no more than the bits here are examined
pub looked_most : (here : Bits) → looked here ≤ length here
looked_most [] = omega arith
looked_most (bit ∷ here) = grind (arith, common_steps, looked_most here)

-- no bit after a one is examined
looked_to_one : (before after : Bits) → looked (before ++ true ∷ after) + length after ≤ length (before ++ true ∷ after)
looked_to_one [] after = omega arith
looked_to_one (bit ∷ before) after = grind (arith, common_steps, length-append, looked_to_one before after)

-- no more than the bits here are examined ahead
pub looked_ahead_most : (encoding : EncodingMode) (here : Bits) → looked_ahead encoding here ≤ length here
looked_ahead_most encoding here = grind (arith, looked_most)

-- if an EOL is here or further on, no bit after it is examined
looked_to_eol : (here after : Bits) → EolWithin here after → (looked here + length after ≤ length here)
    × (looked (drop 1 here) + length after ≤ length here)
looked_to_eol here after eol = rw eol.place (by_fill eol.fill)
  where
    by_fill : (fill : Bits) → (looked (fill ++ replicate 11 false ++ true ∷ after) + length after
        ≤ length (fill ++ replicate 11 false ++ true ∷ after)) × (looked (drop 1 (fill ++ replicate 11 false ++ true ∷ after))
        + length after ≤ length (fill ++ replicate 11 false ++ true ∷ after))
    by_fill [] = (looked_to_one (replicate 11 false) after, omega (arith, looked_to_one (replicate 10 false) after))
    by_fill (bit ∷ fill) = grind (arith, common_steps, looked_to_one)

-- If the next EOL is found and counted, no bit after it is examined: not where none was before, and not where it was
-- found.
pub sought_looks : (settings : DecodeSettings) (here found : Bits) → next_eol here ≡ Some found
    → looked here + looked found + 2 * length (eols_here settings found).1 ≤ length here + length found
sought_looks settings here found next = let eol = next_eol_within here found next in
    omega (arith, (looked_to_eol here eol.0 eol.2).0, looked_eol 0 found eol.0 eol.1, eols_past settings found eol.0 eol.1)

-- if an EOL is here or further on, no bit after it is examined ahead
pub looked_ahead_to_eol : (encoding : EncodingMode) (here after : Bits) → EolWithin here after
    → looked_ahead encoding here + length after ≤ length here
looked_ahead_to_eol Group3_2D here after eol = (looked_to_eol here after eol).1
looked_ahead_to_eol Group3_1D here after eol = (looked_to_eol here after eol).0
looked_ahead_to_eol Group4 here after eol = (looked_to_eol here after eol).0
