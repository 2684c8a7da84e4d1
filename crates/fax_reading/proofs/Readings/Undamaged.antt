-- A strict reading ends without a fault exactly if a lenient one does, and passes no damage.
use Rattle.fax_reading.proofs.Names.{DecodeSettings, missed_by_turn, missed_after, sum_by-append, ending_after, length-append}
use Rattle.fax_reading.proofs.Names.{EncodingMode, cuts_by_line, DecodeError, InvalidCode, AreSettings, repaired_in, cut_by_turn}
use Rattle.fax_reading.proofs.Names.{PicturesAreUndamaged, StrictIsUndamaged, repaired_by_turn, IsLimitedPicture, damaged_by_turn}
use Rattle.fax_reading.proofs.Names.{Reading, move_on, Damaged, length, sum_by, Ending, arith, plain, false, zero, Bool}
use Rattle.fax_reading.proofs.Names.{flat_map, cuts_run, Progress, turns_of, repeated, gathered, add_row, ◌≡◌}
use Rattle.fax_reading.proofs.Names.{flat_map-cons, UnexpectedEof, AreWholeBytes, line_of_turn, turns_after, common_steps, subst}
use Rattle.fax_reading.proofs.Names.{repairs_by_line, IsClosedPicture, misses_by_line, gap_after_row, sum_by-take-le, false≢true}
use Rattle.fax_reading.proofs.Names.{row_before, after_line, misses_eol, cond-false, cond-true, damage_of, first_gap}
use Rattle.fax_reading.proofs.Names.{sym, not, ◌∙◌, Gap, map, Row, ◌-◌, ◌⊎◌, inl, [], ap, ℕ}
use Rattle.fax_reading.proofs.Names.{true, cond, ◌&&◌, List, ◌++◌, take, refl, IsOk, Bits, Line, Move, Turn, inr, suc, ◌∷◌, Err}
use Rattle.fax_bits.proofs.Repetition.{Gathered.gathered_after, Repeated.after_turn}
use Rattle.fax_reading.proofs.EncodedPictures.PicturesOfEachKind.{limited_pictures, closed_pictures}
use Rattle.fax_reading.proofs.Readings.Strictness.{line_by_agrees, strict_first, ok_outcome, Agrees}
use Rattle.fax_reading.proofs.{DamagedLines.PastEol.sought, DamagedLines.EolsAlike.counted, Readings.RowsAndGaps.unmissed}

-- ---- Turns that give nothing

-- each list of these is empty
abbrev pub AreEmpty : {A : Type 0} → List (List A) → Type 0
AreEmpty [] = Unit {0}
AreEmpty (x ∷ xs) = (x ≡ []) × AreEmpty xs

sum_empty : {A : Type 0} (xs : List (List A)) → AreEmpty xs → sum_by length xs ≡ 0
sum_empty [] are = refl
sum_empty (x ∷ xs) are = omega (arith, sum_by-append length (x ∷ []) xs, ap length are.0, sum_empty xs are.1)

empty_summed : {A : Type 0} (xs : List (List A)) → sum_by length xs ≡ 0 → AreEmpty xs
empty_summed [] is = tt
empty_summed ([] ∷ xs) is = (refl, empty_summed xs (omega (arith, is)))
empty_summed ((x ∷ more) ∷ xs) is = absurd (omega (arith, is, sum_by-append length ((x ∷ more) ∷ []) xs))

front_empty : {A : Type 0} (xs ys : List A) → xs ++ ys ≡ [] → xs ≡ []
front_empty [] ys is = refl
front_empty (x ∷ xs) ys is = absurd cc

back_empty : {A : Type 0} (xs ys : List A) → xs ++ ys ≡ [] → ys ≡ []
back_empty [] ys is = is
back_empty (x ∷ xs) ys is = absurd cc

module _ (p : Progress → List Damaged) where
  joined_empty : (turns : List Progress) → AreEmpty (map p turns) → flat_map p turns ≡ []
  joined_empty [] are = refl
  joined_empty (s ∷ turns) are = grind (arith, common_steps, flat_map-cons, joined_empty turns are.1)

  empty_joined : (turns : List Progress) → flat_map p turns ≡ [] → AreEmpty (map p turns)
  empty_joined [] is = tt
  empty_joined (s ∷ turns) is = grind (arith, empty_joined turns, flat_map-cons, front_empty, back_empty)

  none_empty : ((s : Progress) → p s ≡ []) → (turns : List Progress) → AreEmpty (map p turns)
  none_empty none [] = tt
  none_empty none (s ∷ turns) = (none s, none_empty none turns)

  -- what gives nothing where another does
  each_empty : (q : Progress → List Damaged) → ((s : Progress) → p s ≡ [] → q s ≡ []) → (turns : List Progress)
      → AreEmpty (map p turns) → AreEmpty (map q turns)
  each_empty q none [] are = tt
  each_empty q none (s ∷ turns) are = (none s are.0, each_empty q none turns are.1)

  -- where nothing of each kind is given, nothing is given
  all_empty : (q r : Progress → List Damaged) (turns : List Progress) → AreEmpty (map p turns) → AreEmpty (map q turns)
      → AreEmpty (map r turns) → AreEmpty (map (λ s. p s ++ (q s ++ r s)) turns)
  all_empty q r [] one two three = tt
  all_empty q r (s ∷ turns) one two three = grind (arith, common_steps, all_empty q r turns one.1 two.1 three.1)

module _ (settings : DecodeSettings) (bits : Bits) where
  abbrev strictly : DecodeSettings
  strictly = record settings { strict = true }

  abbrev leniently : DecodeSettings
  leniently = record settings { strict = false }

  -- ---- One turn

  -- a strict gap has a fault, or it is the lenient one, and misses no EOL
  gap_sound : (taken : ℕ) (has_eols : Bool) (rest : Bits) → (gap_after_row strictly taken has_eols rest
      ≡ Gap.over (Err InvalidCode)) ⊎ ((misses_eol leniently taken has_eols rest ≡ false)
      × (gap_after_row strictly taken has_eols rest ≡ gap_after_row leniently taken has_eols rest))
  gap_sound taken has_eols rest = grind (arith, cond-true, cond-false)

  -- a turn that ends with a fault
  abbrev Fails : Move → Type 0
  Fails turn = (fault : DecodeError) × (end : Ending) × (turn ≡ Turn.done end) × (end.outcome ≡ Err fault)

  -- what is cut of a line, if a run of it is
  abbrev cut_of : Progress → Bool → List Damaged
  cut_of s cut = cond cut (record { row = length s.rows; start = length bits - length s.rest; fault = InvalidCode } ∷ []) []

  -- a strict turn fails, or it is the lenient one, and passes nothing
  turn_sound : (s : Progress) → Fails (move_on strictly s)
      ⊎ ((damaged_by_turn leniently bits s ≡ []) × (move_on strictly s ≡ move_on leniently s))
  turn_sound s = by_line_of_turn (line_of_turn strictly s) refl
      (line_by_agrees settings.encoding settings.columns (row_before settings.columns s.rows) s.rest)
    where
      by_line_of_turn : (line : Line) → line_of_turn strictly s ≡ line → Agrees line (line_of_turn leniently s)
          → Fails (move_on strictly s) ⊎ ((damaged_by_turn leniently bits s ≡ []) × (move_on strictly s ≡ move_on leniently s))
      by_line_of_turn (Line.broken front fault) e agrees = inl (fault, _, ap (after_line strictly s) e, refl)
      by_line_of_turn (Line.whole row rest) e agrees = grind (arith, common_steps, length-append, gap_sound)

  -- ---- All turns

  -- what a lenient reading passes
  abbrev passed : List Progress → List (List Damaged)
  passed turns = map (damaged_by_turn leniently bits) turns

  turns_sound : (late : Ending) → (IsOk late.outcome → ⊥) → (n m : ℕ) (s : Progress) → IsOk
      (repeated (move_on strictly) late n s).outcome → AreEmpty (passed (gathered (move_on leniently) (λ turn. turn ∷ []) m s))
  turns_sound late never zero m s ok = absurd (never ok)
  turns_sound late never (suc n) zero s ok = tt
  turns_sound late never (suc n) (suc m) s ok = elim (turn_sound s) [
    | inl (fault, end, ends, fails) ↦ grind (arith, false≢true)
    | inr (none, same) ↦ by_turn (λ t ok. turns_sound late never n m t ok) (move_on leniently s)
        (subst (λ (turn : Move). IsOk (after_turn (repeated (move_on strictly) late n) turn).outcome) same ok) none
  ]
    where
      by_turn : ((t : Progress) → IsOk (repeated (move_on strictly) late n t).outcome → AreEmpty (passed (gathered (move_on
          leniently) (λ turn. turn ∷ []) m t))) → (turn : Move)
          → IsOk (after_turn (repeated (move_on strictly) late n) turn).outcome → damaged_by_turn leniently bits s ≡ []
          → AreEmpty (passed (s ∷ gathered_after (gathered (move_on leniently) (λ turn. turn ∷ []) m) turn))
      by_turn on turn ok none = grind arith

  after : (gap : Move) → IsOk (ending_after strictly gap).outcome → AreEmpty (passed (turns_after leniently gap))
  after (Turn.next s) ok = turns_sound (record { rows = s.rows; has_eols = s.has_eols; outcome = Err UnexpectedEof })
      (λ ok. false≢true ok) (suc (suc (length s.rest))) (suc (suc (length s.rest))) s ok
  after (Turn.done end) ok = tt

  -- the first gap is the same, or has a fault
  first : (encoding : EncodingMode) → IsOk (ending_after strictly (first_gap encoding strictly bits)).outcome
      → AreEmpty (passed (turns_after leniently (first_gap encoding leniently bits)))
  first encoding ok = grind (arith, after, gap_sound, false≢true)

  -- ---- A lenient reading that passes no damage

  -- a lenient turn without damage fails, or it is the strict one
  turn_same : (s : Progress) → damaged_by_turn leniently bits s ≡ []
      → Fails (move_on leniently s) ⊎ (move_on strictly s ≡ move_on leniently s)
  turn_same s none = by_lines (line_of_turn leniently s) (line_of_turn strictly s) refl refl (line_by_agrees settings.encoding
      settings.columns (row_before settings.columns s.rows) s.rest) (front_empty (repaired_by_turn leniently bits s) _ none)
      (front_empty (cut_by_turn leniently bits s) _ (back_empty (repaired_by_turn leniently bits s) _ none))
      (back_empty (cut_by_turn leniently bits s) _ (back_empty (repaired_by_turn leniently bits s) _ none))
    where
      by_lines : (line strict : Line) → line_of_turn leniently s ≡ line → line_of_turn strictly s ≡ strict
          → Agrees (line_of_turn strictly s) (line_of_turn leniently s) → repaired_by_turn leniently bits s ≡ []
          → cut_by_turn leniently bits s ≡ [] → missed_by_turn leniently bits s ≡ []
          → Fails (move_on leniently s) ⊎ (move_on strictly s ≡ move_on leniently s)
      by_lines (Line.broken front fault) strict e f agrees repaired cut missed = by_sought s.has_eols refl
          (ap (λ (l : Line). repaired_in leniently s.has_eols (length s.rows) (length bits - length s.rest) l) (sym e) ∙ repaired)
        where
          by_sought : (b : Bool) → s.has_eols ≡ b → repaired_in leniently s.has_eols (length s.rows) (length bits - length s.rest)
              (Line.broken front fault) ≡ [] → Fails (move_on leniently s) ⊎ (move_on strictly s ≡ move_on leniently s)
          by_sought true sought none = grind (arith, common_steps, cond-false)
          by_sought false sought none = let one : not s.has_eols ≡ true = ap not sought in
              inl (fault, _, ap (after_line leniently s) e ∙ ap (add_row leniently s) (cond-true (not s.has_eols) _ _ one), refl)
      by_lines (Line.whole row rest) (Line.broken front fault) e f agrees repaired cut missed =
          grind (arith, common_steps, cond-true)
      by_lines (Line.whole row rest) (Line.whole other after) e f agrees repaired cut missed =
          grind (arith, length-append, unmissed_by, cond-false)
        where
          unmissed_by : (b : Bool) (x : Damaged) → cond {A = List Damaged} (b && true) (x ∷ []) [] ≡ [] → b ≡ false
          unmissed_by b x is = grind arith

  turns_same : (late : Ending)
      → (IsOk late.outcome → ⊥) → (n : ℕ) (s : Progress) → IsOk (repeated (move_on leniently) late n s).outcome → AreEmpty
      (passed (gathered (move_on leniently) (λ turn. turn ∷ []) n s)) → IsOk (repeated (move_on strictly) late n s).outcome
  turns_same late never zero s ok none = absurd (never ok)
  turns_same late never (suc n) s ok none = elim (turn_same s none.0) [
    | inl (fault, end, ends, fails) ↦ grind (arith, false≢true)
    | inr same ↦ subst (λ (turn : Move). IsOk (after_turn (repeated (move_on strictly) late n) turn).outcome) (sym same)
        (by_turn (λ t ok none. turns_same late never n t ok none) (move_on leniently s) ok none.1)
  ]
    where
      by_turn : ((t : Progress) → IsOk (repeated (move_on leniently) late n t).outcome → AreEmpty (passed (gathered (move_on
          leniently) (λ turn. turn ∷ []) n t)) → IsOk (repeated (move_on strictly) late n t).outcome) → (turn : Move)
          → IsOk (after_turn (repeated (move_on leniently) late n) turn).outcome
          → AreEmpty (passed (gathered_after (gathered (move_on leniently) (λ turn. turn ∷ []) n) turn))
          → IsOk (after_turn (repeated (move_on strictly) late n) turn).outcome
      by_turn on turn ok none = grind arith

  same_following : (gap : Move) → IsOk (ending_after leniently gap).outcome → AreEmpty (passed (turns_after leniently gap))
      → IsOk (ending_after strictly gap).outcome
  same_following (Turn.next s) ok none = turns_same (record { rows = s.rows; has_eols = s.has_eols; outcome = Err UnexpectedEof })
      (λ ok. false≢true ok) (suc (suc (length s.rest))) s ok none
  same_following (Turn.done end) ok none = ok

  strict_ok : IsOk (plain leniently bits).outcome → AreEmpty (passed (turns_of leniently bits))
      → IsOk (plain strictly bits).outcome
  strict_ok = grind (arith, common_steps, ok_outcome, same_following, cond-false, unmissed)

  -- ---- Strict readings pass no damage

  strict_turn : (s : Progress) → damaged_by_turn strictly bits s ≡ []
  strict_turn s = by_line (line_of_turn strictly s)
    where
      missed : (b : Bool) (x : Damaged) → cond {A = List Damaged} (b && false) (x ∷ []) [] ≡ []
      missed b x = grind arith

      by_line : (line : Line) → repaired_in strictly s.has_eols (length s.rows) (length bits - length s.rest) line
          ++ (cut_of s (cuts_run line line) ++ missed_after strictly bits s line) ≡ []
      by_line v0 = grind (arith, common_steps)

-- ---- The laws

-- what is so of the strict settings and of the lenient ones is so of the settings
either_way : (P : DecodeSettings → Type 0) (settings : DecodeSettings) → P (record settings { strict = true })
    → P (record settings { strict = false }) → P settings
either_way P settings strict lenient = grind (arith, common_steps)

-- a reading whose strict one is Ok passes no damage
undamaged_turns : (settings : DecodeSettings) (bits : Bits) → IsOk (plain (record settings { strict = true }) bits).outcome
    → AreEmpty (map (damaged_by_turn settings bits) (turns_of settings bits))
undamaged_turns settings bits ok =
    either_way (λ given. AreEmpty (map (damaged_by_turn given bits) (turns_of given bits))) settings (none_empty (damaged_by_turn
    (strictly settings bits) bits) (strict_turn settings bits) (turns_of (strictly settings bits) bits))
    (grind (arith, common_steps, map, first, ok_outcome))

-- where the strict reading ends without a fault, a reading does
pub ok_of_strict : (settings : DecodeSettings) (bits : Bits) → IsOk (plain (record settings { strict = true }) bits).outcome
    → IsOk (plain settings bits).outcome
ok_of_strict settings bits ok = either_way (λ given. IsOk (plain given bits).outcome) settings ok
    (subst (λ (r : Reading). IsOk r.outcome) ((strict_first settings bits).1 ok) ok)

-- A reading ends without a fault and passes no damage: so does the strict one.
pub strict_if_undamaged : (settings : DecodeSettings) (bits : Bits) → IsOk (plain settings bits).outcome
    → sum_by length (repairs_by_line settings bits) ≡ 0 → sum_by length (cuts_by_line settings bits) ≡ 0
    → sum_by length (misses_by_line settings bits) ≡ 0 → IsOk (plain (record settings { strict = true }) bits).outcome
strict_if_undamaged settings bits ok repaired cut missed =
    either_way (λ given. IsOk (plain given bits).outcome → AreEmpty (map (damaged_by_turn given bits) (turns_of given bits))
    → IsOk (plain (record given { strict = true }) bits).outcome) settings (λ ok none. ok)
    (λ ok none. strict_ok settings bits ok none) ok (all_empty (repaired_by_turn settings bits) (cut_by_turn settings bits)
    (missed_by_turn settings bits) (turns_of settings bits) (empty_summed (repairs_by_line settings bits) repaired)
    (empty_summed (cuts_by_line settings bits) cut) (empty_summed (misses_by_line settings bits) missed))

-- no damage
pub no_damage : (settings : DecodeSettings) (bits : Bits) → IsOk (plain (record settings { strict = true }) bits).outcome
    → damage_of settings bits ≡ []
no_damage settings bits ok = grind (arith, common_steps, joined_empty, undamaged_turns)

-- so no row is repaired, in none a run is cut, and no EOL is missed
pub none_damaged : (settings : DecodeSettings) (bits : Bits) (taken : ℕ)
    → IsOk (plain (record settings { strict = true }) bits).outcome
    → (sum_by length (take taken (repairs_by_line settings bits)) ≡ 0)
    × (sum_by length (take taken (cuts_by_line settings bits)) ≡ 0)
    × (sum_by length (take taken (misses_by_line settings bits)) ≡ 0)
none_damaged settings bits taken ok = (
  none (repaired_by_turn settings bits) (λ s e. front_empty (repaired_by_turn settings bits s) _ e),
  none (cut_by_turn settings bits) (λ s e. grind (arith, front_empty, back_empty)),
  none (missed_by_turn settings bits) (λ s e. grind (arith, back_empty)),
)
  where
    none : (given : Progress → List Damaged) → ((s : Progress) → damaged_by_turn settings bits s ≡ [] → given s ≡ [])
        → sum_by length (take taken (map given (turns_of settings bits))) ≡ 0
    none given empty = let are = each_empty (damaged_by_turn settings bits) given empty _ (undamaged_turns settings bits ok) in
        omega (arith, sum_by-take-le length (map given (turns_of settings bits)) taken, sum_empty _ are)

-- the law
pub strict_is_undamaged : StrictIsUndamaged
strict_is_undamaged settings bits = grind (arith, strict_first, no_damage, strict_ok, empty_joined)

-- the settings of a strict reading are valid too
strict_are : (settings : DecodeSettings) → AreSettings settings → AreSettings (record settings { strict = true })
strict_are settings are = record { columns = are.columns; rows = are.rows }

-- pictures are so for a strict reading too
closed_strictly : (settings : DecodeSettings) (rows : List Row) (count : ℕ) (bits : Bits)
    → IsClosedPicture settings rows count bits → IsClosedPicture (record settings { strict = true }) rows count bits
closed_strictly settings rows count bits (IsClosedPicture.by_eofb stream p counted) =
    IsClosedPicture.by_eofb stream (assumption) counted
closed_strictly settings rows count bits (IsClosedPicture.by_rtc stream after p counted) =
    IsClosedPicture.by_rtc stream after (assumption) counted

limited_strictly : (settings : DecodeSettings) (rows : List Row) (bits : Bits) → IsLimitedPicture settings rows bits
    → IsLimitedPicture (record settings { strict = true }) rows bits
limited_strictly settings rows bits (IsLimitedPicture.of_t6 stream p) = IsLimitedPicture.of_t6 stream assumption
limited_strictly settings rows bits (IsLimitedPicture.of_t4 stream p) = IsLimitedPicture.of_t4 stream assumption
limited_strictly settings rows bits (IsLimitedPicture.of_t4_with_eols stream p) =
    IsLimitedPicture.of_t4_with_eols stream assumption

pub closed_strict : (settings : DecodeSettings) (rows : List Row) (count : ℕ) (bits : Bits) → AreSettings settings → AreWholeBytes
    bits → IsClosedPicture settings rows count bits → IsOk (plain (record settings { strict = true }) bits).outcome
closed_strict settings rows count bits are whole picture = subst IsOk (sym (closed_pictures (record settings { strict = true })
    rows count bits (strict_are settings are) whole (closed_strictly settings rows count bits picture)).1) refl

pub limited_strict : (settings : DecodeSettings) (rows : List Row) (bits : Bits) → AreSettings settings → AreWholeBytes bits
    → IsLimitedPicture settings rows bits → IsOk (plain (record settings { strict = true }) bits).outcome
limited_strict settings rows bits are whole picture = (limited_pictures
    (record settings { strict = true }) rows bits (strict_are settings are) whole (limited_strictly settings rows bits picture)).1

-- the law
pub pictures_are_undamaged : PicturesAreUndamaged
pictures_are_undamaged settings rows bits are whole = (
  (λ count picture. no_damage settings bits (closed_strict settings rows count bits are whole picture)),
  (λ picture. no_damage settings bits (limited_strict settings rows bits are whole picture)),
)
