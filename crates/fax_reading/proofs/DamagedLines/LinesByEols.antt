-- Lines by EOLs, and where they begin, by positions.
use Rattle.fax_reading.proofs.Names.{Contains-append_cases, Contains-append_right, append_cancel_left, length-replicate, All-head}
use Rattle.fax_reading.proofs.Names.{take-append-drop, DecodeSettings, not_from_false, UnexpectedEof, length-append, append_assoc}
use Rattle.fax_reading.proofs.Names.{common_steps, later_starts, LinesByEols, StaysBefore, begins_line, length-drop, All-append}
use Rattle.fax_reading.proofs.Names.{All-weaker, append-nil, cond-false, Group3_1D, StartsAre, after_eol, and_parts, and_right, ℕ}
use Rattle.fax_reading.proofs.Names.{ends_with, limit_met, replicate, All-same, All-tail, Contains, Descends, IsPrefix, Progress}
use Rattle.fax_reading.proofs.Names.{all_eols, and_from, cases_lt, leb-true, repeated, All-nil, IsEolAt, IsStart, is_some, Ending}
use Rattle.fax_reading.proofs.Names.{line_1d, move_on, Option, at_end, le-leb, length, lt-leb, row_at, starts, arith, false, Bits}
use Rattle.fax_reading.proofs.Names.{subst, Bool, List, Move, None, Some, Turn, cond, drop, refl, take, true, zero, ◌&&◌, ◌++◌}
use Rattle.fax_reading.proofs.Names.{◌||◌, All, Err, Row, inl, inr, leb, ltb, map, not, suc, sym, ◌+◌, ◌<◌, ◌∙◌, ◌∷◌, ◌≡◌, ◌≤◌}
use Rattle.fax_reading.proofs.Names.{◌⊎◌, Ok, [], ap}
use Rattle.fax_bits.proofs.BitReading.ConsecutiveEols.{after_eol_shorter, all_eols-none, all_eols-some, count_shorter, eol_of}
use Rattle.fax_bits.proofs.Repetition.Repeated.{repeated_same, repeated_turn, after_turn}
use Rattle.fax_reading.proofs.DamagedLines.LineTails.{line_past_of, first_one, drop_at}
use Rattle.fax_reading.proofs.DamagedLines.PastEol.{after_eol_is, past_shorter, past-eol, past}
use Rattle.fax_reading.proofs.DamagedLines.PastEol.{after_row_past, found_next, move_line, rest_of, sought}
use Rattle.fax_reading.proofs.Readings.TurnsMoveOn.{after_row_keeps, repeated_adds, turn_extends, move_adds}
use Rattle.fax_reading.proofs.Readings.TurnsMoveOn.{left_to_read, move_shrinks, left_below, eols_end}
use Rattle.fax_bits.proofs.{BitReading.ZerosInWords.prefix_of_prefix, BitReading.ConsecutiveEols.counts_plain}
use Rattle.fax_reading.proofs.DrawingLines.LinesLeaveBits.{line_1d_leaves, LeavesBits}
use Rattle.fax_reading.proofs.{Readings.GapsAndRows.ending_t4, Readings.RowsAndGaps.after_row}

-- ---- Later starts come in order
later_below : (seen : ℕ) (here : Bits) → All (λ other. length other < length here) (later_starts seen here)
later_below seen [] = All-nil (λ other. length other < 0)
later_below seen (false ∷ here) = grind (arith, common_steps, later_below (suc seen) here)
later_below seen (true ∷ here) = grind (arith, All-append, All-weaker, later_below 0 here)

later_descends : (seen : ℕ) (here : Bits) → Descends (later_starts seen here)
later_descends seen [] = tt
later_descends seen (bit ∷ here) = grind (arith, common_steps, later_below, later_descends (suc seen) here, later_descends 0 here)

-- ---- An EOL ends at each, and none begins

-- an EOL that ends further on, given the number of zeros just before
abbrev EndsLater : ℕ → Bits → Bits → Type 0
EndsLater seen here end =
    (at : Bits) × LeavesBits (replicate seen false ++ here) at × (after_eol 0 at ≡ Some end) × (length end < length here)

zeros_along : (seen : ℕ) (here : Bits) → replicate (suc seen) false ++ here ≡ replicate seen false ++ false ∷ here
zeros_along zero here = refl
zeros_along (suc seen) here = ap (λ (b : Bits). false ∷ b) (zeros_along seen here)

contains_none : (other : Bits) → Contains {X = Bits} [] other → ⊥
contains_none other (k, lt, e) = absurd (omega arith)

from_later : (seen : ℕ) (here end : Bits) → Contains (later_starts seen here) end → EndsLater seen here end
    × (begins_line end ≡ true)
from_later seen [] end c = absurd (contains_none end c)
from_later seen (false ∷ here) end c = grind (arith, common_steps, common_steps, zeros_along, from_later (suc seen) here end c)
from_later seen (true ∷ here) end c = by_leb (leb 11 seen && begins_line here) refl (from_later 0 here end)
    (Contains-append_cases (cond (leb 11 seen && begins_line here) (here ∷ []) []) (later_starts 0 here) end c)
  where
    by_leb : (b : Bool) → (leb 11 seen && begins_line here) ≡ b → (Contains (later_starts 0 here) end → EndsLater 0 here end
        × (begins_line end ≡ true)) → Contains (cond b (here ∷ []) []) end ⊎ Contains (later_starts 0 here) end
        → EndsLater seen (true ∷ here) end × (begins_line end ≡ true)
    by_leb true e on (inl found) = let step = and_parts (leb 11 seen) (begins_line here) e in
        grind (arith, common_steps, step, eol_of 0 seen here, leb-true 11 seen)
    by_leb false e on (inl found) = absurd (contains_none end found)
    by_leb b e on (inr found) =
        let f = on found in
        let g = f.0 in grind (arith, common_steps, append_assoc (replicate seen false) (true ∷ g.1.0) g.0)

-- of two suffixes of one list the shorter is a suffix of the longer
shorter_end : (xs ys us vs : Bits) → xs ++ ys ≡ us ++ vs → length vs ≤ length ys → LeavesBits ys vs
shorter_end xs ys us vs e le =
    let lengths : length xs + length ys ≡ length us + length vs = sym (length-append xs ys) ∙ ap length e ∙ length-append us vs in
    grind (arith, common_steps, append_assoc, append_cancel_left, prefix_of_prefix)

same_end : (xs ys us vs : Bits) → xs ++ ys ≡ us ++ vs → length ys ≡ length vs → ys ≡ vs
same_end xs ys us vs e len = grind (arith, common_steps, shorter_end xs ys us vs e (omega (arith, len)))

to_later : (seen : ℕ) (here end : Bits) → EndsLater seen here end → begins_line end ≡ true → Contains (later_starts seen here) end
to_later seen [] end (at, leaves, eol, lt) b = absurd (omega arith)
to_later seen (false ∷ here) end (at, leaves, eol, lt) b = let is = after_eol_is 0 at end eol in grind (
  arith,
  common_steps,
  to_later (suc seen) here end,
  append_assoc leaves.0 (replicate is.0 false) (true ∷ end),
  zeros_along seen here,
  cases_lt (length end) (length here),
  same_end,
)
to_later seen (true ∷ here) end (at, leaves, eol, lt) b = elim (cases_lt (length end) (length here)) [
  | inl less ↦ Contains-append_right (cond (leb 11 seen && begins_line here) (here ∷ []) [])
      (later_starts 0 here) end (to_later 0 here end (at, inside less, eol, less) b)
  | inr ge ↦ let same : true ∷ here ≡ true ∷ end = same_end (replicate seen false) (true ∷ here)
      (leaves.0 ++ replicate is.0 false) (true ∷ end) whole (omega arith) in
      let lengths : length (replicate seen false) + length (true ∷ here) ≡ length (leaves.0 ++ replicate is.0 false) + length
      (true ∷ end) = sym (length-append (replicate seen false) (true ∷ here)) ∙ ap length whole
      ∙ length-append (leaves.0 ++ replicate is.0 false) (true ∷ end) in
      grind (arith, length-append, length-replicate, and_from, le-leb)
]
  where
    is : (k : ℕ) × (at ≡ replicate k false ++ true ∷ end) × (11 ≤ 0 + k)
    is = after_eol_is 0 at end eol

    whole : replicate seen false ++ true ∷ here ≡ (leaves.0 ++ replicate is.0 false) ++ true ∷ end
    whole = leaves.1 ∙ ap (λ (h : Bits). leaves.0 ++ h) is.1 ∙ sym (append_assoc leaves.0 (replicate is.0 false) (true ∷ end))

    inside : length end < length here → LeavesBits here at
    inside less = elim (cases_lt (length here) (length at)) [
      | inl longer ↦ absurd (let f = shorter_end leaves.0 at
          (replicate seen false) (true ∷ here) (sym leaves.1) (omega arith) in let step = length-append (replicate is.0 false)
          (true ∷ end) in let step2 = first_one is.0 end f.0 here (sym is.1 ∙ f.1) in let step3 = length-append f.0
          (true ∷ here) in omega (arith, less, step2, ap length f.1, step3, ap length is.1, step, length-replicate is.0 false))
      | inr short ↦ shorter_end (replicate seen false ++ true ∷ []) here leaves.0 at
          (append_assoc (replicate seen false) (true ∷ []) here ∙ leaves.1) short
    ]

-- ---- The EOLs at the start of the data end with a one

-- what comes before the first line: nothing, or EOLs
abbrev FirstLeaves : Bits → Bits → Type 0
FirstLeaves bits rest = (front : Bits) × (bits ≡ front ++ rest) × ((front ≡ []) ⊎ ((more : Bits) × (front ≡ more ++ true ∷ [])))

first_leaves : (n : ℕ) (bits : Bits) → length bits < n → FirstLeaves bits (all_eols bits).1
first_leaves zero bits lt = absurd (omega arith)
first_leaves (suc n) bits lt = by_after_eol (first_leaves n) (after_eol 0 bits) refl
  where
    by_after_eol : ((rest : Bits) → length rest < n → FirstLeaves rest (all_eols rest).1) → (o : Option Bits)
        → after_eol 0 bits ≡ o → FirstLeaves bits (all_eols bits).1
    by_after_eol on None e = rw (all_eols-none bits e) ([], refl, inl refl)
    by_after_eol on (Some rest) e = let is = after_eol_is 0 bits rest e in
        let f = on rest (omega (arith, after_eol_shorter 0 bits rest e)) in
        rw (all_eols-some bits rest e) (
          replicate is.0 false ++ true ∷ f.0,
          grind (arith, append_assoc),
          inr (elim f.2 [
            | inl none ↦ (replicate is.0 false, ap (λ (b : Bits). replicate is.0 false ++ true ∷ b) none)
            | inr more ↦ grind (arith, common_steps, append_assoc (replicate is.0 false) (true ∷ more.0) (true ∷ []))
          ]),
        )

contains_first : (here other : Bits) (rest : List Bits) → Contains (here ∷ rest) other → (here ≡ other) ⊎ Contains rest other
contains_first here other rest given = grind (arith, common_steps)

contains_more : (here other : Bits) (rest : List Bits) → Contains rest other → Contains (here ∷ rest) other
contains_more here other rest (k, lt, e) = (suc k, omega arith, e)

pub more_left : (here : Bits) → 0 < length here → at_end here ≡ false
more_left here lt = grind (arith, common_steps)

module _ (bits : Bits) where
  leaves_first : FirstLeaves bits (all_eols bits).1
  leaves_first = first_leaves (suc (length bits)) bits (omega arith)

  first_length : length leaves_first.0 + length (all_eols bits).1 ≡ length bits
  first_length = sym (ap length leaves_first.1 ∙ length-append leaves_first.0 (all_eols bits).1)

  is_start : (place : ℕ) → place ≤ length bits → Contains (starts bits) (drop place bits) → IsStart bits place
  is_start place le c = elim (contains_first (all_eols bits).1 (drop place bits) (later_starts 0 (all_eols bits).1) c) [
    | inl same ↦ inl (omega (arith, ap length same, length-drop place bits, le))
    | inr found ↦ let f = from_later 0 (all_eols bits).1 (drop place bits) found in
        let both = and_parts (not (at_end (drop place bits))) (not (is_some (after_eol 0 (drop place bits)))) f.1 in
        let front : Bits = leaves_first.0 ++ f.0.1.0 in
        let cut : bits ≡ front ++ f.0.0 = grind (arith, common_steps, leaves_first, append_assoc) in
        grind (arith, common_steps, after_eol_shorter, drop_at bits front f.0.0 (length front) cut refl)
  ]

  has_start : (place : ℕ) → place ≤ length bits → IsStart bits place → Contains (starts bits) (drop place bits)
  has_start place le (inl same) = grind (arith, common_steps, drop_at, first_length, leaves_first)
  has_start place le (inr (later, below, (at, eol), none)) =
      contains_more (all_eols bits).1 (drop place bits) (later_starts 0 (all_eols bits).1) (to_later 0 (all_eols bits).1
      (drop place bits) (drop at bits, inside, eol.2, omega (arith, length-drop place bits, first_length, later, below)) begins)
    where
      begins : begins_line (drop place bits) ≡ true
      begins = grind (arith, common_steps, and_from, length-drop, more_left, not_from_false)

      whole : leaves_first.0 ++ (all_eols bits).1 ≡ take at bits ++ drop at bits
      whole = sym leaves_first.1 ∙ sym (take-append-drop at bits)

      inside : LeavesBits (all_eols bits).1 (drop at bits)
      inside = elim (cases_lt (length (all_eols bits).1) (length (drop at bits))) [
        | inr short ↦ shorter_end leaves_first.0 (all_eols bits).1 (take at bits) (drop at bits) whole short
        | inl longer ↦ absurd (before leaves_first.2 longer)
      ]
        where
          before : (leaves_first.0 ≡ []) ⊎ ((more : Bits) × (leaves_first.0 ≡ more ++ true ∷ []))
              → length (all_eols bits).1 < length (drop at bits) → ⊥
          before (inl none_before) longer = omega (arith, longer, ap length none_before, first_length, length-drop at bits)
          before (inr (more, is)) longer = let split : more ++ true ∷ (all_eols bits).1 ≡ take at bits ++ drop at bits = grind
              (arith, common_steps, append_assoc) in
              let f = shorter_end (take at bits) (drop at bits) more (true ∷ (all_eols bits).1) (sym split)
              (omega (arith, longer)) in
              grind (arith, after_eol_is, first_one, length-append, length-replicate, length-drop, first_length)

-- the law
pub starts_are : StartsAre
starts_are bits = grind (arith, common_steps, is_start, has_start, later_below, later_descends)

-- ---- Where lines begin

-- a line begins here, unless an EOL or the end is here
abbrev own : Bits → List Bits
own here = cond (begins_line here) (here ∷ []) []

starts-past : (seen : ℕ) (here after : Bits) → past seen here ≡ Some after
    → later_starts seen here ≡ own after ++ later_starts 0 after
starts-past seen [] after e = absurd cc
starts-past seen (false ∷ here) after e = starts-past (suc seen) here after e
starts-past seen (true ∷ here) after e = grind (arith, common_steps, cases_lt, le-leb, lt-leb, starts-past 0 here after)

starts-none : (seen : ℕ) (here : Bits) → past seen here ≡ None → later_starts seen here ≡ []
starts-none seen [] e = refl
starts-none seen (false ∷ here) e = starts-none (suc seen) here e
starts-none seen (true ∷ here) e = grind (arith, common_steps, cases_lt, le-leb, lt-leb, starts-none 0 here)

-- the starts from a position on
abbrev from_here : Bits → List Bits
from_here [] = []
from_here (b ∷ here) = (b ∷ here) ∷ later_starts 0 (b ∷ here)

starts_after : (n : ℕ) (here : Bits) → length here < n → own here ++ later_starts 0 here ≡ from_here (all_eols here).1
starts_after zero here lt = absurd (omega arith)
starts_after (suc n) here lt = by_after_eol (λ next small. starts_after n next small) (after_eol 0 here) refl
  where
    by_after_eol : ((next : Bits) → length next < n → own next ++ later_starts 0 next ≡ from_here (all_eols next).1)
        → (o : Option Bits) → after_eol 0 here ≡ o → own here ++ later_starts 0 here ≡ from_here (all_eols here).1
    by_after_eol on (Some next) e =
        grind (arith, common_steps, after_eol_shorter, all_eols-some, and_right, cond-false, past-eol, starts-past)
    by_after_eol on None e = grind (arith, common_steps)

-- the later starts are those from the end of the next EOLs on
pub starts-next : (here after : Bits) → past 0 here ≡ Some after → later_starts 0 here ≡ from_here (all_eols after).1
starts-next here after e = starts-past 0 here after e ∙ starts_after (suc (length after)) after (omega arith)

-- ---- The next EOL is the same after a line that stays before it
pub line_past : (columns : ℕ) (here after : Bits) → StaysBefore columns here → past 0 here ≡ Some after
    → past 0 (rest_of (line_1d false columns here) here) ≡ Some after
line_past columns here after stays e = let next = found_next here after e in
    line_past_of (line_1d false columns here) here after (line_1d_leaves false columns here) e
    (λ row rest l. stays next.0 after next.1 next.2 row rest l)

module _ (settings : DecodeSettings) (encoding : settings.encoding ≡ Group3_1D) (lenient : settings.strict ≡ false)
    (no_block : settings.end_of_block ≡ false) (unlimited : settings.rows ≡ 0) (wide : 0 < settings.columns) (late : Ending) where
  -- the reading from a state on
  abbrev rest_end : Progress → Ending
  rest_end run = repeated (move_on settings) late (suc (left_to_read run)) run

  extends : (run : Progress) → IsPrefix run.rows (rest_end run).rows
  extends run = repeated_adds (move_on settings) late left_to_read (move_shrinks settings wide) (move_adds settings)
      (suc (left_to_read run)) run (omega arith)

  not_met : (n : ℕ) → limit_met settings n ≡ false
  not_met n = rw unlimited refl

  -- the rows so far, and those of the lines that begin from here on
  by_starts : (n : ℕ) (rows : List Row) (here : Bits) → length here < n → All (StaysBefore settings.columns) (here ∷ later_starts
      0 here) → IsPrefix (rows ++ map (row_at settings.columns) (here ∷ later_starts 0 here)) (rest_end (sought rows here)).rows
  by_starts zero rows here lt stay = absurd (omega arith)
  by_starts (suc n) rows here lt stay =
      subst (λ (e : Ending). IsPrefix (rows ++ map (row_at settings.columns) (here ∷ later_starts 0 here)) e.rows)
      (sym (repeated_turn (move_on settings) late left_to_read (move_shrinks settings wide) (sought rows here)))
      (rw (move_line settings encoding lenient rows here)
      (by_past (λ rows here small stay. by_starts n rows here small stay) (past 0 here) refl))
    where
      first : Row
      first = row_at settings.columns here

      rest : Bits
      rest = rest_of (line_1d false settings.columns here) here

      by_past : ((rows : List Row) (here : Bits) → length here < n → All (StaysBefore settings.columns)
          (here ∷ later_starts 0 here) → IsPrefix (rows ++ map (row_at settings.columns) (here ∷ later_starts 0 here)) (rest_end
          (sought rows here)).rows) → (o : Option Bits) → past 0 here ≡ o → IsPrefix (rows ++ map (row_at settings.columns)
          (here ∷ later_starts 0 here)) (after_turn rest_end (after_row settings (sought (rows ++ first ∷ []) rest))).rows
      by_past on None e = rw (starts-none 0 here e) (turn_extends rest_end extends (rows ++ first ∷ [])
          (after_row settings (sought (rows ++ first ∷ []) rest)) (after_row_keeps settings (sought (rows ++ first ∷ []) rest)))
      by_past on (Some after) e = go (all_eols after).1 refl
        where
          others : List Row
          others = rows ++ first ∷ []

          turn : (there : Bits) → (all_eols after).1 ≡ there → after_row settings (sought others rest)
              ≡ cond (at_end there) (ends_with (sought others rest) (Ok there)) (Turn.next (sought others there))
          turn there is = after_row_past settings encoding lenient others rest after (not_met (length others))
              (line_past settings.columns here after (All-head (StaysBefore settings.columns) here (later_starts 0 here) stay) e)
              ∙ (rw ((eols_end settings (suc (all_eols after).0)).1 no_block, unlimited) refl)
              ∙ ap (λ (x : Bits). cond (at_end x) (ends_with (sought others rest) (Ok x)) (Turn.next (sought others x))) is

          go : (there : Bits) → (all_eols after).1 ≡ there
              → IsPrefix (rows ++ map (row_at settings.columns) (here ∷ later_starts 0 here))
              (after_turn rest_end (after_row settings (sought others rest))).rows
          go [] is = let none : later_starts 0 here ≡ [] = starts-next here after e ∙ ap from_here is in
              subst (λ (m : Move). IsPrefix (rows ++ map (row_at settings.columns) (here ∷ later_starts 0 here))
              (after_turn rest_end m).rows) (sym (turn [] is)) (rw none ([], sym (append-nil others)))
          go (b ∷ there) is = let some : later_starts 0 here ≡ (b ∷ there) ∷ later_starts 0
              (b ∷ there) = starts-next here after e ∙ ap from_here is in
              let smaller : length (b ∷ there) < n = omega
              (arith, lt, past_shorter 0 here after e, count_shorter counts_plain (length after) after, ap length is) in
              let tail = All-same (StaysBefore settings.columns) ((b ∷ there) ∷ later_starts 0 (b ∷ there)) (later_starts 0 here)
              (sym some) (All-tail (StaysBefore settings.columns) here (later_starts 0 here) stay) in
              let further = on others (b ∷ there) smaller tail in
              grind (arith, common_steps, map, append_assoc, turn (b ∷ there) is)

  -- the whole run begins at the first of them
  by_run : (run : Progress) (here : Bits) → run ≡ sought [] here → All (StaysBefore settings.columns) (here ∷ later_starts 0 here)
      → IsPrefix (map (row_at settings.columns) (here ∷ later_starts 0 here))
      (repeated (move_on settings) late (suc (suc (length run.rest))) run).rows
  by_run run here is stay = subst (λ (e : Ending). IsPrefix (map (row_at settings.columns) (here ∷ later_starts 0 here)) e.rows)
      (repeated_same (move_on settings) late left_to_read (move_shrinks settings wide) (suc (left_to_read run))
      (suc (suc (length run.rest))) run (omega arith) (left_below run))
      (subst (λ (r : Progress). IsPrefix (map (row_at settings.columns) (here ∷ later_starts 0 here)) (rest_end r).rows) (sym is)
      (by_starts (suc (length here)) [] here (omega arith) stay))

-- EOLs are sought from the start
pub seeks : (bits : Bits) (end_of_line : Bool) → (end_of_line ≡ true) ⊎ IsEolAt bits
    → (ltb 0 (all_eols bits).0 || end_of_line) ≡ true
seeks bits end_of_line given = grind (arith, common_steps)

-- the law
pub lines_by_eols : LinesByEols
lines_by_eols settings bits are encoding lenient no_block unlimited wide sought_by stay = let first : Progress =
    record { rows = []; has_eols = ltb 0 (all_eols bits).0 || settings.end_of_line; rest = (all_eols bits).1 } in
    let first_is : first ≡ sought [] (all_eols bits).1 = grind (arith, common_steps, seeks) in
    let ends : IsPrefix (map (row_at settings.columns) (starts bits))
    (ending_t4 settings bits).rows = by_run settings encoding lenient no_block unlimited wide
    (record { rows = []; has_eols = ltb 0 (all_eols bits).0 || settings.end_of_line; outcome = Err UnexpectedEof }) first
    (all_eols bits).1 first_is stay in
    grind (arith, common_steps, ending_t4, map)
