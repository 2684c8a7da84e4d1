-- A run over the rows of the plain reading: what is known of a state that it reaches, and the turns from there on.
use Rattle.fax_reading.proofs.Names.{get_or_from_slice_get, slice_get_within, sum_by-take-drop, DecodeSettings, gap_after_row, ℕ}
use Rattle.fax_reading.proofs.Names.{with_row_taken, UnexpectedEof, length-append, common_steps, line_of_turn, DecodeError, arith}
use Rattle.fax_reading.proofs.Names.{ending_from, get_or-drop, row_of_line, sum_by_more, append-nil, cond-false, context_at, Bits}
use Rattle.fax_reading.proofs.Names.{turns_from, first_gap, slice_get, IsPrefix, Progress, drop-map, gathered, pass_gap, repeated}
use Rattle.fax_reading.proofs.Names.{turns_of, with_row, Reaches, Repairs, add_row, move_on, Ending, Result, at_gap, get_or, List}
use Rattle.fax_reading.proofs.Names.{length, ne_eqb, sum_by, subst, Move, Some, Turn, drop, refl, take, zero, ◌++◌, Err, Gap, Row}
use Rattle.fax_reading.proofs.Names.{map, suc, sym, ◌+◌, ◌<◌, ◌∙◌, ◌∷◌, ◌≡◌, ◌≤◌, Ok, [], ap}
use Rattle.fax_bits.proofs.Repetition.Gathered.{gathered_after, gathered_same, gathered_turn}
use Rattle.fax_bits.proofs.Repetition.Repeated.{repeated_same, repeated_turn, after_turn, not_next}
use Rattle.fax_reading.proofs.Readings.TurnsMoveOn.{after_row_keeps, first_gap_keeps, repeated_adds, left_to_read, move_shrinks}
use Rattle.fax_reading.proofs.Readings.TurnsMoveOn.{prefix_trans, keeps_adds, left_below, move_adds, Keeps, Adds}
use Rattle.fax_reading.proofs.Readings.RowsAndGaps.{pass_gap-is, after_row}
use Rattle.fax_reading.proofs.EncodedPictures.PictureLines.{row_before_push}

-- the element at an index begins what is there from it on, and the rest is there from the next one on
pub drop_begins : {A : Type 0} (xs : List A) (k : ℕ) (x : A) (more : List A) → drop k xs ≡ x ∷ more
    → (slice_get xs k ≡ Some x) × (drop (suc k) xs ≡ more)
drop_begins [] zero x more e = absurd cc
drop_begins [] (suc k) x more e = absurd cc
drop_begins (y ∷ xs) zero x more e = (cc, cc)
drop_begins (y ∷ xs) (suc k) x more e = drop_begins xs k x more e

-- the element after a list is the one of its length
pub get_or-after : {A : Type 0} (xs : List A) (x : A) (more : List A) (other : A)
    → get_or ((xs ++ x ∷ []) ++ more) (length xs) other ≡ x
get_or-after [] x more other = refl
get_or-after (y ∷ xs) x more other = get_or-after xs x more other

-- with one more row it holds what it then holds between two lines
pub context_at-more : (settings : DecodeSettings) (so_far : Progress) (row : Row) (rest : Bits) (before now : Repairs)
    → record (with_row_taken (context_at settings so_far before) row) { repairs = now }
    ≡ context_at settings (with_row so_far row rest) now
context_at-more settings so_far row rest before now = grind (arith, common_steps, length-append, row_before_push)

-- ---- One turn

module _ (settings : DecodeSettings) (so_far : Progress) where
  -- what the line of a turn yields
  abbrev pub row_of_turn : Result (Row × Bits) DecodeError
  row_of_turn = row_of_line settings so_far.has_eols so_far.rest (line_of_turn settings so_far)

  -- what follows a row leaves the rows as they are
  after_adds : (taken : Row) (rest : Bits) → Adds (so_far.rows ++ taken ∷ []) (pass_gap settings (with_row so_far taken rest))
  after_adds taken rest = let next : Progress = with_row so_far taken rest in
      subst (Adds next.rows) (sym (pass_gap-is settings next)) (keeps_adds next.rows [] (after_row settings next) (subst
      (λ (rows : List Row). Keeps rows (after_row settings next)) (sym (append-nil next.rows)) (after_row_keeps settings next)))

  pub row_adds : (taken : Row) (rest : Bits) → row_of_turn ≡ Ok (taken, rest)
      → Adds (so_far.rows ++ taken ∷ []) (move_on settings so_far)
  row_adds taken rest is = grind (arith, common_steps, after_adds)

  -- the reading continues, or ends, as what follows its row says
  pub turn_is : (taken : Row) (rest : Bits) (gap : Gap) → row_of_turn ≡ Ok (taken, rest) → gap_after_row settings (length
      (so_far.rows ++ taken ∷ [])) so_far.has_eols rest ≡ gap → move_on settings so_far ≡ at_gap (with_row so_far taken rest) gap
  turn_is taken rest gap is stands = ap (add_row settings so_far) is ∙ ap (at_gap (with_row so_far taken rest)) stands

  -- a turn that continues adds one row
  turn_adds : (after : Progress) → move_on settings so_far ≡ Turn.next after → length after.rows ≡ suc (length so_far.rows)
  turn_adds after e = by_row row_of_turn e
    where
      by_row : (row : Result (Row × Bits) DecodeError) → add_row settings so_far row ≡ Turn.next after
          → length after.rows ≡ suc (length so_far.rows)
      by_row (Err fault) e = absurd (not_next _ after e)
      by_row (Ok (row, rest)) e = at (gap_after_row settings (length (so_far.rows ++ row ∷ [])) so_far.has_eols rest) e
        where
          at : (gap : Gap) → at_gap (with_row so_far row rest) gap ≡ Turn.next after
              → length after.rows ≡ suc (length so_far.rows)
          at gap e = grind (arith, not_next, length-append)

-- ---- The turns from a state on

-- a run without an end
abbrev never : Progress → Ending
never start = record { rows = start.rows; has_eols = start.has_eols; outcome = Err UnexpectedEof }

-- how the reading ends from a state on
abbrev pub ending : DecodeSettings → Progress → Progress → Ending
ending settings start so_far = repeated (move_on settings) (never start) (suc (left_to_read so_far)) so_far

-- the states before the turns from a state on
abbrev pub turns_left : DecodeSettings → Progress → List Progress
turns_left settings so_far = gathered (move_on settings) (λ turn. turn ∷ []) (suc (left_to_read so_far)) so_far

-- The reading reaches a state: how it ends and which turns follow is known from there on.
pub record Comes (settings : DecodeSettings) (start so_far : Progress) : Type 0 where
  pub ends : ending_from (move_on settings) start ≡ ending settings start so_far
  pub follow : drop (length so_far.rows) (turns_from (move_on settings) start) ≡ turns_left settings so_far
  pub room : length so_far.rows + left_to_read so_far ≤ left_to_read start

module _ (settings : DecodeSettings) (wide : 0 < settings.columns) {start : Progress} (begins : start.rows ≡ []) where
  -- it reaches its start
  comes_first : Comes settings start start
  comes_first = record {
    ends = repeated_same (move_on settings) (never start) left_to_read (move_shrinks settings wide)
        (suc (suc (length start.rest))) (suc (left_to_read start)) start (left_below start) (omega arith);
    follow = ap (λ (rows : List Row). drop (length rows) (turns_from (move_on settings) start)) begins ∙ gathered_same
        (move_on settings) (λ turn. turn ∷ []) left_to_read (move_shrinks settings wide) (suc (suc (length start.rest)))
        (suc (left_to_read start)) start (left_below start) (omega arith);
    room = omega (arith, ap length begins);
  }

  module _ {so_far : Progress} (comes : Comes settings start so_far) where
    comes_turn : ending_from (move_on settings) start ≡ after_turn (ending settings start) (move_on settings so_far)
    comes_turn = comes.ends ∙ repeated_turn (move_on settings) (never start) left_to_read (move_shrinks settings wide) so_far

    -- where a turn is the last, it is known how the reading ends
    pub comes_done : {end : Ending} → move_on settings so_far ≡ Turn.done end → ending_from (move_on settings) start ≡ end
    comes_done is = comes_turn ∙ ap (after_turn (ending settings start)) is

    -- the rows that its turn adds are among the first of the whole
    pub comes_more : (rows : List Row) → Adds rows (move_on settings so_far)
        → IsPrefix rows (ending_from (move_on settings) start).rows
    comes_more rows adds = subst (λ (e : Ending). IsPrefix rows e.rows) (sym comes_turn) (by_turn (move_on settings so_far) adds)
      where
        by_turn : (turn : Move) → Adds rows turn → IsPrefix rows (after_turn (ending settings start) turn).rows
        by_turn (Turn.next after) p = prefix_trans rows after.rows (ending settings start after).rows
            p (repeated_adds (move_on settings) (never start) left_to_read (move_shrinks settings wide) (move_adds settings)
            (suc (left_to_read after)) after (omega arith))
        by_turn (Turn.done end) p = p

    -- its turn is the one of its index
    pub turns_on : drop (length so_far.rows) (turns_from (move_on settings) start)
        ≡ so_far ∷ gathered_after (turns_left settings) (move_on settings so_far)
    turns_on = comes.follow
        ∙ gathered_turn (move_on settings) (λ turn. turn ∷ []) left_to_read (move_shrinks settings wide) so_far

    -- a turn that continues reaches the next state
    comes_next : {after : Progress} → move_on settings so_far ≡ Turn.next after → Comes settings start after
    comes_next {after} is = let more = turn_adds settings so_far after is in record {
      ends = comes_turn ∙ ap (after_turn (ending settings start)) is;
      follow = ap (λ (k : ℕ). drop k (turns_from (move_on settings) start)) more ∙ (drop_begins (turns_from
          (move_on settings) start) (length so_far.rows) so_far _ turns_on).1 ∙ ap (gathered_after (turns_left settings)) is;
      room = omega (arith, comes.room, more, move_shrinks settings wide so_far after is);
    }

  -- it reaches each state that is reached
  comes_along : {s t : Progress} → Comes settings start s → Reaches (move_on settings) s t → Comes settings start t
  comes_along comes (Reaches.stays same) = comes
  comes_along comes (Reaches.moves same after last e on) = comes_along (comes_next comes e) on

  pub comes_there : {so_far : Progress} → Reaches (move_on settings) start so_far → Comes settings start so_far
  comes_there reaches = comes_along comes_first reaches

module _ (settings : DecodeSettings) (wide : 0 < settings.columns) (bits : Bits) {first : Progress}
    (begins : first_gap settings.encoding settings bits ≡ Turn.next first) where
  -- no row comes before the first line
  pub none_first : first.rows ≡ []
  none_first = subst (Keeps []) begins (first_gap_keeps settings settings.encoding bits)

  module _ {so_far : Progress} (reaches : Reaches (move_on settings) first so_far) where
    pub comes : Comes settings first so_far
    comes = comes_there settings wide none_first reaches

    -- what its turn gives begins what the turns from there on give
    module _ {A : Type 0} (gives : Progress → A) where
      abbrev given : List A
      given = map gives (turns_of settings bits)

      given_on : drop (length so_far.rows) given
          ≡ gives so_far ∷ map gives (gathered_after (turns_left settings) (move_on settings so_far))
      given_on = grind (arith, drop-map, map, cond-false, ne_eqb, turns_on, none_first, comes)

      -- it is the one of its index
      pub given_there : slice_get given (length so_far.rows) ≡ Some (gives so_far)
      given_there = (drop_begins given (length so_far.rows) (gives so_far) _ given_on).0

      pub given_is : (other : A) → get_or given (length so_far.rows) other ≡ gives so_far
      given_is other = get_or_from_slice_get given (length so_far.rows) (gives so_far) other given_there

      -- where its turn is the last, it is the last
      module _ {end : Ending} (ends : move_on settings so_far ≡ Turn.done end) where
        pub none_given : (other : A) → get_or given (length so_far.rows + 1) other ≡ other
        none_given other = grind (arith, common_steps, get_or-drop (length so_far.rows) given 1 other, given_on)

    -- what is reported of each turn, and counted of them, with that of its turn
    module _ {A : Type 0} (gives : Progress → List A) {rows : ℕ} (taken : rows ≡ length so_far.rows) where
      there : slice_get (given gives) rows ≡ Some (gives so_far)
      there = ap (slice_get (given gives)) taken ∙ given_there gives

      pub given_at : get_or (given gives) rows [] ≡ gives so_far
      given_at = get_or_from_slice_get (given gives) rows (gives so_far) [] there

      pub given_more : {now : ℕ} → now ≡ length so_far.rows + 1
          → sum_by length (take now (given gives)) ≡ sum_by length (take rows (given gives)) + length (gives so_far)
      given_more next = ap (λ (n : ℕ). sum_by length (take n (given gives))) (next ∙ ap (λ (n : ℕ). n + 1) (sym taken))
          ∙ sum_by_more length (given gives) rows [] (slice_get_within (given gives) rows (gives so_far) there)
          ∙ ap (λ (x : List A). sum_by length (take rows (given gives)) + length x) given_at

      -- that is all of it, where its turn is the last
      pub given_whole : {end : Ending} → move_on settings so_far ≡ Turn.done end
          → sum_by length (given gives) ≡ sum_by length (take rows (given gives)) + length (gives so_far)
      given_whole ends = grind (arith, common_steps, sum_by-take-drop length (given gives) rows, given_on)
