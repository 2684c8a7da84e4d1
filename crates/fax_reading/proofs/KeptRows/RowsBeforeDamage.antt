-- Data that begin with the same bits have the same rows before the first line that may differ.
use Rattle.fax_reading.proofs.Names.{append_cancel_right, append_cancel_left, take-append-drop, DecodeSettings, UnexpectedEof, []}
use Rattle.fax_reading.proofs.Names.{cases_Bool, cond-false, false≢true, misses_eol, row_before, aligned_after_row, after_line}
use Rattle.fax_reading.proofs.Names.{all_eols}
use Rattle.fax_reading.proofs.Names.{ending_after, length-append, append_assoc, EncodingMode, common_steps, DecodeError, move_on}
use Rattle.fax_reading.proofs.Names.{first_line, RowsBefore, eols_here, limit_met, line_here, first_gap, replicate, ap}
use Rattle.fax_reading.proofs.Names.{not-false, Group3_1D, Group3_2D, at_front, Progress, or_parts, IsPrefix, repeated}
use Rattle.fax_reading.proofs.Names.{repaired, Reaches, length, Option, Group4, end_of, Ending, false, subst, arith, plain, true}
use Rattle.fax_reading.proofs.Names.{◌&&◌, ◌||◌, ◌++◌, take, drop, Some, None, refl, Turn, Line, Bits, Bool, List, Move, ◌%◌, ◌<◌}
use Rattle.fax_reading.proofs.Names.{◌≤◌, not, ◌∷◌, sym, ◌∙◌, ◌⊎◌, inl, inr, Err, Row, ◌≡◌, suc, ℕ}
use Rattle.std.proofs.Math.Seq.{take-append_seam}
use Rattle.fax_bits.proofs.BitReading.{ConsecutiveEols.next_eol_found, ZerosInWords.prefix_of_prefix}
use Rattle.fax_bits.proofs.CodeWords.ReadRuns.{chosen}
use Rattle.fax_bits.proofs.Repetition.Repeated.{repeated_turn, repeated_same, after_turn, not_next, next_is}
use Rattle.fax_reading.proofs.DamagedLines.EolsAlike.{turn_closed, eols_past, one_among, Closes}
use Rattle.fax_reading.proofs.DamagedLines.PastEol.{next_eol_leaves, eols_here-none, past-front, past-eol, past_is, past}
use Rattle.fax_reading.proofs.DamagedLines.PastEol.{eols_here_same, sought_done, move_sought, found_next, row_past, sought}
use Rattle.fax_reading.proofs.KeptRows.EqualFronts.{one_in_line, one_in_bits, past_front, eols_front, all_front}
use Rattle.fax_reading.proofs.KeptRows.EqualFronts.{one_in_whole, line_again, one_stays}
use Rattle.fax_reading.proofs.KeptRows.TurnsLeave.{after_row_leaves, reached_leaves}
use Rattle.fax_reading.proofs.Readings.RowsAndGaps.{after_damage-is, after_whole-is, unless_over, pass_gap-is, after_row}
use Rattle.fax_reading.proofs.Readings.RowsAndGaps.{missed_sought}
use Rattle.fax_reading.proofs.Readings.TurnsMoveOn.{after_row_keeps, first_gap_keeps, repeated_adds, turn_extends, move_adds}
use Rattle.fax_reading.proofs.Readings.TurnsMoveOn.{eols_here_counted, unless_over_next, unless_over_open, left_to_read}
use Rattle.fax_reading.proofs.Readings.{GapsAndRows.plain_is, TurnsMoveOn.Keeps}
use Rattle.fax_reading.proofs.{DamagedLines.LineTails.eol_closes, DamagedLines.RunsAlike.run_at}
use Rattle.fax_reading.proofs.{EncodedPictures.PicturesT6.aligned_split, DamagedLines.LinesByEols.more_left}
use Rattle.fax_reading.proofs.{Readings.TurnsMoveOn.move_shrinks, Readings.TurnsMoveOn.left_below, DamagedLines.LinesByEols.seeks}
use Rattle.fax_reading.specs.GapsContinued.{holds_one}

-- ---- The gap

-- a one is a bit
some_bits : (bits : Bits) → holds_one bits ≡ true → 0 < length bits
some_bits bits one = grind (arith, common_steps, false≢true)

-- where the next EOL is, if a lenient reading that seeks EOLs reaches a line and seeks them still
past_there : (settings : DecodeSettings) → settings.strict ≡ false → (rows : List Row) (here : Bits) (t : Progress)
    → after_row settings (sought rows here) ≡ Turn.next t → t.has_eols ≡ true
    → (limit_met settings (length rows) ≡ false) × ((after : Bits) × (past 0 here ≡ Some after) × (length t.rest ≤ length after))
past_there settings lenient rows here t e seeks = by_limit (cases_Bool (limit_met settings (length rows)))
  where
    run : Progress
    run = sought rows here

    by_past : limit_met settings (length rows) ≡ false → (o : Option Bits) → past 0 here ≡ o
        → (after : Bits) × (past 0 here ≡ Some after) × (length t.rest ≤ length after)
    by_past short (Some after) f = let next = row_past settings lenient rows here after short f in
        let same = unless_over_next settings run t (eols_here settings next.0) (sym next.3 ∙ e) in
        (after, f, omega (arith, ap (λ (p : Progress). length p.rest) same, eols_past settings next.0 after next.2))
    by_past short None f =
        grind (arith, next_eol_found, past_is, past-eol, not_next, next_is, false≢true, eols_here-none, unless_over_open)

    by_limit : (limit_met settings (length rows) ≡ true) ⊎ (limit_met settings (length rows) ≡ false)
        → (limit_met settings (length rows) ≡ false)
        × ((after : Bits) × (past 0 here ≡ Some after) × (length t.rest ≤ length after))
    by_limit (inl met) = absurd (not_next _ t (sym (sought_done settings rows here met) ∙ e))
    by_limit (inr short) = (short, by_past short (past 0 here) refl)

-- bits that end with an EOL have a one
one_closes : (bits more : Bits) → Closes bits → holds_one (bits ++ more) ≡ true
one_closes bits more (first, is) =
    let shape : bits ++ more ≡ (first ++ replicate 11 false) ++ true ∷ more = rw is (simp append_assoc) in
    ap holds_one shape ∙ one_among (first ++ replicate 11 false) more

-- EOLs that aren't missed were counted
not_missed : (none has met ends : Bool) → met ≡ false → ends ≡ false → (((none && has) && not met) && not ends) ≡ false
    → (none && has) ≡ false
not_missed none has met ends e f missed = grind (arith, common_steps)

-- a state whose bits are followed by these
abbrev followed : Progress → Bits → Progress
followed s z = record s { rest = s.rest ++ z }

module _ (settings : DecodeSettings) (x y : Bits) where
  -- a line follows the EOLs in both
  unless_front : (s : Progress) (u v more : Bits) (count : ℕ) (t : Progress) → 0 < length more
      → unless_over settings (record s { rest = u }) (count, more ++ x) ≡ Turn.next t
      → unless_over settings (record s { rest = v }) (count, more ++ y) ≡ Turn.next (record s { rest = more ++ y })
  unless_front s u v [] count t some e = absurd (omega (arith, some))
  unless_front s u v (b ∷ more) count t some e = grind (arith, common_steps, chosen, not_next, cond-false)

  -- so EOLs that are counted here lead to the same line
  counted_front : (s t : Progress) (u v : Bits) (found other : ℕ × Bits) → one_in_line settings.encoding t.rest ≡ true
      → (found ≡ (found.0, t.rest ++ x) → other ≡ (found.0, t.rest ++ y))
      → unless_over settings (record s { rest = u }) found ≡ Turn.next (followed t x)
      → (other ≡ (found.0, t.rest ++ y)) × (unless_over settings (record s { rest = v }) other ≡ Turn.next (followed t y))
  counted_front s t u v found other one same e =
      let next = unless_over_next settings (record s { rest = u }) (followed t x) found e in
      let at : found ≡ (found.0, t.rest ++ x) = ap (λ (p : Progress). (found.0, p.rest)) next in
      let some = some_bits t.rest (one_in_bits settings.encoding t.rest one) in
      (same at, grind (arith, unless_front s u v t.rest found.0 (followed t x) some, same at, at, next))

  -- the gap leads to the same line in both, if its bits have a one among the equal ones
  sought_front : settings.strict ≡ false → (rows : List Row) (bits : Bits) (t : Progress) → t.has_eols ≡ true
      → one_in_line settings.encoding t.rest ≡ true → after_row settings (sought rows (bits ++ x)) ≡ Turn.next (followed t x)
      → after_row settings (sought rows (bits ++ y)) ≡ Turn.next (followed t y)
  sought_front lenient rows bits t seeks one e = let there = past_there settings lenient rows (bits ++ x) (followed t x) e seeks
      in
      let left = past_front x 0 bits there.1.0 there.1.1 (omega (arith, there.1.2, length-append t.rest x)) in
      let one_x = row_past settings lenient rows (bits ++ x)
      (left.0 ++ x) there.0 (there.1.1 ∙ ap (λ (b : Bits). Some b) left.1) in
      let one_y = row_past settings lenient rows (bits ++ y) (left.0 ++ y) there.0 (past-front 0 bits left.0 y left.2) in
      let eol : Bits = replicate 11 false ++ true ∷ left.0 in
      one_y.3 ∙ (counted_front (sought rows []) t (bits ++ x) (bits ++ y) (eols_here settings one_x.0)
      (eols_here settings one_y.0) one (λ is. eols_here_same settings one_y.0 (eol ++ y) (left.0 ++ y) one_y.2 refl
      ∙ eols_front x y settings eol t.rest (eols_here settings one_x.0).0
      (eols_here_same settings (eol ++ x) one_x.0 (left.0 ++ x) refl one_x.2 ∙ is) one) (sym one_x.3 ∙ e)).1

  pub gap_front : (rows : List Row) (has_eols : Bool) (bits : Bits) (t : Progress) → t.has_eols ≡ has_eols
      → one_in_line settings.encoding t.rest ≡ true
      → after_row settings (run_at rows has_eols (bits ++ x)) ≡ Turn.next (followed t x)
      → after_row settings (run_at rows has_eols (bits ++ y)) ≡ Turn.next (followed t y)
  gap_front rows has_eols bits t seeks one e =
      elim (chosen (misses_eol settings (length rows) has_eols (bits ++ x)) _ _ _ e) [
        | inl missed ↦ grind (arith, chosen, not_next, missed_sought, sought_front)
        | inr counted ↦ let other = counted_front (run_at rows has_eols []) t (bits ++ x) (bits ++ y)
            (eols_here settings (bits ++ x)) (eols_here settings (bits ++ y)) one
            (λ is. eols_front x y settings bits t.rest (eols_here settings (bits ++ x)).0 is one) counted.1 in
            grind (
              arith,
              unless_over_open,
              eols_here_counted,
              unless_over_next,
              length-append,
              some_bits,
              one_in_bits,
              not_missed,
              more_left,
              cond-false,
            )
      ]

  -- ---- The line

  -- what follows a row is as much in both, where the data is whole bytes
  module _ (bytes : length x % 8 ≡ length y % 8) (wide : 0 < settings.columns) where
    -- the bits after a row, aligned or not
    after_front : (has_eols : Bool) (bits : Bits) → length x ≤ length (aligned_after_row settings has_eols (bits ++ x))
        → (left : Bits)
        × (aligned_after_row settings has_eols (bits ++ x) ≡ left ++ x)
        × (aligned_after_row settings has_eols (bits ++ y) ≡ left ++ y)
    after_front has_eols bits le = let al : Bool = settings.rows_are_byte_aligned && not has_eols in
        let after : Bits = aligned_after_row settings has_eols (bits ++ x) in
        let split = aligned_split al (bits ++ x) in
        let long : length split.0 ≤ length bits = omega
        (arith, le, ap length split.1, length-append split.0 after, length-append bits x) in
        let left = prefix_of_prefix split.0 after bits x split.1 long in
        let is : after ≡ left.0 ++ x = grind (arith, append_cancel_left, append_assoc) in
        let other : bits ++ y ≡ split.0 ++ (left.0 ++ y) = ap (λ (b : Bits). b ++ y) left.1 ∙ append_assoc split.0 left.0 y in
        grind (arith, length-append)

    -- a turn over the equal bits, the row that it adds, and what is left of them after it
    pub record TurnFound (rows : List Row) (has_eols : Bool) (bits : Bits) : Type 0 where
      row : Row
      left : Bits
      one : one_in_line settings.encoding bits ≡ true
      here : move_on settings (run_at rows has_eols (bits ++ x))
          ≡ after_row settings (run_at (rows ++ row ∷ []) has_eols (left ++ x))
      there : move_on settings (run_at rows has_eols (bits ++ y))
          ≡ after_row settings (run_at (rows ++ row ∷ []) has_eols (left ++ y))

    -- a turn over a whole line
    whole_turn : (rows : List Row) (has_eols : Bool) (here rest : Bits)
        (row : Row) → line_here settings (row_before settings.columns rows) here ≡ Line.whole row rest → move_on settings
        (run_at rows has_eols here) ≡ after_row settings
        (run_at (rows ++ row ∷ []) has_eols (aligned_after_row settings has_eols rest))
    whole_turn rows has_eols here rest row is =
        ap (after_line settings (run_at rows has_eols here)) is ∙ after_whole-is settings (run_at rows has_eols here) row rest

    -- and over a broken one that is repaired
    repaired_turn : (rows : List Row) (here : Bits) (front : Row) (fault : DecodeError)
        → settings.strict ≡ false → line_here settings (row_before settings.columns rows) here ≡ Line.broken front fault
        → move_on settings (sought rows here) ≡ after_row settings (sought (rows ++ repaired settings.columns front ∷ []) here)
    repaired_turn rows here front fault lenient is = grind (arith, common_steps, move_sought)

    more_in_line : (encoding : EncodingMode) (front rest : Bits) → one_in_line encoding front ≡ true
        → one_in_line encoding (front ++ rest) ≡ true
    more_in_line encoding front rest one = grind (arith, one_stays, false≢true)

    -- bits that end with an EOL have a one, after their tag too
    one_after : (encoding : EncodingMode) (bits more : Bits) → Closes bits → one_in_line encoding (bits ++ more) ≡ true
    one_after Group3_1D bits more closes = one_closes bits more closes
    one_after Group4 bits more closes = one_closes bits more closes
    one_after Group3_2D [] more (first, is) =
        absurd (omega (arith, ap length is, length-append first (replicate 11 false ++ true ∷ [])))
    one_after Group3_2D (tag ∷ bits) more ([], is) = let same : bits ≡ replicate 10 false ++ true ∷ [] = cc in rw same refl
    one_after Group3_2D (tag ∷ bits) more (b ∷ first, is) = one_closes bits more (first, cc)

    -- the next EOL is among the equal bits
    closes_front : (bits left : Bits) → past 0 (bits ++ x) ≡ Some (left ++ x) → (front : Bits) × Closes front
        × (bits ≡ front ++ left)
    closes_front bits left e = let next = found_next (bits ++ x) (left ++ x) e in
        let before = next_eol_leaves (bits ++ x) next.0 next.1 in
        let (front, closes, is) = eol_closes before.0 next.0 (left ++ x) next.2 in
        (front, closes, append_cancel_right bits (front ++ left) x (before.1 ∙ is ∙ sym (append_assoc front left x)))

    -- a broken line that is repaired
    sought_broken : settings.strict ≡ false → (rows : List Row) (bits : Bits) (t : Progress) → t.has_eols ≡ true
        → move_on settings (sought rows (bits ++ x)) ≡ Turn.next (followed t x) → (front : Row) (fault : DecodeError)
        → line_here settings (row_before settings.columns rows) (bits ++ x) ≡ Line.broken front fault → TurnFound rows true bits
    sought_broken lenient rows bits t seeks e front fault is =
        let moved = sym (repaired_turn rows (bits ++ x) front fault lenient is) ∙ e in
        let next = past_there settings lenient (rows ++ repaired settings.columns front ∷ []) (bits ++ x)
        (followed t x) moved seeks in
        let after = past_front x 0 bits next.1.0 next.1.1 (omega (arith, length-append t.rest x, next.1.2)) in
        let closes = closes_front bits after.0 (next.1.1 ∙ ap (λ (b : Bits). Some b) after.1) in
        let (row, left, some, turn) = turn_closed settings lenient rows closes.0 closes.1 in
        let shape : (z : Bits) → move_on settings (sought rows (bits ++ z)) ≡ after_row settings
        (sought (rows ++ row ∷ []) ((left ++ after.0) ++ z)) = grind (arith, common_steps, sought, append_assoc, after_row) in
        record {
          row = row;
          left = left ++ after.0;
          one = ap (one_in_line settings.encoding) closes.2 ∙ one_after settings.encoding closes.0 after.0 closes.1;
          here = shape x;
          there = shape y;
        }

    -- the turn in both
    pub turn_found : (rows : List Row) (has_eols : Bool) (bits : Bits) (t : Progress) → t.has_eols ≡ has_eols
        → move_on settings (run_at rows has_eols (bits ++ x)) ≡ Turn.next (followed t x) → TurnFound rows has_eols bits
    turn_found rows has_eols bits t seeks e = by_line (line_here settings above (bits ++ x)) refl
      where
        above : Row
        above = row_before settings.columns rows

        by_line : (line : Line) → line_here settings above (bits ++ x) ≡ line → TurnFound rows has_eols bits
        by_line (Line.whole row rest) is = let moved = whole_turn rows has_eols (bits ++ x) rest row is in
            let again = line_again settings.encoding settings.strict settings.columns above (bits ++ x) row rest is in
            let after : Bits = aligned_after_row settings has_eols rest in
            let more = after_row_leaves settings (run_at (rows ++ row ∷ []) has_eols after) (followed t x) (sym moved ∙ e) in
            let shorter : length after ≤ length rest = grind (arith, common_steps, aligned_split, length-append) in
            let long : length x ≤ length after = omega
            (arith, ap length more.0.1, length-append more.0.0 (t.rest ++ x), length-append t.rest x) in
            let read : length again.0 ≤ length bits = omega
            (arith, long, shorter, ap length again.1, length-append again.0 rest, length-append bits x) in
            let kept = prefix_of_prefix again.0 rest bits x again.1 read in
            let rest_is : rest ≡ kept.0 ++ x = grind (arith, append_cancel_left, append_assoc) in
            let long_so : length x ≤ length (aligned_after_row settings has_eols (kept.0 ++ x)) = subst
            (λ (b : Bits). length x ≤ length (aligned_after_row settings has_eols b)) rest_is long in
            let left = after_front has_eols kept.0 long_so in
            let other : line_here settings above (bits ++ y) ≡ Line.whole row (kept.0 ++ y) = grind (arith, append_assoc) in
            record {
              row = row;
              left = left.0;
              one = ap (one_in_line settings.encoding) kept.1 ∙ more_in_line settings.encoding again.0 kept.0
                  (one_in_whole settings.encoding settings.strict settings.columns above again.0 rest row wide (again.2 rest));
              here = grind arith;
              there = grind (arith, whole_turn);
            }
        by_line (Line.broken front fault) is = elim (chosen (settings.strict || not has_eols) _ _ _ (sym (after_damage-is settings
            (run_at rows has_eols (bits ++ x)) front fault) ∙ sym (ap (after_line settings (run_at rows has_eols (bits ++ x))) is)
            ∙ e)) [
              | inl over ↦ absurd (not_next _ (followed t x) over.1)
              | inr added ↦ let parts = or_parts settings.strict (not has_eols) added.0 in
                  grind (arith, common_steps, not-false has_eols parts.1, sought_broken parts.0 rows bits t)
            ]

    -- ---- Turns one after another

    module _ (late : Ending) where
      -- how the other reading ends from a line on
      abbrev pub rest_end : Progress → Ending
      rest_end t = repeated (move_on settings) late (suc (left_to_read t)) t

      grows : (t : Progress) → IsPrefix t.rows (rest_end t).rows
      grows t = repeated_adds (move_on settings) late left_to_read (move_shrinks settings wide) (move_adds settings)
          (suc (left_to_read t)) t (omega arith)

      turn_is : (t : Progress) → rest_end t ≡ after_turn rest_end (move_on settings t)
      turn_is t = repeated_turn (move_on settings) late left_to_read (move_shrinks settings wide) t

      -- the rows up to a line that is reached are rows of the other reading, which reads the same line unless it is the last
      abbrev pub RowsStay : Progress → Progress → Bits → Type 0
      RowsStay s last bits = ((s ≡ last) ⊎ (one_in_line settings.encoding bits ≡ true))
          × IsPrefix last.rows (rest_end (run_at s.rows s.has_eols (bits ++ y))).rows

      still_sought : (first mid last : Bool) → last ≡ first → (mid ≡ first) ⊎ (mid ≡ false) → (last ≡ mid) ⊎ (last ≡ false)
          → mid ≡ first
      still_sought first mid last e e5 g = grind arith

      pub rows_stay : (s last : Progress) (bits : Bits) → Reaches (move_on settings) s last → last.has_eols ≡ s.has_eols
          → last.rest ≡ x → s.rest ≡ bits ++ x → RowsStay s last bits
      rows_stay s last bits (Reaches.stays same) seeks at rest_is = (inl refl, grows (run_at same.rows same.has_eols (bits ++ y)))
      rows_stay s last bits (Reaches.moves from after end e reaches) seeks at rest_is =
          let leaves = reached_leaves settings after end reaches in
          let first = reached_leaves settings from after (Reaches.moves from after after e (Reaches.stays after)) in
          let has : after.has_eols
          ≡ from.has_eols = still_sought from.has_eols after.has_eols end.has_eols seeks first.1 leaves.1 in
          let left_is : after.rest ≡ leaves.0.0 ++ x = leaves.0.1 ∙ ap (λ (b : Bits). leaves.0.0 ++ b) at in
          let on = rows_stay after end leaves.0.0 reaches (seeks ∙ sym has) at left_is in
          let next : Progress = run_at after.rows after.has_eols leaves.0.0 in
          let moved : move_on settings (run_at from.rows from.has_eols (bits ++ x)) ≡ Turn.next (followed next x) = grind
          (arith, common_steps, run_at) in
          let found = turn_found from.rows from.has_eols bits next has moved in
          let run : Bits → Progress = λ z. run_at (from.rows ++ found.row ∷ []) from.has_eols (found.left ++ z) in
          let turned : rest_end (run_at from.rows from.has_eols (bits ++ y)) ≡ after_turn rest_end (after_row settings (run y))
          = turn_is (run_at from.rows from.has_eols (bits ++ y)) ∙ ap (after_turn rest_end) found.there in (
            inr found.one,
            subst (λ (q : Ending). IsPrefix end.rows q.rows) (sym turned) (elim on.0 [
              | inl same ↦ subst (λ (r : List Row). IsPrefix r (after_turn rest_end (after_row settings (run y))).rows)
                  (sym (subst (Keeps (run x).rows) (sym found.here ∙ moved) (after_row_keeps settings (run x)))
                  ∙ ap (λ (p : Progress). p.rows) same)
                  (turn_extends rest_end grows (run y).rows (after_row settings (run y)) (after_row_keeps settings (run y)))
              | inr one ↦ subst (λ (m : Move). IsPrefix end.rows (after_turn rest_end m).rows) (sym (gap_front
                  (run y).rows from.has_eols found.left next has one (sym found.here ∙ moved))) on.1
            ]),
          )

-- ---- The whole

-- the first line of the other data, if its bits have a one among the equal ones
first_front : (settings : DecodeSettings) (x y front : Bits) (first : Progress)
    → one_in_line settings.encoding first.rest ≡ true → first_gap settings.encoding settings (front ++ x)
    ≡ Turn.next (followed first x) → first_gap settings.encoding settings (front ++ y) ≡ Turn.next (followed first y)
first_front settings x y front first one begins = by_encoding settings.encoding refl begins
  where
    in_bits : holds_one first.rest ≡ true
    in_bits = one_in_bits settings.encoding first.rest one

    group3 : first_line settings (front ++ x) ≡ followed first x → first_line settings (front ++ y) ≡ followed first y
    group3 is = let count : ℕ = (all_eols (front ++ x)).0 in
        grind (arith, common_steps, all_front x y front first.rest count, in_bits)

    by_encoding : (encoding : EncodingMode) → settings.encoding ≡ encoding → first_gap encoding settings (front ++ x)
        ≡ Turn.next (followed first x) → first_gap encoding settings (front ++ y) ≡ Turn.next (followed first y)
    by_encoding Group3_1D same e = ap {B = Move} (λ (p : Progress). Turn.next p) (group3 (next_is _ (followed first x) e))
    by_encoding Group3_2D same e = ap {B = Move} (λ (p : Progress). Turn.next p) (group3 (next_is _ (followed first x) e))
    by_encoding Group4 same e = let gap : after_row settings (at_front (front ++ x)) ≡ Turn.next (followed first x) = sym
        (pass_gap-is settings (at_front (front ++ x))) ∙ e in
        let unsought : first.has_eols ≡ false =
        elim (after_row_leaves settings (at_front (front ++ x)) (followed first x) gap).1 [ inl f ↦ f | inr f ↦ f ] in
        pass_gap-is settings (at_front (front ++ y)) ∙ gap_front settings x y [] false front first unsought one gap

-- rows that are the first of some
first_rows : (rows all : List Row) (index : ℕ) → IsPrefix rows all → length rows ≡ index
    → (index ≤ length all) × (take index all ≡ rows)
first_rows rows all index front is = grind (arith, common_steps, length-append, take-append_seam)

-- the law
pub rows_before : RowsBefore
rows_before settings one whole_one two place index whole_two same reads =
    let these = first_rows last.rows (plain settings one).rows index (front_of one (kept_by x refl one_is)) reads.index_is in
    let those = first_rows last.rows (plain settings two).rows index (front_of two (kept_by y bytes two_is)) reads.index_is in
    (these.0, those.1 ∙ sym these.1)
  where
    first : Progress
    first = reads.first

    last : Progress
    last = reads.last

    x : Bits
    x = drop place one

    y : Bits
    y = drop place two

    front : Bits
    front = take place one

    one_is : one ≡ front ++ x
    one_is = sym (take-append-drop place one)

    two_is : two ≡ front ++ y
    two_is = sym (take-append-drop place two) ∙ ap (λ (b : Bits). b ++ y) same

    bytes : length x % 8 ≡ length y % 8
    bytes = grind (arith, common_steps, one_is, two_is, length-append)

    -- the rows of the reading of some bits
    front_of : (bits : Bits) → IsPrefix last.rows (end_of settings bits).rows → IsPrefix last.rows (plain settings bits).rows
    front_of bits is = grind (arith, common_steps, plain_is)

    -- the rows up to the line are rows of whatever continues the equal bits
    kept_by : {bits : Bits} (z : Bits) → length x % 8 ≡ length z % 8 → bits ≡ front ++ z
        → IsPrefix last.rows (end_of settings bits).rows
    kept_by {bits} z as_many is = let leaves = reached_leaves settings first last reads.reaches in
        let rest_is : first.rest ≡ leaves.0.0 ++ x = leaves.0.1 ∙ ap (λ (b : Bits). leaves.0.0 ++ b) reads.place_is in
        let late : Ending = record { rows = first.rows; has_eols = first.has_eols; outcome = Err UnexpectedEof } in
        let on = rows_stay settings x z as_many reads.wide late first last leaves.0.0 reads.reaches reads.sought reads.place_is
        rest_is in
        let begins : first_gap settings.encoding settings (front ++ x) ≡ Turn.next (record first { rest = leaves.0.0 ++ x }) =
        ap (first_gap settings.encoding settings) (sym one_is) ∙ reads.begins
        ∙ ap {B = Move} (λ (b : Bits). Turn.next (record first { rest = b })) rest_is in
        let s : Progress = run_at first.rows first.has_eols (leaves.0.0 ++ z) in
        elim on.0 [
          | inl none ↦ let empty : last.rows ≡ [] = grind (arith, first_gap_keeps) in
              ((end_of settings bits).rows, ap (λ (r : List Row). r ++ (end_of settings bits).rows) (sym empty))
          | inr one ↦ let ends : end_of settings bits ≡ rest_end settings x z as_many reads.wide late s = ap (end_of settings)
              is ∙ ap (ending_after settings) (first_front settings x z front (record first { rest = leaves.0.0 }) one begins)
              ∙ repeated_same (move_on settings) late left_to_read (move_shrinks settings reads.wide) (suc (suc (length s.rest)))
              (suc (left_to_read s)) s (left_below s) (omega arith) in
              subst (λ (e : Ending). IsPrefix last.rows e.rows) (sym ends) on.1
        ]
