-- Two runs over data that differ in one line.
use Rattle.fax_reading.proofs.Names.{eqb-true, next_eol, Progress, repaired, move_on, Reaches, Group4, Ending, at_end, row_of, Ok}
use Rattle.fax_reading.proofs.Names.{is_end_of_block, DecodeSettings, length-append, common_steps, append_assoc, EncodingMode, ap}
use Rattle.fax_reading.proofs.Names.{length, Option, false, subst, arith, IsEol, Turn, Line, Move, Bits, Bool, List, drop, take}
use Rattle.fax_reading.proofs.Names.{line_of_turn, length-drop, DecodeError, InvalidCode, after_line, first_line, cases_Bool, suc}
use Rattle.fax_reading.proofs.Names.{misses_eol, row_before, and_parts, after_eol, limit_met, ends_with, eols_here, line_here, []}
use Rattle.fax_reading.proofs.Names.{zero, true, cond, ◌&&◌, ◌++◌, Some, None, refl, ◌+◌, ◌<◌, ◌≤◌, not, eqb, ◌∷◌, Err, sym, ◌≡◌}
use Rattle.fax_reading.proofs.Names.{◌∙◌, ◌⊎◌, inl, inr, ◌≢◌, Row, ℕ}
use Rattle.fax_bits.proofs.BitReading.ConsecutiveEols.{next_eol_found, cond_le}
use Rattle.fax_bits.proofs.Repetition.Repeated.{Follows}
use Rattle.fax_reading.proofs.DamagedLines.EolsAlike.{leaves_length, turn_closed, left_closes, row_counted, eols_left, eols_past}
use Rattle.fax_reading.proofs.DamagedLines.EolsAlike.{left_ends, past_ends, with_tail, EndsByOne, IsGroup3, IsLineIn, not_end}
use Rattle.fax_reading.proofs.DamagedLines.PastEol.{eols_here_same, move_sought, sought_done, row_past, rest_of, sought}
use Rattle.fax_reading.proofs.DamagedLines.{PastEol.past_shorter, PastEol.past, EolsAlike.counted, EolsAlike.Closes}
use Rattle.fax_reading.proofs.DrawingLines.LinesLeaveBits.{line_by_leaves, leaves_trans, LeavesBits, LineLeaves}
use Rattle.fax_reading.proofs.Readings.RowsAndGaps.{after_damage-is, after_whole-is, unless_over, seek_from, after_row, row_added}
use Rattle.fax_reading.proofs.{EncodedPictures.PictureLines.row_before_push, Readings.TurnsMoveOn.eols_here_counted}
use Rattle.fax_reading.proofs.{KeptRows.TurnsLeave.eols_leave_bits, Readings.RowsAndGaps.seek_eol}

-- ---- Rows of which some may differ

-- the rows are equal, or all but a number of consecutive ones, of which something is said by the rows before them
abbrev pub RowsAlike : ℕ → (List Row → Type 0) → List Row → List Row → Type 0
RowsAlike differ Begins xs ys = (xs ≡ ys) ⊎ ((before these those more : List Row) × (length these ≡ length those)
    × (length these ≤ differ) × (xs ≡ before ++ (these ++ more)) × (ys ≡ before ++ (those ++ more)) × Begins before)

rows_more : (differ : ℕ) (Begins : List Row → Type 0) (xs ys : List Row) (row : Row) → RowsAlike differ Begins xs ys
    → RowsAlike differ Begins (xs ++ row ∷ []) (ys ++ row ∷ [])
rows_more differ Begins xs ys row (inl e) = inl (ap (λ (x : List Row). x ++ row ∷ []) e)
rows_more differ Begins xs ys row (inr (before, these, those, more, same, few, e, f, begins)) = grind (arith, append_assoc)

-- a state between lines
abbrev pub run_at : List Row → Bool → Bits → Progress
run_at rows has_eols rest = record { rows = rows; has_eols = has_eols; rest = rest }

-- ---- Runs at the same bits whose next lines are the same

-- the line here is the same after both
abbrev pub SameLine : DecodeSettings → List Row → List Row → Bits → Type 0
SameLine settings xs ys here =
    line_here settings (row_before settings.columns xs) here ≡ line_here settings (row_before settings.columns ys) here

-- Rows after which runs stay alike where they are at the same bits: the row limit is met by both, the same row is added to
-- both, and they go on, end or fail together.
pub record StayAlike (settings : DecodeSettings) (most : ℕ) (Alike : List Row → List Row → Type 0)
    (Run : Progress → Progress → Type 0) (End : Ending → Ending → Type 0) : Type 0 where
  pub limits : (xs ys : List Row) → Alike xs ys → limit_met settings (length xs) ≡ limit_met settings (length ys)
  pub longer : (xs ys : List Row) (row : Row) → Alike xs ys → Alike (xs ++ row ∷ []) (ys ++ row ∷ [])
  pub goes_on : (xs ys : List Row) (h : Bool) (here : Bits) → Alike xs ys → length here ≤ most → SameLine settings xs ys here
      → Run (run_at xs h here) (run_at ys h here)
  pub ends : (xs ys : List Row) (h : Bool) (here : Bits) → Alike xs ys → length here ≤ most
      → End (record { rows = xs; has_eols = h; outcome = Ok here }) (record { rows = ys; has_eols = h; outcome = Ok here })
  pub fails : (xs ys : List Row) (h : Bool) (fault : DecodeError) → Alike xs ys
      → End (record { rows = xs; has_eols = h; outcome = Err fault }) (record { rows = ys; has_eols = h; outcome = Err fault })

module _ (settings : DecodeSettings) (most : ℕ) (Alike : List Row → List Row → Type 0) (Run : Progress → Progress → Type 0)
    (End : Ending → Ending → Type 0) (stay : StayAlike settings most Alike Run End) (rest : Progress → Ending) where
  abbrev Together : Move → Move → Type 0
  Together m n = Follows Run End rest m n

  pub unless_beyond : (xs ys : List Row) (h : Bool) (a b : Bits) (found : ℕ × Bits) → Alike xs ys → length found.1 ≤ most
      → (is_end_of_block settings found.0 ≡ true) ⊎ SameLine settings xs ys found.1
      → Together (unless_over settings (run_at xs h a) found) (unless_over settings (run_at ys h b) found)
  unless_beyond xs ys h a b (count, here) alike short same = grind arith

  row_beyond : (xs ys : List Row) (h : Bool) (here : Bits) → Alike xs ys → length here ≤ most → ((there : Bits)
      → SameLine settings xs ys there) → Together (after_row settings (run_at xs h here)) (after_row settings (run_at ys h here))
  row_beyond xs ys h here alike short same = subst (λ (met : Bool). Together (after_row settings (run_at xs h here))
      (passed ys (((eqb (eols_here settings here).0 0 && h) && not met) && not (at_end here)))) (stay.limits xs ys alike)
      (either_way (misses_eol settings (length xs) h here))
    where
      passed : List Row → Bool → Move
      passed rows t = cond t (seek_eol settings (run_at rows h here))
          (unless_over settings (run_at rows h here) (eols_here settings here))

      sought_in : List Row → Bool → Move
      sought_in rows t = cond t (ends_with (run_at rows h here) (Err InvalidCode))
          (seek_from settings (run_at rows h here) (next_eol here))

      strictly : (t : Bool) → Together (sought_in xs t) (sought_in ys t)
      strictly t = grind (arith, unless_beyond, next_eol_found, eols_here_counted)

      either_way : (t : Bool) → Together (passed xs t) (passed ys t)
      either_way true = strictly settings.strict
      either_way false = grind (arith, unless_beyond, eols_here_counted)

  -- a row is added to both, after which the next line is the same
  added_beyond : (xs ys : List Row) (h : Bool) (u v : Bits) (row : Row) (here : Bits) → Alike xs ys → length here ≤ most
      → Together (row_added settings (run_at xs h u) row here) (row_added settings (run_at ys h v) row here)
  added_beyond xs ys h u v row here alike short = grind (arith, common_steps, row_beyond, row_before_push, cond_le, length-drop)

  line_beyond : (xs ys : List Row) (h : Bool) (here : Bits) (line : Line) → Alike xs ys → length here ≤ most → LineLeaves here
      line → Together (after_line settings (run_at xs h here) line) (after_line settings (run_at ys h here) line)
  line_beyond xs ys h here (Line.whole row left) alike short leaves =
      rw (after_whole-is settings (run_at xs h here) row left, after_whole-is settings (run_at ys h here) row left)
      (added_beyond xs ys h here here row left alike (omega (arith, short, ap length leaves.1, length-append leaves.0 left)))
  line_beyond xs ys h here (Line.broken front fault) alike short leaves = grind (
    arith,
    after_damage-is settings (run_at xs h here) front fault,
    after_damage-is settings (run_at ys h here) front fault,
    added_beyond xs ys h here here (repaired settings.columns front) here alike short,
  )

  pub move_beyond : (xs ys : List Row) (h : Bool) (here : Bits) → Alike xs ys → length here ≤ most
      → SameLine settings xs ys here → Together (move_on settings (run_at xs h here)) (move_on settings (run_at ys h here))
  move_beyond xs ys h here alike short same = grind (arith, common_steps, line_beyond, line_by_leaves)

-- in both readings the line at a position is read after these rows
abbrev pub Begun : DecodeSettings → Bits → Bits → ℕ → List Row → Type 0
Begun settings one two from rows = Reaches (move_on settings) (first_line settings one) (sought rows (drop from one))
    × Reaches (move_on settings) (first_line settings two) (sought rows (drop from two))

-- how two runs end: with one fault; at one position up to the line; past the EOL after it; or at the limit
pub data EndsAlike (settings : DecodeSettings) (one two : Bits) (from : ℕ) (after : Bits) (lines : ℕ)
    (r q : Ending) : Type 0 where
  faults : (fault : DecodeError) → r.outcome ≡ Err fault → q.outcome ≡ Err fault
      → RowsAlike (suc lines) (Begun settings one two from) r.rows q.rows → EndsAlike settings one two from after lines r q
  early : (bits : Bits) → length bits ≤ from → r.outcome ≡ Ok (bits ++ drop from one) → q.outcome ≡ Ok (bits ++ drop from two)
      → r.rows ≡ q.rows → EndsAlike settings one two from after lines r q
  later : (rest : Bits) → length rest ≤ length after → r.outcome ≡ Ok rest → q.outcome ≡ Ok rest
      → RowsAlike (suc lines) (Begun settings one two from) r.rows q.rows → EndsAlike settings one two from after lines r q
  limit : (before these those : List Row) (u v : Bits) → Begun settings one two from before → length these ≡ length those
      → 0 < length these → length these ≤ suc lines → settings.rows ≡ length before + length these → r.rows ≡ before ++ these
      → q.rows ≡ before ++ those → r.outcome ≡ Ok u → q.outcome ≡ Ok v → length u ≤ length (drop from one)
      → length v ≤ length (drop from two) → EndsAlike settings one two from after lines r q

-- EOLs that end the data, or come before a line that is the same whatever its reference row is
abbrev pub Unreferred : DecodeSettings → ℕ × Bits → Type 0
Unreferred settings (count, rest) = (is_end_of_block settings count ≡ true)
    ⊎ ((reference other : Row) → line_here settings reference rest ≡ line_here settings other rest)

-- What follows an EOL: as many lines, each with the same next EOL after it whatever its reference row is, and then such
-- EOLs.
abbrev pub Settles : DecodeSettings → ℕ → Bits → Type 0
Settles settings zero after = (found : Bits) → after_eol 0 found ≡ Some after → Unreferred settings (eols_here settings found)
Settles settings (suc n) after = (next : Bits) × (length next ≤ length after)
    × ((found : Bits) → after_eol 0 found ≡ Some after → eols_here settings found ≡ (1, after))
    × ((reference : Row) → past 0 (rest_of (line_here settings reference after) after) ≡ Some next) × Settles settings n next

-- where two runs are between lines: at one position up to the line; among the lines that are read against rows that differ; or
-- past them
pub data RunsAlike (settings : DecodeSettings) (one two : Bits) (from : ℕ) (after : Bits) (lines : ℕ)
    (s t : Progress) : Type 0 where
  ahead : (rows : List Row) (bits : Bits) → EndsByOne 11 bits → LeavesBits one (bits ++ drop from one)
      → LeavesBits two (bits ++ drop from two) → s ≡ sought rows (bits ++ drop from one) → t ≡ sought rows (bits ++ drop from two)
      → RunsAlike settings one two from after lines s t
  among : (before these those : List Row) (here : Bits) (left : ℕ) → Begun settings one two from before → length these
      ≡ length those → length these + suc left ≤ suc lines → Settles settings (suc left) here → length here ≤ length after
      → s ≡ sought (before ++ these) here → t ≡ sought (before ++ those) here → RunsAlike settings one two from after lines s t
  beyond : (xs ys : List Row) (has_eols : Bool) (rest : Bits) → RowsAlike (suc lines) (Begun settings one two from) xs ys
      → length rest ≤ length after → SameLine settings xs ys rest → s ≡ run_at xs has_eols rest → t ≡ run_at ys has_eols rest
      → RunsAlike settings one two from after lines s t

-- what is known of two inputs, in both of which a line begins at a position that may be damaged
pub record LinesDiffer (settings : DecodeSettings) (one two : Bits) (from : ℕ) (after : Bits) (lines : ℕ) : Type 0 where
  pub line_one : IsLineIn settings one (drop from one) after
  pub line_two : IsLineIn settings two (drop from two) after
  pub fits_one : from ≤ length one
  pub fits_two : from ≤ length two
  pub same : take from one ≡ take from two
  pub starts : (from ≡ 0) ⊎ ((place : ℕ) × IsEol one place from)
  pub sought_by : (settings.end_of_line ≡ true) ⊎ ((end : ℕ) × (end ≤ from) × IsEol one 0 end)
  pub stays_one : (rows : List Row) → Reaches (move_on settings) (first_line settings one) (sought rows (drop from one))
      → past 0 (rest_of (line_of_turn settings (sought rows (drop from one))) (drop from one)) ≡ Some after
  pub stays_two : (rows : List Row) → Reaches (move_on settings) (first_line settings two) (sought rows (drop from two))
      → past 0 (rest_of (line_of_turn settings (sought rows (drop from two))) (drop from two)) ≡ Some after
  pub settles : Settles settings lines after

pub not_group4 : (encoding : EncodingMode) → IsGroup3 encoding → encoding ≢ Group4
not_group4 encoding e2 e = grind arith

module _ (settings : DecodeSettings) (one two : Bits) (from : ℕ) (after : Bits) (lines : ℕ)
    (given : LinesDiffer settings one two from after lines) (rest : Progress → Ending) where
  abbrev x : Bits
  x = drop from one

  abbrev y : Bits
  y = drop from two

  -- two turns that are alike
  abbrev Both : Move → Move → Type 0
  Both m n = Follows (RunsAlike settings one two from after lines) (EndsAlike settings one two from after lines) rest m n

  abbrev Alike : List Row → List Row → Type 0
  Alike xs ys = RowsAlike (suc lines) (Begun settings one two from) xs ys

  -- past the lines that may differ everything is alike except their rows
  stay : StayAlike settings (length after) Alike (RunsAlike settings one two from after lines)
      (EndsAlike settings one two from after lines)
  stay = record {
    limits = λ xs ys alike. ap (limit_met settings) (grind (arith, common_steps, length-append));
    longer = rows_more (suc lines) (Begun settings one two from);
    goes_on = λ xs ys h here alike short same. RunsAlike.beyond xs ys h here alike short same refl refl;
    ends = λ xs ys h here alike short. EndsAlike.later here short refl refl alike;
    fails = λ xs ys h fault alike. EndsAlike.faults fault refl refl alike;
  }

  unless_on : (xs ys : List Row) (h : Bool) (a b : Bits) (found : ℕ × Bits) → Alike xs ys → length found.1 ≤ length after
      → (is_end_of_block settings found.0 ≡ true) ⊎ SameLine settings xs ys found.1
      → Both (unless_over settings (run_at xs h a) found) (unless_over settings (run_at ys h b) found)
  unless_on = unless_beyond settings (length after) Alike (RunsAlike settings one two from after lines)
      (EndsAlike settings one two from after lines) stay rest

  -- ---- Before the line

  short : (bits : Bits) → LeavesBits one (bits ++ x) → length bits ≤ from
  short bits leaves = grind (arith, common_steps, leaves_length, length-append, length-drop)

  -- after EOLs that end up to there
  unless_ahead : (rows : List Row) (u v bits : Bits) (count : ℕ) → EndsByOne 11 bits → LeavesBits one (bits ++ x)
      → LeavesBits two (bits ++ y)
      → Both (unless_over settings (sought rows u) (count, bits ++ x)) (unless_over settings (sought rows v) (count, bits ++ y))
  unless_ahead rows u v bits count ends leaves leaves2 = rw (
    not_end settings one x after given.line_one bits,
    not_end settings two y after given.line_two bits,
  ) grind (arith, either_way)
    where
      either_way : (t : Bool) → Both (cond t (ends_with (sought rows u) (Ok (bits ++ x))) (Turn.next (sought rows (bits ++ x))))
          (cond t (ends_with (sought rows v) (Ok (bits ++ y))) (Turn.next (sought rows (bits ++ y))))
      either_way true = EndsAlike.early bits (short bits leaves) refl refl refl
      either_way false = RunsAlike.ahead rows bits ends leaves leaves2 refl refl

  -- after a row that ends there
  row_ahead : (rows : List Row) (bits left : Bits) → Closes bits → LeavesBits bits left → LeavesBits one (left ++ x) → LeavesBits
      two (left ++ y) → Both (after_row settings (sought rows (left ++ x))) (after_row settings (sought rows (left ++ y)))
  row_ahead rows bits left closes within leaves leaves2 = by_limit (cases_Bool (limit_met settings (length rows)))
    where
      ends : EndsByOne 0 left
      ends = left_ends bits left closes within

      by_past : limit_met settings (length rows) ≡ false → (o : Option Bits) → past 0 left ≡ o
          → Both (after_row settings (sought rows (left ++ x))) (after_row settings (sought rows (left ++ y)))
      by_past open_limit (Some more) e = let following = left_closes bits left more closes within e in
          let these = row_counted settings one x after given.line_one rows left more open_limit leaves e following in
          let those = row_counted settings two y after given.line_two rows left more open_limit leaves2 e following in
          rw (these.6, those.6) (unless_ahead rows (left ++ x) (left ++ y) (counted settings more).1 (counted settings more).0
          these.4 these.5 those.5)
      by_past open_limit None e = let these = row_past settings given.line_one.lenient rows (left ++ x) after open_limit
          (past_ends left x ends e ∙ given.line_one.next) in
          let those = row_past settings given.line_one.lenient rows (left ++ y) after open_limit
          (past_ends left y ends e ∙ given.line_two.next) in
          rw (these.3, those.3, eols_here_same settings those.0 these.0 after those.2 these.2) (unless_on rows rows true
          (left ++ x) (left ++ y) (eols_here settings these.0) (inl refl) (eols_past settings these.0 after these.2) (inr refl))

      by_limit : (limit_met settings (length rows) ≡ true) ⊎ (limit_met settings (length rows) ≡ false)
          → Both (after_row settings (sought rows (left ++ x))) (after_row settings (sought rows (left ++ y)))
      by_limit (inl met) = let here = eols_left settings one x after given.line_one left ends leaves in
          let there = eols_left settings two y after given.line_two left ends leaves2 in
          rw (sought_done settings rows (left ++ x) met, sought_done settings rows (left ++ y) met, here, there)
          (EndsAlike.early (eols_here settings left).1 (short (eols_here settings left).1 (leaves_trans one (left ++ x) _ leaves
          (subst (λ (f : ℕ × Bits). LeavesBits (left ++ x) f.1) here (eols_leave_bits settings (left ++ x))))) refl refl refl)
      by_limit (inr open_limit) = by_past open_limit (past 0 left) refl

  line_ahead : (rows : List Row) (bits : Bits) → Closes bits → LeavesBits one (bits ++ x) → LeavesBits two (bits ++ y)
      → Both (move_on settings (sought rows (bits ++ x))) (move_on settings (sought rows (bits ++ y)))
  line_ahead rows bits closes leaves leaves2 =
      let (row, left, within, turn) = turn_closed settings given.line_one.lenient rows bits closes in
      rw (turn x, turn y) (row_ahead (rows ++ row ∷ []) bits left closes within
      (leaves_trans one (bits ++ x) (left ++ x) leaves (with_tail bits left x within))
      (leaves_trans two (bits ++ y) (left ++ y) leaves2 (with_tail bits left y within)))

  -- ---- At the line, and at those that are read against its row
  -- after a row that may differ, if the next EOL is the same
  row_there : (before these those : List Row) (u v z : Bits) (left : ℕ)
      → Begun settings one two from before → length these ≡ length those → 0 < length these → length these + left ≤ suc lines
      → past 0 u ≡ Some z → past 0 v ≡ Some z → length u ≤ length x → length v ≤ length y → length z ≤ length after
      → Settles settings left z
      → Both (after_row settings (sought (before ++ these) u)) (after_row settings (sought (before ++ those) v))
  row_there before these those u v z left begins same some few e f le le2 short settled =
      in_each_case (cases_Bool (limit_met settings (length (before ++ these))))
    where
      as_many : length (before ++ these) ≡ length (before ++ those)
      as_many = omega (arith, same, length-append before these, length-append before those)

      limit_is : limit_met settings (length (before ++ these)) ≡ true → settings.rows ≡ length before + length these
      limit_is met = grind (arith, common_steps, eqb-true, and_parts, length-append)

      alike : Alike (before ++ these) (before ++ those)
      alike = grind (arith, common_steps)

      settle : (n : ℕ) → length these + n ≤ suc lines → Settles settings n z → (found : Bits) → after_eol 0 found ≡ Some z
          → Both (unless_over settings (sought (before ++ these) u) (eols_here settings found))
          (unless_over settings (sought (before ++ those) v) (eols_here settings found))
      settle zero most unreferred found g = unless_on (before ++ these)
          (before ++ those) true u v (eols_here settings found) alike (omega (arith, eols_past settings found z g, short))
          (elim (unreferred found g) [ inl ends ↦ inl ends | inr line ↦ inr (line _ _) ])
      settle (suc n) most (next, shorter, one, following, further) found g = rw (one found g) grind (arith, as_many, on)
        where
          on : (t : Bool) → Both (cond t (ends_with (sought (before ++ these) u) (Ok z)) (Turn.next (sought (before ++ these) z)))
              (cond t (ends_with (sought (before ++ those) v) (Ok z)) (Turn.next (sought (before ++ those) z)))
          on true = EndsAlike.later z short refl refl alike
          on false = RunsAlike.among before these those z n begins same most
              (next, shorter, one, following, further) short refl refl

      in_each_case : (limit_met settings (length (before ++ these)) ≡ true) ⊎ (limit_met settings (length (before ++ these))
          ≡ false) → Both (after_row settings (sought (before ++ these) u)) (after_row settings (sought (before ++ those) v))
      in_each_case (inl met) = rw (
        sought_done settings (before ++ these) u met,
        sought_done settings (before ++ those) v (ap (limit_met settings) (sym as_many) ∙ met),
      ) (EndsAlike.limit before these those (eols_here settings u).1 (eols_here settings v).1 begins same some (omega arith)
          (limit_is met) refl refl refl refl (omega (arith, (eols_here_counted settings u).0, le))
          (omega (arith, (eols_here_counted settings v).0, le2)))
      in_each_case (inr open_limit) = let one = row_past settings given.line_one.lenient (before ++ these) u z open_limit e in
          let two = row_past settings given.line_one.lenient (before ++ those) v z
          (ap (limit_met settings) (sym as_many) ∙ open_limit) f in
          rw (one.3, two.3, eols_here_same settings two.0 one.0 z two.2 one.2) (settle left few settled one.0 one.2)

  rest_shorter : (line : Line) (here : Bits) → LineLeaves here line → length (rest_of line here) ≤ length here
  rest_shorter line here leaves = grind (arith, leaves_length)

  line_there : (rows : List Row) → Begun settings one two from rows
      → Both (move_on settings (sought rows x)) (move_on settings (sought rows y))
  line_there rows begins = let line : Line = line_of_turn settings (sought rows x) in
      let other : Line = line_of_turn settings (sought rows y) in
      rw (move_sought settings given.line_one.lenient rows x, move_sought settings given.line_one.lenient rows y) (row_there
      rows (row_of settings.columns line ∷ []) (row_of settings.columns other ∷ []) (rest_of line x) (rest_of other y) after
      lines begins refl (omega arith) (omega arith) (given.stays_one rows begins.0) (given.stays_two rows begins.1)
      (grind (arith, common_steps, rest_shorter, line_by_leaves)) (grind (arith, common_steps, rest_shorter, line_by_leaves))
      (omega arith) given.settles)

  -- a turn of two such runs
  pub moves_alike : (s t : Progress) → ((rows : List Row) → s ≡ sought rows x → t ≡ sought rows y
      → Begun settings one two from rows) → RunsAlike settings one two from after lines s t
      → Both (move_on settings s) (move_on settings t)
  moves_alike s t begins (RunsAlike.ahead rows bits (inl none) leaves leaves2 e f) = grind
      (arith, common_steps, sought, line_there)
  moves_alike s t begins (RunsAlike.ahead rows bits (inr closes) leaves leaves2 e f) =
      rw (e, f) (line_ahead rows bits closes leaves leaves2)
  moves_alike s t begins (RunsAlike.among before these those here left begun same few settled short e f) =
      let le : length after ≤ length x = omega (arith, past_shorter 0 x after given.line_one.next) in
      let le2 : length after ≤ length y = omega (arith, past_shorter 0 y after given.line_two.next) in
      rw (e, f) (grind (arith, common_steps, move_sought, append_assoc, row_there, length-append, rest_shorter, line_by_leaves))
  moves_alike s t begins (RunsAlike.beyond xs ys has_eols here alike short same e f) = rw (e, f) grind (arith, move_beyond, stay)
