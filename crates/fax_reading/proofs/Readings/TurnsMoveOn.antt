-- Each line of a run moves the offset on; a run only adds rows, and each row has the width of its columns.
use Rattle.fax_reading.proofs.Names.{length-replicate, is_end_of_block, DecodeSettings, UnexpectedEof, ending_after, length-drop}
use Rattle.fax_reading.proofs.Names.{length-append, EncodingMode, append_assoc, common_steps, after_line, append-nil}
use Rattle.fax_reading.proofs.Names.{aligned_after_row}
use Rattle.fax_reading.proofs.Names.{misses_eol, row_before, Group3_1D, Group3_2D, HaveWidth, after_eol, ends_with, eols_here, []}
use Rattle.fax_reading.proofs.Names.{eqb-false, first_gap, limit_met, line_here, not-false, replicate, IsPrefix, Progress, Ending}
use Rattle.fax_reading.proofs.Names.{front_of, next_eol, or_parts, repeated, with_row, All-nil, aligned, eols_by, Group4}
use Rattle.fax_reading.proofs.Names.{line_by, move_on, Option, at_end, le-leb, length, lt-leb, arith, false, plain, subst, Bits}
use Rattle.fax_reading.proofs.Names.{Bool, Line, List, Move, None, Some, Turn, cond, refl, true, ◌&&◌, ◌++◌, ◌||◌, Err, Row, inl}
use Rattle.fax_reading.proofs.Names.{inr, not, suc, sym, ◌%◌, ◌-◌, ◌<◌, ◌∙◌, ◌∷◌, ◌≡◌, ◌≤◌, ap, ℕ}
use Rattle.fax_bits.proofs.BitReading.ConsecutiveEols.{tagged_eols_counted, last_tag_count, next_eol_found, one_more-count}
use Rattle.fax_bits.proofs.BitReading.ConsecutiveEols.{count_shorter, counts_tagged, counts_plain, all_counted, count_moves}
use Rattle.fax_bits.proofs.BitReading.ConsecutiveEols.{count_some, eols-some, Counted, cond_le}
use Rattle.fax_bits.proofs.Repetition.Repeated.{repeated_induct, repeated_keeps, after_turn, not_next, Shrinks}
use Rattle.fax_reading.proofs.DrawingLines.FullRows.{line_by_within, line_by_full, IsFull}
use Rattle.fax_reading.proofs.DrawingLines.ReadLines.{line_1d_took_bits, line_2d_took_bits, TookBits}
use Rattle.fax_reading.proofs.Readings.RowsAndGaps.{after_damage-is, after_whole-is, missed_sought, pass_gap-is, unless_over}
use Rattle.fax_reading.proofs.Readings.RowsAndGaps.{after_row, row_added, seek_from, seek_eol}
use Rattle.fax_bits.proofs.CodeWords.ReadRuns.{chosen}

-- a turn that leaves the rows as they are
abbrev pub Keeps : List Row → Move → Type 0
Keeps rows (Turn.next t) = t.rows ≡ rows
Keeps rows (Turn.done e) = e.rows ≡ rows

-- either of two turns has what both have
either_has : (P : Move → Type 0) (b : Bool) (x y : Move) → P x → P y → P (cond b x y)
either_has P b x y p q = grind arith

-- the rows so far don't change
pub unless_over_keeps : (settings : DecodeSettings) (run : Progress) (found : ℕ × Bits)
    → Keeps run.rows (unless_over settings run found)
unless_over_keeps settings run (count, rest) = grind (arith, common_steps, either_has)

-- and where an EOL is looked for
pub seek_from_keeps : (settings : DecodeSettings) (run : Progress) (o : Option Bits) → Keeps run.rows (seek_from settings run o)
seek_from_keeps settings run o = grind (arith, unless_over_keeps)

-- and after a row
pub after_row_keeps : (settings : DecodeSettings) (run : Progress) → Keeps run.rows (after_row settings run)
after_row_keeps settings run = either_has (Keeps run.rows) (misses_eol settings (length run.rows) run.has_eols run.rest)
    (seek_eol settings run) (unless_over settings run (eols_here settings run.rest))
    (grind (arith, common_steps, either_has, seek_from_keeps)) (unless_over_keeps settings run (eols_here settings run.rest))

-- the first gap leaves no rows
pub first_gap_keeps : (settings : DecodeSettings) (encoding : EncodingMode) (bits : Bits)
    → Keeps [] (first_gap encoding settings bits)
first_gap_keeps settings encoding bits = grind (arith, pass_gap-is, after_row_keeps)

-- a turn that adds rows, or none
abbrev pub Adds : List Row → Move → Type 0
Adds rows (Turn.next t) = IsPrefix rows t.rows
Adds rows (Turn.done e) = IsPrefix rows e.rows

pub keeps_adds : (rows more : List Row) (m : Move) → Keeps (rows ++ more) m → Adds rows m
keeps_adds rows more m k = grind arith

after_line_adds : (settings : DecodeSettings) (run : Progress) (line : Line) → Adds run.rows (after_line settings run line)
after_line_adds settings run (Line.whole row rest) = subst (Adds run.rows) (sym (after_whole-is settings run row rest))
    (keeps_adds run.rows (row ∷ []) _ (after_row_keeps settings (record run
    { rows = run.rows ++ row ∷ []; rest = cond (settings.rows_are_byte_aligned && not run.has_eols) (aligned rest) rest })))
after_line_adds settings run (Line.broken front fault) =
    let row : Row = front ++ replicate (settings.columns - length front) false in
    subst (Adds run.rows) (sym (after_damage-is settings run front fault))
    (either_has (Adds run.rows) (settings.strict || not run.has_eols) (ends_with run (Err fault)) (row_added settings run row
    run.rest) ([], sym (append-nil run.rows)) (keeps_adds run.rows (row ∷ []) _ (after_row_keeps settings (record run {
      rows = run.rows ++ row ∷ [];
      rest = cond (settings.rows_are_byte_aligned && not run.has_eols) (aligned run.rest) run.rest;
    }))))

-- a turn adds a row, or ends
pub move_adds : (settings : DecodeSettings) (run : Progress) → Adds run.rows (move_on settings run)
move_adds settings run = after_line_adds settings run (line_here settings (row_before settings.columns run.rows) run.rest)

-- a prefix of a prefix is a prefix
pub prefix_trans : {A : Type 0} (a b c : List A) → IsPrefix a b → IsPrefix b c → IsPrefix a c
prefix_trans a b c f g = (f.0 ++ g.0, g.1 ∙ ap (λ (x : List _). x ++ g.0) f.1 ∙ append_assoc a f.0 g.0)

-- the rows of a state are a prefix of the result's
pub repeated_adds : (move : Progress → Move) (late : Ending) (size : Progress → ℕ) → Shrinks move size → ((run : Progress)
    → Adds run.rows (move run)) → (n : ℕ) (run : Progress) → size run < n → IsPrefix run.rows (repeated move late n run).rows
repeated_adds move late size shrinks adds n run lt =
    repeated_induct move late size shrinks (λ run end. IsPrefix run.rows end.rows) (λ run end e. subst (Adds run.rows) e
    (adds run)) (λ run t end e more. prefix_trans run.rows t.rows end.rows (subst (Adds run.rows) e (adds run)) more) n run lt

-- a turn that keeps the rows extends them, if what follows it does
pub turn_extends : (rest : Progress → Ending) → ((t : Progress) → IsPrefix t.rows (rest t).rows) → (rows : List Row) (m : Move)
    → Keeps rows m → IsPrefix rows (after_turn rest m).rows
turn_extends rest extends rows (Turn.next t) k = subst (λ (x : List Row). IsPrefix x (rest t).rows) k (extends t)
turn_extends rest extends rows (Turn.done e) k = ([], k ∙ sym (append-nil rows))

-- that many EOLs consumed bits
pub eols_here_counted : (settings : DecodeSettings) (here : Bits) → Counted here (eols_here settings here)
eols_here_counted settings here = by_encoding settings.encoding settings.end_of_block
  where
    by_encoding : (encoding : EncodingMode) (block : Bool) → Counted here (eols_by encoding block here)
    by_encoding Group3_1D block = all_counted here
    by_encoding Group3_2D block = tagged_eols_counted here
    by_encoding Group4 true = (count_shorter counts_plain 2 here, count_moves counts_plain 2 here)
    by_encoding Group4 false = all_counted here

-- if there is an EOL, one is counted
pub eols_here_some : (settings : DecodeSettings) (here rest : Bits) → after_eol 0 here ≡ Some rest
    → 0 < (eols_here settings here).0
eols_here_some settings here rest e =
    grind (arith, common_steps, count_some, counts_plain, last_tag_count, counts_tagged, eols-some, one_more-count)

-- what is left of a run: its bits, and one more while EOLs are sought
abbrev pub left_to_read : Progress → ℕ
left_to_read run = cond run.has_eols (suc (length run.rest)) (length run.rest)

-- if the reading continues, it does so after the EOLs
pub unless_over_next : (settings : DecodeSettings) (run t : Progress) (found : ℕ × Bits)
    → unless_over settings run found ≡ Turn.next t → ◌≡◌ {A = Progress} (record run { rest = found.1 }) t
unless_over_next settings run t (count, rest) e = grind (arith, common_steps)

-- a run continues neither at its limit nor at the end
pub unless_over_open : (settings : DecodeSettings) (run t : Progress) (found : ℕ × Bits)
    → unless_over settings run found ≡ Turn.next t → (limit_met settings (length run.rows) ≡ false) × (at_end found.1 ≡ false)
unless_over_open settings run t (count, rest) e = grind (arith, common_steps, chosen, not_next, or_parts)

seek_left : (settings : DecodeSettings) (run t : Progress) (o : Option Bits) → run.has_eols ≡ true → next_eol run.rest ≡ o
    → seek_from settings run o ≡ Turn.next t → left_to_read t ≤ length run.rest
seek_left settings run t None h e k = grind (arith, common_steps)
seek_left settings run t (Some found) h e k = grind (arith, next_eol_found, eols_here_counted, unless_over_next, eols_here_some)

took_more : (line : Line) (n : ℕ) → TookBits n line → TookBits (suc n) line
took_more line n took = grind arith

-- the EOLs after a row leave less than there was before its line: it consumed bits, or EOLs are sought
pub after_row_next : (settings : DecodeSettings) (run t : Progress) (n : ℕ) → after_row settings run ≡ Turn.next t
    → length run.rest < n → left_to_read t < n
after_row_next settings run t n e small = elim (chosen (misses_eol settings (length run.rows) run.has_eols run.rest) _ _ _ e) [
  | inl a ↦ grind (arith, missed_sought, seek_left)
  | inr a ↦ let open_run = unless_over_open settings run t (eols_here settings run.rest) a.1 in
      let counted = eols_here_counted settings run.rest in
      subst (λ (r : Progress). left_to_read r < n) (unless_over_next settings run t (eols_here settings run.rest) a.1)
      (grind (arith, common_steps, eqb-false, either))
]
  where
    either : (b : Bool) (k : ℕ) → suc k < n → cond b (suc k) k < n
    either b k lt = grind arith

-- a whole line consumed bits
pub line_by_took : (encoding : EncodingMode) (strict : Bool) (columns : ℕ) (reference : Row) (here : Bits) → 0 < columns
    → TookBits (length here) (line_by encoding strict columns reference here)
line_by_took Group3_1D strict columns reference here wide = line_1d_took_bits strict columns here wide
line_by_took Group3_2D strict columns reference [] wide = tt
line_by_took Group3_2D strict columns reference (true ∷ rest) wide = grind (arith, common_steps, took_more, line_1d_took_bits)
line_by_took Group3_2D strict columns reference (false ∷ rest) wide = grind (arith, common_steps, took_more, line_2d_took_bits)
line_by_took Group4 strict columns reference here wide = line_2d_took_bits strict columns reference here wide

after_line_next : (settings : DecodeSettings) (run t : Progress) (line : Line) → TookBits (length run.rest) line
    → after_line settings run line ≡ Turn.next t → left_to_read t < left_to_read run
after_line_next settings run t (Line.whole row rest) took e =
    let al : Bool = settings.rows_are_byte_aligned && not run.has_eols in
    let shorter : length (cond al (aligned rest) rest) ≤ length rest
    = cond_le al (aligned rest) rest (length rest) (omega (arith, length-drop (length rest % 8) rest)) (omega arith) in
    after_row_next settings (record run { rows = run.rows ++ row ∷ []; rest = cond al (aligned rest) rest }) t (left_to_read run)
    (sym (after_whole-is settings run row rest) ∙ e) (grind (arith, common_steps, shorter, took))
after_line_next settings run t (Line.broken front fault) took e =
    elim (chosen (settings.strict || not run.has_eols) _ _ _ (sym (after_damage-is settings run front fault) ∙ e)) [
      | inl a ↦ absurd (not_next _ t a.1)
      | inr a ↦ let sought : run.has_eols ≡ true = not-false run.has_eols (or_parts settings.strict (not run.has_eols) a.0).1 in
          let al : Bool = settings.rows_are_byte_aligned && not run.has_eols in
          let more : Progress = record run {
            rows = run.rows ++ (front ++ replicate (settings.columns - length front) false) ∷ [];
            rest = cond al (aligned run.rest) run.rest;
          } in
          let shorter : length (cond al (aligned run.rest) run.rest) ≤ length run.rest = grind
          (arith, common_steps, cond_le, length-drop) in
          let left_is : left_to_read run ≡ suc (length run.rest) = rw sought refl in
          rw left_is (after_row_next settings more t (suc (length run.rest)) a.1 (omega (arith, shorter)))
    ]

-- a turn of Group 3 leaves fewer bits, or ceases to seek EOLs
pub move_shrinks : (settings : DecodeSettings) → 0 < settings.columns → Shrinks (move_on settings) left_to_read
move_shrinks settings wide run t e = grind (arith, common_steps, after_line_next, line_by_took)

-- a run is allowed more turns than that
pub left_below : (run : Progress) → left_to_read run < suc (suc (length run.rest))
left_below run = grind (arith, common_steps)

-- one EOL ends no data, nor do any without `end_of_block`; with it six end them, and two in T.6
pub eols_end : (settings : DecodeSettings) (count : ℕ) → (count < 2 → is_end_of_block settings count ≡ false)
    × (settings.end_of_block ≡ false → is_end_of_block settings count ≡ false)
    × (settings.end_of_block ≡ true → 6 ≤ count → is_end_of_block settings count ≡ true)
    × (settings.end_of_block ≡ true → settings.encoding ≡ Group4 → 2 ≤ count → is_end_of_block settings count ≡ true)
eols_end settings count = grind (arith, common_steps, le-leb, lt-leb)

-- the rows that a turn leaves have a width
abbrev pub LeavesWidth : ℕ → Move → Type 0
LeavesWidth columns (Turn.next so_far) = HaveWidth columns so_far.rows
LeavesWidth columns (Turn.done end) = HaveWidth columns end.rows

keeps_width : (columns : ℕ) (rows : List Row) (move : Move) → Keeps rows move → HaveWidth columns rows → LeavesWidth columns move
keeps_width columns rows move same have = grind arith

module _ (settings : DecodeSettings) where
  -- a row is added
  row_added_width : (so_far : Progress) (row : Row) (rest : Bits) → HaveWidth settings.columns so_far.rows
      → length row ≡ settings.columns → LeavesWidth settings.columns (row_added settings so_far row rest)
  row_added_width so_far row rest have width = keeps_width settings.columns (so_far.rows ++ row ∷ [])
      _ (after_row_keeps settings (with_row so_far row (aligned_after_row settings so_far.has_eols rest)))
      (grind (arith, common_steps))

  after_line_width : (so_far : Progress) (line : Line) → HaveWidth settings.columns so_far.rows → length (front_of line)
      ≤ settings.columns → IsFull settings.columns line → LeavesWidth settings.columns (after_line settings so_far line)
  after_line_width so_far line have within full =
      grind (arith, after_whole-is, row_added_width, after_damage-is, length-append, length-replicate)

  move_width : (so_far : Progress) → HaveWidth settings.columns so_far.rows
      → LeavesWidth settings.columns (move_on settings so_far)
  move_width so_far have = grind (arith, common_steps, after_line_width, line_by_within, line_by_full)

  none : HaveWidth settings.columns []
  none = All-nil (λ row. length row ≡ settings.columns)

  after_width : (gap : Move) → Keeps [] gap → HaveWidth settings.columns (ending_after settings gap).rows
  after_width (Turn.next so_far) keeps = repeated_keeps (move_on settings)
      (record { rows = so_far.rows; has_eols = so_far.has_eols; outcome = Err UnexpectedEof }) (λ s. HaveWidth settings.columns
      s.rows) (λ end. HaveWidth settings.columns end.rows) (subst (HaveWidth settings.columns) (sym keeps) none) (λ s t p e. subst
      (LeavesWidth settings.columns) e (move_width s p)) (λ s end p e. subst (LeavesWidth settings.columns) e (move_width s p))
      (suc (suc (length so_far.rest))) so_far (subst (HaveWidth settings.columns) (sym keeps) none)
  after_width (Turn.done end) keeps = subst (HaveWidth settings.columns) (sym keeps) none

  -- each row has the width
  pub plain_width : (input : Bits) → HaveWidth settings.columns (plain settings input).rows
  plain_width input = grind (arith, common_steps, after_width, first_gap_keeps)
