-- Rows one at a time: what is known of a reading between two rows, and what its calls leave.
use Rattle.fax_rows.proofs.Names.{common_steps}
use Rattle.fax_rows.proofs.Names.{◌≡◌, ◌+◌, ◌-◌, ◌<◌, ◌≤◌, ℕ, suc, Bool, true, false, eqb, List, [], ◌∷◌, ◌++◌, length, drop}
use Rattle.fax_rows.proofs.Names.{get_or, Some, Result, Ok, Err, refl, sym, ap, ◌∙◌, subst, arith, cond-true, cond-false}
use Rattle.fax_rows.proofs.Names.{eq-eqb, ne_eqb, false≢true, length-append, length-drop, cond, take, None}
use Rattle.fax_rows.proofs.Names.{Option, OnErr, IfOk, sum_by, slice_get, IsOkUnless, ◌≢◌, DecodeError, InvalidCode}
use Rattle.fax_rows.proofs.Names.{DecodeSettings, Bits, BitsAt, IsPrefix, here, Held, Context}
use Rattle.fax_rows.proofs.Names.{Repairs, fresh, no_repairs, Damaged, fault_in, repaired_in, repaired_by_turn}
use Rattle.fax_rows.proofs.Names.{repairs_by_line, missed_by_turn, TakesOneRow, repairs_with}
use Rattle.fax_rows.proofs.Names.{repairs_after, gap_said, Line, Progress, Ending, Reading, row_before, with_row}
use Rattle.fax_rows.proofs.Names.{at_gap, gap_after_row, row_of_line, line_here, line_of_turn, move_on, first_gap, first_line}
use Rattle.fax_rows.proofs.Names.{at_front, ending_from, ending_after, turns_of, map}
use Rattle.fax_rows.proofs.Names.{whole_reading, plain, lines_of, line_starts, start_of_turn}
use Rattle.fax_rows.proofs.Names.{row_ends, end_of_row, end_of_turn, failed_at, Turn}
use Rattle.fax_rows.proofs.Names.{Reaches, Row, found_here, words_of, words_of_turn, Stand, AtLine, AfterRow, AtEnd, AtFault}
use Rattle.fax_rows.proofs.Names.{EncodingMode, Group4, RowsRead, ReadsNext, damage_since, start_after}
use Rattle.fax_rows.proofs.Names.{IsStanding, ReachesNextLine, seen, line_after, DamageIsCounted, MissesAreCounted}
use Rattle.fax_rows.proofs.Names.{MissesAfterRow}
use Rattle.fax_rows.proofs.Names.{Misses, ReaderStands, ended, stand_after, is_at_line, StandsAtLine, StandsAfterRow}
use Rattle.fax_rows.proofs.Names.{redrawn, White, end_of, ends_with, add_row}
use Rattle.fax_rows.proofs.Names.{IsWhole, IsFault, cut_by_turn, cuts_by_line, cut_in, cut_since}
use Rattle.fax_rows.proofs.Names.{cuts_run}
use Rattle.fax_rows.proofs.Names.{strict_line_of_turn}
use Rattle.fax_rows.proofs.Names.{HasEnded, HasFailed, MissIsReported, context_at, missed_before, missed_since, start_in}
use Rattle.fax_reading.specs.Answers.{HasBlack, PaintsBlack}
use Rattle.fax_rows.specs.declared.row_reader.RowState.{RowState}
use Rattle.fax_rows.proofs.Names.{front_of}
use Rattle.fax_reading.proofs.Readings.GapsAndRows.{first_gap_t4}
use Rattle.fax_bits.proofs.Repetition.Repeated.{reaches_on}
use Rattle.fax_reading.proofs.Readings.DamageCounted.{repaired_counts, repaired_none, missed_counts, missed_none, missed_starts}
use Rattle.fax_reading.proofs.Readings.DamageCounted.{few_after, last_after, cuts_keep, cut_counts, cut_once, cut_is_reported}
use Rattle.fax_reading.proofs.Readings.DamageCounted.{cut_none}
use Rattle.fax_reading.proofs.Readings.PlainAnswers.{some_columns, bytes_before-place}
use Rattle.fax_reading.proofs.Readings.RowsAndGaps.{unmissed}
use Rattle.fax_reading.proofs.Readings.RunsOverRows.{row_of_turn, row_adds, turn_is, Comes}
use Rattle.fax_reading.proofs.Readings.RunsOverRows.{context_at-more, comes_done, comes_more, get_or-after}
use Rattle.fax_reading.proofs.Readings.RunsOverRows.{none_first, comes, given_there, given_is, given_at, given_more, given_whole}
use Rattle.fax_reading.proofs.Readings.RunsOverRows.{none_given}
use Rattle.fax_reading.proofs.Readings.TurnsMoveOn.{left_below}

pub has_columns : (settings : DecodeSettings) → 0 < settings.columns → eqb settings.columns 0 ≡ false
has_columns settings wide = some_columns settings.columns (λ none. absurd (omega (arith, wide, none)))

-- the plain reading is that which ends so
pub plain_whole : (settings : DecodeSettings) → 0 < settings.columns → (bits : Bits) → {end : Ending} → end_of settings bits ≡ end
    → plain settings bits ≡ whole_reading bits end
plain_whole settings wide bits is = grind (arith, common_steps, cond-false, has_columns)

module _ (settings : DecodeSettings) (wide : 0 < settings.columns) (bits : Bits) {first : Progress}
    (begins : first_gap settings.encoding settings bits ≡ Turn.next first) where
  -- the reading ends as that from the first line on
  end_is : end_of settings bits ≡ ending_from (move_on settings) first
  end_is = ap (ending_after settings) begins

  pub plain_is : plain settings bits ≡ whole_reading bits (ending_from (move_on settings) first)
  plain_is = plain_whole settings wide bits end_is

  module _ {so_far : Progress} (reaches : Reaches (move_on settings) first so_far) where
    abbrev come : Comes settings first so_far
    come = comes settings wide bits begins reaches

    abbrev first_of : first.rows ≡ []
    first_of = none_first settings wide bits begins

    -- there are at most as many rows as bits, and one more
    pub few_rows : length first.rest ≤ length bits → length so_far.rows ≤ length bits + 1
    few_rows room = omega (arith, come.room, left_below first, room)

    -- where a turn is the last, it is known how the reading ends
    pub ends_with_turn : {end : Ending} → move_on settings so_far ≡ Turn.done end → end_of settings bits ≡ end
    ends_with_turn is = end_is ∙ comes_done settings wide first_of come is

    -- where its turn is the last, a reading fails there
    pub fails_after : {end : Ending} → move_on settings so_far ≡ Turn.done end → {row : Row} {rest : Bits} → row_of_turn
        settings so_far ≡ Ok (row, rest) → failed_at settings bits (length so_far.rows + 1) ≡ length bits - length rest
    fails_after ends is =
        let index : (length so_far.rows + 1) - 1 ≡ length so_far.rows = omega arith in
        none_given settings wide bits begins reaches (start_of_turn bits) ends _
        ∙ ap (λ (n : ℕ). get_or (row_ends settings bits) n 0) index
        ∙ given_is settings wide bits begins reaches (end_of_turn settings bits) 0 ∙ ap (end_of_row bits so_far) is

    module _ {row : Row} {rest : Bits} (is : row_of_turn settings so_far ≡ Ok (row, rest)) where
      prefix : IsPrefix (so_far.rows ++ row ∷ []) (plain settings bits).rows
      prefix = subst (λ (rows : List Row). IsPrefix (so_far.rows ++ row ∷ []) rows)
          (sym (ap (λ (r : Reading). r.rows) plain_is)) (comes_more settings wide first_of come (so_far.rows ++ row ∷ [])
          (row_adds settings so_far row rest is))

      -- the row that is read is the next one of the plain reading
      pub row_is_next : get_or (plain settings bits).rows (length so_far.rows) [] ≡ row
      row_is_next = grind (arith, common_steps, prefix, get_or-after)

      pub row_is_there : length so_far.rows + 1 ≤ length (plain settings bits).rows
      row_is_there = grind (arith, common_steps, prefix, length-append)

    -- where its turn is the last, what is known of the whole reading: with its row
    pub whole_after : {end : Ending} → move_on settings so_far ≡ Turn.done end → (held : Held)
        → held.taken ≡ length so_far.rows + 1 → length end.rows ≡ length so_far.rows + 1 → held.has_eols ≡ end.has_eols
        → IsWhole settings bits held end.outcome
    whole_after ends held more rows eols =
        let at = ap (λ (e : Ending). length e.rows) (ends_with_turn ends) in
        let all_given : (gives : Progress → List Damaged) → sum_by length (take held.taken (map gives (turns_of settings bits)))
        ≡ sum_by length (map gives (turns_of settings bits)) = λ gives.
        given_more settings wide bits begins reaches gives refl more
        ∙ sym (given_whole settings wide bits begins reaches gives refl ends) in
        record {
          rows = more ∙ sym (at ∙ rows);
          ends = ap (λ (e : Ending). e.outcome) (ends_with_turn ends);
          has_eols = eols ∙ sym (ap (λ (e : Ending). e.has_eols) (ends_with_turn ends));
          repaired = all_given (repaired_by_turn settings bits);
          cut = all_given (cut_by_turn settings bits);
          missed = all_given (missed_by_turn settings bits);
        }

    -- and if its line has no row
    pub whole_at_fault : {e : DecodeError} → row_of_turn settings so_far ≡ Err e → (held : Held) → held.taken ≡ length so_far.rows
        → held.has_eols ≡ so_far.has_eols → IsWhole settings bits held (Err e)
    whole_at_fault {e} is held taken eols =
        let ends : move_on settings so_far ≡ ends_with so_far (Err e) = ap (add_row settings so_far) is in
        let line = line_of_turn settings so_far in
        let offset = length bits - length so_far.rest in
        record {
          rows = taken ∙ sym (ap (λ (e : Ending). length e.rows) (ends_with_turn ends));
          ends = ap (λ (e : Ending). e.outcome) (ends_with_turn ends);
          has_eols = eols ∙ sym (ap (λ (e : Ending). e.has_eols) (ends_with_turn ends));
          repaired = omega (
            arith,
            given_whole settings wide bits begins reaches (repaired_by_turn settings bits) taken ends,
            ap length (repaired_none settings so_far.has_eols (length so_far.rows) offset so_far.rest line e is),
          );
          cut = omega (
            arith,
            given_whole settings wide bits begins reaches (cut_by_turn settings bits) taken ends,
            ap (λ (b : Bool). length (cond {A = List Damaged} b
                (record { row = length so_far.rows; start = offset; fault = InvalidCode } ∷ []) []))
                (cut_none settings so_far.has_eols so_far.rest line (strict_line_of_turn settings so_far) e is),
          );
          missed = omega (
            arith,
            given_whole settings wide bits begins reaches (missed_by_turn settings bits) taken ends,
            ap length (missed_none settings bits so_far line e is),
          );
        }

-- ---- A reader of rows at a line

module _ {settings : DecodeSettings} {bits : Bits} {held : Held} {here : Bits}
    (stands : StandsAtLine settings bits held here) where
  abbrev so_far : Progress
  so_far = stands.so_far

  taken_is : held.taken ≡ length so_far.rows
  taken_is = ap (λ (h : Held). h.taken) stands.held_is

  pub few : held.taken ≤ length bits + 1
  few = omega (arith, few_rows settings stands.wide bits stands.begins stands.reaches stands.room, taken_is)

  -- the line here is that of the turn
  module _ {new : Held} {left_over : Bits} {answer : Result (Unit {0}) DecodeError}
      (takes : TakesOneRow (line_here held.settings held.reference here)
      (line_here (record held.settings { strict = true }) held.reference here) (row_of_line held.settings held.has_eols here
      (line_here held.settings held.reference here)) held new answer left_over) where
    takes_turn : TakesOneRow (line_of_turn settings so_far) (strict_line_of_turn settings so_far) (row_of_turn settings so_far)
        (context_at settings so_far held.repairs) new answer left_over
    takes_turn = grind (arith, common_steps)

-- what is repaired of a line is reported
repaired_reported : (settings : DecodeSettings) (has_eols : Bool) (index offset : ℕ) (start : Bits) (line strict : Line)
    (row : Row) (rest : Bits) (taken : ℕ) (before : Repairs) → row_of_line settings has_eols start line ≡ Ok (row, rest)
    → damage_since (repairs_with line strict taken before) before.rows ≡ fault_in
    (repaired_in settings has_eols index offset line)
repaired_reported settings has_eols index offset start (Line.whole pixels after) strict row rest taken before is =
    grind (arith, common_steps, cond-true, eq-eqb, cuts_keep)
repaired_reported settings has_eols index offset start (Line.broken front fault) strict row rest taken before is =
    grind (arith, common_steps, cond-true, cond-false, ne_eqb)

-- it is one row at most
repaired_once : (settings : DecodeSettings) (has_eols : Bool) (index offset : ℕ) (line : Line)
    → length (repaired_in settings has_eols index offset line) ≤ 1
repaired_once settings has_eols index offset (Line.whole pixels after) = omega arith
repaired_once settings has_eols index offset (Line.broken front fault) = grind (arith, common_steps)

-- a row was read there
pub record IsRead (settings : DecodeSettings) (bits : Bits) (held new : Held) (here left_over : Bits) : Type 0 where
  pub stands : StandsAfterRow settings bits new left_over
  pub settings_are : new.settings ≡ settings
  pub more : new.taken ≡ held.taken + 1
  pub within : new.taken ≤ length (plain settings bits).rows
  pub row : new.reference ≡ get_or (plain settings bits).rows held.taken []
  pub line_start : length bits - length here ≡ get_or (line_starts settings bits) held.taken 0
  pub row_end : length bits - length left_over ≡ get_or (row_ends settings bits) held.taken 0
  pub damage : damage_since new.repairs held.repairs.rows ≡ fault_in (get_or (repairs_by_line settings bits) held.taken [])
  pub few : held.repairs.rows ≤ held.taken → new.repairs.rows ≤ new.taken
  pub cut : held.repairs.cut ≤ held.taken
      → cut_since new.repairs held.repairs.cut ≡ cut_in (get_or (cuts_by_line settings bits) held.taken [])
  pub few_cut : held.repairs.cut ≤ held.taken → new.repairs.cut ≤ new.taken
  pub cut_counted : held.repairs.cut ≤ held.taken → held.repairs.cut ≡ sum_by length (take held.taken
      (cuts_by_line settings bits))
      → new.repairs.cut ≡ sum_by length (take new.taken (cuts_by_line settings bits))
  pub words : sum_by length (take new.taken (words_of settings bits))
      ≡ sum_by length (take held.taken (words_of settings bits)) + length (found_here settings held.reference here)
  pub counted : held.repairs.rows ≡ sum_by length (take held.taken (repairs_by_line settings bits))
      → new.repairs.rows ≡ sum_by length (take new.taken (repairs_by_line settings bits))
  pub misses : MissesAreCounted settings bits held.repairs held.taken → MissesAfterRow settings bits new

pub is_read : {settings : DecodeSettings} {bits : Bits} {held : Held} {here : Bits} → StandsAtLine settings bits held here
    → {new : Held} {left_over : Bits} → TakesOneRow (line_here held.settings held.reference here)
    (line_here (record held.settings { strict = true }) held.reference here) (row_of_line held.settings held.has_eols here
    (line_here held.settings held.reference here)) held new (Ok tt) left_over
    → IsRead settings bits held new here left_over
is_read {settings} {bits} {held} {here} stands {new} {left_over} takes =
    let so_far = stands.so_far in
    let taken = (takes_turn stands takes).taken in
    let before : held.taken ≡ length so_far.rows = ap (λ (h : Held). h.taken) stands.held_is in
    let after : new.taken ≡ length so_far.rows + 1 = ap (λ (h : Held). h.taken) taken.held in
    let line = line_of_turn settings so_far in
    let strict = strict_line_of_turn settings so_far in
    let with_line : Repairs = repairs_with line strict (length so_far.rows) held.repairs in
    let repaired : new.repairs ≡ with_line = ap (λ (h : Held). h.repairs) taken.held in
    let offset = length bits - length so_far.rest in
    let one = repaired_counts settings so_far.has_eols (length so_far.rows) offset so_far.rest line strict taken.taken left_over
    (length so_far.rows) held.repairs taken.is in
    let its : Damaged = record { row = length so_far.rows; start = offset; fault = InvalidCode } in
    let one_cut = λ (so : held.repairs.cut ≤ held.taken). cut_counts line strict (length so_far.rows) held.repairs its
    (omega (arith, so, before)) in
    let there = row_is_there settings stands.wide bits stands.begins stands.reaches taken.is in
    let found : length (found_here settings held.reference here) ≡ length (words_of_turn settings so_far)
    = ap (λ (h : Held). length (found_here settings h.reference here)) stands.held_is
    ∙ ap (λ (x : Bits). length (found_here settings (row_before settings.columns so_far.rows) x)) stands.rest_is in
    record {
      stands = record {
        wide = stands.wide;
        first = stands.first;
        so_far = so_far;
        row = taken.taken;
        begins = stands.begins;
        room = stands.room;
        reaches = stands.reaches;
        row_is = taken.is;
        held_is = taken.held ∙ context_at-more settings so_far taken.taken left_over held.repairs with_line
            ∙ ap (context_at settings (with_row so_far taken.taken left_over)) (sym repaired);
      };
      settings_are = ap (λ (h : Held). h.settings) taken.held;
      more = omega (arith, before, after);
      within = omega (arith, after, there);
      row = ap (λ (h : Held). h.reference) taken.held ∙ sym (ap (λ (n : ℕ). get_or (plain settings bits).rows n []) before ∙
          row_is_next settings stands.wide bits stands.begins stands.reaches taken.is);
      line_start = ap (λ (x : Bits). length bits - length x) stands.rest_is ∙ sym (ap (λ (n : ℕ). get_or (line_starts settings
          bits) n 0) before ∙ given_is settings stands.wide bits stands.begins stands.reaches (start_of_turn bits) 0);
      row_end = sym (ap (λ (n : ℕ). get_or (row_ends settings bits) n 0) before
          ∙ given_is settings stands.wide bits stands.begins stands.reaches (end_of_turn settings bits) 0
          ∙ ap (end_of_row bits so_far) taken.is);
      damage = ap (λ (r : Repairs). damage_since r held.repairs.rows) repaired ∙ repaired_reported settings so_far.has_eols
          (length so_far.rows) offset so_far.rest line strict taken.taken left_over
          (length so_far.rows) held.repairs taken.is ∙ sym (ap
          fault_in (given_at settings stands.wide bits stands.begins stands.reaches (repaired_by_turn settings bits) before));
      few = λ so. grind (arith, common_steps, one, repaired_once, so_far);
      cut = λ so. cut_is_reported (cuts_run line strict) its new.repairs held.repairs.cut
          (ap (λ (r : Repairs). r.cut) repaired ∙ one_cut so)
          ∙ sym (ap cut_in (given_at settings stands.wide bits stands.begins stands.reaches (cut_by_turn settings bits) before));
      few_cut = λ so. grind (arith, common_steps, cut_once);
      cut_counted = λ few so. omega (
        arith,
        so,
        one_cut few,
        ap (λ (r : Repairs). r.cut) repaired,
        given_more settings stands.wide bits stands.begins stands.reaches (cut_by_turn settings bits) before after,
      );
      words = given_more settings stands.wide bits stands.begins stands.reaches (words_of_turn settings) before after
          ∙ ap (λ (n : ℕ). sum_by length (take held.taken (words_of settings bits)) + n) (sym found);
      counted = λ so. omega (
        arith,
        so,
        one,
        ap (λ (r : Repairs). r.rows) repaired,
        given_more settings stands.wide bits stands.begins stands.reaches (repaired_by_turn settings bits) before after,
      );
      misses = λ so.
          let here : new.taken - 1 ≡ length so_far.rows = omega (arith, after) in
          record {
            line = line;
            strict = strict;
            before = held.repairs;
            line_is = ap (slice_get (lines_of settings bits)) here
                ∙ given_there settings stands.wide bits stands.begins stands.reaches (line_of_turn settings);
            repairs_are = repaired ∙ ap (λ (n : ℕ). repairs_with line strict n held.repairs) (sym here);
            counted = subst (MissesAreCounted settings bits held.repairs) (before ∙ sym here) so;
          };
    }

-- if it has no row, the reading fails there
pub reader_fails_at_line : {settings : DecodeSettings} {bits : Bits} {held : Held} {here : Bits}
    → StandsAtLine settings bits held here → length bits - length here ≡ failed_at settings bits held.taken
reader_fails_at_line {settings} {bits} stands =
    ap (λ (x : Bits). length bits - length x) stands.rest_is ∙ sym (ap (λ (n : ℕ). failed_at settings bits n)
    (ap (λ (h : Held). h.taken) stands.held_is)
    ∙ given_is settings stands.wide bits stands.begins stands.reaches (start_of_turn bits) _)

-- no row was read there, and the next bit is the first one of the line
pub isnt_read : {settings : DecodeSettings} {bits : Bits} {held : Held} {here : Bits} → StandsAtLine settings bits held here
    → {new : Held} {left_over : Bits} {e : DecodeError} → TakesOneRow (line_here held.settings held.reference here)
    (line_here (record held.settings { strict = true }) held.reference here) (row_of_line held.settings held.has_eols here
    (line_here held.settings held.reference here)) held new (Err e) left_over
    → {place : ℕ} → place ≡ length bits - length here
    → HasFailed settings bits new.taken place e × (0 < settings.columns → IsFault e → IsWhole settings bits new (Err e))
isnt_read {settings} {bits} {held} stands {new} {e = e} takes at =
    let so_far = stands.so_far in
    let turn = takes_turn stands takes in
    let taken : new.taken ≡ length so_far.rows = ap (λ (h : Held). h.taken) turn.held in
    let whole = λ (fault : IsFault e). whole_at_fault settings stands.wide bits stands.begins stands.reaches (turn.fault fault)
    new taken (ap (λ (h : Held). h.has_eols) turn.held) in
    let reading = λ (fault : IsFault e). plain_whole settings stands.wide bits
    (ends_with_turn settings stands.wide bits stands.begins stands.reaches (ap (add_row settings so_far) (turn.fault fault))) in (
      record {
        all = λ fault. taken ∙ ap (λ (r : Reading). length r.rows) (sym (reading fault));
        fault = λ fault. ap (λ (r : Reading). r.outcome) (reading fault);
        memory = λ is. grind (arith, common_steps, so_far, given_there);
        not_refused = λ is. turn.not_refused (ap (λ (x : DecodeError). Err x) is);
        fails_at = at ∙ reader_fails_at_line stands
            ∙ ap (failed_at settings bits) (sym (ap (λ (h : Held). h.taken) turn.held ∙ sym (taken_is stands)));
      },
      λ wide fault. whole fault,
    )

-- if a black pixel of it is painted there, the line with the index of the row paints it
pub paints_at_line : {settings : DecodeSettings} {bits : Bits} {held : Held} {here : Bits}
    → StandsAtLine settings bits held here → HasBlack (front_of (line_here held.settings held.reference here))
    → PaintsBlack (lines_of settings bits) held.taken
paints_at_line {settings} {bits} {held} {here} stands black = grind (arith, common_steps, given_there)

-- if a line is here, the invariant says so
pub at_line_stands : (stand : Stand) (settings : DecodeSettings) (bits : Bits) (held : Held) (place : ℕ) → is_at_line stand ≡ true
    → ReaderStands stand settings bits held place → StandsAtLine settings bits held (drop place bits)
at_line_stands AtLine settings bits held place is stands = stands
at_line_stands AfterRow settings bits held place is stands = absurd (false≢true is)
at_line_stands AtEnd settings bits held place is stands = absurd (false≢true is)
at_line_stands (AtFault error) settings bits held place is stands = absurd (false≢true is)

-- there is room for its row
pub room_at_line : (from : ℕ) (rows : RowState) (ctx : Context) (at : BitsAt) → IsStanding from rows ctx at
    → is_at_line rows.stand ≡ true → (ctx.held.taken ≤ length at.bits + 1) × (ctx.held.repairs.rows ≤ ctx.held.taken)
room_at_line from rows ctx at stands line =
    (few (at_line_stands rows.stand ctx.held.settings at.bits ctx.held at.place line stands.0), stands.1.few)

-- nothing is drawn there, so a line that is begun again is the same
pub begun_is : {settings : DecodeSettings} {bits : Bits} {held : Held} {here : Bits} → StandsAtLine settings bits held here
    → {begun : Held} → begun ≡ redrawn held [] White → begun ≡ held
begun_is stands is = is ∙ ap (λ (h : Held). redrawn h [] White) stands.held_is ∙ sym stands.held_is

-- so it does after a row
pub after_row_stands : (stand : Stand) (settings : DecodeSettings) (bits : Bits) (held : Held) (place : ℕ) → ended stand ≡ None →
    is_at_line stand ≡ false → ReaderStands stand settings bits held place → StandsAfterRow settings bits held (drop place bits)
after_row_stands AtLine settings bits held place unended no_line stands = absurd (false≢true (sym no_line))
after_row_stands AfterRow settings bits held place unended no_line stands = stands
after_row_stands AtEnd settings bits held place unended no_line stands = absurd cc
after_row_stands (AtFault error) settings bits held place unended no_line stands = absurd cc

-- and after the end
pub ended_stands : (stand : Stand) (settings : DecodeSettings) (bits : Bits) (held : Held) (place : ℕ)
    → ended stand ≡ Some (Ok tt) → ReaderStands stand settings bits held place → ReaderStands AtEnd settings bits held place
ended_stands AtLine settings bits held place is stands = absurd cc
ended_stands AfterRow settings bits held place is stands = absurd cc
ended_stands AtEnd settings bits held place is stands = stands
ended_stands (AtFault error) settings bits held place is stands = absurd cc

pub failed_stands : (stand : Stand) (settings : DecodeSettings) (bits : Bits) (held : Held) (place : ℕ) {e : DecodeError} → ended
    stand ≡ Some (Err e) → ReaderStands stand settings bits held place → ReaderStands (AtFault e) settings bits held place
failed_stands AtLine settings bits held place is stands = absurd cc
failed_stands AfterRow settings bits held place is stands = absurd cc
failed_stands AtEnd settings bits held place is stands = absurd cc
failed_stands (AtFault error) settings bits held place {e} is stands = grind (arith, common_steps)

-- ---- A gap is passed

-- an allocation didn't fail in a gap, and no row was refused
code_failed : (settings : DecodeSettings) (bits : Bits) (taken place : ℕ) (e : DecodeError) → e ≡ InvalidCode
    → taken ≡ length (plain settings bits).rows → (plain settings bits).outcome ≡ Err e → place ≡ failed_at settings bits taken
    → HasFailed settings bits taken place e
code_failed settings bits taken place e is all outcome at = grind (arith, common_steps)

-- if the gap before a turn ends the reading, it ends like this
module _ (settings : DecodeSettings) (wide : 0 < settings.columns) (bits : Bits) (rows : List Row) (last : Held) (place : ℕ)
    (within : place ≤ length bits) (taken : last.taken ≡ length rows) (has_eols : Bool) where
  ended_well : end_of settings bits ≡ record { rows = rows; has_eols = has_eols; outcome = Ok (drop place bits) }
      → HasEnded settings bits last.taken place
  ended_well is = grind (arith, common_steps, plain_whole, bytes_before-place)

  ended_badly : (e : DecodeError) → e ≡ InvalidCode → end_of settings bits
      ≡ record { rows = rows; has_eols = has_eols; outcome = Err e } → place ≡ failed_at settings bits last.taken
      → HasFailed settings bits last.taken place e
  ended_badly e code is at = grind (arith, common_steps, plain_whole, code_failed)

-- the gap after a row leads to a line, or to the end
module _ (settings : DecodeSettings) (bits : Bits) (held : Held) (here_now : Bits)
    (stands : StandsAfterRow settings bits held here_now) (last : Held) (place : ℕ) (within : place ≤ length bits)
    (frame : last ≡ record held { has_eols = last.has_eols; repairs = last.repairs }) where
  abbrev next : Progress
  next = with_row stands.so_far stands.row here_now

  turn_said : (answer : Result Bool DecodeError)
      → gap_after_row held.settings held.taken held.has_eols here_now ≡ gap_said answer last.has_eols (drop place bits)
      → move_on settings stands.so_far ≡ at_gap next (gap_said answer last.has_eols (drop place bits))
  turn_said answer said = grind (arith, common_steps, turn_is)

  last_taken : last.taken ≡ length next.rows
  last_taken = ap (λ (h : Held). h.taken) frame ∙ ap (λ (h : Held). h.taken) stands.held_is

  -- with a faulty gap the reading fails where it begins
  fails_there : (e : DecodeError) → gap_after_row held.settings held.taken held.has_eols here_now
      ≡ gap_said (Err e) last.has_eols (drop place bits) → failed_at settings bits held.taken ≡ length bits - length here_now
  fails_there e said =
      let more : held.taken ≡ length stands.so_far.rows + 1
      = ap (λ (h : Held). h.taken) stands.held_is ∙ length-append stands.so_far.rows (stands.row ∷ []) in
      ap (failed_at settings bits)
      more ∙ fails_after settings stands.wide bits stands.begins stands.reaches (turn_said (Err e) said) stands.row_is

  pub starts_following : (answer : Result Bool DecodeError) → gap_after_row held.settings held.taken held.has_eols here_now
      ≡ gap_said answer last.has_eols (drop place bits) → (offset before : ℕ) → offset ≡ length bits - length here_now
      → OnErr answer (start_after answer offset before ≡ failed_at settings bits held.taken)
  starts_following (Ok over) said offset before is = tt
  starts_following (Err e) said offset before is = is ∙ sym (fails_there e said)

  -- and so does the next bit
  stays_there : (e : DecodeError) → gap_after_row held.settings held.taken held.has_eols here_now
      ≡ gap_said (Err e) last.has_eols (drop place bits) → drop place bits ≡ here_now → place ≡ failed_at settings bits last.taken
  stays_there e said put_back =
      let at : place ≡ length bits - length here_now = omega (arith, within, length-drop place bits, ap length put_back) in
      at ∙ sym (fails_there e said) ∙ ap (failed_at settings bits) (sym (ap (λ (h : Held). h.taken) frame))

  -- if it is the end, that is all of the reading
  whole : {outcome : Result Bits DecodeError} → move_on settings stands.so_far ≡ ends_with next outcome
      → last.has_eols ≡ held.has_eols → IsWhole settings bits last outcome
  whole ends kept =
      let more = length-append stands.so_far.rows (stands.row ∷ []) in
      whole_after settings stands.wide bits stands.begins stands.reaches ends last (last_taken ∙ more) more
      (kept ∙ ap (λ (h : Held). h.has_eols) stands.held_is)

  pub gap_stands : (answer : Result Bool DecodeError)
      → gap_after_row held.settings held.taken held.has_eols here_now ≡ gap_said answer last.has_eols (drop place bits)
      → IsOkUnless answer InvalidCode → IfOk answer (λ over. over ≡ true → last.has_eols ≡ held.has_eols)
      → OnErr answer (last.has_eols ≡ held.has_eols) → OnErr answer (drop place bits ≡ here_now)
      → ReaderStands (stand_after answer) settings bits last place
  gap_stands (Ok true) said code kept same put_back =
      let ends = turn_said (Ok true) said in (
        ended_well settings stands.wide bits next.rows last place within last_taken next.has_eols
            (ends_with_turn settings stands.wide bits stands.begins stands.reaches ends),
        λ wide. whole ends (kept refl),
      )
  gap_stands (Ok false) said code kept same put_back = record {
    wide = stands.wide;
    first = stands.first;
    so_far = record next { has_eols = last.has_eols; rest = drop place bits };
    begins = stands.begins;
    room = stands.room;
    reaches = reaches_on (move_on settings) stands.first stands.so_far
        (record next { has_eols = last.has_eols; rest = drop place bits }) stands.reaches (turn_said (Ok false) said);
    held_is = frame ∙ ap (λ (h : Held). record h { has_eols = last.has_eols; repairs = last.repairs }) stands.held_is;
    rest_is = refl;
  }
  gap_stands (Err e) said code kept same put_back =
      let ends = turn_said (Err e) said in (
        ended_badly settings stands.wide bits next.rows last place within last_taken next.has_eols e code
            (ends_with_turn settings stands.wide bits stands.begins stands.reaches ends) (stays_there e said put_back),
        λ wide fault. whole ends same,
      )

-- where no EOLs are sought, no gap is faulty
pub no_fault : (settings : DecodeSettings) (taken : ℕ) (here : Bits) (answer : Result Bool DecodeError) (has_eols : Bool)
    (rest : Bits)
    → gap_after_row settings taken false here ≡ gap_said answer has_eols rest → (error : DecodeError)
    → ended (stand_after answer) ≡ Some (Err error) → ⊥
no_fault settings taken here (Ok true) has_eols rest said error is = cc
no_fault settings taken here (Ok false) has_eols rest said error is = cc
no_fault settings taken here (Err e) has_eols rest said error is = grind (arith, common_steps, cond-false, unmissed)

-- the first gap of Group 4 does too
module _ (settings : DecodeSettings) (wide : 0 < settings.columns) (bits : Bits) (is : settings.encoding ≡ Group4) (last : Held)
    (place : ℕ) (within : place ≤ length bits) (frame : last ≡ record (fresh settings) { has_eols = last.has_eols }) where
  first_said : (answer : Result Bool DecodeError)
      → gap_after_row settings 0 false bits ≡ gap_said answer last.has_eols (drop place bits)
      → first_gap settings.encoding settings bits ≡ at_gap (at_front bits) (gap_said answer last.has_eols (drop place bits))
  first_said answer said = ap (λ (e : EncodingMode). first_gap e settings bits) is ∙ ap (at_gap (at_front bits)) said

  first_ended : {end : Ending} → first_gap settings.encoding settings bits ≡ Turn.done end → end_of settings bits ≡ end
  first_ended ends = ap (ending_after settings) ends

  none : last.taken ≡ length (at_front bits).rows
  none = ap (λ (h : Held). h.taken) frame

  whole_front : {outcome : Result Bits DecodeError}
      → first_gap settings.encoding settings bits ≡ ends_with (at_front bits) outcome
      → last.has_eols ≡ false → IsWhole settings bits last outcome
  whole_front ends unsought = grind (arith, common_steps, cond-false, has_columns, first_ended)

  pub first_gap_stands : (answer : Result Bool DecodeError) → gap_after_row settings 0 false bits ≡ gap_said answer last.has_eols
      (drop place bits) → IsOkUnless answer InvalidCode → last.has_eols ≡ false
      → ReaderStands (stand_after answer) settings bits last place
  first_gap_stands (Ok true) said code unsought = grind (arith, common_steps, first_said, ended_well, first_ended, whole_front)
  first_gap_stands (Ok false) said code unsought = record {
    wide = wide;
    first = record { rows = []; has_eols = last.has_eols; rest = drop place bits };
    so_far = record { rows = []; has_eols = last.has_eols; rest = drop place bits };
    begins = first_said (Ok false) said;
    room = omega (arith, length-drop place bits);
    reaches = Reaches.stays (record { rows = []; has_eols = last.has_eols; rest = drop place bits });
    held_is = frame ∙ ap (context_at settings (record { rows = []; has_eols = last.has_eols; rest = drop place bits }))
        (sym (ap (λ (h : Held). h.repairs) frame));
    rest_is = refl;
  }
  first_gap_stands (Err e) said code unsought =
      absurd (no_fault settings 0 bits (Err e) last.has_eols (drop place bits) said e refl)

-- data of Group 3 begin at a line
pub first_line_stands : (settings : DecodeSettings) → 0 < settings.columns → (bits : Bits) → settings.encoding ≢ Group4
    → (last : Held) (rest : Bits) → last ≡ record (fresh settings) { has_eols = (first_line settings bits).has_eols }
    → rest ≡ (first_line settings bits).rest → length rest ≤ length bits → StandsAtLine settings bits last rest
first_line_stands settings wide bits other last rest frame is room = record {
  wide = wide;
  first = first_line settings bits;
  so_far = first_line settings bits;
  begins = first_gap_t4 settings bits other;
  room = omega (arith, room, ap length is);
  reaches = Reaches.stays (first_line settings bits);
  held_is = frame ∙ ap (context_at settings (first_line settings bits)) (sym (ap (λ (h : Held). h.repairs) frame));
  rest_is = is;
}

-- a row adds no missed EOL
pub repairs_with_missed : (line strict : Line) (taken : ℕ) (before : Repairs)
    → (repairs_with line strict taken before).missed ≡ before.missed
repairs_with_missed (Line.whole row rest) strict taken before = grind (arith, common_steps, cuts_keep)
repairs_with_missed (Line.broken front fault) strict taken before = refl

-- the gap after a row reports its EOL
module _ (settings : DecodeSettings) (bits : Bits) (held : Held) (here : Bits) (stands : StandsAfterRow settings bits held here)
    (misses : MissesAfterRow settings bits held) (last : Held) (counts : last.repairs ≡ repairs_after held here) where
  abbrev there : Progress
  there = stands.so_far

  abbrev read : ℕ
  read = length there.rows

  abbrev its_line : Line
  its_line = line_of_turn settings there

  one_more : held.taken ≡ read + 1
  one_more = ap (λ (h : Held). h.taken) stands.held_is ∙ length-append there.rows (stands.row ∷ [])

  index : held.taken - 1 ≡ read
  index = omega (arith, one_more)

  known : MissesAreCounted settings bits misses.before read
  known = subst (MissesAreCounted settings bits misses.before) index misses.counted

  read_with : held.repairs ≡ repairs_with its_line misses.strict read misses.before
  read_with =
      let found : ◌≡◌ {A = Option Line} (Some misses.line) (Some its_line) =
      sym misses.line_is ∙ ap (slice_get (lines_of settings bits)) index
      ∙ given_there settings stands.wide bits stands.begins stands.reaches (line_of_turn settings) in
      let same : misses.line ≡ its_line = cc in
      misses.repairs_are ∙ ap (λ (k : ℕ). repairs_with misses.line misses.strict k misses.before) index
      ∙ ap (λ (l : Line). repairs_with l misses.strict read misses.before) same

  then : last.repairs
      ≡ repairs_after (context_at settings (with_row there stands.row here)
      (repairs_with its_line misses.strict read misses.before)) here
  then = grind (arith, common_steps, read_with)

  one : last.repairs.missed ≡ misses.before.missed + length (missed_by_turn settings bits there)
  one = grind (arith, common_steps, then, missed_counts)

  -- it is counted
  pub misses_passed : last.taken ≡ held.taken → MissesAreCounted settings bits last.repairs last.taken
  misses_passed taken =
      record {
        few = grind (arith, common_steps, one_more, then, few_after, there, its_line, known);
        last = grind (arith, common_steps, one_more, then, last_after, there, its_line, known);
        counted = omega (
          arith,
          one,
          known.counted,
          given_more settings stands.wide bits stands.begins stands.reaches (missed_by_turn settings bits) refl
              (taken ∙ one_more),
        );
      }

  -- and its offset is reported
  pub miss_reported : (place : ℕ) → place ≡ length bits - length here
      → missed_since last.repairs held.repairs.missed place ≡ missed_before settings bits held.taken
  miss_reported place is =
      let next : held.taken ≡ suc read = omega (arith, one_more) in
      let before = ap (λ (r : Repairs). r.missed) read_with ∙ repairs_with_missed its_line misses.strict read misses.before in
      ap (missed_since last.repairs held.repairs.missed) is
      ∙ missed_starts settings bits there its_line stands.row here stands.row_is last.repairs held.repairs.missed
      (one ∙ ap (λ (k : ℕ). k + length (missed_by_turn settings bits there)) (sym before))
      ∙ sym (ap (missed_before settings bits) next
      ∙ ap start_in (given_at settings stands.wide bits stands.begins stands.reaches (missed_by_turn settings bits) refl))

-- the count of missed EOLs at a line, after a row, and after a gap
pub misses_at_line : (stand : Stand) (settings : DecodeSettings) (bits : Bits) (held : Held) → is_at_line stand ≡ true
    → Misses stand settings bits held → MissesAreCounted settings bits held.repairs held.taken
misses_at_line AtLine settings bits held is misses = misses
misses_at_line AfterRow settings bits held is misses = absurd (false≢true is)
misses_at_line AtEnd settings bits held is misses = misses
misses_at_line (AtFault error) settings bits held is misses = misses

pub misses_ended : (stand : Stand) (settings : DecodeSettings) (bits : Bits) (held : Held) {end : Result (Unit {0}) DecodeError}
    → ended stand ≡ Some end → Misses stand settings bits held → MissesAreCounted settings bits held.repairs held.taken
misses_ended AtLine settings bits held is misses = misses
misses_ended AfterRow settings bits held is misses = absurd cc
misses_ended AtEnd settings bits held is misses = misses
misses_ended (AtFault error) settings bits held is misses = misses

pub misses_after_row : (stand : Stand) (settings : DecodeSettings) (bits : Bits) (held : Held) → ended stand ≡ None
    → is_at_line stand ≡ false → Misses stand settings bits held → MissesAfterRow settings bits held
misses_after_row AtLine settings bits held unended no_line misses = absurd (false≢true (sym no_line))
misses_after_row AfterRow settings bits held unended no_line misses = misses
misses_after_row AtEnd settings bits held unended no_line misses = absurd cc
misses_after_row (AtFault error) settings bits held unended no_line misses = absurd cc

pub misses_after : (answer : Result Bool DecodeError) (settings : DecodeSettings) (bits : Bits) (held : Held)
    → MissesAreCounted settings bits held.repairs held.taken → Misses (stand_after answer) settings bits held
misses_after (Ok true) settings bits held misses = misses
misses_after (Ok false) settings bits held misses = misses
misses_after (Err error) settings bits held misses = misses

-- the offset of a missed EOL at a line, and after a gap
pub reported_at_line : (stand : Stand) (settings : DecodeSettings) (bits : Bits) (taken : ℕ) (missed : Option ℕ)
    → is_at_line stand ≡ true → MissIsReported stand settings bits taken missed → missed ≡ missed_before settings bits taken
reported_at_line AtLine settings bits taken missed is reported = reported
reported_at_line AfterRow settings bits taken missed is reported = absurd (false≢true is)
reported_at_line AtEnd settings bits taken missed is reported = reported
reported_at_line (AtFault error) settings bits taken missed is reported = reported

pub reported_after : (answer : Result Bool DecodeError) (settings : DecodeSettings) (bits : Bits) (taken : ℕ) (missed : Option ℕ)
    → missed ≡ missed_before settings bits taken → MissIsReported (stand_after answer) settings bits taken missed
reported_after (Ok true) settings bits taken missed reported = reported
reported_after (Ok false) settings bits taken missed reported = reported
reported_after (Err error) settings bits taken missed reported = reported

-- before the first row there are none
pub none_damaged : (stand : Stand) (settings : DecodeSettings) (bits : Bits) (held : Held)
    → ((misses : MissesAreCounted settings bits held.repairs held.taken) → Misses stand settings bits held) → held.taken ≡ 0
    → held.repairs ≡ no_repairs → DamageIsCounted stand settings bits held
none_damaged stand settings bits held stands none no_damage = grind (arith, common_steps)

-- a fact of settings, bits and a number of rows, of others that are equal
elsewhere : (P : DecodeSettings → Bits → ℕ → Type 0) (s t : DecodeSettings) (b c : Bits) (m n : ℕ) → s ≡ t → b ≡ c → m ≡ n
    → P s b m → P t c n
elsewhere P s t b c m n settings bits taken given = grind (arith, common_steps)

-- what was counted is unchanged where no row is read
pub damage_stays : (before stand : Stand) (settings given : DecodeSettings) (bits read : Bits) (held last : Held)
    → given ≡ settings → read ≡ bits → last.taken ≡ held.taken → last.repairs.rows ≡ held.repairs.rows
    → last.repairs.cut ≡ held.repairs.cut → DamageIsCounted before settings bits held → Misses stand settings bits last
    → DamageIsCounted stand given read last
damage_stays before stand settings given bits read held last same are taken repairs cuts counted misses =
    grind (arith, common_steps, elsewhere)

-- the result of a call that passes a gap
pub comes_to_line : (old : RowsRead) (rows : RowState) (ctx : Context) (at : BitsAt) (answer : Result Bool DecodeError)
    → rows.stand ≡ stand_after answer → ctx.held.settings ≡ old.settings → at.bits ≡ old.bits → ctx.held.taken ≡ old.taken
    → old.ticks ≤ ctx.ticks → (ctx.held.reference ≡ old.row) × (rows.damage ≡ old.damage) × (rows.cut ≡ old.cut)
    → IfOk answer (λ over. rows.started_at ≡ old.line_start)
    → ReaderStands (stand_after answer) old.settings old.bits ctx.held at.place
    → OnErr answer (rows.started_at ≡ failed_at old.settings old.bits old.taken)
    → rows.missed ≡ missed_before old.settings old.bits old.taken → ReachesNextLine old (seen rows ctx at) (line_after answer)
comes_to_line old rows ctx at (Ok true) stand same are taken counts row begun stands start reported = grind (arith, common_steps)
comes_to_line old rows ctx at (Ok false) stand same are taken counts row begun stands start reported = grind (arith, common_steps)
comes_to_line old rows ctx at (Err error) stand same are taken counts row begun stands start reported
    = grind (arith, common_steps)

-- the result of a call that passes a gap, and then reads the line there
pub reads_on : (old mid new : RowsRead) (result : Result Bool DecodeError) → ReachesNextLine old mid (Ok true)
    → ReadsNext mid new result → ReadsNext old new result
reads_on old mid new result comes reads = grind (arith, common_steps, comes, elsewhere, none)
