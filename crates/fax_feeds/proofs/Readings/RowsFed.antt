-- Rows from data that comes in pieces: what the bits kept say of the whole data, and what a try that is left changes.
use Rattle.fax_feeds.proofs.Names.{common_steps}
use Rattle.fax_feeds.proofs.Names.{◌≡◌, ◌≢◌, ◌∙◌, ◌+◌, ◌≤◌, ◌++◌, ◌⊎◌, [], ℕ, Bool, true, false, Result, Ok, Err, None, Some}
use Rattle.fax_feeds.proofs.Names.{refl, sym, ap}
use Rattle.fax_feeds.proofs.Names.{subst, arith, length, drop, length-drop, length-append, drop-drop, inl, inr, Bits, BitsAt}
use Rattle.fax_feeds.proofs.Names.{Held, Context, DecodeError}
use Rattle.fax_feeds.proofs.Names.{IsStanding, ReachesNextLine, IsPaid, PaidAtLine, Stand, AtLine, AfterRow}
use Rattle.fax_feeds.proofs.Names.{AtEnd, AtFault}
use Rattle.fax_feeds.proofs.Names.{DecodeSettings, is_at_line, ended, seen, here}
use Rattle.fax_feeds.proofs.Names.{line_after, false≢true}
use Rattle.fax_feeds.proofs.Names.{on_err_weaker, not, ◌&&◌, stand_after, row_came, IsStandingAtLine, ReadsNext, IfErr}
use Rattle.fax_feeds.proofs.Names.{IsFault}
use Rattle.std.proofs.lemmas.List.{drop-append-le}
use Rattle.fax_rows.proofs.Readings.GapsPassed.{gap_stays, gap_reaches}
use Rattle.fax_rows.proofs.Readings.RowByRow.{reported_at_line}
use Rattle.fax_rows.specs.declared.row_reader.RowState.{RowState}
use Rattle.fax_reading.specs.GapsContinued.{gap_is_settled}
use Rattle.fax_rows.specs.RowsTried.{CanCome, IsUnread, PassesGap, PassesGapHere, ReadsRow, TriesRow, rows_after_line}
use Rattle.fax_feeds.specs.RowFeeds.{LieIn, came, is_unread, line_answer, of_settled_gap}
use Rattle.fax_rows.proofs.Readings.LinesRead.{line_stays, line_is_next}
use Rattle.fax_bits.specs.declared.error.DecodeError.TheVariants.{InvalidCode}
use Rattle.fax_feeds.proofs.Names.{no_memory}
use Rattle.fax_bits.proofs.ErrorKinds.{by_kind, no_memory_is}
use Rattle.fax_reading.specs.Context.{Repairs}

-- ---- Bits that lie in the whole data

module _ {whole kept : Bits} {dropped : ℕ} {finished : Bool} (lie : LieIn whole dropped finished kept) where
  -- from an offset on the whole data is those kept, and more
  pub from_place : (place : ℕ) → place ≤ length kept → drop (dropped + place) whole ≡ drop place kept ++ lie.more
  from_place place within =
      sym (drop-drop place dropped whole) ∙ ap (drop place) lie.bits ∙ drop-append-le place kept lie.more within

  pub place_within : (place : ℕ) → place ≤ length kept → dropped + place ≤ length whole
  place_within place within =
      omega (arith, within, lie.within, ap length lie.bits, length-drop dropped whole, length-append kept lie.more)

-- where no bits come before
pub after_none : (n : ℕ) → 0 + n ≡ n
after_none n = omega arith

-- ---- Work that was counted for a try that is left

later_at_line : (from more : ℕ) (settings : DecodeSettings) (bits : Bits) (held : Held) (rest : Bits) (ticks : ℕ)
    → PaidAtLine from settings bits held rest ticks → PaidAtLine (from + more) settings bits held rest (ticks + more)
later_at_line from more settings bits held rest ticks paid = record {
  begun = paid.begun + more;
  giving_up = paid.giving_up;
  enough = omega (arith, paid.enough);
  sought = paid.sought;
  within = paid.within;
  paid = omega (arith, paid.paid);
  short = paid.short;
}

later_paid : (from more : ℕ) (stand : Stand) (settings : DecodeSettings) (bits : Bits) (held : Held) (place ticks : ℕ)
    → IsPaid from stand settings bits held place ticks → IsPaid (from + more) stand settings bits held place (ticks + more)
later_paid from more AtLine settings bits held place ticks paid = grind (arith, common_steps, later_at_line)
later_paid from more AfterRow settings bits held place ticks paid = record {
  before = paid.before;
  start = paid.start;
  ticks_before = paid.ticks_before + more;
  at_line = later_at_line from more settings bits paid.before paid.start paid.ticks_before paid.at_line;
  kept = paid.kept;
  row_is = paid.row_is;
  line = omega (arith, paid.line);
  stored = paid.stored;
  short = paid.short;
}
later_paid from more AtEnd settings bits held place ticks paid = omega (arith, paid)
later_paid from more (AtFault error) settings bits held place ticks paid = omega (arith, paid)

-- the reading stands where it stood
pub stands_later : (from more : ℕ) (rows : RowState) (old new : Context) (at : BitsAt) → new.held ≡ old.held
    → new.ticks ≡ old.ticks + more → IsStanding from rows old at → IsStanding (from + more) rows new at
stands_later from more rows old new at held ticks stands = grind (arith, common_steps, later_paid)

-- ---- The gap before the next line

-- what came of a gap that was passed
pub came_said : (r : Result Bool DecodeError) → came (of_settled_gap r) ≡ r
came_said (Ok line) = refl
came_said (Err error) = refl

pub passed_some : (r : Result Bool DecodeError) → of_settled_gap r ≡ Ok None → ⊥
passed_some (Ok line) e = cc
passed_some (Err error) e = cc

pub line_said : (r : Result Bool DecodeError) → of_settled_gap r ≡ Ok (Some true) → r ≡ Ok true
line_said (Ok true) e = refl
line_said (Ok false) e = absurd cc
line_said (Err error) e = absurd cc

pub code_said : (r : Result Bool DecodeError) → IfErr r (λ e. e ≡ InvalidCode) → IfErr (of_settled_gap r) (λ e. e ≡ InvalidCode)
code_said (Ok line) code = tt
code_said (Err error) code = code

-- at a line there is none
pub stays_at_line : (from : ℕ) (rows : RowState) (ctx : Context) (at : BitsAt) → is_at_line rows.stand ≡ true
    → IsStanding from rows ctx at → ReachesNextLine (seen rows ctx at) (seen rows ctx at) (Ok true)
stays_at_line from rows ctx at line stands = grind (arith, common_steps, reported_at_line, false≢true)

-- where it is passed, that is so in the whole data
module _ (is_last : Bool) (gap_start : ℕ) (rows kept : RowState) (old mid new : Context) (before after : BitsAt)
    (answer : Result Bool DecodeError) (more_ticks : ℕ) (same : mid.held ≡ old.held)
    (ticks : mid.ticks ≡ old.ticks + more_ticks)
    (gap : PassesGapHere gap_start rows kept mid new before after answer)
    (settled : (is_last ≡ true) ⊎ (gap_is_settled mid.held.settings mid.held.taken mid.held.has_eols (here before) ≡ true))
    (unended : ended rows.stand ≡ None) (no_line : is_at_line rows.stand ≡ false)
    (from : ℕ) (whole : Bits) (dropped : ℕ) (lie : LieIn whole dropped is_last before.bits)
    (starts : gap_start ≡ dropped + before.place)
    (stands : IsStanding from rows old (record { bits = whole; place = gap_start })) where
  changes_nothing : (settled : (is_last ≡ true)
      ⊎ (gap_is_settled mid.held.settings mid.held.taken mid.held.has_eols (here before) ≡ true)) → (lie.more ≡ [])
      ⊎ (gap_is_settled mid.held.settings mid.held.taken mid.held.has_eols (here before) ≡ true)
  changes_nothing (inl last) = inl (lie.can_come.none last)
  changes_nothing (inr is) = inr is

  place_after : after.place ≤ length before.bits
  place_after = omega (arith, gap.within, ap length gap.same_bits)

  there : drop gap_start whole ≡ here before ++ lie.more
  there = ap (λ (n : ℕ). drop n whole) starts ∙ from_place lie before.place gap.begun

  following : drop (dropped + after.place) whole ≡ here after ++ lie.more
  following = from_place lie after.place place_after ∙ ap (λ (b : Bits). drop after.place b ++ lie.more) (sym gap.same_bits)

  passes : PassesGap mid new gap.over (drop gap_start whole) (drop (dropped + after.place) whole)
  passes = subst (λ (b : Bits). PassesGap mid new gap.over b (drop (dropped + after.place) whole)) (sym there)
      (subst (PassesGap mid new gap.over (here before ++ lie.more)) (sym following) (gap.passes lie.more
      (changes_nothing settled)))

  begun : gap_start ≤ length whole
  begun = omega (arith, starts, place_within lie before.place gap.begun)

  within : dropped + after.place ≤ length whole
  within = place_within lie after.place place_after

  later : IsStanding (from + more_ticks) rows mid (record { bits = whole; place = gap_start })
  later = stands_later from more_ticks rows old mid (record { bits = whole; place = gap_start }) same ticks stands

  pub gap_step_stands : IsStanding (from + more_ticks) kept new (record { bits = whole; place = dropped + after.place })
  gap_step_stands = subst (λ (r : RowState). IsStanding (from + more_ticks) r new (record
      { bits = whole; place = dropped + after.place })) (sym gap.kept_is)
      (gap_stays (from + more_ticks) rows mid new whole gap_start (dropped + after.place) gap.over passes begun within unended
      no_line later)

  pub gap_step_reaches : ReachesNextLine (seen rows old (record { bits = whole; place = gap_start }))
      (seen kept new (record { bits = whole; place = dropped + after.place })) (came (of_settled_gap answer))
  gap_step_reaches =
      let reaches = gap_reaches (from + more_ticks) rows mid new whole gap_start
      (dropped + after.place) gap.over passes begun within
      unended no_line later in
      let said = subst (λ (r : Result Bool DecodeError). ReachesNextLine (seen rows mid
      (record { bits = whole; place = gap_start }))
      (seen kept new (record { bits = whole; place = dropped + after.place })) r) (sym (came_said answer ∙ gap.said))
      (subst (λ (r : RowState). ReachesNextLine (seen rows mid (record { bits = whole; place = gap_start }))
      (seen r new (record { bits = whole; place = dropped + after.place })) (line_after gap.over)) (sym gap.kept_is) reaches) in
      from_before said
    where
      from_before : {r : Result Bool DecodeError} → ReachesNextLine (seen rows mid (record { bits = whole; place = gap_start }))
          (seen kept new (record { bits = whole; place = dropped + after.place })) r → ReachesNextLine
          (seen rows old (record { bits = whole; place = gap_start }))
          (seen kept new (record { bits = whole; place = dropped + after.place })) r
      from_before {r = r} reached = grind (arith, common_steps, on_err_weaker)

-- a step waits where more data may come, and what is here can be changed
pub waits_for : (is_last settled : Bool) → (not is_last && not settled) ≡ true → (is_last ≡ false) × (settled ≡ false)
waits_for true settled e = absurd cc
waits_for false true e = absurd cc
waits_for false false e = (refl, refl)

pub waits_not : (is_last settled : Bool) → (not is_last && not settled) ≡ false → (is_last ≡ true) ⊎ (settled ≡ true)
waits_not true settled e = inl refl
waits_not false true e = inr refl
waits_not false false e = absurd cc

-- where a line is said to be here, it is
pub said_line : (over : Result Bool DecodeError) (r : Result Bool DecodeError) → r ≡ line_after over → of_settled_gap r ≡ Ok
    (Some true)
    → is_at_line (stand_after over) ≡ true
said_line (Ok true) r is e = grind (arith, common_steps)
said_line (Ok false) r is e = refl
said_line (Err error) r is e = grind (arith, common_steps)

-- its only fault is a missing EOL
pub said_code : (over r : Result Bool DecodeError) → r ≡ line_after over → IfErr over (λ e. e ≡ InvalidCode)
    → IfErr (of_settled_gap r) (λ e. e ≡ InvalidCode)
said_code (Ok over) r is code =
    subst (λ (r : Result Bool DecodeError). IfErr (of_settled_gap r) (λ e. e ≡ InvalidCode)) (sym is) tt
said_code (Err error) r is code = grind (arith, common_steps)

-- ---- The line here

pub left_is : (r : Result Bool DecodeError) → is_unread r ≡ true → IsUnread r
left_is (Ok true) e = absurd cc
left_is (Ok false) e = refl
left_is (Err error) e = no_memory_is error e

pub left_not : (r : Result Bool DecodeError) → is_unread r ≡ false → IsUnread r → ⊥
left_not (Ok true) e left = absurd cc
left_not (Ok false) e left = absurd cc
left_not (Err error) e left = false≢true (sym e ∙ ap no_memory left)

came_of : (r : Result Bool DecodeError) → is_unread r ≡ false → row_came (line_answer r) ≡ r
came_of (Ok true) e = refl
came_of (Ok false) e = absurd cc
came_of (Err error) e = refl

module _ (is_last : Bool) (line_start : ℕ) (rows kept : RowState) (old new : Context) (before after : BitsAt)
    (answer : Result Bool DecodeError) (tries : TriesRow is_last old new answer before after) (other : is_unread answer ≡ false)
    (same_bits : after.bits ≡ before.bits) (begun : before.place ≤ length before.bits) (ends : after.place ≤ length after.bits)
    (kept_is : kept ≡ rows_after_line rows (line_answer answer) line_start old.held.repairs.rows old.held.repairs.cut
    new.held.repairs)
    (from : ℕ) (whole : Bits) (dropped : ℕ) (lie : LieIn whole dropped is_last before.bits)
    (starts : line_start ≡ dropped + before.place)
    (at : IsStandingAtLine from rows old (record { bits = whole; place = line_start })) where
  line_ends : after.place ≤ length before.bits
  line_ends = omega (arith, ends, ap length same_bits)

  line_there : drop line_start whole ≡ here before ++ lie.more
  line_there = ap (λ (n : ℕ). drop n whole) starts ∙ from_place lie before.place begun

  line_following : drop (dropped + after.place) whole ≡ here after ++ lie.more
  line_following = from_place lie after.place line_ends ∙ ap (λ (b : Bits). drop after.place b ++ lie.more) (sym same_bits)

  fails : (e : DecodeError) → answer ≡ Err e → IsFault e
      → ReadsRow old new (Err e) (here before ++ lie.more) (here after ++ lie.more)
  fails e is fault = (subst (λ (r : Result Bool DecodeError). IfErr r (λ e. IsFault e → (more : Bits) → CanCome is_last more
      → ReadsRow old new (Err e) (here before ++ more) (here after ++ more))) is tries.failed) fault lie.more lie.can_come

  reads_here : (r : Result Bool DecodeError) → answer ≡ r → is_unread r ≡ false
      → ReadsRow old new (line_answer r) (here before ++ lie.more) (here after ++ lie.more)
  reads_here (Ok true) is e = tries.read is lie.more lie.can_come
  reads_here (Ok false) is e = absurd cc
  reads_here (Err error) is e = by_kind (λ (x : DecodeError). answer ≡ Err x → no_memory x ≡ false
      → ReadsRow old new (Err x) (here before ++ lie.more) (here after ++ lie.more))
      (λ x fault is e. fails x is fault) (λ is e. absurd cc) (λ is e. absurd (tries.not_refused is)) error is e

  line_reads : ReadsRow old new (line_answer answer) (drop line_start whole) (drop (dropped + after.place) whole)
  line_reads = grind (arith, common_steps, line_there, line_following, reads_here)

  line_begins : line_start ≤ length whole
  line_begins = omega (arith, starts, place_within lie before.place begun)

  line_within : dropped + after.place ≤ length whole
  line_within = place_within lie after.place line_ends

  pub line_step_stands : IsStanding from kept new (record { bits = whole; place = dropped + after.place })
  line_step_stands = subst (λ (r : RowState). IsStanding from r new (record { bits = whole; place = dropped + after.place }))
      (sym kept_is) (line_stays from rows old new whole line_start (dropped + after.place) line_begins line_within at
      (line_answer answer) line_reads)

  pub line_step_reads : ReadsNext (seen rows old (record { bits = whole; place = line_start }))
      (seen kept new (record { bits = whole; place = dropped + after.place })) answer
  line_step_reads = subst (λ (r : Result Bool DecodeError). ReadsNext (seen rows old
      (record { bits = whole; place = line_start }))
      (seen kept new (record { bits = whole; place = dropped + after.place })) r) (came_of answer other)
      (subst (λ (r : RowState). ReadsNext (seen rows old (record { bits = whole; place = line_start }))
      (seen r new (record { bits = whole; place = dropped + after.place })) (row_came (line_answer answer))) (sym kept_is)
      (line_is_next from rows old new whole line_start (dropped + after.place) line_begins line_within at (line_answer answer)
      line_reads))

pub none_read : (r : Result Bool DecodeError) → IsUnread r → r ≢ Ok true
none_read (Ok true) left e = absurd cc
none_read (Ok false) left e = cc
none_read (Err error) left e = cc

pub read_after : (rows : RowState) (answer : Result Bool DecodeError) (start rows_before cut_before : ℕ) (repairs : Repairs)
    → answer ≡ Ok true
    → (rows_after_line rows (line_answer answer) start rows_before cut_before repairs).stand ≡ AfterRow
read_after rows (Ok read) start rows_before cut_before repairs e = refl
read_after rows (Err error) start rows_before cut_before repairs e = absurd cc
