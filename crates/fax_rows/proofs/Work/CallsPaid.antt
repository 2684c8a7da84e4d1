-- Rows one at a time: what all calls of a reader of rows count is paid.
use Rattle.fax_rows.proofs.Names.{common_steps}
use Rattle.fax_rows.proofs.Names.{IfOk, OnOk, OnErr, ◌≡◌, ◌≢◌, ◌+◌, ◌*◌, ◌<◌, ◌≤◌, ℕ, Bool, true, false, length}
use Rattle.fax_rows.proofs.Names.{drop, None, Result, Ok, Err, refl, sym, ap, ◌∙◌, arith, false≢true, length-drop, DecodeError}
use Rattle.fax_rows.proofs.Names.{Stand, AtLine, AfterRow, AtEnd, AtFault, DecodeSettings, EncodingMode, Group4, Group3_1D}
use Rattle.fax_rows.proofs.Names.{Group3_2D, Bits, Held, fresh, gap_said, Gap, gap_after_row, changes, IsPaid, PaidAtLine}
use Rattle.fax_rows.proofs.Names.{PaidAfterRow, ReaderStands, WorkIsPaid, ended, is_at_line, stand_after, looked}
use Rattle.fax_rows.proofs.Names.{looked_ahead, tag_tests, CountsWork, found_here, most_counted}
use Rattle.fax_rows.proofs.Names.{line_here, most_room, most_stored, room_for}
use Rattle.fax_reading.proofs.Work.ChangesStored.{changes_white}
use Rattle.fax_reading.proofs.Work.EolsPassed.{few_tag_tests, line_has_bits, line_without_eols, looked_ahead_most, looked_most}
use Rattle.fax_lines.proofs.Work.RoomTaken.{room_enough}
use Rattle.fax_reading.proofs.Work.TurnsPaid.{line_ends, missing_ends, gap_ends, turn_goes_on}

-- the most that is counted in data of Group 3
most_counted_t4 : (encoding : EncodingMode) (bits : ℕ) → encoding ≢ Group4 → most_counted encoding bits ≡ 36 * bits + 14
most_counted_t4 Group4 bits other = absurd (other refl)
most_counted_t4 Group3_1D bits other = refl
most_counted_t4 Group3_2D bits other = refl

-- ---- At a line, and after its row

module _ (from : ℕ) (settings : DecodeSettings) (wide : 0 < settings.columns) (bits : Bits) (held : Held) (rest : Bits)
    (ticks : ℕ) (at : PaidAtLine from settings bits held rest ticks) where
  -- there is enough for a line that fails
  pub failed_most : (now : ℕ) → now ≤ ticks + 4 * length (found_here settings held.reference rest) + 2
      + length (changes held.reference) → now ≤ from + most_counted settings.encoding (length bits)
  failed_most now line =
      omega (
        arith,
        at.enough,
        line_ends settings wide at.begun (length bits) at.giving_up held.reference held.has_eols rest at.within ticks
            (length (changes held.reference)) at.paid now line,
      )

  -- so there is for what came before it
  line_most : ticks ≤ from + most_counted settings.encoding (length bits)
  line_most = failed_most ticks (omega arith)

module _ (from : ℕ) (settings : DecodeSettings) (wide : 0 < settings.columns) (bits : Bits) (held : Held) (rest : Bits)
    (ticks : ℕ) (after : PaidAfterRow from settings bits held rest ticks) where
  row_most : ticks ≤ from + most_counted settings.encoding (length bits)
  row_most = failed_most from settings wide bits after.before after.start after.ticks_before after.at_line ticks after.line

-- if a line is here, the account says so
pub at_line_paid : (from : ℕ) (stand : Stand) (settings : DecodeSettings) (bits : Bits) (held : Held) (place ticks : ℕ)
    → is_at_line stand ≡ true → IsPaid from stand settings bits held place ticks
    → PaidAtLine from settings bits held (drop place bits) ticks
at_line_paid from AtLine settings bits held place ticks is paid = paid
at_line_paid from AfterRow settings bits held place ticks is paid = absurd (false≢true is)
at_line_paid from AtEnd settings bits held place ticks is paid = absurd (false≢true is)
at_line_paid from (AtFault error) settings bits held place ticks is paid = absurd (false≢true is)

-- so it does after a row
pub after_row_paid : (from : ℕ) (stand : Stand) (settings : DecodeSettings) (bits : Bits) (held : Held) (place ticks : ℕ)
    → ended stand ≡ None → is_at_line stand ≡ false → IsPaid from stand settings bits held place ticks
    → PaidAfterRow from settings bits held (drop place bits) ticks
after_row_paid from AtLine settings bits held place ticks unended no_line paid = absurd (false≢true (sym no_line))
after_row_paid from AfterRow settings bits held place ticks unended no_line paid = paid
after_row_paid from AtEnd settings bits held place ticks unended no_line paid = absurd cc
after_row_paid from (AtFault error) settings bits held place ticks unended no_line paid = absurd cc

-- ---- The gap after a row

module _ (from : ℕ) (settings : DecodeSettings) (wide : 0 < settings.columns) (bits : Bits) (held : Held) (rest : Bits)
    (ticks : ℕ) (after : PaidAfterRow from settings bits held rest ticks) (last : Held) (place now : ℕ)
    (frame : last ≡ record held { has_eols = last.has_eols; repairs = last.repairs }) where
  abbrev next : Bits
  next = drop place bits

  -- EOLs are sought only where they were sought before
  still_sought : gap_after_row settings held.taken held.has_eols rest ≡ Gap.line_at last.has_eols next → last.has_eols ≡ true
      → held.has_eols ≡ true
  still_sought said is = by_has_eols held.has_eols refl
    where
      by_has_eols : (b : Bool) → held.has_eols ≡ b → held.has_eols ≡ true
      by_has_eols true h_is = h_is
      by_has_eols false h_is =
          let stands : gap_after_row settings held.taken false rest ≡ Gap.line_at last.has_eols next
          = ap (λ (b : Bool). gap_after_row settings held.taken b rest) (sym h_is) ∙ said in
          absurd (false≢true (sym (line_without_eols settings held.taken last.has_eols rest next stands).0 ∙ is))

  pub gap_paid : (answer : Result Bool DecodeError) → gap_after_row settings held.taken held.has_eols rest
      ≡ gap_said answer last.has_eols next
      → IfOk answer (λ over. over ≡ true → last.has_eols ≡ held.has_eols)
      → OnOk answer (last.has_eols ≡ held.has_eols
      → now + 4 * length next ≤ ticks + 4 * length rest + tag_tests settings.encoding + looked_ahead settings.encoding next)
      → OnOk answer (last.has_eols ≢ held.has_eols → now ≤ ticks + 2 * length rest) → OnErr answer (now ≤ ticks + looked rest)
      → IsPaid from (stand_after answer) settings bits last place now
  gap_paid (Ok true) said over kept given_up refused =
      let at = after.at_line in
      omega (
        arith,
        at.enough,
        gap_ends settings wide at.begun (length bits) at.giving_up after.before.reference after.before.has_eols after.start
            at.within after.ticks_before (length
            (changes after.before.reference)) at.paid ticks after.line held.reference rest
            after.row_is now next (omega (arith, kept (over refl), few_tag_tests settings.encoding)),
      )
  gap_paid (Ok false) said over kept given_up refused =
      let at = after.at_line in
      let line : gap_after_row settings held.taken after.before.has_eols rest ≡ Gap.line_at last.has_eols next
      = ap (λ (b : Bool). gap_after_row settings held.taken b rest) (sym after.kept) ∙ said in
      record {
        begun = at.begun;
        giving_up = at.giving_up;
        enough = at.enough;
        sought = λ is. at.sought (sym after.kept ∙ still_sought said is);
        within = omega (arith, length-drop place bits);
        paid = turn_goes_on settings wide at.begun (length bits) at.giving_up after.before.reference after.before.has_eols
            after.start at.within after.ticks_before (length (changes after.before.reference)) at.paid ticks
            after.line held.reference rest after.row_is held.taken last.has_eols next now (length
            (changes last.reference)) line
            (omega (arith, after.stored, ap (λ (h : Held). length (changes h.reference)) frame))
            (λ same. omega (arith, kept (same ∙ sym after.kept), few_tag_tests settings.encoding))
            (λ other. given_up (λ same. other (same ∙ after.kept))) at.sought;
        short = omega (arith, after.short, ap (λ (h : Held). length (changes h.reference)) frame);
      }
  gap_paid (Err e) said over kept given_up refused =
      let at = after.at_line in
      omega (
        arith,
        at.enough,
        missing_ends settings wide at.begun
            (length bits) at.giving_up after.before.reference after.before.has_eols after.start
            at.within after.ticks_before (length
            (changes after.before.reference)) at.paid ticks after.line held.reference rest
            after.row_is now (omega (arith, refused, looked_most rest)),
      )

-- ---- Before the first line

-- in Group 4 a gap (T.6, 2.4.1.1)
module _ (from : ℕ) (settings : DecodeSettings) (is : settings.encoding ≡ Group4) (bits : Bits) (last : Held) (place now : ℕ)
    (frame : last ≡ record (fresh settings) { has_eols = last.has_eols }) where
  abbrev line : Bits
  line = drop place bits

  most_t6 : most_counted settings.encoding (length bits) ≡ 22 * length bits + 1
  most_t6 = ap (λ (e : EncodingMode). most_counted e (length bits)) is

  pub first_gap_paid : (answer : Result Bool DecodeError) → gap_after_row settings 0 false bits
      ≡ gap_said answer last.has_eols line
      → IfOk answer (λ over. over ≡ true → last.has_eols ≡ false)
      → OnOk answer (last.has_eols ≡ false
      → now + 4 * length line ≤ from + 4 * length bits + tag_tests settings.encoding + looked_ahead settings.encoding line)
      → OnErr answer (now ≤ from + looked bits) → IsPaid from (stand_after answer) settings bits last place now
  first_gap_paid (Ok true) said over kept refused = grind (arith, common_steps, most_t6, looked_ahead_most)
  first_gap_paid (Ok false) said over kept refused =
      let unsought : last.has_eols ≡ false = (line_without_eols settings 0 last.has_eols bits line said).0 in
      let work = kept unsought in
      record {
        begun = now;
        giving_up = 0;
        enough =
            grind (arith, common_steps, most_t6, looked_ahead_most, line, line_has_bits, length-drop);
        sought = λ sought. absurd (false≢true (sym unsought ∙ sought));
        within = omega (arith, length-drop place bits);
        paid = grind (arith, common_steps, changes_white, length-drop);
        short = omega (arith, ap (λ (h : Held). length (changes h.reference)) frame, changes_white settings.columns);
      }
  first_gap_paid (Err e) said over kept refused = omega (arith, most_t6, refused, looked_most bits)

-- in Group 3 the EOLs there (T.4, 4.1.2)
pub first_line_paid : (from : ℕ) (settings : DecodeSettings) → settings.encoding ≢ Group4
    → (bits : Bits) (last : Held) (rest : Bits) (now : ℕ) → length (changes last.reference) ≡ 0 → length rest ≤ length bits
    → now + length rest ≤ from + length bits + looked rest → PaidAtLine from settings bits last rest now
first_line_paid from settings other bits last rest now white within work = record {
  begun = now;
  giving_up = 8 * length bits + 8;
  enough = omega (arith, most_counted_t4 settings.encoding (length bits) other, work, looked_most rest);
  sought = λ sought. omega arith;
  within = within;
  paid = omega (arith, white, within);
  short = omega (arith, white);
}

-- ---- All calls

most_below : (encoding : EncodingMode) (bits : ℕ) → most_counted encoding bits ≤ 128 * bits + 256
most_below Group4 bits = omega arith
most_below Group3_1D bits = omega arith
most_below Group3_2D bits = omega arith

pub within_most : (from : ℕ) (stand : Stand) (settings : DecodeSettings) (bits : Bits) (held : Held) (place ticks : ℕ)
    → ReaderStands stand settings bits held place → IsPaid from stand settings bits held place ticks
    → ticks ≤ from + most_counted settings.encoding (length bits)
within_most from AtLine settings bits held place ticks stands paid =
    line_most from settings stands.wide bits held (drop place bits) ticks paid
within_most from AfterRow settings bits held place ticks stands paid =
    row_most from settings stands.wide bits held (drop place bits) ticks paid
within_most from AtEnd settings bits held place ticks stands paid = paid
within_most from (AtFault error) settings bits held place ticks stands paid = paid

-- what is paid is within the bound
pub work_is_counted : (stand : Stand) (settings : DecodeSettings) (bits : Bits) (held : Held) (place ticks : ℕ)
    → ReaderStands stand settings bits held place → WorkIsPaid 0 stand settings bits held place ticks
    → CountsWork settings bits held.taken ticks
work_is_counted stand settings bits held place ticks stands work = grind (arith, common_steps, within_most, most_below)

-- so it is before the first row
pub begun_is_counted : (stand : Stand) (settings : DecodeSettings) (bits : Bits) (held : Held) (place ticks : ℕ)
    → held.taken ≡ 0
    → ReaderStands stand settings bits held place → IsPaid 0 stand settings bits held place ticks
    → CountsWork settings bits held.taken ticks
begun_is_counted stand settings bits held place ticks none stands paid = grind (arith, common_steps, work_is_counted)

-- so if a line is here, it takes no more room
pub line_enough : (from : ℕ) (stand : Stand) (settings : DecodeSettings) (bits : Bits) (held : Held) (place ticks : ℕ)
    → is_at_line stand ≡ true → IsPaid from stand settings bits held place ticks
    → room_for (most_stored held.reference (line_here settings held.reference (drop place bits))) ≤ most_room settings bits
line_enough from stand settings bits held place ticks is paid = grind (arith, common_steps, at_line_paid, room_enough)
