-- A run over rows that are passed to a sink: what it leaves, from where the reading of rows is.
use Rattle.fax_rows.proofs.Names.{common_steps}
use Rattle.fax_rows.proofs.Names.{◌≡◌, ◌≢◌, ◌<◌, ◌≤◌, ◌+◌, ◌-◌, ℕ, true, List, [], length, take}
use Rattle.fax_rows.proofs.Names.{get_or, sum_by, None, Some, Result, Ok, Err, IfOk, IfErr, refl, sym, ap}
use Rattle.fax_rows.proofs.Names.{◌∙◌, subst, arith, DecodeError, OutOfMemory, Refused, DecodeSettings, IsFault}
use Rattle.fax_rows.proofs.Names.{OnAnswer, meaning_after, Bits, BitsAt, here, Context, Held, SinkState, StopsShort}
use Rattle.fax_rows.proofs.Names.{DecodesRows, leaving, plain, lines_of, end_of}
use Rattle.fax_rows.proofs.Names.{cuts_by_line}
use Rattle.fax_rows.proofs.Names.{repairs_by_line, misses_by_line, words_of}
use Rattle.fax_rows.proofs.Names.{most_counted, Row, changes, is_some, ReadsNext}
use Rattle.fax_rows.proofs.Names.{map-append, fold-append}
use Rattle.fax_rows.proofs.Names.{IsStanding, IsWhole, MissesAfterRow, MissIsReported, Stand, AtLine, AfterRow}
use Rattle.fax_rows.proofs.Names.{AtEnd, AtFault, ended, missed_before, seen}
use Rattle.fax_rows.specs.declared.row_reader.RowState.{RowState}
use Rattle.fax_reading.proofs.DrawingLines.CountedLines.{on_answer_weaker}
use Rattle.fax_rows.proofs.Readings.RowByRow.{plain_whole, ended_stands, failed_stands, misses_ended}
use Rattle.fax_rows.proofs.Readings.RowByRow.{repairs_with_missed}
use Rattle.fax_rows.proofs.Work.CallsPaid.{within_most}

-- What is known of a run over the rows of some bits: the sink means the rows that it accepted, and all damage and work is
-- counted.
pub record HasRun {M : Type 0} (settings : DecodeSettings) (bits : Bits) (from : ℕ) (step : M → List ℕ → M)
    (before after : SinkState M) (held : Held) (ticks : ℕ) (answer : Result Bits DecodeError) : Type 0 where
  pub few : held.taken ≤ length (plain settings bits).rows
  pub meaning : after.meaning ≡ meaning_after step before.meaning (take held.taken (plain settings bits).rows)
  pub short : StopsShort (plain settings bits).rows (lines_of settings bits) before after held answer
  pub whole : OnAnswer answer (IsWhole settings bits held answer)
  pub repaired : held.repairs.rows ≡ sum_by length (take held.taken (repairs_by_line settings bits))
  pub cut : held.repairs.cut ≡ sum_by length (take held.taken (cuts_by_line settings bits))
  pub missed : held.repairs.missed ≡ sum_by length (take held.taken (misses_by_line settings bits))
  pub words : from + sum_by length (take held.taken (words_of settings bits)) ≤ ticks
  pub most : ticks ≤ from + most_counted settings.encoding (length bits)

-- what is known of settings and bits is known of equal ones
pub of_same : (P : DecodeSettings → Bits → Type 0) {s t : DecodeSettings} {b c : Bits} → s ≡ t → b ≡ c → P s b → P t c
of_same P {s} {t} {b} {c} settings bits given = subst (P t) bits (subst (λ (x : DecodeSettings). P x b) settings given)

-- how a whole reading ended
ends_so : (settings : DecodeSettings) (bits : Bits) (held : Held) (answer : Result Bits DecodeError)
    → OnAnswer answer (IsWhole settings bits held answer) → IfOk answer (λ a. (end_of settings bits).outcome ≡ Ok a)
    × IfErr answer (λ e. IsFault e → (end_of settings bits).outcome ≡ Err e)
ends_so settings bits held (Ok rest) whole = (whole.ends, tt)
ends_so settings bits held (Err e) whole = (tt, λ fault. (whole fault).ends)

-- that is what the drivers promise
pub decodes_rows : {M : Type 0} (bits : Bits) (step : M → List ℕ → M) (before after : SinkState M) (old new : Context)
    (answer : Result Bits DecodeError) → 0 < old.held.settings.columns → new.held.settings ≡ old.held.settings
    → HasRun old.held.settings bits old.ticks step before after new.held new.ticks answer
    → DecodesRows bits step before after old new answer
decodes_rows bits step before after old new answer wide same run =
    grind (arith, common_steps, plain_whole, on_answer_weaker, ends_so)

-- the sink means one more row
pub means_more : {M : Type 0} (step : M → List ℕ → M) (meaning : M) (rows : List Row) (taken : ℕ) (row : Row)
    → taken + 1 ≤ length rows → row ≡ get_or rows taken [] → step (meaning_after step meaning (take taken rows)) (changes row)
    ≡ meaning_after step meaning (take (taken + 1) rows)
means_more step meaning rows taken row there is = grind (arith, common_steps, map-append, fold-append)

-- so it does where the sink took it
pub means_pushed : {M : Type 0} (by_width : ℕ → M → List ℕ → M) (width first : ℕ) (start before after : M) (rows : List Row)
    (taken now : ℕ) (row : Row) (pushed : List ℕ) → width ≡ first
    → before ≡ meaning_after (by_width first) start (take taken rows) → after ≡ by_width width before pushed
    → pushed ≡ changes row → row ≡ get_or rows taken [] → now ≡ taken + 1 → now ≤ length rows
    → after ≡ meaning_after (by_width first) start (take now rows)
means_pushed {M} by_width width first start before after rows taken now row pushed same means takes is there more within =
    grind (arith, common_steps, means_more)

-- ---- Before the first row

-- a reading that has ended, and has not failed, has ended well
pub ends_unfailed : (stand : Stand) → ((error : DecodeError) → ended stand ≢ Some (Err error)) → is_some (ended stand) ≡ true
    → ended stand ≡ Some (Ok tt)
ends_unfailed AtLine unfailed is = cc
ends_unfailed AfterRow unfailed is = cc
ends_unfailed AtEnd unfailed is = refl
ends_unfailed (AtFault error) unfailed is = absurd (unfailed error refl)

-- no EOL was missed
pub none_missed : (stand : Stand) (settings : DecodeSettings) (bits : Bits) {taken : ℕ} → taken ≡ 0
    → MissIsReported stand settings bits taken None
none_missed AtLine settings bits none = sym (ap (missed_before settings bits) none)
none_missed AfterRow settings bits none = tt
none_missed AtEnd settings bits none = sym (ap (missed_before settings bits) none)
none_missed (AtFault error) settings bits none = sym (ap (missed_before settings bits) none)

-- ---- The end of a run

module _ {M : Type 0} {step : M → List ℕ → M} {before after : SinkState M} {from : ℕ} where
  -- where the reading has ended
  run_ended : (rows : RowState) (ctx : Context) (reader : BitsAt) → IsStanding from rows ctx reader
      → 0 < ctx.held.settings.columns → ctx.held.taken ≤ length (plain ctx.held.settings reader.bits).rows → after.meaning
      ≡ meaning_after step before.meaning (take ctx.held.taken (plain ctx.held.settings reader.bits).rows)
      → after.refused ≡ before.refused → (answer : Result (Unit {0}) DecodeError) → ended rows.stand ≡ Some answer
      → HasRun ctx.held.settings reader.bits from step before after ctx.held ctx.ticks (leaving answer (here reader))
  run_ended rows ctx reader stands wide few means unrefused (Ok x) is =
      grind (arith, common_steps, ended_stands, misses_ended, within_most)
  run_ended rows ctx reader stands wide few means unrefused (Err e) is =
      let settings = ctx.held.settings in
      let bits = reader.bits in
      let at = failed_stands rows.stand settings bits ctx.held reader.place is stands.0 in
      let error = λ (f : DecodeError) (same : ◌≡◌ {A = Result Bits DecodeError} (Err e) (Err f)).
      (let it : e ≡ f = cc in it) in
      record {
        few = few;
        meaning = means;
        short = record {
          memory = λ f. at.0.memory (error OutOfMemory f);
          refused = λ f. absurd (at.0.not_refused (error Refused f));
          refused_row = λ f. absurd (at.0.not_refused (error Refused f));
          flag = λ f. absurd (at.0.not_refused (error Refused f));
          no_flag = λ f. unrefused;
        };
        whole = at.1 wide;
        repaired = stands.1.counted;
        cut = stands.1.cut;
        missed = (misses_ended rows.stand settings bits ctx.held is stands.1.misses).counted;
        words = stands.2.words;
        most = within_most from rows.stand settings bits ctx.held reader.place ctx.ticks stands.0 stands.2.paid;
      }

  pub run_is_over : (rows : RowState) (ctx : Context) (reader : BitsAt) → IsStanding from rows ctx reader
      → {settings : DecodeSettings} {bits : Bits} → ctx.held.settings ≡ settings → reader.bits ≡ bits → 0 < settings.columns
      → ctx.held.taken ≤ length (plain settings bits).rows
      → after.meaning ≡ meaning_after step before.meaning (take ctx.held.taken (plain settings bits).rows)
      → after.refused ≡ before.refused → (answer : Result (Unit {0}) DecodeError) → ended rows.stand ≡ Some answer
      → HasRun settings bits from step before after ctx.held ctx.ticks (leaving answer (here reader))
  run_is_over rows ctx reader stands same are wide few means unrefused answer is = grind (arith, common_steps, of_same, run_ended)

  -- where a row was refused, and taken back
  pub run_refused : (rows read : RowState) (ctx new : Context) (reader following : BitsAt) → IsStanding from rows ctx reader
      → IsStanding from read new following → read.stand ≡ AfterRow
      → ReadsNext (seen rows ctx reader) (seen read new following) (Ok true) → (last : Held)
      → last ≡ record new.held {
        taken = new.held.taken - 1;
        repairs = record new.held.repairs {
          rows =
              ctx.held.repairs.rows;
          cut = ctx.held.repairs.cut;
        };
      }
      → after.meaning ≡ meaning_after step before.meaning (take ctx.held.taken (plain ctx.held.settings reader.bits).rows)
      → after.refused ≡ true → after.refuses (changes new.held.reference)
      → HasRun ctx.held.settings reader.bits from step before after last new.ticks (Err Refused)
  run_refused rows read ctx new reader following stands still is reads last back means refused row =
      let settings = ctx.held.settings in
      let bits = reader.bits in
      let (unended, more, within) = reads.more refl in
      let index : last.taken ≡ ctx.held.taken = omega (arith, ap (λ (h : Held). h.taken) back, more) in
      let misses : MissesAfterRow settings bits new.held = grind (arith, common_steps) in
      let there : new.held.taken - 1 ≡ ctx.held.taken = omega (arith, more) in
      record {
        few = omega (arith, index, more, within);
        meaning = means ∙ ap (λ (n : ℕ). meaning_after step before.meaning (take n (plain settings bits).rows)) (sym index);
        short = grind (arith, common_steps, reads.row refl);
        whole = λ fault. absurd fault;
        repaired = ap (λ (h : Held). h.repairs.rows) back ∙ stands.1.counted
            ∙ ap (λ (n : ℕ). sum_by length (take n (repairs_by_line settings bits))) (sym index);
        cut = ap (λ (h : Held). h.repairs.cut) back ∙ stands.1.cut
            ∙ ap (λ (n : ℕ). sum_by length (take n (cuts_by_line settings bits))) (sym index);
        missed = grind (arith, common_steps, repairs_with_missed);
        words = grind (arith, common_steps);
        most = grind (arith, common_steps, within_most);
      }

module _ {M : Type 0} {step : M → List ℕ → M} {before after : SinkState M} {old new : Context} {bits : Bits}
    (wide : 0 < old.held.settings.columns) where
  -- so the drivers keep their promise, where the reading has ended,
  pub rows_ended : (rows : RowState) {reader : BitsAt} {taken : ℕ} → new.held.settings ≡ old.held.settings → reader.bits ≡ bits
      → IsStanding old.ticks rows new reader → new.held.taken ≡ taken → taken ≤ length (plain old.held.settings bits).rows
      → after.meaning ≡ meaning_after step before.meaning (take taken (plain old.held.settings bits).rows)
      → after.refused ≡ before.refused → (answer : Result (Unit {0}) DecodeError) → ended rows.stand ≡ Some answer
      → DecodesRows bits step before after old new (leaving answer (here reader))
  rows_ended rows {reader} same are stands taken few means unrefused answer is =
      decodes_rows bits step before after old new (leaving answer (here reader)) wide same (run_is_over rows new reader stands
      same are wide (omega (arith, taken, few)) (means
      ∙ ap (λ (n : ℕ). meaning_after step before.meaning (take n (plain old.held.settings bits).rows)) (sym taken)) unrefused
      answer is)

  -- and where the sink refused the row that was read, and it was taken back
  pub rows_refused : (rows read : RowState) (ctx : Context) {last : Context} {reader following : BitsAt} {damaged cut : ℕ}
      {error : DecodeError} → ctx.held.settings ≡ old.held.settings → reader.bits ≡ bits → IsStanding old.ticks rows ctx reader
      → IsStanding old.ticks read new following → read.stand ≡ AfterRow
      → ReadsNext (seen rows ctx reader) (seen read new following) (Ok true)
      → last ≡ record new {
        held = record new.held {
          taken = new.held.taken - 1;
          repairs = record new.held.repairs { rows = damaged; cut = cut };
        };
      }
      → damaged ≡ ctx.held.repairs.rows → cut ≡ ctx.held.repairs.cut
      → after.meaning ≡ meaning_after step before.meaning (take ctx.held.taken (plain old.held.settings bits).rows)
      → after.refused ≡ true → after.refuses (changes new.held.reference) → error ≡ Refused
      → DecodesRows bits step before after old last (Err error)
  rows_refused rows read ctx {last} {reader} {following} same are stands still is reads frame damaged cut means refused
      row error =
      let held = rw (damaged, cut) at (ap (λ (x : Context). x.held) frame) in
      let meant = of_same (λ s b. after.meaning ≡ meaning_after step before.meaning (take ctx.held.taken (plain s b).rows))
      (sym same) (sym are) means in
      let run = run_refused {step = step} {before = before} {after = after} rows read ctx new reader following stands still is
      reads last.held held meant refused row in
      subst (λ (e : DecodeError). DecodesRows bits step before after old last (Err e)) (sym error) (decodes_rows bits step before
      after old last (Err Refused) wide (ap (λ (x : Context). x.held.settings) frame ∙ reads.settings ∙ same)
      (subst (λ (n : ℕ). HasRun old.held.settings bits old.ticks step before after last.held n (Err Refused))
      (sym (ap (λ (x : Context). x.ticks) frame))
      (of_same (λ s b. HasRun s b old.ticks step before after last.held new.ticks (Err Refused)) same are run)))
