-- The contract of `decode`, from the accepted rows and the result.
use Rattle.hayro_ccitt.proofs.Names.{common_steps}
use Rattle.hayro_ccitt.proofs.Names.{◌≡◌, ◌⊎◌, ℕ, Bool, List, take, take_all, Option, None, Some, Result, Ok, Err, true, false}
use Rattle.hayro_ccitt.proofs.Names.{sym, ap, subst, ◌∙◌, arith, IsOk, OnErr, OnOk, length-flat_map, DecodeError, DecodeSettings}
use Rattle.hayro_ccitt.proofs.Names.{Group4, OnAnswer, meaning_after, Bits, AreWholeBytes, Held, Decodes, Damaged}
use Rattle.hayro_ccitt.proofs.Names.{IsClosedPicture, IsLimitedPicture, flat_map, cuts_by_line, sum_by, length, ◌↔◌}
use Rattle.hayro_ccitt.proofs.Names.{DamageStaysInRow, DamageEndsAt1D}
use Rattle.hayro_ccitt.proofs.Names.{repairs_by_line, misses_by_line, SinkState, TakesRows, StopsShort, CountsDamage, Line, plain}
use Rattle.hayro_ccitt.proofs.Names.{lines_of, failed_at, Row, AreSettings, CountsWork, RowsBeforeStay, RowsAfterStay}
use Rattle.hayro_ccitt.proofs.{DamagedLines.Damage.damage_stays_in_row, Readings.PlainAnswers.LeavesRows}
use Rattle.hayro_ccitt.proofs.Readings.TurnsMoveOn.{plain_width}
use Rattle.hayro_ccitt.proofs.DamagedLines.DamageByK.{damage_ends}
use Rattle.hayro_ccitt.proofs.DrawingLines.CountedLines.{on_answer_weaker}
use Rattle.hayro_ccitt.proofs.EncodedPictures.PicturesOfEachKind.{closed_pictures, limited_pictures}
use Rattle.hayro_ccitt.proofs.KeptRows.RowsBeforeDamage.{rows_before}
use Rattle.hayro_ccitt.proofs.KeptRows.RowsAfterDamage.{rows_after}
use Rattle.hayro_ccitt.proofs.Readings.Undamaged.{none_damaged, closed_strict, limited_strict}
use Rattle.hayro_ccitt.proofs.Readings.Undamaged.{ok_of_strict, strict_if_undamaged}

-- unless an allocation failure or the sink ended it, all rows were accepted, and the result is that of the reading
to_the_end : {M : Type 0} (rows : List Row) (outcome : Result ℕ DecodeError) {sought : Bool} (step : M → List ℕ → M)
    (before after : SinkState M) (held : Held) (answer : Result ℕ DecodeError) → TakesRows rows outcome sought step before after
    held answer → OnAnswer answer ((take held.taken rows ≡ rows) × (answer ≡ outcome))
to_the_end rows outcome step before after held (Ok n) takes = (take_all held.taken rows (omega (arith, takes.all)), sym takes.ok)
to_the_end rows outcome step before after held (Err error) takes =
    λ fault. (take_all held.taken rows (omega (arith, takes.all fault)), sym (takes.fault fault))

-- what is known of the accepted rows stays so if the context records the place of the fault
taken_still : {M : Type 0} (rows : List Row) (outcome : Result ℕ DecodeError) (sought : Bool) (step : M → List ℕ → M)
    (before after : SinkState M) (held : Held) (place : Option ℕ) (answer : Result ℕ DecodeError) → TakesRows rows outcome sought
    step before after held answer → TakesRows rows outcome sought step before after (record held { fault_start = place }) answer
taken_still rows outcome sought step before after held place answer takes = grind (arith, common_steps)

short_still : {M : Type 0} (rows : List Row) (lines : List Line) (before after : SinkState M)
    (held : Held) (place : Option ℕ) (answer : Result ℕ DecodeError) → StopsShort rows lines before after held answer
    → StopsShort rows lines before after (record held { fault_start = place }) answer
short_still rows lines before after held place answer short = grind (arith, common_steps)

-- all damage is counted
counted_whole : {T : Type 0} (by_line : List (List Damaged)) (n : ℕ) (answer : Result T DecodeError)
    → OnAnswer answer (n ≡ sum_by length by_line) → OnAnswer answer (n ≡ length (flat_map (λ damaged. damaged) by_line))
counted_whole by_line n answer counted =
    on_answer_weaker answer (λ e. e ∙ sym (length-flat_map (λ (damaged : List Damaged). damaged) by_line)) counted

-- so the contract follows from the accepted rows, stopping short, and the work, where the context records the place of the fault
pub decodes : {M : Type 0} (settings : DecodeSettings) (bits : Bits) (step : M → List ℕ → M) (before after : SinkState M)
    (held : Held) (place : Option ℕ) (ticks : ℕ) (answer : Result ℕ DecodeError) → AreSettings settings → AreWholeBytes bits
    → LeavesRows settings bits step before after held answer → ((settings.encoding ≡ Group4) ⊎ (settings.columns ≡ 0)
    → held.has_eols ≡ false) → CountsWork settings bits held.taken ticks → CountsDamage (repairs_by_line settings bits)
    held.taken held.repairs.rows answer → CountsDamage (cuts_by_line settings bits) held.taken held.repairs.cut answer
    → CountsDamage (misses_by_line settings bits) held.taken held.repairs.missed answer
    → OnErr answer (place ≡ Some (failed_at settings bits held.taken)) → OnOk answer (place ≡ None)
    → Decodes settings bits step before after (record held { fault_start = place }) ticks answer
decodes settings bits step before after held place ticks answer are whole
    (takes, short) no_eols work repaired cut missed fails no_fault =
    record {
      work = work;
      reading = taken_still (plain settings bits).rows (plain settings bits).outcome
          (plain settings bits).has_eols step before after held place answer takes;
      whole = all_meant;
      widths = plain_width settings bits;
      no_eols = no_eols;
      short = short_still (plain settings bits).rows (lines_of settings bits) before after held place answer short;
      fault_start = fails;
      no_fault = no_fault;
      closed = closed_ok;
      closed_rows = λ rows count picture. (closed_pictures settings rows count bits are whole picture).0;
      picture = closed_meant;
      limited_rows = λ rows picture. (limited_pictures settings rows bits are whole picture).0;
      limited = limited_ok;
      limited_picture = limited_meant;
      damaged_taken = repaired.of_taken;
      damaged = counted_whole (repairs_by_line settings bits) held.repairs.rows answer repaired.all;
      closed_whole = λ rows count picture. unrepaired (closed_strict settings rows count bits are whole picture);
      limited_whole = λ rows picture. unrepaired (limited_strict settings rows bits are whole picture);
      cut_taken = cut.of_taken;
      cut = counted_whole (cuts_by_line settings bits) held.repairs.cut answer cut.all;
      closed_runs = λ rows count picture. uncut (closed_strict settings rows count bits are whole picture);
      limited_runs = λ rows picture. uncut (limited_strict settings rows bits are whole picture);
      missed_taken = missed.of_taken;
      missed = counted_whole (misses_by_line settings bits) held.repairs.missed answer missed.all;
      closed_eols = λ rows count picture. unmissed (closed_strict settings rows count bits are whole picture);
      limited_eols = λ rows picture. unmissed (limited_strict settings rows bits are whole picture);
      undamaged = λ ok. (unrepaired ok, uncut ok, unmissed ok);
      silence = both answer end repaired.all cut.all missed.all;
      damage = stays;
      damage_by_k = ends;
      before_damage = stay_before;
      after_damage = stay_after;
    }
  where
    accepted : List Row
    accepted = take held.taken (plain settings bits).rows

    end : OnAnswer answer ((accepted ≡ (plain settings bits).rows) × (answer ≡ (plain settings bits).outcome))
    end = to_the_end (plain settings bits).rows (plain settings bits).outcome step before after held answer takes

    means : (rows : List Row) → accepted ≡ rows → after.meaning ≡ meaning_after step before.meaning rows
    means rows same = takes.meaning ∙ ap (meaning_after step before.meaning) same

    all_meant : OnAnswer answer (after.meaning ≡ meaning_after step before.meaning (plain settings bits).rows)
    all_meant = on_answer_weaker answer (λ e. means (plain settings bits).rows e.0) end

    closed_ok : (rows : List Row) (count : ℕ) → IsClosedPicture settings rows count bits → OnAnswer answer (answer ≡ Ok count)
    closed_ok rows count picture =
        on_answer_weaker answer (λ e. e.1 ∙ (closed_pictures settings rows count bits are whole picture).1) end

    closed_meant : (rows : List Row) (count : ℕ) → IsClosedPicture settings rows count bits
        → OnAnswer answer (after.meaning ≡ meaning_after step before.meaning rows)
    closed_meant rows count picture = on_answer_weaker answer
        (λ e. means rows (e.0 ∙ (closed_pictures settings rows count bits are whole picture).0)) end

    limited_ok : (rows : List Row) → IsLimitedPicture settings rows bits → OnAnswer answer (IsOk answer)
    limited_ok rows picture = on_answer_weaker answer
        (λ e. subst IsOk (sym e.1) (limited_pictures settings rows bits are whole picture).1) end

    limited_meant : (rows : List Row) → IsLimitedPicture settings rows bits
        → OnAnswer answer (after.meaning ≡ meaning_after step before.meaning rows)
    limited_meant rows picture = on_answer_weaker answer
        (λ e. means rows (e.0 ∙ (limited_pictures settings rows bits are whole picture).0)) end

    stays : OnAnswer answer (DamageStaysInRow settings bits accepted answer)
    stays = on_answer_weaker answer (λ e. damage_stays_in_row settings bits accepted answer are whole e.0 e.1) end

    ends : OnAnswer answer (DamageEndsAt1D settings bits accepted answer)
    ends = on_answer_weaker answer (λ e. damage_ends settings bits accepted answer are whole e.0 e.1) end

    stay_before : OnAnswer answer (RowsBeforeStay settings bits accepted)
    stay_before =
        on_answer_weaker answer (λ e. subst (RowsBeforeStay settings bits) (sym e.0) (rows_before settings bits whole)) end

    stay_after : OnAnswer answer (RowsAfterStay settings bits accepted answer)
    stay_after = on_answer_weaker answer (λ e. subst (RowsAfterStay settings bits accepted) (sym e.1)
        (subst (λ (rows : List Row). RowsAfterStay settings bits rows (plain settings bits).outcome) (sym e.0)
        (rows_after settings bits whole))) end

    unrepaired : IsOk (plain (record settings { strict = true }) bits).outcome → held.repairs.rows ≡ 0
    unrepaired ok = repaired.of_taken ∙ (none_damaged settings bits held.taken ok).0

    uncut : IsOk (plain (record settings { strict = true }) bits).outcome → held.repairs.cut ≡ 0
    uncut ok = cut.of_taken ∙ (none_damaged settings bits held.taken ok).1

    unmissed : IsOk (plain (record settings { strict = true }) bits).outcome → held.repairs.missed ≡ 0
    unmissed ok = missed.of_taken ∙ (none_damaged settings bits held.taken ok).2

    silent : (r : Result ℕ DecodeError) → r ≡ (plain settings bits).outcome
        → held.repairs.rows ≡ sum_by length (repairs_by_line settings bits)
        → held.repairs.cut ≡ sum_by length (cuts_by_line settings bits)
        → held.repairs.missed ≡ sum_by length (misses_by_line settings bits)
        → IsOk (plain (record settings { strict = true }) bits).outcome
        ↔ (IsOk r × (held.repairs.rows ≡ 0) × (held.repairs.cut ≡ 0) × (held.repairs.missed ≡ 0))
    silent r is rows cuts misses = (
      λ ok. (subst IsOk (sym is) (ok_of_strict settings bits ok), unrepaired ok, uncut ok, unmissed ok),
      λ (ok, none_repaired, none_cut, none_missed). strict_if_undamaged settings bits (subst IsOk is ok)
          (sym rows ∙ none_repaired) (sym cuts ∙ none_cut) (sym misses ∙ none_missed),
    )

    both : (r : Result ℕ DecodeError) → OnAnswer r ((take held.taken (plain settings bits).rows ≡ (plain settings bits).rows)
        × (r ≡ (plain settings bits).outcome)) → OnAnswer r (held.repairs.rows ≡ sum_by length (repairs_by_line settings bits))
        → OnAnswer r (held.repairs.cut ≡ sum_by length (cuts_by_line settings bits))
        → OnAnswer r (held.repairs.missed ≡ sum_by length (misses_by_line settings bits)) → OnAnswer r
        (IsOk (plain (record settings { strict = true }) bits).outcome
        ↔ (IsOk r × (held.repairs.rows ≡ 0) × (held.repairs.cut ≡ 0) × (held.repairs.missed ≡ 0)))
    both (Ok n) end rows cuts misses = silent (Ok n) end.1 rows cuts misses
    both (Err e) end rows cuts misses = λ fault. silent (Err e) (end fault).1 (rows fault) (cuts fault) (misses fault)
