-- Rows that are given as many as there is room for, from what is left where they were passed to a sink.
use Rattle.std.proofs.Common.{◌≡◌, ◌≢◌, ◌≤◌, ◌<◌, inl, inr, ℕ, zero, suc, Bool, true, false, List, [], ◌∷◌, length, refl, sym, ap}
use Rattle.std.proofs.Common.{subst, ◌∙◌, arith, Result, Ok, Err, None}
use Rattle.hayro_ccitt.specs.DecodeError.{DecodeError}
use Rattle.hayro_ccitt.specs.DecodeSettings.{DecodeSettings}
use Rattle.hayro_ccitt.specs.Answers.{meaning_after}
use Rattle.hayro_ccitt.specs.Decoding.{SinkState}
use Rattle.hayro_ccitt.specs.Rows.{HaveWidth, Row, changes}
use Rattle.hayro_ccitt.specs.RowFeeds.{Feeding as RowsFed, FeedsRow, FeedsRows, PushesRows, last_left, rows_left}
use Rattle.hayro_ccitt.specs.Fed.{Fed}
use Rattle.c_rows.specs.GivenRows.{ComesToNone, GivesEach, GivesRows, PassesAll, RefusesOne, columns_of, feeding_after}
use Rattle.c_rows.specs.GivenRows.{rows_given, status_after}
use Rattle.c_rows.specs.Packing.{bytes_of_row}
use Rattle.c_rows.specs.RowsFed.{GivesFed, TurnsToFed, is_fed_row, status_of_fed}
use Rattle.c_rows.specs.declared.feeding.Feeding.{Feeding}
use Rattle.c_rows.specs.declared.status.TheConstants.{OK, REFUSED}

-- what a call of one row leaves, where none is kept
pub turned : (kept : Bool) (old new : RowsFed) (answer : Result Fed DecodeError) → kept ≡ false → FeedsRow old new answer
    → TurnsToFed kept old new answer
turned kept old new answer none call = subst (λ (k : Bool). TurnsToFed k old new answer) (sym none) call

-- a reading with these rows of which none is kept
abbrev pub reading_of : (old : Feeding) (rows : RowsFed) → rows.ctx.held.settings ≡ old.rows.ctx.held.settings → Feeding
reading_of old rows same = record {
  rows = rows;
  is_kept = false;
  layout = old.layout;
  reported = None;
  reaches = subst (λ (s : DecodeSettings). bytes_of_row s.columns ≤ old.layout.stride) (sym same) old.reaches;
  tells = λ x e. cc;
}

-- calls that each read a row give them
record ReadEach (old : Feeding) (read : List RowsFed) : Type 0 where
  given : List Feeding
  each : GivesEach old given
  wide : HaveWidth (columns_of old) (rows_given given)
  rows : rows_given given ≡ rows_left read
  last : (feeding_after old given).rows ≡ last_left old.rows read
  none_kept : (feeding_after old given).is_kept ≡ false
  layout : (feeding_after old given).layout ≡ old.layout
  settings : (last_left old.rows read).ctx.held.settings ≡ old.rows.ctx.held.settings

-- one more row of the width
pub wide_more : (columns : ℕ) (row : Row) (rows : List Row) → length row ≡ columns → HaveWidth columns rows
    → HaveWidth columns (row ∷ rows)
wide_more columns row rows one more zero d lt = one
wide_more columns row rows one more (suc k) d lt = more k d (omega (arith, lt))

none_wide : (columns : ℕ) → HaveWidth columns []
none_wide columns k d lt = absurd (omega (arith, lt))

read_each : (old : Feeding) (read : List RowsFed) → old.is_kept ≡ false → FeedsRows old.rows read → ReadEach old read
read_each old [] none reads = record {
  given = [];
  each = tt;
  wide = none_wide (columns_of old);
  rows = refl;
  last = refl;
  none_kept = none;
  layout = refl;
  settings = refl;
}
read_each old (next ∷ read) none reads =
    let counts = reads.0.counts in
    let first : Feeding = reading_of old next counts.settings in
    let more : ReadEach first read = read_each first read refl reads.1 in
    record {
      given = first ∷ more.given;
      each = (
        record {
          answer = Ok Fed.Row;
          turns = turned old.is_kept old.rows next (Ok Fed.Row) none reads.0;
          status_is = inl refl;
          kept = λ e. absurd cc;
          refused = λ e. absurd (omega (arith, e));
          layout = refl;
        },
        more.each,
      );
      wide = wide_more (columns_of old) next.ctx.held.reference (rows_given more.given) (counts.width refl)
          (subst (λ (s : DecodeSettings). HaveWidth s.columns (rows_given more.given)) counts.settings more.wide);
      rows = ap (λ (l : List Row). next.ctx.held.reference ∷ l) more.rows;
      last = more.last;
      none_kept = more.none_kept;
      layout = more.layout;
      settings = more.settings ∙ counts.settings;
    }

-- an answer that is no row
no_row_is : (answer : Result Fed DecodeError) → answer ≢ Ok Fed.Row → is_fed_row answer ≡ false
no_row_is (Ok Fed.Row) other = absurd (other refl)
no_row_is (Ok Fed.NeedsMore) other = refl
no_row_is (Ok Fed.End) other = refl
no_row_is (Err error) other = refl

-- the status of a call of one row is not that of one that is refused
not_refused : (answer : Result Fed DecodeError) → status_of_fed answer ≢ REFUSED
not_refused (Ok Fed.Row) e = absurd (omega (arith, e))
not_refused (Ok Fed.NeedsMore) e = absurd (omega (arith, e))
not_refused (Ok Fed.End) e = absurd (omega (arith, e))
not_refused (Err DecodeError.UnexpectedEof) e = absurd (omega (arith, e))
not_refused (Err DecodeError.InvalidCode) e = absurd (omega (arith, e))
not_refused (Err DecodeError.Overflow) e = absurd (omega (arith, e))
not_refused (Err DecodeError.OutOfMemory) e = absurd (omega (arith, e))
not_refused (Err DecodeError.Refused) e = absurd (omega (arith, e))

-- the answer of a row doesn't occur
not_given : (answer : Result Fed DecodeError) → is_fed_row answer ≡ false → status_of_fed answer ≢ OK
not_given (Ok Fed.Row) none e = absurd cc
not_given (Ok Fed.NeedsMore) none e = absurd (omega (arith, e))
not_given (Ok Fed.End) none e = absurd (omega (arith, e))
not_given (Err DecodeError.UnexpectedEof) none e = absurd (omega (arith, e))
not_given (Err DecodeError.InvalidCode) none e = absurd (omega (arith, e))
not_given (Err DecodeError.Overflow) none e = absurd (omega (arith, e))
not_given (Err DecodeError.OutOfMemory) none e = absurd (omega (arith, e))
not_given (Err DecodeError.Refused) none e = absurd (omega (arith, e))

-- none was kept before
pub passed_all : {M : Type 0} {step : M → List ℕ → M} {before after : SinkState M} {old new : Feeding}
    {answer : Result Fed DecodeError} → old.is_kept ≡ false → before.refused ≡ false
    → PushesRows step before after old.rows new.rows answer → new.layout ≡ old.layout → PassesAll step before after old new answer
passed_all {M} {step} {before} {after} {old} {new} {answer} none unrefused pushes layout =
    let passes = pushes.passes in
    let each : ReadEach old passes.rows = read_each old passes.rows none passes.reads in
    let last : Feeding = feeding_after old each.given in
    let mid : pushes.mid ≡ last.rows = passes.last ∙ sym each.last in
    record {
      given = each.given;
      each = each.each;
      wide = each.wide;
      meaning = passes.meaning ∙ ap (meaning_after step before.meaning) (sym each.rows);
      layout = (layout, each.layout);
      columns = ap (λ (s : DecodeSettings). s.columns) pushes.settings;
      ends = elim pushes.ends [
        | inl end ↦ inl (record {
          flag = end.flag ∙ unrefused;
          turns = turned last.is_kept last.rows new.rows answer each.none_kept
              (subst (λ (r : RowsFed). FeedsRow r new.rows answer) mid end.call);
          no_row = no_row_is answer end.no_row;
        })
        | inr end ↦ inr (record {
          flag = end.flag;
          turns = turned last.is_kept last.rows new.rows (Ok Fed.Row) each.none_kept
              (subst (λ (r : RowsFed). FeedsRow r new.rows (Ok Fed.Row)) mid end.call);
          row = end.row;
        })
      ];
    }

returned : (kept : Bool) (rows : RowsFed) → kept ≡ true → TurnsToFed kept rows rows (Ok Fed.Row)
returned kept rows is = subst (λ (k : Bool). TurnsToFed k rows rows (Ok Fed.Row)) (sym is) (refl, refl)

-- one was, and the sink takes it
pub passed_kept : {M : Type 0} {step : M → List ℕ → M} {before mid after : SinkState M} {old first new : Feeding}
    {answer : Result Fed DecodeError} → old.is_kept ≡ true → first.rows ≡ old.rows → first.is_kept ≡ false
    → first.layout ≡ old.layout → length old.rows.ctx.held.reference ≡ columns_of old
    → mid.meaning ≡ step before.meaning (changes old.rows.ctx.held.reference)
    → PassesAll step mid after first new answer → PassesAll step before after old new answer
passed_kept {M} {step} {before} {mid} {after} {old} {first} {new} {answer} kept same none layout wide means more =
    let columns : columns_of first ≡ columns_of old = ap (λ (r : RowsFed). r.ctx.held.settings.columns) same in
    let row : first.rows.ctx.held.reference ≡ old.rows.ctx.held.reference = ap (λ (r : RowsFed). r.ctx.held.reference) same in
    record {
      given = first ∷ more.given;
      each = (
        record {
          answer = Ok Fed.Row;
          turns = subst (λ (r : RowsFed). TurnsToFed old.is_kept old.rows r (Ok Fed.Row)) (sym same)
              (returned old.is_kept old.rows kept);
          status_is = inl refl;
          kept = λ e. absurd cc;
          refused = λ e. absurd (omega (arith, e));
          layout = layout;
        },
        more.each,
      );
      wide = wide_more (columns_of old) first.rows.ctx.held.reference (rows_given more.given) (ap length row ∙ wide)
          (subst (λ (n : ℕ). HaveWidth n (rows_given more.given)) columns more.wide);
      meaning = more.meaning ∙ ap (λ (m : M). meaning_after step m (rows_given more.given))
          (means ∙ ap (λ (r : Row). step before.meaning (changes r)) (sym row));
      layout = (more.layout.0 ∙ layout, more.layout.1 ∙ layout);
      columns = more.columns ∙ columns;
      ends = more.ends;
    }

-- ---- What a call leaves
module _ {M : Type 0} {step : M → List ℕ → M} {start final : SinkState M} {old new : Feeding} {answer : Result Fed DecodeError}
    (AreWritten : Feeding → List Row → List ℕ → List ℕ → Type 0) (need : Feeding → List Row → ℕ)
    (passes : PassesAll step start final old new answer) (left : Feeding) (rows : left.rows ≡ new.rows)
    (flag : left.is_kept ≡ final.refused) (layout : left.layout ≡ new.layout) where
  abbrev last : Feeding
  last = feeding_after old passes.given

  layout_is : left.layout ≡ last.layout
  layout_is = layout ∙ passes.layout.0 ∙ sym passes.layout.1

  gives_none : ComesToNone final.refused last new answer → GivesFed last left (status_of_fed answer)
  gives_none end = record {
    answer = answer;
    turns = subst (λ (r : RowsFed). TurnsToFed last.is_kept last.rows r answer) (sym rows) end.turns;
    status_is = inl refl;
    kept = λ e. let never = sym e ∙ flag ∙ end.flag in absurd cc;
    refused = λ e. absurd (not_refused answer e);
    layout = layout_is;
  }

  gives_refused : RefusesOne final.refused final.refuses last new → GivesFed last left REFUSED
  gives_refused end = record {
    answer = Ok Fed.Row;
    turns = subst (λ (r : RowsFed). TurnsToFed last.is_kept last.rows r (Ok Fed.Row)) (sym rows) end.turns;
    status_is = inr (refl, refl);
    kept = λ _. refl;
    refused = λ _. flag ∙ end.flag;
    layout = layout_is;
  }

  status_kept : (count : ℕ) → (status_after answer count true ≡ OK → 0 < count)
      × (status_after answer count true ≡ REFUSED → count ≡ 0)
  status_kept zero = (λ e. absurd (omega (arith, e)), λ _. refl)
  status_kept (suc count) = (λ _. omega arith, λ e. absurd (omega (arith, e)))

  kept_ends : (count : ℕ) → status_after answer count true ≢ OK → status_after answer count true ≡ REFUSED
  kept_ends zero other = refl
  kept_ends (suc count) other = absurd (other refl)

  pub gives_rows : (before after : List ℕ) (count status : ℕ) → count ≡ length passes.given
      → AreWritten old (rows_given passes.given) before after
      → (final.refused ≡ true → final.refuses (changes new.rows.ctx.held.reference)
      → length after < need left (rows_given passes.given))
      → status ≡ status_after answer count left.is_kept → GivesRows AreWritten need old left before after count status
  gives_rows before after count status many written room reported = elim passes.ends [
    | inl end ↦
        let status_is : status ≡ status_of_fed answer =
        reported ∙ ap (status_after answer count) (flag ∙ end.flag) in
        record {
          given = passes.given;
          each = passes.each;
          count_is = many;
          written = written;
          some = λ e. absurd (not_given answer end.no_row (sym status_is ∙ e));
          none = λ e. absurd (not_refused answer (sym status_is ∙ e));
          kept = λ e. elim e [
            | inl ok ↦ absurd (not_given answer end.no_row (sym status_is ∙ ok))
            | inr few ↦ absurd (not_refused answer (sym status_is ∙ few))
          ];
          ends = λ _. subst (GivesFed last left) (sym status_is) (gives_none end);
        }
    | inr end ↦
        let status_is : status ≡ status_after answer count true =
        reported ∙ ap (status_after answer count) (flag ∙ end.flag) in
        record {
          given = passes.given;
          each = passes.each;
          count_is = many;
          written = written;
          some = λ e. (status_kept count).0 (sym status_is ∙ e);
          none = λ e. (status_kept count).1 (sym status_is ∙ e);
          kept = λ _. record { gives = gives_refused end; room = room end.flag end.row };
          ends = λ other. subst (GivesFed last left)
              (sym (status_is ∙ kept_ends count (λ e. other (status_is ∙ e)))) (gives_refused end);
        }
  ]

-- ---- A row that was read and is kept

-- the answer of a row
pub row_fed : (answer : Result Fed DecodeError) → is_fed_row answer ≡ true → answer ≡ Ok Fed.Row
row_fed (Ok Fed.Row) is = refl
row_fed (Ok Fed.NeedsMore) is = absurd cc
row_fed (Ok Fed.End) is = absurd cc
row_fed (Err error) is = absurd cc

-- the settings stay
same_settings : (kept : Bool) (old mid : RowsFed) (answer : Result Fed DecodeError) → TurnsToFed kept old mid answer
    → mid.ctx.held.settings ≡ old.ctx.held.settings
same_settings true old mid answer turns = ap (λ (r : RowsFed). r.ctx.held.settings) turns.0
same_settings false old mid answer turns = turns.counts.settings

-- as wide
pub turned_columns : (old mid : Feeding) (answer : Result Fed DecodeError) → TurnsToFed old.is_kept old.rows mid.rows answer
    → columns_of mid ≡ columns_of old
turned_columns old mid answer turns =
    ap (λ (s : DecodeSettings). s.columns) (same_settings old.is_kept old.rows mid.rows answer turns)

-- nothing is read where a row is kept
none_read : (kept : Bool) (rows next : RowsFed) (answer : Result Fed DecodeError) → kept ≡ true → TurnsToFed kept rows next answer
    → (next ≡ rows) × (answer ≡ Ok Fed.Row)
none_read kept rows next answer is turns = subst (λ (k : Bool). TurnsToFed k rows next answer) is turns

-- a row that was read and is kept is returned as by a call that reads it
pub kept_from : (old : Feeding) (kept : Bool) (rows : RowsFed) → TurnsToFed old.is_kept old.rows rows (Ok Fed.Row) → kept ≡ true
    → (next : RowsFed) (answer : Result Fed DecodeError) → TurnsToFed kept rows next answer
    → TurnsToFed old.is_kept old.rows next answer
kept_from old kept rows came is next answer turns =
    let none = none_read kept rows next answer is turns in
    subst (λ (r : RowsFed). TurnsToFed old.is_kept old.rows r answer) (sym none.0)
    (subst (TurnsToFed old.is_kept old.rows rows) (sym none.1) came)

-- what a call leaves after a step that reads no row, or keeps the one that is read, is what it leaves with that step
module _ (old mid : Feeding) (layout : mid.layout ≡ old.layout)
    (turns_from : (next : RowsFed) (answer : Result Fed DecodeError) → TurnsToFed mid.is_kept mid.rows next answer
    → TurnsToFed old.is_kept old.rows next answer) where
  given_from : {new : Feeding} {status : ℕ} → GivesFed mid new status → GivesFed old new status
  given_from {new} {status} gives = record {
    answer = gives.answer;
    turns = turns_from new.rows gives.answer gives.turns;
    status_is = gives.status_is;
    kept = gives.kept;
    refused = gives.refused;
    layout = gives.layout ∙ layout;
  }

  each_from : (given : List Feeding) → GivesEach mid given → GivesEach old given
  each_from [] each = tt
  each_from (next ∷ more) each = (given_from each.0, each.1)

  last_from : (given : List Feeding) {new : Feeding} {status : ℕ} → GivesFed (feeding_after mid given) new status
      → GivesFed (feeding_after old given) new status
  last_from [] gives = given_from gives
  last_from (next ∷ more) gives = gives

  -- so are all rows with it
  pub gives_from : (AreWritten : Feeding → List Row → List ℕ → List ℕ → Type 0) (need : Feeding → List Row → ℕ) {new : Feeding}
      {before after : List ℕ} {count status : ℕ}
      → ((rows : List Row) → AreWritten mid rows before after → AreWritten old rows before after)
      → GivesRows AreWritten need mid new before after count status → GivesRows AreWritten need old new before after count status
  gives_from AreWritten need same gives = record {
    given = gives.given;
    each = each_from gives.given gives.each;
    count_is = gives.count_is;
    written = same (rows_given gives.given) gives.written;
    some = gives.some;
    none = gives.none;
    kept = λ e. let row = gives.kept e in record { gives = last_from gives.given row.gives; room = row.room };
    ends = λ e. last_from gives.given (gives.ends e);
  }

-- no row is given where none is known
pub gives_no_row : (AreWritten : Feeding → List Row → List ℕ → List ℕ → Type 0) (need : Feeding → List Row → ℕ)
    (old new : Feeding) (answer : Result Fed DecodeError) {memory : List ℕ} {status : ℕ} → AreWritten old [] memory memory
    → TurnsToFed old.is_kept old.rows new.rows answer → is_fed_row answer ≡ false → new.is_kept ≡ false
    → new.layout ≡ old.layout → status ≡ status_of_fed answer → GivesRows AreWritten need old new memory memory 0 status
gives_no_row AreWritten need old new answer {memory} {status} written turns none unkept layout is = record {
  given = [];
  each = tt;
  count_is = refl;
  written = written;
  some = λ e. absurd (not_given answer none (sym is ∙ e));
  none = λ e. refl;
  kept = λ e. elim e [
    | inl ok ↦ absurd (not_given answer none (sym is ∙ ok))
    | inr few ↦ absurd (not_refused answer (sym is ∙ few))
  ];
  ends = λ _. record {
    answer = answer;
    turns = turns;
    status_is = inl is;
    kept = λ e. absurd cc;
    refused = λ e. absurd (not_refused answer (sym is ∙ e));
    layout = layout;
  };
}
