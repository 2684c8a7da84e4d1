-- The rows that calls read one after another, of data in pieces, are those that the plain reading has next.
use Rattle.hayro_ccitt.proofs.Names.{common_steps}
use Rattle.hayro_ccitt.proofs.Names.{◌≡◌, ◌≢◌, ◌∙◌, ◌∷◌, [], refl, sym, ap, subst, ℕ, List, Ok, Err, meaning_after}
use Rattle.hayro_ccitt.proofs.Names.{◌+◌, ◌<◌, ◌≤◌, inl, inr, Result, None, DecodeError, DecodeSettings, arith, plain}
use Rattle.hayro_ccitt.proofs.Names.{Bits, SinkState, IsFault, HasEnded, HasFailed, OutOfMemory, Refused, ended}
use Rattle.hayro_ccitt.proofs.Names.{Row, drop, get_or, length, take}
use Rattle.hayro_ccitt.specs.Rows.{changes}
use Rattle.std.specs.Prelude.{Bool, IfErr}
use Rattle.std.proofs.lemmas.List.{drop_more}
use Rattle.fax_feeds.specs.RowFeeds.{ComesToNoRow, Feeding, FeedsNext, FeedsRows, IsFeedOf, RefusesRow, offset_of}
use Rattle.fax_feeds.specs.RowFeeds.{last_left, rows_left}
use Rattle.hayro_ccitt.specs.RowsOfFeeds.{PassesNextRows, PassesPlainRows, rows_of, sink_state}
use Rattle.fax_feeds.specs.declared.row_feed.Fed.{Fed}
use Rattle.fax_bits.proofs.ErrorKinds.{by_kind, fault_not_memory}

-- calls have read these rows, each one
record HaveRead (whole : Bits) (old last : Feeding) (rows : List Feeding) : Type 0 where
  pub tried : ℕ
  pub stands : IsFeedOf whole tried last
  pub unended : ended last.rows.stand ≡ None
  pub settings : last.ctx.held.settings ≡ old.ctx.held.settings
  pub taken : last.ctx.held.taken ≡ old.ctx.held.taken + length rows
  pub within : 0 < length rows → last.ctx.held.taken ≤ length (rows_of old whole)
  pub are : rows_left rows ≡ take (length rows) (drop old.ctx.held.taken (rows_of old whole))

-- the rows of the plain reading from the next one on are those of equal settings from an equal one on
same_rows : (whole : Bits) {s t : DecodeSettings} {m n : ℕ} (count : ℕ) → s ≡ t → m ≡ n
    → take count (drop m (plain s whole).rows) ≡ take count (drop n (plain t whole).rows)
same_rows whole {s} {t} {m} {n} count settings index = grind (arith, common_steps)

-- after the first row there are at least as many rows as were read
within_rows : (whole : Bits) (old : Feeding) {new last : Feeding} (rows : List Feeding) → HaveRead whole new last rows
    → new.ctx.held.settings ≡ old.ctx.held.settings → new.ctx.held.taken ≤ length (rows_of old whole)
    → last.ctx.held.taken ≤ length (rows_of old whole)
within_rows whole old [] rest settings within = omega (arith, rest.taken, within)
within_rows whole old {last = last} (row ∷ rows) rest settings within = grind (arith, common_steps)

have_read : (whole : Bits) (tried : ℕ) (old : Feeding) (rows : List Feeding) → ended old.rows.stand ≡ None
    → IsFeedOf whole tried old → FeedsRows old rows → HaveRead whole old (last_left old rows) rows
have_read whole tried old [] unended stands reads = grind (arith, common_steps)
have_read whole tried old (new ∷ rows) unended stands reads =
    let call = reads.0.reads whole tried unended stands in
    let next = call.plainly.row refl in
    let (more_come, more, within) = next.more refl in
    let rest = have_read whole (tried + call.plainly.extra) new rows more_come call.stands reads.1 in
    let plain_rows = rows_of old whole in
    let index : old.ctx.held.taken < length plain_rows = omega (arith, more, within) in
    record {
      tried = rest.tried;
      stands = rest.stands;
      unended = rest.unended;
      settings = rest.settings ∙ next.settings;
      taken = omega (arith, rest.taken, more);
      within = λ some. within_rows whole old rows rest next.settings within;
      are = grind (arith, common_steps, same_rows, drop_more, next.row refl);
    }

-- ---- A call that reads no row

-- where the reading is
there : (new : Feeding) → 0 + offset_of new ≡ offset_of new
there new = omega arith

module _ {whole : Bits} {tried : ℕ} {old new : Feeding} where
  failed : (e : DecodeError) → e ≢ OutOfMemory → FeedsNext whole tried old new (Err e)
      → (new.ctx.held.taken ≡ old.ctx.held.taken)
      × HasFailed old.ctx.held.settings whole new.ctx.held.taken (offset_of new) e
  failed e other next = let (over, taken, has) = (next.plainly.fault other).error in
      (taken, subst (λ (n : ℕ). HasFailed old.ctx.held.settings whole new.ctx.held.taken n e) (there new) has)

  never_refused : (answer : Result Fed DecodeError) → FeedsNext whole tried old new answer → answer ≢ Err Refused
  never_refused answer next is = grind (arith, common_steps, next.plainly)

  pub none_taken : (answer : Result Fed DecodeError) → answer ≢ Ok Fed.Row → FeedsNext whole tried old new answer
      → new.ctx.held.taken ≡ old.ctx.held.taken
  none_taken (Ok Fed.Row) no_row next = absurd (no_row refl)
  none_taken (Ok Fed.NeedsMore) no_row next = (next.plainly.none refl).taken
  none_taken (Ok Fed.End) no_row next = let (over, taken, has) = (next.plainly.end refl).end refl in taken
  none_taken (Err error) no_row next = by_kind (λ (e : DecodeError). FeedsNext whole tried old new (Err e)
      → new.ctx.held.taken ≡ old.ctx.held.taken) (λ e fault next. (failed e (fault_not_memory e fault) next).0)
      (λ next. (next.plainly.none refl).taken) (λ next. (failed Refused (λ e. cc) next).0) error next

  has_ended : (answer : Result Fed DecodeError) → FeedsNext whole tried old new answer → answer ≡ Ok Fed.End
      → HasEnded old.ctx.held.settings whole new.ctx.held.taken (offset_of new)
  has_ended answer next is = let (over, taken, has) = (next.plainly.end is).end refl in
      subst (HasEnded old.ctx.held.settings whole new.ctx.held.taken) (there new) has

  has_failed : (answer : Result Fed DecodeError) → FeedsNext whole tried old new answer
      → IfErr answer (λ e. IsFault e
      → HasFailed old.ctx.held.settings whole new.ctx.held.taken (offset_of new) e)
  has_failed (Ok fed) next = tt
  has_failed (Err e) next = λ fault. (failed e (fault_not_memory e fault) next).1

-- a refusal is no fault
refusal_is_no_fault : (P : DecodeError → Type 0) (answer : Result Fed DecodeError) → answer ≡ Err Refused
    → IfErr answer (λ e. IsFault e → P e)
refusal_is_no_fault P answer is = grind (arith, common_steps)

-- ---- All of them

module _ {M : Type 0} (whole : Bits) (step : M → List ℕ → M) (before after : SinkState M) {old mid : Feeding} (new : Feeding)
    (rows : List Feeding) (read : HaveRead whole old mid rows)
    (means : after.meaning ≡ meaning_after step before.meaning (rows_left rows)) where
  passed_rows : after.meaning
      ≡ meaning_after step before.meaning (take (length rows) (drop old.ctx.held.taken (rows_of old whole)))
  passed_rows = means ∙ ap (meaning_after step before.meaning) read.are

  -- then a call read none
  passed_to_end : (answer : Result Fed DecodeError) → ComesToNoRow before after mid new answer
      → PassesNextRows whole step before after old new answer
  passed_to_end answer ends =
      let next = ends.call.reads whole read.tried read.unended read.stands in
      record {
        passed = length rows;
        within = λ some. omega (arith, read.taken, read.within some);
        meaning = passed_rows;
        taken = λ other. none_taken answer ends.no_row next ∙ read.taken;
        refused = λ is. absurd (never_refused answer next is);
        waits = next.plainly.unsettled;
        end = λ is. subst (λ (s : DecodeSettings). HasEnded s whole new.ctx.held.taken (offset_of new))
            read.settings (has_ended answer next is);
        fault = subst (λ (s : DecodeSettings). IfErr answer (λ e. IsFault e
            → HasFailed s whole new.ctx.held.taken (offset_of new) e)) read.settings (has_failed answer next);
        tried = read.tried + next.plainly.extra;
        stands = next.stands;
      }

  -- or the sink refused the row that is next
  passed_to_refusal : (answer : Result Fed DecodeError) → RefusesRow after mid new answer
      → PassesNextRows whole step before after old new answer
  passed_to_refusal answer ends =
      let next = ends.call.reads whole read.tried read.unended read.stands in
      let came = next.plainly.row refl in
      let more = came.more refl in
      let row_is = came.row refl
      ∙ ap (λ (s : DecodeSettings). get_or (plain s whole).rows mid.ctx.held.taken []) read.settings
      ∙ ap (λ (n : ℕ). get_or (rows_of old whole) n []) read.taken in
      record {
        passed = length rows;
        within = λ some. omega (arith, read.taken, read.within some);
        meaning = passed_rows;
        taken = λ other. absurd (other ends.answer_is);
        refused = λ is. (
          omega (arith, more.1, read.taken),
          subst (λ (s : DecodeSettings). new.ctx.held.taken ≤ length (plain s whole).rows) read.settings more.2,
          subst (λ (r : Row). after.refuses (changes r)) row_is ends.row,
        );
        waits = λ is. let never = sym ends.answer_is ∙ is in absurd cc;
        end = λ is. let never = sym ends.answer_is ∙ is in absurd cc;
        fault = refusal_is_no_fault _ answer ends.answer_is;
        tried = read.tried + next.plainly.extra;
        stands = next.stands;
      }

pub passes_plain_rows : {S M : Type 0} (meaning : S → M) (has_refused : S → Bool) (refuses : S → List ℕ → Type 0)
    → PassesPlainRows meaning has_refused refuses
passes_plain_rows m h r whole tried step first last old new answer unended stands pushes =
    let before = sink_state m h r first in
    let after = sink_state m h r last in
    let rows = pushes.passes.rows in
    let read = subst (λ (f : Feeding). HaveRead whole old f rows) (sym pushes.passes.last)
    (have_read whole tried old rows unended stands pushes.passes.reads) in
    elim pushes.ends [
      | inl none ↦ passed_to_end whole step before after new rows read pushes.passes.meaning answer none
      | inr refused ↦ passed_to_refusal whole step before after new rows read pushes.passes.meaning answer refused
    ]
