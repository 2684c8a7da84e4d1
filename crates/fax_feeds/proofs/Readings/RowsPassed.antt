-- Rows of data in pieces that are passed to a sink.
use Rattle.fax_feeds.proofs.Names.{common_steps}
use Rattle.fax_feeds.proofs.Names.{◌≡◌, ◌∙◌, ◌++◌, ◌∷◌, [], refl, sym, ap, subst, ℕ, List, Ok, Err, changes, meaning_after}
use Rattle.fax_feeds.proofs.Names.{◌+◌, ◌<◌, ◌≤◌, Bool, true, false, Result, DecodeError, arith}
use Rattle.std.specs.Prelude.{◌^◌}
use Rattle.fax_feeds.specs.RowFeeds.{CountsRow, Feeding, FeedsRow, FeedsRows, KeepsBits, PassesRows, ReadsInFeed, fed_row}
use Rattle.fax_feeds.proofs.Names.{DecodeSettings}
use Rattle.fax_feeds.specs.RowFeeds.{PushesRows, no_gap, last_left, rows_left}
use Rattle.fax_reading.specs.Decoding.{SinkState}
use Rattle.fax_bits.specs.declared.error.DecodeError.TheVariants.{Refused}
use Rattle.fax_feeds.specs.declared.row_feed.Fed.{Fed}
use Rattle.fax_feeds.specs.declared.counted_gaps.GapSoFar.{GapSoFar}
use Rattle.fax_feeds.specs.RowFeeds.{fed_without_row}
use Rattle.fax_feeds.proofs.Names.{Option, Some, None, false≢true, is_at_line}
use Rattle.fax_rows.specs.RowsTried.{IsUnread}
use Rattle.fax_rows.specs.declared.row_reader.RowState.{RowState}

pub line_was_read : (answer : Result Bool DecodeError) → fed_row answer ≡ Ok Fed.Row → answer ≡ Ok true
line_was_read (Ok true) e = refl
line_was_read (Ok false) e = absurd cc
line_was_read (Err error) e = absurd cc

pub line_was_left : (answer : Result Bool DecodeError) → fed_row answer ≡ Ok Fed.NeedsMore → answer ≡ Ok false
line_was_left (Ok true) e = absurd cc
line_was_left (Ok false) e = refl
line_was_left (Err error) e = absurd cc

pub line_was_needed : (line : Result (Option Bool) DecodeError) → fed_without_row line ≡ Ok Fed.NeedsMore → line ≡ Ok None
line_was_needed (Ok None) e = refl
line_was_needed (Ok (Some line)) e = absurd cc
line_was_needed (Err error) e = absurd cc

-- a row is counted whose line is read after a gap
pub counts_row : {old mid new : Feeding} (answer : Result Bool DecodeError)
    → mid.ctx.held.settings ≡ old.ctx.held.settings → mid.ctx.held.taken ≡ old.ctx.held.taken
    → mid.ctx.held.taken + 1 < 2 ^ 64 → (mid.gap.at_zeros ≡ false → mid.gap ≡ no_gap) → is_at_line mid.rows.stand ≡ true
    → ReadsInFeed mid new answer → CountsRow old new (fed_row answer)
counts_row answer settings taken room unlooked line reads = record {
  settings = reads.settings ∙ settings;
  taken = λ e.
      let now = reads.taken (line_was_read answer e) in (now ∙ ap (λ (n : ℕ). n + 1) taken, omega (arith, now, room));
  width = λ e. reads.width (line_was_read answer e) ∙ ap (λ (s : DecodeSettings). s.columns) settings;
  stands = λ e.
      let is = line_was_read answer e in
      (reads.begun, reads.after is, reads.done (λ left. let never = sym is ∙ left in absurd cc));
  unlooked = λ e more. reads.gap ∙ unlooked (ap (λ (g : GapSoFar). g.at_zeros) (sym reads.gap) ∙ more);
  few = λ e away.
      let same = (reads.left (subst IsUnread (sym (line_was_left answer e)) refl)).0 in
      absurd (false≢true (sym away ∙ ap (λ (r : RowState). is_at_line r.stand) same ∙ line));
}

-- after a gap
pub counts_on : {old mid new : Feeding} (answer : Result Fed DecodeError)
    → mid.ctx.held.settings ≡ old.ctx.held.settings → mid.ctx.held.taken ≡ old.ctx.held.taken → CountsRow mid new answer
    → CountsRow old new answer
counts_on answer settings taken counts = record {
  settings = counts.settings ∙ settings;
  taken = λ e. ((counts.taken e).0 ∙ ap (λ (n : ℕ). n + 1) taken, (counts.taken e).1);
  width = λ e. counts.width e ∙ ap (λ (s : DecodeSettings). s.columns) settings;
  stands = counts.stands;
  unlooked = counts.unlooked;
  few = counts.few;
}

-- some rows were read, and then others
all_read : (old : Feeding) (first then : List Feeding) → FeedsRows old first → FeedsRows (last_left old first) then
    → FeedsRows old (first ++ then)
all_read old [] then reads more = more
all_read old (next ∷ first) then reads more = (reads.0, all_read next first then reads.1 more)

all_last : (old : Feeding) (first then : List Feeding) → last_left old (first ++ then) ≡ last_left (last_left old first) then
all_last old [] then = refl
all_last old (next ∷ first) then = all_last next first then

all_means : {M : Type 0} (step : M → List ℕ → M) (before : M) (first then : List Feeding)
    → meaning_after step before (rows_left (first ++ then))
    ≡ meaning_after step (meaning_after step before (rows_left first)) (rows_left then)
all_means step before [] then = refl
all_means step before (next ∷ first) then = all_means step (step before (changes next.ctx.held.reference)) first then

-- no row was passed
pub passes_none : {M : Type 0} {step : M → List ℕ → M} {before after : M} {old : Feeding} → after ≡ before
    → PassesRows step before after old old
passes_none same = record { rows = []; reads = tt; last = refl; meaning = same }

pub keeps_all : {feed : Feeding} → KeepsBits feed feed
keeps_all = record { order = refl; finished = refl; kept = refl; dropped = refl; room = refl }

-- some were passed, and then others
pub passes_on : {M : Type 0} {step : M → List ℕ → M} {before mid after : M} {old last new : Feeding}
    → PassesRows step before mid old last → PassesRows step mid after last new → PassesRows step before after old new
passes_on {M} {step} {before} {mid} {after} {old} {last} {new} first then = record {
  rows = first.rows ++ then.rows;
  reads = all_read old first.rows then.rows first.reads (subst (λ (f : Feeding). FeedsRows f then.rows) first.last then.reads);
  last = then.last ∙ ap (λ (f : Feeding). last_left f then.rows) first.last ∙ sym (all_last old first.rows then.rows);
  meaning = then.meaning ∙ ap (λ (m : M). meaning_after step m (rows_left then.rows)) first.meaning
      ∙ sym (all_means step before first.rows then.rows);
}

-- one more was
pub passes_more : {M : Type 0} {step : M → List ℕ → M} {before mid after : M} {old last new : Feeding}
    → PassesRows step before mid old last → FeedsRow last new (Ok Fed.Row) → after ≡ step mid (changes new.ctx.held.reference)
    → PassesRows step before after old new
passes_more {new = new} passes call means =
    passes_on passes (record { rows = new ∷ []; reads = (call, tt); last = refl; meaning = means })

pub keeps_on : {old mid new : Feeding} → KeepsBits old mid → KeepsBits mid new → KeepsBits old new
keeps_on first then = grind (arith, common_steps)

module _ {M : Type 0} {step : M → List ℕ → M} {before after : SinkState M} {old mid new : Feeding}
    {answer : Result Fed DecodeError} (passes : PassesRows step before.meaning after.meaning old mid) (keeps : KeepsBits old mid)
    (settings : mid.ctx.held.settings ≡ old.ctx.held.settings) where
  -- the sink refuses the row that is next
  pub pushed_to_refusal : FeedsRow mid new (Ok Fed.Row) → answer ≡ Err Refused → after.refused ≡ true
      → after.refuses (changes new.ctx.held.reference) → PushesRows step before after old new answer
  pushed_to_refusal call is flag row = grind (arith, common_steps, keeps_on)

-- what is so after rows that were read
pub record GoesOn (old new : Feeding) : Type 0 where
  pub keeps : KeepsBits old new
  pub settings : new.ctx.held.settings ≡ old.ctx.held.settings
  pub more : old.ctx.held.taken ≤ new.ctx.held.taken

read_goes_on : (old : Feeding) (rows : List Feeding) → FeedsRows old rows → GoesOn old (last_left old rows)
read_goes_on old [] reads = record { keeps = keeps_all; settings = refl; more = omega arith }
read_goes_on old (next ∷ rows) reads =
    let then = read_goes_on next rows reads.1 in
    record {
      keeps = keeps_on reads.0.keeps then.keeps;
      settings = then.settings ∙ reads.0.counts.settings;
      more = omega (arith, then.more, (reads.0.counts.taken refl).0);
    }

pub passed_goes_on : {M : Type 0} {step : M → List ℕ → M} {before after : M} {old new : Feeding}
    → PassesRows step before after old new → GoesOn old new
passed_goes_on {old = old} passes = subst (GoesOn old) (sym passes.last) (read_goes_on old passes.rows passes.reads)

-- some were passed, and then others
pub then_pushed : {M : Type 0} {step : M → List ℕ → M} {before mid after : SinkState M} {old last new : Feeding}
    {answer : Result Fed DecodeError} → PassesRows step before.meaning mid.meaning old last → KeepsBits old last
    → last.ctx.held.settings ≡ old.ctx.held.settings → mid.refused ≡ before.refused
    → PushesRows step mid after last new answer → PushesRows step before after old new answer
then_pushed passes keeps settings flag pushes = record {
  mid = pushes.mid;
  passes = passes_on passes pushes.passes;
  ends = grind (arith, common_steps);
  keeps = keeps_on keeps pushes.keeps;
  settings = pushes.settings ∙ settings;
}
