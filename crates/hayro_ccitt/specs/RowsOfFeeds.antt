-- The rows that a call passes to a sink, of data that comes in pieces.
use Rattle.std.specs.Prelude.{◌≡◌, ◌≢◌, ◌≤◌, ◌<◌, ◌+◌, ℕ, Bool, false, List, [], drop, get_or, length, take}
use Rattle.std.specs.Prelude.{None, Result, Ok, Err, IfErr}
use Rattle.fax_bits.specs.declared.error.DecodeError.{DecodeError}
use Rattle.fax_bits.specs.declared.error.DecodeError.TheVariants.{Refused}
use Rattle.fax_feeds.specs.declared.row_feed.Fed.{Fed}
use Rattle.hayro_ccitt.specs.Answers.{IsFault, meaning_after}
use Rattle.hayro_ccitt.specs.Bits.{Bits}
use Rattle.hayro_ccitt.specs.Decoding.{SinkState}
use Rattle.hayro_ccitt.specs.PlainReading.{plain}
use Rattle.fax_feeds.specs.RowFeeds.{Feeding, IsFeedOf, IsOpenAt, PushesRows, fed_bits, offset_of}
use Rattle.hayro_ccitt.specs.Rows.{Row, changes}
use Rattle.fax_rows.specs.RowsRead.{HasEnded, HasFailed, ended}

-- the rows of the plain reading of some data, by the settings of a feed
abbrev pub rows_of : Feeding → Bits → List Row
rows_of feed whole = (plain feed.ctx.held.settings whole).rows

-- Of some data the next rows of the plain reading were passed to a sink of this step, so many.
pub record PassesNextRows {M : Type 0} (whole : Bits) (step : M → List ℕ → M) (before after : SinkState M) (old new : Feeding)
    (answer : Result Fed DecodeError) : Type 0 where
  pub passed : ℕ
  pub within : 0 < passed → old.ctx.held.taken + passed ≤ length (rows_of old whole)
  pub meaning : after.meaning
      ≡ meaning_after step before.meaning (take passed (drop old.ctx.held.taken (rows_of old whole)))
  pub taken : answer ≢ Err Refused → new.ctx.held.taken ≡ old.ctx.held.taken + passed
  -- the sink refused the row after them
  pub refused : answer ≡ Err Refused → (new.ctx.held.taken ≡ old.ctx.held.taken + passed + 1)
      × (new.ctx.held.taken ≤ length (rows_of old whole))
      × after.refuses (changes (get_or (rows_of old whole) (old.ctx.held.taken + passed) []))
  -- what is next can be changed by data that follows
  pub waits : answer ≡ Ok Fed.NeedsMore
      → (new.finished ≡ false) × IsOpenAt new.begun new.rows.stand new.ctx (drop (offset_of new) (take (fed_bits new) whole))
  -- there are no more rows
  pub end : answer ≡ Ok Fed.End → HasEnded old.ctx.held.settings whole new.ctx.held.taken (offset_of new)
  -- the plain reading has this fault after them, and the reading is where it fails
  pub fault : IfErr answer (λ e. IsFault e
      → HasFailed old.ctx.held.settings whole new.ctx.held.taken (offset_of new) e)
  -- it is a reading of that data still
  pub tried : ℕ
  pub stands : IsFeedOf whole tried new

-- ---- The law

-- what a sink means, whether it has refused a row, and which it refuses
abbrev pub sink_state : {S M : Type 0} → (S → M) → (S → Bool) → (S → List ℕ → Type 0) → S → SinkState M
sink_state meaning has_refused refuses sink = record {
  meaning = meaning sink;
  refused = has_refused sink;
  refuses = refuses sink;
}

-- Whatever a call of many rows passes to a sink is, of any data of which the bytes fed so far are a beginning, what the plain
-- reading has next, in whatever pieces the bytes came.
abbrev pub PassesPlainRows : {S M : Type 0} → (S → M) → (S → Bool) → (S → List ℕ → Type 0) → Type 0
PassesPlainRows {S} {M} meaning has_refused refuses = (whole : Bits) (tried : ℕ) (step : M → List ℕ → M) (before after : S)
    (old new : Feeding) (answer : Result Fed DecodeError) → ended old.rows.stand ≡ None → IsFeedOf whole tried old
    → PushesRows step (sink_state meaning has_refused refuses before) (sink_state meaning has_refused refuses after)
    old new answer
    → PassesNextRows whole step (sink_state meaning has_refused refuses before) (sink_state meaning has_refused refuses after)
    old new answer
