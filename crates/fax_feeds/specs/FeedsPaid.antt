-- What all calls of a feed count.
use Rattle.std.specs.Prelude.{◌≡◌, ◌≢◌, ◌≤◌, ◌+◌, ◌-◌, ◌*◌, ℕ, true, false, length}
use Rattle.std.specs.Prelude.{None, Result, Err}
use Rattle.fax_bits.specs.declared.error.DecodeError.{DecodeError}
use Rattle.fax_bits.specs.declared.error.DecodeError.TheVariants.{OutOfMemory}
use Rattle.fax_feeds.specs.declared.row_feed.Fed.{Fed}
use Rattle.fax_bits.specs.Bits.{Bits}
use Rattle.fax_feeds.specs.RowFeeds.{Feeding, FeedsNext, HoldsMore, IsFeedOf, KeepsBits, fed_bits, offset_of}
use Rattle.fax_reading.specs.Rows.{changes}
use Rattle.fax_rows.specs.RowsRead.{ended}

-- ---- auxiliary: what was called

-- how many changes the last row has
abbrev pub changes_of : Feeding → ℕ
changes_of feed = length (changes feed.ctx.held.reference)

-- what a call costs that fails for memory, beyond another call: for the changes of the row before, and the bits that were fed
-- from where the reading is
abbrev pub cost_of_failure : Feeding → ℕ
cost_of_failure feed = 3 * changes_of feed + 12 * (fed_bits feed - offset_of feed) + 6

-- What became of a feed of some data: bytes were fed, the data may have been finished, and so many calls read the next row. Those
-- that failed for memory cost so much more, and this much was counted for what was tried and left.
pub data IsHistory (whole : Bits) : ℕ → ℕ → ℕ → Feeding → Type 0 where
  opens : {feed : Feeding} → IsFeedOf whole 0 feed → feed.begun ≡ false → feed.looked ≡ 0 → feed.part ≡ None
      → IsHistory whole 0 0 0 feed
  feeds : {calls lost tried : ℕ} {old new : Feeding} (next : Bits) → IsHistory whole calls lost tried old
      → HoldsMore next old new → IsFeedOf whole tried new → IsHistory whole calls lost tried new
  finishes : {calls lost tried : ℕ} {old new : Feeding} → IsHistory whole calls lost tried old
      → new ≡ record old { finished = true } → IsFeedOf whole tried new → IsHistory whole calls lost tried new
  reads : {calls lost tried : ℕ} {old new : Feeding} {answer : Result Fed DecodeError}
      → IsHistory whole calls lost tried old → ended old.rows.stand ≡ None → KeepsBits old new
      → (next : FeedsNext whole tried old new answer) → answer ≢ Err OutOfMemory
      → IsHistory whole (calls + 1) lost (tried + next.plainly.extra) new
  fails : {calls lost tried : ℕ} {old new : Feeding}
      → IsHistory whole calls lost tried old → ended old.rows.stand ≡ None → KeepsBits old new
      → (next : FeedsNext whole tried old new (Err OutOfMemory))
      → IsHistory whole (calls + 1) (lost + cost_of_failure new) (tried + next.plainly.extra) new

-- ---- The law

-- In any history of a feed the count of work is at most 64 ticks a bit that was fed and 256, and 32 ticks for each call that
-- reads the next row, whatever pieces the data comes in. A call that fails for memory costs more: three ticks for each change of
-- the row before and twelve for each bit from the line on that is kept, and six.
abbrev pub FeedsArePaid : Type 0
FeedsArePaid = (calls lost tried : ℕ) (whole : Bits) (feed : Feeding) → IsHistory whole calls lost tried feed
    → IsFeedOf whole tried feed → feed.ctx.ticks ≤ 64 * length whole + 256 + 32 * calls + lost
