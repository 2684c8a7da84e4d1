-- Rows that C reads from data in pieces.
use Rattle.std.specs.Prelude.{◌≡◌, ◌≢◌, ◌<◌, ◌⊎◌, ◌↔◌, ◌+◌, ◌*◌, ◌^◌, ◌-◌, ℕ, Bool, true, false, List, [], length, take, drop}
use Rattle.std.specs.Prelude.{Result, Ok, Err, None}
use Rattle.hayro_ccitt.specs.BitOrder.{BitOrder}
use Rattle.hayro_ccitt.specs.DecodeError.{DecodeError}
use Rattle.hayro_ccitt.specs.DecodeSettings.{DecodeSettings}
use Rattle.hayro_ccitt.specs.Bits.{AreWholeBytes, Bits, bits_in}
use Rattle.hayro_ccitt.specs.RowFeeds.{Feeding as RowsFed, ComeNext, FeedsRow, HoldsMore, IsFeedOf, completed}
use Rattle.hayro_ccitt.specs.RowFeeds.{keeps_unused, unused, unused_size}
use Rattle.hayro_ccitt.specs.RowsRead.{ended}
use Rattle.hayro_ccitt.specs.Fed.{Fed}
use Rattle.hayro_ccitt.specs.Fed.TheVariants.{Row, NeedsMore, End}
use Rattle.c_rows.specs.RowsGiven.{status_of_row}
use Rattle.c_rows.specs.declared.feeding.Feeding.{Feeding}
use Rattle.c_rows.specs.declared.packed_rows.Layout.{Layout}
use Rattle.c_rows.specs.declared.status.TheConstants.{OK, OVERFLOW, OUT_OF_MEMORY, REFUSED, NOT_TAKEN, NO_ROW, NEEDS_MORE}

-- whether there was a row
abbrev pub is_fed_row : Result Fed DecodeError → Bool
is_fed_row (Ok Row) = true
is_fed_row (Ok NeedsMore) = false
is_fed_row (Ok End) = false
is_fed_row (Err error) = false

-- the status of a result
abbrev pub status_of_fed : Result Fed DecodeError → ℕ
status_of_fed (Ok Row) = OK
status_of_fed (Ok NeedsMore) = NEEDS_MORE
status_of_fed (Ok End) = NO_ROW
status_of_fed (Err error) = status_of_row (Err error)

-- What a call that reads the next row leaves; but if the last row is still to be returned nothing is read.
abbrev pub TurnsToFed : Bool → RowsFed → RowsFed → Result Fed DecodeError → Type 0
TurnsToFed true old new answer = (new ≡ old) × (answer ≡ Ok Row)
TurnsToFed false old new answer = FeedsRow old new answer

-- What a call leaves that returns the next row: a row that there is no room for is kept, and returned by the next call.
pub record GivesFed (old new : Feeding) (status : ℕ) : Type 0 where
  pub answer : Result Fed DecodeError
  pub turns : TurnsToFed old.is_kept old.rows new.rows answer
  pub status_is : (status ≡ status_of_fed answer) ⊎ ((status ≡ REFUSED) × (answer ≡ Ok Row))
  pub kept : (new.is_kept ≡ true) → status ≡ REFUSED
  pub refused : status ≡ REFUSED → new.is_kept ≡ true
  pub layout : new.layout ≡ old.layout

-- A reading by these settings of whatever data C will pass, before the first byte, whose packed rows have this layout.
pub record IsFeedOpened (settings : DecodeSettings) (order : BitOrder) (layout : Layout) (opened : Feeding) : Type 0 where
  pub reading : (whole : Bits) → AreWholeBytes whole → length whole + 64 < 2 ^ 64 → IsFeedOf whole 0 opened.rows
  pub settings_are : opened.rows.ctx.held.settings ≡ settings
  pub order_is : opened.rows.order ≡ order
  pub none_fed : (opened.rows.kept ≡ []) × (opened.rows.dropped ≡ 0) × (opened.rows.finished ≡ false)
  pub none_read : (opened.rows.ctx.held.taken ≡ 0) × (opened.rows.begun ≡ false)
  pub none_kept : opened.is_kept ≡ false
  pub layout_is : opened.layout ≡ layout

-- The bits of these bytes are fed. Nothing else changes, but that bytes that were read may be dropped.
pub record IsFed (next : Bits) (old new : RowsFed) : Type 0 where
  pub reading : (whole : Bits) (tried : ℕ) → IsFeedOf whole tried old → ComeNext whole old next → IsFeedOf whole tried new
  pub holds : HoldsMore next old new
  pub same : (new.ctx ≡ old.ctx) × (new.rows ≡ old.rows) × (new.order ≡ old.order) × (new.finished ≡ old.finished)

-- The same of no bytes: the reading is the same.
pub record IsUnfed (old new : RowsFed) : Type 0 where
  pub reading : (whole : Bits) (tried : ℕ) → IsFeedOf whole tried old → IsFeedOf whole tried new
  pub holds : HoldsMore [] old new
  pub same : (new.ctx ≡ old.ctx) × (new.rows ≡ old.rows) × (new.order ≡ old.order) × (new.finished ≡ old.finished)

-- What a call leaves that is passed the bytes that come next: they are fed, or none of them is, since an allocation failed, all
-- data would have more than 2^61 - 9 bytes, or it is finished.
pub record TakesBytes (input : List ℕ) (old new : Feeding) (status : ℕ) : Type 0 where
  pub statuses : (status ≡ OK) ⊎ (status ≡ OVERFLOW) ⊎ (status ≡ OUT_OF_MEMORY) ⊎ (status ≡ NOT_TAKEN)
  pub fed : status ≡ OK → IsFed (bits_in old.rows.order input) old.rows new.rows
  pub unfed : (status ≡ OVERFLOW) ⊎ (status ≡ OUT_OF_MEMORY) → IsUnfed old.rows new.rows
  pub too_long : (status ≡ OVERFLOW) ↔ ((old.rows.finished ≡ false)
      × (2 ^ 64 - 72 < old.rows.dropped + length old.rows.kept + 8 * length input))
  pub untaken : (status ≡ NOT_TAKEN) ↔ (old.rows.finished ≡ true)
  pub unchanged : status ≡ NOT_TAKEN → new ≡ old
  pub kept : new.is_kept ≡ old.is_kept
  pub layout : new.layout ≡ old.layout

-- No bytes follow those that were fed.
pub record FinishesFeed (old new : Feeding) : Type 0 where
  pub reading : (whole : Bits) (tried : ℕ) → IsFeedOf whole tried old.rows
      → length whole ≡ old.rows.dropped + length old.rows.kept → IsFeedOf whole tried new.rows
  pub same : new ≡ record old { rows = record old.rows { finished = true } }

-- What a call leaves in the caller's memory to which the bytes are written that were fed and aren't consumed: these, of whatever
-- data those fed are a beginning; what follows them is unchanged. The count is theirs in any case. None are written where some
-- of them aren't kept, which is so only before the end of the image, or where there is no room for all of them.
pub record GivesUnused (feed : RowsFed) (before after : List ℕ) (count status : ℕ) : Type 0 where
  pub statuses : (status ≡ OK) ⊎ (status ≡ REFUSED) ⊎ (status ≡ NEEDS_MORE)
  pub size : 8 * count ≡ unused_size feed
  pub given : status ≡ OK → (whole : Bits) (tried : ℕ) → IsFeedOf whole tried feed
      → bits_in feed.order (take count after) ≡ unused (completed whole feed)
  pub rest : drop count after ≡ drop count before
  pub waits : (status ≡ NEEDS_MORE) ↔ (keeps_unused feed ≡ false)
  pub refused : (status ≡ REFUSED) ↔ ((keeps_unused feed ≡ true) × (length after < count))
  pub unended : status ≡ NEEDS_MORE → ended feed.rows.stand ≡ None
  pub unwritten : status ≢ OK → after ≡ before
