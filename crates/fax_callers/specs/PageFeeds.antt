-- Pages that follow one another, in data that comes in pieces.
use Rattle.std.specs.Prelude.{◌≡◌, ◌≢◌, ℕ, ◌+◌, ◌-◌, ◌*◌, ◌/◌, ◌^◌, ◌<◌, ◌≤◌, ◌⊎◌, Bool, true, false, List, [], ◌++◌, drop}
use Rattle.std.specs.Prelude.{take, length, max, min, if◌then◌else◌}
use Rattle.std.specs.Prelude.{None, Some, Result, Ok, Err, IfErr, IfOk, OnErr, get_or}
use Rattle.hayro_ccitt.specs.BitOrder.{BitOrder}
use Rattle.hayro_ccitt.specs.DecodeError.{DecodeError}
use Rattle.hayro_ccitt.specs.DecodeError.TheVariants.{OutOfMemory}
use Rattle.hayro_ccitt.specs.DecodeSettings.{DecodeSettings}
use Rattle.hayro_ccitt.specs.EncodingMode.TheVariants.{Group4}
use Rattle.hayro_ccitt.specs.Bits.{Bits, BitsFit, bits_in}
use Rattle.hayro_ccitt.specs.FeedsPaid.{IsHistory}
use Rattle.hayro_ccitt.specs.RowFeeds.{Feeding, IsFeedOf, completed, fed_bits, fed_over, offset_of}
use Rattle.hayro_ccitt.specs.Rows.{Row}
use Rattle.hayro_ccitt.specs.RowsRead.{ReadsNext, RowsRead, ended}
use Rattle.fax_callers.specs.Pages.{page_by, page_bytes}
use Rattle.fax_callers.specs.Readings.{reading_of}
use Rattle.fax_callers.specs.Rtc.{GoesOnAfter, none_seen, page_size}
use Rattle.fax_callers.specs.declared.page_feed.PageFed.{PageFed}
use Rattle.fax_callers.specs.declared.page_feed.PageFed.TheVariants.{NeedsMore, End, PageEnd}
use Rattle.fax_callers.specs.declared.page_feed.PageFed.TheVariants.{Row as OneRow}
use Rattle.fax_callers.specs.declared.page_feed.PageFeed.TheInside.{Inside}
use Rattle.fax_callers.specs.declared.rtc.EolsSeen.{EolsSeen}

-- ---- What is seen

-- the reading of the page that is next or under way, what was seen just before the bytes that it wasn't given yet, the order of
-- the bits, the bytes held, how many of them were given to that reading, how many it was given in all, and whether the data is
-- finished
pub record PageFeeding : Type 0 where
  pub page : Feeding
  pub seen : EolsSeen
  pub order : BitOrder
  pub held : List ℕ
  pub next : ℕ
  pub given : ℕ
  pub finished : Bool

abbrev pub page_feeding_of : Inside → PageFeeding
page_feeding_of f = record {
  page = f.page;
  seen = f.seen;
  order = f.order;
  held = f.held.items;
  next = f.next;
  given = f.given;
  finished = f.is_last;
}

-- the bytes given are among those held or before them, and are those that the reading was fed
pub record IsHeld (f : Inside) : Type 0 where
  pub within : f.next ≤ length f.held.items
  pub counted : fed_bits f.page ≡ 8 * f.given

-- the settings by which the pages are read
abbrev pub settings_of : PageFeeding → DecodeSettings
settings_of feed = feed.page.ctx.held.settings

-- how many bytes follow the start of the page up to the end of those fed
abbrev pub fed_from_start : PageFeeding → ℕ
fed_from_start feed = feed.given + (length feed.held - feed.next)

-- how many bytes of the page were read, the last one rounded up
abbrev pub bytes_read : PageFeeding → ℕ
bytes_read feed = (offset_of feed.page + 7) / 8

-- ---- Which data it is a reading of

-- It is a reading of the page that begins these bytes, of which it was given so many: whatever follows those, it is a reading of
-- them. It is finished once it was given all bytes that the page may occupy.
pub record IsPageReading (order : BitOrder) (bytes : List ℕ) (given : ℕ) (seen : EolsSeen) (page : Feeding) : Type 0 where
  pub fit : BitsFit bytes
  pub within : given ≤ length bytes
  pub order_is : page.order ≡ order
  pub counted : fed_bits page ≡ 8 * given
  pub reads : (rest : List ℕ) → (page.finished ≡ true → rest ≡ []) → BitsFit (take given bytes ++ rest)
      → (tried : ℕ) × IsFeedOf (bits_in order (take given bytes ++ rest)) tried page
  pub sought : page.finished ≡ false → GoesOnAfter page.ctx.held.settings.encoding order (take given bytes) seen
  pub found : page.finished ≡ true → given ≡ page_size page.ctx.held.settings.encoding order bytes
  pub has_memory : ended page.rows.stand ≢ Some (Err OutOfMemory)

-- It is a reading of the pages of this data, of which those bytes fed so far are a beginning, and all of them if the data is
-- finished. The page that is next or under way begins at this byte offset.
pub record IsPageFeedOf (whole : List ℕ) (start : ℕ) (feed : PageFeeding) : Type 0 where
  pub fit : BitsFit whole
  pub within : start ≤ length whole
  pub page : IsPageReading feed.order (drop start whole) feed.given feed.seen feed.page
  pub dropped : ℕ
  pub more : List ℕ
  pub bytes : drop dropped whole ≡ feed.held ++ more
  pub next : feed.next ≤ length feed.held
  pub place : start + feed.given ≡ dropped + feed.next
  pub none : feed.finished ≡ true → more ≡ []
  pub unread : (count : ℕ) → page_by (settings_of feed) feed.order whole start ≡ Ok count → dropped ≤ start + count

-- these bytes are those of the whole data that come next
abbrev pub BytesComeNext : List ℕ → ℕ → PageFeeding → List ℕ → Type 0
BytesComeNext whole start feed bytes = (rest : List ℕ) × (drop (start + fed_from_start feed) whole ≡ bytes ++ rest)

-- ---- What was called

-- The reading of the page that begins these bytes, of which it was given so many, has a history with this cost of calls that
-- failed for memory: no more calls than these, and one for each byte that it was given and for the end of its data.
pub record IsPaidPage (order : BitOrder) (bytes : List ℕ) (given calls lost : ℕ) (page : Feeding) : Type 0 where
  pub fit : BitsFit bytes
  pub within : given ≤ length bytes
  pub made : ℕ
  pub most : made ≤ calls + given + (if page.finished then 1 else 0)
  pub history : (rest : List ℕ) → (page.finished ≡ true → rest ≡ []) → BitsFit (take given bytes ++ rest)
      → (tried : ℕ) × IsHistory (bits_in order (take given bytes ++ rest)) made lost tried page
      × IsFeedOf (bits_in order (take given bytes ++ rest)) tried page

-- so has that of the page that is next or under way, and begins at this byte offset
abbrev pub IsPaidFrom : List ℕ → ℕ → ℕ → ℕ → PageFeeding → Type 0
IsPaidFrom whole start calls lost feed = IsPaidPage feed.order (drop start whole) feed.given calls lost feed.page

-- The page at this offset was given no more than twice as many bytes as it has, and 66, if it is one of Group 4 without a row
-- limit.
abbrev pub FewGiven : DecodeSettings → BitOrder → List ℕ → ℕ → ℕ → Type 0
FewGiven settings order whole start given = settings.encoding ≡ Group4 → settings.rows ≡ 0 → (size : ℕ) → 0 < size
    → page_by settings order whole start ≡ Ok size → given ≤ 2 * size + 66

-- ---- What a call leaves

-- the page has a fault
abbrev pub HasFailed : PageFeeding → DecodeError → Type 0
HasFailed feed error = ended feed.page.rows.stand ≡ Some (Err error)

-- the bits that the page at an offset may occupy
abbrev pub page_bits : List ℕ → ℕ → PageFeeding → Bits
page_bits whole start feed = bits_in feed.order (page_bytes (settings_of feed) feed.order whole start)

-- what was read of these bits of a page
abbrev pub read_over : Bits → Feeding → RowsRead
read_over bits page = fed_over bits (completed bits page)

-- no row was read, and no page ended
abbrev pub HasNoRow : Result PageFed DecodeError → Type 0
HasNoRow (Ok OneRow) = ⊥
HasNoRow (Ok NeedsMore) = Unit {0}
HasNoRow (Ok PageEnd) = ⊥
HasNoRow (Ok End) = Unit {0}
HasNoRow (Err error) = error ≡ OutOfMemory

-- the rows so far and what is known of the last one are unchanged
pub record SameRows (old new : RowsRead) : Type 0 where
  pub settings : new.settings ≡ old.settings
  pub counts : old.ticks ≤ new.ticks
  pub taken : new.taken ≡ old.taken
  pub row : new.row ≡ old.row
  pub damage : new.damage ≡ old.damage
  pub cut : new.cut ≡ old.cut
  pub line_start : new.line_start ≡ old.line_start

-- The page has ended, after all of its rows, with some bytes. The next one begins at the byte after it, and none of its rows was
-- read.
pub record EndsPage (whole : List ℕ) (start : ℕ) (old new : PageFeeding) : Type 0 where
  pub count : ℕ
  pub some : 0 < count
  pub read : page_by (settings_of old) old.order whole start ≡ Ok count
  pub all : old.page.ctx.held.taken
      ≡ length (reading_of (settings_of old) old.order (page_bytes (settings_of old) old.order whole start)).rows
  pub next : IsPageFeedOf whole (start + count) new
  pub none_read : new.page.ctx.held.taken ≡ 0
  pub settings : settings_of new ≡ settings_of old

-- the data has ended, or no byte of the rest is read
abbrev pub NoPageIsLeft : List ℕ → ℕ → PageFeeding → Type 0
NoPageIsLeft whole start feed =
    ((feed.finished ≡ true) × (start ≡ length whole)) ⊎ (page_by (settings_of feed) feed.order whole start ≡ Ok 0)

-- What a call that reads the next row leaves, of whatever data those fed are a beginning: the next row of the page that begins at
-- this byte offset, its fault, or its end and the start of the next page.
pub record GivesNext (whole : List ℕ) (start : ℕ) (old new : PageFeeding) (answer : Result PageFed DecodeError) : Type 0 where
  pub row : answer ≡ Ok OneRow
      → ReadsNext (read_over (page_bits whole start old) old.page) (read_over (page_bits whole start old) new.page) (Ok true)
  pub page_end : answer ≡ Ok PageEnd → EndsPage whole start old new
  pub end : answer ≡ Ok End → NoPageIsLeft whole start old
  pub fault : IfErr answer (λ e. e ≢ OutOfMemory
      → ReadsNext (read_over (page_bits whole start old) old.page) (read_over (page_bits whole start old) new.page) (Err e))
  pub none : HasNoRow answer
      → SameRows (read_over (page_bits whole start old) old.page) (read_over (page_bits whole start old) new.page)
  pub stands : answer ≢ Ok PageEnd → IsPageFeedOf whole start new

-- The same of a page of these rows, which occupies this number of bytes from the offset on.
pub record GivesPage (whole : List ℕ) (start : ℕ) (rows : List Row) (count : ℕ) (old new : PageFeeding)
    (answer : Result PageFed DecodeError) : Type 0 where
  pub row : answer ≡ Ok OneRow → (old.page.ctx.held.taken < length rows)
      × (new.page.ctx.held.reference ≡ get_or rows old.page.ctx.held.taken [])
      × (new.page.ctx.held.taken ≡ old.page.ctx.held.taken + 1)
  pub page_end : answer ≡ Ok PageEnd → (old.page.ctx.held.taken ≡ length rows) × IsPageFeedOf whole (start + count) new
  pub not_end : answer ≢ Ok End
  pub only_memory : IfErr answer (λ e. e ≡ OutOfMemory)

-- ---- The steps of a call: not part of the trusted specification

-- the reading of the page goes on
pub record Stays (whole : List ℕ) (start : ℕ) (old new : PageFeeding) : Type 0 where
  pub is : IsPageFeedOf whole start new
  pub rows : SameRows (read_over (page_bits whole start old) old.page) (read_over (page_bits whole start old) new.page)
  pub order : new.order ≡ old.order
  pub finished : new.finished ≡ old.finished
  pub unended : ended old.page.rows.stand ≡ None → ended new.page.rows.stand ≡ None

-- what a call of the page's reading, which isn't finished, leaves that feeds it so many of the bytes that come next
pub record GivesPiece (order : BitOrder) (piece : List ℕ) (old_seen new_seen : EolsSeen) (old new : Feeding)
    (answer : Result ℕ DecodeError) : Type 0 where
  pub within : IfOk answer (λ n. (n ≤ length piece) × (fed_bits new ≡ fed_bits old + 8 * n)
      × ((0 < n) ⊎ (new.finished ≡ true)) × (fed_bits new < 2 ^ 64))
  pub kept : OnErr answer (fed_bits new ≡ fed_bits old)
  pub ctx : new.ctx ≡ old.ctx
  pub rows : new.rows ≡ old.rows
  pub given : (bytes rest : List ℕ) (given : ℕ) → IsPageReading order bytes given old_seen old
      → drop given bytes ≡ piece ++ rest → IfOk answer (λ n. IsPageReading order bytes (given + n) new_seen new)
  pub failed : (bytes rest : List ℕ) (given : ℕ) → IsPageReading order bytes given old_seen old
      → drop given bytes ≡ piece ++ rest → IfErr answer (λ e. (e ≡ OutOfMemory) × IsPageReading order bytes given new_seen new)
  pub paid : (bytes rest : List ℕ) (given calls lost : ℕ) → IsPageReading order bytes given old_seen old
      → drop given bytes ≡ piece ++ rest → IsPaidPage order bytes given (calls + 1) lost old
      → IfOk answer (λ n. IsPaidPage order bytes (given + n) calls lost new)
  pub unpaid : (bytes : List ℕ) (given calls lost : ℕ) → IsPaidPage order bytes given calls lost old
      → OnErr answer (IsPaidPage order bytes given calls lost new)

-- how many times it can be given bytes or finished, at most
abbrev pub left_to_give : PageFeeding → ℕ
left_to_give feed = (length feed.held - feed.next) + (if feed.page.finished then 0 else 1)

-- what a call leaves that gives the reading of the page the bytes that come next, or finishes it, if there was anything to give
pub record GivesOn (old new : PageFeeding) (answer : Result Bool DecodeError) : Type 0 where
  pub stays : (whole : List ℕ) (start : ℕ) → IsPageFeedOf whole start old → Stays whole start old new
  pub only_memory : (whole : List ℕ) (start : ℕ) → IsPageFeedOf whole start old → IfErr answer (λ e. e ≡ OutOfMemory)
  pub order : new.order ≡ old.order
  pub finished : new.finished ≡ old.finished
  pub none : answer ≡ Ok false → (old.page.finished ≡ true) ⊎ (old.finished ≡ false)
  pub smaller : answer ≡ Ok true → left_to_give new < left_to_give old
  pub paid : (whole : List ℕ) (start calls lost : ℕ) → answer ≡ Ok true → IsPageFeedOf whole start old
      → IsPaidFrom whole start (calls + 1) lost old → IsPaidFrom whole start calls lost new
  pub few : new.given ≤ old.given + max 64 (min old.given 4096)
  pub unpaid : (whole : List ℕ) (start calls lost : ℕ) → answer ≢ Ok true → IsPaidFrom whole start calls lost old
      → IsPaidFrom whole start calls lost new

-- where a page's reading has ended, what a call leaves that begins the next one
pub record EndsPageHere (old new : PageFeeding) (answer : Result PageFed DecodeError) : Type 0 where
  pub order : new.order ≡ old.order
  pub finished : new.finished ≡ old.finished
  pub end : answer ≡ Ok End → (new ≡ old) × (bytes_read old ≡ 0)
  pub failed : IfErr answer (λ e. (e ≡ OutOfMemory) × (new ≡ old))
  pub some : answer ≡ Ok PageEnd → 0 < bytes_read old
  pub begins : answer ≡ Ok PageEnd → (bytes : List ℕ) → BitsFit bytes → IsPageReading old.order bytes 0 none_seen new.page
  pub paid : answer ≡ Ok PageEnd → (bytes : List ℕ) → BitsFit bytes → IsPaidPage old.order bytes 0 0 0 new.page
  pub none_read : answer ≡ Ok PageEnd → (settings_of new ≡ settings_of old) × (new.page.ctx.held.taken ≡ 0)
  pub back : answer ≡ Ok PageEnd → (new.held ≡ old.held) × (new.given ≡ 0) × (new.seen ≡ none_seen)
      × (new.next ≡ old.next - (old.given - bytes_read old))
  pub only : (answer ≢ Ok OneRow) × (answer ≢ Ok NeedsMore)

-- the bytes of the page aren't enough
pub record Waits (old new : PageFeeding) : Type 0 where
  pub held : new.held ≡ old.held
  pub next : new.next ≡ old.next
  pub given : new.given ≡ old.given
  pub reading : new.page.finished ≡ old.page.finished
  pub order : new.order ≡ old.order
  pub finished : new.finished ≡ old.finished
  pub unended : (whole : List ℕ) (start : ℕ) → IsPageFeedOf whole start old → ended new.page.rows.stand ≡ None
  pub unfinished : (whole : List ℕ) (start : ℕ) → IsPageFeedOf whole start old → new.page.finished ≡ false
  pub near : (whole : List ℕ) (start : ℕ) → IsPageFeedOf whole start old → (settings_of old).encoding ≡ Group4
      → (settings_of old).rows ≡ 0 → (size : ℕ) → 0 < size → page_by (settings_of old) old.order whole start ≡ Ok size
      → new.given ≤ size + 1

-- the first bytes held, which the page has read, are dropped
pub record DropsRead (old new : PageFeeding) : Type 0 where
  pub bytes : ℕ
  pub bytes_are : bytes ≡ old.next - (old.given - bytes_read old)
  pub frame : new ≡ record old { held = drop bytes old.held; next = old.next - bytes }
