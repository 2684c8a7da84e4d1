-- What all calls of a feed of pages count.
use Rattle.std.specs.Prelude.{◌≡◌, ◌≢◌, ◌<◌, ◌≤◌, ◌+◌, ◌-◌, ◌*◌, ◌/◌, ℕ, List, drop, Some, Result, Ok, Err}
use Rattle.hayro_ccitt.specs.DecodeError.{DecodeError}
use Rattle.hayro_ccitt.specs.DecodeError.TheVariants.{OutOfMemory}
use Rattle.hayro_ccitt.specs.EncodingMode.TheVariants.{Group4}
use Rattle.hayro_ccitt.specs.FeedsPaid.{cost_of_failure}
use Rattle.hayro_ccitt.specs.RowFeeds.{Feeding, offset_of}
use Rattle.hayro_ccitt.specs.RowsRead.{ended}
use Rattle.hayro_ccitt.specs.Settings.{AreSettings}
use Rattle.fax_callers.specs.PageFeeds.{FewGiven, IsPaidFrom, IsPaidPage, PageFeeding, fed_from_start, settings_of}
use Rattle.fax_callers.specs.Pages.{PagesStand, page_by}
use Rattle.fax_callers.specs.Rtc.{page_size}
use Rattle.fax_callers.specs.declared.page_feed.PageFed.{PageFed}
use Rattle.fax_callers.specs.declared.page_feed.PageFed.TheVariants.{PageEnd}

-- ---- auxiliary: what was called

-- how many bytes a page has that has ended, the last one filled up
abbrev pub ended_size : Feeding → ℕ
ended_size page = (offset_of page + 7) / 8

-- A page has ended whose reading was left like this, and was given so many bytes: no more than it may occupy, which are those up
-- to RTC in Group 3. The next one begins at the byte after it.
pub record EndsPaid (whole : List ℕ) (start : ℕ) (page : Feeding) (given : ℕ) (old new : PageFeeding) : Type 0 where
  pub is_over : ended page.rows.stand ≡ Some (Ok tt)
  pub size : page_by (settings_of old) old.order whole start ≡ Ok (ended_size page)
  pub some : 0 < ended_size page
  pub within : ended_size page ≤ given
  pub most : given ≤ page_size (settings_of old).encoding old.order (drop start whole)
  pub next : IsPaidFrom whole (start + ended_size page) 0 0 new
  pub none_given : new.given ≡ 0

-- What a call that reads the next row counts: how the reading of the page goes on, which was given so many bytes, and what it
-- costs more if it fails for memory. Where the page has ended, that reading is over, and the next one begins.
pub record PaysNext (whole : List ℕ) (start : ℕ) (old new : PageFeeding) (answer : Result PageFed DecodeError) : Type 0 where
  pub page : Feeding
  pub given : ℕ
  pub lost : ℕ
  pub counts : old.page.ctx.ticks ≤ page.ctx.ticks
  pub failed : lost ≤ cost_of_failure page
  pub unfailed : answer ≢ Err OutOfMemory → lost ≡ 0
  pub goes_on : (calls before : ℕ) → IsPaidFrom whole start calls before old
      → IsPaidPage new.order (drop start whole) given (calls + 1) (before + lost) page
  pub few : FewGiven (settings_of old) old.order whole start old.given
      → FewGiven (settings_of old) old.order whole start given
  pub stays : answer ≢ Ok PageEnd → (new.page ≡ page) × (new.given ≡ given)
  pub over : answer ≡ Ok PageEnd → EndsPaid whole start page given old new
  pub same : (settings_of new ≡ settings_of old) × (new.order ≡ old.order)

-- what was called and counted so far: how many pages have ended, what was counted for them, how many bytes they were given that
-- are after their ends, and so are given again, how many calls read the next row, and what those cost more that failed for
-- memory
pub record PagesCount : Type 0 where
  pub pages : ℕ
  pub ticks : ℕ
  pub again : ℕ
  pub calls : ℕ
  pub lost : ℕ

abbrev pub nothing_counted : PagesCount
nothing_counted = record { pages = 0; ticks = 0; again = 0; calls = 0; lost = 0 }

-- What became of a feed of pages: bytes were fed, the data may have been finished, and calls read the next row. The page that is
-- next or under way begins at this byte offset.
pub data IsPagesHistory (whole : List ℕ) : PagesCount → ℕ → PageFeeding → Type 0 where
  opens : {feed : PageFeeding} → IsPaidFrom whole 0 0 0 feed → fed_from_start feed ≡ 0
      → IsPagesHistory whole nothing_counted 0 feed
  feeds : {count : PagesCount} {start : ℕ} {old new : PageFeeding} → IsPagesHistory whole count start old
      → new.page ≡ old.page → new.order ≡ old.order → new.given ≡ old.given → IsPagesHistory whole count start new
  reads : {count : PagesCount} {start : ℕ} {old new : PageFeeding} {answer : Result PageFed DecodeError}
      → IsPagesHistory whole count start old → (next : PaysNext whole start old new answer) → answer ≢ Ok PageEnd
      → IsPagesHistory whole (record count { calls = count.calls + 1; lost = count.lost + next.lost }) start new
  ends : {count : PagesCount} {start : ℕ} {old new : PageFeeding} → IsPagesHistory whole count start old
      → (next : PaysNext whole start old new (Ok PageEnd)) → IsPagesHistory whole (record {
        pages = count.pages + 1;
        ticks = count.ticks + next.page.ctx.ticks;
        again = count.again + (next.given - ended_size next.page);
        calls = count.calls + 1;
        lost = count.lost + next.lost;
      }) (start + ended_size next.page) new

-- ---- The law

pub record PagesArePaid : Type 0 where
  -- In any history of a feed of pages the count of work, of all of them, is at most 544 ticks for each byte that was fed, or
  -- given again to the next page, 288 ticks for each page, and 32 for each call that reads the next row, whatever pieces the data
  -- comes in. A call that fails for memory costs more.
  pub work : (whole : List ℕ) (count : PagesCount) (start : ℕ) (feed : PageFeeding) → IsPagesHistory whole count start feed
      → count.ticks + feed.page.ctx.ticks
      ≤ 544 * (start + fed_from_start feed + count.again) + 288 * (count.pages + 1) + 32 * count.calls + count.lost
  -- where pages of Group 3, each closed by RTC, fill the data, no byte is given again (T.4, 4.1.4 and 4.2.4)
  pub closed : (whole ends : List ℕ) (count : PagesCount) (start : ℕ) (feed : PageFeeding) → IsPagesHistory whole count start feed
      → (settings_of feed).encoding ≢ Group4 → AreSettings (settings_of feed)
      → PagesStand (settings_of feed) feed.order whole 0 ends → count.again ≡ 0
  -- of pages of Group 4 without a row limit no more bytes are given again than there are up to the last one's end, and 66 a page
  pub group4 : (whole : List ℕ) (count : PagesCount) (start : ℕ) (feed : PageFeeding) → IsPagesHistory whole count start feed
      → (settings_of feed).encoding ≡ Group4 → (settings_of feed).rows ≡ 0 → count.again ≤ start + 66 * count.pages
