-- Pages that are fed in pieces.
use Rattle.hayro_ccitt.proofs.Names.{◌≡◌, ℕ, ◌+◌, ◌-◌, ◌*◌, ◌/◌, ◌<◌, ◌≤◌, ◌++◌, ◌∷◌, ◌∙◌, ◌⊎◌, inl, inr, Bool, true, false}
use Rattle.hayro_ccitt.proofs.Names.{List, [], Option, None, Some, Result, Ok, Err, refl, sym, ap, subst, arith, length, drop}
use Rattle.hayro_ccitt.proofs.Names.{take, min}
use Rattle.hayro_ccitt.proofs.Names.{length-append, length-drop, append-nil, append_assoc, drop-drop, Bits, bits_in, Context}
use Rattle.hayro_ccitt.proofs.Names.{DecodeError}
use Rattle.hayro_ccitt.proofs.Names.{DecodeSettings, EncodingMode, Group4, Group3_1D, Group3_2D, HasEnded, ended}
use Rattle.hayro_ccitt.proofs.Names.{false≢true, plain, whole_reading, end_of, cond, eqb, AreWholeBytes, ReaderStands}
use Rattle.std.specs.Prelude.{◌^◌}
use Rattle.std.proofs.lemmas.List.{drop-append-le, length-take-le, take-append-drop}
use Rattle.std.proofs.Math.Seq.{drop-append_seam, take-add}
use Rattle.hayro_ccitt.specs.BitOrder.{BitOrder}
use Rattle.hayro_ccitt.specs.Bits.{BitsFit}
use Rattle.hayro_ccitt.specs.PlainReading.{bytes_before}
use Rattle.hayro_ccitt.specs.RowFeeds.{Feeding, IsFeedOf, StandsIn, fed_bits, offset_of}
use Rattle.hayro_ccitt.specs.RowState.{RowState}
use Rattle.hayro_ccitt.proofs.BitReading.BitLists.{bits_are_whole, length-bits_in}
use Rattle.hayro_ccitt.proofs.Readings.RowByRow.{ended_stands}
use Rattle.fax_callers.specs.PageFeeds.{BytesComeNext, DropsRead, IsPageFeedOf, IsPageReading, PageFeeding, SameRows, Stays}
use Rattle.fax_callers.specs.PageFeeds.{fed_from_start, page_bits, read_over, settings_of}
use Rattle.fax_callers.specs.Pages.{page_by}
use Rattle.fax_callers.specs.Rtc.{GoesOnAfter, PassesBits, after_rtc, none_seen, page_size, rtc_size, size_before}
use Rattle.fax_callers.specs.declared.rtc.EolsSeen.{EolsSeen}
use Rattle.fax_callers.proofs.PageReadings.{page_finished}
use Rattle.fax_callers.proofs.ReadsOnward.{read_within}
use Rattle.fax_callers.proofs.RtcPassed.{after_shorter, bits_more}

-- ---- The bytes that a page may occupy

-- they are among those there
pub size_within : (encoding : EncodingMode) (order : BitOrder) (bytes : List ℕ) → page_size encoding order bytes ≤ length bytes
size_within encoding order bytes = by_encoding encoding
  where
    by_rest : (o : Option Bits) → size_before (bits_in order bytes) (length bytes) o ≤ length bytes
    by_rest None = omega arith
    by_rest (Some rest) = omega (arith, length-bits_in order bytes)

    by_encoding : (encoding : EncodingMode) → page_size encoding order bytes ≤ length bytes
    by_encoding Group4 = omega arith
    by_encoding Group3_1D = by_rest (after_rtc false none_seen (bits_in order bytes))
    by_encoding Group3_2D = by_rest (after_rtc true none_seen (bits_in order bytes))

-- those after which the page goes on are among them
pub size_least : (encoding : EncodingMode) (order : BitOrder) (front more : List ℕ) (seen : EolsSeen)
    → GoesOnAfter encoding order front seen → length front ≤ page_size encoding order (front ++ more)
size_least encoding order front more seen goes = by_encoding encoding goes
  where
    by_rest : (tags : Bool) (o : Option Bits) → after_rtc tags seen (bits_in order more) ≡ o
        → length front ≤ size_before (bits_in order (front ++ more)) (length (front ++ more)) o
    by_rest tags None e = omega (arith, length-append front more)
    by_rest tags (Some rest) e = omega (
      arith,
      length-append front more,
      length-bits_in order (front ++ more),
      length-bits_in order more,
      after_shorter tags seen (bits_in order more) rest e,
    )

    passed : (tags : Bool) → PassesBits tags none_seen (bits_in order front) seen
        → length front ≤ rtc_size tags (bits_in order (front ++ more)) (length (front ++ more))
    passed tags passes =
        subst (λ (o : Option Bits). length front ≤ size_before (bits_in order (front ++ more)) (length (front ++ more)) o)
        (sym (ap (after_rtc tags none_seen) (bits_more order front more) ∙ passes (bits_in order more)))
        (by_rest tags (after_rtc tags seen (bits_in order more)) refl)

    by_encoding : (encoding : EncodingMode) → GoesOnAfter encoding order front seen
        → length front ≤ page_size encoding order (front ++ more)
    by_encoding Group4 goes = omega (arith, length-append front more)
    by_encoding Group3_1D goes = passed false goes
    by_encoding Group3_2D goes = passed true goes

no_bytes : (bytes : List ℕ) → length bytes ≡ 0 → bytes ≡ []
no_bytes [] e = refl
no_bytes (byte ∷ bytes) e = absurd (omega (arith, e))

-- ---- The reading of a page

module _ {order : BitOrder} {bytes : List ℕ} {given : ℕ} {seen : EolsSeen} {page : Feeding}
    (is : IsPageReading order bytes given seen page) where
  abbrev pub size_of : ℕ
  size_of = page_size page.ctx.held.settings.encoding order bytes

  pub given_within : given ≤ size_of
  given_within = by_finished page.finished refl
    where
      by_finished : (b : Bool) → page.finished ≡ b → given ≤ size_of
      by_finished true e = omega (arith, is.found e)
      by_finished false e =
          let least = size_least page.ctx.held.settings.encoding order (take given bytes) (drop given bytes) seen (is.sought e) in
          subst (λ (l : List ℕ). given ≤ page_size page.ctx.held.settings.encoding order l) (take-append-drop given bytes)
          (omega (arith, least, length-take-le given bytes is.within))

  -- it is a reading of the bytes that the page may occupy
  pub page_reads : (tried : ℕ) × IsFeedOf (bits_in order (take size_of bytes)) tried page
  page_reads =
      let rest = take (size_of - given) (drop given bytes) in
      let whole : take size_of bytes ≡ take given bytes ++ rest
      = (let sum : size_of ≡ given + (size_of - given) = omega (arith, given_within) in ap (λ (n : ℕ). take n bytes) sum)
      ∙ take-add given (size_of - given) bytes in
      let size = length-take-le size_of bytes (size_within page.ctx.held.settings.encoding order bytes) in
      let read = is.reads rest (λ last. let all : size_of - given ≡ 0 = omega (arith, is.found last) in
      ap (λ (n : ℕ). take n (drop given bytes)) all)
      (omega (arith, ap length whole, size, is.fit, size_within page.ctx.held.settings.encoding order bytes)) in
      (read.0, subst (λ (l : List ℕ). IsFeedOf (bits_in order l) read.0 page) (sym whole) read.1)

  -- and of those that it was given alone
  pub given_reads : (tried : ℕ) × IsFeedOf (bits_in order (take given bytes)) tried page
  given_reads =
      let read = is.reads [] (λ last. refl)
      (omega (arith, length-append (take given bytes) [], length-take-le given bytes is.within, is.fit, is.within)) in
      (read.0, subst (λ (l : List ℕ). IsFeedOf (bits_in order l) read.0 page) (append-nil (take given bytes)) read.1)

  -- the page has at least as many bytes as were given and read
  pub count_least : (count : ℕ) → (plain page.ctx.held.settings (bits_in order (take size_of bytes))).outcome ≡ Ok count
      → min given ((offset_of page + 7) / 8) ≤ count
  count_least count outcome =
      let size = length-take-le size_of bytes (size_within page.ctx.held.settings.encoding order bytes) in
      let least = read_within page_reads.1 size_of
      (length-bits_in order (take size_of bytes) ∙ ap (λ (n : ℕ). 8 * n) size) is.has_memory count outcome in
      omega (arith, least, given_within)

-- a reading that has ended well is the plain reading
pub has_ended : {whole : Bits} {tried : ℕ} {page : Feeding} → IsFeedOf whole tried page
    → ended page.rows.stand ≡ Some (Ok tt)
    → HasEnded page.ctx.held.settings whole page.ctx.held.taken (offset_of page)
has_ended {whole} {tried} {page} is e =
    (ended_stands page.rows.stand page.ctx.held.settings whole page.ctx.held (offset_of page) e
    (by_begun page.begun is.stands)).0
  where
    by_begun : (begun : Bool) → StandsIn begun tried page.rows page.ctx
        (record { bits = whole; place = offset_of page })
        → ReaderStands page.rows.stand page.ctx.held.settings whole page.ctx.held (offset_of page)
    by_begun true stands = stands.0
    by_begun false front = let never = sym (ap (λ (r : RowState). ended r.stand) front.state) ∙ e in absurd cc

-- a reading reads no more bytes than there are
outcome_within : (settings : DecodeSettings) (bits : Bits) (size count : ℕ) → length bits ≡ 8 * size
    → (plain settings bits).outcome ≡ Ok count → count ≤ size
outcome_within settings bits size count whole outcome = by_columns (eqb settings.columns 0) outcome
  where
    by_end : (end : Result Bits DecodeError) → bytes_before bits end ≡ Ok count → count ≤ size
    by_end (Ok rest) e = let is : (length bits - length rest + 7) / 8 ≡ count = cc in omega (arith, is, whole)
    by_end (Err error) e = absurd cc

    by_columns : (none : Bool) → (cond none (record { rows = []; outcome = Ok 0; has_eols = false })
        (whole_reading bits (end_of settings bits))).outcome ≡ Ok count → count ≤ size
    by_columns true e = let is : 0 ≡ count = cc in omega (arith, is)
    by_columns false e = by_end (end_of settings bits).outcome e

-- a page that has ended was given all bytes that were read
pub ended_within : {order : BitOrder} {bytes : List ℕ} {given : ℕ} {seen : EolsSeen} {page : Feeding}
    → IsPageReading order bytes given seen page → ended page.rows.stand ≡ Some (Ok tt)
    → (offset_of page + 7) / 8 ≤ given
ended_within {order} {bytes} {given} {seen} {page} is e =
    outcome_within page.ctx.held.settings (bits_in order (take given bytes)) given ((offset_of page + 7) / 8)
    (length-bits_in order (take given bytes) ∙ ap (λ (n : ℕ). 8 * n) (length-take-le given bytes is.within))
    (has_ended (given_reads is).1 e).count

-- nothing of the page was given yet
pub fresh_page : {order : BitOrder} {page : Feeding} → ((whole : Bits) → AreWholeBytes whole → length whole + 64 < 2 ^ 64
    → IsFeedOf whole 0 page) → page.order ≡ order
    → (page.kept ≡ []) × (page.dropped ≡ 0) × (page.finished ≡ false) → page.begun ≡ false
    → (bytes : List ℕ) → BitsFit bytes → IsPageReading order bytes 0 none_seen page
fresh_page {order} {page} reading order_is none_fed unbegun bytes fit = record {
  fit = fit;
  within = omega arith;
  order_is = order_is;
  counted = omega (arith, ap length none_fed.0, none_fed.1);
  reads = λ rest none enough. (
    0,
    reading (bits_in order rest) (bits_are_whole order rest) (omega (arith, enough, length-bits_in order rest)),
  );
  sought = λ e. sought page.ctx.held.settings.encoding;
  found = λ last. absurd (false≢true (sym none_fed.2 ∙ last));
  has_memory = λ e. let never = sym unended ∙ e in cc;
}
  where
    sought : (encoding : EncodingMode) → GoesOnAfter encoding order [] none_seen
    sought Group4 = tt
    sought Group3_1D = λ more. refl
    sought Group3_2D = λ more. refl

    by_begun : (begun : Bool) → begun ≡ false → StandsIn begun 0 page.rows page.ctx
        (record { bits = bits_in order bytes; place = offset_of page }) → ended page.rows.stand ≡ None
    by_begun true e stands = absurd (false≢true (sym e))
    by_begun false e front = ap (λ (r : RowState). ended r.stand) front.state

    unended : ended page.rows.stand ≡ None
    unended = by_begun page.begun unbegun
        (reading (bits_in order bytes) (bits_are_whole order bytes) (omega (arith, fit, length-bits_in order bytes))).stands

-- ---- The data

-- bytes that were read are dropped
pub page_drops : {whole : List ℕ} {start : ℕ} {old new : PageFeeding} → DropsRead old new → IsPageFeedOf whole start old
    → IsPageFeedOf whole start new
page_drops {whole} {start} {old} {new} drops is = subst (IsPageFeedOf whole start) (sym drops.frame) (record {
  fit = is.fit;
  within = is.within;
  page = is.page;
  dropped = is.dropped + drops.bytes;
  more = is.more;
  bytes = sym (drop-drop drops.bytes is.dropped whole) ∙ ap (drop drops.bytes) is.bytes
      ∙ drop-append-le drops.bytes old.held is.more (omega (arith, few, is.next));
  next = omega (arith, few, is.next, length-drop drops.bytes old.held);
  place = omega (arith, few, is.place);
  none = is.none;
  unread = λ count read.
      let least = count_least is.page count read in
      omega (arith, least, is.place, is.unread count read, drops.bytes_are);
})
  where
    few : drops.bytes ≤ old.next
    few = omega (arith, drops.bytes_are)

pub drops_count : {old new : PageFeeding} → DropsRead old new → old.next ≤ length old.held
    → fed_from_start new ≡ fed_from_start old
drops_count {old} {new} drops within =
    ap fed_from_start drops.frame ∙ omega (arith, within, drops.bytes_are, length-drop drops.bytes old.held)

-- the bytes after those held
after_held : {whole : List ℕ} {start : ℕ} {feed : PageFeeding} (is : IsPageFeedOf whole start feed)
    → drop (start + fed_from_start feed) whole ≡ is.more
after_held {whole} {start} {feed} is =
    (let sum : start + fed_from_start feed ≡ is.dropped + length feed.held = omega (arith, is.place, is.next) in
    ap (λ (n : ℕ). drop n whole) sum) ∙ sym (drop-drop (length feed.held) is.dropped whole)
    ∙ ap (drop (length feed.held)) is.bytes ∙ drop-append_seam feed.held is.more

-- more bytes are held
pub page_holds : {whole : List ℕ} {start : ℕ} {old new : PageFeeding} (bytes : List ℕ)
    → new ≡ record old { held = old.held ++ bytes } → old.finished ≡ false → IsPageFeedOf whole start old
    → BytesComeNext whole start old bytes → IsPageFeedOf whole start new
page_holds {whole} {start} {old} {new} bytes frame unfinished is come = subst (IsPageFeedOf whole start) (sym frame) (record {
  fit = is.fit;
  within = is.within;
  page = is.page;
  dropped = is.dropped;
  more = come.0;
  bytes = is.bytes ∙ ap (λ (l : List ℕ). old.held ++ l) (sym (after_held is) ∙ come.1)
      ∙ sym (append_assoc old.held bytes come.0);
  next = omega (arith, is.next, length-append old.held bytes);
  place = is.place;
  none = λ last. absurd (false≢true (sym unfinished ∙ last));
  unread = is.unread;
})

-- no bytes follow
pub feed_ends : {whole : List ℕ} {start : ℕ} {old new : PageFeeding} → new ≡ record old { finished = true }
    → IsPageFeedOf whole start old → length whole ≡ start + fed_from_start old → IsPageFeedOf whole start new
feed_ends {whole} {start} {old} {new} frame is all = subst (IsPageFeedOf whole start) (sym frame) (record {
  fit = is.fit;
  within = is.within;
  page = is.page;
  dropped = is.dropped;
  more = is.more;
  bytes = is.bytes;
  next = is.next;
  place = is.place;
  none = λ last. no_bytes is.more
      (omega (arith, all, ap length (after_held is), length-drop (start + fed_from_start old) whole));
  unread = is.unread;
})

-- the page's reading changes, and is given so many bytes more
pub page_moves : {whole : List ℕ} {start : ℕ} {old new : PageFeeding} (page : Feeding) (seen : EolsSeen) (next given n : ℕ)
    → new ≡ record old { page = page; seen = seen; next = next; given = given } → IsPageFeedOf whole start old
    → next ≡ old.next + n → given ≡ old.given + n → next ≤ length old.held
    → IsPageReading old.order (drop start whole) given seen page → page.ctx.held.settings ≡ settings_of old
    → IsPageFeedOf whole start new
page_moves {whole} {start} {old} {new} page seen next given n frame is next_is given_is within reading settings =
    subst (IsPageFeedOf whole start) (sym frame) (record {
      fit = is.fit;
      within = is.within;
      page = reading;
      dropped = is.dropped;
      more = is.more;
      bytes = is.bytes;
      next = within;
      place = omega (arith, is.place, next_is, given_is);
      none = is.none;
      unread = λ count. subst (λ (s : DecodeSettings). page_by s old.order whole start ≡ Ok count → is.dropped ≤ start + count)
          (sym settings) (is.unread count);
    })

-- the bytes that come next for the page are the next ones held
pub piece_comes : {whole : List ℕ} {start : ℕ} {feed : PageFeeding} (is : IsPageFeedOf whole start feed) (k : ℕ)
    → drop feed.given (drop start whole) ≡ take k (drop feed.next feed.held) ++ (drop k (drop feed.next feed.held) ++ is.more)
piece_comes {whole} {start} {feed} is k =
    drop-drop feed.given start whole ∙ ap (λ (n : ℕ). drop n whole) is.place ∙ sym (drop-drop feed.next is.dropped whole)
    ∙ ap (drop feed.next) is.bytes ∙ drop-append-le feed.next feed.held is.more is.next
    ∙ ap (λ (l : List ℕ). l ++ is.more) (sym (take-append-drop k (drop feed.next feed.held)))
    ∙ append_assoc (take k (drop feed.next feed.held)) (drop k (drop feed.next feed.held)) is.more

-- ---- The rows so far

pub same_rows : (bits : Bits) (old new : Feeding) → new.ctx ≡ old.ctx → new.rows ≡ old.rows
    → SameRows (read_over bits old) (read_over bits new)
same_rows bits old new ctx rows = record {
  settings = ap (λ (x : Context). x.held.settings) ctx;
  counts = omega (arith, ap (λ (x : Context). x.ticks) ctx);
  taken = ap (λ (x : Context). x.held.taken) ctx;
  row = ap (λ (x : Context). x.held.reference) ctx;
  damage = ap (λ (r : RowState). r.damage) rows;
  cut = ap (λ (r : RowState). r.cut) rows;
  line_start = ap (λ (r : RowState). r.started_at) rows;
}

pub stays_on : {whole : List ℕ} {start : ℕ} {old new : PageFeeding} → IsPageFeedOf whole start new
    → new.page.ctx ≡ old.page.ctx → new.page.rows ≡ old.page.rows → new.order ≡ old.order → new.finished ≡ old.finished
    → Stays whole start old new
stays_on {whole} {start} {old} {new} is ctx rows order finished = record {
  is = is;
  rows = same_rows (page_bits whole start old) old.page new.page ctx rows;
  order = order;
  finished = finished;
  unended = λ e. ap (λ (r : RowState). ended r.stand) rows ∙ e;
}

-- no byte follows those that the page was given
pub given_all : {whole : List ℕ} {start : ℕ} {feed : PageFeeding} → IsPageFeedOf whole start feed → feed.finished ≡ true
    → feed.next ≡ length feed.held → start + feed.given ≡ length whole
given_all {whole} {start} {feed} is last all = omega (
  arith,
  is.place,
  all,
  ap length is.bytes,
  ap length (is.none last),
  length-append feed.held is.more,
  length-drop is.dropped whole,
  is.within,
  is.page.within,
  length-drop start whole,
)

-- so the page's data is finished
pub all_given : {whole : List ℕ} {start : ℕ} {old new : PageFeeding} (page : Feeding)
    → new ≡ record old { page = page } → page ≡ record old.page { finished = true } → old.page.finished ≡ false
    → ((whole : Bits) (tried : ℕ) → IsFeedOf whole tried old.page → length whole ≡ fed_bits old.page → IsFeedOf whole tried page)
    → old.finished ≡ true → old.next ≡ length old.held → IsPageFeedOf whole start old → Stays whole start old new
all_given {whole} {start} {old} {new} page frame finished unfinished finish last all is =
    let size = size_within (settings_of old).encoding old.order (drop start whole) in
    let reading = page_finished is.page.fit is.page.within is.page.order_is is.page.counted (λ more fit.
    is.page.reads more (λ e. absurd (false≢true (sym unfinished ∙ e))) fit)
    (omega (arith, given_within is.page, size, given_all is last all, length-drop start whole)) is.page.has_memory finish
    finished in
    let moved : new ≡ record old { page = page; seen = old.seen; next = old.next; given = old.given } = frame in
    stays_on (page_moves page old.seen old.next old.given 0 moved is (omega arith) (omega arith) is.next reading
    (ap (λ (f : Feeding). f.ctx.held.settings) finished)) (ap (λ (f : PageFeeding). f.page.ctx) frame
    ∙ ap (λ (f : Feeding). f.ctx) finished) (ap (λ (f : PageFeeding). f.page.rows) frame ∙ ap (λ (f : Feeding). f.rows) finished)
    (ap (λ (f : PageFeeding). f.order) frame) (ap (λ (f : PageFeeding). f.finished) frame)

-- less can be given once bytes were given, or the page's data was finished
pub less_to_give : (size next n : ℕ) (was is : Bool) → was ≡ false → next + n ≤ size → (0 < n) ⊎ (is ≡ true)
    → (size - (next + n)) + cond is 0 1 < (size - next) + cond was 0 1
less_to_give size next n true is e le some = absurd (false≢true (sym e))
less_to_give size next n false true e le some = omega (arith, le)
less_to_give size next n false false e le (inl some) = omega (arith, le, some)
less_to_give size next n false false e le (inr last) = absurd (false≢true last)

-- nothing was fed yet
pub new_feed : {whole : List ℕ} {feed : PageFeeding} → BitsFit whole
    → IsPageReading feed.order whole feed.given feed.seen feed.page → feed.held ≡ [] → feed.next ≡ 0 → feed.given ≡ 0
    → feed.finished ≡ false → IsPageFeedOf whole 0 feed
new_feed {whole} {feed} fit reading held next given unfinished = record {
  fit = fit;
  within = omega arith;
  page = reading;
  dropped = 0;
  more = whole;
  bytes = ap (λ (l : List ℕ). l ++ whole) (sym held);
  next = omega (arith, next);
  place = omega (arith, next, given);
  none = λ last. absurd (false≢true (sym unfinished ∙ last));
  unread = λ count read. omega arith;
}
