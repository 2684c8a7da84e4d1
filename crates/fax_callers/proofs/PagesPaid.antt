-- What all calls of a feed of pages count is paid.
use Rattle.hayro_ccitt.proofs.Names.{◌≡◌, ◌≢◌, ℕ, ◌+◌, ◌-◌, ◌*◌, ◌<◌, ◌≤◌, ◌++◌, ◌∙◌, Bool, true, false, List, []}
use Rattle.hayro_ccitt.proofs.Names.{None, Some, Result, Ok, Err, refl, sym, ap, subst, arith, length, drop, take, cond}
use Rattle.hayro_ccitt.proofs.Names.{length-append, length-drop, Bits, AreWholeBytes, bits_in, DecodeError}
use Rattle.hayro_ccitt.proofs.Names.{DecodeSettings, Group4, OutOfMemory, IsFault, ended, false≢true, ◌∷◌}
use Rattle.std.specs.Prelude.{◌^◌}
use Rattle.std.proofs.lemmas.List.{length-take-le}
use Rattle.hayro_ccitt.specs.BitOrder.{BitOrder}
use Rattle.hayro_ccitt.specs.Bits.{BitsFit}
use Rattle.hayro_ccitt.specs.FeedsPaid.{IsHistory, cost_of_failure}
use Rattle.hayro_ccitt.specs.RowFeeds.{ComeNext, Feeding, FeedsNext, HoldsMore, IsFeedOf, KeepsBits, fed_bits, fed_end}
use Rattle.hayro_ccitt.specs.Fed.{Fed}
use Rattle.hayro_ccitt.specs.Fed.TheVariants.{End as ReadAll}
use Rattle.hayro_ccitt.proofs.BitReading.BitLists.{bits_are_whole, length-bits_in}
use Rattle.hayro_ccitt.proofs.EncodedPictures.PicturesOfEachKind.{closed_pictures}
use Rattle.hayro_ccitt.proofs.ErrorKinds.{by_kind}
use Rattle.hayro_ccitt.proofs.Readings.FeedsPaid.{feeds_are_paid}
use Rattle.fax_callers.specs.PageFeeds.{EndsPageHere, IsPageFeedOf, IsPageReading, IsPaidFrom, IsPaidPage, PageFeeding, Stays}
use Rattle.fax_callers.specs.PageFeeds.{FewGiven, settings_of}
use Rattle.fax_callers.specs.Pages.{PagesStand, ReadsPages, page_by}
use Rattle.fax_callers.specs.PagesPaid.{EndsPaid, IsPagesHistory, PagesArePaid, PagesCount, PaysNext, ended_size}
use Rattle.fax_callers.specs.Rtc.{page_size}
use Rattle.fax_callers.specs.declared.page_feed.PageFed.{PageFed}
use Rattle.fax_callers.specs.declared.page_feed.PageFed.TheVariants.{Row as OneRow, NeedsMore, End, PageEnd}
use Rattle.fax_callers.specs.declared.rtc.EolsSeen.{EolsSeen}
use Rattle.fax_callers.proofs.PageReadings.{comes, counted_all, longer_within, with_more}
use Rattle.fax_callers.proofs.PageTurns.{bad_end, ends_within, either_way, has, new_ended, new_reading, new_settings}
use Rattle.fax_callers.proofs.PageTurns.{unended_is}
use Rattle.fax_callers.proofs.PagesFed.{given_within}
use Rattle.fax_callers.proofs.PagesInTurn.{at_old}
use Rattle.fax_callers.proofs.PagesRead.{closed_size, pages_read}

-- ---- The reading of a page

-- nothing was called yet
pub fresh_paid : {order : BitOrder} {page : Feeding} → ((whole : Bits) → AreWholeBytes whole → length whole + 64 < 2 ^ 64
    → IsFeedOf whole 0 page) → page.begun ≡ false → page.looked ≡ 0 → page.part ≡ None
    → (bytes : List ℕ) → BitsFit bytes → IsPaidPage order bytes 0 0 0 page
fresh_paid {order} {page} reading unbegun unlooked unkept bytes fit = record {
  fit = fit;
  within = omega arith;
  made = 0;
  most = omega arith;
  history = λ rest none enough.
      let is = reading (bits_in order rest) (bits_are_whole order rest) (omega (arith, enough, length-bits_in order rest)) in
      (0, IsHistory.opens is unbegun unlooked unkept, is);
}

-- more calls may have been made
pub paid_more : {order : BitOrder} {bytes : List ℕ} {given calls more lost : ℕ} {page : Feeding} → calls ≤ more
    → IsPaidPage order bytes given calls lost page → IsPaidPage order bytes given more lost page
paid_more le paid = record {
  fit = paid.fit;
  within = paid.within;
  made = paid.made;
  most = omega (arith, paid.most, le);
  history = paid.history;
}

-- it is given bytes, each of which pays for a call
pub given_paid : {order : BitOrder} {seen : EolsSeen} {old new : Feeding} (bytes piece rest : List ℕ) (given : ℕ)
    (is : IsPageReading order bytes given seen old) (split : drop given bytes ≡ piece ++ rest)
    (unfinished : old.finished ≡ false) (n : ℕ) (le : n ≤ length piece)
    → ((whole : Bits) (tried : ℕ) → IsFeedOf whole tried old
    → ComeNext whole old (bits_in old.order (take n piece)) → IsFeedOf whole tried new)
    → HoldsMore (bits_in old.order (take n piece)) old new → (calls lost : ℕ)
    → IsPaidPage order bytes given calls lost old → IsPaidPage order bytes (given + n) (calls - n) lost new
given_paid {order} {seen} {old} {new} bytes piece rest given is split unfinished n le fed holds calls lost paid = record {
  fit = paid.fit;
  within = longer_within bytes piece rest given is.within split n le;
  made = paid.made;
  most = omega (arith, paid.most, ap {B = ℕ} (λ (b : Bool). cond b 1 0) unfinished);
  history = λ more none enough.
      let same = with_more bytes piece rest given is.within split n le more in
      let before = paid.history (take n piece ++ more) (λ last. absurd (false≢true (sym unfinished
      ∙ last))) (subst BitsFit same enough) in
      let stands = fed (bits_in order (take given bytes ++ (take n piece ++ more))) before.0 before.2
      (comes is (take n piece) more) in
      let onward = IsHistory.feeds (bits_in old.order (take n piece)) before.1 holds stands in (
        before.0,
        subst (λ (l : List ℕ). IsHistory (bits_in order l) paid.made lost before.0 new) (sym same) onward,
        subst (λ (l : List ℕ). IsFeedOf (bits_in order l) before.0 new) (sym same) stands,
      );
}

-- it can't be given them
pub kept_paid : {order : BitOrder} {bytes : List ℕ} {given calls lost : ℕ} {old new : Feeding} → HoldsMore [] old new
    → ((whole : Bits) (tried : ℕ) → IsFeedOf whole tried old → IsFeedOf whole tried new)
    → IsPaidPage order bytes given calls lost old → IsPaidPage order bytes given calls lost new
kept_paid {order} {bytes} {given} {calls} {lost} {old} {new} holds fed paid = record {
  fit = paid.fit;
  within = paid.within;
  made = paid.made;
  most = omega (arith, paid.most, ap {B = ℕ} (λ (b : Bool). cond b 1 0) holds.reading.2);
  history = λ more none enough.
      let before = paid.history more (λ last. none (holds.reading.2 ∙ last)) enough in
      let stands = fed (bits_in order (take given bytes ++ more)) before.0 before.2 in
      (before.0, IsHistory.feeds [] before.1 holds stands, stands);
}

-- its data is finished, which pays for a call
pub finished_paid : {order : BitOrder} {bytes : List ℕ} {given calls lost : ℕ} {old new : Feeding} → fed_bits old ≡ 8 * given
    → ((whole : Bits) (tried : ℕ) → IsFeedOf whole tried old → length whole ≡ fed_bits old → IsFeedOf whole tried new)
    → new ≡ record old { finished = true } → old.finished ≡ false
    → IsPaidPage order bytes given calls lost old → IsPaidPage order bytes given (calls - 1) lost new
finished_paid {order} {bytes} {given} {calls} {lost} {old} {new} counted finish is unfinished paid = record {
  fit = paid.fit;
  within = paid.within;
  made = paid.made;
  most = omega (
    arith,
    paid.most,
    ap {B = ℕ} (λ (b : Bool). cond b 1 0) unfinished,
    ap {B = ℕ} (λ (f : Feeding). cond f.finished 1 0) is,
  );
  history = λ more none enough.
      let last : new.finished ≡ true = ap (λ (f : Feeding). f.finished) is in
      let before = paid.history more (λ end. absurd (false≢true (sym unfinished ∙ end))) enough in
      let stands = finish (bits_in order (take given bytes ++ more)) before.0 before.2
      (counted_all order bytes more given paid.within counted (none last)) in
      (before.0, IsHistory.finishes before.1 is stands, stands);
}

-- ---- A call of it

module _ {order : BitOrder} {bytes : List ℕ} {given calls lost : ℕ} {old new : Feeding} (answer : Result Fed DecodeError)
    (keeps : KeepsBits old new) (unended : ended old.rows.stand ≡ None) (reads : (whole : Bits) (tried : ℕ)
    → IsFeedOf whole tried old → FeedsNext whole tried old new answer) (paid : IsPaidPage order bytes given calls lost old) where
  one_more : paid.made + 1 ≤ calls + 1 + given + cond new.finished 1 0
  one_more = omega (arith, paid.most, ap {B = ℕ} (λ (b : Bool). cond b 1 0) keeps.finished)

  pub read_paid : answer ≢ Err OutOfMemory → IsPaidPage order bytes given (calls + 1) lost new
  read_paid other = record {
    fit = paid.fit;
    within = paid.within;
    made = paid.made + 1;
    most = one_more;
    history = λ more none enough.
        let before = paid.history more (λ last. none (keeps.finished ∙ last)) enough in
        let next = reads (bits_in order (take given bytes ++ more)) before.0 before.2 in (
          before.0 + next.plainly.extra,
          IsHistory.reads before.1 unended keeps next other,
          next.stands,
        );
  }

  pub fail_paid : answer ≡ Err OutOfMemory → IsPaidPage order bytes given (calls + 1) (lost + cost_of_failure new) new
  fail_paid e = record {
    fit = paid.fit;
    within = paid.within;
    made = paid.made + 1;
    most = one_more;
    history = λ more none enough.
        let before = paid.history more (λ last. none (keeps.finished ∙ last)) enough in
        let next = subst (FeedsNext (bits_in order (take given bytes ++ more)) before.0 old new) e
        (reads (bits_in order (take given bytes ++ more)) before.0 before.2) in (
          before.0 + next.plainly.extra,
          IsHistory.fails before.1 unended keeps next,
          next.stands,
        );
  }

-- ---- A call of the feed

-- the page goes on, and nothing was lost
pub pays_still : {whole : List ℕ} {start : ℕ} {old new : PageFeeding} (answer : Result PageFed DecodeError)
    → old.page.ctx.ticks ≤ new.page.ctx.ticks → (settings_of new ≡ settings_of old) × (new.order ≡ old.order)
    → (FewGiven (settings_of old) old.order whole start old.given → FewGiven (settings_of old) old.order whole start new.given)
    → answer ≢ Ok PageEnd
    → ((calls before : ℕ) → IsPaidFrom whole start calls before old → IsPaidFrom whole start (calls + 1) before new)
    → PaysNext whole start old new answer
pays_still {whole} {start} {old} {new} answer counts same few other goes = record {
  page = new.page;
  given = new.given;
  lost = 0;
  counts = counts;
  failed = omega arith;
  unfailed = λ e. refl;
  goes_on = λ calls before paid.
      let none : before ≡ before + 0 = omega arith in
      subst (λ (n : ℕ). IsPaidFrom whole start (calls + 1) n new) none (goes calls before paid);
  few = few;
  stays = λ e. (refl, refl);
  over = λ e. absurd (other e);
  same = same;
}

-- so it does after a call that didn't fail
pub pays_here : {whole : List ℕ} {start : ℕ} {old new : PageFeeding} {answer : Result PageFed DecodeError}
    → PaysNext whole start old new answer → answer ≢ Ok PageEnd → answer ≢ Err OutOfMemory → (calls before : ℕ)
    → IsPaidFrom whole start calls before old → IsPaidFrom whole start (calls + 1) before new
pays_here {whole} {start} {old} {new} next other memory calls before paid =
    let none : before + next.lost ≡ before = omega (arith, next.unfailed memory) in
    let same = next.stays other in
    subst (λ (n : ℕ). IsPaidFrom whole start (calls + 1) n new) none
    (subst (λ (n : ℕ). IsPaidPage new.order (drop start whole) n (calls + 1) (before + next.lost) new.page) (sym same.1)
    (subst (IsPaidPage new.order (drop start whole) next.given (calls + 1) (before + next.lost)) (sym same.0)
    (next.goes_on calls before paid)))

-- a call that pays after others that are paid
pub pays_later : {whole : List ℕ} {start : ℕ} {old mid new : PageFeeding} {answer : Result PageFed DecodeError}
    → Stays whole start old mid
    → (FewGiven (settings_of old) old.order whole start old.given → FewGiven (settings_of old) old.order whole start mid.given)
    → ((calls before : ℕ) → IsPaidFrom whole start calls before old → IsPaidFrom whole start calls before mid)
    → PaysNext whole start mid new answer → PaysNext whole start old new answer
pays_later {whole} {start} {old} {mid} {new} stays few goes next = record {
  page = next.page;
  given = next.given;
  lost = next.lost;
  counts = omega (arith, stays.rows.counts, next.counts);
  failed = next.failed;
  unfailed = next.unfailed;
  goes_on = λ calls before paid. next.goes_on calls before (goes calls before paid);
  few = λ before.
      at_old stays (λ s o. FewGiven s o whole start mid.given → FewGiven s o whole start next.given) next.few (few before);
  stays = next.stays;
  over = λ e.
      let over = next.over e in
      record {
        is_over = over.is_over;
        size = at_old stays (λ s o. page_by s o whole start ≡ Ok (ended_size next.page)) over.size;
        some = over.some;
        within = over.within;
        most = at_old stays (λ s o. next.given ≤ page_size s.encoding o (drop start whole)) over.most;
        next = over.next;
        none_given = over.none_given;
      };
  same = (next.same.0 ∙ stays.rows.settings, next.same.1 ∙ stays.order);
}

-- ---- A call of the page's reading

module _ (feed : PageFeeding) (new : Feeding) (answer : Result Fed DecodeError) (keeps : KeepsBits feed.page new)
    (reads : (whole : Bits) (tried : ℕ) → ended feed.page.rows.stand ≡ None → IsFeedOf whole tried feed.page
    → FeedsNext whole tried feed.page new answer)
    (at_end : (end : Result (Unit {0}) DecodeError) → ended feed.page.rows.stand ≡ Some end
    → (new ≡ feed.page) × (answer ≡ fed_end end)) (whole : List ℕ) (start : ℕ) (is : IsPageFeedOf whole start feed) where
  abbrev after : PageFeeding
  after = record feed { page = new }

  either : (P : Type 0) → (ended feed.page.rows.stand ≡ None → P)
      → ((end : Result (Unit {0}) DecodeError) → ended feed.page.rows.stand ≡ Some end → P) → P
  either = either_way feed new answer keeps reads at_end

  counts : feed.page.ctx.ticks ≤ new.ctx.ticks
  counts = either _
      (λ none. let read = is.page.reads [] (λ last. refl) enough in
      let next = reads (bits_in feed.order (take feed.given (drop start whole) ++ [])) read.0 none read.1 in
      omega (arith, next.plainly.goes_on.counts))
      (λ end e. omega (arith, ap (λ (f : Feeding). f.ctx.ticks) (at_end end e).0))
    where
      enough : BitsFit (take feed.given (drop start whole) ++ [])
      enough = omega (
        arith,
        length-append (take feed.given (drop start whole)) [],
        length-take-le feed.given (drop start whole) is.page.within,
        is.page.fit,
        is.page.within,
      )

  settings_same : (settings_of after ≡ settings_of feed) × (feed.order ≡ feed.order)
  settings_same = (new_settings feed new answer keeps reads at_end whole start is, refl)

  goes : answer ≢ Err OutOfMemory → (calls before : ℕ) → IsPaidFrom whole start calls before feed
      → IsPaidFrom whole start (calls + 1) before after
  goes other calls before paid = either _ (λ none. read_paid answer keeps none (λ any tried. reads any tried none) paid other)
      (λ end e. subst (IsPaidPage feed.order (drop start whole) feed.given (calls + 1) before) (sym (at_end end e).0)
      (paid_more (omega arith) paid))

  pub pays_read : (result : Result PageFed DecodeError) → answer ≢ Err OutOfMemory → result ≢ Ok PageEnd
      → PaysNext whole start feed after result
  pays_read result other still = pays_still result counts settings_same (λ few. few) still (goes other)

  pays_failed : answer ≡ Err OutOfMemory → PaysNext whole start feed after (Err OutOfMemory)
  pays_failed e = record {
    page = new;
    given = feed.given;
    lost = cost_of_failure new;
    counts = counts;
    failed = omega arith;
    unfailed = λ other. absurd (other refl);
    goes_on = λ calls before paid. either _ (λ none.
        fail_paid answer keeps none (λ any tried. reads any tried none) paid e) (λ end ended_so.
        absurd (is.page.has_memory (ended_so ∙ ap Some (bad_end end OutOfMemory (sym e ∙ (at_end end ended_so).1)))));
    few = λ few. few;
    stays = λ other. (refl, refl);
    over = λ f. absurd cc;
    same = settings_same;
  }

  pub pays_error : (error : DecodeError) → answer ≡ Err error → PaysNext whole start feed after (Err error)
  pays_error error = by_kind (λ (x : DecodeError). answer ≡ Err x → PaysNext whole start feed after (Err x))
      (λ x fault e. pays_read (Err x) (λ memory. let same : x ≡ OutOfMemory = let both = sym e ∙ memory in cc in
      subst IsFault same fault) (λ f. cc)) pays_failed
      (λ e. pays_read _ (λ memory. let both = sym e ∙ memory in cc) (λ f. cc)) error

  pub pays_end : answer ≡ Ok ReadAll → {last : PageFeeding} (result : Result PageFed DecodeError)
      → EndsPageHere after last result → PaysNext whole start feed last result
  pays_end e {last} result ends = record {
    page = new;
    given = feed.given;
    lost = 0;
    counts = counts;
    failed = omega arith;
    unfailed = λ other. refl;
    goes_on = λ calls before paid.
        let none : before ≡ before + 0 = omega arith in
        subst (λ (o : BitOrder). IsPaidPage o (drop start whole) feed.given (calls + 1) (before + 0) new) (sym ends.order)
        (subst (λ (n : ℕ). IsPaidFrom whole start (calls + 1) n after) none
        (goes (λ memory. let both = sym e ∙ memory in cc) calls before paid));
    few = λ few. few;
    stays = λ other.
        let same = unended_is feed new answer keeps reads at_end whole start is e result ends other in
        (ap (λ (f : PageFeeding). f.page) same, ap (λ (f : PageFeeding). f.given) same);
    over = λ f.
        let next = start + ended_size new in
        let fits : BitsFit (drop next whole) = omega (arith, is.fit, length-drop next whole) in
        record {
          is_over = new_ended feed new answer keeps reads at_end whole start is e;
          size = (has feed new answer keeps reads at_end whole start is e).count;
          some = ends.some f;
          within = ends_within feed new answer keeps reads at_end whole start is e;
          most = subst (λ (s : DecodeSettings). feed.given ≤ page_size s.encoding feed.order (drop start whole))
              settings_same.0 (given_within (new_reading feed new answer keeps reads at_end whole start is));
          next = subst (λ (o : BitOrder). IsPaidPage o (drop next whole) last.given 0 0 last.page) (sym ends.order)
              (subst (λ (n : ℕ). IsPaidPage feed.order (drop next whole) n 0 0 last.page) (sym (ends.back f).1)
              (ends.paid f (drop next whole) fits));
          none_given = (ends.back f).1;
        };
    same = by_end result ends;
  }
    where
      by_end : (result : Result PageFed DecodeError) → EndsPageHere after last result
          → (settings_of last ≡ settings_of feed) × (last.order ≡ feed.order)
      by_end (Ok OneRow) ends = absurd (ends.only.0 refl)
      by_end (Ok NeedsMore) ends = absurd (ends.only.1 refl)
      by_end (Ok PageEnd) ends = ((ends.none_read refl).0 ∙ settings_same.0, ends.order)
      by_end (Ok End) ends = (ap settings_of (ends.end refl).0 ∙ settings_same.0, ends.order)
      by_end (Err error) ends = (ap settings_of ends.failed.1 ∙ settings_same.0, ends.order)

-- ---- All calls

-- of a page
page_most : {order : BitOrder} {bytes : List ℕ} {given calls lost : ℕ} {page : Feeding}
    → IsPaidPage order bytes given calls lost page → page.ctx.ticks ≤ 544 * given + 288 + 32 * calls + lost
page_most {order} {bytes} {given} {calls} {lost} {page} paid =
    let all : length (take given bytes ++ []) ≡ given = omega (
      arith,
      length-append (take given bytes) [],
      length-take-le given bytes paid.within,
    ) in
    let read = paid.history [] (λ last. refl) (omega (arith, all, paid.fit, paid.within)) in
    omega (
      arith,
      feeds_are_paid paid.made lost read.0 (bits_in order (take given bytes ++ [])) page read.1 read.2,
      length-bits_in order (take given bytes ++ []),
      all,
      paid.most,
      by_end page.finished,
    )
  where
    by_end : (b : Bool) → ◌≤◌ (cond b 1 0) 1
    by_end true = omega arith
    by_end false = omega arith

-- the page that is next or under way is paid, and so are those before it
record ArePaid (whole : List ℕ) (count : PagesCount) (start : ℕ) (feed : PageFeeding) : Type 0 where
  calls : ℕ
  lost : ℕ
  page : IsPaidFrom whole start calls lost feed
  sum : count.ticks + 32 * calls + lost ≤ 544 * (start + count.again) + 288 * count.pages + 32 * count.calls + count.lost

history_paid : {whole : List ℕ} {count : PagesCount} {start : ℕ} {feed : PageFeeding} → IsPagesHistory whole count start feed
    → ArePaid whole count start feed
history_paid (IsPagesHistory.opens paid unfed) = record { calls = 0; lost = 0; page = paid; sum = omega arith }
history_paid {whole} (IsPagesHistory.feeds {count} {start} {old} {new} before page order given) =
    let paid = history_paid before in
    record {
      calls = paid.calls;
      lost = paid.lost;
      page = subst (λ (o : BitOrder). IsPaidPage o (drop start whole) new.given paid.calls paid.lost new.page) (sym order)
          (subst (λ (n : ℕ). IsPaidPage old.order (drop start whole) n paid.calls paid.lost new.page) (sym given)
          (subst (IsPaidPage old.order (drop start whole) old.given paid.calls paid.lost) (sym page) paid.page));
      sum = paid.sum;
    }
history_paid {whole} (IsPagesHistory.reads {count} {start} {old} {new} before next other) =
    let paid = history_paid before in
    let same = next.stays other in
    record {
      calls = paid.calls + 1;
      lost = paid.lost + next.lost;
      page = subst (λ (n : ℕ). IsPaidPage new.order (drop start whole) n (paid.calls + 1) (paid.lost + next.lost) new.page)
          (sym same.1) (subst (IsPaidPage new.order (drop start whole) next.given (paid.calls + 1) (paid.lost + next.lost))
          (sym same.0) (next.goes_on paid.calls paid.lost paid.page));
      sum = omega (arith, paid.sum);
    }
history_paid {whole} (IsPagesHistory.ends {count} {start} {old} {new} before next) =
    let paid = history_paid before in
    let over = next.over refl in
    record {
      calls = 0;
      lost = 0;
      page = over.next;
      sum = omega (arith, paid.sum, over.within, page_most (next.goes_on paid.calls paid.lost paid.page));
    }

-- ---- Pages that are closed

-- the history is one of pages by these settings, which fill the data; no byte was given again so far
record NoneAgain (settings : DecodeSettings) (order : BitOrder) (whole : List ℕ) (count : PagesCount) (start : ℕ)
    (feed : PageFeeding) : Type 0 where
  same : (settings_of feed ≡ settings) × (feed.order ≡ order)
  stand : (ends : List ℕ) × PagesStand settings order whole start ends
  none : count.again ≡ 0

module _ (settings : DecodeSettings) (order : BitOrder) (whole ends : List ℕ) (law : ReadsPages settings order)
    (three : settings.encoding ≢ Group4) (stand : PagesStand settings order whole 0 ends) where
  -- a page that has ended ends where the next one stands
  ends_there : {start given : ℕ} {page : Feeding} {old new : PageFeeding} → EndsPaid whole start page given old new
      → (settings_of old ≡ settings) × (old.order ≡ order) → given ≤ length (drop start whole)
      → (ends : List ℕ) → PagesStand settings order whole start ends
      → ((ends : List ℕ) × PagesStand settings order whole (start + ended_size page) ends) × (given - ended_size page ≡ 0)
  ends_there {start} {given} {page} {old} over same within [] all =
      absurd (omega (arith, all, over.some, over.within, within, length-drop start whole))
  ends_there {start} {given} {page} {old} over same within (end ∷ ends) stands =
      let closed = stands.2.1 in
      let at : (Q : DecodeSettings → BitOrder → Type 0) → Q (settings_of old) old.order → Q settings order
      = λ Q q. subst (λ (s : DecodeSettings). Q s order) same.0 (subst (Q (settings_of old)) same.1 q) in
      let read : page_by settings order whole start ≡ Ok (ended_size page)
      = at (λ s o. page_by s o whole start ≡ Ok (ended_size page)) over.size in
      let count : end - start ≡ ended_size page
      = let both = sym (law whole start stands.2.0 (end - start) closed).0 ∙ read in cc in
      let there : end ≡ start + ended_size page = omega (arith, count, stands.0) in (
        (ends, subst (λ (n : ℕ). PagesStand settings order whole n ends) there stands.3),
        omega (
          arith,
          count,
          at (λ s o. given ≤ page_size s.encoding o (drop start whole)) over.most,
          closed_size settings order (drop start whole) three closed,
        ),
      )

  none_again : {count : PagesCount} {start : ℕ} {feed : PageFeeding} → IsPagesHistory whole count start feed
      → (settings_of feed ≡ settings) × (feed.order ≡ order) → NoneAgain settings order whole count start feed
  none_again (IsPagesHistory.opens paid unfed) same = record { same = same; stand = (ends, stand); none = refl }
  none_again (IsPagesHistory.feeds before page order_is given) same =
      let was = none_again before (ap (λ (f : Feeding). f.ctx.held.settings) (sym page) ∙ same.0, sym order_is ∙ same.1) in
      record { same = same; stand = was.stand; none = was.none }
  none_again (IsPagesHistory.reads before next other) same =
      let was = none_again before (sym next.same.0 ∙ same.0, sym next.same.1 ∙ same.1) in
      record { same = same; stand = was.stand; none = was.none }
  none_again (IsPagesHistory.ends before next) same =
      let was = none_again before (sym next.same.0 ∙ same.0, sym next.same.1 ∙ same.1) in
      let paid = history_paid before in
      let there = ends_there (next.over refl) was.same (next.goes_on paid.calls paid.lost paid.page).within was.stand.0
      was.stand.1 in
      record { same = same; stand = there.0; none = omega (arith, was.none, there.1) }

-- ---- Pages of Group 4 without a row limit

record FewAgain (settings : DecodeSettings) (order : BitOrder) (whole : List ℕ) (count : PagesCount) (start : ℕ)
    (feed : PageFeeding) : Type 0 where
  few : FewGiven settings order whole start feed.given
  again : count.again ≤ start + 66 * count.pages

module _ (settings : DecodeSettings) (order : BitOrder) (whole : List ℕ) (four : settings.encoding ≡ Group4)
    (unlimited : settings.rows ≡ 0) where
  few_again : {count : PagesCount} {start : ℕ} {feed : PageFeeding} → IsPagesHistory whole count start feed
      → (settings_of feed ≡ settings) × (feed.order ≡ order) → FewAgain settings order whole count start feed
  few_again (IsPagesHistory.opens paid unfed) same = record {
    few = λ f u size some read. omega (arith, unfed);
    again = omega arith;
  }
  few_again (IsPagesHistory.feeds {count} {start} {old} {new} before page order_is given) same =
      let was = few_again before (ap (λ (f : Feeding). f.ctx.held.settings) (sym page) ∙ same.0, sym order_is ∙ same.1) in
      record { few = subst (FewGiven settings order whole start) (sym given) was.few; again = was.again }
  few_again (IsPagesHistory.reads {count} {start} {old} {new} before next other) same =
      let (settings_is, order_is) : (settings_of old ≡ settings) × (old.order ≡ order)
      = (sym next.same.0 ∙ same.0, sym next.same.1 ∙ same.1) in
      let was = few_again before (settings_is, order_is) in
      record {
        few = subst (FewGiven settings order whole start) (sym (next.stays other).1)
            (few_there settings_is order_is next.few was.few);
        again = was.again;
      }
    where
      few_there : {s : DecodeSettings} {o : BitOrder} {n m : ℕ} → s ≡ settings → o ≡ order
          → (FewGiven s o whole start n → FewGiven s o whole start m) → FewGiven settings order whole start n
          → FewGiven settings order whole start m
      few_there {s} {o} {n} {m} settings_is order_is few =
          subst (λ (o : BitOrder). FewGiven settings o whole start n → FewGiven settings o whole start m) order_is
          (subst (λ (s : DecodeSettings). FewGiven s o whole start n → FewGiven s o whole start m) settings_is few)
  few_again (IsPagesHistory.ends {count} {start} {old} {new} before next) same =
      let settings_is = sym next.same.0 ∙ same.0 in
      let order_is = sym next.same.1 ∙ same.1 in
      let was = few_again before (settings_is, order_is) in
      let over = next.over refl in
      let before_it = subst (λ (o : BitOrder). FewGiven (settings_of old) o whole start old.given) (sym order_is)
      (subst (λ (s : DecodeSettings). FewGiven s order whole start old.given) (sym settings_is) was.few) in
      let few = next.few before_it (ap (λ (s : DecodeSettings). s.encoding) settings_is ∙ four)
      (ap (λ (s : DecodeSettings). s.rows) settings_is ∙ unlimited) (ended_size next.page) over.some over.size in
      record {
        few = λ f u size some read. omega (arith, over.none_given);
        again = omega (arith, was.again, few);
      }

-- ---- The law

pub pages_are_paid : PagesArePaid
pages_are_paid = record {
  work = λ whole count start feed history.
      let paid = history_paid history in
      omega (arith, paid.sum, page_most paid.page);
  closed = λ whole ends count start feed history three are stand.
      (none_again (settings_of feed) feed.order whole ends (pages_read (settings_of feed) feed.order closed_pictures are)
      three stand history (refl, refl)).none;
  group4 = λ whole count start feed history four unlimited.
      (few_again (settings_of feed) feed.order whole four unlimited history (refl, refl)).again;
}
