-- What a call of a page's reading leaves.
use Rattle.hayro_ccitt.proofs.Names.{◌≡◌, ◌≢◌, ℕ, ◌+◌, ◌≤◌, ◌++◌, ◌∙◌, inr, Bool, true, false, List}
use Rattle.hayro_ccitt.proofs.Names.{Option, None, Some, Result, Ok, Err, refl, sym, ap, subst, arith, length, drop, length-drop}
use Rattle.hayro_ccitt.proofs.Names.{Bits, bits_in, DecodeError, DecodeSettings, OutOfMemory, HasEnded, HasFailed, IfErr, IsFault}
use Rattle.hayro_ccitt.proofs.Names.{Group4, MissIsReported, ReadsNext, RowsRead, ended, missed_before, plain, ◌<◌}
use Rattle.hayro_ccitt.specs.BitOrder.{BitOrder}
use Rattle.hayro_ccitt.specs.Bits.{BitsFit}
use Rattle.hayro_ccitt.specs.RowFeeds.{Feeding, FeedsNext, IsFeedOf, KeepsBits, StandsIn, StaysThere, completed, fed_end}
use Rattle.hayro_ccitt.specs.RowFeeds.{offset_of}
use Rattle.hayro_ccitt.specs.Fed.{Fed}
use Rattle.hayro_ccitt.specs.Fed.TheVariants.{Row as ReadRow, NeedsMore as WantsMore, End as ReadAll}
use Rattle.hayro_ccitt.specs.RowState.{RowState}
use Rattle.hayro_ccitt.specs.Stand.{Stand}
use Rattle.hayro_ccitt.specs.Stand.TheVariants.{AtLine, AfterRow, AtEnd, AtFault}
use Rattle.hayro_ccitt.proofs.BitReading.BitLists.{length-bits_in}
use Rattle.hayro_ccitt.proofs.ErrorKinds.{by_kind}
use Rattle.hayro_ccitt.proofs.Readings.RowByRow.{failed_stands}
use Rattle.fax_callers.specs.PageFeeds.{EndsPage, EndsPageHere, GivesNext, HasNoRow, IsPageFeedOf, IsPageReading, PageFeeding}
use Rattle.fax_callers.specs.PageFeeds.{SameRows}
use Rattle.fax_callers.specs.PageFeeds.{bytes_read, page_bits, read_over, settings_of}
use Rattle.fax_callers.specs.Pages.{page_by, page_bytes}
use Rattle.fax_callers.specs.declared.page_feed.PageFed.{PageFed}
use Rattle.fax_callers.specs.declared.page_feed.PageFed.TheVariants.{Row as OneRow, NeedsMore, End, PageEnd}
use Rattle.fax_callers.specs.Rtc.{none_seen}
use Rattle.fax_callers.specs.declared.rtc.EolsSeen.{EolsSeen}
use Rattle.hayro_ccitt.proofs.Readings.FeedsCompleted.{full_long}
use Rattle.fax_callers.proofs.PageReadings.{kept_page}
use Rattle.fax_callers.proofs.PagesNeeded.{some_wide, waits_near}
use Rattle.fax_callers.proofs.PagesFed.{ended_within, has_ended, page_moves, page_reads, same_rows}

-- ---- One call

-- the settings are the same, and an allocation failure isn't an end
turned : {whole : Bits} {tried : ℕ} {old new : Feeding} (answer : Result Fed DecodeError) → FeedsNext whole tried old new answer
    → (new.ctx.held.settings ≡ old.ctx.held.settings) × (ended new.rows.stand ≢ Some (Err OutOfMemory))
turned (Ok ReadRow) next =
    let reads = next.plainly.row refl in (reads.settings, λ e. let never = sym (reads.more refl).0 ∙ e in cc)
turned (Ok WantsMore) next =
    let stays = next.plainly.none refl in (stays.settings, λ e. let never = sym stays.unended ∙ e in cc)
turned (Ok ReadAll) next =
    let reads = next.plainly.end refl in (reads.settings, λ e. let never = sym (reads.end refl).0 ∙ e in cc)
turned {whole} {tried} {old} {new} (Err error) next =
    by_kind (λ (e : DecodeError). FeedsNext whole tried old new (Err e)
    → (new.ctx.held.settings ≡ old.ctx.held.settings) × (ended new.rows.stand ≢ Some (Err OutOfMemory)))
    (λ e fault next.
    let reads = next.plainly.fault (λ is. subst IsFault is fault) in
    (reads.settings, λ f. other e fault (sym reads.error.0 ∙ f)))
    (λ next. let stays = next.plainly.none refl in (stays.settings, λ e. let never = sym stays.unended ∙ e in cc))
    (λ next. absurd ((next.plainly.fault (λ is. cc)).error.2.not_refused refl)) error next
  where
    other : (e : DecodeError) → IsFault e → ◌≡◌ {A = Option (Result (Unit {0}) DecodeError)} (Some (Err e)) (Some
        (Err OutOfMemory)) → ⊥
    other e fault same = let is : e ≡ OutOfMemory = cc in subst IsFault is fault

-- what is unchanged where no row was read
stays_same : {old new : RowsRead} → StaysThere old new → SameRows old new
stays_same stays = record {
  settings = stays.settings;
  counts = stays.counts;
  taken = stays.taken;
  row = stays.row;
  damage = stays.damage;
  cut = stays.cut;
  line_start = stays.line_start;
}

end_same : {old new : RowsRead} → ReadsNext old new (Ok false) → SameRows old new
end_same reads = record {
  settings = reads.settings;
  counts = reads.counts;
  taken = (reads.end refl).1;
  row = (reads.last (λ e. cc)).0;
  damage = (reads.last (λ e. cc)).1;
  cut = (reads.last (λ e. cc)).2;
  line_start = reads.last_start refl;
}

-- ---- The reading has ended before

no_row : (end : Result (Unit {0}) DecodeError) → ◌≡◌ {A = Result Fed DecodeError} (Ok ReadRow) (fed_end end) → ⊥
no_row (Ok x) e = cc
no_row (Err error) e = cc

no_more : (end : Result (Unit {0}) DecodeError) → ◌≡◌ {A = Result Fed DecodeError} (Ok WantsMore) (fed_end end) → ⊥
no_more (Ok x) e = cc
no_more (Err error) e = cc

good_end : (end : Result (Unit {0}) DecodeError) → ◌≡◌ {A = Result Fed DecodeError} (Ok ReadAll) (fed_end end) → end ≡ Ok tt
good_end (Ok x) e = refl
good_end (Err error) e = absurd cc

pub bad_end : (end : Result (Unit {0}) DecodeError) (error : DecodeError)
    → ◌≡◌ {A = Result Fed DecodeError} (Err error) (fed_end end) → end ≡ Err error
bad_end (Ok x) error e = absurd cc
bad_end (Err other) error e = let same : other ≡ error = cc in ap Err same

-- after a fault each call leaves that fault
failed_again : {whole : Bits} {tried : ℕ} {page : Feeding} {error : DecodeError} → IsFeedOf whole tried page
    → ended page.rows.stand ≡ Some (Err error) → ReadsNext (read_over whole page) (read_over whole page) (Err error)
failed_again {whole} {tried} {page} {error} is e = by_begun page.begun is.stands
  where
    there : 0 + offset_of page ≡ offset_of page
    there = omega arith

    reported : (stand : Stand) → ended stand ≡ Some (Err error)
        → MissIsReported stand page.ctx.held.settings whole page.ctx.held.taken page.rows.missed
        → page.rows.missed ≡ missed_before page.ctx.held.settings whole page.ctx.held.taken
    reported AtLine e is = absurd cc
    reported AfterRow e is = absurd cc
    reported AtEnd e is = is
    reported (AtFault other) e is = is

    by_begun : (begun : Bool) → StandsIn begun tried page.rows page.ctx
        (record { bits = whole; place = offset_of page })
        → ReadsNext (read_over whole page) (read_over whole page) (Err error)
    by_begun false front = let never = sym (ap (λ (r : RowState). ended r.stand) front.state) ∙ e in absurd cc
    by_begun true stands =
        let failed = (failed_stands page.rows.stand page.ctx.held.settings whole page.ctx.held (offset_of page) e
        stands.0).0 in
        record {
          settings = refl;
          bits = refl;
          counts = omega arith;
          more = λ f. absurd cc;
          row = λ f. absurd cc;
          line_start = λ f. absurd cc;
          place = λ f. absurd cc;
          damage = λ f. absurd cc;
          cut = λ f. absurd cc;
          end = λ f. absurd cc;
          error = (
            e,
            refl,
            subst (λ (n : ℕ). HasFailed page.ctx.held.settings whole page.ctx.held.taken n error) (sym there)
                failed,
          );
          fault_start = λ none. let never = sym none ∙ e in absurd cc;
          missed = reported page.rows.stand e stands.3;
          last = λ f. (refl, refl, refl);
          last_start = λ f. absurd cc;
        }

-- ---- A page

module _ (feed : PageFeeding) (new : Feeding) (answer : Result Fed DecodeError) (keeps : KeepsBits feed.page new)
    (reads : (whole : Bits) (tried : ℕ) → ended feed.page.rows.stand ≡ None → IsFeedOf whole tried feed.page
    → FeedsNext whole tried feed.page new answer)
    (at_end : (end : Result (Unit {0}) DecodeError) → ended feed.page.rows.stand ≡ Some end
    → (new ≡ feed.page) × (answer ≡ fed_end end)) where
  pub either_way : (P : Type 0) → (ended feed.page.rows.stand ≡ None → P)
      → ((end : Result (Unit {0}) DecodeError) → ended feed.page.rows.stand ≡ Some end → P) → P
  either_way P on after = by_end (ended feed.page.rows.stand) refl
    where
      by_end : (end : Option (Result (Unit {0}) DecodeError)) → ended feed.page.rows.stand ≡ end → P
      by_end None e = on e
      by_end (Some end) e = after end e

  module _ (whole : List ℕ) (start : ℕ) (is : IsPageFeedOf whole start feed) where
    abbrev bits : Bits
    bits = page_bits whole start feed

    abbrev after : PageFeeding
    after = record feed { page = new }

    next_of : {r : Result Fed DecodeError} → answer ≡ r → ended feed.page.rows.stand ≡ None
        → FeedsNext bits (page_reads is.page).0 feed.page new r
    next_of e unended =
        subst (FeedsNext bits (page_reads is.page).0 feed.page new) e
        (reads bits (page_reads is.page).0 unended (page_reads is.page).1)

    pub new_settings : new.ctx.held.settings ≡ settings_of feed
    new_settings = either_way _ (λ e. (turned answer (next_of refl e)).0)
        (λ end e. ap (λ (f : Feeding). f.ctx.held.settings) (at_end end e).0)

    pub new_reading : IsPageReading feed.order (drop start whole) feed.given feed.seen new
    new_reading = either_way _ (λ e.
        kept_page is.page (λ any tried fed. let next = reads any tried e fed in (tried + next.plainly.extra, next.stands))
        (turned answer (next_of refl e)).0 keeps.order keeps.finished (omega (arith, keeps.dropped, ap length keeps.kept))
        (turned answer (next_of refl e)).1)
        (λ end e. subst (IsPageReading feed.order (drop start whole) feed.given feed.seen) (sym (at_end end e).0) is.page)

    is_after : IsPageFeedOf whole start after
    is_after = page_moves new feed.seen feed.next feed.given 0 refl is (omega arith)
        (omega arith) is.next new_reading new_settings

    -- a row was read
    pub gives_row : answer ≡ Ok ReadRow → GivesNext whole start feed after (Ok OneRow)
    gives_row e = record {
      row = λ f. (next_of e (either_way _ (λ none. none) (λ end some. absurd (no_row end (sym e
          ∙ (at_end end some).1))))).plainly.row refl;
      page_end = λ f. absurd cc;
      end = λ f. absurd cc;
      fault = tt;
      none = λ none. absurd none;
      stands = λ f. is_after;
    }

    -- more bytes are needed
    unended_more : answer ≡ Ok WantsMore → ended feed.page.rows.stand ≡ None
    unended_more e = either_way _ (λ none. none) (λ end some. absurd (no_more end (sym e ∙ (at_end end some).1)))

    pub gives_none : answer ≡ Ok WantsMore → GivesNext whole start feed after (Ok NeedsMore)
    gives_none e = record {
      row = λ f. absurd cc;
      page_end = λ f. absurd cc;
      end = λ f. absurd cc;
      fault = tt;
      none = λ none. stays_same ((next_of e (unended_more e)).plainly.none refl);
      stands = λ f. is_after;
    }

    pub waits_unended : answer ≡ Ok WantsMore → ended new.rows.stand ≡ None
    waits_unended e = ((next_of e (unended_more e)).plainly.none refl).unended

    pub waits_unfinished : answer ≡ Ok WantsMore → new.finished ≡ false
    waits_unfinished e = ((next_of e (unended_more e)).plainly.unsettled refl).0

    -- so all bytes that were given but one are needed
    pub waits_few : answer ≡ Ok WantsMore → (settings_of feed).encoding ≡ Group4 → (settings_of feed).rows ≡ 0 → (size : ℕ)
        → 0 < size → page_by (settings_of feed) feed.order whole start ≡ Ok size → feed.given ≤ size + 1
    waits_few e four unlimited size some outcome =
        let next = next_of e (unended_more e) in
        let same = new_settings in
        let bytes = page_bytes (settings_of feed) feed.order whole start in
        waits_near (completed bits new) next.plainly.stands next.plainly.goes_on.within (next.plainly.unsettled refl).1
        (ap (λ (s : DecodeSettings). s.encoding) same ∙ four) (ap (λ (s : DecodeSettings). s.rows) same ∙ unlimited)
        (some_wide new.ctx.held.settings bits size some there) (length bytes) feed.given size (length-bits_in feed.order bytes)
        (omega (arith, keeps.dropped, ap length keeps.kept, is.page.counted, full_long next.stands)) there
      where
        there : (plain new.ctx.held.settings bits).outcome ≡ Ok size
        there = subst (λ (s : DecodeSettings). (plain s bits).outcome ≡ Ok size) (sym new_settings) outcome

    -- a fault, or no memory
    pub gives_fault : (error : DecodeError) → answer ≡ Err error → GivesNext whole start feed after (Err error)
    gives_fault error e = record {
      row = λ f. absurd cc;
      page_end = λ f. absurd cc;
      end = λ f. absurd cc;
      fault = λ some. either_way _ (λ none. (next_of e none).plainly.fault some) (λ end ended_so.
          subst (λ (f : Feeding). ReadsNext (read_over bits feed.page) (read_over bits f) (Err error))
          (sym (at_end end ended_so).0)
          (failed_again (page_reads is.page).1 (ended_so ∙ ap Some (bad_end end error (sym e ∙ (at_end end ended_so).1)))));
      none = λ memory. either_way _ (λ none. stays_same ((next_of e none).plainly.none memory)) (λ end ended_so.
          absurd (is.page.has_memory (ended_so ∙ ap Some (bad_end end error (sym e ∙ (at_end end ended_so).1)
          ∙ ap Err memory))));
      stands = λ f. is_after;
    }

    -- the page has ended
    module _ (e : answer ≡ Ok ReadAll) where
      pub new_ended : ended new.rows.stand ≡ Some (Ok tt)
      new_ended = either_way _ (λ none. (((next_of e none).plainly.end refl).end refl).0) (λ end some.
          ap (λ (f : Feeding). ended f.rows.stand) (at_end end some).0 ∙ some
          ∙ ap Some (good_end end (sym e ∙ (at_end end some).1)))

      same : SameRows (read_over bits feed.page) (read_over bits new)
      same = either_way _ (λ none. end_same ((next_of e none).plainly.end refl)) (λ end some.
          same_rows bits feed.page new (ap (λ (f : Feeding). f.ctx) (at_end end some).0)
          (ap (λ (f : Feeding). f.rows) (at_end end some).0))

      pub has : HasEnded (settings_of feed) bits new.ctx.held.taken (offset_of new)
      has = subst (λ (s : DecodeSettings). HasEnded s (bits_in feed.order (page_bytes s feed.order whole start))
          new.ctx.held.taken (offset_of new)) new_settings (has_ended (page_reads new_reading).1 new_ended)

      pub ends_within : bytes_read after ≤ feed.given
      ends_within = ended_within new_reading new_ended

      -- the next one begins after it
      next_page : {last : PageFeeding} → EndsPageHere after last (Ok PageEnd) → IsPageFeedOf whole (start + bytes_read after) last
      next_page {last} ends =
          let back = ends.back refl in
          let least = is.unread (bytes_read after) has.count in
          let rest_fits : BitsFit (drop (start + bytes_read after) whole)
          = omega (arith, is.fit, length-drop (start + bytes_read after) whole) in
          let reading : IsPageReading feed.order (drop (start + bytes_read after) whole) 0 none_seen last.page
          = ends.begins refl (drop (start + bytes_read after) whole) rest_fits in
          record {
            fit = is.fit;
            within = omega (arith, is.within, ends_within, is.page.within, length-drop start whole);
            page = subst (λ (n : ℕ). IsPageReading last.order (drop (start + bytes_read after) whole) n last.seen last.page)
                (sym back.1) (subst (λ (s : EolsSeen). IsPageReading last.order (drop (start + bytes_read after) whole) 0 s
                last.page) (sym back.2) (subst (λ (o : BitOrder). IsPageReading o (drop
                (start + bytes_read after) whole) 0 none_seen
                last.page) (sym ends.order) reading));
            dropped = is.dropped;
            more = is.more;
            bytes = is.bytes ∙ ap (λ (l : List ℕ). l ++ is.more) (sym back.0);
            next = omega (arith, is.next, back.3, ap length back.0);
            place = omega (arith, is.place, back.1, back.3, ends_within, least);
            none = λ last_one. is.none (sym ends.finished ∙ last_one);
            unread = λ count read. omega (arith, least);
          }

      pub unended_is : {last : PageFeeding} (result : Result PageFed DecodeError) → EndsPageHere after last result
          → result ≢ Ok PageEnd → last ≡ after
      unended_is (Ok OneRow) ends other = absurd (ends.only.0 refl)
      unended_is (Ok NeedsMore) ends other = absurd (ends.only.1 refl)
      unended_is (Ok PageEnd) ends other = absurd (other refl)
      unended_is (Ok End) ends other = (ends.end refl).0
      unended_is (Err error) ends other = ends.failed.1

      no_end : (result : Result PageFed DecodeError) → HasNoRow result → result ≢ Ok PageEnd
      no_end (Ok OneRow) none f = none
      no_end (Ok NeedsMore) none f = cc
      no_end (Ok PageEnd) none f = none
      no_end (Ok End) none f = cc
      no_end (Err error) none f = cc

      no_fault : {last : PageFeeding} (result : Result PageFed DecodeError) → EndsPageHere after last result
          → (P : DecodeError → Type 0) → IfErr result (λ error. error ≢ OutOfMemory → P error)
      no_fault (Ok x) ends P = tt
      no_fault (Err error) ends P = λ some. absurd (some ends.failed.0)

      ends_page : {last : PageFeeding} → EndsPageHere after last (Ok PageEnd) → EndsPage whole start feed last
      ends_page {last} ends = record {
        count = bytes_read after;
        some = ends.some refl;
        read = has.count;
        all = sym same.taken ∙ has.all;
        next = next_page ends;
        none_read = (ends.none_read refl).1;
        settings = (ends.none_read refl).0 ∙ new_settings;
      }

      pub gives_end : {last : PageFeeding} (result : Result PageFed DecodeError) → EndsPageHere after last result
          → GivesNext whole start feed last result
      gives_end {last} result ends = record {
        row = λ f. absurd (ends.only.0 f);
        page_end = λ f. ends_page (subst (EndsPageHere after last) f ends);
        end = λ f. inr (has.count ∙ ap Ok (ends.end f).1);
        fault = no_fault result ends _;
        none = λ none. subst (λ (l : PageFeeding). SameRows (read_over bits feed.page) (read_over bits l.page))
            (sym (unended_is result ends (no_end result none))) same;
        stands = λ other. subst (IsPageFeedOf whole start) (sym (unended_is result ends other)) is_after;
      }
