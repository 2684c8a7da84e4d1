-- Pages that are read while they are fed.
use Rattle.hayro_ccitt.proofs.Names.{◌≡◌, ◌≢◌, ℕ, ◌+◌, ◌/◌, ◌<◌, ◌≤◌, ◌++◌, ◌∷◌, ◌∙◌, inl, inr, Bool, true, false, List, []}
use Rattle.hayro_ccitt.proofs.Names.{None, Some, Result, Ok, Err, refl, sym, ap, subst, arith, length, drop, get_or}
use Rattle.hayro_ccitt.proofs.Names.{length-append, length-drop, replicate, Bits, bits_in, DecodeError, DecodeSettings}
use Rattle.hayro_ccitt.proofs.Names.{OutOfMemory, HasEnded}
use Rattle.hayro_ccitt.proofs.Names.{HasFailed, IfErr, IsFault, OnErr, ReadsNext, Row, RowsRead, eol, failed_at, fault_in, cut_in}
use Rattle.hayro_ccitt.proofs.Names.{cuts_by_line, line_starts, missed_before, plain, repairs_by_line, row_ends}
use Rattle.hayro_ccitt.specs.BitOrder.{BitOrder}
use Rattle.hayro_ccitt.specs.Encodings.{tag_of}
use Rattle.hayro_ccitt.specs.RowFeeds.{Feeding}
use Rattle.hayro_ccitt.proofs.BitReading.BitLists.{length-bits_in}
use Rattle.hayro_ccitt.proofs.ErrorKinds.{by_kind}
use Rattle.fax_callers.specs.PageFeeds.{EndsPage, GivesNext, GivesPage, IsPageFeedOf, NoPageIsLeft, PageFeeding}
use Rattle.fax_callers.specs.PageFeeds.{SameRows, Stays, Waits, page_bits, settings_of}
use Rattle.fax_callers.specs.Pages.{IsPage, ReadsPages, page_by, page_bytes}
use Rattle.fax_callers.specs.Readings.{reading_of}
use Rattle.fax_callers.specs.PageFeeds.{read_over}
use Rattle.fax_callers.specs.declared.page_feed.PageFed.{PageFed}
use Rattle.fax_callers.specs.declared.page_feed.PageFed.TheVariants.{NeedsMore}

-- ---- A row after calls that give none

reads_later : {before mid new : RowsRead} {result : Result Bool DecodeError} → SameRows before mid → mid.bits ≡ before.bits
    → (before.end ≡ None → mid.end ≡ None) → ReadsNext mid new result → ReadsNext before new result
reads_later {before} {mid} {new} {result} same bits unended reads = record {
  settings = reads.settings ∙ same.settings;
  bits = reads.bits ∙ bits;
  counts = omega (arith, reads.counts, same.counts);
  more = at (λ s b n. result ≡ Ok true → (new.end ≡ None) × (new.taken ≡ n + 1) × (new.taken ≤ length
      (plain s b).rows)) reads.more;
  row = at (λ s b n. result ≡ Ok true → new.row ≡ get_or (plain s b).rows n []) reads.row;
  line_start = at (λ s b n. result ≡ Ok true → new.line_start ≡ get_or (line_starts s b) n 0) reads.line_start;
  place = at (λ s b n. result ≡ Ok true → new.place ≡ get_or (row_ends s b) n 0) reads.place;
  damage = at (λ s b n. result ≡ Ok true → new.damage ≡ fault_in (get_or (repairs_by_line s b) n [])) reads.damage;
  cut = at (λ s b n. result ≡ Ok true → new.cut ≡ cut_in (get_or (cuts_by_line s b) n [])) reads.cut;
  end = at (λ s b n. result ≡ Ok false → (new.end ≡ Some (Ok tt)) × (new.taken ≡ n) × HasEnded s b new.taken new.place) reads.end;
  error = at (λ s b n. IfErr result (λ e. (new.end ≡ Some (Err e)) × (new.taken ≡ n) × HasFailed s b new.taken new.place e))
      reads.error;
  fault_start = λ none. at (λ s b n. OnErr result (new.line_start ≡ failed_at s b n)) (reads.fault_start (unended none));
  missed = at (λ s b n. new.missed ≡ missed_before s b n) reads.missed;
  last = λ none. ((reads.last none).0 ∙ same.row, (reads.last none).1 ∙ same.damage, (reads.last none).2 ∙ same.cut);
  last_start = λ none. reads.last_start none ∙ same.line_start;
}
  where
    at : (Q : DecodeSettings → Bits → ℕ → Type 0) → Q mid.settings mid.bits mid.taken → Q before.settings before.bits before.taken
    at Q q =
        subst (λ (s : DecodeSettings). Q s before.bits before.taken) same.settings
        (subst (λ (b : Bits). Q mid.settings b before.taken) bits (subst (Q mid.settings mid.bits) same.taken q))

same_later : {before mid new : RowsRead} → SameRows before mid → SameRows mid new → SameRows before new
same_later one two = record {
  settings = two.settings ∙ one.settings;
  counts = omega (arith, one.counts, two.counts);
  taken = two.taken ∙ one.taken;
  row = two.row ∙ one.row;
  damage = two.damage ∙ one.damage;
  cut = two.cut ∙ one.cut;
  line_start = two.line_start ∙ one.line_start;
}

-- of other bits
same_of : (bits other : Bits) (old new : Feeding) → SameRows (read_over bits old) (read_over bits new)
    → SameRows (read_over other old) (read_over other new)
same_of bits other old new same = record {
  settings = same.settings;
  counts = same.counts;
  taken = same.taken;
  row = same.row;
  damage = same.damage;
  cut = same.cut;
  line_start = same.line_start;
}

module _ {whole : List ℕ} {start : ℕ} {old mid : PageFeeding} (stays : Stays whole start old mid) where
  pub at_old : (Q : DecodeSettings → BitOrder → Type 0) → Q (settings_of mid) mid.order → Q (settings_of old) old.order
  at_old Q q = subst (λ (s : DecodeSettings). Q s old.order) stays.rows.settings (subst (Q (settings_of mid)) stays.order q)

  same_bits : page_bits whole start mid ≡ page_bits whole start old
  same_bits = at_old (λ s o. page_bits whole start mid ≡ bits_in o (page_bytes s o whole start)) refl

  pub stays_later : {new : PageFeeding} → Stays whole start mid new → Stays whole start old new
  stays_later {new} later = record {
    is = later.is;
    rows = same_later stays.rows
        (same_of (page_bits whole start mid) (page_bits whole start old) mid.page new.page later.rows);
    order = later.order ∙ stays.order;
    finished = later.finished ∙ stays.finished;
    unended = λ none. later.unended (stays.unended none);
  }

  reads_row : (new : PageFeeding) {result : Result Bool DecodeError}
      → ReadsNext (read_over (page_bits whole start mid) mid.page) (read_over (page_bits whole start mid) new.page) result
      → ReadsNext (read_over (page_bits whole start old) old.page) (read_over (page_bits whole start old) new.page) result
  reads_row new {result} reads =
      reads_later stays.rows refl stays.unended
      (subst (λ (b : Bits). ReadsNext (read_over b mid.page) (read_over b new.page) result) same_bits reads)

  ends_later : {new : PageFeeding} → EndsPage whole start mid new → EndsPage whole start old new
  ends_later {new} ends = record {
    count = ends.count;
    some = ends.some;
    read = at_old (λ s o. page_by s o whole start ≡ Ok ends.count) ends.read;
    all = sym stays.rows.taken ∙ at_old (λ s o. mid.page.ctx.held.taken
        ≡ length (reading_of s o (page_bytes s o whole start)).rows) ends.all;
    next = ends.next;
    none_read = ends.none_read;
    settings = ends.settings ∙ stays.rows.settings;
  }

  none_later : NoPageIsLeft whole start mid → NoPageIsLeft whole start old
  none_later (inl (last, all)) = inl (sym stays.finished ∙ last, all)
  none_later (inr none) = inr (at_old (λ s o. page_by s o whole start ≡ Ok 0) none)

  -- the call gives the same of the reading before
  pub gives_later : {new : PageFeeding} (answer : Result PageFed DecodeError) → GivesNext whole start mid new answer
      → GivesNext whole start old new answer
  gives_later {new} answer gives = record {
    row = λ e. reads_row new (gives.row e);
    page_end = λ e. ends_later (gives.page_end e);
    end = λ e. none_later (gives.end e);
    fault = by_fault answer gives.fault;
    none = λ none. same_later stays.rows
        (same_of (page_bits whole start mid) (page_bits whole start old) mid.page new.page (gives.none none));
    stands = gives.stands;
  }
    where
      by_fault : (answer : Result PageFed DecodeError) → IfErr answer (λ e. e ≢ OutOfMemory
          → ReadsNext (read_over (page_bits whole start mid) mid.page) (read_over (page_bits whole start mid) new.page) (Err e))
          → IfErr answer (λ e. e ≢ OutOfMemory
          → ReadsNext (read_over (page_bits whole start old) old.page) (read_over (page_bits whole start old) new.page) (Err e))
      by_fault (Ok x) fault = tt
      by_fault (Err error) fault = λ some. reads_row new (fault some)

-- a call that needs more bytes leaves the reading where it is
pub needs_stays : {whole : List ℕ} {start : ℕ} {old new : PageFeeding} → IsPageFeedOf whole start old → Waits old new
    → GivesNext whole start old new (Ok NeedsMore) → Stays whole start old new
needs_stays {whole} {start} {old} {new} is waits gives = record {
  is = gives.stands (λ e. cc);
  rows = gives.none tt;
  order = waits.order;
  finished = waits.finished;
  unended = λ none. waits.unended whole start is;
}

-- where it stays, more bytes are needed, or there is no memory
pub stays_needs : {whole : List ℕ} {start : ℕ} {old new : PageFeeding} → Stays whole start old new
    → GivesNext whole start old new (Ok NeedsMore)
stays_needs stays = record {
  row = λ e. absurd cc;
  page_end = λ e. absurd cc;
  end = λ e. absurd cc;
  fault = tt;
  none = λ none. stays.rows;
  stands = λ e. stays.is;
}

pub stays_fails : {whole : List ℕ} {start : ℕ} {old new : PageFeeding} (error : DecodeError) → error ≡ OutOfMemory
    → Stays whole start old new → GivesNext whole start old new (Err error)
stays_fails error memory stays = record {
  row = λ e. absurd cc;
  page_end = λ e. absurd cc;
  end = λ e. absurd cc;
  fault = λ some. absurd (some memory);
  none = λ none. stays.rows;
  stands = λ e. stays.is;
}

-- ---- A page that is closed

-- has bytes
page_least : {settings : DecodeSettings} {rows : List Row} {count : ℕ} (order : BitOrder) (bytes : List ℕ)
    → IsPage settings rows count (bits_in order bytes) → (0 < count) × (0 < length bytes)
page_least {settings} {rows} {count} order bytes page = by_kind_of page
  where
    from_bits : (bits : Bits) (rest : Bits) → bits_in order bytes ≡ bits ++ rest → count ≡ (length bits + 7) / 8 → 0 < length bits
        → (0 < count) × (0 < length bytes)
    from_bits bits rest split size some =
        (omega (arith, size, some), omega (arith, some, ap length split, length-append bits rest, length-bits_in order bytes))

    eol_least : (fill : ℕ) → 0 < length (eol fill)
    eol_least fill = omega (arith, length-append (replicate (11 + fill) false) (true ∷ []))

    by_kind_of : IsPage settings rows count (bits_in order bytes) → (0 < count) × (0 < length bytes)
    by_kind_of (IsPage.by_eofb bits begins size) =
        let body = begins.picture.0 in
        from_bits bits begins.begins.0 begins.begins.1 size (omega (
          arith,
          ap length begins.picture.3,
          length-append body (eol 0 ++ eol 0),
          length-append (body ++ eol 0) (eol 0),
          length-append body (eol 0),
          length-append (eol 0) (eol 0),
          eol_least 0,
        ))
    by_kind_of (IsPage.by_rtc bits begins size) =
        let lines = begins.picture.0 in let closing = begins.picture.1 in let first = begins.picture.5 in
        from_bits bits begins.begins.0 begins.begins.1 size (omega (
          arith,
          ap length begins.picture.6,
          length-append lines closing,
          ap length first.3,
          length-append (eol first.0) (tag_of settings.encoding ++ first.1),
          length-append (eol first.0 ++ tag_of settings.encoding) first.1,
          length-append (eol first.0) (tag_of settings.encoding),
          eol_least first.0,
        ))

pub given_page : {whole : List ℕ} {start : ℕ} {old new : PageFeeding} (answer : Result PageFed DecodeError)
    → GivesNext whole start old new answer → ReadsPages (settings_of old) old.order → (rows : List Row) (count : ℕ)
    → IsPage (settings_of old) rows count (bits_in old.order (drop start whole))
    → GivesPage whole start rows count old new answer
given_page {whole} {start} {old} {new} answer gives law rows count page = record {
  row = λ e. let reads = gives.row e in (
    omega (arith, (reads.more refl).1, (reads.more refl).2, ap length all_rows),
    reads.row refl ∙ ap (λ (l : List Row). get_or l old.page.ctx.held.taken []) all_rows,
    (reads.more refl).1,
  );
  page_end = λ e.
      let ends = gives.page_end e in
      let same : ends.count ≡ count = let both = sym ends.read ∙ outcome in cc in
      (ends.all ∙ ap length all_rows, subst (λ (n : ℕ). IsPageFeedOf whole (start + n) new) same ends.next);
  not_end = λ e. no_end (gives.end e);
  only_memory = by_fault answer gives.fault;
}
  where
    outcome : page_by (settings_of old) old.order whole start ≡ Ok count
    outcome = (law whole start rows count page).0

    all_rows : (reading_of (settings_of old) old.order (page_bytes (settings_of old) old.order whole start)).rows ≡ rows
    all_rows = (law whole start rows count page).2

    some : (0 < count) × (0 < length (drop start whole))
    some = page_least old.order (drop start whole) page

    no_end : NoPageIsLeft whole start old → ⊥
    no_end (inl (last, all)) = omega (arith, all, some.1, length-drop start whole)
    no_end (inr none) = let same : 0 ≡ count = let both = sym none ∙ outcome in cc in omega (arith, same, some.0)

    by_fault : (answer : Result PageFed DecodeError) → IfErr answer (λ e. e ≢ OutOfMemory
        → ReadsNext (read_over (page_bits whole start old) old.page) (read_over (page_bits whole start old) new.page) (Err e))
        → IfErr answer (λ e. e ≡ OutOfMemory)
    by_fault (Ok x) fault = tt
    by_fault (Err error) fault =
        by_kind (λ (e : DecodeError). (e ≢ OutOfMemory → ReadsNext (read_over (page_bits whole start old) old.page)
        (read_over (page_bits whole start old) new.page) (Err e)) → e ≡ OutOfMemory)
        (λ e is_fault reads. absurd (let never = sym ((reads (λ same. subst IsFault same is_fault)).error.2.fault is_fault)
        ∙ outcome
        in cc)) (λ reads. refl) (λ reads. absurd ((reads (λ same. cc)).error.2.not_refused refl)) error fault
