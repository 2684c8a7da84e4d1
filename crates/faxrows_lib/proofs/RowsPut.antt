-- Rows that are put while data is fed, as lines.
use Rattle.faxrows_lib.proofs.Names.{◌≡◌, ◌≢◌, ◌≤◌, ◌+◌, ◌/◌, ◌++◌, ◌∙◌, ℕ, List, [], Option, Ok, Err, refl, sym, subst, take}
use Rattle.faxrows_lib.proofs.Names.{RowsRead, arith, completed, length, offset_of}
use Rattle.faxrows_lib.proofs.Names.{Bits, DecodeError, DecodeSettings, IsFault, OutOfMemory, Refused, ap, changes}
use Rattle.faxrows_lib.proofs.Names.{AppendsFront, EndsByRow, PassesOn, line_of_row, lines_of_rows, rows_of}
use Rattle.faxrows_lib.proofs.Names.{Bool, KeepsBits, None, PutsRows, Result, RunFault, Some, Used, bytes_after, bytes_before}
use Rattle.faxrows_lib.proofs.Names.{ended, used}
use Rattle.faxrows_lib.proofs.Names.{Fed, Feeding, FeedsNext, HasPut, IsFeedOf, PaintsBlack, ReadsNext, fed_over, lines_of}
use Rattle.faxrows_lib.proofs.{Outputs.passes_both, Outputs.front_following, Outputs.front_of_longer, Outputs.pieces_rest}
use Rattle.faxrows_lib.proofs.RowsInTurn.{Came, came, ended_badly, ended_well, failed_so}
use Rattle.faxrows_lib.proofs.Names.{Outcome, ReaderStands, StandsIn, false, fed_end, length-map, plain, rules, true}
use Rattle.hayro_ccitt.proofs.Readings.RowByRow.{ended_stands, failed_stands}
use Rattle.hayro_ccitt.proofs.Readings.RowsPassed.{keeps_on}
use Rattle.hayro_ccitt.specs.RowState.{RowState}
use Rattle.hayro_ccitt.proofs.ErrorKinds.{by_kind}

-- what was read of these bits
abbrev read_over : Bits → Feeding → RowsRead
read_over whole feed = fed_over whole (completed whole feed)

module _ {start before : Option (List ℕ)} {whole : Bits} {old new : Feeding} {waited : List ℕ}
    (put : HasPut start before whole old waited) where
  -- no row is read: the lines so far are the same
  pub stays_put : {tried : ℕ} → IsFeedOf whole tried new → new.ctx.held.settings ≡ old.ctx.held.settings
      → new.ctx.held.taken ≡ old.ctx.held.taken → HasPut start before whole new waited
  stays_put {tried} feed settings_are taken = record {
    tried = tried;
    is_feed = feed;
    within = subst (λ (n : ℕ). n ≤ length (rows_of new.ctx.held.settings whole)) (sym taken)
        (subst (λ (s : DecodeSettings). old.ctx.held.taken ≤ length (rows_of s whole)) (sym settings_are) put.within);
    lines = subst (λ (n : ℕ). PassesOn start before [] (lines_of_rows (take n (rows_of new.ctx.held.settings whole))) waited)
        (sym taken) (subst (λ (s : DecodeSettings). PassesOn start before []
        (lines_of_rows (take old.ctx.held.taken (rows_of s whole))) waited) (sym settings_are) put.lines);
  }

  -- a row is read
  module _ (next : FeedsNext whole put.tried old new (Ok Fed.Row)) where
    row_came : Came old.ctx.held.settings whole old.ctx.held.taken (read_over whole new)
    row_came = came old.ctx.held.settings whole (read_over whole old) (read_over whole new) refl refl (next.plainly.row refl)

    -- and its line is put
    pub row_put : {now : Option (List ℕ)} {waits : List ℕ}
        → PassesOn before now waited (line_of_row (changes new.ctx.held.reference)) waits → HasPut start now whole new waits
    row_put {now} {waits} passes = record {
      tried = put.tried + next.plainly.extra;
      is_feed = next.stands;
      within = subst (λ (s : DecodeSettings). new.ctx.held.taken ≤ length (rows_of s whole)) (sym row_came.settings_are)
          row_came.within;
      lines = subst (λ (s : DecodeSettings). PassesOn start now []
          (lines_of_rows (take new.ctx.held.taken (rows_of s whole))) waits) (sym row_came.settings_are)
          (subst (λ (l : List ℕ). PassesOn start now [] l waits) row_came.lines
          (passes_both start before now [] _ waited _ waits put.lines passes));
    }

    -- or the writer fails, and has a front of it
    pub row_front : (now : Option (List ℕ)) → AppendsFront before now (waited ++ line_of_row (changes new.ctx.held.reference))
        → AppendsFront start now (lines_of_rows (rows_of old.ctx.held.settings whole))
    row_front now front =
        subst (AppendsFront start now) (pieces_rest line_of_row (rows_of old.ctx.held.settings whole) new.ctx.held.taken)
        (front_of_longer start now [] (lines_of_rows (take new.ctx.held.taken (rows_of old.ctx.held.settings whole))) _
        (subst (AppendsFront start now) row_came.lines (front_following start before now [] _ waited _ put.lines front)))

  -- the reading ends well
  pub ends_well : FeedsNext whole put.tried old new (Ok Fed.End) → (count : ℕ)
      → count ≡ (offset_of new + 7) / 8 → EndsByRow old.ctx.held.settings whole new.ctx.held.taken (Ok count)
  ends_well next count is =
      ended_well old.ctx.held.settings whole (read_over whole old) (read_over whole new) count refl refl (next.plainly.end refl)
      (omega (arith, is))

  pub well_put : FeedsNext whole put.tried old new (Ok Fed.End) → HasPut start before whole new waited
  well_put next = stays_put next.stands (next.plainly.end refl).settings ((next.plainly.end refl).end refl).1

  -- it needs more data
  pub more_put : FeedsNext whole put.tried old new (Ok Fed.NeedsMore) → HasPut start before whole new waited
  more_put next = stays_put next.stands (next.plainly.none refl).settings (next.plainly.none refl).taken

  -- it ends with an error
  pub ends_badly : (error : DecodeError) → FeedsNext whole put.tried old new (Err error)
      → EndsByRow old.ctx.held.settings whole new.ctx.held.taken (Err error) × HasPut start before whole new waited
  ends_badly = by_kind (λ (e : DecodeError). FeedsNext whole put.tried old new (Err e)
      → EndsByRow old.ctx.held.settings whole new.ctx.held.taken (Err e) × HasPut start before whole new waited)
      (λ e fault next. by_reading e next (next.plainly.fault (λ is. subst IsFault is fault)))
      by_memory (λ next. absurd ((next.plainly.fault (λ is. cc)).error.2.not_refused refl))
    where
      by_reading : (e : DecodeError) → FeedsNext whole put.tried old new (Err e)
          → ReadsNext (read_over whole old) (read_over whole new) (Err e)
          → EndsByRow old.ctx.held.settings whole new.ctx.held.taken (Err e) × HasPut start before whole new waited
      by_reading e next reads = (
        ended_badly old.ctx.held.settings whole (read_over whole old) (read_over whole new) e refl refl put.within reads,
        stays_put next.stands reads.settings reads.error.1,
      )

      by_memory : FeedsNext whole put.tried old new (Err OutOfMemory)
          → EndsByRow old.ctx.held.settings whole new.ctx.held.taken (Err OutOfMemory) × HasPut start before whole new waited
      by_memory next =
          let stays = next.plainly.none refl in (
            (
              (
                subst (λ (n : ℕ). n ≤ length (rows_of old.ctx.held.settings whole)) (sym stays.taken) put.within,
                subst (λ (s : DecodeSettings). PaintsBlack (lines_of s whole) new.ctx.held.taken) stays.settings
                    (next.plainly.paints refl),
              ),
              λ refused. cc,
            ),
            stays_put next.stands stays.settings stays.taken,
          )

-- ---- From row to row

-- a reading that has ended is the plain reading to its end
stands_ended : {whole : Bits} {tried : ℕ} {feed : Feeding} {end : Result (Unit {0}) DecodeError} → IsFeedOf whole tried feed
    → ended feed.rows.stand ≡ Some end
    → ReaderStands feed.rows.stand feed.ctx.held.settings whole feed.ctx.held (offset_of feed)
stands_ended {whole} {tried} {feed} {end} is_feed e = by_begun feed.begun is_feed.stands
  where
    by_begun : (begun : Bool) → StandsIn begun tried feed.rows feed.ctx
        (record { bits = whole; place = offset_of feed })
        → ReaderStands feed.rows.stand feed.ctx.held.settings whole feed.ctx.held (offset_of feed)
    by_begun true stands = stands.0
    by_begun false front = let never = sym (ap (λ (r : RowState). ended r.stand) front.state) ∙ e in absurd cc

well_ended : {whole : Bits} {tried : ℕ} {feed : Feeding} → IsFeedOf whole tried feed → ended feed.rows.stand ≡ Some (Ok tt)
    → (count : ℕ) → count ≡ (offset_of feed + 7) / 8
    → EndsByRow feed.ctx.held.settings whole feed.ctx.held.taken (Ok count)
well_ended {whole} {tried} {feed} is_feed e count is =
    let settings = feed.ctx.held.settings in
    let end = (ended_stands feed.rows.stand settings whole feed.ctx.held (offset_of feed) e
    (stands_ended is_feed e)).0 in (
      (end.all ∙ sym (length-map (plain settings whole).rows changes), end.count ∙ ap Ok (sym is)),
      λ never. cc,
    )

badly_ended : {whole : Bits} {tried : ℕ} {feed : Feeding} {error : DecodeError} → IsFeedOf whole tried feed
    → ended feed.rows.stand ≡ Some (Err error) → feed.ctx.held.taken ≤ length (rows_of feed.ctx.held.settings whole)
    → EndsByRow feed.ctx.held.settings whole feed.ctx.held.taken (Err error)
badly_ended {whole} {tried} {feed} {error} is_feed e within =
    let settings = feed.ctx.held.settings in
    let failed = (failed_stands feed.rows.stand settings whole feed.ctx.held (offset_of feed) e
    (stands_ended is_feed e)).0 in (
      failed_so settings whole feed.ctx.held.taken (offset_of feed) error failed within,
      λ refused. failed.not_refused (search rules),
    )

-- the rows up to here were put
pub record PutSoFar {W : Type 0} (writer : Used W) (first now : Feeding) (waited waits : List ℕ) : Type 0 where
  pub keeps : KeepsBits first now
  pub settings : now.ctx.held.settings ≡ first.ctx.held.settings
  pub some : (whole : Bits) × (tried : ℕ) × IsFeedOf whole tried now
  pub put : (start : Option (List ℕ)) (whole : Bits) → HasPut start (bytes_before writer) whole first waited
      → HasPut start (bytes_after writer) whole now waits

module _ {W : Type 0} (contents : W → Option (List ℕ)) (begun mid : W × Bool) {first old new : Feeding} {waited waits : List ℕ}
    (so_far : PutSoFar (used contents begun mid) first old waited waits) (kept : KeepsBits old new)
    (answer : Result Fed DecodeError)
    (reads : (whole : Bits) (tried : ℕ) → ended old.rows.stand ≡ None → IsFeedOf whole tried old
    → FeedsNext whole tried old new answer)
    (at_end : (end : Result (Unit {0}) DecodeError) → ended old.rows.stand ≡ Some end
    → (new ≡ old) × (answer ≡ fed_end end)) where
  keeps : KeepsBits first new
  keeps = keeps_on so_far.keeps kept

  -- the reading had ended, or the call read on
  module _ {P : Type 0} (on : ended old.rows.stand ≡ None → P)
      (after : (end : Result (Unit {0}) DecodeError) → ended old.rows.stand ≡ Some end → P) where
    either_way : P
    either_way = by_end (ended old.rows.stand) refl
      where
        by_end : (end : Option (Result (Unit {0}) DecodeError)) → ended old.rows.stand ≡ end → P
        by_end None e = on e
        by_end (Some end) e = after end e

  -- neither a row nor a need of more data is an end
  unended_row : answer ≡ Ok Fed.Row → ended old.rows.stand ≡ None
  unended_row is = either_way (λ e. e) (λ end e. absurd (no_row end (sym is ∙ (at_end end e).1)))
    where
      no_row : (end : Result (Unit {0}) DecodeError) → Ok Fed.Row ≡ fed_end end → ⊥
      no_row (Ok x) e = cc
      no_row (Err error) e = cc

  unended_more : answer ≡ Ok Fed.NeedsMore → ended old.rows.stand ≡ None
  unended_more is = either_way (λ e. e) (λ end e. absurd (no_more end (sym is ∙ (at_end end e).1)))
    where
      no_more : (end : Result (Unit {0}) DecodeError) → Ok Fed.NeedsMore ≡ fed_end end → ⊥
      no_more (Ok x) e = cc
      no_more (Err error) e = cc

  next_of : {r : Result Fed DecodeError} → answer ≡ r → ended old.rows.stand ≡ None → {start : Option (List ℕ)} {whole : Bits}
      → (put : HasPut start (contents mid.0) whole old waits) → FeedsNext whole put.tried old new r
  next_of e unended {start} {whole} put =
      subst (FeedsNext whole put.tried old new) e (reads whole put.tried unended put.is_feed)

  -- of the one reading that there is
  next_some : {r : Result Fed DecodeError} → answer ≡ r → ended old.rows.stand ≡ None
      → FeedsNext so_far.some.0 so_far.some.1 old new r
  next_some e unended = subst (FeedsNext so_far.some.0 so_far.some.1 old new) e
      (reads so_far.some.0 so_far.some.1 unended so_far.some.2)

  module _ (is_row : answer ≡ Ok Fed.Row) where
    pub next_taken : new.ctx.held.taken ≡ old.ctx.held.taken + 1
    next_taken = (((next_some is_row (unended_row is_row)).plainly.row refl).more refl).1

    pub row_so_far : {later : W × Bool} {left : List ℕ}
        → PassesOn (contents mid.0) (contents later.0) waits (line_of_row (changes new.ctx.held.reference)) left
        → PutSoFar (used contents begun later) first new waited left
    row_so_far {later} {left} passes =
        let next = next_some is_row (unended_row is_row) in
        record {
          keeps = keeps;
          settings = (next.plainly.row refl).settings ∙ so_far.settings;
          some = (so_far.some.0, so_far.some.1 + next.plainly.extra, next.stands);
          put = λ start whole put. let here = so_far.put start whole put in
              row_put here (next_of is_row (unended_row is_row) here) passes;
        }

    pub row_fails : (later : W × Bool) (left : List ℕ) (fault : RunFault)
        → AppendsFront (contents mid.0) (contents later.0) (waits ++ line_of_row (changes new.ctx.held.reference))
        → PutsRows (used contents begun later) first new waited left (Err fault)
    row_fails later left fault front = record {
      keeps = keeps;
      settings = tt;
      more = tt;
      put = tt;
      ends = tt;
      front = λ start whole put. let here = so_far.put start whole put in
          subst (λ (s : DecodeSettings). AppendsFront start (contents later.0) (lines_of_rows (rows_of s whole)))
          so_far.settings (row_front here (next_of is_row (unended_row is_row) here) (contents later.0) front);
    }

  pub more_puts : answer ≡ Ok Fed.NeedsMore → PutsRows (used contents begun mid) first new waited waits (Ok None)
  more_puts e =
      let next = next_some e (unended_more e) in
      let stays = next.plainly.none refl in
      record {
        keeps = keeps;
        settings = stays.settings ∙ so_far.settings;
        more = λ none. (next.plainly.unsettled refl).0;
        put = λ start whole put. let here = so_far.put start whole put in more_put here (next_of e (unended_more e) here);
        ends = tt;
        front = tt;
      }

  -- nothing more is read, and the reading has ended like this
  module _ (outcome : Outcome)
      (on : ended old.rows.stand ≡ None → (start : Option (List ℕ)) (whole : Bits)
      → HasPut start (contents mid.0) whole old waits
      → EndsByRow old.ctx.held.settings whole new.ctx.held.taken outcome × HasPut start (contents mid.0) whole new waits)
      (on_settings : ended old.rows.stand ≡ None → new.ctx.held.settings ≡ old.ctx.held.settings)
      (after : (end : Result (Unit {0}) DecodeError) → ended old.rows.stand ≡ Some end → (start : Option (List ℕ))
      (whole : Bits) → HasPut start (contents mid.0) whole old waits
      → EndsByRow old.ctx.held.settings whole old.ctx.held.taken outcome) where
    ends_so : {start : Option (List ℕ)} {whole : Bits} → HasPut start (contents mid.0) whole old waits
        → EndsByRow old.ctx.held.settings whole new.ctx.held.taken outcome × HasPut start (contents mid.0) whole new waits
    ends_so {start} {whole} put = either_way (λ e. on e start whole put) (λ end e. (
      subst (λ (f : Feeding). EndsByRow old.ctx.held.settings whole f.ctx.held.taken outcome) (sym (at_end end e).0)
          (after end e start whole put),
      subst (λ (f : Feeding). HasPut start (contents mid.0) whole f waits) (sym (at_end end e).0) put,
    ))

    ended_puts : PutsRows (used contents begun mid) first new waited waits (Ok (Some outcome))
    ended_puts = record {
      keeps = keeps;
      settings = either_way on_settings (λ end e. ap (λ (f : Feeding). f.ctx.held.settings) (at_end end e).0) ∙ so_far.settings;
      more = λ none. cc;
      put = λ start whole put. (ends_so (so_far.put start whole put)).1;
      ends = λ start whole put.
          subst (λ (s : DecodeSettings). EndsByRow s whole new.ctx.held.taken outcome) so_far.settings
          (ends_so (so_far.put start whole put)).0;
      front = tt;
    }

  pub end_puts : answer ≡ Ok Fed.End → (count : ℕ) → count ≡ (offset_of new + 7) / 8
      → PutsRows (used contents begun mid) first new waited waits (Ok (Some (Ok count)))
  end_puts e count is =
      ended_puts (Ok count)
      (λ unended start whole put. (ends_well put (next_of e unended put) count is, well_put put (next_of e unended put)))
      (λ unended. ((next_some e unended).plainly.end refl).settings)
      (λ end ended_so start whole put. by_end end ended_so start whole put)
    where
      by_end : (end : Result (Unit {0}) DecodeError) → ended old.rows.stand ≡ Some end → (start : Option (List ℕ))
          (whole : Bits) → HasPut start (contents mid.0) whole old waits
          → EndsByRow old.ctx.held.settings whole old.ctx.held.taken (Ok count)
      by_end (Ok x) so start whole put = well_ended put.is_feed so count
          (is ∙ ap (λ (f : Feeding). (offset_of f + 7) / 8) (at_end (Ok x) so).0)
      by_end (Err error) so start whole put = let never = sym e ∙ (at_end (Err error) so).1 in absurd cc

  pub error_puts : (error : DecodeError) → answer ≡ Err error
      → PutsRows (used contents begun mid) first new waited waits (Ok (Some (Err error)))
  error_puts error e =
      ended_puts (Err error) (λ unended start whole put. ends_badly put error (next_of e unended put))
      (λ unended. same_settings error (next_some e unended)) (λ end ended_so start whole put. by_end end ended_so start whole put)
    where
      same_settings : (error : DecodeError) → FeedsNext so_far.some.0 so_far.some.1 old new (Err error)
          → new.ctx.held.settings ≡ old.ctx.held.settings
      same_settings = by_kind (λ (e : DecodeError). FeedsNext so_far.some.0 so_far.some.1 old new (Err e)
          → new.ctx.held.settings ≡ old.ctx.held.settings)
          (λ e fault next. (next.plainly.fault (λ is. subst IsFault is fault)).settings)
          (λ next. (next.plainly.none refl).settings)
          (λ next. (next.plainly.fault (λ is. cc)).settings)

      by_end : (end : Result (Unit {0}) DecodeError) → ended old.rows.stand ≡ Some end → (start : Option (List ℕ))
          (whole : Bits) → HasPut start (contents mid.0) whole old waits
          → EndsByRow old.ctx.held.settings whole old.ctx.held.taken (Err error)
      by_end (Ok x) so start whole put = let never = sym e ∙ (at_end (Ok x) so).1 in absurd cc
      by_end (Err other) so start whole put =
          let same : other ≡ error = let is = sym (at_end (Err other) so).1 ∙ e in cc in
          subst (λ (x : DecodeError). EndsByRow old.ctx.held.settings whole old.ctx.held.taken (Err x)) same
          (badly_ended put.is_feed so put.within)
