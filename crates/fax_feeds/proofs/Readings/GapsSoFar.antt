-- The gap before the next line, of which the first bits were counted, or whose EOL is missing.
use Rattle.fax_feeds.proofs.Names.{◌≡◌, ◌∙◌, ◌+◌, ◌≤◌, ◌++◌, [], ap, sym, subst, refl, arith, length, true, false, ℕ, Bool}
use Rattle.fax_feeds.proofs.Names.{Bits, BitsAt, Context, Held, Result, Ok, Err, Option, Some, None, DecodeError, here}
use Rattle.fax_feeds.proofs.Names.{IsStanding, ReachesNextLine, RowsRead, seen, length-drop, length-append}
use Rattle.fax_feeds.proofs.Names.{replicate, length-replicate, false≢true}
use Rattle.fax_rows.specs.declared.gap_count.GapCount.{GapCount}
use Rattle.fax_rows.specs.declared.row_reader.RowState.{RowState}
use Rattle.fax_rows.specs.GapsCounted.{CountsEol, IsTidy, LacksEolHere, counted, counted_by, ends_at_two, has_tags}
use Rattle.fax_rows.specs.GapsCounted.{left_before, none_counted, one_counted, tag_more, zero_more}
use Rattle.fax_rows.specs.ZerosLast.{PassesZeros, zeros_passed}
use Rattle.fax_rows.proofs.Readings.GapsCounted.{counted_then, stands, zero_alike}
use Rattle.fax_rows.specs.declared.gap_count.GapStep.{GapStep}
use Rattle.fax_feeds.proofs.Names.{◌≢◌, ◌-◌, ◌<◌, ◌∷◌, ◌&&◌, not, leb, eqb, inl, inr, cases_lt, append_assoc, drop}
use Rattle.fax_feeds.proofs.Names.{common_steps}
use Rattle.fax_feeds.proofs.Names.{DecodeSettings, EncodingMode, Group3_1D, Group3_2D, Group4, is_at_line}
use Rattle.fax_feeds.proofs.Names.{at_end, eols_here, limit_met, misses_eol}
use Rattle.std.proofs.lemmas.Bool.{leb-true}
use Rattle.std.proofs.lemmas.List.{replicate-append-replicate}
use Rattle.fax_feeds.specs.GapsSeen.{IsSeen, nothing_seen, rules_for}
use Rattle.fax_reading.specs.GapsContinued.{gap_is_settled}
use Rattle.fax_feeds.specs.declared.counted_gaps.GapSoFar.{GapSoFar}
use Rattle.fax_feeds.specs.declared.gap_look.GapLook.{GapLook}
use Rattle.fax_feeds.specs.CountedGaps.{CameSoFar, ComesCounted, PassesNear, StandsSoFar}
use Rattle.fax_feeds.proofs.Readings.GapsCountedOn.{CountsOn}
use Rattle.fax_feeds.specs.RowFeeds.{ComesOn, LacksEol, LieIn, PassesEol, no_gap, of_settled_gap}
use Rattle.fax_feeds.proofs.Readings.RowsFed.{place_within, stands_later, stays_at_line}
use Rattle.fax_feeds.proofs.Names.{Stand, AtLine, AfterRow, AtEnd, AtFault, ended}

-- what is seen of a reading in a gap is the same from anywhere in it, whatever was counted
pub reaches_before : (rows : RowState) (old mid : Context) (whole : Bits) (from to : ℕ) {new : RowsRead}
    {answer : Result Bool DecodeError} → mid.held ≡ old.held → old.ticks ≤ mid.ticks
    → ReachesNextLine (seen rows mid (record { bits = whole; place = from })) new answer
    → ReachesNextLine (seen rows old (record { bits = whole; place = to })) new answer
reaches_before rows old mid whole from to {new} {answer} held ticks reaches =
    let same = subst (λ (h : Held). ReachesNextLine (seen rows (record mid { held = h })
    (record { bits = whole; place = from })) new
    answer) held reaches in
    record {
      settings = same.settings;
      bits = same.bits;
      counts = omega (arith, ticks, same.counts);
      taken = same.taken;
      line = same.line;
      unended = same.unended;
      end = same.end;
      error = same.error;
      fault_start = same.fault_start;
      missed = same.missed;
      last = same.last;
      last_start = same.last_start;
    }

-- ---- Its EOL is missing

module _ {is_last : Bool} {gap_start : ℕ} {rows kept : RowState} {look kept_look : GapLook} {old new : Context}
    {before after : BitsAt} where
  pub missed_comes : (answer : Result (Option Bool) DecodeError)
      → (on : ComesOn is_last gap_start rows kept look kept_look old new before after answer) → (from : ℕ) (whole : Bits)
      (dropped : ℕ) → LieIn whole dropped is_last before.bits → gap_start ≡ dropped + before.place
      → before.place ≤ length before.bits → (start : ℕ) → start ≡ gap_start
      → IsStanding from rows old (record { bits = whole; place = gap_start })
      → (answer ≡ Ok None → LacksEol old.held (drop start whole))
      → CameSoFar answer (from + on.extra) rows kept old new whole start (dropped + after.place)
      (record no_gap { look = kept_look }) after
  missed_comes (Ok None) on from whole dropped lie starts within start is stands misses =
      let waits = on.waits refl in
      let at : dropped + after.place ≡ gap_start =
      ap (λ (b : BitsAt). dropped + b.place) waits.3 ∙ sym starts in
      let there = place_within lie before.place within in (
        record {
          stands = record {
            in_gap = record {
              start = dropped + after.place;
              gone = [];
              are = refl;
              place = omega arith;
              within = omega (arith, at, starts, there);
              is = refl;
              stands = subst (λ (n : ℕ). IsStanding (from + on.extra) rows new (record { bits = whole; place = n })) (sym at)
                  (stands_later from on.extra rows old new (record { bits = whole; place = gap_start }) waits.0 waits.1 stands);
            };
            passed = omega arith;
            missed = λ some. subst (λ (h : Held). LacksEol h (drop (dropped + after.place) whole)) (sym waits.0)
                (subst (λ (n : ℕ). LacksEol old.held (drop n whole)) (is ∙ sym at) (misses refl));
          };
          start_is = at ∙ sym is;
          unsettled = ap (λ (h : Held). gap_is_settled h.settings h.taken h.has_eols (here after)) waits.0
              ∙ ap (λ (b : BitsAt). gap_is_settled old.held.settings old.held.taken old.held.has_eols (here b)) waits.3
              ∙ waits.6;
        },
        waits.2,
      )
  missed_comes (Ok (Some line)) on from whole dropped lie starts within start is stands misses = record {
    place = dropped + after.place;
    place_is = omega arith;
    onward = λ e. omega (arith, on.onward (ap of_settled_gap e), is, starts);
    stands = on.stands from whole dropped (λ none. cc) lie starts stands;
    reaches = subst (λ (n : ℕ). ReachesNextLine (seen rows old (record { bits = whole; place = n }))
        (seen kept new (record { bits = whole; place = dropped + after.place })) (Ok line)) (sym is)
        (on.comes from whole dropped (λ none. cc) lie starts stands);
    zeros = λ e. absurd (false≢true e);
  }
  missed_comes (Err error) on from whole dropped lie starts within start is stands misses = record {
    place = dropped + after.place;
    place_is = omega arith;
    onward = λ e. cc;
    stands = on.stands from whole dropped (λ none. cc) lie starts stands;
    reaches = subst (λ (n : ℕ). ReachesNextLine (seen rows old (record { bits = whole; place = n }))
        (seen kept new (record { bits = whole; place = dropped + after.place })) (Err error)) (sym is)
        (on.comes from whole dropped (λ none. cc) lie starts stands);
    zeros = λ e. absurd (false≢true e);
  }

-- by a context in which the same is held, and less was counted
pub came_before : (answer : Result (Option Bool) DecodeError) (from : ℕ) (rows kept : RowState) (old mid new : Context)
    (whole : Bits) (start at : ℕ) (gap : GapSoFar) (after : BitsAt) → mid.held ≡ old.held → old.ticks ≤ mid.ticks
    → CameSoFar answer from rows kept mid new whole start at gap after
    → CameSoFar answer from rows kept old new whole start at gap after
came_before (Ok None) from rows kept old mid new whole start at gap after held ticks comes = comes
came_before (Ok (Some line)) from rows kept old mid new whole start at gap after held ticks comes = record {
  place = comes.place;
  place_is = comes.place_is;
  onward = comes.onward;
  stands = comes.stands;
  reaches = reaches_before rows old mid whole start start held ticks comes.reaches;
  zeros = comes.zeros;
}
came_before (Err error) from rows kept old mid new whole start at gap after held ticks comes = record {
  place = comes.place;
  place_is = comes.place_is;
  onward = comes.onward;
  stands = comes.stands;
  reaches = reaches_before rows old mid whole start start held ticks comes.reaches;
  zeros = comes.zeros;
}

-- ---- The data ends with zeros

pub zeros_come : {from : ℕ} {rows kept : RowState} {old new : Context} {whole : Bits} {start at : ℕ} (gap : GapSoFar)
    (after : BitsAt)
    (answer : Result Bool DecodeError) → PassesZeros from rows kept old new whole start gap.count answer → at ≡ length whole
    → gap.passed ≡ length (left_before gap.count []) → gap.at_zeros ≡ true
    → (gap.count.tag ≡ true → new.held.settings.encoding ≡ Group3_2D)
    → CameSoFar (of_settled_gap answer) from rows kept old new whole start at gap after
zeros_come {whole = whole} gap after (Ok line) passes last left is tagged = record {
  place = passes.place;
  place_is = omega (arith, last, left, passes.within, ap length passes.here, length-drop passes.place whole);
  onward = λ e. passes.onward;
  stands = passes.stands;
  reaches = passes.reaches;
  zeros = λ e. (passes.here, tagged);
}
zeros_come {whole = whole} gap after (Err error) passes last left is tagged = record {
  place = passes.place;
  place_is = omega (arith, last, left, passes.within, ap length passes.here, length-drop passes.place whole);
  onward = λ e. passes.onward;
  stands = passes.stands;
  reaches = passes.reaches;
  zeros = λ e. (passes.here, tagged);
}

-- what the zeros are that are left
pub kept_zeros : (encoding : EncodingMode) (count : GapCount) → (zeros_passed encoding count).zeros ≡ count.zeros
kept_zeros encoding count = by_test (leb 6 count.eols && has_tags encoding) refl
  where
    by_test : (b : Bool) → (leb 6 count.eols && has_tags encoding) ≡ b → (zeros_passed encoding count).zeros ≡ count.zeros
    by_test true e = rw (e) refl
    by_test false e = rw (e) refl

pub kept_tag : (encoding : EncodingMode) (count : GapCount) → (zeros_passed encoding count).tag ≡ true → count.tag ≡ true
kept_tag encoding count = by_test (leb 6 count.eols && has_tags encoding) refl
  where
    by_test : (b : Bool) → (leb 6 count.eols && has_tags encoding) ≡ b → (zeros_passed encoding count).tag ≡ true
        → count.tag ≡ true
    by_test true e t = let never : false ≡ true = rw (e) at t in absurd (false≢true never)
    by_test false e t = rw (e) at t

-- a tag was counted only where there are tags (T.4, 4.2.2)
pub tag_counted : (settings : DecodeSettings) (bits : Bits) (count : GapCount)
    → counted_by settings none_counted bits ≡ Some count → count.tag ≡ true → settings.encoding ≡ Group3_2D
tag_counted settings bits count is tag = by_encoding settings.encoding (stands settings 0 false bits [] count is).1.tag
  where
    by_encoding : (encoding : EncodingMode) → (count.tag ≡ true → (has_tags encoding ≡ true) × (0 < count.eols))
        → encoding ≡ Group3_2D
    by_encoding Group3_2D tags = refl
    by_encoding Group3_1D tags = absurd (false≢true (tags tag).0)
    by_encoding Group4 tags = absurd (false≢true (tags tag).0)

-- ---- An EOL that was counted

-- it is among the bits
record HasEol (bits : Bits) : Type 0 where
  fill : Bits
  after : Bits
  are : bits ≡ fill ++ replicate 11 false ++ true ∷ after

some_zeros : (n : ℕ) (more : Bits) → 11 ≤ n → HasEol (replicate n false ++ true ∷ more)
some_zeros n more enough =
    let sum : n ≡ (n - 11) + 11 = omega (arith, enough) in
    record {
      fill = replicate (n - 11) false;
      after = more;
      are = ap (λ (m : ℕ). replicate m false ++ true ∷ more) sum
          ∙ ap (λ (b : Bits). b ++ true ∷ more) (sym (replicate-append-replicate (n - 11) 11 false));
    }

behind : (first : Bits) {bits : Bits} → HasEol bits → HasEol (first ++ bits)
behind first has = record {
  fill = first ++ has.fill;
  after = has.after;
  are = ap (λ (b : Bits). first ++ b) has.are
      ∙ sym (append_assoc first (has.fill ++ replicate 11 false) (true ∷ has.after))
      ∙ ap (λ (b : Bits). b ++ true ∷ has.after) (sym (append_assoc first has.fill (replicate 11 false)));
}

counted_eol : (tags two : Bool) (count : GapCount) (bits : Bits) (end : GapCount) → counted tags two count bits ≡ Some end
    → count.eols < end.eols → HasEol (replicate count.zeros false ++ bits)
counted_eol tags two count [] end is more = let same : count ≡ end = cc in
    absurd (omega (arith, more, ap (λ (n : GapCount). n.eols) same))
counted_eol tags two count (false ∷ bits) end is more =
    subst HasEol (sym (zero_alike count.zeros bits)) (counted_eol tags two (zero_more count) bits end is more)
counted_eol tags two count (true ∷ bits) end is more =
    elim (cases_lt count.zeros 11) [
      | inr enough ↦ some_zeros count.zeros bits enough
      | inl few ↦ by_one (λ next then. counted_eol tags two next bits end then) (one_counted tags two count) refl few
    ]
  where
    one_few : (tags two : Bool) (count next : GapCount) → count.zeros < 11 → one_counted tags two count ≡ Some next
        → next ≡ tag_more count
    one_few tags two count next few e = grind (arith, common_steps, leb-true)

    by_one : ((next : GapCount) → counted tags two next bits ≡ Some end → next.eols < end.eols
        → HasEol (replicate next.zeros false ++ bits)) → (o : Option GapCount) → one_counted tags two count ≡ o → count.zeros < 11
        → HasEol (replicate count.zeros false ++ true ∷ bits)
    by_one on None e few = let never : ◌≡◌ {A = Option GapCount} None (Some end) = rw (e, counted) at is in absurd cc
    by_one on (Some next) e few =
        let then : counted tags two next bits ≡ Some end = rw (e, counted) at is in
        let tag : next ≡ tag_more count = one_few tags two count next few e in
        let none : next.zeros ≡ 0 = ap (λ (n : GapCount). n.zeros) tag in
        let there = on next then (omega (arith, more, ap (λ (n : GapCount). n.eols) tag)) in
        behind (replicate count.zeros false)
        (behind (true ∷ []) (subst (λ (n : ℕ). HasEol (replicate n false ++ bits)) none there))

-- so many bits before others
pub eol_is_passed : (settings : DecodeSettings) (gone : Bits) (count : GapCount) (before after : Bits) (start : ℕ)
    → counted_by settings none_counted gone ≡ Some count → (eol : CountsEol settings count before after)
    → PassesEol (gone ++ before) start (start + length gone + (length before - length after))
eol_is_passed settings gone count before after start is eol =
    let all : counted_by settings none_counted (gone ++ eol.first) ≡ Some eol.mid =
    counted_then (has_tags settings.encoding) (ends_at_two settings.encoding settings.end_of_block) none_counted count gone
    eol.first is ∙ eol.is in
    let has = counted_eol (has_tags settings.encoding) (ends_at_two settings.encoding settings.end_of_block) none_counted
    (gone ++ eol.first) eol.mid all eol.some in
    record {
      fill = has.fill;
      after = has.after ++ eol.rest;
      place = ap (λ (b : Bits). gone ++ b) eol.are ∙ sym (append_assoc gone eol.first eol.rest)
          ∙ ap (λ (b : Bits). b ++ eol.rest) has.are
          ∙ append_assoc (has.fill ++ replicate 11 false) (true ∷ has.after) eol.rest;
      passed = omega (
        arith,
        ap length has.are,
        length-append gone eol.first,
        length-append (has.fill ++ replicate 11 false) (true ∷ has.after),
        length-append has.fill (replicate 11 false),
        length-replicate 11 false,
        ap length eol.are,
        length-append eol.first eol.rest,
        eol.onward,
      );
    }

-- ---- The whole call

-- what is held is the same
pub same_frame : (old new : Held) → new ≡ old → new ≡ record old { has_eols = new.has_eols; repairs = new.repairs }
same_frame old new is = subst (λ (h : Held). h ≡ record old { has_eols = h.has_eols; repairs = h.repairs }) (sym is) refl

pub no_bits : (bits : Bits) → length bits ≡ 0 → bits ≡ []
no_bits [] none = refl
no_bits (bit ∷ bits) none = absurd (omega (arith, none))

-- the gap is looked at as a whole
module _ (dropped : ℕ) {is_last : Bool} {gap_start : ℕ} {rows kept : RowState} {gap next : GapSoFar} {old new : Context}
    {before after : BitsAt} (look : GapLook) (gap_is : gap ≡ record no_gap { look = gap.look })
    (next_is : next ≡ record no_gap { look = look }) (starts : gap_start ≡ dropped + before.place)
    (within : before.place ≤ length before.bits) (no_line : is_at_line rows.stand ≡ false)
    (answer : Result (Option Bool) DecodeError)
    (on : ComesOn is_last gap_start rows kept gap.look look old new before after answer)
    (misses : answer ≡ Ok None → 0 < gap.look.bits) where
  none_passed : gap.passed ≡ 0
  none_passed = ap (λ (g : GapSoFar). g.passed) gap_is

  none_left : next.passed ≡ 0
  none_left = ap (λ (g : GapSoFar). g.passed) next_is

  look_is : next.look ≡ look
  look_is = ap (λ (g : GapSoFar). g.look) next_is

  waits_there : answer ≡ Ok None → after ≡ before
  waits_there e = (on.waits e).3

  at_start : (from : ℕ) (whole : Bits) → (stands : StandsSoFar from rows old whole (dropped + before.place) gap)
      → stands.in_gap.start ≡ gap_start
  at_start from whole stands = omega (arith, stands.passed, none_passed, starts)

  settled_leaves : (from : ℕ) (whole : Bits) → LieIn whole dropped is_last before.bits
      → (stands : StandsSoFar from rows old whole (dropped + before.place) gap)
      → CameSoFar answer (from + on.extra) rows kept old new whole stands.in_gap.start (dropped + after.place) next after
  settled_leaves from whole lie stands =
      let is = at_start from whole stands in
      subst (λ (g : GapSoFar). CameSoFar answer (from + on.extra) rows kept old new whole stands.in_gap.start
      (dropped + after.place) g after) (sym next_is) (missed_comes answer on from whole dropped lie starts within
      stands.in_gap.start is
      (subst (λ (n : ℕ). IsStanding from rows old (record { bits = whole; place = n })) is stands.in_gap.stands)
      (λ e. stands.missed (misses e)))

  settled_near : (from : ℕ) (whole : Bits) → LieIn whole dropped is_last before.bits
      → (stands : StandsSoFar from rows old whole (dropped + before.place) gap) → answer ≡ Ok (Some true)
      → PassesNear is_last rows stands.in_gap.start (dropped + before.place) (dropped + after.place - next.passed) on.extra gap
      next old (stands.in_gap.gone ++ here before)
  settled_near from whole lie stands e =
      let is = at_start from whole stands in
      let onward = on.onward e in
      let some : answer ≢ Ok None = λ none. let never = sym e ∙ none in absurd cc in
      record {
        near = λ more. omega (arith, on.near some more, onward, none_left);
        last = λ last. omega (arith, on.looks.finished last, onward, none_left, is, starts);
        past_eol = λ more away sought.
            let eol = on.past_eol more away sought e in
            let none = no_bits stands.in_gap.gone (omega (arith, stands.in_gap.place, stands.passed, none_passed)) in
            record {
              fill = eol.fill;
              after = eol.after;
              place = ap (λ (b : Bits). b ++ here before) none ∙ eol.place;
              passed = omega (arith, eol.passed, none_left, is, starts);
            };
      }

  pub settled_counts : ComesCounted is_last dropped rows kept gap next old new before after answer
  settled_counts = record {
    extra = on.extra;
    counts = on.counts;
    space = on.space;
    frame = on.frame;
    same_bits = on.same_bits;
    within = on.within;
    line = on.line;
    at_line = λ line. absurd (false≢true (sym no_line ∙ line));
    only_code = on.only_code;
    near = λ e.
        omega (arith, (on.looked e).0, ap (λ (b : BitsAt). b.place) (waits_there e), ap (λ (l : GapLook). l.bits) look_is);
    looks = λ some. omega (arith, on.looks.within some, within, length-drop before.place before.bits);
    waits = λ e. let waits = on.waits e in (waits.0, waits.1, waits.4, waits.2);
    seen = λ e. subst (λ (l : GapLook). IsSeen (rules_for true old.held) l (here after)) (sym look_is)
        (subst (λ (b : BitsAt). IsSeen (rules_for true old.held) look (here b)) (sym (waits_there e)) (on.looked e).1);
    known = record {
      waits = λ e. (
        subst (λ (g : GapSoFar). IsTidy g.count) (sym next_is) (inl refl),
        ap (λ (g : GapSoFar). g.at_zeros) next_is,
        omega (
          arith,
          ap (λ (g : GapSoFar). g.count.eols) next_is,
          ap (λ (g : GapSoFar). g.count.zeros) next_is,
          ap (λ (b : BitsAt). length (here b)) (waits_there e),
        ),
      );
      few = λ e none. omega (
        arith,
        (on.looked e).2,
        none,
        ap (λ (l : GapLook). l.bits) look_is,
        ap (λ (b : BitsAt). length (here b)) (waits_there e),
      );
      passed = λ other zeros. next_is ∙ ap (λ (l : GapLook). record no_gap { look = l }) (on.none_looked other);
      zeros = λ zeros. absurd (false≢true (sym (ap (λ (g : GapSoFar). g.at_zeros) next_is) ∙ zeros));
      missed = λ some. next_is ∙ ap (λ (l : GapLook). record no_gap { look = l }) (sym look_is);
    };
    leaves = settled_leaves;
    passes = settled_near;
  }

-- an EOL is missing only where EOLs are sought
eols_sought : (settings : DecodeSettings) (taken : ℕ) (sought : Bool) (bits : Bits) → misses_eol settings taken sought bits ≡ true
    → sought ≡ true
eols_sought settings taken true bits misses = refl
eols_sought settings taken false bits misses =
    absurd (false≢true (sym (none_missed (eqb (eols_here settings bits).0 0) (not (limit_met settings taken)) (not (at_end bits)))
    ∙ misses))
  where
    none_missed : (a b c : Bool) → (a && false && b && c) ≡ false
    none_missed true b c = refl
    none_missed false b c = refl

-- a step found that its EOL is missing, and it is looked at as a whole from where it begins
module _ (dropped : ℕ) (gap : GapSoFar) {is_last : Bool} {gap_start : ℕ} {rows kept : RowState} {next : GapSoFar}
    {count : GapCount} {old mid new : Context} {before to after : BitsAt} (look : GapLook) (unlooked : gap.look.bits ≤ 0)
    (next_is : next ≡ record no_gap { look = look }) (starts : gap_start ≡ dropped + to.place)
    (no_line : is_at_line rows.stand ≡ false) (answer : Result (Option Bool) DecodeError)
    (first : CountsOn is_last rows rows gap.count count old mid before to GapStep.Missed)
    (on : ComesOn is_last gap_start rows kept nothing_seen look mid new to after answer) where
  missed_left : next.passed ≡ 0
  missed_left = ap (λ (g : GapSoFar). g.passed) next_is

  missed_look : next.look ≡ look
  missed_look = ap (λ (g : GapSoFar). g.look) next_is

  missed_waits : answer ≡ Ok None → after ≡ to
  missed_waits e = (on.waits e).3

  to_within : to.place ≤ length to.bits
  to_within = first.within

  missed_sought : on.extra ≤ length (here to)
  missed_sought = elim (cases_lt 0 on.extra) [
    | inl some ↦ omega (arith, on.looks.within some)
    | inr none ↦ omega (arith, none)
  ]

  module _ (from : ℕ) (whole : Bits) (lie : LieIn whole dropped is_last before.bits)
      (stands : StandsSoFar from rows old whole (dropped + before.place) gap) where
    lacks : LacksEolHere (from + first.extra) rows mid whole (dropped + to.place)
        × (dropped + to.place ≡ stands.in_gap.start) × (rows ≡ rows)
    lacks = first.leaves from whole dropped lie stands.in_gap

    missed_start : stands.in_gap.start ≡ gap_start
    missed_start = omega (arith, lacks.1, starts)

    missed_leaves : CameSoFar answer (from + (first.extra + on.extra)) rows kept old new whole stands.in_gap.start
        (dropped + after.place) next after
    missed_leaves =
        let stood = subst (λ (n : ℕ). IsStanding (from + first.extra) rows mid (record { bits = whole; place = n })) (sym starts)
        lacks.0.stands in
        let lies = subst (LieIn whole dropped is_last) (sym first.same_bits) lie in
        let comes = missed_comes answer on (from + first.extra) whole dropped lies starts to_within stands.in_gap.start
        missed_start stood (λ e. subst (λ (n : ℕ). LacksEol mid.held (drop n whole)) lacks.1 lacks.0.misses) in
        let sum : (from + first.extra) + on.extra ≡ from + (first.extra + on.extra) = omega arith in
        subst (λ (g : GapSoFar). CameSoFar answer (from + (first.extra + on.extra)) rows kept old new whole stands.in_gap.start
        (dropped + after.place) g after) (sym next_is)
        (subst (λ (n : ℕ). CameSoFar answer n rows kept old new whole stands.in_gap.start (dropped + after.place)
        (record no_gap { look = look }) after) sum
        (came_before answer ((from + first.extra) + on.extra) rows kept old mid new whole stands.in_gap.start
        (dropped + after.place) (record no_gap { look = look }) after first.held (omega (arith, first.ticks)) comes))

    same_place : to.place ≡ before.place
    same_place = omega (arith, lacks.1, stands.passed, first.onward)

    missed_near : answer ≡ Ok (Some true)
        → (sought : mid.held.has_eols ≡ true)
        → PassesNear is_last rows stands.in_gap.start (dropped + before.place) (dropped + after.place - next.passed)
        (first.extra + on.extra) gap next old (stands.in_gap.gone ++ here before)
    missed_near e sought =
        let some : answer ≢ Ok None = λ none. let never = sym e ∙ none in absurd cc in
        record {
          near = λ more. omega (
            arith,
            first.near,
            on.near some more,
            (on.past_eol more no_line sought e).passed,
            missed_left,
            unlooked,
            same_place,
          );
          last = λ last. omega (
            arith,
            first.near,
            on.looks.finished last,
            on.onward e,
            missed_left,
            lacks.1,
            same_place,
          );
          past_eol = λ more away sought_before.
              let eol = on.past_eol more no_line sought e in
              let none = no_bits stands.in_gap.gone (omega (arith, stands.in_gap.place, lacks.1, same_place)) in
              record {
                fill = eol.fill;
                after = eol.after;
                place = ap (λ (b : Bits). b ++ here before) none ∙ ap (λ (n : ℕ). drop n before.bits) (sym same_place)
                    ∙ ap (drop to.place) (sym first.same_bits) ∙ eol.place;
                passed = omega (arith, eol.passed, missed_left, lacks.1);
              };
        }

    missed_sought_here : mid.held.has_eols ≡ true
    missed_sought_here = eols_sought mid.held.settings mid.held.taken mid.held.has_eols (drop (dropped + to.place) whole)
        lacks.0.misses

  pub missed_counts : ComesCounted is_last dropped rows kept gap next old new before after answer
  missed_counts = record {
    extra = first.extra + on.extra;
    counts = omega (arith, first.ticks, on.counts);
    space = on.space ∙ first.space;
    frame = subst (λ (h : Held). new.held ≡ record h { has_eols = new.held.has_eols; repairs = new.held.repairs }) first.held
        on.frame;
    same_bits = on.same_bits ∙ first.same_bits;
    within = on.within;
    line = on.line;
    at_line = λ line. absurd (false≢true (sym no_line ∙ line));
    only_code = on.only_code;
    near = λ e. omega (
      arith,
      first.near,
      (on.looked e).0,
      ap (λ (b : BitsAt). b.place) (missed_waits e),
      ap (λ (l : GapLook). l.bits) missed_look,
      unlooked,
    );
    looks = λ some. omega (
      arith,
      first.near,
      missed_sought,
      unlooked,
      to_within,
      length-drop to.place to.bits,
      ap length first.same_bits,
    );
    waits = λ e. let waits = on.waits e in (waits.0 ∙ first.held, omega (arith, first.ticks, waits.1), waits.4, waits.2);
    seen = λ e. subst (λ (l : GapLook). IsSeen (rules_for true old.held) l (here after)) (sym missed_look)
        (subst (λ (h : Held). IsSeen (rules_for true h) look (here after)) first.held
        (subst (λ (b : BitsAt). IsSeen (rules_for true mid.held) look (here b)) (sym (missed_waits e)) (on.looked e).1));
    known = record {
      waits = λ e. (
        subst (λ (g : GapSoFar). IsTidy g.count) (sym next_is) (inl refl),
        ap (λ (g : GapSoFar). g.at_zeros) next_is,
        omega (
          arith,
          ap (λ (g : GapSoFar). g.count.eols) next_is,
          ap (λ (g : GapSoFar). g.count.zeros) next_is,
          ap (λ (b : BitsAt). length (here b)) (missed_waits e),
          first.onward,
          ap length first.same_bits,
          length-drop to.place to.bits,
          length-drop before.place before.bits,
        ),
      );
      few = λ e none. omega (
        arith,
        (on.looked e).2,
        none,
        ap (λ (l : GapLook). l.bits) missed_look,
        ap (λ (b : BitsAt). length (here b)) (missed_waits e),
      );
      passed = λ other zeros. next_is ∙ ap (λ (l : GapLook). record no_gap { look = l }) (on.none_looked other);
      zeros = λ zeros. absurd (false≢true (sym (ap (λ (g : GapSoFar). g.at_zeros) next_is) ∙ zeros));
      missed = λ some. next_is ∙ ap (λ (l : GapLook). record no_gap { look = l }) (sym missed_look);
    };
    leaves = missed_leaves;
    passes = λ from whole lie stands e. missed_near from whole lie stands e (missed_sought_here from whole lie stands);
  }

-- at a line there is no gap
pub after_row : (stand : Stand) → ended stand ≡ None → is_at_line stand ≡ false → stand ≡ AfterRow
after_row AtLine unended away = absurd (false≢true (sym away))
after_row AfterRow unended away = refl
after_row AtEnd unended away = absurd cc
after_row (AtFault error) unended away = absurd cc

pub at_line_counts : {is_last : Bool} {dropped : ℕ} {rows : RowState} {gap : GapSoFar} {ctx : Context} {reader : BitsAt}
    → is_at_line rows.stand ≡ true → gap ≡ no_gap → reader.place ≤ length reader.bits
    → ComesCounted is_last dropped rows rows gap gap ctx ctx reader reader (Ok (Some true))
at_line_counts {is_last} {dropped} {rows} {gap} {ctx} {reader} line is within =
    let none : gap.passed ≡ 0 = ap (λ (g : GapSoFar). g.passed) is in
    let unlooked : gap.look.bits ≡ 0 = ap (λ (g : GapSoFar). g.look.bits) is in
    record {
      extra = 0;
      counts = omega arith;
      space = refl;
      frame = refl;
      same_bits = refl;
      within = within;
      line = λ e. line;
      at_line = λ at. (refl, refl, refl, refl, refl);
      only_code = tt;
      near = λ e. cc;
      looks = λ some. absurd (omega (arith, some));
      waits = λ e. cc;
      seen = λ e. cc;
      known = record {
        waits = λ e. cc;
        few = λ e. cc;
        passed = λ other zeros. is;
        zeros = λ zeros. absurd (false≢true (sym (ap (λ (g : GapSoFar). g.at_zeros) is) ∙ zeros));
        missed = λ some. absurd (omega (arith, some, unlooked));
      };
      leaves = λ from whole lie stands.
          let there : stands.in_gap.start ≡ dropped + reader.place = omega (arith, stands.passed, none) in
          record {
            place = stands.in_gap.start;
            place_is = omega (arith, there, none);
            onward = λ e. omega arith;
            stands = subst (λ (n : ℕ). IsStanding n rows ctx (record { bits = whole; place = stands.in_gap.start }))
                (omega arith) stands.in_gap.stands;
            reaches = stays_at_line from rows ctx (record { bits = whole; place = stands.in_gap.start }) line
                stands.in_gap.stands;
            zeros = λ e. absurd (false≢true (sym (ap (λ (g : GapSoFar). g.at_zeros) is) ∙ e));
          };
      passes = λ from whole lie stands e. record {
        near = λ more. omega (arith, none, unlooked);
        last = λ last. omega (arith, none, stands.passed);
        past_eol = λ more away. absurd (false≢true (sym away ∙ line));
      };
    }
