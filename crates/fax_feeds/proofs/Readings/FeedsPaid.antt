-- What all calls of a feed count is paid.
use Rattle.fax_feeds.proofs.Names.{common_steps}
use Rattle.fax_feeds.proofs.Names.{◌≡◌, ◌≢◌, ◌∙◌, ◌+◌, ◌-◌, ◌*◌, ◌≤◌, ◌++◌, ◌⊎◌, ◌&&◌, [], ℕ, Bool, true, false}
use Rattle.fax_feeds.proofs.Names.{Result, Ok, Err, None, Some, Option, refl, sym, ap, subst, arith, length, drop}
use Rattle.fax_feeds.proofs.Names.{inl, inr, cases_lt, false≢true, length-append, length-drop, append_assoc, append-nil}
use Rattle.fax_feeds.proofs.Names.{Bits, Context, Held, DecodeError, DecodeSettings, Row, Stand, AtLine, AfterRow, AtEnd}
use Rattle.fax_feeds.proofs.Names.{AtFault}
use Rattle.fax_feeds.proofs.Names.{changes, ended, is_at_line, line_here, row_of_line}
use Rattle.fax_reading.specs.PlainReading.{aligned_after_row}
use Rattle.fax_reading.specs.Lines.{Line}
use Rattle.fax_reading.specs.Continuations.{is_short}
use Rattle.fax_feeds.specs.declared.line_parts.KeptPart.{KeptPart}
use Rattle.fax_feeds.specs.declared.row_feed.Fed.{Fed}
use Rattle.fax_rows.specs.declared.row_reader.RowState.{RowState}
use Rattle.fax_feeds.specs.RowFeeds.{CallGoesOn, Feeding, FeedsPlainly, HasNone, IsFeedOf, IsOpenAt, IsPlainFeedOf, KeepsBits}
use Rattle.fax_feeds.specs.RowFeeds.{DrawsRow, StandsIn, TriesFirst}
use Rattle.fax_feeds.specs.RowFeeds.{completed, fed_bits, fed_over, most_for_line, offset_of, paid_by, paid_for_line, zeros_left}
use Rattle.fax_feeds.specs.declared.counted_gaps.GapSoFar.{GapSoFar}
use Rattle.fax_feeds.proofs.Readings.FeedsCompleted.{full_long}
use Rattle.fax_feeds.proofs.Readings.CompletedOn.{completed_fed, zeros_known, keeps_completed, knows_more}
use Rattle.std.specs.Prelude.{if◌then◌else◌}
use Rattle.fax_feeds.proofs.Names.{IfErr, take}
use Rattle.fax_feeds.proofs.Readings.FeedAccount.{FeedIsPaid, FirstsPaid, GapsPaid, IsAfter, IsPassed, KnowsMore, LinesPaid}
use Rattle.fax_feeds.proofs.Readings.FeedAccount.{RowsPaid}
use Rattle.fax_feeds.proofs.Readings.FeedAccount.{SeeksEol, WasShort, WasTried, offset}
use Rattle.fax_feeds.specs.FeedsPaid.{FeedsArePaid, IsHistory, changes_of, cost_of_failure}
use Rattle.fax_feeds.proofs.Readings.FeedsOn.{none_paid}
use Rattle.fax_feeds.proofs.Readings.OpenBits.{open_before_eol, open_bits_of_line}
use Rattle.fax_reading.proofs.Work.TurnsPaid.{after_shorter, broken_row}
use Rattle.fax_reading.proofs.Work.ChangesStored.{changes_white}
use Rattle.fax_rows.proofs.Work.CallsPaid.{within_most}
use Rattle.fax_feeds.proofs.Names.{EncodingMode, Group4, Group3_1D, Group3_2D, most_counted}
use Rattle.fax_rows.specs.RowsRead.{ReadsNext}
use Rattle.fax_bits.specs.declared.error.DecodeError.TheVariants.{OutOfMemory}
use Rattle.std.proofs.lemmas.Bool.{and_from, true_from_ne_false}

-- what a call costs that fails for memory, of a feed with all bits that were fed
abbrev plain_cost : Feeding → ℕ
plain_cost feed = 3 * changes_of feed + 12 * length (drop feed.place feed.kept) + 6

-- ---- Where a line ends that was short

-- its row ends no sooner, unless it is repaired
pub short_row : (settings : DecodeSettings) (has_eols : Bool) (reference : Row) (seen more rest : Bits) (row : Row)
    → is_short (line_here settings reference seen) ≡ true
    → row_of_line settings has_eols (seen ++ more) (line_here settings reference (seen ++ more)) ≡ Ok (row, rest)
    → (length rest ≤ length more) ⊎ ((has_eols ≡ true) × (rest ≡ seen ++ more))
short_row settings has_eols reference seen more rest row short is =
    by_line (line_here settings reference (seen ++ more)) refl is
  where
    rest_of : Result (Row × Bits) DecodeError → Bits
    rest_of (Ok x) = x.1
    rest_of (Err fault) = []

    by_line : (line : Line) → line_here settings reference (seen ++ more) ≡ line
        → row_of_line settings has_eols (seen ++ more) line ≡ Ok (row, rest)
        → (length rest ≤ length more) ⊎ ((has_eols ≡ true) × (rest ≡ seen ++ more))
    by_line (Line.broken front fault) e given = inr (broken_row settings has_eols (seen ++ more) rest front row fault given)
    by_line (Line.whole whole after) e given =
        let same : aligned_after_row settings has_eols after ≡ rest = ap rest_of given in
        inl (omega (
          arith,
          ap length same,
          after_shorter settings has_eols after,
          open_bits_of_line settings reference whole seen more after short e,
        ))

-- ---- By the part that is kept

passed_none : (part : Option KeptPart) (known : ℕ) (feed : Feeding) → part ≡ None → IsAfter known feed
    → IsPassed part known feed
passed_none None at feed e known = known
passed_none (Some part) at feed e known = absurd cc

kept_passed : (part : Option KeptPart) (known : ℕ) (feed : Feeding) → part ≢ None → WasShort known feed
    → IsPassed part known feed
kept_passed None at feed e known = absurd (e refl)
kept_passed (Some part) at feed e known = known

was_passed : (part : Option KeptPart) (known : ℕ) (feed : Feeding) → part ≡ None → IsPassed part known feed
    → IsAfter known feed
was_passed None at feed e known = known
was_passed (Some part) at feed e known = absurd cc

was_short : (part : Option KeptPart) (known : ℕ) (feed : Feeding) → part ≢ None → IsPassed part known feed
    → WasShort known feed
was_short None at feed e known = absurd (e refl)
was_short (Some part) at feed e known = known

none_or_some : (part : Option KeptPart) → (part ≡ None) ⊎ (part ≢ None)
none_or_some None = inl refl
none_or_some (Some part) = inr (λ e. cc)

-- ---- More data

module _ {next : Bits} {old new : Feeding} (holds : KnowsMore next old new) where
  drop_is : drop new.place new.kept ≡ drop old.place old.kept ++ next
  drop_is = holds.unread

  short_more : (known : ℕ) → WasShort known old → WasShort known new
  short_more known was = record {
    begun = holds.begun ∙ was.begun;
    at_line = ap (λ (r : RowState). is_at_line r.stand) holds.reading.1 ∙ was.at_line;
    seen = was.seen;
    more = was.more ++ next;
    are = drop_is ∙ ap (λ (b : Bits). b ++ next) was.are ∙ append_assoc was.seen was.more next;
    short = ap (λ (x : Context). is_short (line_here x.held.settings x.held.reference was.seen)) holds.reading.0 ∙ was.short;
    known_is = omega (arith, was.known_is, holds.place);
  }

  after_more : (known : ℕ) → IsAfter known old → IsAfter known new
  after_more known was = grind (arith, common_steps, append_assoc, drop_is)

  passed_more : (known : ℕ) (part : Option KeptPart) → IsPassed part known old → IsPassed part known new
  passed_more known (Some part) was = short_more known was
  passed_more known None was = after_more known was

  same_paid : paid_for_line new ≡ paid_for_line old
  same_paid = ap (λ (p : Option KeptPart). paid_by p new.line_read) holds.part ∙ ap (paid_by old.part) holds.line_read

  same_changes : changes_of new ≡ changes_of old
  same_changes = ap (λ (x : Context). length (changes x.held.reference)) holds.reading.0

  same_zeros : zeros_left new ≡ zeros_left old
  same_zeros = ap (λ (g : GapSoFar). if g.at_zeros then g.passed else 0) holds.gap

  longer : length (drop new.place new.kept) ≡ length (drop old.place old.kept) + length next
  longer = ap length drop_is ∙ length-append (drop old.place old.kept) next

  firsts_more : {calls drawn firsts : ℕ} → FirstsPaid calls drawn firsts old → FirstsPaid calls drawn firsts new
  firsts_more paid = record {
    known = paid.known;
    known_most = omega (arith, paid.known_most, holds.fed);
    most = paid.most;
    here = elim paid.here [
      | inl was ↦ inl (record {
        tried = holds.tried_at ∙ was.tried ∙ sym holds.place;
        short = short_more paid.known was.short;
      })
      | inr untried ↦ inr (record {
        after = after_more paid.known untried.after;
        left = λ unended unfinished. omega (
          arith,
          untried.left (sym (ap (λ (r : RowState). ended r.stand) holds.reading.1) ∙ unended)
              (sym holds.reading.2 ∙ unfinished),
          same_changes,
        );
      })
    ];
  }

  pub more_paid : {calls lost tried : ℕ} → FeedIsPaid calls lost tried old → FeedIsPaid calls lost tried new
  more_paid {calls} {lost} {tried} paid =
      let gaps = paid.gaps_paid in
      let lines = paid.lines_paid in
      record {
        gaps = paid.gaps;
        lines = paid.lines;
        firsts = paid.firsts;
        drawn = paid.drawn;
        sum = paid.sum;
        rows_paid = grind (arith, common_steps, after_more);
        firsts_paid = firsts_more paid.firsts_paid;
        gaps_paid = record {
          first = gaps.first;
          first_most = omega (arith, gaps.first_most, holds.fed);
          most = omega (arith, gaps.most, holds.fed);
          here = λ unended unfinished. omega (
            arith,
            gaps.here (sym (ap (λ (r : RowState). ended r.stand) holds.reading.1) ∙ unended)
                (sym holds.reading.2 ∙ unfinished),
            holds.place,
            holds.looked,
          );
          last = gaps.last;
          last_most = omega (arith, gaps.last_most, holds.fed);
          none_last = λ unfinished. gaps.none_last (sym holds.reading.2 ∙ unfinished);
          there = λ unended finished begun. omega (
            arith,
            gaps.there (sym (ap (λ (r : RowState). ended r.stand) holds.reading.1) ∙ unended)
                (sym holds.reading.2 ∙ finished) (sym holds.begun ∙ begun),
            holds.place,
            same_zeros,
          );
          unbegun = λ e.
              let was = gaps.unbegun (sym holds.begun ∙ e) in
              (omega (arith, was.0, holds.looked), was.1, omega (arith, was.2, holds.fed));
        };
        lines_paid = record {
          known = lines.known;
          read = lines.read;
          seen = lines.seen;
          known_most = omega (arith, lines.known_most, holds.fed);
          read_most = omega (arith, lines.read_most, holds.fed);
          read_before = λ some. lines.read_before (λ none. some (holds.part ∙ none));
          within = omega (arith, lines.within, holds.fed, holds.place);
          part_most = omega (arith, lines.part_most, same_paid, same_changes, longer);
          seen_is = λ some. omega (arith, lines.seen_is (λ none. some (holds.part ∙ none)), holds.place);
          most = omega (arith, lines.most, same_paid);
          next = λ none unended unfinished. omega (
            arith,
            lines.next (sym holds.part ∙ none) (sym (ap (λ (r : RowState). ended r.stand) holds.reading.1) ∙ unended)
                (sym holds.reading.2 ∙ unfinished),
            same_changes,
          );
          here = λ some. omega (arith, lines.here (λ none. some (holds.part ∙ none)), same_paid, same_changes);
          passed = subst (λ (p : Option KeptPart). IsPassed p lines.known new) (sym holds.part)
              (passed_more lines.known old.part lines.passed);
        };
      }

-- the data is finished
finished_short : (known : ℕ) (feed : Feeding) → WasShort known feed → WasShort known (record feed { finished = true })
finished_short known feed was = grind (arith, common_steps)

finished_passed : (known : ℕ) (feed : Feeding) (part : Option KeptPart) → IsPassed part known feed
    → IsPassed part known (record feed { finished = true })
finished_passed known feed None was = λ unended unfinished. absurd (false≢true (sym unfinished))
finished_passed known feed (Some part) was = finished_short known feed was

finished_gaps : {calls gaps : ℕ} {feed : Feeding} (b : Bool) → feed.finished ≡ b → GapsPaid calls gaps feed
    → GapsPaid calls gaps (record feed { finished = true })
finished_gaps true was paid = record {
  first = paid.first;
  first_most = paid.first_most;
  last = paid.last;
  last_most = paid.last_most;
  none_last = λ unfinished. absurd (false≢true (sym unfinished));
  most = paid.most;
  here = λ unended unfinished. absurd (false≢true (sym unfinished));
  there = λ unended finished begun. paid.there unended was begun;
  unbegun = paid.unbegun;
}
finished_gaps {feed = feed} false was paid = record {
  first = paid.first;
  first_most = paid.first_most;
  last = 2 * fed_bits feed;
  last_most = omega arith;
  none_last = λ unfinished. absurd (false≢true (sym unfinished));
  most = omega (arith, paid.most, paid.none_last was);
  here = λ unended unfinished. absurd (false≢true (sym unfinished));
  there = λ unended finished begun. omega (arith, paid.most, paid.none_last was);
  unbegun = paid.unbegun;
}

pub finished_paid : {calls lost tried : ℕ} {old new : Feeding} → new ≡ record old { finished = true }
    → FeedIsPaid calls lost tried old → FeedIsPaid calls lost tried new
finished_paid {calls} {lost} {tried} {old} {new} is paid =
    let gaps = paid.gaps_paid in
    let lines = paid.lines_paid in
    let firsts = paid.firsts_paid in
    subst (FeedIsPaid calls lost tried) (sym is) (record {
      gaps = paid.gaps;
      lines = paid.lines;
      firsts = paid.firsts;
      drawn = paid.drawn;
      sum = paid.sum;
      rows_paid = grind (arith, common_steps, false≢true);
      firsts_paid = record {
        known = firsts.known;
        known_most = firsts.known_most;
        most = firsts.most;
        here = elim firsts.here [
          | inl was ↦ inl (record { tried = was.tried; short = finished_short firsts.known old was.short })
          | inr untried ↦ inr (record {
            after = λ unended unfinished. absurd (false≢true (sym unfinished));
            left = λ unended unfinished. absurd (false≢true (sym unfinished));
          })
        ];
      };
      gaps_paid = finished_gaps old.finished refl gaps;
      lines_paid = grind (arith, common_steps, lines, false≢true, finished_passed);
    })

-- ---- Before the first call

pub begun_paid : (whole : Bits) (feed : Feeding) → IsPlainFeedOf whole 0 feed → feed.begun ≡ false → feed.looked ≡ 0
    → feed.part ≡ None → FeedIsPaid 0 0 0 feed
begun_paid whole feed is unbegun unlooked unkept =
    let front = subst (λ (b : Bool). StandsIn b 0 feed.rows feed.ctx (record
    { bits = whole; place = offset feed })) unbegun is.stands in
    let white : changes_of feed ≡ 0 = ap (λ (h : Held). length (changes h.reference)) front.fresh
    ∙ changes_white feed.ctx.held.settings.columns in
    let none = none_paid feed.part feed.line_read unkept in
    record {
      gaps = 0;
      lines = 0;
      firsts = 0;
      drawn = 0;
      sum = omega arith;
      rows_paid = record { most = omega arith; after = λ unended unfinished. inl (omega arith) };
      firsts_paid = record {
        known = 0;
        known_most = omega arith;
        most = omega arith;
        here = inr (record {
          after = λ unended unfinished. inl (omega arith);
          left = λ unended unfinished. omega (arith, white);
        });
      };
      gaps_paid = record {
        first = 0;
        first_most = omega arith;
        last = 0;
        last_most = omega arith;
        none_last = λ unfinished. refl;
        most = omega arith;
        here = λ unended unfinished. omega arith;
        there = λ unended finished begun. omega arith;
        unbegun = λ e. (omega arith, refl, omega arith);
      };
      lines_paid = record {
        known = 0;
        read = 0;
        seen = 0;
        known_most = omega arith;
        read_most = omega arith;
        read_before = λ some. absurd (some unkept);
        within = omega (arith, front.start);
        part_most = omega (arith, none);
        seen_is = λ some. absurd (some unkept);
        most = omega arith;
        next = λ kept unended unfinished. omega (arith, white);
        here = λ some. absurd (some unkept);
        passed = passed_none feed.part 0 feed unkept (λ unended unfinished. inl (omega arith));
      };
    }

-- ---- A call

pub open_at_line : (begun : Bool) (stand : Stand) (ctx : Context) (next : Bits) → begun ≡ true → is_at_line stand ≡ true
    → IsOpenAt begun stand ctx next → is_short (line_here ctx.held.settings ctx.held.reference next) ≡ true
open_at_line false stand ctx next begun line known = absurd (false≢true begun)
open_at_line true AtLine ctx next begun line known = known
open_at_line true AfterRow ctx next begun line known = absurd (false≢true line)
open_at_line true AtEnd ctx next begun line known = absurd (false≢true line)
open_at_line true (AtFault error) ctx next begun line known = absurd (false≢true line)

-- what a row adds to the changes of those before it: its own, but one, unless the data is finished
record RowAdds (before drawn : ℕ) (new : Feeding) : Type 0 where
  paid : RowsPaid drawn new
  no_fewer : before ≤ drawn + 1
  adds : new.finished ≡ false → before + changes_of new ≤ drawn + 1

module _ {whole : Bits} {calls lost tried : ℕ} {old new : Feeding} {answer : Result Fed DecodeError}
    (unended : ended old.rows.stand ≡ None) (keeps : KeepsBits old new) (few : zeros_left old ≤ length (drop old.place old.kept))
    (paid : FeedIsPaid calls lost tried old)
    (next : FeedsPlainly whole tried old new answer) where
  abbrev goes : CallGoesOn old new answer next.gap next.extra
  goes = next.goes_on

  abbrev lines : LinesPaid calls lost paid.drawn paid.lines old
  lines = paid.lines_paid

  abbrev gaps : GapsPaid calls paid.gaps old
  gaps = paid.gaps_paid

  same_fed : fed_bits new ≡ fed_bits old
  same_fed = omega (arith, keeps.dropped, ap length keeps.kept)

  still_unfinished : new.finished ≡ false → old.finished ≡ false
  still_unfinished e = sym keeps.finished ∙ e

  -- ---- Gaps

  here_within : length (drop old.place old.kept) + offset old ≡ fed_bits old
  here_within = omega (arith, length-drop old.place old.kept, lines.within)

  gap_begun : old.begun ≡ true → paid.gaps + next.gap ≤ gaps.first + gaps.last + 2 * fed_bits old + 16 * calls + 16
  gap_begun begun = elim (cases_lt 0 next.gap) [
    | inl some ↦ by_finished old.finished refl (next.looks.within some)
    | inr none ↦ omega (arith, gaps.most, none)
  ]
    where
      by_finished : (b : Bool) → old.finished ≡ b → next.gap + old.looked ≤ length (drop old.place old.kept) + 16
          → paid.gaps + next.gap ≤ gaps.first + gaps.last + 2 * fed_bits old + 16 * calls + 16
      by_finished true over most = omega (arith, gaps.there unended over begun, most, here_within, few)
      by_finished false still most = omega (arith, gaps.here unended still, most, here_within)

  gap_unbegun : old.begun ≡ false → paid.gaps + next.gap ≤ fed_bits old + 16 * calls + 16
  gap_unbegun unbegun = elim (cases_lt 0 next.gap) [
    | inl some ↦ omega (arith, (gaps.unbegun unbegun).0, next.looks.within some, here_within)
    | inr none ↦ omega (arith, (gaps.unbegun unbegun).2, none)
  ]

  pub gaps_step : (b n : Bool) → old.begun ≡ b → new.begun ≡ n → GapsPaid (calls + 1) (paid.gaps + next.gap) new
  gaps_step true n begun is = record {
    first = gaps.first;
    first_most = omega (arith, gaps.first_most, same_fed);
    last = gaps.last;
    last_most = omega (arith, gaps.last_most, same_fed);
    none_last = λ unfinished. gaps.none_last (still_unfinished unfinished);
    most = omega (arith, gap_begun begun, same_fed);
    here = λ still unfinished.
        omega (arith, gaps.here unended (still_unfinished unfinished), goes.near begun (still_unfinished unfinished) still);
    there = λ still finished now.
        let was : old.finished ≡ true = sym keeps.finished ∙ finished in
        omega (arith, gaps.there unended was begun, goes.last begun was still);
    unbegun = λ e. absurd (false≢true (sym (goes.unbegun e).0 ∙ begun));
  }
  gaps_step false true unbegun is = record {
    first = fed_bits old;
    first_most = omega (arith, same_fed);
    last = gaps.last;
    last_most = omega (arith, gaps.last_most, same_fed);
    none_last = λ unfinished. gaps.none_last (still_unfinished unfinished);
    most = omega (arith, gap_unbegun unbegun, same_fed);
    here = λ still unfinished. omega (arith, gap_unbegun unbegun);
    there = λ still finished now. omega (arith, gap_unbegun unbegun);
    unbegun = λ e. absurd (false≢true (sym e ∙ is));
  }
  gaps_step false false unbegun is = record {
    first = gaps.first;
    first_most = omega (arith, gaps.first_most, same_fed);
    last = gaps.last;
    last_most = omega (arith, gaps.last_most, same_fed);
    none_last = λ unfinished. gaps.none_last (still_unfinished unfinished);
    most = omega (arith, gap_unbegun unbegun, same_fed);
    here = λ still unfinished. omega (arith, waited);
    there = λ still finished now. absurd (false≢true (sym is ∙ now));
    unbegun = λ e. (waited, (gaps.unbegun unbegun).1, omega (arith, gap_unbegun unbegun, same_fed));
  }
    where
      waited : paid.gaps + next.gap ≤ new.looked + 16 * (calls + 1)
      waited = omega (arith, (gaps.unbegun unbegun).0, next.looked (goes.unbegun is).1 (goes.unbegun is).2)

  -- ---- Where the next line begins

  line_passed : (known : ℕ) → IsAfter known old → ended new.rows.stand ≡ None → old.finished ≡ false
      → (answer ≡ Ok Fed.NeedsMore → is_at_line new.rows.stand ≡ true) → known ≤ offset new
  line_passed known was still unfinished waits =
      elim (was unended unfinished) [
        | inl le ↦ omega (arith, le, goes.onward still)
        | inr seeks ↦
            let eol = goes.past_eol unfinished seeks.begun seeks.after seeks.sought still waits in
            omega (
              arith,
              seeks.none [] eol.fill eol.after (append-nil (drop old.place old.kept) ∙ eol.place),
              eol.passed,
            )
      ]

  new_begun : old.begun ≡ true → new.begun ≡ true
  new_begun begun = true_from_ne_false new.begun (λ e. false≢true (sym (goes.unbegun e).0 ∙ begun))

  -- the changes of a row that is read begin no sooner than those before it end
  start_passed : (known : ℕ) → IsAfter known old → old.finished ≡ false → (row : DrawsRow old new) → known ≤ row.start
  start_passed known was unfinished row = elim (was unended unfinished) [
    | inl le ↦ omega (arith, le, row.onward)
    | inr seeks ↦
        let eol = row.past_eol unfinished seeks.begun seeks.after seeks.sought in
        omega (
          arith,
          seeks.none [] eol.fill eol.after (append-nil (drop old.place old.kept) ∙ eol.place),
          eol.passed,
        )
  ]

  same_bits : new.place ≡ old.place → drop new.place new.kept ≡ drop old.place old.kept
  same_bits place = ap (λ (n : ℕ). drop n new.kept) place ∙ ap (drop old.place) keeps.kept

  -- the gap waits for more data
  gap_waits_on : (known : ℕ) → IsAfter known old → answer ≡ Ok Fed.NeedsMore → is_at_line new.rows.stand ≡ false
      → ended new.rows.stand ≡ None → old.finished ≡ false → (known ≤ offset new) ⊎ SeeksEol known new
  gap_waits_on known was e away still unfinished = grind (arith, common_steps, new_begun)

  -- where lines that were short are after, no row is read and the reading hasn't ended
  stays_after : (known : ℕ) → IsAfter known old → HasNone answer → IsAfter known new
  stays_after known was left still unfinished = by_line (is_at_line new.rows.stand) refl answer refl
    where
      by_line : (b : Bool) → is_at_line new.rows.stand ≡ b → (a : Result Fed DecodeError) → answer ≡ a
          → (known ≤ offset new) ⊎ SeeksEol known new
      by_line true line a is = inl (line_passed known was still (still_unfinished unfinished) (λ needs. line))
      by_line false away (Ok fed) is =
          let needs : answer ≡ Ok Fed.NeedsMore = is ∙ ap (λ (x : Fed). Ok x) (subst HasNone is left) in
          gap_waits_on known was needs away still (still_unfinished unfinished)
      by_line false away (Err error) is =
          inl (line_passed known was still (still_unfinished unfinished) (λ needs. let never = sym is ∙ needs in absurd cc))

  -- at a line that was short
  module _ {known : ℕ} (short : WasShort known old) where
    stays_at_line : (old.begun && is_at_line old.rows.stand) ≡ true
    stays_at_line = and_from old.begun (is_at_line old.rows.stand) short.begun short.at_line

    -- its row is read
    following_line : answer ≡ Ok Fed.Row → ended new.rows.stand ≡ None → (known ≤ offset new) ⊎ SeeksEol known new
    following_line e still =
        let row = subst (λ (b : Bits). row_of_line old.ctx.held.settings old.ctx.held.has_eols b
        (line_here old.ctx.held.settings old.ctx.held.reference b)
        ≡ Ok (new.ctx.held.reference, drop new.place new.kept)) short.are (goes.row_is e stays_at_line) in
        elim (short_row old.ctx.held.settings old.ctx.held.has_eols old.ctx.held.reference short.seen short.more
        (drop new.place new.kept) new.ctx.held.reference short.short row) [
          | inl le ↦ grind (arith, common_steps, length-append, here_within, length-drop, goes, same_fed)
          | inr repaired ↦ inr (record {
            begun = new_begun short.begun;
            after = goes.after e;
            sought = goes.sought e stays_at_line ∙ repaired.0;
            none = λ more fill after is. omega (
              arith,
              short.known_is,
              goes.onward still,
              open_before_eol old.ctx.held.settings old.ctx.held.reference short.seen (short.more ++ more) fill after
                  short.short (sym (append_assoc short.seen short.more more)
                  ∙ ap (λ (b : Bits). b ++ more) (sym repaired.1) ∙ is),
            );
          })
        ]

    -- it is left
    stays_short : HasNone answer → WasShort known new
    stays_short left = grind (arith, common_steps, goes, left, stays_at_line, new_begun, same_bits)

  -- after the row of a line of which a part was kept
  module _ (some : old.part ≢ None) where
    was : WasShort lines.known old
    was = was_short old.part lines.known old some lines.passed

    -- what is counted where it is read
    read_here : paid.lines + next.line_extra + paid_for_line old ≤ paid.lines + most_for_line old + 4
        → paid.lines + next.line_extra
        ≤ 6 * lines.known + 2 * fed_bits old + 2 * paid.drawn + 8 * calls + lost + 4
    read_here read = grind (arith, common_steps, here_within)

  -- ---- The changes of the rows

  row_begun : answer ≡ Ok Fed.Row → new.begun ≡ true
  row_begun e = true_from_ne_false new.begun (λ is. let never = sym e ∙ (goes.unbegun is).1 in cc)

  -- a row is read
  row_adds : answer ≡ Ok Fed.Row → (drawn : ℕ) × RowAdds paid.drawn drawn new
  row_adds e = by_bool old.finished refl
    where
      row : DrawsRow old new
      row = goes.draws e

      by_bool : (b : Bool) → old.finished ≡ b → (drawn : ℕ) × RowAdds paid.drawn drawn new
      by_bool true over = (
        paid.drawn,
        record {
          paid = grind (arith, common_steps, same_fed, false≢true, still_unfinished);
          no_fewer = omega arith;
          adds = λ unfinished. absurd (false≢true (sym (still_unfinished unfinished) ∙ over));
        },
      )
      by_bool false unfinished =
          let passed = start_passed paid.drawn paid.rows_paid.after unfinished row in (
            (paid.drawn + changes_of new) - 1,
            record {
              paid = record {
                most = omega (arith, passed, row.most);
                after = λ still going. elim row.drawn [
                  | inl le ↦ inl (omega (arith, passed, le))
                  | inr repaired ↦ inr (record {
                    begun = row_begun e;
                    after = goes.after e;
                    sought = repaired.0;
                    none = λ more fill after is. omega (arith, passed, repaired.1 more fill after is);
                  })
                ];
              };
              no_fewer = omega arith;
              adds = λ going. omega arith;
            },
          )

  -- no row is read
  none_added : IsAfter paid.drawn new → RowsPaid paid.drawn new
  none_added after = record { most = omega (arith, paid.rows_paid.most, same_fed); after = after }

  -- ---- Lines

  abbrev counted : ℕ
  counted = paid.lines + next.line_extra

  abbrev LinesNow : ℕ → ℕ → Type 0
  LinesNow drawn count = LinesPaid (calls + 1) lost drawn count new

  -- the lines that were short, where no part of one was kept
  lines_after : old.part ≡ None → IsAfter lines.known old
  lines_after none = was_passed old.part lines.known old none lines.passed

  row_not_left : answer ≡ Ok Fed.Row → HasNone answer → ⊥
  row_not_left e left = let never : Fed.Row ≡ Fed.NeedsMore = subst HasNone e left in cc

  row_unkept : answer ≡ Ok Fed.Row → new.part ≡ None
  row_unkept e = goes.unkept (λ needs. let never = sym e ∙ needs in absurd cc)

  -- no part of a line is kept
  unkept_lines : {count drawn lost_now : ℕ} (known read : ℕ) → new.part ≡ None → known ≤ fed_bits old → read ≤ fed_bits old
      → count ≤ 6 * known + 2 * read + 2 * drawn + 8 * (calls + 1) + lost_now
      → (ended new.rows.stand ≡ None → new.finished ≡ false
      → count + 2 * changes_of new ≤ 6 * known + 2 * read + 2 * drawn + 8 * (calls + 1) + lost_now)
      → IsAfter known new → LinesPaid (calls + 1) lost_now drawn count new
  unkept_lines known read gone known_most read_most most left after = record {
    known = known;
    read = read;
    seen = 0;
    known_most = omega (arith, known_most, same_fed);
    read_most = omega (arith, read_most, same_fed);
    read_before = λ some. absurd (some gone);
    within = goes.within;
    part_most = goes.paid;
    seen_is = λ some. absurd (some gone);
    most = omega (arith, most);
    next = λ none. left;
    here = λ some. absurd (some gone);
    passed = passed_none new.part known new gone after;
  }

  -- a row is read
  row_lines : (drawn : ℕ) → RowAdds paid.drawn drawn new → answer ≡ Ok Fed.Row → LinesNow drawn counted
  row_lines drawn adds e = elim (none_or_some old.part) [
    | inl none ↦
        let at_once = next.line_work.at_once (row_not_left e) none in
        let unpaid = none_paid old.part old.line_read none in
        unkept_lines lines.known lines.read (row_unkept e) lines.known_most lines.read_most
        (omega (arith, lines.most, at_once, unpaid, adds.no_fewer))
        (λ still unfinished. omega (arith, lines.most, at_once, unpaid, adds.adds unfinished))
        (λ still unfinished. inl (line_passed lines.known (lines_after none) still (still_unfinished unfinished)
        (λ needs. let never = sym e ∙ needs in absurd cc)))
    | inr some ↦
        let read = read_here some (omega (arith, next.line_work.read (row_not_left e))) in
        unkept_lines lines.known (fed_bits old) (row_unkept e) lines.known_most (omega arith)
        (omega (arith, read, adds.no_fewer)) (λ still unfinished. omega (arith, read, adds.adds unfinished))
        (λ still unfinished. following_line (was some) e still)
  ]

  -- the reading ends
  end_lines : (ended new.rows.stand ≡ None → ⊥) → (HasNone answer → ⊥) → LinesNow paid.drawn counted
  end_lines over other = elim (none_or_some old.part) [
    | inl none ↦
        grind (arith, common_steps, unkept_lines, lines, none_paid, next.line_work.at_once other none)
    | inr some ↦
        grind (arith, common_steps, read_here, unkept_lines, lines, next.line_work.read other)
  ]
    where
      gone : new.part ≡ None
      gone = goes.unkept (λ needs. absurd (other (subst HasNone (sym needs) refl)))

  -- more data is needed
  module _ (e : answer ≡ Ok Fed.NeedsMore) where
    left : HasNone answer
    left = subst HasNone (sym e) refl

    same_changes_there : changes_of new ≡ changes_of old
    same_changes_there = ap (λ (r : Row). length (changes r)) (next.none left).row

    abbrev bits_here : Bits
    bits_here = drop new.place new.kept

    new_within : offset new + length bits_here ≡ fed_bits new
    new_within = omega (arith, length-drop new.place new.kept, goes.within)

    kept_at_line : new.part ≢ None → is_at_line new.rows.stand ≡ true
    kept_at_line some = true_from_ne_false (is_at_line new.rows.stand) (λ away. some (goes.unkept (λ needs. away)))

    -- the line here is short
    short_there : is_at_line new.rows.stand ≡ true → WasShort (offset new + length bits_here) new
    short_there line =
        let begun = true_from_ne_false new.begun (λ is. false≢true (sym (goes.unbegun is).2 ∙ line)) in
        record {
          begun = begun;
          at_line = line;
          seen = bits_here;
          more = [];
          are = sym (append-nil bits_here);
          short = open_at_line new.begun new.rows.stand new.ctx bits_here begun line (next.unsettled e).1;
          known_is = refl;
        }

    -- what is counted for it is counted for a first try, if anything is
    waits_lines : old.part ≡ None → new.part ≡ None → LinesNow paid.drawn paid.lines
    waits_lines none still =
        unkept_lines lines.known lines.read still lines.known_most lines.read_most
        (omega (arith, lines.most, none_paid old.part old.line_read none))
        (λ open_end unfinished. omega (arith, lines.next none unended (still_unfinished unfinished), same_changes_there))
        (stays_after lines.known (lines_after none) left)

    -- a part of the line is kept
    kept_lines : new.part ≢ None → counted + changes_of new
        ≤ paid_for_line new + 6 * offset new + 4 * length bits_here + 2 * lines.read + 2 * paid.drawn + 8 * (calls + 1) + lost
        → LinesNow paid.drawn counted
    kept_lines some here = record {
      known = offset new + length bits_here;
      read = lines.read;
      seen = length bits_here;
      known_most = omega (arith, new_within);
      read_most = omega (arith, lines.read_most, same_fed);
      read_before = λ kept. omega (arith, lines.read_most, same_fed, new_within);
      within = goes.within;
      part_most = goes.paid;
      seen_is = λ kept. refl;
      most = omega (arith, here);
      next = λ gone. absurd (some gone);
      here = λ kept. omega (arith, here);
      passed = kept_passed new.part (offset new + length bits_here) new some (short_there (kept_at_line some));
    }

    begins_lines : old.part ≡ None → new.part ≢ None → LinesNow paid.drawn counted
    begins_lines none some =
        let unfinished = still_unfinished (next.unsettled e).0 in
        let known = line_passed lines.known (lines_after none) (next.none left).unended unfinished
        (λ needs. kept_at_line some) in
        kept_lines some (omega (
          arith,
          lines.next none unended unfinished,
          next.line_work.begins e none,
          known,
          same_changes_there,
        ))

    goes_on_lines : old.part ≢ None → LinesNow paid.drawn counted
    goes_on_lines kept =
        kept_lines (next.line_work.some e kept) (omega (
          arith,
          lines.here kept,
          next.line_work.goes_on e kept,
          new_within,
          same_fed,
          same_changes_there,
          goes.stays left (stays_at_line (was kept)),
          keeps.dropped,
          lines.known_most,
          lines.seen_is kept,
        ))

  -- ---- First tries

  abbrev firsts : FirstsPaid calls paid.drawn paid.firsts old
  firsts = paid.firsts_paid

  abbrev FirstsNow : ℕ → ℕ → Type 0
  FirstsNow drawn count = FirstsPaid (calls + 1) drawn count new

  -- a row is read
  row_firsts : (drawn : ℕ) → RowAdds paid.drawn drawn new → answer ≡ Ok Fed.Row → FirstsNow drawn paid.firsts
  row_firsts drawn adds e = record {
    known = firsts.known;
    known_most = omega (arith, firsts.known_most, same_fed);
    most = omega (arith, firsts.most, adds.no_fewer);
    here = inr (record {
      after = λ still unfinished. elim firsts.here [
        | inl was ↦ following_line was.short e still
        | inr untried ↦ inl (line_passed firsts.known untried.after still (still_unfinished unfinished)
            (λ needs. let never = sym e ∙ needs in absurd cc))
      ];
      left = λ still unfinished. omega (arith, firsts.most, adds.adds unfinished);
    });
  }

  -- the reading ends
  end_firsts : (ended new.rows.stand ≡ None → ⊥) → FirstsNow paid.drawn paid.firsts
  end_firsts over = grind (arith, common_steps, firsts, same_fed, left)

  -- no row is read, and no line is tried first
  left_firsts : HasNone answer → FirstsNow paid.drawn paid.firsts
  left_firsts left = record {
    known = firsts.known;
    known_most = omega (arith, firsts.known_most, same_fed);
    most = omega (arith, firsts.most);
    here = elim firsts.here [
      | inl was ↦ inl (record { tried = tried_there was; short = stays_short was.short left })
      | inr untried ↦ inr (record {
        after = stays_after firsts.known untried.after left;
        left = λ still unfinished. omega (
          arith,
          untried.left unended (still_unfinished unfinished),
          ap (λ (r : Row). length (changes r)) (next.none left).row,
        );
      })
    ];
  }
    where
      tried_there : WasTried firsts.known old → new.tried_at ≡ offset new
      tried_there was = grind (arith, common_steps, stays_at_line)

  -- a line is tried first, and is short
  first_firsts : (e : answer ≡ Ok Fed.NeedsMore) → old.part ≡ None → new.part ≡ None → TriesFirst old new
      → FirstsNow paid.drawn (paid.firsts + next.line_extra)
  first_firsts e none still first = elim firsts.here [
    | inl was ↦
        let stays = goes.stays (left e) (stays_at_line was.short) in
        absurd (first.untried (omega (arith, was.tried, stays, keeps.dropped)))
    | inr untried ↦
        let unfinished = still_unfinished (next.unsettled e).0 in
        let known = line_passed firsts.known untried.after (next.none (left e)).unended unfinished
        (λ needs. first.at_line) in
        record {
          known = offset new + length (bits_here e);
          known_most = omega (arith, new_within e);
          most = omega (
            arith,
            untried.left unended unfinished,
            known,
            next.line_work.begins e none,
            none_paid new.part new.line_read still,
            same_changes_there e,
          );
          here = inl (record { tried = first.tried; short = short_there e first.at_line });
        }
  ]

  -- ---- What a call comes to

  ends_there : {read : Result Bool DecodeError} → (read ≡ Ok false) ⊎ ((error : DecodeError) × (read ≡ Err error))
      → ReadsNext (fed_over whole old) (fed_over whole new) read → ended new.rows.stand ≡ None → ⊥
  ends_there (inl is) reads still = let never = sym (reads.end is).0 ∙ still in cc
  ends_there {read} (inr (error, is)) reads still = grind (arith, common_steps)

  paid_now : (drawn lines_now firsts_now : ℕ) → lines_now + firsts_now ≡ paid.lines + paid.firsts + next.line_extra
      → RowsPaid drawn new → LinesNow drawn lines_now → FirstsNow drawn firsts_now
      → FeedIsPaid (calls + 1) lost (tried + next.extra) new
  paid_now drawn lines_now firsts_now is rows_are lines_are firsts_are = record {
    gaps = paid.gaps + next.gap;
    lines = lines_now;
    firsts = firsts_now;
    drawn = drawn;
    sum = omega (arith, paid.sum, next.extra_is, is);
    rows_paid = rows_are;
    gaps_paid = gaps_step old.begun new.begun refl refl;
    lines_paid = lines_are;
    firsts_paid = firsts_are;
  }

  -- what is counted for a line is counted for it alone
  line_paid : (drawn : ℕ) → RowsPaid drawn new → LinesNow drawn counted → FirstsNow drawn paid.firsts
      → FeedIsPaid (calls + 1) lost (tried + next.extra) new
  line_paid drawn = paid_now drawn counted paid.firsts (omega arith)

  -- a row is read
  row_paid : answer ≡ Ok Fed.Row → FeedIsPaid (calls + 1) lost (tried + next.extra) new
  row_paid e =
      let (drawn, adds) = row_adds e in line_paid drawn adds.paid (row_lines drawn adds e) (row_firsts drawn adds e)

  -- no row is read, and the reading goes on
  left_rows : HasNone answer → RowsPaid paid.drawn new
  left_rows left = none_added (stays_after paid.drawn paid.rows_paid.after left)

  -- more data is needed
  needs_paid : answer ≡ Ok Fed.NeedsMore → FeedIsPaid (calls + 1) lost (tried + next.extra) new
  needs_paid e = elim (none_or_some old.part) [
    | inl none ↦ elim (none_or_some new.part) [
      | inl still ↦ elim (next.line_work.unread e none still) [
        | inl nothing ↦ paid_now paid.drawn paid.lines paid.firsts (omega (arith, nothing)) rows
            (waits_lines e none still) (left_firsts (left e))
        | inr first ↦ paid_now paid.drawn paid.lines (paid.firsts + next.line_extra) (omega arith) rows
            (waits_lines e none still) (first_firsts e none still first)
      ]
      | inr some ↦ line_paid paid.drawn rows (begins_lines e none some) (left_firsts (left e))
    ]
    | inr kept ↦ line_paid paid.drawn rows (goes_on_lines e kept) (left_firsts (left e))
  ]
    where
      rows : RowsPaid paid.drawn new
      rows = left_rows (left e)

  -- the reading ends
  end_paid : (ended new.rows.stand ≡ None → ⊥) → (HasNone answer → ⊥)
      → FeedIsPaid (calls + 1) lost (tried + next.extra) new
  end_paid over other = line_paid paid.drawn (none_added (λ still. absurd (over still))) (end_lines over other) (end_firsts over)

  answer_paid : (a : Result Fed DecodeError) → answer ≡ a → answer ≢ Err OutOfMemory
      → FeedIsPaid (calls + 1) lost (tried + next.extra) new
  answer_paid (Ok Fed.Row) e other = row_paid e
  answer_paid (Ok Fed.NeedsMore) e other = needs_paid e
  answer_paid (Ok Fed.End) e other = end_paid (ends_there (inl refl) (next.end e))
      (λ left. let never : Fed.End ≡ Fed.NeedsMore = subst HasNone e left in cc)
  answer_paid (Err error) e other =
      let no_memory : error ≢ OutOfMemory = λ is. other (e ∙ ap (λ (x : DecodeError). Err x) is) in
      let fault = subst (λ (r : Result Fed DecodeError). IfErr r (λ x. x ≢ OutOfMemory
      → ReadsNext (fed_over whole old) (fed_over whole new) (Err x))) e next.fault in
      end_paid (ends_there (inr (error, refl)) (fault no_memory)) (λ left. no_memory (subst HasNone e left))

  pub reads_paid : answer ≢ Err OutOfMemory → FeedIsPaid (calls + 1) lost (tried + next.extra) new
  reads_paid = answer_paid answer refl

  -- ---- A call that fails for memory

  module _ (e : answer ≡ Err OutOfMemory) where
    failed_left : HasNone answer
    failed_left = subst HasNone (sym e) refl

    failed_unkept : new.part ≡ None
    failed_unkept = goes.unkept (λ needs. let never = sym e ∙ needs in absurd cc)

    failed_changes : changes_of new ≡ changes_of old
    failed_changes = ap (λ (r : Row). length (changes r)) (next.none failed_left).row

    failed_within : offset new + length (drop new.place new.kept) ≡ fed_bits old
    failed_within = omega (arith, length-drop new.place new.kept, goes.within, same_fed)

    -- what was known of the line no longer is
    abbrev known_now : ℕ
    known_now = lines.known - (lines.known - offset new)

    failed_some : old.part ≢ None → counted + 2 * changes_of new
        ≤ 6 * known_now + 2 * lines.read + 2 * paid.drawn + 8 * calls + lost + plain_cost new
    failed_some some =
        grind (arith, common_steps, goes, failed_left, stays_at_line, was, lines, failed_changes, failed_within, here_within)

    -- counted for it
    failed_most : counted ≤ 6 * known_now + 2 * lines.read + 2 * paid.drawn + 8 * calls + lost + plain_cost new
    failed_most = grind (arith, common_steps, none_or_some, none_paid, failed_within, failed_some)

    -- counted for it, with what is left for the line
    failed_next : ended new.rows.stand ≡ None → new.finished ≡ false → counted + 2 * changes_of new
        ≤ 6 * known_now + 2 * lines.read + 2 * paid.drawn + 8 * calls + lost + plain_cost new
    failed_next still unfinished =
        grind (arith, common_steps, none_or_some, lines, still_unfinished, failed_changes, failed_within, failed_some)

    pub fails_paid : FeedIsPaid (calls + 1) (lost + plain_cost new) (tried + next.extra) new
    fails_paid = record {
      gaps = paid.gaps + next.gap;
      lines = counted;
      firsts = paid.firsts;
      drawn = paid.drawn;
      sum = omega (arith, paid.sum, next.extra_is);
      rows_paid = left_rows failed_left;
      gaps_paid = gaps_step old.begun new.begun refl refl;
      firsts_paid = left_firsts failed_left;
      lines_paid = unkept_lines known_now lines.read failed_unkept (omega (arith, lines.known_most)) lines.read_most
          (omega (arith, failed_most)) (λ still unfinished. omega (arith, failed_next still unfinished))
          (λ still unfinished. inl (omega arith));
    }

-- ---- All calls

-- what the plain reading counts
plain_most : {whole : Bits} {tried : ℕ} {feed : Feeding} → IsPlainFeedOf whole tried feed
    → feed.ctx.ticks ≤ tried + 36 * length whole + 14
plain_most {whole} {tried} {feed} is = by_begun feed.begun is.stands
  where
    most_plain : (encoding : EncodingMode) (bits : ℕ) → most_counted encoding bits ≤ 36 * bits + 14
    most_plain Group4 bits = omega arith
    most_plain Group3_1D bits = omega arith
    most_plain Group3_2D bits = omega arith

    by_begun : (b : Bool) → StandsIn b tried feed.rows feed.ctx (record { bits = whole; place = offset feed })
        → feed.ctx.ticks ≤ tried + 36 * length whole + 14
    by_begun true stands = grind (arith, common_steps, within_most, most_plain)
    by_begun false front = omega (arith, front.ticks)

-- no more bits were fed than the whole data has
plain_within : {whole : Bits} {tried : ℕ} {feed : Feeding} → IsPlainFeedOf whole tried feed → fed_bits feed ≤ length whole
plain_within {whole} {tried} {feed} is = omega (
  arith,
  is.lie.within,
  ap length is.lie.bits,
  length-append feed.kept is.lie.more,
  length-drop feed.dropped whole,
)

lines_in_all : {calls lost drawn lines : ℕ} {feed : Feeding} → (paid : LinesPaid calls lost drawn lines feed)
    → lines ≤ 8 * fed_bits feed + 2 * drawn + 8 * calls + lost + 2
lines_in_all {calls} {lost} {drawn} {lines} {feed} paid = grind (arith, common_steps, none_or_some, none_paid, length-drop)

-- a failure costs as much where all bits are there that were fed
same_cost : {whole : Bits} {tried : ℕ} {feed : Feeding} → IsFeedOf whole tried feed
    → plain_cost (completed whole feed) ≡ cost_of_failure feed
same_cost {whole} {tried} {feed} is =
    omega (arith, length-drop (offset_of feed) (take (fed_bits feed) whole), full_long is)

-- what was called leaves a reading of the data
history_fed : {whole : Bits} {calls lost tried : ℕ} {feed : Feeding} → IsHistory whole calls lost tried feed
    → IsFeedOf whole tried feed
history_fed (IsHistory.opens is unbegun unlooked unkept) = is
history_fed (IsHistory.feeds next before holds is) = is
history_fed (IsHistory.finishes before is fed) = fed
history_fed (IsHistory.reads before unended keeps next other) = next.stands
history_fed (IsHistory.fails before unended keeps next) = next.stands

-- and is paid
history_paid : {whole : Bits} {calls lost tried : ℕ} {feed : Feeding} → IsHistory whole calls lost tried feed
    → FeedIsPaid calls lost tried (completed whole feed)
history_paid {whole = whole} (IsHistory.opens {feed} is unbegun unlooked unkept) =
    begun_paid whole (completed whole feed) (completed_fed is) unbegun unlooked unkept
history_paid (IsHistory.feeds next before holds is) = more_paid (knows_more holds (history_fed before) is) (history_paid before)
history_paid {whole = whole} (IsHistory.finishes before is fed) = finished_paid (ap (completed whole) is) (history_paid before)
history_paid (IsHistory.reads before unended keeps next other) =
    reads_paid unended (keeps_completed _ keeps) (zeros_known (history_fed before)) (history_paid before) next.plainly other
history_paid {whole = whole} (IsHistory.fails {calls} {lost} {tried} {old} {new} before unended keeps next) =
    subst (λ (n : ℕ). FeedIsPaid (calls + 1) (lost + n) (tried + next.plainly.extra) (completed whole new))
    (same_cost next.stands) (fails_paid unended (keeps_completed _ keeps) (zeros_known (history_fed before))
    (history_paid before) next.plainly refl)

pub feeds_are_paid : FeedsArePaid
feeds_are_paid calls lost tried whole feed history is =
    let paid = history_paid history in
    let all = completed_fed is in
    omega (
      arith,
      plain_most all,
      plain_within all,
      paid.sum,
      paid.gaps_paid.most,
      paid.gaps_paid.first_most,
      paid.gaps_paid.last_most,
      lines_in_all paid.lines_paid,
      paid.firsts_paid.most,
      paid.firsts_paid.known_most,
      paid.rows_paid.most,
    )
