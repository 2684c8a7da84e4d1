-- Rows that are passed up to a line of whole data.
use Rattle.fax_rows.proofs.Names.{◌≡◌, ◌≢◌, ◌+◌, ◌<◌, ◌≤◌, ◌∙◌, ◌++◌, [], ℕ, Bool, true, false, Option, Some, None, inl}
use Rattle.fax_rows.proofs.Names.{inr, ◌⊎◌}
use Rattle.fax_rows.proofs.Names.{Ok, Err, Result, refl, sym, ap, subst, arith, length, drop, append-nil, IfErr}
use Rattle.fax_rows.proofs.Names.{DecodeSettings, DecodeError, Bits, BitsAt, here, Held, Context, plain, IsFault, most_counted}
use Rattle.fax_rows.proofs.Names.{found_here, changes}
use Rattle.fax_rows.specs.declared.row_reader.Stand.{Stand}
use Rattle.fax_rows.specs.declared.row_reader.Stand.TheVariants.{AtLine, AfterRow, AtEnd, AtFault}
use Rattle.fax_rows.proofs.Names.{ReaderStands, IsStanding, IsStandingAtLine, ended, is_at_line}
use Rattle.fax_rows.proofs.Names.{stand_after, line_after, InvalidCode}
use Rattle.std.proofs.lemmas.Bool.{false≢true}
use Rattle.std.proofs.lemmas.Option.{none-some}
use Rattle.std.proofs.Common.{is_some}
use Rattle.fax_rows.specs.declared.row_reader.RowState.{RowState}
use Rattle.fax_rows.specs.RowsTried.{CanCome, PassesGap, PassesGapHere, ReadsRow, TriesRow, rows_after_gap, rows_after_line}
use Rattle.fax_rows.proofs.Readings.GapsPassed.{gap_stays}
use Rattle.fax_rows.proofs.Readings.LinesRead.{line_stays}
use Rattle.fax_rows.proofs.Readings.RowByRow.{at_line_stands, room_at_line}
use Rattle.fax_bits.proofs.ErrorKinds.{by_kind}
use Rattle.fax_bits.specs.declared.error.DecodeError.TheVariants.{OutOfMemory, Refused}
use Rattle.fax_rows.specs.TakenRows.{CanTakeRow}
use Rattle.std.proofs.Common.{◌^◌, ◌*◌}
use Rattle.fax_rows.proofs.Work.CallsPaid.{at_line_paid, failed_most, within_most}
use Rattle.hayro_ccitt.specs.TaggedBodies.{PassesLine, ReadsRowHere}

-- ---- A row is tried where no more data comes

no_more : CanCome true []
no_more = record { bytes = omega arith; none = λ e. refl }

module _ {old new : Context} {before after : BitsAt} where
  pub read_alone : {answer : Result Bool DecodeError} → TriesRow true old new answer before after → answer ≡ Ok true
      → ReadsRow old new (Ok tt) (here before) (here after)
  read_alone tried is =
      subst (λ (b : Bits). ReadsRow old new (Ok tt) b (here after)) (append-nil (here before))
      (subst (λ (b : Bits). ReadsRow old new (Ok tt) (here before ++ []) b) (append-nil (here after)) (tried.read is [] no_more))

  pub failed_alone : {e : DecodeError} → TriesRow true old new (Err e) before after → IsFault e
      → ReadsRow old new (Err e) (here before) (here after)
  failed_alone {e} tried fault =
      subst (λ (b : Bits). ReadsRow old new (Err e) b (here after)) (append-nil (here before))
      (subst (λ (b : Bits). ReadsRow old new (Err e) (here before ++ []) b) (append-nil (here after))
      (tried.failed fault [] no_more))

-- ---- What a row leaves

module _ (rows kept : RowState) (old new : Context) (before after : BitsAt) (begun : before.place ≤ length before.bits)
    (within : after.place ≤ length after.bits) (same : after.bits ≡ before.bits) where
  at_end : record { bits = before.bits; place = after.place } ≡ after
  at_end = ap (λ (b : Bits). record { bits = b; place = after.place }) (sym same)

  stands_then : (answer : Result (Unit {0}) DecodeError) → kept ≡ rows_after_line rows answer before.place old.held.repairs.rows
      old.held.repairs.cut new.held.repairs → ReadsRow old new answer (here before) (here after) → (base : ℕ)
      → IsStandingAtLine base rows old before → IsStanding base kept new after
  stands_then answer is reads base at =
      subst (λ (r : RowState). IsStanding base r new after) (sym is)
      (subst (IsStanding base (rows_after_line rows answer before.place old.held.repairs.rows old.held.repairs.cut
      new.held.repairs) new) at_end
      (line_stays base rows old new before.bits before.place after.place begun (omega (arith, within, ap length same)) at answer
      (subst (λ (b : Bits). ReadsRow old new answer (here before) (drop after.place b)) same reads)))

  pub row_here : (answer : Result (Unit {0}) DecodeError) → kept ≡ rows_after_line rows answer before.place old.held.repairs.rows
      old.held.repairs.cut new.held.repairs → ReadsRow old new answer (here before) (here after)
      → IfErr answer (λ e. IsFault e) → ReadsRowHere rows kept old new before after
  row_here (Ok x) is reads fault = record {
    stands = stands_then (Ok x) is reads;
    settings = ap (λ (h : Held). h.settings) reads.row.taken.held;
    no_line = ap (λ (r : RowState). is_at_line r.stand) is;
    taken = omega (arith, ap (λ (h : Held). h.taken) reads.row.taken.held);
    more = λ unended. ap (λ (h : Held). h.taken) reads.row.taken.held;
    fault = λ e ends. absurd (none-some (Err e) (sym (ap (λ (r : RowState). ended r.stand) is) ∙ ends));
  }
  row_here (Err error) is reads fault = record {
    stands = stands_then (Err error) is reads;
    settings = ap (λ (h : Held). h.settings) reads.row.held;
    no_line = ap (λ (r : RowState). is_at_line r.stand) is;
    taken = omega (arith, ap (λ (h : Held). h.taken) reads.row.held);
    more = λ unended. absurd (none-some (Err error) (sym unended ∙ ap (λ (r : RowState). ended r.stand) is));
    fault = λ e ends. let both : ◌≡◌ {A = Option (Result (Unit {0}) DecodeError)} (Some (Err error)) (Some (Err e))
        = sym (ap (λ (r : RowState). ended r.stand) is) ∙ ends in
        let same_error : error ≡ e = cc in subst (λ (x : DecodeError). IsFault x) same_error fault;
  }

-- ---- What a gap leaves

module _ (base : ℕ) (rows kept : RowState) (old new : Context) (before after : BitsAt) (answer : Result Bool DecodeError)
    (gap : PassesGapHere before.place rows kept old new before after answer) where
  passed : PassesGap old new gap.over (here before) (drop after.place before.bits)
  passed = subst (λ (b : Bits). PassesGap old new gap.over (here before) (drop after.place b)) gap.same_bits
      (subst (PassesGap old new gap.over (here before)) (append-nil (here after))
      (subst (λ (s : Bits). PassesGap old new gap.over s (here after ++ [])) (append-nil (here before)) (gap.passes []
      (inl refl))))

  pub gap_here : ended rows.stand ≡ None → is_at_line rows.stand ≡ false → IsStanding base rows old before
      → IsStanding base kept new after
  gap_here unended no_line stands =
      subst (λ (r : RowState). IsStanding base r new after) (sym gap.kept_is)
      (subst (IsStanding base (rows_after_gap rows gap.over before.place old new) new)
      (ap (λ (b : Bits). record { bits = b; place = after.place }) (sym gap.same_bits))
      (gap_stays base rows old new before.bits before.place after.place gap.over passed gap.begun
      (omega (arith, gap.within, ap length gap.same_bits)) unended no_line stands))

  kept_stand : kept.stand ≡ stand_after gap.over
  kept_stand = ap (λ (r : RowState). r.stand) gap.kept_is

  pub gap_taken : (new.held.taken ≡ old.held.taken) × (new.held.settings ≡ old.held.settings)
  gap_taken = (ap (λ (h : Held). h.taken) passed.held, ap (λ (h : Held). h.settings) passed.held)

  -- a line follows, or the reading has ended, and with no other error than a fault of the data
  pub record GapSays (follows : Bool) : Type 0 where
    pub line : follows ≡ true → is_at_line kept.stand ≡ true
    pub none : follows ≡ false → (is_at_line kept.stand ≡ false) × (is_some (ended kept.stand) ≡ true)
    pub fault : (e : DecodeError) → ended kept.stand ≡ Some (Err e) → IsFault e

  by_over : (over : Result Bool DecodeError) → IfErr over (λ e. e ≡ InvalidCode) → kept.stand ≡ stand_after over
      → (follows : Bool) → ((line_after over ≡ Ok follows) ⊎ ((e : DecodeError) × (line_after over ≡ Err e) × (follows ≡ false)))
      → GapSays follows
  by_over (Ok true) code is follows (inl said) =
      let ends : false ≡ follows = cc in
      record {
        line = λ f. absurd (false≢true (ends ∙ f));
        none = λ f. (ap is_at_line is, ap (λ (s : Stand). is_some (ended s)) is);
        fault = λ e failed. let both : ◌≡◌ {A = Option (Result (Unit {0}) DecodeError)} (Some (Ok tt)) (Some (Err e))
            = sym (ap ended is) ∙ failed in absurd cc;
      }
  by_over (Ok false) code is follows (inl said) =
      let goes_on : true ≡ follows = cc in
      record {
        line = λ f. ap is_at_line is;
        none = λ f. absurd (false≢true (sym f ∙ sym goes_on));
        fault = λ e failed. absurd (none-some (Err e) (sym (ap ended is) ∙ failed));
      }
  by_over (Err error) code is follows (inl said) = absurd cc
  by_over (Ok over) code is follows (inr failed) = let e = failed.1 in by_bool over e
    where
      by_bool : (b : Bool) → line_after (Ok b) ≡ Err failed.0 → GapSays follows
      by_bool true e = absurd cc
      by_bool false e = absurd cc
  by_over (Err error) code is follows (inr failed) = record {
    line = λ f. absurd (false≢true (sym failed.2 ∙ f));
    none = λ f. (ap is_at_line is, ap (λ (s : Stand). is_some (ended s)) is);
    fault = λ e ends. let both : ◌≡◌ {A = Option (Result (Unit {0}) DecodeError)} (Some (Err error)) (Some (Err e))
        = sym (ap ended is) ∙ ends in
        let same : InvalidCode ≡ e = sym code ∙ cc in subst (λ (x : DecodeError). IsFault x) same tt;
  }

  pub gap_says : (follows : Bool) → ((answer ≡ Ok follows) ⊎ ((e : DecodeError) × (answer ≡ Err e) × (follows ≡ false)))
      → GapSays follows
  gap_says follows said = by_over gap.over passed.only_code kept_stand follows (elim said [
    | inl is ↦ inl (sym gap.said ∙ is)
    | inr failed ↦ inr (failed.0, sym gap.said ∙ failed.1, failed.2)
  ])

-- ---- The end

-- all rows were read
all_read : (stand : Stand) (settings : DecodeSettings) (bits : Bits) (held : Held) (place : ℕ)
    → ReaderStands stand settings bits held place → is_at_line stand ≡ false → is_some (ended stand) ≡ true
    → ((e : DecodeError) → ended stand ≡ Some (Err e) → IsFault e) → held.taken ≡ length (plain settings bits).rows
all_read AtLine settings bits held place stands line ends fault = absurd (false≢true (sym line))
all_read AfterRow settings bits held place stands line ends fault = absurd (false≢true ends)
all_read AtEnd settings bits held place stands line ends fault = stands.0.all
all_read (AtFault e) settings bits held place stands line ends fault = stands.0.all (fault e refl)

module _ (rows kept : RowState) (old new : Context) (before after : BitsAt) where
  -- after the gap a line follows, or the reading has ended
  pub passes_line : (mid : RowState) (middle : Context) (between : BitsAt) → ReadsRowHere rows mid old middle before between
      → between.bits ≡ before.bits → ended mid.stand ≡ None
      → (answer : Result Bool DecodeError) (gap : PassesGapHere between.place mid kept middle new between after answer)
      → (follows : Bool) → ((answer ≡ Ok follows) ⊎ ((e : DecodeError) × (answer ≡ Err e) × (follows ≡ false)))
      → PassesLine rows kept old new before after follows
  passes_line mid middle between read same unended answer gap follows said =
      let says = gap_says 0 mid kept middle new between after answer gap follows said in
      let frame = gap_taken 0 mid kept middle new between after answer gap in
      record {
        line = λ is base at.
            (says.line is, gap_here base mid kept middle new between after answer gap unended read.no_line (read.stands base at));
        more = λ is. omega (arith, frame.0, read.more unended);
        over = λ is base at.
            let stands = gap_here base mid kept middle new between after answer gap unended read.no_line (read.stands base at) in
            let none = says.none is in
            let all = all_read kept.stand new.held.settings after.bits new.held after.place stands.0 none.0 none.1 says.fault in
            let there : length (plain new.held.settings after.bits).rows ≡ length (plain old.held.settings before.bits).rows
            = ap (λ (s : DecodeSettings). length (plain s after.bits).rows) (frame.1 ∙ read.settings)
            ∙ ap (λ (b : Bits). length (plain old.held.settings b).rows) (gap.same_bits ∙ same) in
            omega (arith, all, there, frame.0, read.more unended);
      }

-- ---- Work

-- what was counted is paid
pub standing_most : (base : ℕ) (kept : RowState) (new : Context) (after : BitsAt) (settings : DecodeSettings) (bits : Bits)
    → IsStanding base kept new after → new.held.settings ≡ settings → after.bits ≡ bits
    → (base ≤ new.ticks) × (new.ticks ≤ base + most_counted settings.encoding (length bits))
standing_most base kept new after settings bits stands same is = (
  omega (arith, stands.2.words),
  subst (λ (s : DecodeSettings). new.ticks ≤ base + most_counted s.encoding (length bits)) same
      (subst (λ (b : Bits). new.ticks ≤ base + most_counted new.held.settings.encoding (length b)) is
      (within_most base kept.stand new.held.settings after.bits new.held after.place new.ticks stands.0 stands.2.paid)),
)

-- so it is where a line isn't read
pub failing_most : (base : ℕ) (rows : RowState) (old : Context) (before : BitsAt) (now : ℕ)
    → IsStandingAtLine base rows old before
    → old.ticks ≤ now
    → now ≤ old.ticks + 4 * length (found_here old.held.settings old.held.reference (here before)) + 2
    + length (changes old.held.reference)
    → (base ≤ now) × (now ≤ base + most_counted old.held.settings.encoding (length before.bits))
failing_most base rows old before now at least most =
    let stands = at_line_stands rows.stand old.held.settings before.bits old.held before.place at.0 at.1.0 in (
      omega (arith, at.1.2.words, least),
      failed_most base old.held.settings stands.wide before.bits old.held (here before) old.ticks
          (at_line_paid base rows.stand old.held.settings before.bits old.held before.place old.ticks at.0 at.1.2.paid) now most,
    )

-- ---- What a try of a row says

-- where no more data comes a line isn't left
pub always_read : {old new : Context} {before after : BitsAt} {answer : Result Bool DecodeError}
    → TriesRow true old new answer before after
    → (b : Bool) → answer ≡ Ok b → answer ≡ Ok true
always_read tried true is = is
always_read tried false is = absurd (false≢true (sym (tried.short is).0))

-- an error that is neither of memory nor a refusal is a fault of the data
pub fault_of : (e : DecodeError) → e ≢ OutOfMemory → e ≢ Refused → IsFault e
fault_of e = by_kind (λ e. e ≢ OutOfMemory → e ≢ Refused → IsFault e) (λ e fault a b. fault) (λ a b. absurd (a refl))
    (λ a b. absurd (b refl)) e

-- a row can be read where a line is
pub can_take : (base : ℕ) (rows : RowState) (old : Context) (before : BitsAt) → IsStandingAtLine base rows old before
    → length before.bits + 64 < 2 ^ 64 → CanTakeRow old.held × (old.held.front ≡ [])
can_take base rows old before at fit =
    let room = room_at_line base rows old before at.1 at.0 in
    let stands = at_line_stands rows.stand old.held.settings before.bits old.held before.place at.0 at.1.0 in
    (record { rows = omega (arith, room.0, fit); damaged = room.1 }, ap (λ (h : Held). h.front) stands.held_is)

-- what isn't there
pub isnt_there : {A : Type 0} (o : Option A) → is_some o ≡ false → o ≡ None
isnt_there None is = refl
isnt_there (Some x) is = absurd (false≢true (sym is))

-- ---- The first line

ended_no_line : (stand : Stand) → is_some (ended stand) ≡ true → is_at_line stand ≡ false
ended_no_line AtLine ends = absurd (false≢true ends)
ended_no_line AfterRow ends = refl
ended_no_line AtEnd ends = refl
ended_no_line (AtFault e) ends = refl

-- if the reading has ended before a row, there is none
pub none_if_ended : (stand : Stand) (settings : DecodeSettings) (bits : Bits) (held : Held) (place : ℕ)
    → ReaderStands stand settings bits held place → is_some (ended stand) ≡ true
    → ((e : DecodeError) → ended stand ≢ Some (Err e)) → held.taken ≡ 0 → length (plain settings bits).rows ≤ 0
none_if_ended stand settings bits held place stands ends unfailed none =
    omega (
      arith,
      none,
      all_read stand settings bits held place stands (ended_no_line stand ends) ends
          (λ e is. absurd (unfailed e is)),
    )
