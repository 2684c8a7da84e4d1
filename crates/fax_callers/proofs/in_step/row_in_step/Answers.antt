use Rattle.hayro_ccitt.proofs.Names.{◌≡◌, ℕ, Option, Some, Result, Ok, refl, sym, ap, subst, ◌∙◌, get_or, DecodeError}
use Rattle.hayro_ccitt.proofs.Names.{DecodeSettings, Bits, Context, bits_in, line_starts, IsInStepFrom, RowsFollow}
use Rattle.hayro_ccitt.proofs.Names.{◌<◌, ◌+◌, ◌↔◌, List, length, plain, arith, inl, inr, cases_lt}
use Rattle.hayro_ccitt.proofs.Names.{Err, IsFault, rules}
use Rattle.fax_callers.specs.InStep.{NoLineInStep}
use Rattle.fax_callers.proofs.in_step.row_in_step.Goals as goal

-- the number that is returned
same_row : (n row : ℕ) → ◌≡◌ {A = Result (Option ℕ) DecodeError} (Ok (Some n)) (Ok (Some row)) → n ≡ row
same_row n row e = cc

-- where the line of a row begins
begins_there : (settings other : DecodeSettings) (bits others : Bits) (taken row start place : ℕ) → other ≡ settings
    → others ≡ bits → taken ≡ row → start ≡ get_or (line_starts other others) taken 0 → start ≡ place
    → place ≡ get_or (line_starts settings bits) row 0
begins_there settings other bits others taken row start place set bits_are same is there =
    sym there ∙ is ∙ ap (λ (s : DecodeSettings). get_or (line_starts s others) taken 0) set
    ∙ ap (λ (b : Bits). get_or (line_starts settings b) taken 0) bits_are
    ∙ ap (λ (n : ℕ). get_or (line_starts settings bits) n 0) same

pub returns-then-line_start-place-clause-starts : goal.returns-then-line_start-place-clause-starts
returns-then-line_start-place-clause-starts c = λ row e.
    let bits = bits_in c.args.order c.args.data.now in
    let set : c.in_ok-ctx.ctx.held.settings ≡ c.args.settings =
    ap (λ (ctx : Context). ctx.held.settings) c.in_ok-ctx.ensures.made in
    let there = begins_there c.args.settings c.rows.rows.settings bits c.rows.rows.bits c.rows.rows.taken row
    c.next_row.new.self.line_start c.in-Some.place c.rows.invariant.0 c.rows.invariant.1
    (omega (arith, c.rows_read-row.ensures, same_row _ row e))
    (c.in_ok-next_row.ensures.reads.line_start (ap Ok c.if-not-branch.false))
    (sym c.line_start.ensures ∙ c.if-line_start-place.true) in
    subst (IsInStepFrom c.args.settings bits c.args.to) there
    (subst (λ (s : DecodeSettings). IsInStepFrom s bits c.args.to c.in-Some.place) set
    ((c.in-Some.ensures.place c.in-Some.place).0 refl))

pub returns-then-line_start-place-clause-follow : goal.returns-then-line_start-place-clause-follow
returns-then-line_start-place-clause-follow c = λ row e.
    let bits = bits_in c.args.order c.args.data.now in
    let set : c.in_ok-ctx.ctx.held.settings ≡ c.args.settings =
    ap (λ (ctx : Context). ctx.held.settings) c.in_ok-ctx.ensures.made in
    let there = begins_there c.args.settings c.rows.rows.settings bits c.rows.rows.bits c.rows.rows.taken row
    c.next_row.new.self.line_start c.in-Some.place c.rows.invariant.0 c.rows.invariant.1
    (omega (arith, c.rows_read-row.ensures, same_row _ row e))
    (c.in_ok-next_row.ensures.reads.line_start (ap Ok c.if-not-branch.false))
    (sym c.line_start.ensures ∙ c.if-line_start-place.true) in
    subst (RowsFollow c.args.settings bits c.args.to) there
    (subst (λ (s : DecodeSettings). RowsFollow s bits c.args.to c.in-Some.place) set c.in-Some.ensures.rows)

-- no line is in step if none begins at the place that is
none_begins : (settings : DecodeSettings) (bits : Bits) (to place : ℕ)
    → ((other : ℕ) → ◌≡◌ {A = Option ℕ} (Some place) (Some other) ↔ IsInStepFrom settings bits to other)
    → ((row : ℕ) → row < length (plain settings bits).rows → get_or (line_starts settings bits) row 0 ≡ place → ⊥)
    → NoLineInStep settings bits to
none_begins settings bits to place only none row inside step =
    let same : ◌≡◌ {A = Option ℕ} (Some place) (Some (get_or (line_starts settings bits) row 0)) = (only _).1 step in
    none row inside (let e : place ≡ get_or (line_starts settings bits) row 0 = cc in sym e)

-- those read and the next one
one_line_more : (starts : List ℕ) (place taken : ℕ) → ((row : ℕ) → row < taken → get_or starts row 0 ≡ place → ⊥)
    → (get_or starts taken 0 ≡ place → ⊥) → (row : ℕ) → row < taken + 1 → get_or starts row 0 ≡ place → ⊥
one_line_more starts place taken before last row inside is =
    elim (cases_lt row taken) [
      | inl lt ↦ before row lt is
      | inr ge ↦ let e : row ≡ taken = omega arith in last (subst (λ (n : ℕ). get_or starts n 0 ≡ place) e is)
    ]

-- all lines of the data were read
none_left : (settings other : DecodeSettings) (bits others : Bits) (to place taken : ℕ) → other ≡ settings → others ≡ bits
    → ((begin : ℕ) → ◌≡◌ {A = Option ℕ} (Some place) (Some begin) ↔ IsInStepFrom settings bits to begin)
    → ((row : ℕ) → row < taken → get_or (line_starts settings bits) row 0 ≡ place → ⊥)
    → taken ≡ length (plain other others).rows → NoLineInStep settings bits to
none_left settings other bits others to place taken set bits_are only before all =
    let of : taken ≡ length (plain settings bits).rows =
    all ∙ ap (λ (s : DecodeSettings). length (plain s others).rows) set
    ∙ ap (λ (b : Bits). length (plain settings b).rows) bits_are in
    none_begins settings bits to place only
    (subst (λ (n : ℕ). (row : ℕ) → row < n → get_or (line_starts settings bits) row 0 ≡ place → ⊥) of before)

-- the place that is in step, by the settings of the call
place_is : (settings other : DecodeSettings) (bits : Bits) (to place : ℕ) → other ≡ settings
    → ((begin : ℕ) → ◌≡◌ {A = Option ℕ} (Some place) (Some begin) ↔ IsInStepFrom other bits to begin)
    → (begin : ℕ) → ◌≡◌ {A = Option ℕ} (Some place) (Some begin) ↔ IsInStepFrom settings bits to begin
place_is settings other bits to place set only begin =
    subst (λ (s : DecodeSettings). ◌≡◌ {A = Option ℕ} (Some place) (Some begin) ↔ IsInStepFrom s bits to begin) set (only begin)

-- nothing is in step
pub returns-in_default-clause-none : goal.returns-in_default-clause-none
returns-in_default-clause-none c = λ _ row inside step.
    let set : c.in_ok-ctx.ctx.held.settings ≡ c.args.settings =
    ap (λ (ctx : Context). ctx.held.settings) c.in_ok-ctx.ensures.made in
    let here = subst (λ (s : DecodeSettings). IsInStepFrom s (bits_in c.args.order c.args.data.now) c.args.to
    (get_or (line_starts c.args.settings (bits_in c.args.order c.args.data.now)) row 0)) (sym set) step in
    let said = (c.in_default.ensures.place _).1 here in
    cc

pub returns-in_err-next_row-clause-fault : goal.returns-in_err-next_row-clause-fault
returns-in_err-next_row-clause-fault c =
    let bits = bits_in c.args.order c.args.data.now in
    let set : c.in_ok-ctx.ctx.held.settings ≡ c.args.settings =
    ap (λ (ctx : Context). ctx.held.settings) c.in_ok-ctx.ensures.made in
    let failed = c.in_err-next_row.ensures.reads.error in
    let said : IsFault c.in_err-next_row.field-0.0 → ((plain c.args.settings bits).outcome ≡ Err c.in_err-next_row.field-0.0)
    × NoLineInStep c.args.settings bits c.args.to = λ fault. (
      subst (λ (s : DecodeSettings). (plain s bits).outcome ≡ Err c.in_err-next_row.field-0.0) c.rows.invariant.0
          (subst (λ (b : Bits). (plain c.rows.rows.settings b).outcome ≡ Err c.in_err-next_row.field-0.0) c.rows.invariant.1
          (failed.2.fault fault)),
      none_left c.args.settings c.rows.rows.settings bits c.rows.rows.bits c.args.to c.in-Some.place c.rows.rows.taken
          c.rows.invariant.0 c.rows.invariant.1
          (place_is c.args.settings c.in_ok-ctx.ctx.held.settings bits c.args.to c.in-Some.place set c.in-Some.ensures.place)
          c.rows.invariant.2 (sym failed.1 ∙ failed.2.all fault),
    ) in
    search rules

pub returns-then-not-branch-clause-none : goal.returns-then-not-branch-clause-none
returns-then-not-branch-clause-none c = λ _.
    let bits = bits_in c.args.order c.args.data.now in
    let set : c.in_ok-ctx.ctx.held.settings ≡ c.args.settings =
    ap (λ (ctx : Context). ctx.held.settings) c.in_ok-ctx.ensures.made in
    let ended = c.in_ok-next_row.ensures.reads.end (ap Ok c.if-not-branch.true) in
    none_left c.args.settings c.rows.rows.settings bits c.rows.rows.bits c.args.to c.in-Some.place c.rows.rows.taken
    c.rows.invariant.0 c.rows.invariant.1
    (place_is c.args.settings c.in_ok-ctx.ctx.held.settings bits c.args.to c.in-Some.place set c.in-Some.ensures.place)
    c.rows.invariant.2 (sym ended.1 ∙ ended.2.all)

pub rows-preserved : goal.rows-preserved
rows-preserved c =
    let bits = bits_in c.args.order c.args.data.now in
    let starts = line_starts c.args.settings bits in
    let reads = c.in_ok-next_row.ensures.reads in
    let more = reads.more (ap Ok c.if-not-branch.false) in
    let start : c.next_row.new.self.line_start ≡ get_or starts c.rows.rows.taken 0 =
    reads.line_start (ap Ok c.if-not-branch.false)
    ∙ ap (λ (s : DecodeSettings). get_or (line_starts s c.rows.rows.bits) c.rows.rows.taken 0) c.rows.invariant.0
    ∙ ap (λ (b : Bits). get_or (line_starts c.args.settings b) c.rows.rows.taken 0) c.rows.invariant.1 in (
      reads.settings ∙ c.rows.invariant.0,
      reads.bits ∙ c.rows.invariant.1,
      subst (λ (n : ℕ). (row : ℕ) → row < n → get_or starts row 0 ≡ c.in-Some.place → ⊥) (sym more.1)
          (one_line_more starts c.in-Some.place c.rows.rows.taken c.rows.invariant.2
          (λ is. c.if-line_start-place.false (c.line_start.ensures ∙ start ∙ is))),
    )
