use Rattle.fax_rows.proofs.Names.{common_steps}
use Rattle.fax_rows.proofs.Names.{◌≡◌, ◌∙◌, ◌++◌, [], ap, sym, subst, refl, inl, append-nil, Bits, BitsAt, Result, Bool}
use Rattle.fax_rows.proofs.Names.{DecodeError, here, drop}
use Rattle.fax_rows.proofs.Names.{ReachesNextLine, IsStanding, seen, Held, length, arith, length-drop}
use Rattle.fax_rows.proofs.Names.{line_after}
use Rattle.fax_rows.proofs.Names.{on_err_weaker}
use Rattle.fax_rows.specs.declared.row_reader.RowState.{RowState}
use Rattle.fax_rows.specs.RowsTried.{PassesGap, rows_after_gap}
use Rattle.fax_rows.proofs.Readings.GapsPassed.{gap_stays, gap_reaches}
use Rattle.fax_reading.proofs.Work.EolsPassed.{unsought_after}
use Rattle.fax_rows.proofs.row_reader.RowState.come_to_line.Goals.{After-pass_gap_here}
use Rattle.fax_rows.proofs.row_reader.RowState.come_to_line.Goals as goal

-- what the gap left
passed : (c : After-pass_gap_here) → PassesGap c.args.ctx.now c.pass_gap_here.new.ctx c.pass_gap_here.ensures.over
    (here c.args.reader.now) (drop c.pass_gap_here.new.reader.place c.args.reader.now.bits)
passed c =
    let gap = c.pass_gap_here.ensures in
    let before = c.args.reader.now in
    let after = c.pass_gap_here.new.reader in
    subst (λ (b : Bits). PassesGap c.args.ctx.now c.pass_gap_here.new.ctx gap.over (here before)
    (drop after.place b)) gap.same_bits
    (subst (PassesGap c.args.ctx.now c.pass_gap_here.new.ctx gap.over (here before)) (append-nil (here after))
    (subst (λ (s : Bits). PassesGap c.args.ctx.now c.pass_gap_here.new.ctx gap.over s (here after ++ []))
    (append-nil (here before)) (gap.passes [] (inl refl))))

-- what is kept
kept_after_gap : (c : After-pass_gap_here)
    → c.pass_gap_here.new.self ≡ rows_after_gap c.args.self.now c.pass_gap_here.ensures.over
    c.args.reader.now.place c.args.ctx.now c.pass_gap_here.new.ctx
kept_after_gap c = grind (arith, common_steps)

at_gap_end : (c : After-pass_gap_here)
    → record { bits = c.args.reader.now.bits; place = c.pass_gap_here.new.reader.place } ≡ c.pass_gap_here.new.reader
at_gap_end c = ap (λ (b : Bits). record { bits = b; place = c.pass_gap_here.new.reader.place })
    (sym c.pass_gap_here.ensures.same_bits)

pub returns-clause-stands : goal.returns-clause-stands
returns-clause-stands c from stands =
    let gap = c.pass_gap_here.ensures in
    let before = c.args.reader.now in
    let at = (goal.at.returns-clause-stands c).After-pass_gap_here in
    subst (λ (r : RowState). IsStanding from r c.pass_gap_here.new.ctx c.pass_gap_here.new.reader) (sym (kept_after_gap at))
    (subst (IsStanding from (rows_after_gap c.args.self.now gap.over before.place c.args.ctx.now c.pass_gap_here.new.ctx)
    c.pass_gap_here.new.ctx) (at_gap_end at)
    (gap_stays from c.args.self.now c.args.ctx.now c.pass_gap_here.new.ctx before.bits before.place
    c.pass_gap_here.new.reader.place
    gap.over (passed at) gap.begun (omega (arith, gap.within, ap length gap.same_bits)) c.requires
    (sym c.is_at_line.ensures ∙ c.if-is_at_line.false) stands))

pub returns-clause-comes : goal.returns-clause-comes
returns-clause-comes c from stands =
    let gap = c.pass_gap_here.ensures in
    let before = c.args.reader.now in
    let old = seen c.args.self.now c.args.ctx.now before in
    let at = (goal.at.returns-clause-comes c).After-pass_gap_here in
    let rows = rows_after_gap c.args.self.now gap.over before.place c.args.ctx.now c.pass_gap_here.new.ctx in
    subst (λ (r : Result Bool DecodeError). ReachesNextLine old (seen c.pass_gap_here.new.self c.pass_gap_here.new.ctx
    c.pass_gap_here.new.reader) r) (sym gap.said)
    (subst (λ (r : RowState). ReachesNextLine old (seen r c.pass_gap_here.new.ctx c.pass_gap_here.new.reader)
    (line_after gap.over))
    (sym (kept_after_gap at))
    (subst (λ (b : BitsAt). ReachesNextLine old (seen rows c.pass_gap_here.new.ctx b) (line_after gap.over)) (at_gap_end at)
    (gap_reaches from c.args.self.now c.args.ctx.now c.pass_gap_here.new.ctx before.bits before.place
    c.pass_gap_here.new.reader.place
    gap.over (passed at) gap.begun (omega (arith, gap.within, ap length gap.same_bits)) c.requires
    (sym c.is_at_line.ensures ∙ c.if-is_at_line.false) stands)))

pub returns-clause-fails : goal.returns-clause-fails
returns-clause-fails c =
    grind (
      arith,
      common_steps,
      on_err_weaker,
      length-drop,
      kept_after_gap ((goal.at.returns-clause-fails c).After-pass_gap_here),
    )

pub returns-clause-unsought : goal.returns-clause-unsought
returns-clause-unsought c unsought =
    grind (
      arith,
      common_steps,
      unsought_after,
      on_err_weaker,
      passed ((goal.at.returns-clause-unsought c).After-pass_gap_here),
    )

pub returns-clause-settings : goal.returns-clause-settings
returns-clause-settings c =
    ap (λ (h : Held). h.settings) (passed (goal.at.returns-clause-settings c).After-pass_gap_here).held
