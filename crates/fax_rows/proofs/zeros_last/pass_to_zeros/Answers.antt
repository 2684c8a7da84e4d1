use Rattle.fax_rows.proofs.Names.{◌∙◌, ap, sym, subst, Result, Bool, DecodeError, ℕ, drop, Ok}
use Rattle.fax_rows.proofs.Readings.ZerosLast.{gives_up, is_missing, none_counts, none_later, passes_zeros}
use Rattle.fax_rows.specs.declared.gap_count.GapCount.{GapCount}
use Rattle.fax_rows.specs.RowsTried.{rows_after_gap}
use Rattle.fax_rows.specs.ZerosLast.{PassesZeros, given_up}
use Rattle.fax_rows.proofs.zeros_last.pass_to_zeros.Goals as goal

pub returns-then-lacks_eol-clause-passes : goal.returns-then-lacks_eol-clause-passes
returns-then-lacks_eol-clause-passes c from whole start ends at =
    let is = sym c.lacks_eol.ensures ∙ c.if-lacks_eol.true in
    let old = c.args.ctx.now in
    let call = c.give_up_eols in
    let over = given_up old.held.settings.strict in
    let starts = at (none_counts ends c.requires.enough c.requires.after is) in
    subst (λ (r : Result Bool DecodeError). PassesZeros from c.args.rows.now call.new.rows old call.new.ctx whole start
    c.args.count.now r) (sym call.ensures.line)
    (gives_up ends c.requires.enough c.requires.after is over call.new.ctx call.new.rows
    (call.ensures.passes (drop start whole) (is_missing ends c.requires.enough c.requires.after is)
    (none_later ends c.requires.enough c.requires.after is))
    (call.ensures.kept ∙ ap (λ (n : ℕ). rows_after_gap c.args.rows.now over n old call.new.ctx) (sym starts)))

pub returns-clause-passes : goal.returns-clause-passes
returns-clause-passes c from whole start ends at =
    let call = c.pass_counted_zeros in
    subst (λ (n : GapCount). PassesZeros from c.args.rows.now call.new.rows c.args.ctx.now c.args.ctx.now whole start n
    (Ok call.result)) (sym call.ensures.count)
    (passes_zeros ends c.requires.enough c.requires.after call.new.rows call.result
    (sym c.lacks_eol.ensures ∙ c.if-lacks_eol.false)
    call.ensures.over call.ensures.kept)
