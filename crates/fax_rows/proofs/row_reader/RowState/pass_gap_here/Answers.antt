use Rattle.fax_rows.proofs.Names.{rules, arith, here, on_err_weaker}
use Rattle.fax_rows.specs.RowsTried.{LacksEol}
use Rattle.fax_rows.proofs.Readings.GapsPassed.{gap_goes_on}
use Rattle.fax_rows.proofs.row_reader.RowState.pass_gap_here.Goals as goal

pub returns : goal.returns
returns c =
    let gap = c.pass_gap-over.ensures in
    let over = c.pass_gap-over.result in
    record {
      over = over;
      said = c.line_after_gap.ensures;
      kept_is = search rules;
      passes = λ more settled. gap_goes_on c.args.ctx.now c.pass_gap-over.new.ctx over (here c.args.reader.now)
          (here c.pass_gap-over.new.reader) more settled gap.passes;
      begun = omega (arith, c.bit_pos-start.ensures.within, c.bit_pos-start.ensures.place);
      within = omega (arith, c.bit_pos-end.ensures.within, c.bit_pos-end.ensures.place);
      same_bits = gap.same_bits;
      put_back = on_err_weaker over (λ (lacks : LacksEol c.args.ctx.now c.pass_gap-over.new.ctx (here c.args.reader.now)
          (here c.pass_gap-over.new.reader)). lacks.put_back) gap.lacks;
      space = gap.space;
    }
