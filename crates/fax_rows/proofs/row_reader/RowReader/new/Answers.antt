use Rattle.fax_rows.proofs.Names.{rules, ap, Context, sym, subst, DecodeSettings, Bits, CountsWork}
use Rattle.fax_rows.proofs.Work.CallsPaid.{begun_is_counted}
use Rattle.fax_rows.proofs.row_reader.RowReader.new.Goals as goal

-- what comes before the first line is within the bound
pub returns-clause-work : goal.returns-clause-work
returns-clause-work c =
    let first = c.first_stand-stand in
    let settings = c.in_ok-ctx.ctx.held.settings in
    let bits = c.match-order.reader.bits in
    let held = first.new.ctx.held in
    let ticks = first.new.ctx.ticks in
    subst (λ (s : DecodeSettings). CountsWork s first.new.reader.bits held.taken ticks) (sym first.ensures.takes_none.settings)
    (subst (λ (b : Bits). CountsWork settings b held.taken ticks) (sym first.ensures.takes_none.same_bits)
    (begun_is_counted first.result settings bits held first.new.reader.place ticks first.ensures.takes_none.none_taken
    first.ensures.alone.stands (first.ensures.alone.paid 0 (ap (λ (x : Context). x.ticks) c.in_ok-ctx.ensures.made))))

pub returns-clause-bits : goal.returns-clause-bits
returns-clause-bits c = search rules
