use Rattle.fax_rows.proofs.Names.{ap, subst, DecodeSettings, Bits, BitsAt, Context, CountsWork}
use Rattle.fax_rows.proofs.Work.CallsPaid.{begun_is_counted}
use Rattle.fax_rows.proofs.row_cursor.RowCursor.new.Goals as goal

-- what comes before the first line is within the bound
pub returns-clause-work : goal.returns-clause-work
returns-clause-work c =
    let first = c.first_stand-stand in
    let bits = c.at_place-reader.result.bits in
    let held = first.new.ctx.held in
    let ticks = first.new.ctx.ticks in
    subst (λ (b : Bits). CountsWork c.args.settings b held.taken ticks) (ap (λ (r : BitsAt). r.bits) c.at_place-reader.ensures)
    (subst (λ (s : DecodeSettings). CountsWork s bits held.taken ticks)
    (ap (λ (x : Context). x.held.settings) c.in_ok-ctx.ensures.made)
    (begun_is_counted first.result c.in_ok-ctx.ctx.held.settings bits held first.new.reader.place
    ticks first.ensures.takes_none.none_taken
    first.ensures.alone.stands (first.ensures.alone.paid 0 (ap (λ (x : Context). x.ticks) c.in_ok-ctx.ensures.made))))
