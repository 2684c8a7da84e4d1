use Rattle.fax_feeds.proofs.Names.{◌≡◌, ◌≢◌, ◌+◌, ◌-◌, ◌/◌, ℕ, drop, eqb, false≢true, here, not, subst, true}
use Rattle.fax_bits.proofs.Names.{◌%◌, ◌^◌, count_leading_zeros}
use Rattle.fax_feeds.proofs.Readings.GapsSeen.{settled_after_eol, settled_at_one}
use Rattle.fax_feeds.proofs.Readings.NearEols.{eol_near, none_at_one, one_near}
use Rattle.std.proofs.lemmas.Bool.{not-true}
use Rattle.fax_feeds.proofs.gap_look.is_settled_at_once.Goals as goal

pub returns-then-zeros-lt11 : goal.returns-then-zeros-lt11
returns-then-zeros-lt11 c = λ unsought.
    let next = c.peek_u32-next in
    let none = none_at_one c.args.reader.now next.result next.type_inv next.ensures c.if-zeros-lt11.true in
    settled_at_one c.args.rules.now (here c.args.reader.now) (not-true c.args.rules.now.seeks unsought) none.0 none.1

pub returns : goal.returns
returns c = λ e.
    let at = c.args.reader.now in
    let next = c.peek_u32-next in
    let zeros = count_leading_zeros 32 next.result in
    let some : (next.result / 2 ^ (20 - zeros)) % 1024 ≢ 0 = λ none.
    false≢true (subst (λ (n : ℕ). not (eqb n 0) ≡ true) none e) in
    let one = one_near at next.result next.type_inv next.ensures zeros c.if-zeros-gt20.false some in
    settled_after_eol c.args.rules.now (here at) (drop (at.place + (zeros + 1)) at.bits) one.0
    (eol_near at next.result next.type_inv next.ensures c.if-zeros-lt11.false c.if-zeros-gt20.false) one.1 one.2
