use Rattle.fax_feeds.proofs.Names.{◌≡◌, ◌∙◌, ◌*◌, ap, arith, length, sym, subst, bits_in, true}
use Rattle.fax_bits.proofs.BitReading.BitLists.{length-bits_in}
use Rattle.fax_feeds.specs.RowFeeds.{Feeding, feeding_of, unused_size}
use Rattle.fax_feeds.proofs.Readings.FeedTurns.{within_bits}
use Rattle.fax_feeds.proofs.Readings.ZerosUnused.{bits_of_zeros, unused_one, unused_zeros}
use Rattle.fax_feeds.proofs.row_feed.RowFeed.write_zeros_left.Goals.{After-begins_with_one}
use Rattle.fax_feeds.proofs.row_feed.RowFeed.write_zeros_left.Goals as goal

-- the data ends with zeros, and there is room for the bytes of them
zeros_here : (c : After-begins_with_one) → c.self.inside.gap.at_zeros ≡ true
zeros_here c = ap (λ (f : Feeding). f.gap.at_zeros) c.self.view_is ∙ c.requires.zeros

size_here : (c : After-begins_with_one) → 8 * length c.args.bytes.now ≡ unused_size (feeding_of c.self.inside)
size_here c = subst (λ (f : Feeding). 8 * length c.args.bytes.now ≡ unused_size f) (sym c.self.view_is) c.requires.long

pub returns-then-begins_with_one : goal.returns-then-begins_with_one
returns-then-begins_with_one c =
    let at = (goal.at.returns-then-begins_with_one c).After-begins_with_one in
    let one = c.begins_with_one.ensures.one c.if-begins_with_one.true in
    rw (← c.self.view_is) (λ whole tried fed. c.write_one_and_zeros.ensures ∙ sym (unused_one fed c.self.invariant.bytes
    (zeros_here at) (within_bits c.self.invariant) (length c.self.inside.«data».items)
    (length-bits_in c.self.inside.order c.self.inside.«data».items) (length c.args.bytes.now) (size_here at) one.0
    (omega (arith, one.1, c.saturating_sub-offset.ensures))))

pub returns : goal.returns
returns c =
    let at = (goal.at.returns c).After-begins_with_one in
    let none = c.begins_with_one.ensures.none c.if-begins_with_one.false in
    rw (← c.self.view_is) (λ whole tried fed. ap (bits_in c.self.inside.order) c.write_zeros.ensures
    ∙ bits_of_zeros c.self.inside.order (length c.args.bytes.now) ∙ sym (unused_zeros fed c.self.invariant.bytes (zeros_here at)
    (within_bits c.self.invariant) (length c.self.inside.«data».items)
    (length-bits_in c.self.inside.order c.self.inside.«data».items) (length c.args.bytes.now) (size_here at)
    (λ tag some whole_byte. none tag some
    (omega (arith, whole_byte, c.saturating_sub-offset.ensures)))))
