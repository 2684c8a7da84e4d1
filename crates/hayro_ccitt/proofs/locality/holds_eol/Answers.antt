use Rattle.hayro_ccitt.proofs.Names.{◌≡◌, ◌+◌, ◌-◌, ◌*◌, ◌≤◌, length, drop, Some, sym, ap, ◌∙◌, arith, Bits, BitsAt, bits_in}
use Rattle.hayro_ccitt.proofs.Names.{here, after_eol, next_eol, looked, common_steps}
use Rattle.hayro_ccitt.proofs.{BitReading.BitLists.length-bits_in, locality.holds_eol.Goals.After-end_of_eol}
use Rattle.hayro_ccitt.proofs.DamagedLines.BodyTests.{no_eol_in_front, eol_by_ends, eol_found_stands}
use Rattle.hayro_ccitt.proofs.DamagedLines.BodyWork.{eol_after_body, sought_work}
use Rattle.hayro_ccitt.proofs.locality.holds_eol.Goals as goal

pub returns-then-not-skip_to_eol-clause-eol : goal.returns-then-not-skip_to_eol-clause-eol
returns-then-not-skip_to_eol-clause-eol c = grind (arith, common_steps, no_eol_in_front)

pub end_of_eol-requires-clause-within : goal.end_of_eol-requires-clause-within
end_of_eol-requires-clause-within c = grind (arith, common_steps, length-bits_in)

pub returns-in-Some-clause-eol : goal.returns-in-Some-clause-eol
returns-in-Some-clause-eol c =
    let bits = bits_in c.args.order c.args.data.now in
    let at = ap (λ (at : BitsAt). next_eol (here at)) c.at_place-reader.ensures in
    let next = rw c.if-not-skip_to_eol.false at c.skip_to_eol.ensures.next in
    let same = c.skip_to_eol.ensures.same_bits ∙ ap (λ (at : BitsAt). at.bits) c.at_place-reader.ensures in
    let found : here c.skip_to_eol.new.self ≡ drop c.bit_pos.result bits = grind (arith, common_steps) in
    let eol = rw c.in-Some.is at c.end_of_eol.ensures.end in
    let within = rw c.in-Some.is at c.end_of_eol.ensures.within in
    sym (eol_by_ends bits c.args.from c.args.to c.in-Some.end (here c.skip_to_eol.new.self) c.requires.order
    (omega (arith, c.requires.within, length-bits_in c.args.order c.args.data.now))
    (omega (arith, within, length-bits_in c.args.order c.args.data.now))
    (sym at ∙ next) (ap (after_eol 0) found ∙ eol))

pub returns-in-None-clause-eol : goal.returns-in-None-clause-eol
returns-in-None-clause-eol c = grind (arith, common_steps, eol_found_stands)

pub returns-then-not-skip_to_eol-clause-at_most : goal.returns-then-not-skip_to_eol-clause-at_most
returns-then-not-skip_to_eol-clause-at_most c = grind (arith, common_steps, eol_after_body, length-bits_in)

-- what is counted while the next EOL is sought and read
sought_counted : (c : After-end_of_eol) → (c.args.ticks.now ≤ c.end_of_eol.new.ticks)
    × (c.end_of_eol.new.ticks ≤ c.args.ticks.now + 2
    * (c.args.to - c.args.from) + 2 * looked (drop c.args.to (bits_in c.args.order c.args.data.now)))
sought_counted c =
    let bits = bits_in c.args.order c.args.data.now in
    let start : here c.at_place-reader.result ≡ drop c.args.from bits =
    ap (λ (at : BitsAt). here at) c.at_place-reader.ensures in
    let next = rw c.if-not-skip_to_eol.false at c.skip_to_eol.ensures.next in
    let passed = rw c.if-not-skip_to_eol.false at c.skip_to_eol.ensures.ticks in
    let same = c.skip_to_eol.ensures.same_bits ∙ ap (λ (at : BitsAt). at.bits) c.at_place-reader.ensures in
    let found : here c.skip_to_eol.new.self ≡ drop c.bit_pos.result bits = grind (arith, common_steps) in
    sought_work bits c.requires.eol.0 c.args.from c.args.to c.requires.order
    (omega (arith, c.requires.within, length-bits_in c.args.order c.args.data.now))
    c.requires.eol.1 c.bit_pos.result c.args.ticks.now c.skip_to_eol.new.ticks c.end_of_eol.new.ticks
    (omega (arith, c.bit_pos.ensures.within, ap length same)) (ap next_eol (sym start) ∙ next ∙ ap (λ (b : Bits). Some b) found)
    (omega (arith, passed, ap length start, ap length found, ap looked found)) c.end_of_eol.ensures.work

pub returns-in-Some-clause-counts : goal.returns-in-Some-clause-counts
returns-in-Some-clause-counts c = (sought_counted (goal.at.returns-in-Some-clause-counts c).After-end_of_eol).0

pub returns-in-Some-clause-at_most : goal.returns-in-Some-clause-at_most
returns-in-Some-clause-at_most c = (sought_counted (goal.at.returns-in-Some-clause-at_most c).After-end_of_eol).1

pub returns-in-None-clause-counts : goal.returns-in-None-clause-counts
returns-in-None-clause-counts c = (sought_counted (goal.at.returns-in-None-clause-counts c).After-end_of_eol).0

pub returns-in-None-clause-at_most : goal.returns-in-None-clause-at_most
returns-in-None-clause-at_most c = (sought_counted (goal.at.returns-in-None-clause-at_most c).After-end_of_eol).1
