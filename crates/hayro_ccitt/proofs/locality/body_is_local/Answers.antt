use Rattle.hayro_ccitt.proofs.Names.{◌≡◌, ◌+◌, ◌-◌, ◌*◌, ◌≤◌, Bool, length, drop, IsTrue, sym, ap, ◌∙◌, arith, ◌↔◌, false≢true}
use Rattle.hayro_ccitt.proofs.Names.{IfOk-weaker, DecodeSettings, bits_in, IsLocal, EndsBefore, looked, common_steps}
use Rattle.hayro_ccitt.proofs.{BitReading.BitLists.length-bits_in, DamagedLines.BodyWork.tests_looked}
use Rattle.hayro_ccitt.proofs.DamagedLines.BodyTests.{local_by_end}
use Rattle.hayro_ccitt.proofs.DamagedLines.BodyTests.{to_tests}
use Rattle.hayro_ccitt.proofs.locality.body_is_local.Goals.{After-is_following_eol, After-holds_one, After-end_of_eol}
use Rattle.hayro_ccitt.proofs.locality.body_is_local.Goals.{After-holds_eol, then-not-is_lenient_1d-via-then-not-is_lenient_1d}
use Rattle.hayro_ccitt.proofs.locality.body_is_local.Goals as goal

pub returns-then-not-is_lenient_1d-clause-local : goal.returns-then-not-is_lenient_1d-clause-local
returns-then-not-is_lenient_1d-clause-local c =
    grind (arith, common_steps, false≢true, length-bits_in, then-not-is_lenient_1d-via-then-not-is_lenient_1d)

pub returns-then-not-is_following_eol-clause-local : goal.returns-then-not-is_following_eol-clause-local
returns-then-not-is_following_eol-clause-local c =
    let bits = bits_in c.args.order c.args.data.now in
    grind (arith, common_steps, false≢true, to_tests c.args.ctx.now.held.settings bits c.args.from c.args.to)

pub returns-then-not-holds_one-clause-local : goal.returns-then-not-holds_one-clause-local
returns-then-not-holds_one-clause-local c =
    let bits = bits_in c.args.order c.args.data.now in
    grind (arith, common_steps, false≢true, to_tests c.args.ctx.now.held.settings bits c.args.from c.args.to)

pub returns-then-holds_eol-clause-local : goal.returns-then-holds_eol-clause-local
returns-then-holds_eol-clause-local c =
    let bits = bits_in c.args.order c.args.data.now in
    grind (arith, common_steps, false≢true, to_tests c.args.ctx.now.held.settings bits c.args.from c.args.to)

pub returns-clause-local : goal.returns-clause-local
returns-clause-local c =
    let bits = bits_in c.args.order c.args.data.now in
    let settings = c.args.ctx.now.held.settings in
    let here = c.is_lenient_1d.ensures.0 c.if-not-is_lenient_1d.false in
    let same = c.settings.ensures.value in
    let encoding = sym (ap (λ (s : DecodeSettings). s.encoding) same) ∙ here.0 in
    let lenient = sym (ap (λ (s : DecodeSettings). s.strict) same) ∙ here.1 in
    let within : c.args.to ≤ length bits = omega (arith, c.if-to-data.false, length-bits_in c.args.order c.args.data.now) in
    let eol = rw c.in-Some.is at c.end_of_eol.ensures.end in
    let ends : Bool → Type 0 =
    λ before. IsTrue before ↔ EndsBefore settings.columns (drop c.in-Some.end bits) (drop c.args.from bits) in
    let body : Bool → Type 0 = λ before. IsTrue before ↔ IsLocal settings bits c.args.from c.args.to in
    IfOk-weaker c.line_ends_before.result ends body (λ before is.
    local_by_end settings bits c.args.from c.args.to c.in-Some.end before (encoding, lenient) c.if-from-to.false within
    (c.is_following_eol.ensures.after.0 c.if-not-is_following_eol.false) (c.holds_one.ensures.one.0 c.if-not-holds_one.false)
    (sym c.holds_eol.ensures.eol ∙ c.if-holds_eol.false) eol is) c.line_ends_before.ensures.before

pub returns-clause-memory : goal.returns-clause-memory
returns-clause-memory c =
    let here = c.is_lenient_1d.ensures.0 c.if-not-is_lenient_1d.false in
    let lenient = sym (ap (λ (s : DecodeSettings). s.strict) c.settings.ensures.value) ∙ here.1 in
    rw lenient c.line_ends_before.ensures.memory

-- what the first test counts
after_counted : (c : After-is_following_eol)
    → c.is_following_eol.new.ticks ≤ c.args.ctx.now.ticks
    + looked (drop (c.args.from - 12) (bits_in c.args.order c.args.data.now))
after_counted c = omega (arith, c.is_following_eol.ensures.at_most, c.ticks.ensures.value)

-- and the second
one_counted : (c : After-holds_one)
    → c.holds_one.new.ticks ≡ c.is_following_eol.new.ticks + looked (drop c.args.from (bits_in c.args.order c.args.data.now))
one_counted c = omega (arith, c.holds_one.ensures.work, c.ticks-2.ensures.value)

-- and the third
end_counted : (c : After-end_of_eol) → c.end_of_eol.new.ticks
    ≡ c.holds_one.new.ticks + looked (drop c.args.to (bits_in c.args.order c.args.data.now))
end_counted c = omega (arith, c.end_of_eol.ensures.work, c.ticks-3.ensures.value)

-- and the last
eol_counted : (c : After-holds_eol) → c.holds_eol.new.ticks ≤ c.end_of_eol.new.ticks + 2 * (c.args.to - c.args.from) + 2
    * looked (drop c.args.to (bits_in c.args.order c.args.data.now))
eol_counted c = omega (arith, c.holds_eol.ensures.at_most, c.ticks-4.ensures.value)

pub returns-then-not-is_following_eol-clause-at_most : goal.returns-then-not-is_following_eol-clause-at_most
returns-then-not-is_following_eol-clause-at_most c =
    let at = goal.at.returns-then-not-is_following_eol-clause-at_most c in
    omega (
      arith,
      tests_looked (bits_in c.args.order c.args.data.now) c.args.from c.args.to c.if-from-to.false,
      after_counted
          at.After-is_following_eol,
    )

pub returns-then-not-holds_one-clause-at_most : goal.returns-then-not-holds_one-clause-at_most
returns-then-not-holds_one-clause-at_most c =
    let at = goal.at.returns-then-not-holds_one-clause-at_most c in
    let looks = tests_looked (bits_in c.args.order c.args.data.now) c.args.from c.args.to c.if-from-to.false in
    omega (arith, looks, after_counted at.After-is_following_eol, one_counted at.After-holds_one)

pub returns-in_default-clause-at_most : goal.returns-in_default-clause-at_most
returns-in_default-clause-at_most c =
    let at = goal.at.returns-in_default-clause-at_most c in
    let looks = tests_looked (bits_in c.args.order c.args.data.now) c.args.from c.args.to c.if-from-to.false in
    omega (arith, looks, after_counted at.After-is_following_eol, one_counted at.After-holds_one, end_counted at.After-end_of_eol)

pub returns-then-holds_eol-clause-at_most : goal.returns-then-holds_eol-clause-at_most
returns-then-holds_eol-clause-at_most c =
    let at = goal.at.returns-then-holds_eol-clause-at_most c in
    let looks = tests_looked (bits_in c.args.order c.args.data.now) c.args.from c.args.to c.if-from-to.false in
    omega (
      arith,
      looks,
      after_counted at.After-is_following_eol,
      one_counted at.After-holds_one,
      end_counted at.After-end_of_eol,
      eol_counted at.After-holds_eol,
    )

pub returns-clause-at_most : goal.returns-clause-at_most
returns-clause-at_most c =
    let at = goal.at.returns-clause-at_most c in
    let looks = tests_looked (bits_in c.args.order c.args.data.now) c.args.from c.args.to c.if-from-to.false in
    omega (
      arith,
      looks,
      after_counted at.After-is_following_eol,
      one_counted at.After-holds_one,
      end_counted at.After-end_of_eol,
      eol_counted at.After-holds_eol,
      c.line_ends_before.ensures.at_most,
    )
