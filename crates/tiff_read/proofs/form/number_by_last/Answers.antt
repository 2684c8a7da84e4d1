use Rattle.std.proofs.Common.{arith, ◌∙◌, ◌≡◌, ◌<◌, ◌+◌, ◌-◌, ◌*◌, ◌^◌, ℕ, suc, ap, length, drop, subst}
use Rattle.tiff_read.specs.Numbers.{low_first}
use Rattle.tiff_read.proofs.NumberLemmas.{low_first-step, one_byte_more, room_for_byte}
use Rattle.tiff_read.proofs.form.number_by_last.Goals as goal

pub overflow_mul-number : goal.overflow_mul-number
overflow_mul-number c =
    let few : length c.args.digits.now - c.digits.index < 8 =
    omega (arith, c.digits-test.true, c.digits.auto.index, c.requires) in
    omega (arith, room_for_byte c.digits.number _ few c.digits.invariant.fits)

pub overflow_add-number : goal.overflow_add-number
overflow_add-number c =
    let few : length c.args.digits.now - c.digits.index < 8 =
    omega (arith, c.digits-test.true, c.digits.auto.index, c.requires) in
    let byte : c.from.result < 256 = omega (arith, c.from.ensures, c.type_inv.digits (c.digits.index - 1)) in
    omega (arith, byte, room_for_byte c.digits.number _ few c.digits.invariant.fits)

pub digits-preserved : goal.digits-preserved
digits-preserved c =
    let digits = c.args.digits.now in
    let index = c.digits.index in
    let byte : c.from.result < 256 = omega (arith, c.from.ensures, c.type_inv.digits (index - 1)) in
    let next : index ≡ suc (index - 1) = omega (arith, c.digits-test.true) in
    let within : index - 1 < length digits = omega (arith, c.digits-test.true, c.digits.auto.index) in
    let more : suc (length digits - index) ≡ length digits - (index - 1) =
    omega (arith, c.digits-test.true, c.digits.auto.index) in
    let rest = c.digits.invariant.number ∙ ap (λ (k : ℕ). low_first (drop k digits)) next in
    let P : ℕ → Type 0 = λ k. c.digits.number * 256 + c.from.result < 256 ^ k in
    record {
      number = low_first-step _ _ _ digits within c.from.ensures rest;
      fits = subst P more (one_byte_more _ _ _ c.digits.invariant.fits byte);
    }

pub returns : goal.returns
returns c =
    let first : c.digits.index ≡ 0 = omega (arith, c.digits-test.false) in
    c.digits.invariant.number ∙ ap (λ (k : ℕ). low_first (drop k c.args.digits.now)) first
