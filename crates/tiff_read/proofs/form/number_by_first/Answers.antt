use Rattle.std.proofs.Common.{arith, ◌∙◌, ◌<◌, add-one}
use Rattle.tiff_read.proofs.NumberLemmas.{high_first-end, high_first-step, one_byte_more, room_for_byte}
use Rattle.tiff_read.proofs.form.number_by_first.Goals as goal

pub overflow_mul-number : goal.overflow_mul-number
overflow_mul-number c =
    let few : c.digits.index < 8 = omega (arith, c.digits-test.true, c.requires) in
    omega (arith, room_for_byte c.digits.number c.digits.index few c.digits.invariant.fits)

pub overflow_add-number : goal.overflow_add-number
overflow_add-number c =
    let few : c.digits.index < 8 = omega (arith, c.digits-test.true, c.requires) in
    let byte : c.from.result < 256 = omega (arith, c.from.ensures, c.type_inv.digits c.digits.index) in
    omega (arith, byte, room_for_byte c.digits.number c.digits.index few c.digits.invariant.fits)

pub digits-preserved : goal.digits-preserved
digits-preserved c =
    let byte : c.from.result < 256 = omega (arith, c.from.ensures, c.type_inv.digits c.digits.index) in
    record {
      number = high_first-step _ _ _ _ c.digits-test.true c.from.ensures ∙ c.digits.invariant.number;
      fits = rw (add-one c.digits.index) (one_byte_more _ _ _ c.digits.invariant.fits byte);
    }

pub returns : goal.returns
returns c =
    high_first-end _ _ _ c.digits-test.false ∙ c.digits.invariant.number
