use Rattle.std.proofs.Common.{arith, ◌+◌, ◌-◌, ◌/◌, ◌^◌, ◌<◌, ℕ, get_or, ap}
use Rattle.std.specs.Prelude.{bit_and, nat_eq}
use Rattle.std.proofs.lemmas.Nat.Bits.{shr_and_one}
use Rattle.fax_pictures.proofs.TurnedBytes.{fits_more, one_bit_more}
use Rattle.fax_pictures.proofs.turning.eight_bits.Goals as goal

pub loop-i-preserved : goal.loop-i-preserved
loop-i-preserved c =
    let s : ℕ = 7 - c.args.bit in
    let byte : ℕ = get_or c.args.bytes.now (c.args.start + c.loop-i.i) 0 in
    let b : ℕ = bit_and (byte / 2 ^ s) 1 in
    let is = shr_and_one byte s in
    let bit : b < 2 = omega (arith, is) in
    let few : c.loop-i.i < 8 = omega (arith, c.loop-i-test.true) in
    record {
      fits = fits_more c.loop-i.bits b c.loop-i.i few c.loop-i.invariant.fits bit;
      made = one_bit_more c.args.bytes.now c.args.start s c.loop-i.i c.loop-i.bits b few c.loop-i.invariant.fits bit
          (ap (λ (n : ℕ). nat_eq n 1) is) c.loop-i.invariant.made;
    }
