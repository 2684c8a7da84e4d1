use Rattle.std.proofs.Common.{ℕ, ◌+◌, ◌≤◌, List, ◌++◌, length, take, arith, rules, length-append, length-take}
use Rattle.std.proofs.KnownBytes.{Consumes-trans}
use Rattle.fax_bits.specs.Bits.{BitsFit}
use Rattle.fax_program.proofs.files.read_all.Goals as goal

-- bytes fit, and as many more as there is room for
fit_after : (input buffer : List ℕ) (count : ℕ) → length input + count ≤ 2305843009213693943
    → BitsFit (input ++ take count buffer)
fit_after input buffer count room = omega (arith, length-append input (take count buffer), length-take count buffer)

pub returns-then-is_err-clause-fit_so_far : goal.returns-then-is_err-clause-fit_so_far
returns-then-is_err-clause-fit_so_far g c = λ _.
    let room : length c.loop-count.input.items + c.in-Ok.count ≤ 2305843009213693943 = search rules in
    (_, Consumes-trans _ _ _ _ _ c.loop-count.invariant.consumed c.in-Ok.ensures.bytes.0, fit_after _ c.read.new.buf _ room)
