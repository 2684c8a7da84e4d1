use Rattle.std.proofs.Common.{arith, ◌≡◌, ◌<◌, ◌/◌, length, refl}
use Rattle.fax_guess.proofs.ZeroBytes.{zero_here, zeros_after}
use Rattle.fax_guess.proofs.reading.only_zeros.Goals as goal

pub returns-then-bits_after-eq0 : goal.returns-then-bits_after-eq0
returns-then-bits_after-eq0 c = λ count at zeros.
    let same : c.args.place / 8 ≡ count = omega (arith, at) in
    c.are_zeros.ensures (zeros_after c.args.«data».now (c.args.place / 8) count same zeros)

pub returns-else-bits_after-eq0 : goal.returns-else-bits_after-eq0
returns-else-bits_after-eq0 c = λ count at zeros.
    let same : c.args.place / 8 ≡ count = omega (arith, at) in
    let within : c.args.place / 8 < length c.args.«data».now = omega (arith, c.if-first-data.false) in
    let none = c.bits_after.ensures (zero_here c.args.«data».now (c.args.place / 8) count same within zeros) in
    rw none refl
