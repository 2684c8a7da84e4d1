use Rattle.fax_coding.proofs.Names.{◌≡◌, ◌+◌, ◌-◌, ◌≤◌, ℕ, get_or, arith, get_or_default_zero, place_of}
use Rattle.fax_coding.proofs.StepsToB1.{near_on, near_first, near_back}
use Rattle.fax_coding.proofs.group4.above_after_vertical.Goals as goal

pub returns-then-above-eq0-clause-near : goal.returns-then-above-eq0-clause-near
returns-then-above-eq0-clause-near c = near_first c.args.columns c.args.reference.now c.requires.lawful
    (place_of c.args._at) c.args.above.index c.requires.near c.args.a1 (omega (arith, c.if-above-eq0.true))

pub returns-then-reference-before-clause-near : goal.returns-then-reference-before-clause-near
returns-then-reference-before-clause-near c =
    let before : ℕ = c.args.above.index - 1 in
    let is : c.args.above.index ≡ before + 1 = omega (arith, c.if-above-eq0.false) in
    let le : get_or c.args.reference.now before c.args.columns ≤ c.args.a1 = omega (
      arith,
      c.if-reference-before.true,
      get_or_default_zero c.args.reference.now before c.args.columns c.if-before-reference.true,
    ) in
    near_on c.args.columns c.args.reference.now c.requires.lawful
    (place_of c.args._at) c.args.above.index c.requires.near before c.args.a1 is le

pub returns-clause-near : goal.returns-clause-near
returns-clause-near c =
    let before : ℕ = c.args.above.index - 1 in
    let is : c.args.above.index ≡ before + 1 = omega (arith, c.if-above-eq0.false) in
    near_back c.args.columns c.args.reference.now c.requires.lawful
    (place_of c.args._at) c.args.above.index c.requires.near before c.args.a1 is c.requires.right
