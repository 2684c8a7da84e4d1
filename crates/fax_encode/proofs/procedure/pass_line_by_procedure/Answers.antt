use Rattle.fax_encode.proofs.Names.{◌≡◌, ◌-◌, ◌∙◌, ℕ, Bool, [], cond, ap, arith, length, refl, false, true}
use Rattle.fax_encode.proofs.Names.{Bits, padding, pixels}
use Rattle.fax_bits.specs.Bits.{BitsAt}
use Rattle.fax_encode.specs.Comparing.{Compares}
use Rattle.fax_encode.specs.Procedure.{line_by_procedure, part_by_procedure}
use Rattle.fax_encode.proofs.ComparedBits.{all_compared, compares_on, if_few, keeps_bits, last_compared, moves_on, none_passed}
use Rattle.fax_encode.proofs.ComparedBits.{stands_up_to, stands_whole, stops, whole_length}
use Rattle.fax_encode.proofs.procedure.pass_line_by_procedure.Goals.{After-pass_line, Then-not-pass_line}
use Rattle.fax_encode.proofs.procedure.pass_line_by_procedure.Goals as goal

module _ (c : After-pass_line) where
  abbrev line : Bits
  line = line_by_procedure c.args.kind.encoding c.args.kind.is_two_dimensional (pixels c.args.columns c.args.rows.reference.now)
      (pixels c.args.columns c.args.rows.changes.now)

  abbrev fill : Bits
  fill = cond c.args.kind.is_filled (padding (length line)) []

  abbrev part : Bits
  part = part_by_procedure c.args.kind.encoding c.args.kind.is_filled c.args.kind.is_two_dimensional
      (pixels c.args.columns c.args.rows.reference.now) (pixels c.args.columns c.args.rows.changes.now)

-- the line isn't here
unlike : (c : Then-not-pass_line) → Compares (part c.before) c.args.reader.now c.pass_line.new.reader false
unlike c = stops (fill c.before) (none_passed (part c.before) c.args.reader.now) refl c.pass_line.ensures.compares
    c.if-not-pass_line.true

-- it is, and perhaps its fill
with_fill : (c : After-pass_line) {new : BitsAt} {is_here : Bool} (bits : ℕ) → c.pass_line.result ≡ true
    → c.args.kind.is_filled ≡ true
    → length (line c) ≡ bits → Compares (padding bits) c.pass_line.new.reader new is_here
    → Compares (part c) c.args.reader.now new is_here
with_fill c bits is_here fills counted more =
    last_compared (compares_on (none_passed (part c) c.args.reader.now) refl c.pass_line.ensures.compares is_here)
    (ap (λ (t : Bool). cond t (padding (length (line c))) []) fills ∙ ap padding counted) more

-- it is, and has none
alone : (c : After-pass_line) → c.pass_line.result ≡ true → c.args.kind.is_filled ≡ false
    → Compares (part c) c.args.reader.now c.pass_line.new.reader true
alone c is_here unfilled =
    all_compared (compares_on (none_passed (part c) c.args.reader.now) refl c.pass_line.ensures.compares is_here)
    (ap (λ (t : Bool). cond t (padding (length (line c))) []) unfilled)

-- its bits were counted
counted : (c : After-pass_line) (start now : ℕ) → start ≡ c.args.reader.now.place → now ≡ c.pass_line.new.reader.place
    → c.pass_line.result ≡ true → length (line c) ≡ now - start
counted c start now from to is_here = omega (arith, from, to, whole_length c.pass_line.ensures.compares is_here)

pub overflow_sub-bits : goal.overflow_sub-bits
overflow_sub-bits c =
    omega (arith, c.bit_pos.ensures.place, c.bit_pos-start.ensures.place, moves_on c.pass_line.ensures.compares)

pub returns-then-not-pass_line-clause-differs : goal.returns-then-not-pass_line-clause-differs
returns-then-not-pass_line-clause-differs c =
    let d = (goal.at.returns-then-not-pass_line-clause-differs c).Then-not-pass_line in λ e. stands_up_to (unlike d) refl

pub returns-then-not-pass_line-clause-onward : goal.returns-then-not-pass_line-clause-onward
returns-then-not-pass_line-clause-onward c =
    let d = (goal.at.returns-then-not-pass_line-clause-onward c).Then-not-pass_line in moves_on (unlike d)

pub returns-then-not-pass_line-clause-same_bits : goal.returns-then-not-pass_line-clause-same_bits
returns-then-not-pass_line-clause-same_bits c =
    let d = (goal.at.returns-then-not-pass_line-clause-same_bits c).Then-not-pass_line in keeps_bits (unlike d)

pub returns-then-kind-clause-passed : goal.returns-then-kind-clause-passed
returns-then-kind-clause-passed c =
    let d = (goal.at.returns-then-kind-clause-passed c).After-pass_line in
    stands_whole (with_fill d (c.bit_pos.result - c.bit_pos-start.result) c.if-not-pass_line.false c.if-kind.true
    (counted d c.bit_pos-start.result c.bit_pos.result c.bit_pos-start.ensures.place c.bit_pos.ensures.place
    c.if-not-pass_line.false) c.pass_fill.ensures.compares)

pub returns-then-kind-clause-differs : goal.returns-then-kind-clause-differs
returns-then-kind-clause-differs c =
    let d = (goal.at.returns-then-kind-clause-differs c).After-pass_line in
    stands_up_to (with_fill d (c.bit_pos.result - c.bit_pos-start.result) c.if-not-pass_line.false c.if-kind.true
    (counted d c.bit_pos-start.result c.bit_pos.result c.bit_pos-start.ensures.place c.bit_pos.ensures.place
    c.if-not-pass_line.false) c.pass_fill.ensures.compares)

pub returns-then-kind-clause-onward : goal.returns-then-kind-clause-onward
returns-then-kind-clause-onward c =
    let d = (goal.at.returns-then-kind-clause-onward c).After-pass_line in
    moves_on (with_fill d (c.bit_pos.result - c.bit_pos-start.result) c.if-not-pass_line.false c.if-kind.true
    (counted d c.bit_pos-start.result c.bit_pos.result c.bit_pos-start.ensures.place c.bit_pos.ensures.place
    c.if-not-pass_line.false) c.pass_fill.ensures.compares)

pub returns-then-kind-clause-same_bits : goal.returns-then-kind-clause-same_bits
returns-then-kind-clause-same_bits c =
    let d = (goal.at.returns-then-kind-clause-same_bits c).After-pass_line in
    keeps_bits (with_fill d (c.bit_pos.result - c.bit_pos-start.result) c.if-not-pass_line.false c.if-kind.true
    (counted d c.bit_pos-start.result c.bit_pos.result c.bit_pos-start.ensures.place c.bit_pos.ensures.place
    c.if-not-pass_line.false) c.pass_fill.ensures.compares)

pub returns-then-kind-clause-work : goal.returns-then-kind-clause-work
returns-then-kind-clause-work c = omega (
  arith,
  c.pass_line.ensures.work,
  moves_on c.pass_line.ensures.compares,
  c.pass_fill.ensures.ticks,
  moves_on c.pass_fill.ensures.compares,
  if_few c.pass_fill.result,
)

pub returns-clause-passed : goal.returns-clause-passed
returns-clause-passed c =
    let d = (goal.at.returns-clause-passed c).After-pass_line in
    λ e. stands_whole (alone d c.if-not-pass_line.false c.if-kind.false) refl

pub returns-clause-onward : goal.returns-clause-onward
returns-clause-onward c =
    let d = (goal.at.returns-clause-onward c).After-pass_line in
    moves_on (alone d c.if-not-pass_line.false c.if-kind.false)

pub returns-clause-same_bits : goal.returns-clause-same_bits
returns-clause-same_bits c =
    let d = (goal.at.returns-clause-same_bits c).After-pass_line in
    keeps_bits (alone d c.if-not-pass_line.false c.if-kind.false)
