use Rattle.fax_encode.proofs.Names.{◌∙◌, Bool, cond, ap, arith, refl, Bits, pixels, chosen_line_1d}
use Rattle.fax_encode.proofs.Names.{chosen_line_2d}
use Rattle.fax_encode.specs.Procedure.{line_by_procedure}
use Rattle.fax_encode.proofs.RowLists.{line_of_list}
use Rattle.fax_encode.proofs.ComparedBits.{compares_on, if_few, if_here, if_not_here, last_compared, moves_on, none_passed}
use Rattle.fax_encode.proofs.ComparedBits.{stops}
use Rattle.fax_encode.proofs.procedure.pass_line.Goals.{After-pass_tag}
use Rattle.fax_encode.proofs.procedure.pass_line.Goals as goal

module _ (c : After-pass_tag) where
  abbrev two : Bits
  two = chosen_line_2d (pixels c.args.columns c.args.rows.reference.now) (pixels c.args.columns c.args.rows.changes.now)

  abbrev one : Bits
  one = chosen_line_1d (pixels c.args.columns c.args.rows.changes.now)

  abbrev line : Bits
  line = line_by_procedure c.args.kind.encoding c.args.kind.is_two_dimensional (pixels c.args.columns c.args.rows.reference.now)
      (pixels c.args.columns c.args.rows.changes.now)

pub returns-then-not-pass_tag-clause-compares : goal.returns-then-not-pass_tag-clause-compares
returns-then-not-pass_tag-clause-compares c =
    let d = (goal.at.returns-then-not-pass_tag-clause-compares c).After-pass_tag in
    stops (cond c.args.kind.is_two_dimensional (two d) (one d)) (none_passed (line d) c.args.reader.now) refl
    c.pass_tag.ensures.compares c.if-not-pass_tag.true

pub returns-then-kind-clause-compares : goal.returns-then-kind-clause-compares
returns-then-kind-clause-compares c =
    let d = (goal.at.returns-then-kind-clause-compares c).After-pass_tag in
    last_compared (compares_on (none_passed (line d) c.args.reader.now) refl c.pass_tag.ensures.compares c.if-not-pass_tag.false)
    (ap (λ (t : Bool). cond t (two d) (one d)) c.if-kind.true) c.pass_modes.ensures.compares

pub returns-clause-compares : goal.returns-clause-compares
returns-clause-compares c =
    let d = (goal.at.returns-clause-compares c).After-pass_tag in
    last_compared (compares_on (none_passed (line d) c.args.reader.now) refl c.pass_tag.ensures.compares c.if-not-pass_tag.false)
    (ap (λ (t : Bool). cond t (two d) (one d)) c.if-kind.false
    ∙ line_of_list c.args.columns c.args.rows.changes.now c.requires.changes) c.pass_row.ensures.compares

pub returns-then-not-pass_tag-clause-work : goal.returns-then-not-pass_tag-clause-work
returns-then-not-pass_tag-clause-work c = omega (
  arith,
  c.pass_tag.ensures.ticks,
  if_not_here c.if-not-pass_tag.true,
  moves_on c.pass_tag.ensures.compares,
)

pub returns-then-kind-clause-work : goal.returns-then-kind-clause-work
returns-then-kind-clause-work c = omega (
  arith,
  c.pass_tag.ensures.ticks,
  if_here c.if-not-pass_tag.false,
  moves_on c.pass_tag.ensures.compares,
  c.pass_modes.ensures.work,
  moves_on c.pass_modes.ensures.compares,
)

pub returns-clause-work : goal.returns-clause-work
returns-clause-work c = omega (
  arith,
  c.pass_tag.ensures.ticks,
  if_here c.if-not-pass_tag.false,
  moves_on c.pass_tag.ensures.compares,
  c.pass_row.ensures.ticks,
  moves_on c.pass_row.ensures.compares,
  if_few c.pass_row.result,
)
