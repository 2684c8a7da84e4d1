use Rattle.fax_coding.proofs.Names.{◌-◌, ap, ◌∙◌, arith, is_near}
use Rattle.fax_coding.specs.Ways.{bits_in_vertical, bits_in_horizontal}
use Rattle.fax_coding.proofs.ShortestRunsWritten.{two_runs_least}
use Rattle.fax_coding.proofs.ShortestSteps.{is_taken, is_longer, vertical_count}
use Rattle.fax_coding.specs.declared.shortest_lines.Way.{Way}
use Rattle.fax_coding.proofs.shortest_lines.way_without_pass.Goals as goal

pub returns-then-from-ahead-clause-vertical : goal.returns-then-from-ahead-clause-vertical
returns-then-from-ahead-clause-vertical c =
    ap (λ (w : Way). w.is_vertical) c.vertical_way-vertical.ensures
    ∙ is_taken (is_near c.args.b1 c.args.ahead.a1) (bits_in_vertical c.args.b1 c.args.ahead)
    (bits_in_horizontal c.args.color c.args.from c.args.ahead) c.in-Some.ensures.0
    (omega (
      arith,
      c.if-from-ahead.true,
      c.from.ensures,
      vertical_count c.args.b1 c.args.ahead.a1 c.in-Some.word c.in-Some.ensures.1,
      two_runs_least c.args.color (c.args.ahead.a1 - (c.args.from - 1)) (c.args.ahead.a2 - c.args.ahead.a1),
    ))

pub returns-then-from-ahead-clause-bits : goal.returns-then-from-ahead-clause-bits
returns-then-from-ahead-clause-bits c = rw c.vertical_way-vertical.ensures (omega (
  arith,
  vertical_count c.args.b1 c.args.ahead.a1 c.in-Some.word c.in-Some.ensures.1,
))

pub returns-then-vertical-horizontal-clause-vertical : goal.returns-then-vertical-horizontal-clause-vertical
returns-then-vertical-horizontal-clause-vertical c =
    ap (λ (w : Way). w.is_vertical) c.vertical_way-vertical.ensures
    ∙ is_taken (is_near c.args.b1 c.args.ahead.a1) (bits_in_vertical c.args.b1 c.args.ahead)
    (bits_in_horizontal c.args.color c.args.from c.args.ahead) c.in-Some.ensures.0
    (omega (
      arith,
      c.if-vertical-horizontal.true,
      ap (λ (w : Way). w.bits) c.vertical_way-vertical.ensures,
      c.horizontal_way-horizontal.ensures.bits,
      vertical_count c.args.b1 c.args.ahead.a1 c.in-Some.word c.in-Some.ensures.1,
    ))

pub returns-then-vertical-horizontal-clause-bits : goal.returns-then-vertical-horizontal-clause-bits
returns-then-vertical-horizontal-clause-bits c = rw c.vertical_way-vertical.ensures (omega (
  arith,
  vertical_count c.args.b1 c.args.ahead.a1 c.in-Some.word c.in-Some.ensures.1,
))

pub returns-else-vertical-horizontal-clause-vertical : goal.returns-else-vertical-horizontal-clause-vertical
returns-else-vertical-horizontal-clause-vertical c =
    c.horizontal_way-horizontal.ensures.vertical
    ∙ is_longer (is_near c.args.b1 c.args.ahead.a1) (bits_in_vertical c.args.b1 c.args.ahead)
    (bits_in_horizontal c.args.color c.args.from c.args.ahead)
    (omega (
      arith,
      c.if-vertical-horizontal.false,
      ap (λ (w : Way). w.bits) c.vertical_way-vertical.ensures,
      c.horizontal_way-horizontal.ensures.bits,
      vertical_count c.args.b1 c.args.ahead.a1 c.in-Some.word c.in-Some.ensures.1,
    ))
