use Rattle.fax_coding.proofs.Names.{ℕ, ◌-◌, length, ap, arith, Color, Horizontal, shortest_run, word_of_mode}
use Rattle.fax_coding.specs.declared.shortest_lines.Way.{Way}
use Rattle.fax_coding.proofs.RunLengths.{word_length}
use Rattle.fax_coding.proofs.shortest_lines.horizontal_way.Goals as goal

pub returns-clause-bits : goal.returns-clause-bits
returns-clause-bits c = omega (
  arith,
  ap (λ (w : Way). w.bits) c.vertical_way.ensures,
  word_length (word_of_mode Horizontal) c.horizontal_word.result c.horizontal_word.ensures,
  ap (λ (m : ℕ). length (shortest_run c.args.color (c.args.ahead.a1 - m))) c.saturating_sub.ensures,
  c.from.ensures,
  c.from-2.ensures,
  c.shortest_run_bits.ensures.is,
  c.shortest_run_bits-2.ensures.is,
  ap (λ (k : Color). length (shortest_run k (c.args.ahead.a2 - c.args.ahead.a1))) c.opposite.ensures,
)
