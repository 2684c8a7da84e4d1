use Rattle.fax_lines.proofs.Names.{rules}
use Rattle.fax_lines.proofs.context.DecoderContext.draw_first_runs.Goals.{then-changes-gt1, else-changes-gt1}
use Rattle.fax_lines.proofs.context.DecoderContext.draw_first_runs.Goals as goal

pub returns-then-changes-lt16 : goal.returns-then-changes-lt16
returns-then-changes-lt16 c = elim c.if-changes-gt1.branch [
  | then-changes-gt1 w ↦ rw (w.self-is, w.reader-is) w.draw_long_runs_of.ensures
  | else-changes-gt1 w ↦ rw (w.self-is, w.reader-is) (search rules)
]

pub returns : goal.returns
returns c = rw (c.go_on_with.ensures, ← c.window_at_hand-window.ensures.same) c.draw_pairs_from_white.ensures
