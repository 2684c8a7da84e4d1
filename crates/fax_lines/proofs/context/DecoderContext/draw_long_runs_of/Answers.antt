use Rattle.fax_lines.proofs.Names.{◌≡◌, refl, White, rules}
use Rattle.fax_lines.proofs.context.DecoderContext.draw_long_runs_of.Goals as goal

pub returns : goal.returns
returns c =
    let white : c.self.inside.color ≡ White = c.if-not-is_white.ensures.0 refl in
    rw (
      c.go_on_with.ensures,
      ← c.window_at_hand-window.ensures.same,
      ← c.self.view_is,
      white,
      c.drop_open_change.ensures.same,
      ← c.close_black_run.ensures.same,
    ) (search rules)
