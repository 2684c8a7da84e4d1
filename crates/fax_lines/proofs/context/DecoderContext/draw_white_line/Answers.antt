use Rattle.fax_lines.proofs.Names.{◌≡◌, [], refl, arith, common_steps}
use Rattle.fax_lines.proofs.DrawingLines.LinesAtOnce.{draws_unpassed, nothing_painted, white_lawful}
use Rattle.fax_lines.proofs.DrawingLines.UsualModes.{white_line}
use Rattle.fax_lines.proofs.context.DecoderContext.draw_white_line.Goals as goal

pub invariant_of-self : goal.invariant_of-self
invariant_of-self c = white_lawful c.self.inside c.self.view_is c.self.invariant c.requires _ _

pub returns : goal.returns
returns c =
    let s = c.self.inside in
    let none = nothing_painted s c.self.view_is c.self.invariant c.requires in
    let row : s.ref_changes.items ≡ [] = grind (arith, common_steps) in
    rw (← c.self.view_is, c.if-not-pass_v0.ensures.passed refl) (draws_unpassed s none s.coding_changes _ _ refl refl
    (rw (none.row, row) (white_line s.settings.strict s.settings.columns c.args.reader.now s.ticks _
    (omega (arith, c.if-columns-eq0.false)) (omega arith) (c.if-not-pass_v0.ensures.mode refl) (omega arith))))
