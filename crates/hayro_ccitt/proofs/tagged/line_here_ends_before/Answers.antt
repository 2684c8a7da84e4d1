use Rattle.fax_rows.proofs.Names.{◌≡◌, ◌∙◌, ap, sym, arith, common_steps, here, drop, length, Bits, Line, line_here}
use Rattle.hayro_ccitt.proofs.TaggedBodies.LinesEnd.{whole_before}
use Rattle.hayro_ccitt.proofs.tagged.line_here_ends_before.Goals as goal

pub returns-in-Ok-clause-before : goal.returns-in-Ok-clause-before
returns-in-Ok-clause-before c =
    let held = c.args.ctx.now.held in
    let bits = c.args.reader.now.bits in
    let now = c.decode_line_by_tag.new.reader in
    let same : now.bits ≡ bits = c.decode_line_by_tag.ensures.line.same_bits in
    let whole : line_here held.settings held.reference (here c.args.reader.now)
    ≡ Line.whole c.decode_line_by_tag.new.ctx.held.front (here now) = grind (arith, common_steps) in
    let rest : here now ≡ drop c.bit_pos.result bits =
    ap (λ (b : Bits). drop now.place b) same ∙ ap (λ (n : _). drop n bits) (sym c.bit_pos.ensures.place) in
    whole_before held.settings held.reference bits (here c.args.reader.now) (here now) c.decode_line_by_tag.new.ctx.held.front
    c.bit_pos.result c.args.end whole rest (omega (arith, c.bit_pos.ensures.within, ap length same)) c.requires.within
