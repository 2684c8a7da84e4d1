use Rattle.fax_rows.proofs.Names.{arith, ap, subst, sym, ℕ, length, Bits, Context, Result, DecodeError}
use Rattle.fax_lines.specs.SinkStates.{state_of}
use Rattle.fax_rows.specs.WhiteLines.{MayFollow}
use Rattle.fax_rows.specs.WhiteRows.{PushesWhite}
use Rattle.fax_rows.proofs.Readings.WhiteRowsPushed.{no_white_read, then_pushed}
use Rattle.fax_rows.proofs.Readings.WhiteRowsRead.{bits_now, counted_now}
use Rattle.fax_rows.proofs.push_rows.push_white_rows.Goals as goal

pub returns-then-not-repeats-clause-pushes : goal.returns-then-not-repeats-clause-pushes
returns-then-not-repeats-clause-pushes g c = no_white_read

pub push_white_lines-requires-clause-follow : goal.push_white_lines-requires-clause-follow
push_white_lines-requires-clause-follow g c =
    subst (λ (x : Context). MayFollow x.held.settings x.held.has_eols x.held.reference c.args.white.lines.now)
    (sym (counted_now c.push_white_ahead.ensures.pushes c.in_default.is).same) (c.requires.follow c.if-not-repeats.false)

pub push_white_lines-requires-clause-fits : goal.push_white_lines-requires-clause-fits
push_white_lines-requires-clause-fits g c =
    omega (arith, c.requires.fits, ap (λ (b : Bits). length b) (bits_now c.push_white_ahead.ensures.pushes c.in_default.is))

pub returns-clause-pushes : goal.returns-clause-pushes
returns-clause-pushes g c =
    let ahead = c.push_white_ahead.new in
    let lines = c.push_white_lines.new in
    then_pushed
    (subst (λ (r : Result (Unit {0}) DecodeError). PushesWhite (g.D.Decoder.step (g.D.Decoder.width c.args.decoder.now))
    c.args.white.lines.now c.args.white.dropped (state_of g.D.Decoder c.args.decoder.now) (state_of g.D.Decoder ahead.decoder)
    c.args.rows.now ahead.rows c.args.ctx.now ahead.ctx c.args.reader.now ahead.reader r) c.in_default.is
    c.push_white_ahead.ensures.pushes)
    (subst (λ (w : ℕ). PushesWhite (g.D.Decoder.step w) c.args.white.lines.now c.args.white.dropped
    (state_of g.D.Decoder ahead.decoder) (state_of g.D.Decoder lines.decoder) ahead.rows lines.rows ahead.ctx lines.ctx
    ahead.reader lines.reader c.push_white_lines.result) c.push_white_ahead.ensures.width c.push_white_lines.ensures.pushes)
