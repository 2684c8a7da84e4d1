use Rattle.hayro_ccitt.proofs.Names.{sym, ap, ◌∙◌, arith, length, BitsAt, here, ReadsModes, after_mode, mode_found}
use Rattle.hayro_ccitt.proofs.DamagedLines.LinesPassed.{after_mode_shorter, further, all_read}
use Rattle.hayro_ccitt.proofs.DamagedLines.PassedWork.{passed_mode, all_passed}
use Rattle.hayro_ccitt.proofs.reach.pass_modes.Goals as goal

pub modes-smaller : goal.modes-smaller
modes-smaller c =
    after_mode_shorter c.modes.color (here c.modes.reader) (c.in-Some.after, here c.pass_mode.new.reader)
    (ap (λ (at : BitsAt). after_mode c.modes.color (here at)) (sym c.copy-next.ensures.value) ∙ sym c.in-Some.ensures.after)

pub modes-preserved : goal.modes-preserved
modes-preserved c =
    let read =
    ap (λ (at : BitsAt). after_mode c.modes.color (here at)) (sym c.copy-next.ensures.value) ∙ sym c.in-Some.ensures.after in (
      c.in-Some.ensures.same_bits ∙ ap (λ (at : BitsAt). at.bits) c.copy-next.ensures.value ∙ c.modes.invariant.0,
      c.in-Some.ensures.only_ticks.held ∙ c.modes.invariant.1,
      omega (arith, c.in-Some.ensures.only_ticks.counts, c.modes.invariant.2),
      further (here c.args.reader.now) c.modes.color (here c.modes.reader) c.in-Some.after (here c.pass_mode.new.reader)
          c.modes.invariant.3 read,
      passed_mode (here c.args.reader.now) c.modes.color (here c.modes.reader) c.in-Some.after (here c.pass_mode.new.reader)
          c.args.ctx.now.ticks c.modes.ctx.ticks c.pass_mode.new.ctx.ticks c.modes.invariant.4 read (omega (
            arith,
            c.in-Some.ensures.at_most,
            ap (λ (at : BitsAt). length (mode_found c.modes.color (here at))) c.copy-next.ensures.value,
          )),
      c.in-Some.ensures.only_ticks.space ∙ c.modes.invariant.5,
    )

pub returns-in-None-clause-read : goal.returns-in-None-clause-read
returns-in-None-clause-read c = c.modes.invariant.3.0 (here c.modes.reader) ReadsModes.over

pub returns-in-None-clause-last : goal.returns-in-None-clause-last
returns-in-None-clause-last c =
    all_read (here c.args.reader.now) c.modes.color (here c.modes.reader) c.modes.invariant.3
    (ap (λ (at : BitsAt). after_mode c.modes.color (here at)) (sym c.copy-next.ensures.value) ∙ sym c.in-None.ensures.after)

pub returns-in-None-clause-at_most : goal.returns-in-None-clause-at_most
returns-in-None-clause-at_most c =
    all_passed (here c.args.reader.now) c.modes.color (here c.modes.reader) c.args.ctx.now.ticks c.modes.ctx.ticks
    c.pass_mode.new.ctx.ticks c.modes.invariant.4 (omega (
      arith,
      c.in-None.ensures.at_most,
      ap (λ (at : BitsAt). length (mode_found c.modes.color (here at))) c.copy-next.ensures.value,
    ))
