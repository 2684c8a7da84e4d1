use Rattle.fax_bits.proofs.Names.{arith, refl, ap, ◌∙◌, false≢true, err_from_is_err_and, mode_in}
use Rattle.fax_bits.proofs.CodeWords.LookedUpModes.{mode_is_cut, mode_is_wrong, mode_stands}
use Rattle.fax_bits.proofs.bit_reader.BitScanner.mode_here.Goals as goal

pub returns-in_err-consume-clause-mode : goal.returns-in_err-consume-clause-mode
returns-in_err-consume-clause-mode c =
    let found = c.mode_of-mode.ensures.found ∙ ap mode_in c.peek_7.ensures.bits in
    let cut = mode_is_cut c.args.self.now c.mode_of-mode.result found (c.in_err-consume.ensures.end.0 refl) in
    grind (arith, err_from_is_err_and)

pub returns-in-Some-clause-mode : goal.returns-in-Some-clause-mode
returns-in-Some-clause-mode c =
    let found = c.mode_of-mode.ensures.found ∙ ap mode_in c.peek_7.ensures.bits in
    let stands = mode_stands c.args.self.now c.mode_of-mode.result found (λ lt. false≢true (c.in_ok-consume.ensures.end.1 lt)) in
    rw c.in_ok-consume.ensures.moved (rw c.in-Some.is at stands)

pub returns-in-None-clause-mode : goal.returns-in-None-clause-mode
returns-in-None-clause-mode c =
    let found = c.mode_of-mode.ensures.found ∙ ap mode_in c.peek_7.ensures.bits in
    mode_is_wrong c.args.self.now c.mode_of-mode.result found (λ lt. false≢true (c.in_ok-consume.ensures.end.1 lt)) c.in-None.is
