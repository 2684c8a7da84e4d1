use Rattle.fax_bits.proofs.Names.{◌≡◌, Some, pos, refl, ap, ◌∙◌, false≢true, Vertical, mode_in}
use Rattle.fax_bits.proofs.CodeWords.LookedUpModes.{mode_stands}
use Rattle.fax_bits.proofs.bit_reader.BitScanner.pass_v0.Goals as goal

pub returns-in-Ok-clause-mode : goal.returns-in-Ok-clause-mode
returns-in-Ok-clause-mode c = λ e.
    let found = c.mode_of-mode.ensures.found ∙ ap mode_in c.peek_7.ensures.bits in
    let v0 : c.mode_of-mode.result.0 ≡ Some (Vertical (pos 0)) = c.if-not-is_v0.ensures.v0 refl in
    let one = c.mode_of-mode.ensures.v0 v0 in
    let stands = mode_stands c.args.self.now c.mode_of-mode.result found
    (rw one (λ lt. false≢true (c.in-Ok.ensures.end.1 lt))) in
    rw c.in-Ok.ensures.moved (rw (v0, one) at stands)
