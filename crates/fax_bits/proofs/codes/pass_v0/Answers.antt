use Rattle.fax_bits.proofs.Names.{◌≡◌, ◌<◌, ℕ, Option, Some, length, min, pos, refl, sym, ap, ◌∙◌, arith, length-drop}
use Rattle.fax_bits.proofs.Names.{Mode, Vertical, here, mode_in}
use Rattle.fax_bits.proofs.BitReading.PeekedBits.{peeked_seven}
use Rattle.fax_bits.proofs.CodeWords.LookedUpModes.{mode_stands, read_mode_in, v0_there}
use Rattle.fax_bits.proofs.codes.pass_v0.Goals as goal

pub returns-clause-mode : goal.returns-clause-mode
returns-clause-mode c = let at = c.args.reader.now in
    let found = c.mode_of-mode.ensures.found ∙ ap mode_in (peeked_seven at c.peek_u32.result c.peek_u32.ensures) in
    let v0 : c.mode_of-mode.result.0 ≡ Some (Vertical (pos 0)) = c.if-not-is_v0.ensures.v0 refl in
    let there : 0 < length (here at) = v0_there (here at) (sym v0 ∙ ap (λ (t : Option Mode × ℕ). t.0) found) in
    let one : c.mode_of-mode.result.1 ≡ 1 = c.mode_of-mode.ensures.v0 v0 in
    λ e. rw (v0, one) at (mode_stands at c.mode_of-mode.result found
    (λ past. omega (arith, past, there, one, length-drop at.place at.bits)))

pub returns-clause-passed : goal.returns-clause-passed
returns-clause-passed c = let at = c.args.reader.now in
    let found = c.mode_of-mode.ensures.found ∙ ap mode_in (peeked_seven at c.peek_u32.result c.peek_u32.ensures) in
    let v0 : c.mode_of-mode.result.0 ≡ Some (Vertical (pos 0)) = c.if-not-is_v0.ensures.v0 refl in
    let there : 0 < length (here at) = v0_there (here at) (sym v0 ∙ ap (λ (t : Option Mode × ℕ). t.0) found) in
    grind (arith, min, length-drop)

pub returns-then-not-is_v0-clause-other : goal.returns-then-not-is_v0-clause-other
returns-then-not-is_v0-clause-other c = λ e rest read. let at = c.args.reader.now in
    let found = c.mode_of-mode.ensures.found ∙ ap mode_in (peeked_seven at c.peek_u32.result c.peek_u32.ensures) in
    c.if-not-is_v0.ensures.other refl
    (ap (λ (t : Option Mode × ℕ). t.0) found ∙ read_mode_in (here at) rest (Vertical (pos 0)) read)
