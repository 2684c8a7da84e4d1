use Rattle.fax_lines.proofs.Names.{ℕ, Option, ap, ◌∙◌, arith, Mode, here, mode_in}
use Rattle.fax_bits.proofs.CodeWords.LookedUpModes.{mode_stands, some_mode_bits}
use Rattle.std.proofs.lemmas.Option.{IfSome_then}
use Rattle.fax_lines.proofs.modes.mode_at_hand.Goals as goal

pub returns-clause-mode : goal.returns-clause-mode
returns-clause-mode c =
    let at = c.args.window.now.at in
    let found = c.mode_of.ensures.found ∙ ap mode_in c.peek_7.ensures.bits in
    let width = ap (λ (t : Option Mode × ℕ). t.1) found in
    let few = c.mode_of.ensures.few in
    IfSome_then c.mode_of.result.0 (mode_stands at c.mode_of.result found
    (λ past. omega (arith, past, few, c.peek_7.ensures.there, c.requires))) (λ mode read. record {
      read = read;
      some = omega (arith, width, some_mode_bits (here at));
      few = omega (arith, few);
      within = omega (arith, few, c.requires);
    })
