use Rattle.fax_bits.proofs.Names.{◌∙◌, ap, eqb, sym, false≢true}
use Rattle.fax_bits.specs.ModeGroups.{first_mode}
use Rattle.fax_bits.proofs.BitReading.GroupRows.{first_pass, mode_number, numbered_two}
use Rattle.fax_bits.proofs.mode_groups.ModeGroup.is_pass.Goals as goal

pub returns-clause-pass : goal.returns-clause-pass
returns-clause-pass c = λ same. numbered_two (first_mode c.args.self)
    (rw (← c.self.view_is) (first_pass c.self.inside.bits c.self.invariant) ∙ same)

pub returns-clause-other : goal.returns-clause-other
returns-clause-other c = λ same first. false≢true (sym same
    ∙ sym (rw (← c.self.view_is) (first_pass c.self.inside.bits c.self.invariant)) ∙ ap (λ m. eqb (mode_number m) 2) first)
