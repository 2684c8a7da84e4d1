use Rattle.fax_bits.proofs.Names.{◌∙◌, ap, eqb, sym, false≢true}
use Rattle.fax_bits.specs.ModeGroups.{first_mode}
use Rattle.fax_bits.proofs.BitReading.GroupRows.{first_horizontal, mode_number, numbered_one}
use Rattle.fax_bits.proofs.mode_groups.ModeGroup.is_horizontal.Goals as goal

pub returns-clause-horizontal : goal.returns-clause-horizontal
returns-clause-horizontal c = λ same. numbered_one (first_mode c.args.self)
    (rw (← c.self.view_is) (first_horizontal c.self.inside.bits c.self.invariant) ∙ same)

pub returns-clause-other : goal.returns-clause-other
returns-clause-other c = λ same first. false≢true (sym same
    ∙ sym (rw (← c.self.view_is) (first_horizontal c.self.inside.bits c.self.invariant)) ∙ ap (λ m. eqb (mode_number m) 1) first)
