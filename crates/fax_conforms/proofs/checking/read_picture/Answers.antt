use Rattle.hayro_ccitt.proofs.Work.EolsPassed.{looked_most}
use Rattle.hayro_ccitt.proofs.Names.{◌≢◌, ◌∙◌, sym, arith, false≢true, here, Group4, IfErr-weaker, Bits, subst, inl, inr, true}
use Rattle.hayro_ccitt.proofs.Names.{false}
use Rattle.fax_conforms.specs.Conforming.{EolStands}
use Rattle.fax_conforms.proofs.PicturesConform.{group4_conforms, eols_conform, lines_conform, no_eols_conform}
use Rattle.fax_conforms.proofs.PicturesDepart.{in_picture, no_first_eol, whole_is}
use Rattle.fax_conforms.proofs.Stopped.{if_err, if_done, if_broken}
use Rattle.fax_conforms.proofs.checking.read_picture.Goals as goal
use Rattle.fax_conforms.proofs.checking.read_picture.Goals.{Else-is_group4}

-- Group 3
three : (c : Else-is_group4) → c.args.settings.encoding ≢ Group4
three c = λ four. false≢true (sym c.if-is_group4.false ∙ c.is_group4.ensures.1 four)

pub returns-then-is_group4-clause-stands : goal.returns-then-is_group4-clause-stands
returns-then-is_group4-clause-stands c = if_done c.read_body.result _ _ c.read_body.ensures.stands
    (group4_conforms c.args.settings c.requires.wide (here c.args.reader.now) (c.is_group4.ensures.0 c.if-is_group4.true)).1

pub returns-then-is_group4-clause-none : goal.returns-then-is_group4-clause-none
returns-then-is_group4-clause-none c = if_broken c.read_body.result _ _ c.read_body.ensures.none (λ none conforms. none
    ((group4_conforms c.args.settings c.requires.wide (here c.args.reader.now)
    (c.is_group4.ensures.0 c.if-is_group4.true)).0 conforms))

pub returns-then-has_eol-clause-stands : goal.returns-then-has_eol-clause-stands
returns-then-has_eol-clause-stands c =
    let found = c.has_eol.ensures.found c.if-has_eol.true in
    if_done c.read_lines.result _ _ c.read_lines.ensures.stands (eols_conform c.args.settings c.requires.wide
    (here c.args.reader.now)
    (omega arith) (three (goal.at.returns-then-has_eol-clause-stands c).Else-is_group4) found.0 found.1).1

pub returns-then-has_eol-clause-none : goal.returns-then-has_eol-clause-none
returns-then-has_eol-clause-none c =
    let found = c.has_eol.ensures.found c.if-has_eol.true in
    if_broken c.read_lines.result _ _ c.read_lines.ensures.none (λ none conforms. none
    ((eols_conform c.args.settings c.requires.wide
    (here c.args.reader.now) (omega arith) (three (goal.at.returns-then-has_eol-clause-none c).Else-is_group4) found.0 found.1).0
    conforms))

pub returns-then-settings-clause-none : goal.returns-then-settings-clause-none
returns-then-settings-clause-none c = if_err c.broken.result _ (no_eols_conform c.args.settings c.requires.wide
    (here c.args.reader.now) (omega arith) (three (goal.at.returns-then-settings-clause-none c).Else-is_group4)
    (c.has_eol.ensures.none c.if-has_eol.false) c.if-settings.true)

pub returns-clause-stands : goal.returns-clause-stands
returns-clause-stands c = if_done c.read_body-2.result _ _ c.read_body-2.ensures.stands
    (lines_conform c.args.settings c.requires.wide
    (here c.args.reader.now) (omega arith) (three (goal.at.returns-clause-stands c).Else-is_group4)
    (c.has_eol.ensures.none c.if-has_eol.false) c.if-settings.false).1

pub returns-clause-none : goal.returns-clause-none
returns-clause-none c = if_broken c.read_body-2.result _ _ c.read_body-2.ensures.none (λ none conforms. none ((lines_conform
    c.args.settings c.requires.wide (here c.args.reader.now) (omega arith) (three (goal.at.returns-clause-none c).Else-is_group4)
    (c.has_eol.ensures.none c.if-has_eol.false) c.if-settings.false).0 conforms))

-- ---- Where the picture departs.
pub returns-then-is_group4-clause-at : goal.returns-then-is_group4-clause-at
returns-then-is_group4-clause-at c = IfErr-weaker c.read_body.result _ _ (λ e ends. in_picture c.args.settings false
    c.args.reader.now.bits (here c.args.reader.now) e (whole_is c.args.reader.now c.requires.start) c.requires.wide
    (inl (c.is_group4.ensures.0 c.if-is_group4.true)) ends) c.read_body.ensures.at

pub returns-then-has_eol-clause-at : goal.returns-then-has_eol-clause-at
returns-then-has_eol-clause-at c =
    let found = c.has_eol.ensures.found c.if-has_eol.true in
    let whole = whole_is c.args.reader.now c.requires.start in
    IfErr-weaker c.read_lines.result _ _ (λ e ends. in_picture c.args.settings true
    c.args.reader.now.bits (here c.args.reader.now) e whole c.requires.wide (
      three (goal.at.returns-then-has_eol-clause-at c).Else-is_group4,
      inr (found.0, subst (λ (b : Bits). EolStands b found.0) whole found.1),
    ) ends) c.read_lines.ensures.at

pub returns-then-settings-clause-at : goal.returns-then-settings-clause-at
returns-then-settings-clause-at c = rw c.broken.ensures.exact (no_first_eol c.args.settings c.args.reader.now.bits c.requires.wide
    (omega arith) (three (goal.at.returns-then-settings-clause-at c).Else-is_group4) c.if-settings.true
    (λ rest stands. c.has_eol.ensures.none c.if-has_eol.false rest (subst (λ (b : Bits). EolStands b rest)
    (sym (whole_is c.args.reader.now c.requires.start)) stands)))

pub returns-clause-at : goal.returns-clause-at
returns-clause-at c =
    IfErr-weaker c.read_body-2.result _ _ (λ e ends. in_picture c.args.settings false
    c.args.reader.now.bits (here c.args.reader.now) e (whole_is c.args.reader.now c.requires.start) c.requires.wide (inr (
      c.if-settings.false,
      λ rest stands. c.has_eol.ensures.none c.if-has_eol.false rest (subst (λ (b : Bits). EolStands b rest)
          (sym (whole_is c.args.reader.now c.requires.start)) stands),
    )) ends) c.read_body-2.ensures.at

pub returns-then-has_eol-clause-at_most : goal.returns-then-has_eol-clause-at_most
returns-then-has_eol-clause-at_most c =
    omega (arith, c.has_eol.ensures.ticks, looked_most (here c.args.reader.now), c.read_lines.ensures.at_most)

pub returns-then-settings-clause-at_most : goal.returns-then-settings-clause-at_most
returns-then-settings-clause-at_most c = omega (arith, c.has_eol.ensures.ticks, looked_most (here c.args.reader.now))

pub returns-clause-at_most : goal.returns-clause-at_most
returns-clause-at_most c =
    omega (arith, c.has_eol.ensures.ticks, looked_most (here c.args.reader.now), c.read_body-2.ensures.at_most)
