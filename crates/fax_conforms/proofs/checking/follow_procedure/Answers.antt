use Rattle.hayro_ccitt.proofs.Names.{◌≢◌, ◌∙◌, sym, arith, false≢true, here, Group4, Bits, subst, inl, inr, true, false}
use Rattle.fax_conforms.specs.Conforming.{EolStands}
use Rattle.fax_conforms.proofs.PicturesByProcedure.{body_stands, conforms_wide, eols_unasked, if_ends_by_procedure}
use Rattle.fax_conforms.proofs.PicturesConform.{eols_conform}
use Rattle.fax_conforms.proofs.PicturesDepart.{whole_is}
use Rattle.fax_conforms.proofs.ProcedurePictures.{checks_same, eols_by_procedure, group4_by_procedure, no_eols_by_procedure}
use Rattle.hayro_ccitt.proofs.Work.EolsPassed.{looked_most}
use Rattle.fax_conforms.proofs.checking.follow_procedure.Goals.{Else-is_group4}
use Rattle.fax_conforms.proofs.checking.follow_procedure.Goals as goal

-- Group 3
not_group4 : (c : Else-is_group4) → c.args.settings.encoding ≢ Group4
not_group4 c = λ four. false≢true (sym c.if-is_group4.false ∙ c.is_group4.ensures.1 four)

pub returns-then-is_group4-clause-checks : goal.returns-then-is_group4-clause-checks
returns-then-is_group4-clause-checks c = checks_same c.are_by_procedure.result _ _ (group4_by_procedure c.args.settings c.args.k
    (here c.args.reader.now) (conforms_wide c.args.settings (here c.args.reader.now) c.requires.readable)
    (c.is_group4.ensures.0 c.if-is_group4.true)) c.are_by_procedure.ensures.checks

pub returns-then-has_eol-clause-checks : goal.returns-then-has_eol-clause-checks
returns-then-has_eol-clause-checks c =
    let found = c.has_eol.ensures.found c.if-has_eol.true in
    checks_same c.are_by_procedure-then-has_eol.result _ _ (eols_by_procedure c.args.settings c.args.k (here c.args.reader.now)
    (conforms_wide c.args.settings (here c.args.reader.now) c.requires.readable)
    (not_group4 (goal.at.returns-then-has_eol-clause-checks c).Else-is_group4) (omega arith) found.0 found.1)
    (rw c.with_eols.ensures at c.are_by_procedure-then-has_eol.ensures.checks)

pub returns-clause-checks : goal.returns-clause-checks
returns-clause-checks c =
    let three = not_group4 (goal.at.returns-clause-checks c).Else-is_group4 in
    let wide = conforms_wide c.args.settings (here c.args.reader.now) c.requires.readable in
    let none = c.has_eol.ensures.none c.if-has_eol.false in
    checks_same c.are_by_procedure-2.result _ _ (no_eols_by_procedure c.args.settings c.args.k (here c.args.reader.now) wide three
    none (eols_unasked c.args.settings wide (here c.args.reader.now) (omega arith) three none c.requires.readable))
    c.are_by_procedure-2.ensures.checks

-- ---- Where it ends early.
pub returns-then-is_group4-clause-at : goal.returns-then-is_group4-clause-at
returns-then-is_group4-clause-at c = if_ends_by_procedure c.args.settings c.args.k c.args.reader.now.bits false
    c.are_by_procedure.result (inl (c.is_group4.ensures.0 c.if-is_group4.true)) c.are_by_procedure.ensures.at

pub returns-then-has_eol-clause-at : goal.returns-then-has_eol-clause-at
returns-then-has_eol-clause-at c =
    let found = c.has_eol.ensures.found c.if-has_eol.true in
    if_ends_by_procedure c.args.settings c.args.k c.args.reader.now.bits true c.are_by_procedure-then-has_eol.result (
      not_group4 (goal.at.returns-then-has_eol-clause-at c).Else-is_group4,
      inr (found.0, subst (λ (b : Bits). EolStands b found.0) (whole_is c.args.reader.now c.requires.start) found.1),
    ) (rw c.with_eols.ensures at c.are_by_procedure-then-has_eol.ensures.at)

pub returns-clause-at : goal.returns-clause-at
returns-clause-at c =
    let three = not_group4 (goal.at.returns-clause-at c).Else-is_group4 in
    let none = c.has_eol.ensures.none c.if-has_eol.false in
    if_ends_by_procedure c.args.settings c.args.k c.args.reader.now.bits false c.are_by_procedure-2.result (inr (
      eols_unasked c.args.settings (conforms_wide c.args.settings (here c.args.reader.now) c.requires.readable)
          (here c.args.reader.now) (omega arith) three none c.requires.readable,
      λ rest stands. none rest
          (subst (λ (b : Bits). EolStands b rest) (sym (whole_is c.args.reader.now c.requires.start)) stands),
    )) c.are_by_procedure-2.ensures.at

-- ---- What it calls asks that lines stand here.
pub are_by_procedure-requires-then-has_eol-clause-readable : goal.are_by_procedure-requires-then-has_eol-clause-readable
are_by_procedure-requires-then-has_eol-clause-readable c =
    let found = c.has_eol.ensures.found c.if-has_eol.true in
    rw c.with_eols.ensures ((eols_conform c.args.settings
    (conforms_wide c.args.settings (here c.args.reader.now) c.requires.readable) (here c.args.reader.now) (omega arith)
    (not_group4 (goal.at.are_by_procedure-requires-then-has_eol-clause-readable c).Else-is_group4) found.0 found.1).0
    c.requires.readable)

pub are_by_procedure-requires-2-clause-readable : goal.are_by_procedure-requires-2-clause-readable
are_by_procedure-requires-2-clause-readable c = body_stands c.args.settings
    (conforms_wide c.args.settings (here c.args.reader.now) c.requires.readable) (here c.args.reader.now) (omega arith)
    (not_group4 (goal.at.are_by_procedure-requires-2-clause-readable c).Else-is_group4)
    (c.has_eol.ensures.none c.if-has_eol.false) c.requires.readable

-- ---- What is counted.
pub returns-then-has_eol-clause-at_most : goal.returns-then-has_eol-clause-at_most
returns-then-has_eol-clause-at_most c = omega (
  arith,
  c.has_eol.ensures.ticks,
  looked_most (here c.args.reader.now),
  c.are_by_procedure-then-has_eol.ensures.at_most,
)

pub returns-clause-at_most : goal.returns-clause-at_most
returns-clause-at_most c = omega (
  arith,
  c.has_eol.ensures.ticks,
  looked_most (here c.args.reader.now),
  c.are_by_procedure-2.ensures.at_most,
)
