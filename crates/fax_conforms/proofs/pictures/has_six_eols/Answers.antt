use Rattle.hayro_ccitt.proofs.Names.{◌≡◌, ℕ, refl, subst, arith, here, Bits, ap, ◌∙◌, after_eol}
use Rattle.fax_conforms.specs.Conforming.{EolsStand, TaggedEolStands}
use Rattle.fax_conforms.proofs.WordsPaid.{tagged_eol_paid, tagged_eol_alone, no_tag_without_eol, tag_short}
use Rattle.hayro_ccitt.proofs.Work.EolsPassed.{looked_most}
use Rattle.hayro_ccitt.specs.Ticks.{looked}
use Rattle.fax_conforms.proofs.EolsHere.{one_eol_left, no_eol_left, none_left}
use Rattle.fax_conforms.proofs.Padded.{iff_on}
use Rattle.fax_conforms.proofs.pictures.has_six_eols.Goals as goal

pub returns-in_default-clause-stands : goal.returns-in_default-clause-stands
returns-in_default-clause-stands c = (
  λ t. absurd cc,
  λ stands.
      absurd (no_eol_left c.args.encoding 6 (here c.args.reader.now) (omega arith) c.in_default.ensures.none stands),
)

pub eols-init : goal.eols-init
eols-init c = record {
  stands = one_eol_left c.args.encoding 6 (here c.args.reader.now) (here c.in-Some.next) (omega arith) c.in-Some.ensures.found;
  few = omega arith;
  counts = omega (arith, c.after_tagged_eol.ensures.counts);
  some = λ none. none (here c.in-Some.next) c.in-Some.ensures.found;
  one = λ rest stands no_eol. (
    tagged_eol_alone c.args.encoding (here c.args.reader.now) (here c.in-Some.next) rest c.in-Some.ensures.found stands,
    c.after_tagged_eol.ensures.at_most,
  );
  paid = omega (
    arith,
    c.after_tagged_eol.ensures.at_most,
    tagged_eol_paid c.args.encoding (here c.args.reader.now) (here c.in-Some.next) c.in-Some.ensures.found,
  );
}

pub returns-in-None-clause-stands : goal.returns-in-None-clause-stands
returns-in-None-clause-stands c = (
  λ t. absurd cc,
  λ stands.
      absurd (no_eol_left c.args.encoding c.eols.left (here c.eols.next) c.eols-test.true c.in-None.ensures.none
      (c.eols.invariant.stands.0 stands)),
)

pub eols-preserved : goal.eols-preserved
eols-preserved c = record {
  stands = iff_on c.eols.invariant.stands (one_eol_left c.args.encoding c.eols.left (here c.eols.next) _
      c.eols-test.true c.in-Some-after_tagged_eol.ensures.found);
  few = omega (arith, c.eols.invariant.few);
  counts = omega (arith, c.eols.invariant.counts, c.after_tagged_eol-in-eols.ensures.counts);
  some = c.eols.invariant.some;
  one = λ rest stands no_eol. absurd (no_tag_without_eol c.args.encoding rest _ no_eol
      (subst (λ (x : Bits). TaggedEolStands c.args.encoding x (here c.in-Some-after_tagged_eol.after))
      (c.eols.invariant.one rest stands no_eol).0 c.in-Some-after_tagged_eol.ensures.found));
  paid = omega (
    arith,
    c.eols.invariant.paid,
    c.after_tagged_eol-in-eols.ensures.at_most,
    tagged_eol_paid c.args.encoding (here c.eols.next) (here c.in-Some-after_tagged_eol.after)
        c.in-Some-after_tagged_eol.ensures.found,
  );
}

pub returns-clause-stands : goal.returns-clause-stands
returns-clause-stands c = (
  λ t. c.eols.invariant.stands.1 (let none : 0 ≡ c.eols.left = omega (arith, c.eols-test.false) in
      subst (λ (n : ℕ). EolsStand c.args.encoding n (here c.eols.next)) none (none_left c.args.encoding (here c.eols.next))),
  λ stands. refl,
)

pub returns-in_default-clause-one : goal.returns-in_default-clause-one
returns-in_default-clause-one c = λ rest stands no_eol. absurd (c.in_default.ensures.none rest stands)

pub returns-in_default-clause-at_most : goal.returns-in_default-clause-at_most
returns-in_default-clause-at_most c = omega (
  arith,
  c.after_tagged_eol.ensures.at_most,
  looked_most (here c.args.reader.now),
  tag_short c.args.encoding,
)

pub returns-in-None-clause-none : goal.returns-in-None-clause-none
returns-in-None-clause-none c = λ none. absurd (c.eols.invariant.some none)

pub returns-in-None-clause-one : goal.returns-in-None-clause-one
returns-in-None-clause-one c = λ rest stands no_eol.
    let at = c.eols.invariant.one rest stands no_eol in
    omega (arith, at.1, c.after_tagged_eol-in-eols.ensures.no_eol (ap (after_eol 0) at.0 ∙ no_eol), ap looked at.0)

pub returns-in-None-clause-at_most : goal.returns-in-None-clause-at_most
returns-in-None-clause-at_most c = omega (
  arith,
  c.eols.invariant.paid,
  c.after_tagged_eol-in-eols.ensures.at_most,
  looked_most (here c.eols.next),
  tag_short c.args.encoding,
)

pub returns-clause-none : goal.returns-clause-none
returns-clause-none c = λ none. absurd (c.eols.invariant.some none)

pub returns-clause-one : goal.returns-clause-one
returns-clause-one c = λ rest stands no_eol. let at = c.eols.invariant.one rest stands no_eol in omega (arith, at.1)
