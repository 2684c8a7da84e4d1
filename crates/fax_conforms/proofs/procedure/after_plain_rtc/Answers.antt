use Rattle.hayro_ccitt.proofs.Names.{◌∙◌, arith, here, Bits, after_eol, ap, refl, subst}
use Rattle.hayro_ccitt.proofs.Work.EolsPassed.{looked_most}
use Rattle.hayro_ccitt.specs.Ticks.{looked}
use Rattle.fax_conforms.specs.Conforming.{TaggedEolStands}
use Rattle.fax_conforms.proofs.EndsLooked.{eol_looks, rtc_looks}
use Rattle.fax_conforms.proofs.Padded.{iff_on}
use Rattle.fax_conforms.proofs.ProcedureEnds.{rtc_begins, no_rtc, one_tagged_eol, no_tagged_eol, no_eols_left}
use Rattle.fax_conforms.proofs.WordsPaid.{no_tag_without_eol, tag_short, tagged_eol_paid}
use Rattle.fax_conforms.proofs.procedure.after_plain_rtc.Goals as goal

pub returns-in_default-clause-none : goal.returns-in_default-clause-none
returns-in_default-clause-none c = λ rest stands.
    no_rtc c.args.encoding (here c.args.reader.now) rest c.in_default.ensures.none stands

pub returns-in_default-clause-looks : goal.returns-in_default-clause-looks
returns-in_default-clause-looks c = record {
  counts = c.after_tagged_eol.ensures.counts;
  no_eol = c.after_tagged_eol.ensures.no_eol;
  none = λ none. c.after_tagged_eol.ensures.at_most;
  one = λ rest stands none. absurd (c.in_default.ensures.none rest stands);
  at_most = omega (
    arith,
    c.after_tagged_eol.ensures.at_most,
    looked_most (here c.args.reader.now),
    tag_short c.args.encoding,
  );
}

pub eols-init : goal.eols-init
eols-init c = record {
  stands = λ rest. rtc_begins c.args.encoding (here c.args.reader.now) (here c.in-Some.next) rest c.in-Some.ensures.found;
  same_bits = c.in-Some.ensures.same_bits;
  counts = c.after_tagged_eol.ensures.counts;
  first = (here c.in-Some.next, c.in-Some.ensures.found, λ none. (refl, c.after_tagged_eol.ensures.at_most));
  paid = omega (
    arith,
    c.after_tagged_eol.ensures.at_most,
    tagged_eol_paid c.args.encoding (here c.args.reader.now) (here c.in-Some.next) c.in-Some.ensures.found,
  );
}

pub returns-in-None-clause-none : goal.returns-in-None-clause-none
returns-in-None-clause-none c = λ rest stands.
    no_tagged_eol c.args.encoding c.eols.left (here c.eols.next) rest c.eols-test.true c.in-None.ensures.none
    ((c.eols.invariant.stands rest).0 stands)

pub returns-in-None-clause-looks : goal.returns-in-None-clause-looks
returns-in-None-clause-looks c =
    let first = c.eols.invariant.first in
    eol_looks c.args.encoding (here c.args.reader.now) first.0 _ _ first.1
    (omega (arith, c.eols.invariant.counts, c.after_plain_tagged_eol.ensures.counts))
    (λ none. let at = first.2 none in omega (
      arith,
      at.1,
      c.after_plain_tagged_eol.ensures.no_eol (ap (after_eol 0) at.0 ∙ none),
      ap looked at.0,
    )) (omega (
      arith,
      c.eols.invariant.paid,
      c.after_plain_tagged_eol.ensures.at_most,
      looked_most (here c.eols.next),
      tag_short c.args.encoding,
    ))

pub eols-preserved : goal.eols-preserved
eols-preserved c =
    let first = c.eols.invariant.first in
    let after : Bits = here c.in-Some-after_plain_tagged_eol.after in
    let tagged : TaggedEolStands c.args.encoding (here c.eols.next) after =
    (0, c.in-Some-after_plain_tagged_eol.ensures.found) in
    record {
      stands = λ rest. iff_on (c.eols.invariant.stands rest) (one_tagged_eol c.args.encoding c.eols.left (here c.eols.next) _ rest
          c.eols-test.true c.in-Some-after_plain_tagged_eol.ensures.found);
      same_bits = c.in-Some-after_plain_tagged_eol.ensures.same_bits ∙ c.eols.invariant.same_bits;
      counts = omega (arith, c.eols.invariant.counts, c.after_plain_tagged_eol.ensures.counts);
      first = (
        first.0,
        first.1,
        λ none. absurd (no_tag_without_eol c.args.encoding first.0 after none
            (subst (λ (x : Bits). TaggedEolStands c.args.encoding x after) (first.2 none).0 tagged)),
      );
      paid = omega (
        arith,
        c.eols.invariant.paid,
        c.after_plain_tagged_eol.ensures.at_most,
        tagged_eol_paid c.args.encoding (here c.eols.next) after tagged,
      );
    }

pub returns-clause-found : goal.returns-clause-found
returns-clause-found c = λ rest. iff_on (c.eols.invariant.stands rest)
    (no_eols_left c.args.encoding c.eols.left (here c.eols.next) rest (omega (arith, c.eols-test.false)))

pub returns-clause-looks : goal.returns-clause-looks
returns-clause-looks c = rtc_looks c.args.encoding (here c.args.reader.now) (here c.eols.next) _ _
    ((iff_on (c.eols.invariant.stands (here c.eols.next))
    (no_eols_left c.args.encoding c.eols.left (here c.eols.next) (here c.eols.next) (omega (arith, c.eols-test.false)))).1 refl)
    c.eols.invariant.counts (omega (arith, c.eols.invariant.paid))
