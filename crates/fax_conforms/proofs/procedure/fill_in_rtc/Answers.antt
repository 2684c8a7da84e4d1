use Rattle.hayro_ccitt.proofs.Names.{◌∙◌, arith, here}
use Rattle.fax_conforms.proofs.ClosingsDepart.{fill_in_rtc_at, no_other_eol, one_eol_passed, rtc_passed}
use Rattle.fax_conforms.proofs.EolsHere.{no_eol_left, one_eol_left}
use Rattle.fax_conforms.proofs.Stopped.{if_none}
use Rattle.hayro_ccitt.proofs.Work.EolsPassed.{looked_most}
use Rattle.fax_conforms.proofs.WordsPaid.{tag_short, tagged_eol_paid}
use Rattle.fax_conforms.proofs.procedure.fill_in_rtc.Goals as goal

pub returns-in_default-clause-none : goal.returns-in_default-clause-none
returns-in_default-clause-none c =
    λ six. absurd (no_eol_left c.args.encoding 6 (here c.args.reader.now) (omega arith) c.in_default.ensures.none six)

pub eols-init : goal.eols-init
eols-init c = record {
  passed = c.in-Some.ensures.found;
  few = omega arith;
  stands = (one_eol_left c.args.encoding 6 (here c.args.reader.now) (here c.in-Some.next) (omega arith)
      c.in-Some.ensures.found).0;
  same_bits = c.in-Some.ensures.same_bits;
  counts = c.after_tagged_eol.ensures.counts;
  paid = omega (
    arith,
    c.after_tagged_eol.ensures.at_most,
    tagged_eol_paid c.args.encoding (here c.args.reader.now) (here c.in-Some.next) c.in-Some.ensures.found,
  );
}

pub returns-in-None-clause-found : goal.returns-in-None-clause-found
returns-in-None-clause-found c = fill_in_rtc_at c.args.encoding c.args.reader.now c.eols.next c.eols.others c.filled_eol.result
    c.eols-test.true c.eols.invariant.same_bits c.eols.invariant.passed c.filled_eol.ensures.found

pub returns-in-None-clause-none : goal.returns-in-None-clause-none
returns-in-None-clause-none c = if_none c.filled_eol.result _ _ c.filled_eol.ensures.none (λ unfilled six.
    absurd (no_eol_left c.args.encoding c.eols.others (here c.eols.next) c.eols-test.true
    (no_other_eol c.args.encoding (here c.eols.next) c.in-None.ensures.none unfilled) (c.eols.invariant.stands six)))

pub eols-preserved : goal.eols-preserved
eols-preserved c = record {
  passed = one_eol_passed c.args.encoding c.eols.others (here c.args.reader.now) (here c.eols.next) _ c.eols-test.true
      c.eols.invariant.few c.in-Some-after_plain_tagged_eol.ensures.found c.eols.invariant.passed;
  few = omega (arith, c.eols.invariant.few);
  stands = λ six. (one_eol_left c.args.encoding c.eols.others (here c.eols.next) _ c.eols-test.true
      (0, c.in-Some-after_plain_tagged_eol.ensures.found)).0 (c.eols.invariant.stands six);
  same_bits = c.in-Some-after_plain_tagged_eol.ensures.same_bits ∙ c.eols.invariant.same_bits;
  counts = omega (arith, c.eols.invariant.counts, c.after_plain_tagged_eol.ensures.counts);
  paid = omega (
    arith,
    c.eols.invariant.paid,
    c.after_plain_tagged_eol.ensures.at_most,
    tagged_eol_paid c.args.encoding (here c.eols.next) (here c.in-Some-after_plain_tagged_eol.after)
        (0, c.in-Some-after_plain_tagged_eol.ensures.found),
  );
}

pub returns-clause-none : goal.returns-clause-none
returns-clause-none c = λ six. (
  here c.eols.next,
  rtc_passed c.args.encoding c.eols.others (here c.args.reader.now) (here c.eols.next) (omega (arith, c.eols-test.false))
      c.eols.invariant.passed,
)

pub returns-in_default-clause-at_most : goal.returns-in_default-clause-at_most
returns-in_default-clause-at_most c = omega (
  arith,
  c.after_tagged_eol.ensures.at_most,
  looked_most (here c.args.reader.now),
  tag_short c.args.encoding,
)

pub returns-in-None-clause-at_most : goal.returns-in-None-clause-at_most
returns-in-None-clause-at_most c = omega (
  arith,
  c.eols.invariant.paid,
  c.after_plain_tagged_eol.ensures.at_most,
  c.filled_eol.ensures.at_most,
  looked_most (here c.eols.next),
  tag_short c.args.encoding,
)

pub returns-in-None-clause-counts : goal.returns-in-None-clause-counts
returns-in-None-clause-counts c = omega (
  arith,
  c.eols.invariant.counts,
  c.after_plain_tagged_eol.ensures.counts,
  c.filled_eol.ensures.counts,
)
