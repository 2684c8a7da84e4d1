use Rattle.hayro_ccitt.proofs.Names.{◌++◌, arith, eol, here}
use Rattle.hayro_ccitt.proofs.Work.EolsPassed.{looked_most}
use Rattle.fax_conforms.proofs.EndsLooked.{eol_looks, second_paid, zeros_looked}
use Rattle.fax_conforms.proofs.TwoWords.{no_second_word}
use Rattle.fax_conforms.proofs.ProcedureEnds.{closes_by_rtc, is_group3, no_rtc_closes}
use Rattle.fax_conforms.proofs.WordsPaid.{eol_is_paid}
use Rattle.fax_conforms.proofs.procedure.after_closing.Goals as goal

pub returns-in-Some-clause-none : goal.returns-in-Some-clause-none
returns-in-Some-clause-none c = rw c.in-Group4.is (no_second_word (eol 0) (here c.args.reader.now) (here c.in-Some.after)
    c.after_plain_eol-in-Some.result c.in-Some.ensures.found c.after_plain_eol-in-Some.ensures.none)

pub returns-in-Some-clause-looks : goal.returns-in-Some-clause-looks
returns-in-Some-clause-looks c =
    let first = eol_is_paid (here c.args.reader.now) (here c.in-Some.after) (0, c.in-Some.ensures.found) in
    rw c.in-Group4.is (eol_looks _ (here c.args.reader.now) (here c.in-Some.after) _ _
    (0, c.in-Some.ensures.found)
    (omega (arith, c.after_plain_eol.ensures.ticks, c.after_plain_eol-in-Some.ensures.ticks))
    (λ none. omega (arith, c.after_plain_eol.ensures.ticks, c.after_plain_eol-in-Some.ensures.ticks))
    (omega (
      arith,
      c.after_plain_eol.ensures.ticks,
      c.after_plain_eol-in-Some.ensures.ticks,
      first,
      looked_most (here c.in-Some.after),
    )))

pub returns-in-Some-clause-pays : goal.returns-in-Some-clause-pays
returns-in-Some-clause-pays c =
    let first = eol_is_paid (here c.args.reader.now) (here c.in-Some.after) (0, c.in-Some.ensures.found) in
    second_paid c.after_plain_eol-in-Some.result (here c.in-Some.after) c.after_plain_eol.new.ticks
    _ _ c.after_plain_eol-in-Some.ensures.found
    (omega (arith, c.after_plain_eol-in-Some.ensures.ticks)) (omega (arith, c.after_plain_eol.ensures.ticks, first))

pub returns-in-None-clause-none : goal.returns-in-None-clause-none
returns-in-None-clause-none c = rw c.in-Group4.is (λ rest stands. c.in-None.ensures.none (eol 0 ++ rest) stands)

pub returns-in-None-clause-looks : goal.returns-in-None-clause-looks
returns-in-None-clause-looks c = zeros_looked _ _ _ _ (omega (arith, c.after_plain_eol.ensures.ticks))
    (omega (arith, c.after_plain_eol.ensures.ticks))

pub returns-then-taken-eq0-clause-looks : goal.returns-then-taken-eq0-clause-looks
returns-then-taken-eq0-clause-looks c = zeros_looked _ _ _ _ (omega arith) (omega arith)

pub returns-else-taken-eq0 : goal.returns-else-taken-eq0
returns-else-taken-eq0 c =
    let three = is_group3 c.args.encoding c.in-Group3_1D.is in
    record {
      found = closes_by_rtc c.args.encoding c.args.taken (here c.args.reader.now) c.after_plain_rtc.result three
          (omega (arith, c.if-taken-eq0.false)) c.after_plain_rtc.ensures.found;
      none = no_rtc_closes c.args.encoding c.args.taken (here c.args.reader.now) c.after_plain_rtc.result three
          c.after_plain_rtc.ensures.none;
      same_bits = c.after_plain_rtc.ensures.same_bits;
      looks = c.after_plain_rtc.ensures.looks;
      pays = c.after_plain_rtc.ensures.pays;
    }
