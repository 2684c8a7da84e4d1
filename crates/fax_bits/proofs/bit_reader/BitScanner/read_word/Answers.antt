use Rattle.fax_bits.proofs.Names.{arith, rules, refl, err_from_is_err_and, false≢true}
use Rattle.fax_bits.proofs.CodeWords.LookedUp.{word_is_cut, word_is_wrong, word_is_here}
use Rattle.fax_bits.proofs.bit_reader.BitScanner.read_word.Goals as goal

pub returns-in_err-consume-clause-word : goal.returns-in_err-consume-clause-word
returns-in_err-consume-clause-word c =
    let cut = word_is_cut c.args.color c.args.self.now c.entry_here-entry.result _ c.from.result c.entry_here-entry.ensures refl
    c.from.ensures (c.in_err-consume.ensures.end.0 refl) in
    grind (arith, err_from_is_err_and)

pub returns-then-run-eq-LOOKUP_INVALID-clause-word : goal.returns-then-run-eq-LOOKUP_INVALID-clause-word
returns-then-run-eq-LOOKUP_INVALID-clause-word c =
    word_is_wrong c.args.color c.args.self.now c.entry_here-entry.result _ c.from.result c.entry_here-entry.ensures refl
    c.from.ensures (λ lt. false≢true (c.in_ok-consume.ensures.end.1 lt)) c.if-run-eq-LOOKUP_INVALID.true

pub returns-then-run-lt64-clause-word : goal.returns-then-run-lt64-clause-word
returns-then-run-lt64-clause-word c =
    let word = word_is_here c.args.color c.args.self.now c.entry_here-entry.result _ c.from.result c.entry_here-entry.ensures refl
    c.from.ensures (λ lt. false≢true (c.in_ok-consume.ensures.end.1 lt)) (omega (arith, c.if-run-lt64.true)) in
    rw c.in_ok-consume.ensures.moved word.read

pub returns-then-run-lt64-clause-ticks : goal.returns-then-run-lt64-clause-ticks
returns-then-run-lt64-clause-ticks c = search rules

pub returns-clause-word : goal.returns-clause-word
returns-clause-word c =
    let word = word_is_here c.args.color c.args.self.now c.entry_here-entry.result _ c.from.result c.entry_here-entry.ensures refl
    c.from.ensures (λ lt. false≢true (c.in_ok-consume.ensures.end.1 lt)) c.if-run-eq-LOOKUP_INVALID.false in
    rw c.in_ok-consume.ensures.moved word.read

pub returns-clause-ticks : goal.returns-clause-ticks
returns-clause-ticks c = search rules

pub returns-in_err-consume-clause-ticks : goal.returns-in_err-consume-clause-ticks
returns-in_err-consume-clause-ticks c = search rules

pub returns-then-run-eq-LOOKUP_INVALID-clause-ticks : goal.returns-then-run-eq-LOOKUP_INVALID-clause-ticks
returns-then-run-eq-LOOKUP_INVALID-clause-ticks c = search rules
