use Rattle.fax_encode.proofs.Names.{◌%◌, ◌∙◌, ◌++◌, ap, arith, sym, Bits, chosen_rest}
use Rattle.fax_encode.proofs.Names.{word_of_length}
use Rattle.fax_encode.proofs.ComparedBits.{compared_as, compares_on, if_here, if_not_here, last_compared, moves_on, none_passed}
use Rattle.fax_encode.proofs.ComparedBits.{stops}
use Rattle.fax_encode.proofs.RunsWritten.{rest_few, rest_more}
use Rattle.fax_encode.proofs.procedure.pass_rest.Goals as goal

pub returns-then-pixels-lt64-clause-compares : goal.returns-then-pixels-lt64-clause-compares
returns-then-pixels-lt64-clause-compares c = compared_as (rest_few c.args.color c.args.pixels c.if-pixels-lt64.true
    ∙ sym c.terminating_word.ensures.spells) c.pass_code_word.ensures.compares

pub returns-then-not-pass_code_word-clause-compares : goal.returns-then-not-pass_code_word-clause-compares
returns-then-not-pass_code_word-clause-compares c =
    let last : Bits = word_of_length c.args.color (c.args.pixels % 64) in
    stops last (none_passed (chosen_rest c.args.color c.args.pixels) c.args.reader.now)
    (rest_more c.args.color c.args.pixels c.if-pixels-lt64.false
    ∙ ap (λ (b : Bits). b ++ last) (sym c.makeup_word.ensures.spells))
    c.pass_code_word-2.ensures.compares c.if-not-pass_code_word.true

pub returns-clause-compares : goal.returns-clause-compares
returns-clause-compares c =
    let last : Bits = word_of_length c.args.color (c.args.pixels % 64) in
    last_compared (compares_on (none_passed (chosen_rest c.args.color c.args.pixels) c.args.reader.now)
    (rest_more c.args.color c.args.pixels c.if-pixels-lt64.false
    ∙ ap (λ (b : Bits). b ++ last) (sym c.makeup_word.ensures.spells))
    c.pass_code_word-2.ensures.compares c.if-not-pass_code_word.false) (sym c.terminating_word-2.ensures.spells)
    c.pass_code_word-3.ensures.compares

pub returns-then-not-pass_code_word-clause-ticks : goal.returns-then-not-pass_code_word-clause-ticks
returns-then-not-pass_code_word-clause-ticks c =
    omega (arith, c.pass_code_word-2.ensures.ticks, if_not_here c.if-not-pass_code_word.true)

pub returns-clause-ticks : goal.returns-clause-ticks
returns-clause-ticks c = omega (
  arith,
  c.pass_code_word-2.ensures.ticks,
  if_here c.if-not-pass_code_word.false,
  moves_on c.pass_code_word-2.ensures.compares,
  c.pass_code_word-3.ensures.ticks,
  moves_on c.pass_code_word-3.ensures.compares,
)
