use Rattle.std.proofs.Common.{Ok, ◌∙◌, ◌+◌, ap, zero-add}
use Rattle.std.proofs.lemmas.Result.{err_from_is_err_and}
use Rattle.hayro_ccitt.specs.Answers.{meaning_after}
use Rattle.hayro_ccitt.specs.Rows.{pixels}
use Rattle.fax_callers.specs.Counting.{Tally, black_in_row, black_in, in_64_bits}
use Rattle.fax_callers.specs.Readings.{reading_of}
use Rattle.fax_callers.proofs.RunsCounted.{counts_all}
use Rattle.fax_callers.proofs.black_pixels.count_black.Goals as goal

pub returns-clause-counted : goal.returns-clause-counted
returns-clause-counted c =
    let rows = (reading_of c.args.settings c.args.order c.args.«data».now).rows in
    c.black.ensures ∙ c.in_ok-decode_once.ensures.front.all
    ∙ ap (λ (t : Tally). meaning_after (λ black places. in_64_bits (black + black_in_row (pixels t.columns places))) t.black rows)
    c.new-sink.ensures ∙ c.steps_on_rows.ensures c.args.settings.columns (λ black row. in_64_bits (black + black_in_row row)) 0
    rows c.in_ok-decode_once.ensures.front.widths ∙ counts_all 0 rows ∙ ap in_64_bits (zero-add (black_in rows))

pub returns-in_err-decode_once-clause-closed : goal.returns-in_err-decode_once-clause-closed
returns-in_err-decode_once-clause-closed c = λ rows count is.
    let answer = err_from_is_err_and c.from_residual.result c.from_residual.ensures.1 in
    rw (answer.1, answer.2) (λ fault. let never = (c.in_err-decode_once.ensures.pictures.closed rows count is fault).0 in cc)

pub returns-clause-closed : goal.returns-clause-closed
returns-clause-closed c = λ rows count is.
    ap Ok
    (returns-clause-counted c ∙ ap (λ rows. in_64_bits (black_in rows))
    ((c.in_ok-decode_once.ensures.pictures.closed rows count is).1))

pub returns-in_err-decode_once-clause-limited : goal.returns-in_err-decode_once-clause-limited
returns-in_err-decode_once-clause-limited c = λ rows is.
    let answer = err_from_is_err_and c.from_residual.result c.from_residual.ensures.1 in
    rw (answer.1, answer.2) (λ fault. let never = (c.in_err-decode_once.ensures.pictures.limited rows is fault).0 in cc)

pub returns-clause-limited : goal.returns-clause-limited
returns-clause-limited c = λ rows is.
    ap Ok (returns-clause-counted c ∙ ap (λ rows. in_64_bits (black_in rows))
    ((c.in_ok-decode_once.ensures.pictures.limited rows is).1))
