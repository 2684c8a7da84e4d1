use Rattle.std.proofs.Common.{refl, [], ap, ◌∙◌}
use Rattle.std.proofs.lemmas.Result.{err_from_is_err_and}
use Rattle.hayro_ccitt.specs.Answers.{meaning_after}
use Rattle.hayro_ccitt.specs.Bits.{bits_of}
use Rattle.fax_encode.specs.Packed.{Bitmap, packed, with_packed_row}
use Rattle.fax_callers.specs.Readings.{reading_of}
use Rattle.fax_callers.proofs.strip.strip_to_bitmap.Goals as goal

pub returns-clause-packed : goal.returns-clause-packed
returns-clause-packed c =
    let rows = (reading_of c.args.settings c.args.order c.args.«data».now).rows in
    ap bits_of c.into_bytes.ensures ∙ c.in_ok-decode_once.ensures.front.all
    ∙ ap (λ (b : Bitmap). meaning_after (with_packed_row b.columns) (bits_of b.bytes) rows) c.new-sink.ensures
    ∙ c.rows_are_packed.ensures c.args.settings.columns [] rows c.in_ok-decode_once.ensures.front.widths

pub returns-in_err-decode_once-clause-closed : goal.returns-in_err-decode_once-clause-closed
returns-in_err-decode_once-clause-closed c = λ rows count is.
    let answer = err_from_is_err_and c.from_residual.result c.from_residual.ensures.1 in
    rw (answer.1, answer.2) (λ fault. let never = (c.in_err-decode_once.ensures.pictures.closed rows count is fault).0 in cc)

pub returns-clause-closed : goal.returns-clause-closed
returns-clause-closed c =
    λ rows count is. (refl, returns-clause-packed c ∙ ap packed (c.in_ok-decode_once.ensures.pictures.closed rows count is).1)

pub returns-in_err-decode_once-clause-limited : goal.returns-in_err-decode_once-clause-limited
returns-in_err-decode_once-clause-limited c = λ rows is.
    let answer = err_from_is_err_and c.from_residual.result c.from_residual.ensures.1 in
    rw (answer.1, answer.2) (λ fault. let never = (c.in_err-decode_once.ensures.pictures.limited rows is fault).0 in cc)

pub returns-clause-limited : goal.returns-clause-limited
returns-clause-limited c = λ rows is. (
  refl,
  returns-clause-packed c
      ∙ ap packed (c.in_ok-decode_once.ensures.pictures.limited rows is).1,
)
