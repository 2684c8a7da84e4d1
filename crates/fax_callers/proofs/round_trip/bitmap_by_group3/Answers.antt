use Rattle.fax_encode.proofs.Names.{◌<◌, ℕ, List, length, map, refl, ap, ◌∙◌, arith, inl, inr, cases_eq, length-map}
use Rattle.fax_encode.proofs.Names.{err_from_is_err_and, bits_of, IsClosedPicture}
use Rattle.fax_encode.proofs.PackedRows.{same_refusals}
use Rattle.fax_encode.proofs.RoundTrip.{begins_with_chosen_t4}
use Rattle.fax_callers.proofs.round_trip.bitmap_by_group3.Goals as goal

pub returns-clause-packed : goal.returns-clause-packed
returns-clause-packed c =
    let columns : ℕ = c.args.columns in
    let lists : List (List ℕ) = map (λ row. row.items) c.args.rows.now in
    let wide : 0 < columns = elim (cases_eq columns 0)
    [ inl none ↦ absurd (let refused = c.in_ok-encoded.ensures.no_columns.1 none in cc) | inr some ↦ omega arith ] in
    let some : 0 < length lists = elim (cases_eq (length c.args.rows.now) 0) [
      | inl none ↦ absurd (let refused = c.in_ok-encoded.ensures.no_rows.1 (wide, none) in cc)
      | inr some ↦ omega (arith, length-map c.args.rows.now (λ row. row.items))
    ] in
    let are = c.in_ok-encoded.ensures.rows in
    let stand = ap bits_of c.as_slice.ensures.value ∙ c.in_ok-encoded.ensures.encoded in
    let packed = rw c.settings_to_the_end-settings.ensures at c.bitmap_of.ensures.packed in
    packed lists _ are (IsClosedPicture.by_rtc _ _ (begins_with_chosen_t4 _ columns lists _
    (record { columns_are = refl; end_of_block = refl; no_limit = refl }) refl wide some are stand) refl)

pub returns-in_err-encoded-clause-not_a_row : goal.returns-in_err-encoded-clause-not_a_row
returns-in_err-encoded-clause-not_a_row c =
    let answer = err_from_is_err_and c.from_residual.result c.from_residual.ensures.1 in
    rw (answer.1, answer.2) (same_refusals _ _ _ c.in_err-encoded.ensures.not_a_row)
