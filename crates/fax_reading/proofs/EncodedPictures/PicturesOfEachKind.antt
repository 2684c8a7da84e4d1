-- Pictures of every kind: closed, and ended by the limit of rows.
use Rattle.fax_reading.proofs.Names.{ℕ, Ok, sym, ap, ◌∙◌, Reading, IsClosedPicture, IsLimitedPicture, ReadsClosedPictures}
use Rattle.fax_reading.proofs.Names.{ReadsLimitedPictures}
use Rattle.fax_reading.proofs.EncodedPictures.PicturesT4.{closed_picture_t4, limited_picture_t4}
use Rattle.fax_reading.proofs.EncodedPictures.{PicturesT4.limited_rows_t4, PicturesT6.closed_picture_t6}
use Rattle.fax_reading.proofs.EncodedPictures.{PicturesT6.limited_rows_t6}

-- the law
pub closed_pictures : ReadsClosedPictures
closed_pictures settings rows count stream are whole (IsClosedPicture.by_eofb bits begins counted) =
    let e = closed_picture_t6 settings rows bits stream are whole begins in
    (ap (λ (a : Reading). a.rows) e, ap (λ (a : Reading). a.outcome) e ∙ ap (λ (n : ℕ). Ok n) (sym counted))
closed_pictures settings rows count stream are whole (IsClosedPicture.by_rtc bits after begins counted) =
    let e = closed_picture_t4 settings rows bits after stream are begins in
    (ap (λ (a : Reading). a.rows) e, ap (λ (a : Reading). a.outcome) e ∙ ap (λ (n : ℕ). Ok n) (sym counted))

-- the law
pub limited_pictures : ReadsLimitedPictures
limited_pictures settings rows stream are whole (IsLimitedPicture.of_t6 bits begins) =
    limited_rows_t6 settings rows bits stream are whole begins
limited_pictures settings rows stream are whole (IsLimitedPicture.of_t4 bits begins) =
    limited_rows_t4 settings rows bits stream are whole begins
limited_pictures settings rows stream are whole (IsLimitedPicture.of_t4_with_eols bits begins) =
    limited_picture_t4 settings rows bits stream are begins
