-- Data that conform are an encoding of the rows that are read from them.
use Rattle.hayro_ccitt.proofs.Names.{List, sym, subst, inl, inr, Bits, Row, DecodeSettings}
use Rattle.hayro_ccitt.proofs.Names.{IsClosedPicture, IsLimitedPicture}
use Rattle.hayro_ccitt.proofs.EncodedPictures.PicturesOfEachKind.{closed_pictures, limited_pictures}
use Rattle.hayro_ccitt.specs.Bits.{AreWholeBytes}
use Rattle.hayro_ccitt.specs.PlainReading.{plain}
use Rattle.hayro_ccitt.specs.Settings.{AreSettings}
use Rattle.fax_conforms.specs.Conforming.{Conforms, EncodesRowsRead, RoundTrip}

module _ (settings : DecodeSettings) (whole : Bits) (are : AreSettings settings) (bytes : AreWholeBytes whole) where
  encodes_rows_read : Conforms settings whole → EncodesRowsRead settings whole
  encodes_rows_read (rows, inl (count, closed)) =
      let read = closed_pictures settings rows count whole are bytes closed in
      inl (count, read.1, subst (λ (x : List Row). IsClosedPicture settings x count whole) (sym read.0) closed)
  encodes_rows_read (rows, inr limited) =
      let read = limited_pictures settings rows whole are bytes limited in
      inr (subst (λ (x : List Row). IsLimitedPicture settings x whole) (sym read.0) limited)

  conforms_by_rows : EncodesRowsRead settings whole → Conforms settings whole
  conforms_by_rows (inl (count, ends, closed)) = ((plain settings whole).rows, inl (count, closed))
  conforms_by_rows (inr limited) = ((plain settings whole).rows, inr limited)

pub round_trips : RoundTrip
round_trips settings whole are bytes = (encodes_rows_read settings whole are bytes, conforms_by_rows settings whole are bytes)
