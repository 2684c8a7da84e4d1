-- What a run with packed rows writes, from what decoding returns.
use Rattle.faxrows_lib.proofs.Names.{◌≡◌, false, List, [], length, take, ap, ◌∙◌, All-take, DecodeSettings, meaning_after, Bits}
use Rattle.faxrows_lib.proofs.Names.{bits_of, Held, SinkState, plain, Row, HaveWidth, RowsArePacked, packed, with_packed_row}
use Rattle.faxrows_lib.proofs.Names.{Bitmap}
use Rattle.faxrows_lib.proofs.Names.{Outcome}
use Rattle.faxrows_lib.proofs.Texts.{Takes}

-- the bits of a bitmap that began empty are the packed rows that were accepted
pub sink_bits : (law : RowsArePacked) (settings : DecodeSettings) (bits : Bits) (empty : Bitmap) (after : SinkState Bits)
    (held : Held) (outcome : Outcome) → empty ≡ record { bytes = []; columns = settings.columns; has_refused = false }
    → HaveWidth settings.columns (plain settings bits).rows → Takes (with_packed_row empty.columns) settings bits
    (record { meaning = bits_of empty.bytes; refused = empty.has_refused; refuses = λ row. Unit {0} }) after held outcome
    → after.meaning ≡ packed (take held.taken (plain settings bits).rows)
sink_bits law settings bits empty after held outcome is widths takes =
    let rows : List Row = take held.taken (plain settings bits).rows in
    takes.meaning ∙ ap (λ (b : Bitmap). meaning_after (with_packed_row b.columns) (bits_of b.bytes) rows) is
    ∙ law settings.columns [] rows (All-take (λ row. length row ≡ settings.columns) held.taken (plain settings bits).rows widths)
