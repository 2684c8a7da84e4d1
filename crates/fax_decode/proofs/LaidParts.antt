-- The rows of a part as its bytes show them, and parts one after another.
use Rattle.std.proofs.Common.{◌≡◌, ℕ, ◌-◌, ◌*◌, ◌%◌, ◌<◌, false, List, [], ◌∷◌, ◌++◌, length, map, replicate, refl, sym, ap}
use Rattle.std.proofs.Common.{◌∙◌, subst, inl, arith, length-append}
use Rattle.std.proofs.lemmas.List.{append-nil, length-replicate}
use Rattle.std.proofs.lemmas.List.Elements.{All-head, All-tail, All-nil, All-cons}
use Rattle.hayro_ccitt.specs.Bits.{Bits, bits_in, bits_of}
use Rattle.hayro_ccitt.specs.DecodeSettings.{DecodeSettings}
use Rattle.hayro_ccitt.specs.Encodings.{padding}
use Rattle.hayro_ccitt.specs.PlainReading.{plain}
use Rattle.hayro_ccitt.specs.Rows.{HaveWidth, Row}
use Rattle.fax_encode.specs.Chosen.{filled_up}
use Rattle.fax_encode.specs.Packed.{bytes_of_row, packed, shown}
use Rattle.fax_encode.proofs.PackedRows.{packed_is_shown}
use Rattle.fax_pages.specs.declared.page.Page.{Page}
use Rattle.fax_pages.specs.declared.page.Part.{Part}
use Rattle.fax_pictures.specs.Pictures.{LieOver, Picture}
use Rattle.fax_decode.specs.Drawn.{IsDecoded, IsDrawn, data_of, rows_of_part, settings_in}
use Rattle.fax_decode.specs.Parts.{HasReading}
use Rattle.fax_decode.specs.declared.part.PartRows.{PartRows}

-- ---- rows up to whole bytes

length-filled : (columns : ℕ) (row : Row) → length row ≡ columns → length (filled_up row) ≡ 8 * bytes_of_row columns
length-filled columns row wide =
    omega (arith, length-append row (padding (length row)), length-replicate ((8 - length row % 8) % 8) false, wide)

filled_twice : (columns : ℕ) (row : Row) → length row ≡ columns → filled_up (filled_up row) ≡ filled_up row
filled_twice columns row wide =
    let none : (8 - length (filled_up row) % 8) % 8 ≡ 0 = omega (arith, length-filled columns row wide) in
    ap (λ (n : ℕ). filled_up row ++ replicate n false) none ∙ append-nil (filled_up row)

packed_twice : (columns : ℕ) (rows : List Row) → HaveWidth columns rows → packed (map filled_up rows) ≡ packed rows
packed_twice columns [] wide = refl
packed_twice columns (row ∷ rows) wide =
    ap (λ (b : Bits). b ++ packed (map filled_up rows))
    (filled_twice columns row (All-head (λ row. length row ≡ columns) row rows wide))
    ∙ ap (λ (b : Bits). filled_up row ++ b) (packed_twice columns rows (All-tail (λ row. length row ≡ columns) row rows wide))

filled_wide : (columns : ℕ) (rows : List Row) → HaveWidth columns rows → HaveWidth (8 * bytes_of_row columns) (map filled_up rows)
filled_wide columns [] wide = All-nil (λ row. length row ≡ 8 * bytes_of_row columns)
filled_wide columns (row ∷ rows) wide =
    All-cons (λ row. length row ≡ 8 * bytes_of_row columns) (filled_up row) (map filled_up rows)
    (length-filled columns row (All-head (λ row. length row ≡ columns) row rows wide))
    (filled_wide columns rows (All-tail (λ row. length row ≡ columns) row rows wide))

-- the bytes of packed rows, shown by whole bytes
pub shown_filled : (columns width : ℕ) (rows : List Row) (bytes : List ℕ) → 0 < columns → width ≡ bytes_of_row columns
    → HaveWidth columns rows → bits_of bytes ≡ packed rows → shown (8 * width) bytes ≡ map filled_up rows
shown_filled columns width rows bytes some is wide e =
    let all : HaveWidth (8 * width) (map filled_up rows) =
    subst (λ (n : ℕ). HaveWidth (8 * n) (map filled_up rows)) (sym is) (filled_wide columns rows wide) in
    packed_is_shown (8 * width) (map filled_up rows) bytes (omega (arith, some, is), all)
    (e ∙ sym (packed_twice columns rows wide))

-- ---- a part

-- the rows of a part that is decoded lie over a picture
pub part_drawn : (page : Page) (part : Part) (settings : DecodeSettings) (rows : PartRows) (found bytes : List ℕ)
    (count width : ℕ) (old now new : Picture) → settings ≡ settings_in (length old.rows) part → found ≡ data_of page part
    → count ≡ length old.rows → IsDecoded page count part → width ≡ bytes_of_row settings.columns
    → HasReading settings.columns (plain settings (bits_in page.order found)) rows → bytes ≡ rows.bytes.items → now ≡ old
    → LieOver part.left part.top (shown (8 * width) bytes) now new → IsDrawn page part old new
part_drawn page part settings rows found bytes count width old now new by of all decoded wide reading are same laid =
    let here : IsDecoded page (length old.rows) part = subst (λ (n : ℕ). IsDecoded page n part) all decoded in
    let columns : settings.columns ≡ part.settings.columns = ap (λ (s : DecodeSettings). s.columns) by in
    let some : 0 < settings.columns = omega (arith, columns, here.columns) in
    let read : (plain settings (bits_in page.order found)).rows ≡ rows_of_part page (length old.rows) part =
    ap (λ (s : DecodeSettings). (plain s (bits_in page.order found)).rows) by
    ∙ ap (λ (d : List ℕ). (plain (settings_in (length old.rows) part) (bits_in page.order d)).rows) of in
    let is : shown (8 * width) bytes ≡ map filled_up (rows_of_part page (length old.rows) part) =
    ap (shown (8 * width)) are
    ∙ shown_filled settings.columns width (plain settings (bits_in page.order found)).rows rows.bytes.items some wide
    reading.widths reading.bitmap
    ∙ ap (λ (r : List Row). map filled_up r) read in
    let over : LieOver part.left part.top (shown (8 * width) bytes) old new =
    subst (λ (p : Picture). LieOver part.left part.top (shown (8 * width) bytes) p new) same laid in
    inl (here, subst (λ (r : List Row). LieOver part.left part.top r old new) is over)
