-- What was encoded is read again.
use Rattle.fax_encode.proofs.Names.{chosen_lines_2d, ChosenIsAnEncoding}
use Rattle.fax_encode.proofs.Names.{◌≡◌, ℕ, suc, ◌+◌, ◌-◌, ◌/◌, ◌%◌, ◌^◌, ◌<◌, true, false, List, [], ◌∷◌, ◌++◌, length}
use Rattle.fax_encode.proofs.Names.{replicate, refl, sym, ap, subst, ◌∙◌, arith, inl, append_assoc, Ok, length-append}
use Rattle.fax_encode.proofs.Names.{length-replicate, length-map, All-head, All-tail, All-cons, All-nil, DecodeSettings, Group4}
use Rattle.fax_encode.proofs.Names.{Group3_1D, HighestFirst, Bits, bits_of, HaveWidth, Row, AreChanges, pixels, white_row}
use Rattle.fax_encode.proofs.Names.{zeros_end, eols, all_eols, IsPicture, padding, EncodesRowsWithEols, ClosesWithEols}
use Rattle.fax_encode.proofs.Names.{PictureT6, BeginsWithPictureT6, BeginsWithPictureT4, EncodingMode, AreSettings, eols_here}
use Rattle.fax_encode.proofs.Names.{length-bits_of, bits_are_whole, length-pixels, eols-none, closed_picture_t6}
use Rattle.fax_encode.proofs.Names.{closed_picture_t4, eols_here_one, chosen_t6, chosen_t4, chosen_lines_1d, return_to_control}
use Rattle.fax_encode.proofs.Names.{filled_up, rows_of, AreRows, RoundTripT6, RoundTripT4, ReadToTheEnd}
use Rattle.fax_encode.proofs.ChosenLines.{lines_1d_encode, lines_2d_encode, closes}

-- the law
pub chosen_is_an_encoding : ChosenIsAnEncoding
chosen_is_an_encoding columns rows is = (
  λ aligned. (
    chosen_lines_2d aligned (white_row columns) rows,
    is,
    lines_2d_encode columns aligned (white_row columns) rows (length-replicate columns false) is.1,
    refl,
  ),
  λ some. (
    chosen_lines_1d rows,
    return_to_control,
    some,
    is,
    lines_1d_encode columns (white_row columns) rows is.0 is.1,
    closes,
    refl,
  ),
)

-- valid lists are rows of the width
pub widths_of : (columns : ℕ) (lists : List (List ℕ)) → AreRows columns lists → HaveWidth columns (rows_of columns lists)
widths_of columns [] are = All-nil (λ row. length row ≡ columns)
widths_of columns (list ∷ lists) are = All-cons (λ row. length row ≡ columns)
    (pixels columns list) (rows_of columns lists) (length-pixels columns list (All-head (AreChanges columns) list lists are))
    (widths_of columns lists (All-tail (AreChanges columns) list lists are))

-- the bits of the bytes, rounded up
whole_bytes : (bits : Bits) (bytes : List ℕ) → bits_of bytes ≡ filled_up bits → (length bits + 7) / 8 ≡ length bytes
whole_bytes bits bytes e =
    omega (
      arith,
      ap length e,
      length-bits_of bytes,
      length-append bits (padding (length bits)),
      length-replicate ((8 - length bits % 8) % 8) false,
    )

settings_are : (settings : DecodeSettings) (columns : ℕ) → columns < 2 ^ 32 → ReadToTheEnd settings columns → AreSettings settings
settings_are settings columns small to_end =
    record { columns = omega (arith, to_end.columns_are); rows = omega (arith, to_end.no_limit) }

-- data of a chosen T.6 picture begins with it
pub begins_with_chosen_t6 : (settings : DecodeSettings) (columns : ℕ) (lists : List (List ℕ)) (whole : Bits)
    → ReadToTheEnd settings columns → settings.encoding ≡ Group4 → 0 < columns → AreRows columns lists
    → whole ≡ filled_up (chosen_t6 columns settings.rows_are_byte_aligned (rows_of columns lists)) → BeginsWithPictureT6 settings
    (rows_of columns lists) (chosen_t6 columns settings.rows_are_byte_aligned (rows_of columns lists)) whole
begins_with_chosen_t6 settings columns lists whole to_end group4 wide are e =
    let rows : List Row = rows_of columns lists in
    let bits : Bits = chosen_t6 columns settings.rows_are_byte_aligned rows in
    let picture = (chosen_is_an_encoding columns rows (wide, widths_of columns lists are)).0 settings.rows_are_byte_aligned in
    record {
      encoding = group4;
      end_of_block = to_end.end_of_block;
      limit = inl to_end.no_limit;
      picture = subst (λ (n : ℕ). PictureT6 n settings.rows_are_byte_aligned rows bits) (sym to_end.columns_are) picture;
      begins = (padding (length bits), e);
    }

pub round_trip_t6 : RoundTripT6
round_trip_t6 settings columns lists bytes wide small are to_end group4 e =
    let rows : List Row = rows_of columns lists in
    let bits : Bits = chosen_t6 columns settings.rows_are_byte_aligned rows in
    let begins = begins_with_chosen_t6 settings columns lists (bits_of bytes) to_end group4 wide are e in
    closed_picture_t6 settings rows bits (bits_of bytes) (settings_are settings columns small to_end) (bits_are_whole HighestFirst
    bytes) begins ∙ ap (λ (n : ℕ). record { rows = rows; outcome = Ok n; has_eols = false }) (whole_bytes bits bytes e)

-- ---- T.4
pub eols_end : (most n : ℕ) → eols most (replicate n false) ≡ (0, replicate n false)
eols_end most n = eols-none most (replicate n false) (zeros_end 0 n)

-- the EOLs of RTC, and the zeros after them
eols_of_closing : (most n : ℕ)
    → eols (suc (suc (suc (suc (suc (suc most)))))) (return_to_control ++ replicate n false) ≡ (6, replicate n false)
eols_of_closing most n = rw (eols_end most n) refl

closing_eols : (n : ℕ) → (all_eols (return_to_control ++ replicate n false)).1 ≡ replicate n false
closing_eols n =
    let rest : Bits = replicate n false in
    let turns : length (return_to_control ++ rest) ≡ suc (suc (suc (suc (suc (suc (66 + length rest)))))) =
    omega (arith, length-append return_to_control rest) in
    ap (λ (m : ℕ). (eols m (return_to_control ++ rest)).1) turns
    ∙ ap (λ (f : ℕ × Bits). f.1) (eols_of_closing (66 + length rest) n)

-- what follows the lines
abbrev pub after : List Row → Bits
after rows = return_to_control ++ padding (length (chosen_t4 rows))

-- data of a chosen T.4 picture begins with it
pub begins_with_chosen_t4 : (settings : DecodeSettings) (columns : ℕ) (lists : List (List ℕ)) (whole : Bits)
    → ReadToTheEnd settings columns → settings.encoding ≡ Group3_1D → 0 < columns → 0 < length lists → AreRows columns lists
    → whole ≡ filled_up (chosen_t4 (rows_of columns lists)) → BeginsWithPictureT4 settings (rows_of columns lists)
    (chosen_lines_1d (rows_of columns lists)) (after (rows_of columns lists)) whole
begins_with_chosen_t4 settings columns lists whole to_end group3 wide some are e =
    let rows : List Row = rows_of columns lists in
    let lines : Bits = chosen_lines_1d rows in
    let more : Bits = padding (length (chosen_t4 rows)) in
    let widths = widths_of columns lists are in
    record {
      encoding = λ same. cc;
      end_of_block = to_end.end_of_block;
      limit = inl to_end.no_limit;
      some = omega (arith, length-map lists (pixels columns));
      picture = subst (λ (n : ℕ). IsPicture n rows) (sym to_end.columns_are) (wide, widths);
      lines = subst (λ (k : EncodingMode). EncodesRowsWithEols k (white_row settings.columns) rows lines) (sym group3)
          (lines_1d_encode columns (white_row settings.columns) rows wide widths);
      closing = (
        return_to_control,
        subst (λ (k : EncodingMode). ClosesWithEols k 6 return_to_control) (sym group3) closes,
        (more, refl),
      );
      begins = e ∙ append_assoc lines return_to_control more;
    }

pub round_trip_t4 : RoundTripT4
round_trip_t4 settings columns lists bytes wide small some are to_end group3 e =
    let rows : List Row = rows_of columns lists in
    let lines : Bits = chosen_lines_1d rows in
    let bits : Bits = chosen_t4 rows in
    let n : ℕ = (8 - length bits % 8) % 8 in
    let more : Bits = replicate n false in
    let stand : bits_of bytes ≡ lines ++ (return_to_control ++ more) = e ∙ append_assoc lines return_to_control more in
    let begins = begins_with_chosen_t4 settings columns lists (bits_of bytes) to_end group3 wide some are e in
    let left : (eols_here settings (return_to_control ++ more)).1 ≡ more
    = ap (λ (f : ℕ × Bits). f.1) (eols_here_one settings (return_to_control ++ more) group3) ∙ closing_eols n in
    let count : (length (bits_of bytes) - length (eols_here settings (return_to_control ++ more)).1 + 7) / 8 ≡ length bytes =
    ap (λ (m : Bits). (length (bits_of bytes) - length m + 7) / 8) left ∙ (let k : (length (bits_of bytes) - length more + 7) / 8
    ≡ length bytes = omega (arith, length-bits_of bytes, length-replicate n false) in k) in
    closed_picture_t4 settings rows lines (return_to_control ++ more) (bits_of bytes) (settings_are settings columns small to_end)
    begins ∙ ap (λ (n : ℕ). record { rows = rows; outcome = Ok n; has_eols = true }) count
