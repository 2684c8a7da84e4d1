-- What a bitmap shows is read again.
use Rattle.fax_encode.proofs.Names.{◌≡◌, ℕ, zero, suc, ◌+◌, ◌*◌, ◌/◌, ◌≤◌, true, false, List, [], ◌∷◌, length, drop, map, refl}
use Rattle.fax_encode.proofs.Names.{sym, ap, ◌∙◌, arith, All, Ok, div-mul-le_self, length-drop, length-map, All-head, All-tail}
use Rattle.fax_encode.proofs.Names.{All-cons, All-nil, Row, AreChanges, changes, chosen_t6, chosen_t4, filled_up, rows_of}
use Rattle.fax_encode.proofs.Names.{BitmapRoundTripT6, BitmapRoundTripT4, bytes_of_row, rows_shown, shown, AreRows}
use Rattle.fax_encode.proofs.RoundTrip.{round_trip_t6, round_trip_t4}
use Rattle.fax_encode.proofs.ScannedRows.{length-row, pixels_of_row, lawful_row}

-- rows that are shown are as wide as it says
widths_shown : (columns n : ℕ) (bytes : List ℕ) → n * bytes_of_row columns ≤ length bytes
    → All (λ row. length row ≡ columns) (rows_shown columns n bytes)
widths_shown columns zero bytes room = All-nil (λ row. length row ≡ columns)
widths_shown columns (suc n) bytes room =
    let w : ℕ = bytes_of_row columns in
    let sum : suc n * w ≡ n * w + w = omega arith in
    All-cons (λ row. length row ≡ columns) _ (rows_shown columns n (drop w bytes)) (length-row columns bytes (omega arith))
    (widths_shown columns n (drop w bytes) (omega (arith, length-drop w bytes)))

-- rows of a width are those of their changes
rows_of-changes : (columns : ℕ) (rows : List Row) → All (λ row. length row ≡ columns) rows
    → rows_of columns (map changes rows) ≡ rows
rows_of-changes columns [] wide = refl
rows_of-changes columns (row ∷ rows) wide =
    ap (λ (r : Row). r ∷ rows_of columns (map changes rows))
    (pixels_of_row columns row (All-head (λ row. length row ≡ columns) row rows wide))
    ∙ ap (λ (l : List Row). row ∷ l) (rows_of-changes columns rows (All-tail (λ row. length row ≡ columns) row rows wide))

-- which are valid
AreRows-changes : (columns : ℕ) (rows : List Row) → All (λ row. length row ≡ columns) rows → AreRows columns (map changes rows)
AreRows-changes columns [] wide = All-nil (AreChanges columns)
AreRows-changes columns (row ∷ rows) wide = All-cons (AreChanges columns) (changes row) (map changes rows)
    (lawful_row columns row (All-head (λ row. length row ≡ columns) row rows wide))
    (AreRows-changes columns rows (All-tail (λ row. length row ≡ columns) row rows wide))

widths : (columns : ℕ) (bitmap : List ℕ) → All (λ row. length row ≡ columns) (shown columns bitmap)
widths columns bitmap =
    widths_shown columns (length bitmap / bytes_of_row columns) bitmap (div-mul-le_self (length bitmap) (bytes_of_row columns))

pub bitmap_round_trip_t6 : BitmapRoundTripT6
bitmap_round_trip_t6 settings columns bitmap bytes wide small to_end group4 e =
    let lists : List (List ℕ) = map changes (shown columns bitmap) in
    let same : rows_of columns lists ≡ shown columns bitmap =
    rows_of-changes columns (shown columns bitmap) (widths columns bitmap) in
    let stand = e ∙ ap (λ (r : List Row). filled_up (chosen_t6 columns settings.rows_are_byte_aligned r)) (sym same) in
    round_trip_t6 settings columns lists bytes wide small (AreRows-changes columns (shown columns bitmap) (widths columns bitmap))
    to_end group4 stand ∙ ap (λ (r : List Row). record { rows = r; outcome = Ok (length bytes); has_eols = false }) same

pub bitmap_round_trip_t4 : BitmapRoundTripT4
bitmap_round_trip_t4 settings columns bitmap bytes wide small some to_end group3 e =
    let lists : List (List ℕ) = map changes (shown columns bitmap) in
    let same : rows_of columns lists ≡ shown columns bitmap =
    rows_of-changes columns (shown columns bitmap) (widths columns bitmap) in
    let stand = e ∙ ap (λ (r : List Row). filled_up (chosen_t4 r)) (sym same) in
    round_trip_t4 settings columns lists bytes wide small (omega (arith, length-map (shown columns bitmap) changes))
    (AreRows-changes columns (shown columns bitmap) (widths columns bitmap)) to_end group3 stand
    ∙ ap (λ (r : List Row). record { rows = r; outcome = Ok (length bytes); has_eols = true }) same
