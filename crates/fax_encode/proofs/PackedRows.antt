-- What a bitmap's sink means after the rows of lists.
use Rattle.fax_encode.proofs.Names.{PackedIsShown, bytes_of_row, shown, length-bits_of, padding, arith, drop, length, take, ◌%◌}
use Rattle.fax_encode.proofs.Names.{◌*◌, ◌-◌, ◌<◌, ◌≤◌, take-append_seam, length-append, length-replicate, All-head, All-tail}
use Rattle.fax_encode.proofs.Names.{◌≡◌, ◌↔◌, ℕ, Result, Err, false, List, [], ◌∷◌, ◌++◌, sym, ap, ◌∙◌, append_assoc, append-nil}
use Rattle.fax_encode.proofs.Names.{fold, Bits, bits_of, Row, meaning_after, over_rows, filled_up, rows_of, packed}
use Rattle.fax_encode.proofs.Names.{with_packed_row, Bitmap, RowsArePacked, AreRows}
use Rattle.fax_encode.proofs.RoundTrip.{widths_of}
use Rattle.fax_encode.proofs.ScannedRows.{shown-none, shown-row}
use Rattle.fax_encode.proofs.WordBytes.{bits_of-parts, front_same, length-first}

-- rows are packed one after the other
packs_all : (bits : Bits) (rows : List Row) → fold (λ before row. before ++ filled_up row) bits rows ≡ bits ++ packed rows
packs_all bits [] = sym (append-nil bits)
packs_all bits (row ∷ rows) = packs_all (bits ++ filled_up row) rows ∙ append_assoc bits (filled_up row) (packed rows)

-- and so are those of the changes that a sink accepts
pub rows_are_packed : RowsArePacked
rows_are_packed columns bits rows have =
    over_rows columns (λ before row. before ++ filled_up row) bits rows have ∙ packs_all bits rows

-- a bitmap that began empty
pub packed_from : (columns : ℕ) (lists : List (List ℕ)) (empty : Bitmap) (now : Bits) → AreRows columns lists
    → empty ≡ record { bytes = []; columns = columns; has_refused = false } → now ≡ meaning_after (with_packed_row empty.columns)
    (bits_of empty.bytes) (rows_of columns lists) → now ≡ packed (rows_of columns lists)
packed_from columns lists empty now are is e =
    e ∙ ap (λ (b : Bitmap). meaning_after (with_packed_row b.columns) (bits_of b.bytes) (rows_of columns lists)) is
    ∙ rows_are_packed columns [] (rows_of columns lists) (widths_of columns lists are)

-- A bitmap of packed rows shows them.
pub packed_is_shown : PackedIsShown
packed_is_shown columns [] bitmap are e =
    shown-none columns bitmap (omega (arith, are.0, ap length e, length-bits_of bitmap))
packed_is_shown columns (row ∷ rows) bitmap are e =
    let w : ℕ = bytes_of_row columns in
    let some : 0 < columns = are.0 in
    let wide : length row ≡ columns = All-head (λ row. length row ≡ columns) row rows are.1 in
    let more : Bits = padding (length row) in
    let filled : length (row ++ more) ≡ 8 * w =
    omega (arith, length-append row more, length-replicate ((8 - length row % 8) % 8) false) in
    let within : w ≤ length bitmap =
    omega (arith, ap length e, length-bits_of bitmap, length-append (row ++ more) (packed rows)) in
    let below : bits_of (drop w bitmap) ≡ packed rows = front_same (bits_of (take w bitmap)) (bits_of (drop w bitmap))
    (row ++ more) (packed rows) (sym (bits_of-parts w bitmap) ∙ e) (length-first w bitmap within ∙ sym filled) in
    let first : take columns (bits_of bitmap) ≡ row = ap (take columns) (e ∙ append_assoc row more (packed rows))
    ∙ ap (λ (n : ℕ). take n (row ++ (more ++ packed rows))) (sym wide) ∙ take-append_seam row (more ++ packed rows) in
    shown-row columns bitmap (omega arith) within
    ∙ ap (λ (r : Row). r ∷ shown columns (drop w bitmap)) first ∙ ap (λ (l : List Row). row ∷ l)
    (packed_is_shown columns rows (drop w bitmap) (some, All-tail (λ row. length row ≡ columns) row rows are.1) below)

-- The refusals are the same whatever is asked for.
pub same_refusals : {A B E : Type 0} (error : E) (refusal : ℕ → E) (Is : ℕ → Type 0) → ((k : ℕ) → ◌≡◌ {A = Result A E} (Err error)
    (Err (refusal k)) ↔ Is k) → (k : ℕ) → ◌≡◌ {A = Result B E} (Err error) (Err (refusal k)) ↔ Is k
same_refusals error refusal Is refused k = (
  λ is. (refused k).0 (let same : error ≡ refusal k = cc in ap Err same),
  λ is. let before = (refused k).1 is in let same : error ≡ refusal k = cc in ap Err same,
)
