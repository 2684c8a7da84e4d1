-- What is chosen by settings with the effort `Shortest` has the fewest bits.
use Rattle.fax_encode.proofs.Names.{◌≡◌, ℕ, zero, suc, ◌+◌, ◌%◌, ◌<◌, ◌≤◌, Bool, false, true, cond, List, [], ◌∷◌, ◌++◌, length}
use Rattle.fax_encode.proofs.Names.{refl, sym, ap, subst, ◌∙◌, arith, length-append, length-replicate}
use Rattle.fax_encode.proofs.Names.{false≢true, All, All-head, All-tail, EncodingMode, Group4, Group3_1D, Group3_2D}
use Rattle.fax_encode.proofs.Names.{Bits, Row, white_row, EncodesRowsWithEols, IsPicture, eol, tag_of, Effort, Shortest}
use Rattle.fax_encode.proofs.Names.{NoLineIsShorter, NoRunsAreShorter, NoneIsShorter, EncodesAlike, EncodesInKinds}
use Rattle.fax_encode.proofs.Names.{EncodesInKindsWithEols, chosen_end, chosen_eols, chosen_line, chosen_lines}
use Rattle.fax_encode.proofs.Names.{chosen_lines_with_eols, chosen_picture, chosen_with_eols, fill_of, left_after, with_end}
use Rattle.fax_encode.proofs.Names.{shortest_line_2d}
use Rattle.fax_encode.specs.Shortest.{shortest_line_1d}
use Rattle.fax_encode.proofs.FilledEols.{length-eol}
use Rattle.fax_encode.proofs.ChosenBySettings.{shorter_line}
use Rattle.fax_encode.proofs.ShortestLines.{shortest_lines}
use Rattle.fax_encode.proofs.ShortestRows.{shortest_1d_least}
use Rattle.fax_encode.proofs.ShortestPictures.{line_least, lines_least, any_kind, end_least}

-- ---- A line.
-- the law
pub no_line_is_shorter : NoLineIsShorter
no_line_is_shorter left reference row bits same encodes =
    let least = (shortest_lines reference row same).1 bits encodes in
    omega (arith, least, (shorter_line (shortest_line_2d reference row) (shortest_line_1d row)).0)

-- the law
pub no_runs_are_shorter : NoRunsAreShorter
no_runs_are_shorter left reference row bits some encodes = shortest_1d_least row bits some encodes

-- ---- Lines with EOLs.
-- an EOL that begins earlier ends no later
fill_least : (fills : Bool) (at other fill : ℕ) → at ≤ other → (fills ≡ true → (other + 12 + fill) % 8 ≡ 0)
    → at + fill_of fills at ≤ other + fill
fill_least true at other fill le ends = omega (arith, le, ends refl)
fill_least false at other fill le ends = omega (arith, le)

fill_grows : (fills : Bool) (at other : ℕ) → at ≤ other → at + fill_of fills at ≤ other + fill_of fills other
fill_grows true at other le = omega (arith, le)
fill_grows false at other le = omega (arith, le)

eols_least : (encoding : EncodingMode) (columns k at other left : ℕ) (fills : Bool) (reference : Row) (rows : List Row)
    → 0 < columns → at ≤ other → length reference ≡ columns → All (λ row. length row ≡ columns) rows
    → (bits : Bits) → EncodesInKindsWithEols encoding k fills other left reference rows bits
    → at + length (chosen_lines_with_eols Shortest encoding k fills at left reference rows) ≤ other + length bits
eols_least encoding columns k at other left fills reference [] wide le same widths bits is = omega (arith, le, ap length is)
eols_least encoding columns k at other left fills reference (row ∷ rows) wide le same widths bits is =
    let width : length row ≡ columns = All-head (λ row. length row ≡ columns) row rows widths in
    let mine : Bits = chosen_line Shortest encoding left reference row in
    let next : ℕ = left_after Shortest encoding k left reference row in
    let fill : ℕ = fill_of fills at in
    let filled = fill_least fills at other is.0 le is.3 in
    let line = line_least encoding left reference row is.1 (same ∙ sym width) (omega (arith, wide, width)) is.4 is.5 in
    let rest = eols_least encoding columns k (at + 12 + fill + length mine) (other + 12 + is.0 + length is.1) next fills row rows
    wide (omega (arith, filled, line)) width (All-tail (λ row. length row ≡ columns) row rows widths) is.2 is.6 in
    let others : Bits = chosen_lines_with_eols Shortest encoding k fills (at + 12 + fill + length mine) next row rows in
    omega (
      arith,
      rest,
      length-append (eol fill ++ mine) others,
      length-append (eol fill) mine,
      length-append (eol is.0 ++ is.1) is.2,
      length-append (eol is.0) is.1,
      length-eol fill,
      length-eol is.0,
      ap length is.7,
    )

-- EOLs that begin earlier end no later
ends_least : (encoding : EncodingMode) (fills : Bool) (n at other : ℕ) → at ≤ other
    → at + length (chosen_eols encoding fills at n) ≤ other + length (chosen_eols encoding fills other n)
ends_least encoding fills zero at other le = omega (arith, le)
ends_least encoding fills (suc n) at other le =
    let fill : ℕ = fill_of fills at in
    let more : ℕ = fill_of fills other in
    let tag : Bits = tag_of encoding in
    let grown = fill_grows fills at other le in
    let mine : Bits = chosen_eols encoding fills (at + 12 + fill + length tag) n in
    let others : Bits = chosen_eols encoding fills (other + 12 + more + length tag) n in
    omega (
      arith,
      ends_least encoding fills n (at + 12 + fill + length tag) (other + 12 + more + length tag) (omega (arith, grown)),
      length-append (eol fill ++ tag) mine,
      length-append (eol fill) tag,
      length-append (eol more ++ tag) others,
      length-append (eol more) tag,
      length-eol fill,
      length-eol more,
    )

-- any lines are, where lines have no tags and fill is any
any_eols : (encoding : EncodingMode) (k at left : ℕ) (reference : Row) (rows : List Row) (bits : Bits)
    → tag_of encoding ≡ [] → EncodesRowsWithEols encoding reference rows bits
    → EncodesInKindsWithEols encoding k false at left reference rows bits
any_eols encoding k at left reference [] bits none is = is
any_eols encoding k at left reference (row ∷ rows) bits none is = (
  is.0,
  is.1,
  is.2,
  λ e. absurd (false≢true e),
  is.3,
  rw none refl,
  any_eols encoding k (at + 12 + is.0 + length is.1) (left_after Shortest encoding k left reference row) row rows is.2 none is.4,
  is.5,
)

-- ---- Pictures.
module _ (columns k : ℕ) (rows : List Row) (lines : Bits) (is : IsPicture columns rows) where
  abbrev white : Row
  white = white_row columns

  without_eols : (encoding : EncodingMode) (aligned : Bool) → EncodesInKinds encoding k aligned 0 white rows lines
      → length (chosen_lines Shortest encoding k aligned 0 white rows) ≤ length lines
  without_eols encoding aligned encodes =
      lines_least encoding columns k 0 aligned white rows is.0 (length-replicate columns false) is.1 lines encodes

  with_eols : (encoding : EncodingMode) (fills closed : Bool) → EncodesInKindsWithEols encoding k fills 0 0 white rows lines
      → length (chosen_with_eols Shortest encoding k fills closed white rows)
      ≤ length (lines ++ cond closed (chosen_eols encoding fills (length lines) 6) [])
  with_eols encoding fills closed encodes = by_end closed
    where
      mine : Bits
      mine = chosen_lines_with_eols Shortest encoding k fills 0 0 white rows

      least : length mine ≤ length lines
      least = omega (
        arith,
        eols_least encoding columns k 0 0 0 fills white rows is.0 (omega arith) (length-replicate columns false) is.1 lines
            encodes,
      )

      by_end : (ends : Bool) → length (mine ++ cond ends (chosen_eols encoding fills (length mine) 6) [])
          ≤ length (lines ++ cond ends (chosen_eols encoding fills (length lines) 6) [])
      by_end true = omega (
        arith,
        ends_least encoding fills 6 (length mine) (length lines) least,
        length-append mine (chosen_eols encoding fills (length mine) 6),
        length-append lines (chosen_eols encoding fills (length lines) 6),
      )
      by_end false = end_least mine lines [] least

  by : (encoding : EncodingMode) (eols fills aligned closed : Bool) → EncodesAlike encoding eols k fills aligned white rows lines
      → length (chosen_picture Shortest encoding eols k fills aligned closed white rows)
      ≤ length (lines ++ chosen_end encoding eols fills closed (length lines))
  by Group4 eols fills aligned closed encodes =
      end_least (chosen_lines Shortest Group4 k aligned 0 white rows) lines (cond closed (eol 0 ++ eol 0) [])
      (without_eols Group4 aligned (any_kind Group4 k 0 aligned white rows lines refl encodes))
  by Group3_1D true true aligned closed encodes = with_eols Group3_1D true closed encodes
  by Group3_1D true false aligned closed encodes =
      with_eols Group3_1D false closed (any_eols Group3_1D k 0 0 white rows lines refl encodes)
  by Group3_1D false fills aligned closed encodes =
      omega (
        arith,
        without_eols Group3_1D aligned (any_kind Group3_1D k 0 aligned white rows lines refl encodes),
        length-append lines [],
      )
  by Group3_2D true fills aligned closed encodes = with_eols Group3_2D fills closed encodes
  by Group3_2D false fills aligned closed encodes = omega (arith, without_eols Group3_2D aligned encodes, length-append lines [])

-- the law
pub none_is_shorter : NoneIsShorter
none_is_shorter settings columns rows lines is effort encodes =
    subst (λ (e : Effort). length (chosen_picture e settings.encoding settings.end_of_line settings.k settings.eols_end_at_bytes
    settings.rows_are_byte_aligned settings.end_of_block (white_row columns) rows)
    ≤ length (with_end settings lines)) (sym effort)
    (by columns settings.k rows lines is settings.encoding settings.end_of_line settings.eols_end_at_bytes
    settings.rows_are_byte_aligned settings.end_of_block encodes)
