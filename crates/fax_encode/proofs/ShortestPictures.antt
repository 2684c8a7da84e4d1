-- Lines with the effort `Shortest` have no more bits than others of the same kinds, and so has the shortest T.6 picture.
use Rattle.fax_encode.proofs.Names.{◌≡◌, ℕ, ◌-◌, ◌%◌, ◌<◌, ◌≤◌, Bool, true, false, cond, List, [], ◌∷◌, ◌++◌, length, take}
use Rattle.fax_encode.proofs.Names.{get_or, refl, sym, ap, subst, ◌∙◌, arith, All, All-head, All-tail, length-append}
use Rattle.fax_encode.proofs.Names.{length-replicate, false≢true, inl, inr}
use Rattle.fax_encode.proofs.Names.{EncodingMode, Group4, Group3_1D, Group3_2D, White, Bits, Row, white_row}
use Rattle.fax_encode.proofs.Names.{EncodesLine, EncodesLine1D, EncodesLine2D, EncodesRows, EncodesInKinds, eol, padding, tag_of}
use Rattle.fax_encode.proofs.Names.{Shortest, chosen_line, chosen_lines, is_two_dimensional, left_after, shortest_line_2d}
use Rattle.fax_encode.proofs.Names.{shortest_lines_2d, ShortestPicturesT6}
use Rattle.fax_encode.specs.Shortest.{shortest_line_1d}
use Rattle.fax_encode.proofs.ChosenBySettings.{chosen_lines_encode}
use Rattle.fax_encode.proofs.ShortestLines.{shortest_lines}
use Rattle.fax_encode.proofs.ShortestRows.{shortest_1d_least}

-- ---- A line.
first_bit : Bits → Bool
first_bit line = get_or line 0 true

-- a line of either kind has no fewer bits than the chosen one of this kind
kind_least : (two one line : Bits) (b : Bool) (reference row : Row)
    → ((bits : Bits) → EncodesLine2D reference row 0 White bits → length two ≤ length bits)
    → ((bits : Bits) → EncodesLine1D White row bits → length one ≤ length bits)
    → EncodesLine Group3_2D reference row line → take 1 line ≡ take 1 (cond b (false ∷ two) (true ∷ one))
    → length (cond b (false ∷ two) (true ∷ one)) ≤ length line
unfolding first_bit
kind_least two one line true reference row least_two least_one is same = elim is.1 [
  | inl of_one ↦ absurd (false≢true (ap first_bit (sym same ∙ ap (take 1) of_one.0)))
  | inr of_two ↦ omega (arith, least_two is.0 of_two.1, ap length of_two.0)
]
kind_least two one line false reference row least_two least_one is same = elim is.1 [
  | inl of_one ↦ omega (arith, least_one is.0 of_one.1, ap length of_one.0)
  | inr of_two ↦ absurd (false≢true (sym (ap first_bit (sym same ∙ ap (take 1) of_two.0))))
]

-- a line with the chosen one's tag has no fewer bits
pub line_least : (encoding : EncodingMode) (left : ℕ) (reference row : Row) (line : Bits) → length reference ≡ length row
    → 0 < length row → EncodesLine encoding reference row line
    → take (length (tag_of encoding)) line ≡ take (length (tag_of encoding)) (chosen_line Shortest encoding left reference row)
    → length (chosen_line Shortest encoding left reference row) ≤ length line
line_least Group4 left reference row line same some is tag = (shortest_lines reference row same).1 line is
line_least Group3_1D left reference row line same some is tag = shortest_1d_least row line some is
line_least Group3_2D left reference row line same some is tag =
    kind_least (shortest_line_2d reference row) (shortest_line_1d row) line (is_two_dimensional Shortest left reference row)
    reference row (shortest_lines reference row same).1 (λ bits encodes. shortest_1d_least row bits some encodes) is tag

-- ---- Lines without EOLs.
-- a line with zeros up to a whole byte if lines are aligned
unfoldable pub up_to_byte : Bool → Bits → Bits
up_to_byte aligned line = line ++ cond aligned (padding (length line)) []

up_to_byte_least : (aligned : Bool) (line other : Bits) → length line ≤ length other
    → length (up_to_byte aligned line) ≤ length (up_to_byte aligned other)
unfolding up_to_byte
up_to_byte_least true line other le =
    omega (
      arith,
      le,
      length-append line (padding (length line)),
      length-append other (padding (length other)),
      length-replicate ((8 - length line % 8) % 8) false,
      length-replicate ((8 - length other % 8) % 8) false,
    )
up_to_byte_least false line other le = omega (arith, le, length-append line [], length-append other [])

pub lines_least : (encoding : EncodingMode) (columns k left : ℕ) (aligned : Bool) (reference : Row) (rows : List Row)
    → 0 < columns → length reference ≡ columns → All (λ row. length row ≡ columns) rows
    → (bits : Bits) → EncodesInKinds encoding k aligned left reference rows bits
    → length (chosen_lines Shortest encoding k aligned left reference rows) ≤ length bits
unfolding up_to_byte
lines_least encoding columns k left aligned reference [] wide same widths bits is = omega arith
lines_least encoding columns k left aligned reference (row ∷ rows) wide same widths bits is =
    let width : length row ≡ columns = All-head (λ row. length row ≡ columns) row rows widths in
    let mine : Bits = chosen_line Shortest encoding left reference row in
    let next : ℕ = left_after Shortest encoding k left reference row in
    let line = line_least encoding left reference row is.0 (same ∙ sym width) (omega (arith, wide, width)) is.2 is.3 in
    let filled = up_to_byte_least aligned mine is.0 line in
    let rest = lines_least encoding columns k next aligned row rows wide width
    (All-tail (λ row. length row ≡ columns) row rows widths) is.1 is.4 in
    omega (
      arith,
      filled,
      rest,
      length-append (up_to_byte aligned mine) (chosen_lines Shortest encoding k aligned next row rows),
      length-append (up_to_byte aligned is.0) is.1,
      ap length is.5,
    )

-- any lines are, where lines have no tags
pub any_kind : (encoding : EncodingMode) (k left : ℕ) (aligned : Bool) (reference : Row) (rows : List Row) (bits : Bits)
    → tag_of encoding ≡ [] → EncodesRows encoding aligned reference rows bits
    → EncodesInKinds encoding k aligned left reference rows bits
any_kind encoding k left aligned reference [] bits none is = is
any_kind encoding k left aligned reference (row ∷ rows) bits none is = (
  is.0,
  is.1,
  is.2,
  rw none refl,
  any_kind encoding k (left_after Shortest encoding k left reference row) aligned row rows is.1 none is.3,
  is.4,
)

-- ---- The shortest T.6 picture.
-- its lines are the chosen ones
shortest_chosen : (k left : ℕ) (aligned : Bool) (reference : Row) (rows : List Row)
    → chosen_lines Shortest Group4 k aligned left reference rows ≡ shortest_lines_2d aligned reference rows
shortest_chosen k left aligned reference [] = refl
shortest_chosen k left aligned reference (row ∷ rows) =
    ap (λ (b : Bits). (shortest_line_2d reference row ++ cond aligned (padding (length
    (shortest_line_2d reference row))) []) ++ b)
    (shortest_chosen k (left_after Shortest Group4 k left reference row) aligned row rows)

-- the same end after fewer bits
pub end_least : (mine other end : Bits) → length mine ≤ length other → length (mine ++ end) ≤ length (other ++ end)
end_least mine other end le = omega (arith, le, length-append mine end, length-append other end)

pub shortest_pictures_t6 : ShortestPicturesT6
shortest_pictures_t6 columns aligned rows is =
    let white : Row = white_row columns in
    let mine : Bits = shortest_lines_2d aligned white rows in
    let chosen = shortest_chosen 1 0 aligned white rows in (
      (
        mine,
        is,
        subst (λ (b : Bits). EncodesRows Group4 aligned white rows b) chosen
            ((chosen_lines_encode Shortest Group4 columns 1 rows is).0 aligned),
        refl,
      ),
      λ bits encodes.
          (let body : Bits = encodes.0 in
          let end : Bits = eol 0 in
          let least = lines_least Group4 columns 1 0 aligned white rows is.0 (length-replicate columns false) is.1 body
          (any_kind Group4 1 0 aligned white rows body refl encodes.2) in
          subst (λ (b : Bits). length (mine ++ eol 0 ++ eol 0) ≤ length b) (sym encodes.3)
          (end_least (mine ++ end) (body ++ end) end (end_least mine body end (omega (arith, least, ap length chosen))))),
    )
