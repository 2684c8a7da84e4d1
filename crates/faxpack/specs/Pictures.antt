-- Where the bitmap is in the input: a PBM picture (P4) as Netpbm's page pbm(5) describes it, or rows without a header.
use Rattle.std.specs.Prelude.{ℕ, suc, ◌+◌, ◌-◌, ◌*◌, ◌%◌, Bool, true, false, not, ◌&&◌, ◌||◌, nat_le, nat_lt, ◌==◌, List, []}
use Rattle.std.specs.Prelude.{◌∷◌, length, take, drop, get_or, Option, Some, None, Result, Ok, Err, if◌then◌else◌}
use Rattle.std.specs.Char.{is_ascii_digit}
use Rattle.fax_encode.specs.Packed.{bytes_of_row}
use Rattle.fax_program.specs.Arguments.{number_of, ◌>>=◌}
use Rattle.faxpack.specs.declared.arguments.Size.{Size}
use Rattle.faxpack.specs.declared.picture.PictureFault.{PictureFault}
use Rattle.faxpack.specs.declared.picture.PictureFault.TheVariants.{NoPicture, Cut, NoColumns}
use Rattle.faxpack.specs.declared.picture.Header.{Header}
use Rattle.faxpack.specs.declared.picture.Number.{Number}
use Rattle.faxpack.specs.declared.picture.Place.{Place}

-- ---- the header of a picture

-- white space: blanks, TABs, CRs, LFs, and the characters between TAB and CR in ASCII
abbrev pub is_space : ℕ → Bool
is_space byte = (byte == 32) || (nat_le 9 byte && nat_le byte 13)

-- the number of bytes of white space and of comments that come first, within a comment or not: a comment is `#` and what
-- follows it up to the end of the line
unfoldable pub gap_length : Bool → List ℕ → ℕ
gap_length in_comment [] = 0
gap_length true (byte ∷ bytes) = suc (gap_length (not (byte == 10)) bytes)
gap_length false (byte ∷ bytes) =
    if byte == 35 then suc (gap_length true bytes) else if is_space byte then suc (gap_length false bytes) else 0

-- the number of digits that come first
unfoldable pub digit_count : List ℕ → ℕ
digit_count [] = 0
digit_count (byte ∷ bytes) = if is_ascii_digit byte then suc (digit_count bytes) else 0

-- a number of one to ten digits after white space and comments, and the number of bytes of all of it
abbrev pub number_after : ℕ → List ℕ → Option Number
number_after gap rest = do
  value ← number_of (take (digit_count rest) rest)
  Some (record { value = value; length = gap + digit_count rest })

abbrev pub number_at : List ℕ → Option Number
number_at bytes = number_after (gap_length false bytes) (drop (gap_length false bytes) bytes)

-- a header that ends with a byte of white space
abbrev pub header_with : List ℕ → Number → Number → Option Header
header_with input columns rows =
    if is_space (get_or input (2 + columns.length + rows.length) 0)
    then Some (record { columns = columns.value; rows = rows.value; length = 2 + columns.length + rows.length + 1 })
    else None

-- the width, the height, and a byte of white space, after `P4`
abbrev pub header_after : List ℕ → Option Header
header_after input = do
  columns ← number_at (drop 2 input)
  rows ← number_at (drop (2 + columns.length) input)
  header_with input columns rows

-- the header: `P4`, and what must follow it
abbrev pub header_of : List ℕ → Option Header
header_of input = if (get_or input 0 0 == 80) && (get_or input 1 0 == 52) then header_after input else None

-- ---- the bitmap

-- the rows of a picture of this header: the input has all of them
abbrev pub place_following : Header → ℕ → Result Place PictureFault
place_following header size =
    if header.columns == 0 then Err NoColumns
    else if nat_lt (size - header.length) (header.rows * bytes_of_row header.columns) then Err Cut
    else Ok (record { columns = header.columns; start = header.length; length = header.rows * bytes_of_row header.columns })

-- the rows after a header, if there is one
abbrev pub place_if : Option Header → ℕ → Result Place PictureFault
place_if None size = Err NoPicture
place_if (Some header) size = place_following header size

-- the rows of a PBM picture
abbrev pub pbm_place : List ℕ → Result Place PictureFault
pbm_place input = place_if (header_of input) (length input)

-- the rows of an input of n bytes: all of it, or as many as the limit
abbrev pub rows_place : Size → ℕ → Result Place PictureFault
rows_place size bytes =
    if size.columns == 0 then Err NoColumns
    else if bytes % bytes_of_row size.columns == 0
    then Ok (record {
      columns = size.columns;
      start = 0;
      length = if nat_lt 0 size.rows && nat_lt (size.rows * bytes_of_row size.columns) bytes
          then size.rows * bytes_of_row size.columns else bytes;
    })
    else Err Cut

-- where the bitmap is: of rows of this size, or of a PBM picture
abbrev pub place_of : Option Size → List ℕ → Result Place PictureFault
place_of (Some size) input = rows_place size (length input)
place_of None input = pbm_place input

-- the bytes from an offset on, of this length
abbrev pub bytes_at : Place → List ℕ → List ℕ
bytes_at place input = take place.length (drop place.start input)
