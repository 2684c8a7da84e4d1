-- Packed rows in the caller's memory.
use Rattle.std.specs.Prelude.{◌≡◌, ℕ, zero, suc, ◌+◌, ◌-◌, ◌*◌, ◌/◌, ◌%◌, ◌==◌, ◌||◌, Bool, false, List, [], ◌∷◌, ◌++◌}
use Rattle.std.specs.Prelude.{length, map, take, drop, replicate, max, min, nat_le, nat_lt, if◌then◌else◌}
use Rattle.hayro_ccitt.specs.Bits.{Bits, bits_of}
use Rattle.hayro_ccitt.specs.Rows.{Row, pixels}
use Rattle.fax_encode.specs.Chosen.{filled_up}
pub use Rattle.fax_encode.specs.Packed.{bytes_of_row, in_black}
use Rattle.c_rows.specs.declared.packed_rows.Layout.{Layout}

-- the bytes from the start of the first of n packed rows to the end of the last
abbrev pub bytes_of_rows : ℕ → ℕ → ℕ → ℕ
bytes_of_rows stride columns zero = 0
bytes_of_rows stride columns (suc n) = n * stride + bytes_of_row columns

-- the layout of rows of this width: a stride of 0 stands for the bytes of a row
abbrev pub layout_with : ℕ → ℕ → Bool → Layout
layout_with columns stride black_is_0 = record {
  stride = if stride == 0 then bytes_of_row columns else stride;
  black_is_0 = black_is_0;
}

-- the layout of rows of this width that follow one another, with 1 for black
abbrev pub together : ℕ → Layout
together columns = record { stride = bytes_of_row columns; black_is_0 = false }

-- the same layout, but rows without columns are a byte apart
abbrev pub spaced : Layout → Layout
spaced layout = record { stride = max layout.stride 1; black_is_0 = layout.black_is_0 }

-- the bits of a packed row: its pixels from the left, and white ones up to a whole byte
abbrev pub packed_row : Bool → Row → Bits
packed_row black_is_0 row = in_black black_is_0 (filled_up row)

-- the bits of each of the first n packed rows of memory
abbrev pub rows_at : ℕ → ℕ → ℕ → List ℕ → List Bits
rows_at stride columns zero memory = []
rows_at stride columns (suc n) memory =
    bits_of (take (bytes_of_row columns) memory) ∷ rows_at stride columns n (drop stride memory)

-- how many packed rows are within this many bytes: the last one needs only its own bytes
abbrev pub rows_within : ℕ → ℕ → ℕ → ℕ
rows_within stride columns bytes =
    if nat_lt bytes (bytes_of_row columns) then 0 else suc ((bytes - bytes_of_row columns) / stride)

-- whether this many bytes end with a packed row, or in what stands between it and the next one
abbrev pub are_whole_rows : ℕ → ℕ → ℕ → Bool
are_whole_rows stride columns bytes = (bytes % stride == 0) || nat_le (bytes_of_row columns) (bytes % stride)

-- the row that a packed row's bits show: its pixels, without the bits that fill its last byte
abbrev pub row_read : Bool → ℕ → Bits → Row
row_read black_is_0 columns bits = in_black black_is_0 (take columns bits)

-- the rows that memory of this layout shows, as many as are within it
abbrev pub rows_read : Layout → ℕ → List ℕ → List Row
rows_read layout columns memory =
    map (row_read layout.black_is_0 columns)
    (rows_at layout.stride columns (rows_within layout.stride columns (length memory)) memory)

-- the bytes of memory outside the first n packed rows: those between them, and all after the last
abbrev pub outside_rows : ℕ → ℕ → ℕ → List ℕ → List ℕ
outside_rows stride columns zero memory = memory
outside_rows stride columns (suc n) memory =
    take (stride - bytes_of_row columns) (drop (bytes_of_row columns) memory)
    ++ outside_rows stride columns n (drop stride memory)

-- the byte of eight white pixels
abbrev pub white_byte : Bool → ℕ
white_byte black_is_0 = if black_is_0 then 255 else 0

-- a sum, saturated at the greatest value of 64 bits
abbrev pub counted : ℕ → ℕ → ℕ
counted count more = min (count + more) 18446744073709551615

-- the layout, the byte at which the next row begins, the bits before it, the bytes from it on, the number of bytes, the number
-- of changes, and whose memory it is
pub record Packing : Type 0 where
  pub layout : Layout
  pub start : ℕ
  pub bits : Bits
  pub rest : List ℕ
  pub size : ℕ
  pub changes : ℕ
  pub name : ℕ

-- what memory means with rows up to the byte `start`, of which those from the byte `written` on are white, and not yet in memory
abbrev pub packing_up_to : Layout → ℕ → ℕ → List ℕ → ℕ → ℕ → Packing
packing_up_to layout start written memory changes name = record {
  layout = layout;
  start = start;
  bits = bits_of (take written memory ++ replicate (start - written) (white_byte layout.black_is_0));
  rest = drop start memory;
  size = length memory;
  changes = changes;
  name = name;
}

-- the bits of a packed row, and of the bytes up to where the next one begins
abbrev pub row_and_gap : Layout → ℕ → Row → List ℕ → Bits
row_and_gap layout columns row memory =
    packed_row layout.black_is_0 row
    ++ bits_of (take (layout.stride - bytes_of_row columns) (drop (bytes_of_row columns) memory))

-- after one more row
abbrev pub with_packed : ℕ → Packing → List ℕ → Packing
with_packed columns before row = record {
  layout = before.layout;
  start = before.start + before.layout.stride;
  bits = before.bits ++ row_and_gap before.layout columns (pixels columns row) before.rest;
  rest = drop before.layout.stride before.rest;
  size = before.size;
  changes = counted before.changes (length row);
  name = before.name;
}

-- ---- How a sink of packed rows goes on

-- it has no rows: the next one begins at the first byte, and none before it is written
pub record HasNoRows (start written changes : ℕ) : Type 0 where
  pub start_is : start ≡ 0
  pub written_is : written ≡ 0
  pub changes_are : changes ≡ 0

-- its layout and its width stay
pub record HasSameShape (old_layout new_layout : Layout) (old_columns new_columns : ℕ) : Type 0 where
  pub layout : new_layout ≡ old_layout
  pub columns : new_columns ≡ old_columns
