-- What a directory says of its picture, and where its parts lie (TIFF 6.0, sections 8, 11 and 15).
use Rattle.std.specs.Prelude.{ℕ, ◌+◌, ◌-◌, ◌*◌, Bool, ◌==◌, ◌&&◌, ◌||◌, not, nat_le, nat_lt, min, List, length}
use Rattle.std.specs.Prelude.{Option, None, Some, option_map, is_some, if◌then◌else◌}
use Rattle.std.specs.Option.{unwrap_or, option_or}
use Rattle.std.specs.Int.{div_ceil}
use Rattle.tiff_read.specs.Texts.{values_of}
use Rattle.tiff_read.specs.Values.{number_among, number_of_tag, ratio_of_tag}
use Rattle.tiff_read.specs.declared.directory.Directory.{Directory}
use Rattle.tiff_read.specs.declared.directory.Values.{Values}
use Rattle.tiff_read.specs.declared.layout.Layout.{Layout}
use Rattle.tiff_read.specs.declared.layout.Part.{Part}
use Rattle.tiff_read.specs.declared.picture.Picture.{Picture}
use Rattle.tiff_read.specs.declared.picture.ResolutionUnit.{ResolutionUnit}
use Rattle.tiff_read.specs.declared.picture.ResolutionUnit.TheVariants as unit

-- the first number of a tag, or another one if there is none
abbrev pub first_or : List ℕ → Directory → ℕ → ℕ → ℕ
first_or bytes directory tag otherwise = unwrap_or (number_of_tag bytes directory tag 0) otherwise

-- an orientation; 1 for a number that is none
abbrev pub orientation_of : ℕ → ℕ
orientation_of number = if nat_le 1 number && nat_le number 8 then number else 1

-- a unit; inches for a number that is none
abbrev pub unit_of : ℕ → ResolutionUnit
unit_of number = if number == 1 then unit.None else (if number == 3 then unit.Centimetre else unit.Inch)

-- what a directory says of its picture; of what it doesn't say, the default
abbrev pub picture_of : List ℕ → Directory → Picture
picture_of bytes directory = record {
  columns = first_or bytes directory 256 0;
  rows = first_or bytes directory 257 0;
  bits_per_sample = first_or bytes directory 258 1;
  samples_per_pixel = first_or bytes directory 277 1;
  compression = first_or bytes directory 259 1;
  photometric = number_of_tag bytes directory 262 0;
  is_low_first = first_or bytes directory 266 1 == 2;
  orientation = orientation_of (first_or bytes directory 274 1);
  t4_options = first_or bytes directory 292 0;
  t6_options = first_or bytes directory 293 0;
  across = ratio_of_tag bytes directory 282 0;
  down = ratio_of_tag bytes directory 283 0;
  unit = unit_of (first_or bytes directory 296 2);
}

-- whether the picture is in tiles: the directory has TileWidth or TileLength
abbrev pub is_tiled : Directory → Bool
is_tiled directory = is_some (values_of directory 322) || is_some (values_of directory 323)

-- how many columns a strip or tile has
abbrev pub part_columns : List ℕ → Directory → ℕ
part_columns bytes directory = if is_tiled directory then first_or bytes directory 322 0 else first_or bytes directory 256 0

-- how many rows a strip has: RowsPerStrip, but no more than the picture; all if that is missing, or 0
abbrev pub rows_of_strip : ℕ → ℕ → ℕ
rows_of_strip said rows = if said == 0 then rows else min said rows

-- how many rows a strip or tile has
abbrev pub part_rows : List ℕ → Directory → ℕ
part_rows bytes directory =
    if is_tiled directory then first_or bytes directory 323 0
    else rows_of_strip (first_or bytes directory 278 4294967295) (first_or bytes directory 257 0)

-- the values of the tag for tiles or for strips; if there are none, those of the other
abbrev pub part_values : Directory → ℕ → ℕ → Option Values
part_values directory of_tiles of_strips =
    if is_tiled directory then option_or (values_of directory of_tiles) (values_of directory of_strips)
    else option_or (values_of directory of_strips) (values_of directory of_tiles)

-- how a picture of so many columns and rows is laid out in parts of so many
abbrev pub laid_out : Directory → ℕ → ℕ → ℕ → ℕ → Values → Layout
laid_out directory columns rows part_columns part_rows offsets = record {
  is_tiled = is_tiled directory;
  part_columns = part_columns;
  part_rows = part_rows;
  across = div_ceil columns part_columns;
  count = min (div_ceil columns part_columns * div_ceil rows part_rows) 18446744073709551615;
  offsets = offsets;
  byte_counts = part_values directory 325 279;
}

-- how the picture of a directory is laid out, if the picture and its parts have columns and rows, and it says where they are
abbrev pub layout_of : List ℕ → Directory → Option Layout
layout_of bytes directory =
    if nat_lt 0 (first_or bytes directory 256 0) && nat_lt 0 (first_or bytes directory 257 0)
    && nat_lt 0 (part_columns bytes directory) && nat_lt 0 (part_rows bytes directory)
    then option_map
    (laid_out directory (first_or bytes directory 256 0) (first_or bytes directory 257 0) (part_columns bytes directory)
    (part_rows bytes directory))
    (part_values directory 324 273)
    else None

-- so many bytes from an offset on, all of them if their number isn't known, cut at the end of a file of a size
abbrev pub cut_at : ℕ → ℕ → ℕ → Part
cut_at start whole size = record {
  start = min start size;
  end = min start size + min whole (size - start);
  is_cut = nat_lt (size - start) whole;
}

-- how many bytes a part has, if the directory says it of some; 0 if it says it of fewer
abbrev pub said_of : List ℕ → Option Values → ℕ → Option ℕ
said_of bytes None index = None
said_of bytes (Some counts) index = if nat_lt 0 counts.count then Some (unwrap_or (number_among bytes counts index) 0) else None

-- how many bytes a part has, if it is said, and isn't 0 of the only strip
abbrev pub count_of_part : List ℕ → Layout → ℕ → Option ℕ
count_of_part bytes layout index =
    if layout.count == 1 && not layout.is_tiled && unwrap_or (said_of bytes layout.byte_counts index) 1 == 0 then None
    else said_of bytes layout.byte_counts index

-- where a part begins, as the directory says it; 0 if it says it of fewer
abbrev pub start_of_part : List ℕ → Layout → ℕ → ℕ
start_of_part bytes layout index = unwrap_or (number_among bytes layout.offsets index) 0

-- the bytes of a part of a layout, up to the end of the file if their number isn't known; none after the last part
abbrev pub part_of : List ℕ → Layout → ℕ → Option Part
part_of bytes layout index =
    if nat_lt index layout.count
    then Some (cut_at (start_of_part bytes layout index)
    (unwrap_or (count_of_part bytes layout index) (length bytes - start_of_part bytes layout index)) (length bytes))
    else None
