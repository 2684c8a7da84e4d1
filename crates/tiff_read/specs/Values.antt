-- The values of a tag (TIFF 6.0, section 2, and BigTIFF).
use Rattle.std.specs.Prelude.{ℕ, ◌+◌, ◌*◌, Bool, false, ◌==◌, ◌&&◌, ◌||◌, nat_le, nat_lt, List}
use Rattle.std.specs.Prelude.{Option, None, Some, option_map, option_and_then, if◌then◌else◌}
use Rattle.tiff_read.specs.Numbers.{number_at}
use Rattle.tiff_read.specs.Texts.{values_of}
use Rattle.tiff_read.specs.declared.directory.Directory.{Directory}
use Rattle.tiff_read.specs.declared.directory.Values.{Values}
use Rattle.tiff_read.specs.declared.values.Ratio.{Ratio}

-- How many bytes a value of a type has, 0 if there is no such type. One: BYTE, ASCII, SBYTE, UNDEFINED. Two: SHORT, SSHORT. Four:
-- LONG, SLONG, FLOAT, IFD. Eight: RATIONAL, SRATIONAL, DOUBLE, LONG8, SLONG8, IFD8.
abbrev pub bytes_of_kind : ℕ → ℕ
bytes_of_kind kind =
    if kind == 1 || kind == 2 || kind == 6 || kind == 7 then 1
    else (if kind == 3 || kind == 8 then 2
    else (if kind == 4 || kind == 9 || kind == 11 || kind == 13 then 4
    else (if kind == 5 || kind == 10 || kind == 12 || kind == 16 || kind == 17 || kind == 18 then 8 else 0)))

-- whether the values of a type are whole numbers: BYTE, SHORT, LONG, IFD, LONG8, IFD8, and those with a sign
abbrev pub is_whole_kind : ℕ → Bool
is_whole_kind kind =
    kind == 1 || kind == 3 || kind == 4 || kind == 6 || kind == 8 || kind == 9 || kind == 13 || kind == 16 || kind == 17
    || kind == 18

-- whether a number is a negative one of a type: its highest bit is set, of SBYTE, SSHORT, SLONG or SLONG8
abbrev pub is_negative : ℕ → ℕ → Bool
is_negative kind number =
    if kind == 6 then nat_le 128 number
    else (if kind == 8 then nat_le 32768 number
    else (if kind == 9 then nat_le 2147483648 number
    else (if kind == 17 then nat_le 9223372036854775808 number else false)))

-- how many bytes of the file come before one of some values
abbrev pub place_of : Values → ℕ → ℕ
place_of values index = values.offset + index * bytes_of_kind values.kind

-- a number that is no negative one of a type
abbrev pub unless_negative : ℕ → ℕ → Option ℕ
unless_negative kind number = if is_negative kind number then None else Some number

-- one of some values, if there are so many, and it is a whole number that isn't negative
abbrev pub number_among : List ℕ → Values → ℕ → Option ℕ
number_among bytes values index =
    if nat_lt index values.count && is_whole_kind values.kind
    then option_and_then (unless_negative values.kind) (number_at bytes (place_of values index) (bytes_of_kind values.kind))
    else None

-- one of the numbers of a tag
abbrev pub number_of_tag : List ℕ → Directory → ℕ → ℕ → Option ℕ
number_of_tag bytes directory tag index = option_and_then (λ values. number_among bytes values index) (values_of directory tag)

-- the ratio of two numbers of four bytes at a place
abbrev pub ratio_at : List ℕ → ℕ → Option Ratio
ratio_at bytes place =
    option_and_then (λ above. option_map (λ below. record { above = above; below = below }) (number_at bytes (place + 4) 4))
    (number_at bytes place 4)

-- one of some values as a ratio: of type RATIONAL, or a whole number over 1
abbrev pub ratio_among : List ℕ → Values → ℕ → Option Ratio
ratio_among bytes values index =
    if values.kind == 5 then (if nat_lt index values.count then ratio_at bytes (place_of values index) else None)
    else option_map (λ above. record { above = above; below = 1 }) (number_among bytes values index)

-- one of the ratios of a tag
abbrev pub ratio_of_tag : List ℕ → Directory → ℕ → ℕ → Option Ratio
ratio_of_tag bytes directory tag index = option_and_then (λ values. ratio_among bytes values index) (values_of directory tag)
