-- A text of others, with each byte of its control characters as an escape.
use Rattle.std.specs.Prelude.{ℕ, ◌/◌, ◌%◌, ◌+◌, List, [], ◌∷◌, ◌++◌, nat_lt, nat_le, ◌==◌, ◌&&◌, ◌||◌, if◌then◌else◌, encode_utf8}

-- the hexadecimal digit of a number below 16
abbrev pub hex_digit : ℕ → ℕ
hex_digit value = if nat_lt value 10 then 48 + value else 87 + value

-- the two hexadecimal digits of a byte
abbrev pub hex_digits : ℕ → List ℕ
hex_digits byte = hex_digit (byte / 16) ∷ hex_digit (byte % 16) ∷ []

-- a byte as `\x` and its digits
abbrev pub byte_escape : ℕ → List ℕ
byte_escape byte = 92 ∷ 120 ∷ hex_digits byte

-- A character as it is shown: control characters (below 32, and 127 to 159) as the escapes of the bytes that encode them.
abbrev pub visible_char : ℕ → List ℕ
visible_char c =
    if nat_lt c 32 || c == 127 then byte_escape c
    else if nat_le 128 c && nat_lt c 160 then byte_escape 194 ++ byte_escape c
    else encode_utf8 c
