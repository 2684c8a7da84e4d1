-- A text as a string of JSON (RFC 8259, 7).
use Rattle.std.specs.Prelude.{ℕ, List, [], ◌∷◌, ◌++◌, nat_lt, nat_le, ◌==◌, ◌&&◌, ◌||◌, if◌then◌else◌}
use Rattle.std.specs.Prelude.{encode_utf8, chars, flat_map, codes}
use Rattle.faxconv_lib.specs.Visible.{hex_digits}

-- A character in a string: a quote and a backslash after a backslash, and control characters (below 32, as JSON asks, and 127 to
-- 159) as `\u00` and two digits.
abbrev pub json_char : ℕ → List ℕ
json_char c =
    if c == 34 || c == 92 then 92 ∷ encode_utf8 c
    else if nat_lt c 32 || (nat_le 127 c && nat_lt c 160) then codes "\\u00" ++ hex_digits c
    else encode_utf8 c

-- a text between quotes
abbrev pub json_text : List ℕ → List ℕ
json_text text = 34 ∷ flat_map json_char (chars text) ++ 34 ∷ []
