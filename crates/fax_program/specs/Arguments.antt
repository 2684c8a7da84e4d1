-- What the arguments mean that the programs have in common.
use Rattle.std.specs.Prelude.{ℕ, Bool, false, ◌&&◌, ◌||◌, List, [], ◌∷◌, length, count_by, nat_lt, nat_le, ◌==◌, Option, Some}
use Rattle.std.specs.Prelude.{None, option_and_then, if◌then◌else◌, codes, bytes_eq}
use Rattle.std.specs.List.{list_all}
use Rattle.std.specs.Char.{is_ascii_digit}
use Rattle.std.specs.Str.Parse.{digits_value}
use Rattle.fax_bits.specs.declared.settings.EncodingMode.{EncodingMode}
use Rattle.fax_bits.specs.declared.settings.EncodingMode.TheVariants.{Group4, Group3_1D, Group3_2D}
use Rattle.fax_bits.specs.declared.bit_reader.BitOrder.{BitOrder}
use Rattle.fax_bits.specs.declared.bit_reader.BitOrder.TheVariants.{HighestFirst, LowestFirst}

-- the encoding that an argument names
abbrev pub mode_of : List ℕ → Option EncodingMode
mode_of arg =
    if bytes_eq arg (codes "g4") then Some Group4
    else if bytes_eq arg (codes "1d") then Some Group3_1D
    else if bytes_eq arg (codes "2d") then Some Group3_2D
    else None

-- one to ten digits
abbrev pub are_digits : List ℕ → Bool
are_digits arg = nat_lt 0 (length arg) && nat_le (length arg) 10 && list_all is_ascii_digit arg

-- the number of 32 bits that an argument of one to ten digits writes
abbrev pub number_of : List ℕ → Option ℕ
number_of arg = if are_digits arg && nat_le (digits_value 10 arg) 4294967295 then Some (digits_value 10 arg) else None

-- how often a letter occurs in an argument
abbrev pub times : ℕ → List ℕ → ℕ
times letter arg = count_by (λ byte. byte == letter) arg

-- a letter occurs in an argument
abbrev pub has_flag : ℕ → List ℕ → Bool
has_flag letter arg = nat_lt 0 (times letter arg)

-- the order of bits that the flags select: with r the lowest bit of each byte first, else the highest
abbrev pub order_with : List ℕ → BitOrder
order_with flags = if has_flag 114 flags then LowestFirst else HighestFirst

-- none of these letters occurs twice in an argument
abbrev pub are_apart : List ℕ → List ℕ → Bool
are_apart letters arg = list_all (λ letter. nat_le (times letter arg) 1) letters

-- an argument is `-`, or one or more of these letters, none of them twice
unfoldable pub are_flags : List ℕ → List ℕ → Bool
are_flags letters arg =
    bytes_eq arg (codes "-")
    || (nat_lt 0 (length arg) && list_all (λ letter. has_flag letter letters) arg && are_apart letters arg)

-- the rest of a computation, where there is a value
infixl 10 ◌>>=◌
abbrev pub ◌>>=◌ : {A B : Type 0} → Option A → (A → Option B) → Option B
o >>= next = option_and_then next o

-- there are arguments, and this is the first of them
abbrev pub is_first_arg : List (List ℕ) → List ℕ → Bool
is_first_arg [] arg = false
is_first_arg (first ∷ args) arg = bytes_eq first arg

-- there is one argument, and it is this
abbrev pub is_only_arg : List (List ℕ) → List ℕ → Bool
is_only_arg (only ∷ []) arg = bytes_eq only arg
is_only_arg _ arg = false
