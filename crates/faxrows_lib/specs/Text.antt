-- Rows and the result as lines of text.
use Rattle.std.specs.Prelude.{ℕ, List, [], ◌∷◌, ◌++◌, flat_map, codes, decimal, Result, Ok, Err}
use Rattle.hayro_ccitt.specs.DecodeError.{DecodeError}
use Rattle.hayro_ccitt.specs.Texts as library

-- a change in a row's line: a space and the number
abbrev pub text_of_change : ℕ → List ℕ
text_of_change change = 32 ∷ decimal change

-- a row's line: `r`, and its changes
abbrev pub line_of_row : List ℕ → List ℕ
line_of_row row = 114 ∷ flat_map text_of_change row ++ 10 ∷ []

-- the rows' lines
abbrev pub lines_of_rows : List (List ℕ) → List ℕ
lines_of_rows rows = flat_map line_of_row rows

-- the last line
abbrev pub line_of_outcome : Result ℕ DecodeError → List ℕ
line_of_outcome (Ok count) = codes "ok " ++ decimal count ++ 10 ∷ []
line_of_outcome (Err fault) = codes "error: " ++ library.text_of fault ++ 10 ∷ []

-- what is written for rows and a result
abbrev pub text_of : List (List ℕ) → Result ℕ DecodeError → List ℕ
text_of rows outcome = lines_of_rows rows ++ line_of_outcome outcome
