-- Images without a black pixel.
use Rattle.std.specs.Prelude.{◌≡◌, ◌≢◌, ℕ, ◌<◌, Bool, true, false, List, [], ◌∷◌, length, get_or}
use Rattle.hayro_ccitt.specs.Rows.{Row, changes}

-- the first n rows are white: none has a change (T.4, 4.2.1.1)
abbrev pub AreWhite : List Row → ℕ → Type 0
AreWhite rows n = (k : ℕ) → k < n → changes (get_or rows k []) ≡ []

-- some row has a black pixel, and those before it are white
abbrev pub HasBlackRow : List Row → Type 0
HasBlackRow rows = (n : ℕ) × (n < length rows) × (changes (get_or rows n []) ≢ []) × AreWhite rows n

-- whether a row with these changes is white
abbrev pub is_white_row : List ℕ → Bool
is_white_row [] = true
is_white_row (place ∷ places) = false
