-- Rows as lists of changes in the caller's memory.
use Rattle.std.specs.Prelude.{ℕ, ◌+◌, List, ◌∷◌, ◌++◌, length, drop, flat_map}
use Rattle.hayro_ccitt.specs.Rows.{Row, changes}
use Rattle.c_rows.specs.Packing.{counted}

-- a row in a list: the number of its changes, and then the changes
abbrev pub listed_row : List ℕ → List ℕ
listed_row row = length row ∷ row

-- rows, one after another
abbrev pub listed : List Row → List ℕ
listed rows = flat_map (λ row. listed_row (changes row)) rows

-- how many numbers the rows occupy, these numbers, the ones after them, the number of changes, and whose memory it is
pub record Listing : Type 0 where
  pub end : ℕ
  pub numbers : List ℕ
  pub rest : List ℕ
  pub changes : ℕ
  pub name : ℕ

-- after one more row
abbrev pub with_listed : Listing → List ℕ → Listing
with_listed before row = record {
  end = before.end + length (listed_row row);
  numbers = before.numbers ++ listed_row row;
  rest = drop (length (listed_row row)) before.rest;
  changes = counted before.changes (length row);
  name = before.name;
}
