-- A picture that is encoded row by row (T.4, 4.1 and 4.2; T.6, 2.2).
use Rattle.std.specs.Prelude.{◌≡◌, ℕ, ◌+◌, ◌-◌, ◌^◌, min, Bool, false, List, [], ◌∷◌, ◌++◌, length}
use Rattle.fax_bits.specs.Bits.{Bits}
use Rattle.fax_reading.specs.Rows.{Row, white_row}
use Rattle.fax_encode.specs.declared.settings.EncodeSettings.{EncodeSettings}
use Rattle.fax_encode.specs.Settings.{chosen_part, left_after}

-- the rows so far: their lines, and their number, as far as a `usize` counts; what the next line depends on, which is the last
-- row and how many lines may still be two-dimensional; and whether an allocation failed
pub record RowsEncoded : Type 0 where
  pub settings : EncodeSettings
  pub columns : ℕ
  pub lines : Bits
  pub count : ℕ
  pub last : Row
  pub left : ℕ
  pub wants_memory : Bool

-- the settings and the width stay, whatever is added
pub record KeepsSettings (old new : RowsEncoded) : Type 0 where
  pub settings : new.settings ≡ old.settings
  pub columns : new.columns ≡ old.columns

-- none: above the first row is a white one (T.4, 4.2.1.1)
abbrev pub no_rows : EncodeSettings → ℕ → RowsEncoded
no_rows settings columns =
    record {
      settings = settings;
      columns = columns;
      lines = [];
      count = 0;
      last = white_row columns;
      left = 0;
      wants_memory = false;
    }

-- one more
abbrev pub with_row : RowsEncoded → Row → RowsEncoded
with_row rows row = record {
  settings = rows.settings;
  columns = rows.columns;
  lines = rows.lines ++ chosen_part rows.settings (length rows.lines) rows.left rows.last row;
  count = min (rows.count + 1) (2 ^ 64 - 1);
  last = row;
  left = left_after rows.settings.effort rows.settings.encoding rows.settings.k rows.left rows.last row;
  wants_memory = false;
}

-- more, in order
abbrev pub with_rows : RowsEncoded → List Row → RowsEncoded
with_rows rows [] = rows
with_rows rows (row ∷ more) = with_rows (with_row rows row) more
