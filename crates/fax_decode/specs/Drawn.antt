-- The picture of a page: its parts, each over what those before it made.
use Rattle.std.specs.Prelude.{◌≡◌, ◌⊎◌, ℕ, ◌-◌, ◌*◌, ◌%◌, ◌<◌, ◌≤◌, Bool, false, ◌&&◌, ◌==◌, List, [], ◌∷◌, length, map, min}
use Rattle.std.specs.Prelude.{nat_lt, replicate, slice_range, if◌then◌else◌}
use Rattle.hayro_ccitt.specs.Bits.{BitsFit, bits_in}
use Rattle.hayro_ccitt.specs.DecodeSettings.{DecodeSettings}
use Rattle.hayro_ccitt.specs.PlainReading.{plain}
use Rattle.hayro_ccitt.specs.Rows.{Row, white_row}
use Rattle.fax_encode.specs.Chosen.{filled_up}
use Rattle.fax_encode.specs.Packed.{bytes_of_row}
use Rattle.fax_pages.specs.Pages.{bytes_of}
use Rattle.fax_pages.specs.declared.page.Page.{Page}
use Rattle.fax_pages.specs.declared.page.Part.{Part}
use Rattle.fax_pictures.specs.Pictures.{LieOver, Picture, inverted, most_bytes}
use Rattle.fax_pictures.specs.Turned.{turned}

-- the bytes of a part, as far as its page has them
abbrev pub data_of : Page → Part → List ℕ
data_of page part = slice_range (bytes_of page.bytes) part.start part.end

-- How a part is decoded in a picture of so many rows: leniently, with as many rows as it has, 0 for any number, but none below
-- the picture.
abbrev pub settings_in : ℕ → Part → DecodeSettings
settings_in rows part = record part.settings {
  rows = if part.settings.rows == 0 then rows - part.top else min part.settings.rows (rows - part.top);
  strict = false;
}

-- the rows of a part: those of the plain reading of its data (T.4, 4; T.6, 2)
abbrev pub rows_of_part : Page → ℕ → Part → List Row
rows_of_part page rows part = (plain (settings_in rows part) (bits_in page.order (data_of page part))).rows

-- A part that is decoded in a picture of so many rows: it begins in one of them, at a whole byte, has columns, data that isn't
-- too long, and rows of at most 2^30 bytes, if each has a bit of the data.
pub record IsDecoded (page : Page) (rows : ℕ) (part : Part) : Type 0 where
  pub top : part.top < rows
  pub whole : part.left % 8 ≡ 0
  pub columns : 0 < part.settings.columns
  pub fit : BitsFit (data_of page part)
  pub room : min (8 * length (data_of page part)) (settings_in rows part).rows * bytes_of_row part.settings.columns ≤ most_bytes

-- A part in a picture: its rows, with white pixels after each up to a whole byte, lie over what was there. A part that isn't
-- decoded leaves it as it was.
abbrev pub IsDrawn : Page → Part → Picture → Picture → Type 0
IsDrawn page part old new =
    (IsDecoded page (length old.rows) part
    × LieOver part.left part.top (map filled_up (rows_of_part page (length old.rows) part)) old new)
    ⊎ ((¬ IsDecoded page (length old.rows) part) × (new ≡ old))

-- parts, one after another
abbrev pub AreDrawn : Page → List Part → Picture → Picture → Type 0
AreDrawn page [] old new = new ≡ old
AreDrawn page (part ∷ parts) old new = (now : Picture) × IsDrawn page part old now × AreDrawn page parts now new

-- a white picture
abbrev pub white_picture : ℕ → ℕ → Picture
white_picture columns rows = record { columns = columns; rows = replicate rows (white_row columns) }

-- a picture turned by an orientation, if that is one of 2 to 8 (TIFF 6.0, section 8)
abbrev pub turned_as : ℕ → Picture → Picture
turned_as orientation picture = if nat_lt 1 orientation && nat_lt orientation 9 then turned orientation picture else picture

-- a picture as it is shown: turned by its orientation, and with black and white exchanged if its rows are the negative of it
abbrev pub shown_as : ℕ → Bool → Picture → Picture
shown_as orientation is_inverted picture =
    if is_inverted then inverted (turned_as orientation picture) else turned_as orientation picture
