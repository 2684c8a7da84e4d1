-- What a page of a TIFF file is.
use Rattle.std.specs.Prelude.{ℕ, ◌≡◌, ◌+◌, ◌-◌, ◌*◌, ◌%◌, ◌<◌, ◌≤◌, Bool, true, ◌==◌, ◌&&◌, not, nat_le, nat_lt, min, List}
use Rattle.std.specs.Prelude.{length}
use Rattle.std.specs.Prelude.{All, Option, None, Some, if◌then◌else◌}
use Rattle.tiff_read.specs.Directories.{IsDirectoryAt}
use Rattle.tiff_read.specs.Pictures.{layout_of, picture_of}
use Rattle.tiff_read.specs.Texts.{AreTexts}
use Rattle.tiff_read.specs.declared.directory.Directory.{Directory}
use Rattle.tiff_read.specs.declared.layout.Layout.{Layout}
use Rattle.tiff_read.specs.declared.picture.Picture.{Picture}
use Rattle.fax_pages.specs.Pages.{bytes_of}
use Rattle.fax_pages.specs.Tags.{is_dark_first, is_fax_compression, is_inverted_by_tags, order_of_tags, settings_of_tags}
use Rattle.fax_pages.specs.declared.page.Page.{Page}
use Rattle.fax_pages.specs.declared.page.Part.{Part}
use Rattle.fax_pages.specs.declared.page.PartKind.{PartKind}
use Rattle.fax_pages.specs.declared.page.PartKind.TheVariants as kind
use Rattle.fax_pages.specs.declared.refused.Found.{Found}
use Rattle.fax_pages.specs.declared.refused.Found.TheVariants as found
use Rattle.fax_pages.specs.declared.refused.Refusal.{Refusal}
use Rattle.fax_pages.specs.declared.refused.Refusal.TheVariants as refusal
use Rattle.fax_pages.specs.declared.tiff_pages.Sizes.{Sizes}

-- whether a number is one of columns or rows: from 1 to 2^32 - 1
abbrev pub is_size : ℕ → Bool
is_size number = nat_lt 0 number && nat_le number 4294967295

-- why a picture isn't decoded: it is no fax data, or of several bits a pixel, or has no size
abbrev pub why_refused : Picture → Option Refusal
why_refused picture =
    if not (is_fax_compression picture.compression) then Some (refusal.NotFax picture.compression)
    else (if not (picture.bits_per_sample == 1 && picture.samples_per_pixel == 1) then Some refusal.SeveralBits
    else (if is_size picture.columns && is_size picture.rows then None else Some refusal.NoSize))

-- whether the parts of a layout have a size, and tiles are whole bytes wide
abbrev pub has_parts : Layout → Bool
has_parts layout =
    not (layout.is_tiled && not (layout.part_columns % 8 == 0)) && is_size layout.part_columns && is_size layout.part_rows

-- how many columns and rows a picture and its parts have
abbrev pub sizes : Picture → Layout → Sizes
sizes picture layout = record {
  columns = picture.columns;
  rows = picture.rows;
  part_columns = layout.part_columns;
  part_rows = layout.part_rows;
}

-- why a picture isn't decoded that is laid out so, or not at all
abbrev pub why_undecoded : Picture → Option Layout → Option Refusal
why_undecoded picture None = Some refusal.NoParts
why_undecoded picture (Some layout) = if has_parts layout then None else Some refusal.TileSize

-- the first of two reasons
abbrev pub first_of : Option Refusal → Option Refusal → Option Refusal
first_of None other = other
first_of (Some why) other = Some why

-- why the page of a directory isn't decoded
abbrev pub refusal_by : List ℕ → Directory → Option Refusal
refusal_by bytes directory =
    first_of (why_refused (picture_of bytes directory)) (why_undecoded (picture_of bytes directory) (layout_of bytes directory))

-- A strip or tile of a picture with these tags, in a file of so many bytes: it begins within the picture, has as many rows as
-- each, but none below the picture, lies in the file, and is encoded as the tags say.
pub record LiesIn (picture : Picture) (sizes : Sizes) (size : ℕ) (part : Part) : Type 0 where
  pub left : part.left < sizes.columns
  pub top : part.top < sizes.rows
  pub bytes : (part.start ≤ part.end) × (part.end ≤ size)
  pub settings : part.settings ≡ settings_of_tags picture sizes.part_columns (min sizes.part_rows (sizes.rows - part.top))

-- what the parts of a layout are
abbrev pub kind_of : Layout → PartKind
kind_of layout = if layout.is_tiled then kind.Tile else kind.Strip

-- A page of a file of these bytes is as the tags of a directory say.
pub record IsPageOf (bytes : List ℕ) (directory : Directory) (page : Page) : Type 0 where
  pub decoded : refusal_by bytes directory ≡ None
  pub of_file : bytes_of page.bytes ≡ bytes
  pub columns : page.columns ≡ (picture_of bytes directory).columns
  pub rows : page.rows ≡ (picture_of bytes directory).rows
  pub has_height : page.has_height ≡ true
  pub order : page.order ≡ order_of_tags (picture_of bytes directory)
  pub orientation : page.orientation ≡ (picture_of bytes directory).orientation
  pub is_inverted : page.is_inverted
      ≡ is_inverted_by_tags (picture_of bytes directory).photometric (is_dark_first bytes directory)
  pub rows_are_words : page.rows_are_words ≡ ((picture_of bytes directory).compression == 32771)
  pub across : page.resolution.across ≡ (picture_of bytes directory).across
  pub down : page.resolution.down ≡ (picture_of bytes directory).down
  pub unit : page.resolution.unit ≡ (picture_of bytes directory).unit
  pub texts : AreTexts bytes directory page.texts
  pub layout : Layout
  pub laid_out : layout_of bytes directory ≡ Some layout
  pub kind : page.kind ≡ kind_of layout
  pub parts : All (LiesIn (picture_of bytes directory) (sizes (picture_of bytes directory) layout) (length bytes))
      page.parts.items

-- What a file of these bytes has by a directory: its page, or why that isn't decoded.
abbrev pub IsFoundBy : List ℕ → Directory → Found → Type 0
IsFoundBy bytes directory (found.Page page) = IsPageOf bytes directory page
IsFoundBy bytes directory (found.Unread refused) = refusal_by bytes directory ≡ Some refused.why

-- What a file of these bytes has by its directory at an offset.
abbrev pub IsTiffPage : List ℕ → ℕ → Found → Type 0
IsTiffPage bytes at found = (directory : Directory) × IsDirectoryAt bytes at directory × IsFoundBy bytes directory found

-- What the next page costs at least: a step for the directory; of a page 18 for what its tags say, and two for each part.
abbrev pub cost_of : Option Found → ℕ
cost_of None = 1
cost_of (Some (found.Page page)) = 19 + 2 * length page.parts.items
cost_of (Some (found.Unread refused)) = 1
