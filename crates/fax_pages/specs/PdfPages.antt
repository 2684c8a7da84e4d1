-- What a page of a PDF file is: a fax image.
use Rattle.std.specs.Prelude.{ℕ, ◌≡◌, ◌+◌, ◌≤◌, ◌⊎◌, false, ◌==◌, ◌&&◌, ◌||◌, not, if◌then◌else◌, min}
use Rattle.std.specs.Prelude.{List, [], ◌∷◌, length, slice_get, Option, None, Some, IsNone}
use Rattle.fax_bits.specs.declared.bit_reader.BitOrder.TheVariants.{HighestFirst}
use Rattle.pdf_read.specs.declared.image.FaxImage.{FaxImage}
use Rattle.fax_pages.specs.Keys.{columns_shown, is_inverted_by_keys, settings_of_keys}
use Rattle.fax_pages.specs.Pages.{bytes_of}
use Rattle.fax_pages.specs.declared.page.Page.{Page}
use Rattle.fax_pages.specs.declared.page.PageBytes.{PageBytes}
use Rattle.fax_pages.specs.declared.page.PageBytes.TheVariants.{File, Decoded}
use Rattle.fax_pages.specs.declared.page.PartKind.TheVariants.{Stream}
use Rattle.fax_pages.specs.declared.refused.Found.{Found}
use Rattle.fax_pages.specs.declared.refused.Found.TheVariants as found
use Rattle.fax_pages.specs.declared.refused.Refusal.{Refusal}
use Rattle.fax_pages.specs.declared.refused.Refusal.TheVariants as refusal
use Rattle.fax_pages.specs.declared.refused.RefusedPage.{RefusedPage}

-- The fax images of a file in the order of its pages, how many of them were given, and how many steps are left.
pub record Images : Type 0 where
  pub images : List FaxImage
  pub given : ℕ
  pub left : ℕ

-- How many rows an image has: Height, or if it doesn't say so, at most Rows.
abbrev pub rows_of_image : FaxImage → ℕ
rows_of_image image = if image.height == 0 then image.parameters.rows else image.height

-- Why an image isn't decoded, by what its dictionary says: it has no columns, or nothing says how many rows it has, or it has
-- several bits a pixel. A mask has one (ISO 32000-1, 8.9.6.2).
abbrev pub refusal_of : FaxImage → Option Refusal
refusal_of image =
    if image.parameters.columns == 0 || rows_of_image image == 0 then Some refusal.NoSize
    else (if not image.is_mask && not (image.bits_per_component == 1) then Some refusal.SeveralBits else None)

-- the number of an image, before which so many were given: four bytes have room for it, or it is the highest one
abbrev pub number_of_image : ℕ → ℕ
number_of_image given = min (given + 1) 4294967295

-- A page is an image, before which so many were given, as the keys of the image say: one part with the bytes before
-- CCITTFaxDecode.
pub record IsPageOfImage (image : FaxImage) (given : ℕ) (page : Page) : Type 0 where
  pub number : (page.number ≡ image.page) × (page.image ≡ number_of_image given)
  pub kind : page.kind ≡ Stream
  pub columns : page.columns ≡ columns_shown image.parameters.columns image.width
  pub rows : (page.rows ≡ rows_of_image image) × (page.has_height ≡ not (image.height == 0))
  pub order : page.order ≡ HighestFirst
  pub as_it_lies : (page.orientation ≡ 1) × (page.rows_are_words ≡ false)
  pub is_inverted : page.is_inverted ≡ is_inverted_by_keys image.parameters.black_is_1 image.is_inverted image.is_zero_lighter
  pub start : ℕ
  pub end : ℕ
  pub within : (start ≤ end) × (end ≤ length (bytes_of page.bytes))
  pub only : page.parts.items ≡ record {
    start = start;
    end = end;
    is_cut = false;
    left = 0;
    top = 0;
    settings = settings_of_keys image.parameters image.height;
  } ∷ []

-- An image isn't decoded: its dictionary says why, or its filters.
pub record IsRefusedImage (image : FaxImage) (given : ℕ) (refused : RefusedPage) : Type 0 where
  pub number : (refused.number ≡ image.page) × (refused.image ≡ number_of_image given)
  pub why : (refusal_of image ≡ Some refused.why) ⊎ (refused.why ≡ refusal.Filter)

-- that an image, before which so many were given, isn't decoded, and why
abbrev pub refused_as : FaxImage → ℕ → Refusal → Found
refused_as image given why = found.Unread (record { number = image.page; image = number_of_image given; why = why })

-- What is found of an image, before which so many were given.
abbrev pub IsFoundImage : FaxImage → ℕ → Found → Type 0
IsFoundImage image given (found.Page page) = IsNone (refusal_of image) × IsPageOfImage image given page
IsFoundImage image given (found.Unread refused) = IsRefusedImage image given refused

-- The next image is found, and nothing only if all were given.
abbrev pub IsNextImage : Images → Images → Option Found → Type 0
IsNextImage old new None = (length old.images ≤ old.given) × (new.given ≡ old.given)
IsNextImage old new (Some found) =
    (image : FaxImage) × (slice_get old.images old.given ≡ Some image) × IsFoundImage image old.given found
    × (new.given ≡ old.given + 1)

-- How many bytes of its own a page has.
abbrev pub own_bytes : PageBytes → ℕ
own_bytes (File bytes) = 0
own_bytes (Decoded bytes) = length bytes.items

-- What the next image costs at least: a step for each byte that its filters were undone to.
abbrev pub cost_of_image : Option Found → ℕ
cost_of_image None = 0
cost_of_image (Some (found.Page page)) = own_bytes page.bytes
cost_of_image (Some (found.Unread refused)) = 0
