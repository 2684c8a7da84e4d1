-- Raw fax data as a page.
use Rattle.std.specs.Prelude.{ℕ, ◌≡◌, false, ◌&&◌, List, [], ◌∷◌, ◌++◌, length, nat_eq, nat_le, if◌then◌else◌, codes}
use Rattle.std.specs.List.{starts_with}
use Rattle.fax_pages.specs.Pages.{bytes_of}
use Rattle.fax_pages.specs.declared.page.Page.{Page}
use Rattle.fax_pages.specs.declared.page.PartKind.TheVariants.{Stream}
use Rattle.fax_pages.specs.declared.raw.RawForm.{RawForm}

-- what the header of mgetty begins with
abbrev pub digifax_mark : List ℕ
digifax_mark = 0 ∷ codes "PC Research, Inc" ++ 0 ∷ []

-- How many bytes precede the data: mgetty's header has 64 bytes.
abbrev pub header_bytes : List ℕ → ℕ
header_bytes bytes = if nat_le 64 (length bytes) && starts_with nat_eq bytes digifax_mark then 64 else 0

-- A page of these bytes, described so: one part with all of them after the header.
pub record IsRawPage (bytes : List ℕ) (form : RawForm) (page : Page) : Type 0 where
  pub kind : page.kind ≡ Stream
  pub of_file : bytes_of page.bytes ≡ bytes
  pub size : (page.columns ≡ form.settings.columns) × (page.rows ≡ form.settings.rows) × (page.has_height ≡ form.has_height)
  pub order : page.order ≡ form.order
  pub as_it_is : (page.orientation ≡ 1) × (page.is_inverted ≡ false) × (page.rows_are_words ≡ false)
  pub only : page.parts.items ≡ record {
    start = header_bytes bytes;
    end = length bytes;
    is_cut = false;
    left = 0;
    top = 0;
    settings = form.settings;
  } ∷ []
