-- The size of a page.
use Rattle.std.specs.Prelude.{ℕ, ◌≡◌, ◌<◌, ◌==◌, if◌then◌else◌, min, length}
use Rattle.std.specs.Int.{div_ceil}
use Rattle.fax_documents.specs.declared.page.Page.{Page}

-- how many rows each strip has, but the last one: those of the settings if they say any, else all
abbrev pub rows_each : Page → ℕ
rows_each page = if page.settings.rows == 0 then page.rows else min page.settings.rows page.rows

-- A page has columns and rows, and as many strips as its rows need.
pub record HasSize (page : Page) : Type 0 where
  pub columns : 0 < page.settings.columns
  pub rows : 0 < page.rows
  pub strips : length page.strips.now ≡ div_ceil page.rows (rows_each page)
