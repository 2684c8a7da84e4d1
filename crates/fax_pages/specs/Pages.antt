-- The bytes of a page.
use Rattle.std.specs.Prelude.{ℕ, List}
use Rattle.fax_pages.specs.declared.page.PageBytes.{PageBytes}
use Rattle.fax_pages.specs.declared.page.PageBytes.TheVariants.{File, Decoded}

-- the bytes that the parts of a page are among
abbrev pub bytes_of : PageBytes → List ℕ
bytes_of (File bytes) = bytes.now
bytes_of (Decoded bytes) = bytes.items
