-- The pages that a list of ranges names.
use Rattle.std.specs.Prelude.{ℕ, Bool, ◌&&◌, ◌||◌, List, length, nat_le, ◌==◌}
use Rattle.std.specs.List.{list_any}
use Rattle.faxconv_lib.specs.declared.pages.PageRange.{PageRange}

-- a page is in a range
abbrev pub has_page : ℕ → PageRange → Bool
has_page page range = nat_le range.first page && nat_le page range.last

-- a page is wanted: it is in one of the ranges, or there are no ranges
abbrev pub is_wanted : ℕ → List PageRange → Bool
is_wanted page ranges = (length ranges == 0) || list_any (has_page page) ranges
