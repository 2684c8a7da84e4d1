-- The pictures of a PBM file (Netpbm, "pbm": P4).
use Rattle.std.specs.Prelude.{ℕ, ◌≡◌, ◌+◌, ◌*◌, ◌/◌, ◌<◌, ◌≤◌, length, slice_range, Option, None, Some}
use Rattle.paid_cursor.specs.Places.{Place, budget}
use Rattle.fax_pages.specs.declared.pbm.PbmPicture.{PbmPicture}

-- A step was paid for each byte passed.
abbrev pub Passes : Place → Place → Type 0
Passes old new = (budget new ≡ budget old) × (new.bytes ≡ old.bytes) × (new.left ≤ old.left) × (old.place ≤ new.place)

-- The next picture's rows, each of whole bytes, are the bytes before the new place; there is none only at the end.
abbrev pub IsNextPicture : Place → Place → Option PbmPicture → Type 0
IsNextPicture old new None = length old.bytes ≤ old.place
IsNextPicture old new (Some picture) =
    (0 < picture.columns) × (0 < picture.rows) × (length picture.bytes.now ≡ (picture.columns + 7) / 8 * picture.rows)
    × (start : ℕ) × (old.place < start) × (start + length picture.bytes.now ≡ new.place)
    × (picture.bytes.now ≡ slice_range old.bytes start new.place)
