-- What reading costs.
use Rattle.std.specs.Prelude.{ℕ, ◌+◌, ◌≡◌, ◌≤◌, List, length}
use Rattle.paid_cursor.specs.Places.{Place}
use Rattle.pdf_read.specs.declared.image.FaxData.{FaxData}
use Rattle.pdf_read.specs.declared.image.FaxData.TheVariants.{InFile, Own}
use Rattle.pdf_read.specs.declared.image.FaxImage.{FaxImage}

-- Steps may have been paid, and bytes passed.
abbrev pub Uses : Place → Place → Type 0
Uses old new = (new.bytes ≡ old.bytes) × (new.left ≤ old.left)

-- A step was paid for each item that a list grew by: its lengths are given.
abbrev pub Grows : Place → ℕ → Place → ℕ → Type 0
Grows old before new after = (new.left + after ≤ old.left + before) × (new.bytes ≡ old.bytes) × (new.left ≤ old.left)

-- How many steps are left, how many items, objects, bytes and images are kept, the fax images in the order of the pages, and the
-- bytes of the file.
pub record Held : Type 0 where
  pub left : ℕ
  pub kept : ℕ
  pub images : List FaxImage
  pub file : List ℕ

-- A step was paid for each thing more that is kept.
abbrev pub Spends : Held → Held → Type 0
Spends old new = (new.left + new.kept ≤ old.left + old.kept) × (new.left ≤ old.left)

-- The data of an image is within a file of so many bytes, or a step was paid for each of its bytes. The steps that are left
-- before and after are given.
abbrev pub IsPaidData : ℕ → ℕ → ℕ → FaxData → Type 0
IsPaidData size before after (InFile span) = (span.start ≤ span.end) × (span.end ≤ size)
IsPaidData size before after (Own bytes) = after + length bytes.items ≤ before
