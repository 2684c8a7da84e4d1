-- What reading a file costs.
use Rattle.std.specs.Prelude.{ℕ, ◌+◌, ◌/◌, ◌≡◌, true, List, Option, None, Some, is_some}
use Rattle.paid_cursor.specs.Places.{Place}
use Rattle.tiff_read.specs.Numbers.{is_big_tiff, is_tiff, number_at, offset_bytes}
use Rattle.tiff_read.specs.declared.directory.Directory.{Directory}

-- A file's bytes, a place among them, how many steps are left, and where the next directory is: 0 if none follows.
pub record Reading : Type 0 where
  pub bytes : List ℕ
  pub place : ℕ
  pub left : ℕ
  pub next : ℕ

-- The steps that are left may differ, and where the next directory is.
abbrev pub IsSameFile : Reading → Reading → Type 0
IsSameFile old new = (new.bytes ≡ old.bytes) × (new.place ≡ old.place)

-- The steps that are left may differ.
abbrev pub IsSameReading : Reading → Reading → Type 0
IsSameReading old new = IsSameFile old new × (new.next ≡ old.next)

-- From the first to the second so many steps were paid, and nothing else changed.
abbrev pub Costs : ℕ → Reading → Reading → Type 0
Costs count old new = IsSameReading old new × (new.left + count ≡ old.left)

-- So many steps were paid, and the way to the next directory may have been passed.
abbrev pub Moves : ℕ → Reading → Reading → Type 0
Moves count old new = IsSameFile old new × (new.left + count ≡ old.left)

-- A file is opened where a cursor was, for so many steps.
abbrev pub Opens : ℕ → Place → Reading → Type 0
Opens count source new = (new.bytes ≡ source.bytes) × (new.place ≡ source.place) × (new.left + count ≡ source.left)

-- where the first directory of a file is, as it says after its version; BigTIFF says before that how many bytes its offsets have
abbrev pub first_of : List ℕ → Option ℕ
first_of bytes = number_at bytes (offset_bytes (is_big_tiff bytes)) (offset_bytes (is_big_tiff bytes))

-- The bytes begin as a TIFF file does, and say where its first directory is.
abbrev pub CanOpen : List ℕ → Type 0
CanOpen bytes = (is_tiff bytes ≡ true) × (is_some (first_of bytes) ≡ true)

-- The steps for a list of a bit for each byte of a file.
abbrev pub room_for : ℕ → ℕ
room_for size = size / 8 + 1

-- The steps for the entries of a directory, if one was read.
abbrev pub entries_of : Option Directory → ℕ
entries_of None = 0
entries_of (Some directory) = directory.entries
