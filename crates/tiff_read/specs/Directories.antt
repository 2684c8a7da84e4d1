-- Where directories lie (TIFF 6.0, section 2, and BigTIFF).
use Rattle.std.specs.Prelude.{ℕ, zero, suc, ◌+◌, ◌-◌, ◌*◌, ◌/◌, ◌≡◌, ◌<◌, ◌≤◌, ◌==◌, ◌&&◌, nat_le, nat_lt, List, [], ◌∷◌, length}
use Rattle.std.specs.Prelude.{get_or, slice_range, Option, None, Some, is_none, is_some, option_and_then, if◌then◌else◌}
use Rattle.std.specs.Option.{option_or, unwrap_or}
use Rattle.tiff_read.specs.Numbers.{count_bytes, entry_bytes, is_big_endian, is_big_tiff, number_at, number_of, offset_bytes}
use Rattle.tiff_read.specs.Payments.{Reading}
use Rattle.tiff_read.specs.Texts.{slot_of, values_of}
use Rattle.tiff_read.specs.Values.{bytes_of_kind}
use Rattle.tiff_read.specs.declared.directory.Values.{Values}
use Rattle.tiff_read.specs.declared.directory.Directory.{Directory}
use Rattle.tiff_read.specs.declared.error.TiffError.{TiffError}
use Rattle.tiff_read.specs.declared.error.TiffError.TheVariants.{NotTiff, Outside, Loop, Spent, OutOfMemory}
use Rattle.tiff_read.specs.declared.file.Entry.{Entry}
use Rattle.tiff_read.specs.declared.file.Table.{Table}

-- where the entries of the directory at an offset begin: after the number of them
abbrev pub entries_start : List ℕ → ℕ → ℕ
entries_start bytes at = at + count_bytes (is_big_tiff bytes)

-- how many entries the file has room for there
abbrev pub room_at : List ℕ → ℕ → ℕ
room_at bytes at = (length bytes - entries_start bytes at) / entry_bytes (is_big_tiff bytes)

-- how many entries are read of so many, if the file says how many: those that are whole
abbrev pub whole_entries : ℕ → Option ℕ → ℕ
whole_entries room None = 0
whole_entries room (Some said) = if nat_le said room then said else room

-- how many entries of the directory at an offset are read
abbrev pub entries_at : List ℕ → ℕ → ℕ
entries_at bytes at = whole_entries (room_at bytes at) (number_at bytes at (count_bytes (is_big_tiff bytes)))

-- the number after so many entries, if the file has them
abbrev pub after_entries : List ℕ → ℕ → Option ℕ → Option ℕ
after_entries bytes at None = None
after_entries bytes at (Some said) =
    if nat_le said (room_at bytes at)
    then number_at bytes (entries_start bytes at + said * entry_bytes (is_big_tiff bytes)) (offset_bytes (is_big_tiff bytes))
    else None

-- where the next directory is, as the one at an offset says it after its entries, if the file doesn't end before
abbrev pub next_at : List ℕ → ℕ → Option ℕ
next_at bytes at = after_entries bytes at (number_at bytes at (count_bytes (is_big_tiff bytes)))

-- the number of the two bytes at a place
abbrev pub short_at : List ℕ → ℕ → ℕ
short_at bytes place = number_of (is_big_endian bytes) (get_or bytes place 0 ∷ get_or bytes (place + 1) 0 ∷ [])

-- the number of the bytes at a place, as many as an offset has
abbrev pub word_at : List ℕ → ℕ → ℕ
word_at bytes place = number_of (is_big_endian bytes) (slice_range bytes place (place + offset_bytes (is_big_tiff bytes)))

-- where the last word of the entry at a place is: after its tag, the type of its values, and how many there are
abbrev pub last_word : List ℕ → ℕ → ℕ
last_word bytes place = place + 4 + offset_bytes (is_big_tiff bytes)

-- where values are that have so many bytes together: in the last word of their entry if they fit, else where that says
abbrev pub values_start : List ℕ → ℕ → ℕ → ℕ
values_start bytes place total =
    if nat_le total (offset_bytes (is_big_tiff bytes)) then last_word bytes place else word_at bytes (last_word bytes place)

-- so many values of a type from a place on; none if there is no such type, or the file lacks a part of them
abbrev pub whole_values : List ℕ → ℕ → ℕ → ℕ → Values
whole_values bytes kind count start = record {
  kind = kind;
  count = if nat_lt 0 (bytes_of_kind kind) && nat_le (start + count * bytes_of_kind kind) (length bytes) then count else 0;
  offset = start;
}

-- the values of the entry at a place, which says of which type they are, and how many
abbrev pub values_at : List ℕ → ℕ → Values
values_at bytes place =
    whole_values bytes (short_at bytes (place + 2)) (word_at bytes (place + 4))
    (values_start bytes place (word_at bytes (place + 4) * bytes_of_kind (short_at bytes (place + 2))))

-- the entry at a place, if the file has it whole
abbrev pub entry_at : List ℕ → ℕ → Option Entry
entry_at bytes place =
    if nat_le (place + entry_bytes (is_big_tiff bytes)) (length bytes)
    then Some (record { tag = short_at bytes place; values = values_at bytes place })
    else None

-- the values of an entry, if it is one of a tag, and the tag is one that is kept
abbrev pub values_if : ℕ → Entry → Option Values
values_if tag entry = if is_some (slot_of tag) && entry.tag == tag then Some entry.values else None

-- the values of the first entry of a tag, among so many entries from a place on
abbrev pub first_values : List ℕ → ℕ → ℕ → ℕ → Option Values
first_values bytes start tag zero = None
first_values bytes start tag (suc count) =
    option_or (first_values bytes start tag count)
    (option_and_then (values_if tag) (entry_at bytes (start + count * entry_bytes (is_big_tiff bytes))))

-- the values of a tag in the directory at an offset, if the tag is one that is kept: of one that occurs twice those of the first
-- entry
abbrev pub tag_values : List ℕ → ℕ → ℕ → Option Values
tag_values bytes at tag = first_values bytes (entries_start bytes at) tag (entries_at bytes at)

-- The table of the directory at an offset: it is cut where the file ends within the directory, which is then the last one.
pub record IsTableAt (bytes : List ℕ) (at : ℕ) (table : Table) : Type 0 where
  pub start : table.start ≡ entries_start bytes at
  pub entries : table.entries ≡ entries_at bytes at
  pub is_cut : table.is_cut ≡ is_none (next_at bytes at)
  pub next : table.next ≡ unwrap_or (next_at bytes at) 0

-- A directory is the one at an offset, within the file: the values of each tag are those that the file says.
pub record IsDirectoryAt (bytes : List ℕ) (at : ℕ) (directory : Directory) : Type 0 where
  pub within : at < length bytes
  pub entries : directory.entries ≡ entries_at bytes at
  pub is_cut : directory.is_cut ≡ is_none (next_at bytes at)
  pub values : (tag : ℕ) → values_of directory tag ≡ tag_values bytes at tag

-- where the next directory is after the one at an offset; 0 after the last one
abbrev pub next_after : List ℕ → ℕ → ℕ
next_after bytes at = if at == 0 then 0 else unwrap_or (next_at bytes at) 0

-- the steps for the next directory: one, and one for each of its entries, if there is one
abbrev pub cost_of_next : Reading → ℕ
cost_of_next reading =
    if reading.next == 0 then 1
    else (if nat_lt reading.next (length reading.bytes) then 1 + entries_at reading.bytes reading.next else 1)

-- No directory is read at an offset of a file of a size for this reason: it is outside; or one was read there before.
abbrev pub IsNotReadAt : ℕ → ℕ → TiffError → Type 0
IsNotReadAt at size Outside = size ≤ at
IsNotReadAt at size Loop = at < size
IsNotReadAt at size Spent = ⊥
IsNotReadAt at size NotTiff = ⊥
IsNotReadAt at size OutOfMemory = ⊥

-- The next directory isn't read for this reason: too few steps are left; it is outside the file; or it is in the file, and was
-- read before.
abbrev pub StopsBy : Reading → TiffError → Type 0
StopsBy reading Spent = reading.left < cost_of_next reading
StopsBy reading Outside = (0 < reading.left) × (0 < reading.next) × (length reading.bytes ≤ reading.next)
StopsBy reading Loop = (0 < reading.left) × (0 < reading.next) × (reading.next < length reading.bytes)
StopsBy reading NotTiff = ⊥
StopsBy reading OutOfMemory = ⊥
