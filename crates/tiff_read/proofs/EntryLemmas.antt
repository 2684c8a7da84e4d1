-- The entries of a directory, one after another.
use Rattle.std.proofs.Common.{arith, ◌≡◌, ◌∙◌, ◌<◌, ◌≤◌, ◌+◌, ◌-◌, ◌*◌, ◌^◌, ℕ, List, [], ◌∷◌, get_or, length, min, refl, ap}
use Rattle.std.proofs.Common.{sym, add-one, inl, inr, Bool, Option, None, Some, replicate, option_and_then}
use Rattle.std.proofs.Math.ListN.{length-replicate}
use Rattle.std.specs.Option.{option_or}
use Rattle.std.proofs.lemmas.Bool.{cases_Bool, cases_lt, le-leb, lt-leb}
use Rattle.std.proofs.lemmas.List.{get_or-replicate, get_or_past}
use Rattle.tiff_read.specs.Directories.{entry_at, first_values, short_at, values_at, values_if}
use Rattle.tiff_read.specs.Numbers.{entry_bytes, is_big_endian, is_big_tiff, number_of}
use Rattle.tiff_read.specs.declared.directory.Values.{Values}
use Rattle.tiff_read.specs.declared.file.Entry.{Entry}

-- Where no tag has values, a tag has none.
pub no_values : (slot : Option ℕ) (count : ℕ)
    → option_and_then (λ (s : ℕ). get_or (replicate {A = Option Values} count None) s None) slot ≡ None
no_values None count = refl
no_values (Some s) count = elim (cases_lt s count) [
  | inl within ↦ get_or-replicate count s None None within
  | inr past ↦ get_or_past (replicate count None) s None (omega (arith, past, length-replicate {A = Option Values} count None))
]

-- The number of two bytes that were read one after the other.
pub short_read : (bytes file : List ℕ) (is_big : Bool) (place next number : ℕ) → file ≡ bytes → is_big ≡ is_big_endian bytes
    → next ≡ place + 1 → number ≡ number_of is_big (get_or file place 0 ∷ get_or file next 0 ∷ []) → number ≡ short_at bytes place
short_read bytes file is_big place next number same order follows read = rw (same, order, follows) at read

-- The entry that is whole at a place.
pub entry_at-whole : (bytes : List ℕ) (place tag : ℕ) (values : Values) → place + entry_bytes (is_big_tiff bytes) ≤ length bytes
    → tag ≡ short_at bytes place → values ≡ values_at bytes place
    → Some (record { tag = tag; values = values }) ≡ entry_at bytes place
entry_at-whole bytes place tag values fits tag_is values_is =
    rw (tag_is, values_is, le-leb (place + entry_bytes (is_big_tiff bytes)) (length bytes) fits) refl

-- No entry begins beyond the end of a file.
entry_at-beyond : (bytes : List ℕ) (place : ℕ) → length bytes ≤ place → entry_at bytes place ≡ None
entry_at-beyond bytes place past = elim (cases_Bool (is_big_tiff bytes)) [
  | inl big ↦ rw (big, lt-leb (place + 20) (length bytes) (omega (arith, past))) refl
  | inr small ↦ rw (small, lt-leb (place + 12) (length bytes) (omega (arith, past))) refl
]

-- A place may be counted up to the greatest number.
pub entry_at-counted : (bytes : List ℕ) (place counted : ℕ) → length bytes < 2 ^ 64 → counted ≡ min place (2 ^ 64 - 1)
    → entry_at bytes counted ≡ entry_at bytes place
entry_at-counted bytes place counted few same = elim (cases_lt place (2 ^ 64)) [
  | inl near ↦ ap (entry_at bytes) (omega (arith, near, same))
  | inr far ↦
      entry_at-beyond bytes counted (omega (arith, far, few, same))
      ∙ sym (entry_at-beyond bytes place (omega (arith, far, few)))
]

-- One entry more.
pub first_values-more : (bytes : List ℕ) (start index tag : ℕ) (entry : Option Entry) (before after : Option Values)
    → entry ≡ entry_at bytes (start + index * entry_bytes (is_big_tiff bytes)) → before ≡ first_values bytes start tag index
    → after ≡ option_or before (option_and_then (values_if tag) entry) → after ≡ first_values bytes start tag (index + 1)
first_values-more bytes start index tag entry before after found all one = rw (add-one index, ← all, ← found) one

-- Without another entry the values stay.
pub option_or-none : (values : Option Values) → values ≡ option_or values None
option_or-none None = refl
option_or-none (Some values) = refl
