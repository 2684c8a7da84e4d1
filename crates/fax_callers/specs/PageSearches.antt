-- Where a page of Group 3 ends in data that comes in pieces.
use Rattle.std.specs.Prelude.{◌≡◌, ℕ, ◌+◌, ◌<◌, Bool, List, ◌++◌, length, Option, None, Some, if◌then◌else◌}
use Rattle.hayro_ccitt.specs.EncodingMode.{EncodingMode}
use Rattle.hayro_ccitt.specs.EncodingMode.TheVariants.{Group3_1D, Group3_2D}
use Rattle.hayro_ccitt.specs.Bits.{bits_in}
use Rattle.fax_callers.specs.Rtc.{PassesBits, none_seen, rtc_size}
use Rattle.fax_callers.specs.declared.page_search.PageSearch.{PageSearch}

-- no RTC ends within these bytes, which are all that was searched so far
abbrev pub HasPassed : PageSearch → List ℕ → Type 0
HasPassed search front = PassesBits search.two_dimensional none_seen (bits_in search.order front) search.seen

-- whatever was passed before these bytes and follows them, the page ends after this number of them: the first RTC ends within the
-- last one (T.4, 4.1.4 and 4.2.4)
abbrev pub EndsPageWithin : PageSearch → List ℕ → ℕ → Type 0
EndsPageWithin search piece count = (front more : List ℕ) → HasPassed search front
    → rtc_size search.two_dimensional (bits_in search.order (front ++ (piece ++ more))) (length (front ++ (piece ++ more)))
    ≡ length front + count

-- one- or two-dimensional Group 3
abbrev pub kind_of : Bool → EncodingMode
kind_of two_dimensional = if two_dimensional then Group3_2D else Group3_1D

-- The end of a page of this many bytes was found, after as many that were passed before and this number of the next ones; if it
-- wasn't found, it is after all of these.
abbrev pub FoundAt : Option ℕ → ℕ → ℕ → ℕ → Type 0
FoundAt (Some n) front piece count = front + n ≡ count
FoundAt None front piece count = front + piece < count
