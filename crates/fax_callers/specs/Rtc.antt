-- RTC in data, whatever lines precede it: the first six EOLs in a row.
use Rattle.std.specs.Prelude.{◌≡◌, ◌≤◌, ℕ, suc, ◌+◌, ◌-◌, ◌*◌, ◌/◌, Bool, true, false, not, ◌&&◌, nat_le, nat_lt, [], ◌∷◌, ◌++◌}
use Rattle.std.specs.Prelude.{List, length, Option, None, Some, if◌then◌else◌}
use Rattle.hayro_ccitt.specs.BitOrder.{BitOrder}
use Rattle.hayro_ccitt.specs.EncodingMode.{EncodingMode}
use Rattle.hayro_ccitt.specs.EncodingMode.TheVariants.{Group4, Group3_1D, Group3_2D}
use Rattle.hayro_ccitt.specs.Bits.{Bits, bits_in}
use Rattle.fax_callers.specs.declared.rtc.EolsSeen.{EolsSeen}

-- ---- auxiliary: what was seen just before a bit

-- one more, up to a number
abbrev pub one_more_up_to : ℕ → ℕ → ℕ
one_more_up_to most n = if nat_lt n most then suc n else n

-- nothing
abbrev pub none_seen : EolsSeen
none_seen = record { eols = 0; zeros = 0; at_tag = false }

-- A tag of one after an EOL goes on with the EOLs in a row, as in RTC; one of zero is that of a line (T.4, 4.2.2 and 4.2.4).
abbrev pub with_tag : EolsSeen → Bool → EolsSeen
with_tag seen true = record { eols = seen.eols; zeros = 0; at_tag = false }
with_tag seen false = record { eols = 0; zeros = 1; at_tag = false }

-- a one after at least eleven zeros ends an EOL; another one ends the row of EOLs (T.4, 4.1.2 and 4.1.3)
abbrev pub with_one : Bool → EolsSeen → EolsSeen
with_one tags seen =
    if nat_le 11 seen.zeros then record { eols = one_more_up_to 6 seen.eols; zeros = 0; at_tag = tags } else none_seen

-- a zero
abbrev pub with_zero : EolsSeen → EolsSeen
with_zero seen = record seen { zeros = one_more_up_to 11 seen.zeros }

-- any bit
abbrev pub with_bit : Bool → EolsSeen → Bool → EolsSeen
with_bit tags seen bit =
    if seen.at_tag then with_tag seen bit else if bit then with_one tags seen else with_zero seen

-- six EOLs in a row, the last one with its tag, are RTC (T.4, 4.1.4 and 4.2.4)
abbrev pub is_rtc : EolsSeen → Bool
is_rtc seen = nat_le 6 seen.eols && not seen.at_tag

-- ---- Where RTC ends

-- What follows the first RTC that ends here or later, with tags or without, after what was seen just before (T.4, 4.1.4 and
-- 4.2.4).
abbrev pub after_rtc : Bool → EolsSeen → Bits → Option Bits
after_rtc tags seen [] = None
after_rtc tags seen (bit ∷ here) =
    if is_rtc (with_bit tags seen bit) then Some here else after_rtc tags (with_bit tags seen bit) here

-- no RTC ends within these bits, after which this was seen: whatever follows them, it is sought from there on
abbrev pub PassesBits : Bool → EolsSeen → Bits → EolsSeen → Type 0
PassesBits tags seen bits after = (more : Bits) → after_rtc tags seen (bits ++ more) ≡ after_rtc tags after more

-- a page goes on after these bytes: in Group 3 no RTC ends within them, after which this was seen (T.4, 4.1.4 and 4.2.4)
abbrev pub GoesOnAfter : EncodingMode → BitOrder → List ℕ → EolsSeen → Type 0
GoesOnAfter Group4 order front seen = Unit {0}
GoesOnAfter Group3_1D order front seen = PassesBits false none_seen (bits_in order front) seen
GoesOnAfter Group3_2D order front seen = PassesBits true none_seen (bits_in order front) seen

-- the first RTC ends within this number of bytes, and not before the last of them, whatever follows
abbrev pub FindsRtc : Bool → BitOrder → EolsSeen → List ℕ → ℕ → Type 0
FindsRtc tags order seen bytes count = (rest : Bits)
    × ((more : Bits) → after_rtc tags seen (bits_in order bytes ++ more) ≡ Some (rest ++ more))
    × (length rest ≤ 8 * length bytes) × (count ≡ (8 * length bytes - length rest + 7) / 8)

-- auxiliary: the bytes before what follows, the last one filled up, or all of them
abbrev pub size_before : Bits → ℕ → Option Bits → ℕ
size_before bits size None = size
size_before bits size (Some rest) = (length bits - length rest + 7) / 8

-- auxiliary: the bytes up to the end of the first RTC, the last one filled up, or all of them if there is none
abbrev pub rtc_size : Bool → Bits → ℕ → ℕ
rtc_size tags bits size = size_before bits size (after_rtc tags none_seen bits)

-- The bytes that the page at the start of some bytes may occupy: in Group 3 those up to the end of the first RTC, in
-- two-dimensional data with its tags (T.4, 4.1.4 and 4.2.4); in Group 4 all of them, since the reading finds EOFB (T.6, 2.4.1.1).
abbrev pub page_size : EncodingMode → BitOrder → List ℕ → ℕ
page_size Group4 order bytes = length bytes
page_size Group3_1D order bytes = rtc_size false (bits_in order bytes) (length bytes)
page_size Group3_2D order bytes = rtc_size true (bits_in order bytes) (length bytes)
