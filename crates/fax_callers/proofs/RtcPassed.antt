-- RTC in data that comes in pieces.
use Rattle.hayro_ccitt.proofs.Names.{◌≡◌, ◌≢◌, ◌<◌, ◌≤◌, ◌+◌, ◌-◌, ◌*◌, ◌/◌, ◌++◌, ◌∷◌, ℕ, suc, Bool, true, false, cond, List, []}
use Rattle.hayro_ccitt.proofs.Names.{length, refl, ap, sym, ◌∙◌, arith, Bits, bits_in, Row}
use Rattle.hayro_ccitt.proofs.Names.{Option, Some, None, IfSome, append-nil, append_assoc, length-append}
use Rattle.std.specs.Prelude.{IfNone}
use Rattle.std.specs.Option.{unwrap_or}
use Rattle.std.proofs.lemmas.Grind.{flat_map-append}
use Rattle.hayro_ccitt.specs.BitOrder.{BitOrder}
use Rattle.hayro_ccitt.specs.Bits.{bits_of_byte}
use Rattle.hayro_ccitt.specs.DecodeSettings.{DecodeSettings}
use Rattle.hayro_ccitt.specs.EncodingMode.{EncodingMode}
use Rattle.hayro_ccitt.specs.EncodingMode.TheVariants.{Group4}
use Rattle.hayro_ccitt.proofs.BitReading.BitLists.{length-bits_in}
use Rattle.fax_callers.specs.PageSearches.{FoundAt, kind_of}
use Rattle.fax_callers.specs.Pages.{IsPage}
use Rattle.fax_callers.specs.Rtc.{FindsRtc, PassesBits, after_rtc, is_rtc, none_seen, rtc_size, size_before, with_bit}
use Rattle.fax_callers.specs.declared.rtc.EolsSeen.{EolsSeen}
use Rattle.fax_callers.proofs.RtcFound.{after_page, tags_in}

-- of all the data at once
pub size_found : (o : Option ℕ) (tags : Bool) (order : BitOrder) (bytes : List ℕ) (after : EolsSeen)
    → IfSome o (λ n. (n ≤ length bytes) × FindsRtc tags order none_seen bytes n)
    → IfNone o (PassesBits tags none_seen (bits_in order bytes) after)
    → unwrap_or o (length bytes) ≡ rtc_size tags (bits_in order bytes) (length bytes)
size_found (Some n) tags order bytes after (le, (rest, following, short, count)) none =
    let found : after_rtc tags none_seen (bits_in order bytes) ≡ Some rest
    = ap (after_rtc tags none_seen) (sym (append-nil (bits_in order bytes))) ∙ following [] ∙ ap Some (append-nil rest) in
    sym (ap (size_before (bits_in order bytes) (length bytes)) found
    ∙ (let size = length-bits_in order bytes in omega (arith, size, count)))
size_found None tags order bytes after some passes =
    let found : after_rtc tags none_seen (bits_in order bytes) ≡ None
    = ap (after_rtc tags none_seen) (sym (append-nil (bits_in order bytes))) ∙ passes [] in
    sym (ap (size_before (bits_in order bytes) (length bytes)) found)

-- the bits of bytes, and then of others
pub bits_more : (order : BitOrder) (one two : List ℕ) → bits_in order (one ++ two) ≡ bits_in order one ++ bits_in order two
bits_more order one two = flat_map-append (bits_of_byte order) one two

-- some bytes more are passed
pub passes_more : (tags : Bool) (order : BitOrder) (front piece : List ℕ) (seen after : EolsSeen)
    → PassesBits tags none_seen (bits_in order front) seen → PassesBits tags seen (bits_in order piece) after
    → PassesBits tags none_seen (bits_in order (front ++ piece)) after
passes_more tags order front piece seen after one two more =
    ap (λ (b : Bits). after_rtc tags none_seen (b ++ more)) (bits_more order front piece)
    ∙ ap (after_rtc tags none_seen) (append_assoc (bits_in order front) (bits_in order piece) more)
    ∙ one (bits_in order piece ++ more) ∙ two more

-- RTC ends among the bytes that come next
pub size_in_pieces : (tags : Bool) (order : BitOrder) (front piece more : List ℕ) (seen : EolsSeen) (count size : ℕ)
    → PassesBits tags none_seen (bits_in order front) seen → FindsRtc tags order seen piece count
    → rtc_size tags (bits_in order (front ++ (piece ++ more))) size ≡ length front + count
size_in_pieces tags order front piece more seen count size passes (rest, following, short, is) =
    ap (λ (b : Bits). rtc_size tags b size) split ∙ ap (size_before whole size) found
    ∙ omega (
      arith,
      is,
      short,
      length-append (bits_in order front) (bits_in order piece ++ bits_in order more),
      length-append (bits_in order piece) (bits_in order more),
      length-append rest (bits_in order more),
      length-bits_in order front,
      length-bits_in order piece,
    )
  where
    whole : Bits
    whole = bits_in order front ++ (bits_in order piece ++ bits_in order more)

    split : bits_in order (front ++ (piece ++ more)) ≡ whole
    split = bits_more order front (piece ++ more) ∙ ap (λ (b : Bits). bits_in order front ++ b) (bits_more order piece more)

    found : after_rtc tags none_seen whole ≡ Some (rest ++ bits_in order more)
    found = passes (bits_in order piece ++ bits_in order more) ∙ following (bits_in order more)

-- the same of what a search of some bytes found
pub ends_found : (o : Option ℕ) (tags : Bool) (order : BitOrder) (piece : List ℕ) (seen : EolsSeen)
    → IfSome o (λ n. (n ≤ length piece) × FindsRtc tags order seen piece n)
    → IfSome o (λ n. (n ≤ length piece) × ((front more : List ℕ) → PassesBits tags none_seen (bits_in order front) seen
    → rtc_size tags (bits_in order (front ++ (piece ++ more))) (length (front ++ (piece ++ more))) ≡ length front + n))
ends_found (Some n) tags order piece seen (le, finds) =
    (le, λ front more passes. size_in_pieces tags order front piece more seen n (length (front ++ (piece ++ more))) passes finds)
ends_found None tags order piece seen none = tt

pub passes_found : (o : Option ℕ) (tags : Bool) (order : BitOrder) (piece : List ℕ) (seen after : EolsSeen)
    → IfNone o (PassesBits tags seen (bits_in order piece) after)
    → IfNone o ((front : List ℕ) → PassesBits tags none_seen (bits_in order front) seen
    → PassesBits tags none_seen (bits_in order (front ++ piece)) after)
passes_found (Some n) tags order piece seen after passes = tt
passes_found None tags order piece seen after passes = λ front before. passes_more tags order front piece seen after before passes

-- ---- Pages

-- what follows RTC is shorter
pub after_shorter : (tags : Bool) (seen : EolsSeen) (here rest : Bits) → after_rtc tags seen here ≡ Some rest
    → length rest < length here
after_shorter tags seen [] rest e = absurd cc
after_shorter tags seen (bit ∷ here) rest e =
    by_rtc (after_shorter tags (with_bit tags seen bit) here rest) (is_rtc (with_bit tags seen bit)) e
  where
    by_rtc : (after_rtc tags (with_bit tags seen bit) here ≡ Some rest → length rest < length here) → (found : Bool)
        → cond found (Some here) (after_rtc tags (with_bit tags seen bit) here) ≡ Some rest → length rest < suc (length here)
    by_rtc on true e = let same : here ≡ rest = cc in omega (arith, ap length same)
    by_rtc on false e = let shorter = on e in omega (arith, shorter)

-- the kind of encoding says whether tags follow EOLs
kind_is : (encoding : EncodingMode) (tags : Bool) → encoding ≡ kind_of tags → (tags_in encoding ≡ tags) × (encoding ≢ Group4)
kind_is encoding true e = rw e (refl, λ other. absurd cc)
kind_is encoding false e = rw e (refl, λ other. absurd cc)

-- RTC of a page
rtc_of_page : (tags : Bool) (order : BitOrder) (bytes : List ℕ) (settings : DecodeSettings) (rows : List Row) (count : ℕ)
    → settings.encoding ≡ kind_of tags → IsPage settings rows count (bits_in order bytes) → (rest : Bits)
    × (after_rtc tags none_seen (bits_in order bytes) ≡ Some rest) × (length rest ≤ 8 * length bytes)
    × (count ≡ (8 * length bytes - length rest + 7) / 8)
rtc_of_page tags order bytes settings rows count kind (IsPage.by_eofb bits begins e) =
    absurd ((kind_is settings.encoding tags kind).1 begins.encoding)
rtc_of_page tags order bytes settings rows count kind (IsPage.by_rtc bits begins e) =
    let is = kind_is settings.encoding tags kind in
    let rest : Bits = begins.begins.0 in
    let found : after_rtc tags none_seen (bits_in order bytes) ≡ Some rest
    = ap (after_rtc tags none_seen) begins.begins.1 ∙ ap (λ (t : Bool). after_rtc t none_seen (bits ++ rest)) (sym is.0)
    ∙ after_page settings.encoding settings.columns rows bits rest is.1 begins.picture in
    let size = ap length begins.begins.1 in
    let sum = length-append bits rest in
    let bytes_size = length-bits_in order bytes in
    (rest, found, omega (arith, size, sum, bytes_size), omega (arith, e, size, sum, bytes_size))

pub page_found : (o : Option ℕ) (tags : Bool) (order : BitOrder) (piece : List ℕ) (seen after : EolsSeen)
    → IfSome o (λ n. (n ≤ length piece) × FindsRtc tags order seen piece n)
    → IfNone o (PassesBits tags seen (bits_in order piece) after)
    → (front more : List ℕ) (settings : DecodeSettings) (rows : List Row) (count : ℕ)
    → PassesBits tags none_seen (bits_in order front) seen → settings.encoding ≡ kind_of tags
    → IsPage settings rows count (bits_in order (front ++ (piece ++ more))) → FoundAt o (length front) (length piece) count
page_found (Some n) tags order piece seen after (le, finds) none front more settings rows count passes kind is =
    let bytes : List ℕ = front ++ (piece ++ more) in
    let page = rtc_of_page tags order bytes settings rows count kind is in
    let size : rtc_size tags (bits_in order bytes) (length bytes) ≡ count =
    ap (size_before (bits_in order bytes) (length bytes)) page.1
    ∙ (let bytes_size = length-bits_in order bytes in omega (arith, bytes_size, page.3)) in
    sym (size_in_pieces tags order front piece more seen n (length bytes) passes finds) ∙ size
page_found None tags order piece seen after some none front more settings rows count passes kind is =
    let bytes : List ℕ = front ++ (piece ++ more) in
    let page = rtc_of_page tags order bytes settings rows count kind is in
    let split : bits_in order bytes ≡ bits_in order front ++ (bits_in order piece ++ bits_in order more)
    = bits_more order front (piece ++ more) ∙ ap (λ (b : Bits). bits_in order front ++ b) (bits_more order piece more) in
    let left : after_rtc tags after (bits_in order more) ≡ Some page.0 =
    sym (none (bits_in order more)) ∙ sym (passes (bits_in order piece ++ bits_in order more))
    ∙ ap (after_rtc tags none_seen) (sym split) ∙ page.1 in
    let shorter = after_shorter tags after (bits_in order more) page.0 left in
    let more_size = length-bits_in order more in
    let size = length-append front (piece ++ more) in
    let sum = length-append piece more in
    omega (arith, shorter, more_size, size, sum, page.2, page.3)
