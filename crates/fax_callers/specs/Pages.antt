-- Pages, one after another.
use Rattle.std.specs.Prelude.{◌≡◌, ◌≢◌, ℕ, ◌+◌, ◌-◌, ◌/◌, ◌<◌, ◌≤◌, Bool, true, false, if◌then◌else◌, List, [], ◌∷◌, drop, take}
use Rattle.std.specs.Prelude.{length, Result, Ok}
use Rattle.hayro_ccitt.specs.BitOrder.{BitOrder}
use Rattle.hayro_ccitt.specs.DecodeError.{DecodeError}
use Rattle.hayro_ccitt.specs.EncodingMode.TheVariants.{Group4, Group3_1D, Group3_2D}
use Rattle.hayro_ccitt.specs.DecodeSettings.{DecodeSettings}
use Rattle.hayro_ccitt.specs.Bits.{Bits, IsPrefix, bits_in}
use Rattle.hayro_ccitt.specs.Encodings.{PictureT4}
use Rattle.hayro_ccitt.specs.Pictures.{Allows, BeginsWithPictureT6, IsClosedPicture}
use Rattle.hayro_ccitt.specs.Rows.{Row}
use Rattle.fax_callers.specs.Readings.{reading_of}
use Rattle.fax_callers.specs.Rtc.{page_size}

-- ---- Group 4

-- settings of Group 4 pages with this many columns: each page is closed by EOFB and has any number of rows, and no row is
-- aligned (T.6, 2.4.1.1)
abbrev pub page_settings : ℕ → DecodeSettings
page_settings columns = record {
  columns = columns;
  rows = 0;
  end_of_block = true;
  end_of_line = false;
  rows_are_byte_aligned = false;
  encoding = Group4;
  strict = true;
}

-- how the reading of a page that begins at a byte offset ends
abbrev pub page_from : ℕ → BitOrder → List ℕ → ℕ → Result ℕ DecodeError
page_from columns order bytes place = (reading_of (page_settings columns) order (drop place bytes)).outcome

-- a closed page is read up to its end, wherever it begins (T.6, 2.4.1.1)
abbrev pub ReadsClosedPages : ℕ → BitOrder → Type 0
ReadsClosedPages columns order = (bytes : List ℕ) (place : ℕ) (rows : List Row) (count : ℕ)
    → IsClosedPicture (page_settings columns) rows count (bits_in order (drop place bytes))
    → page_from columns order bytes place ≡ Ok count

-- Pages end at these byte offsets, one after another, in this many bytes: the reading that begins where one page ends, which
-- ends as `from` says, stops where the next one ends.
abbrev pub EndBy : (ℕ → Result ℕ DecodeError) → ℕ → ℕ → List ℕ → ℕ → Type 0
EndBy from size begin [] last = begin ≡ last
EndBy from size begin (end ∷ ends) last =
    (begin < end) × (end ≤ size) × (from begin ≡ Ok (end - begin)) × EndBy from size end ends last

-- Pages stand one after another from a byte offset on, end at these, and fill this many bytes; which occupy a number of bytes
-- from an offset on, `page` says.
abbrev pub StandBy : (ℕ → ℕ → Type 0) → ℕ → ℕ → List ℕ → Type 0
StandBy page size begin [] = begin ≡ size
StandBy page size begin (end ∷ ends) =
    (begin < end) × (end ≤ size) × page begin (end - begin) × StandBy page size end ends

-- Pages end at these byte offsets, one after another: the reading that begins where one page ends stops where the next one
-- ends.
abbrev pub EndAt : ℕ → BitOrder → List ℕ → ℕ → List ℕ → ℕ → Type 0
EndAt columns order bytes begin ends last = EndBy (page_from columns order bytes) (length bytes) begin ends last

-- a closed picture of this width occupies a number of bytes from an offset on (T.6, 2.4.1.1)
abbrev pub ClosedFrom : ℕ → BitOrder → List ℕ → ℕ → ℕ → Type 0
ClosedFrom columns order bytes begin count =
    (rows : List Row) × IsClosedPicture (page_settings columns) rows count (bits_in order (drop begin bytes))

-- Closed pictures of this width follow one another from a byte offset on, end at these, and fill the bytes (T.6,
-- 2.4.1.1).
abbrev pub StandAt : ℕ → BitOrder → List ℕ → ℕ → List ℕ → Type 0
StandAt columns order bytes begin ends = StandBy (ClosedFrom columns order bytes) (length bytes) begin ends

-- ---- Any encoding

-- settings of Group 3 pages with this many columns: an EOL is before each line, and each page is closed by RTC and has any
-- number of rows (T.4, 4.1.2, 4.1.4 and 4.2.4)
abbrev pub group3_settings : ℕ → Bool → DecodeSettings
group3_settings columns two_dimensional = record {
  columns = columns;
  rows = 0;
  end_of_block = true;
  end_of_line = true;
  rows_are_byte_aligned = false;
  encoding = if two_dimensional then Group3_2D else Group3_1D;
  strict = true;
}

-- The data begins with a T.4 stream of these rows, closed by RTC, in these bits; the settings look for RTC and allow as many
-- rows (T.4, 4.1.4 and 4.2.4).
pub record BeginsWithPageT4 (settings : DecodeSettings) (rows : List Row) (bits whole : Bits) : Type 0 where
  pub encoding : settings.encoding ≢ Group4
  pub end_of_block : settings.end_of_block ≡ true
  pub limit : Allows settings (length rows)
  pub picture : PictureT4 settings.encoding settings.columns rows bits
  pub begins : IsPrefix bits whole

-- The data begins with a page of these rows that occupies this number of bytes, the last one filled up: up to the end of EOFB, or
-- of RTC, which is six EOLs and no more, so that the page after it keeps its own (T.4, 4.1.4 and 4.2.4; T.6, 2.4.1.1).
pub data IsPage (settings : DecodeSettings) (rows : List Row) (count : ℕ) (whole : Bits) : Type 0 where
  by_eofb : (bits : Bits) → BeginsWithPictureT6 settings rows bits whole → count ≡ (length bits + 7) / 8
      → IsPage settings rows count whole
  by_rtc : (bits : Bits) → BeginsWithPageT4 settings rows bits whole → count ≡ (length bits + 7) / 8
      → IsPage settings rows count whole

-- the bytes that the page at a byte offset may occupy
abbrev pub page_bytes : DecodeSettings → BitOrder → List ℕ → ℕ → List ℕ
page_bytes settings order bytes begin = take (page_size settings.encoding order (drop begin bytes)) (drop begin bytes)

-- how the reading of the page that begins at a byte offset ends
abbrev pub page_by : DecodeSettings → BitOrder → List ℕ → ℕ → Result ℕ DecodeError
page_by settings order bytes begin = (reading_of settings order (page_bytes settings order bytes begin)).outcome

-- these bytes are read as these rows, up to their end
abbrev pub AreRead : DecodeSettings → BitOrder → List Row → List ℕ → Type 0
AreRead settings order rows bytes =
    ((reading_of settings order bytes).rows ≡ rows) × ((reading_of settings order bytes).outcome ≡ Ok (length bytes))

-- A page is read up to its end, wherever it begins and whatever follows it, and its bytes alone as its rows, as are all that it
-- may occupy (T.4, 4.1.4 and 4.2.4; T.6, 2.4.1.1).
abbrev pub ReadsPages : DecodeSettings → BitOrder → Type 0
ReadsPages settings order = (bytes : List ℕ) (begin : ℕ) (rows : List Row) (count : ℕ)
    → IsPage settings rows count (bits_in order (drop begin bytes))
    → (page_by settings order bytes begin ≡ Ok count) × AreRead settings order rows (take count (drop begin bytes))
    × ((reading_of settings order (page_bytes settings order bytes begin)).rows ≡ rows)

-- a page occupies a number of bytes from an offset on
abbrev pub PageFrom : DecodeSettings → BitOrder → List ℕ → ℕ → ℕ → Type 0
PageFrom settings order bytes begin count = (rows : List Row) × IsPage settings rows count (bits_in order (drop begin bytes))

-- pages follow one another from a byte offset on, end at these, and fill the bytes
abbrev pub PagesStand : DecodeSettings → BitOrder → List ℕ → ℕ → List ℕ → Type 0
PagesStand settings order bytes begin ends = StandBy (PageFrom settings order bytes) (length bytes) begin ends

-- Pages end at these byte offsets, one after another: the reading of the page that begins where one ends stops where the next
-- one ends.
abbrev pub PagesEnd : DecodeSettings → BitOrder → List ℕ → ℕ → List ℕ → ℕ → Type 0
PagesEnd settings order bytes begin ends last = EndBy (page_by settings order bytes) (length bytes) begin ends last
