-- Data that is an encoding of a picture, and what is left of one from a line on.
use Rattle.std.specs.Prelude.{◌≡◌, ◌⊎◌, ◌↔◌, ℕ, ◌+◌, ◌<◌, Bool, true, List, [], ◌++◌, length, Ok, if◌then◌else◌}
use Rattle.hayro_ccitt.specs.Bits.{AreWholeBytes, Bits, IsPrefix}
use Rattle.hayro_ccitt.specs.DecodeSettings.{DecodeSettings}
use Rattle.hayro_ccitt.specs.EncodingMode.{EncodingMode}
use Rattle.hayro_ccitt.specs.EncodingMode.TheVariants.{Group4}
use Rattle.hayro_ccitt.specs.Encodings.{EncodesLine, padding, EncodesRows, EncodesRowsWithEols, ClosesWithEols, eol, tag_of}
use Rattle.hayro_ccitt.specs.Pictures.{Allows, IsClosedPicture, IsLimitedPicture}
use Rattle.hayro_ccitt.specs.PlainReading.{plain}
use Rattle.hayro_ccitt.specs.Rows.{Row, HaveWidth}
use Rattle.hayro_ccitt.specs.Settings.{AreSettings}

-- The data begins with an encoding of a picture that every decoder must read back as these rows, with any make-up words, modes
-- and kinds of line: closed as the settings ask, by EOFB or RTC, or with as many rows as the row limit (T.4, 4.1.4; T.6,
-- 2.4.1.1).
abbrev pub Conforms : DecodeSettings → Bits → Type 0
Conforms settings whole = (rows : List Row)
    × (((count : ℕ) × IsClosedPicture settings rows count whole) ⊎ IsLimitedPicture settings rows whole)

-- The data begins with an encoding of the rows that are read from it, closed as the settings ask: by EOFB or RTC where the
-- reading ends, or with as many rows as the row limit (T.4, 4.1.4; T.6, 2.4.1.1).
abbrev pub EncodesRowsRead : DecodeSettings → Bits → Type 0
EncodesRowsRead settings whole = ((count : ℕ) × ((plain settings whole).outcome ≡ Ok count)
    × IsClosedPicture settings (plain settings whole).rows count whole)
    ⊎ IsLimitedPicture settings (plain settings whole).rows whole

-- Data conforms exactly if it is an encoding of the rows that are read from it: these rows, encoded by the same choices, are the
-- same bits again.
abbrev pub RoundTrip : Type 0
RoundTrip = (settings : DecodeSettings) (whole : Bits) → AreSettings settings → AreWholeBytes whole
    → Conforms settings whole ↔ EncodesRowsRead settings whole

-- ---- auxiliary: from a line on

-- the settings look for EOFB (T.6, 2.4.1.1)
abbrev pub SeeksEofb : DecodeSettings → Type 0
SeeksEofb settings = (settings.encoding ≡ Group4) × (settings.end_of_block ≡ true)

-- two EOLs without fill stand here (T.6, 2.4.1.1)
abbrev pub TwoEolsStand : Bits → Type 0
TwoEolsStand here = (rest : Bits) × (here ≡ eol 0 ++ (eol 0 ++ rest))

-- EOFB stands here, and the settings look for it (T.6, 2.4.1.1)
abbrev pub EofbStands : DecodeSettings → Bits → Type 0
EofbStands settings here = SeeksEofb settings × TwoEolsStand here

-- what fills a line that ends at a position, where lines are aligned: zeros up to a whole byte (T.4, 4.1.3)
abbrev pub fill_at : Bool → ℕ → Bits
fill_at aligned place = if aligned then padding place else []

-- a line stands here, with what fills it (T.4, 4.1.1 and 4.2.1; T.6, 2.2)
abbrev pub FilledStands : DecodeSettings → Row → Row → Bits → Bits → Type 0
FilledStands settings reference row here rest = (line : Bits) × EncodesLine settings.encoding reference row line
    × (here ≡ line ++ (fill_at settings.rows_are_byte_aligned (length line) ++ rest))

-- lines without EOLs end here, after this number of rows: by the row limit, or by EOFB (T.6, 2.4.1.1)
abbrev pub BodyEnds : DecodeSettings → ℕ → Bits → Type 0
BodyEnds settings taken here = ((settings.rows ≡ taken) × (0 < taken)) ⊎ (EofbStands settings here × Allows settings taken)

-- after this number of rows, lines without EOLs stand here, and end (T.4, 4.1.1 and 4.2.1; T.6, 2.2)
abbrev pub BodyStands : DecodeSettings → ℕ → Row → Bits → Type 0
BodyStands settings taken reference here = (rows : List Row) × (bits after : Bits) × HaveWidth settings.columns rows
    × EncodesRows settings.encoding settings.rows_are_byte_aligned reference rows bits × (here ≡ bits ++ after)
    × BodyEnds settings (taken + length rows) after

-- an EOL stands here, with its fill (T.4, 4.1.2 and 4.1.3)
abbrev pub EolStands : Bits → Bits → Type 0
EolStands here rest = (fill : ℕ) × (here ≡ eol fill ++ rest)

-- one with its tag, as in RTC (T.4, 4.2.4)
abbrev pub TaggedEolStands : EncodingMode → Bits → Bits → Type 0
TaggedEolStands encoding here rest = EolStands here (tag_of encoding ++ rest)

-- this number of EOLs stands here, each with its tag (T.4, 4.1.4 and 4.2.4)
abbrev pub EolsStand : EncodingMode → ℕ → Bits → Type 0
EolsStand encoding n here = (closing : Bits) × ClosesWithEols encoding n closing × IsPrefix closing here

-- a line stands here, and an EOL before it (T.4, 4.1.2)
abbrev pub EolLineStands : DecodeSettings → Row → Row → Bits → Bits → Type 0
EolLineStands settings reference row here rest = (fill : ℕ) × (line : Bits) × EncodesLine settings.encoding reference row line
    × (here ≡ eol fill ++ (line ++ rest))

-- RTC stands here after some row, and the settings look for it (T.4, 4.1.4)
abbrev pub RtcStands : DecodeSettings → ℕ → Bits → Type 0
RtcStands settings taken here = (settings.end_of_block ≡ true) × (0 < taken) × EolsStand settings.encoding 6 here

-- lines with EOLs end here, after this number of rows: by the row limit, or by RTC, for which the settings look (T.4, 4.1.4)
abbrev pub LinesEnd : DecodeSettings → ℕ → Bits → Type 0
LinesEnd settings taken here = ((settings.rows ≡ taken) × (0 < taken))
    ⊎ (RtcStands settings taken here × Allows settings taken)

-- after this number of rows, lines stand here, an EOL before each, and end (T.4, 4.1.2)
abbrev pub LinesStand : DecodeSettings → ℕ → Row → Bits → Type 0
LinesStand settings taken reference here = (rows : List Row) × (bits after : Bits) × HaveWidth settings.columns rows
    × EncodesRowsWithEols settings.encoding reference rows bits × (here ≡ bits ++ after)
    × LinesEnd settings (taken + length rows) after
