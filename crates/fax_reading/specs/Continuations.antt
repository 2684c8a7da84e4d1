-- What more bits change of what begins in some: the line there (T.4, 4.1 and 4.2; T.6, 2.2).
use Rattle.std.specs.Prelude.{◌≡◌, ◌↔◌, Bool, false, ◌++◌, replicate, Result, Ok, Err}
use Rattle.fax_bits.specs.Bits.{Bits, AreWholeBytes}
use Rattle.fax_bits.specs.declared.error.DecodeError.{DecodeError}
use Rattle.fax_bits.specs.Faults.{misses_end}
use Rattle.fax_bits.specs.declared.settings.DecodeSettings.{DecodeSettings}
use Rattle.fax_reading.specs.Laws.{strictly}
use Rattle.fax_reading.specs.Lines.{Line}
use Rattle.fax_reading.specs.PlainReading.{line_here, row_of_line}
use Rattle.fax_reading.specs.Rows.{Row}
use Rattle.fax_reading.specs.Work.{found_here}

-- a line is short: the bits end within it, and no word before their end is wrong (T.4, 4.1 and 4.2; T.6, 2.2)
abbrev pub is_short : Line → Bool
is_short (Line.whole row rest) = false
is_short (Line.broken front fault) = misses_end fault

-- the same line, where more bits follow: its row, and more bits after it; or its front and its fault (T.4, 4.1 and 4.2; T.6,
-- 2.2)
abbrev pub line_before : Bits → Line → Line
line_before more (Line.whole row rest) = Line.whole row (rest ++ more)
line_before more (Line.broken front fault) = Line.broken front fault

-- the same row of a line, where more bits follow (T.4, 4.1 and 4.2; T.6, 2.2)
abbrev pub row_continued : Bits → Result (Row × Bits) DecodeError → Result (Row × Bits) DecodeError
row_continued more (Ok (row, rest)) = Ok (row, rest ++ more)
row_continued more (Err fault) = Err fault

-- The line here is settled: it is the same whatever bits follow (T.4, 4.1 and 4.2; T.6, 2.2).
abbrev pub LineIsSettled : DecodeSettings → Row → Bits → Type 0
LineIsSettled settings reference here = (more : Bits)
    → line_here settings reference (here ++ more) ≡ line_before more (line_here settings reference here)

-- What of the line here is the same whatever bits follow: the line; that of the strict reading; the words that are found; and, if
-- whole bytes follow, what the line yields, its row or its fault (T.4, 4.1 and 4.2; T.6, 2.2).
pub record StaysAsRead (settings : DecodeSettings) (reference : Row) (here : Bits) : Type 0 where
  pub line : LineIsSettled settings reference here
  pub strict : LineIsSettled (strictly settings) reference here
  pub found : (more : Bits) → found_here settings reference (here ++ more) ≡ found_here settings reference here
  pub row : (has_eols : Bool) (more : Bits) → AreWholeBytes more
      → row_of_line settings has_eols (here ++ more) (line_here settings reference (here ++ more))
      ≡ row_continued more (row_of_line settings has_eols here (line_here settings reference here))

-- Exactly the lines that aren't short are settled. A line that isn't short stays as it was read; with two bytes of zeros after
-- it no line is short (T.4, 4.1 and 4.2; T.6, 2.2).
pub record LinesSettle : Type 0 where
  pub exactly : (settings : DecodeSettings) (reference : Row) (here : Bits)
      → (is_short (line_here settings reference here) ≡ false) ↔ LineIsSettled settings reference here
  pub stays : (settings : DecodeSettings) (reference : Row) (here : Bits)
      → is_short (line_here settings reference here) ≡ false → StaysAsRead settings reference here
  pub ends : (settings : DecodeSettings) (reference : Row) (here : Bits)
      → is_short (line_here settings reference (here ++ replicate 16 false)) ≡ false
