-- How much room the lists of changes take, which a context keeps for its reference row and for the row that it draws.
use Rattle.std.specs.Prelude.{ℕ, suc, ◌+◌, ◌*◌, max, min, length}
use Rattle.fax_bits.specs.declared.settings.DecodeSettings.{DecodeSettings}
use Rattle.fax_reading.specs.Answers.{front_of}
use Rattle.fax_bits.specs.Bits.{Bits}
use Rattle.fax_reading.specs.Lines.{Line}
use Rattle.fax_reading.specs.Rows.{Row, changes}

-- the most changes for which a list of this many has room once it has grown: as many again, or 64 more (auxiliary)
abbrev pub room_for : ℕ → ℕ
room_for stored = 2 * stored + 64

-- the most changes that one of the lists holds while a line is drawn: those of the reference row, or those of the row that is
-- drawn, or of the front of a broken line, and one more at its end (auxiliary)
abbrev pub most_stored : Row → Line → ℕ
most_stored reference line = max (length (changes reference)) (suc (length (changes (front_of line))))

-- the most changes for which a list grows while data of these bits is read: twice the columns or twice the bits, whichever are
-- fewer, and 66 more (auxiliary)
abbrev pub most_room : DecodeSettings → Bits → ℕ
most_room settings bits = 2 * min settings.columns (length bits) + 66
