-- Encodings of pictures, from rows to bits: nothing is read here (T.4, 4.1 and 4.2; T.6, 2).
use Rattle.std.specs.Prelude.{◌≡◌, ◌≢◌, ℕ, zero, suc, ◌+◌, ◌-◌, ◌%◌, ◌<◌, ◌≤◌, ℤ, pos, ◌+ℤ◌, Bool, true, false, if◌then◌else◌}
use Rattle.std.specs.Prelude.{◌⊎◌}
use Rattle.std.specs.Prelude.{List, [], ◌∷◌, ◌++◌, length, replicate}
use Rattle.fax_bits.specs.declared.codes.Color.{Color}
use Rattle.fax_bits.specs.declared.codes.Color.TheVariants.{White}
use Rattle.fax_bits.specs.declared.codes.Mode.TheVariants.{Pass, Horizontal, Vertical}
use Rattle.fax_bits.specs.Bits.{Bits}
use Rattle.fax_bits.specs.CodeLists.{mode_codes}
use Rattle.fax_bits.specs.CodeReading.{Has}
use Rattle.fax_bits.specs.Runs.{codes_of}
use Rattle.fax_reading.specs.Rows.{Row, HaveWidth, is_black, opposite, b1, b2, a1, a2, white_row}
use Rattle.fax_bits.specs.declared.settings.EncodingMode.TheVariants.{Group4, Group3_1D, Group3_2D}
use Rattle.fax_bits.specs.declared.settings.EncodingMode.{EncodingMode}

-- make-up words of a colour and one terminating word, which sum to n (T.4, 4.1.1)
pub data Spells (color : Color) : ℕ → Bits → Type 0 where
  terminating : (n : ℕ) (word : Bits) → Has (codes_of color) n word → n < 64 → Spells color n word
  makeup : (m : ℕ) (word : Bits) {n : ℕ} {bits : Bits} → Has (codes_of color) m word → 64 ≤ m → Spells color n bits
      → Spells color (m + n) (word ++ bits)

-- The runs of a row in order, from a colour on. A run goes as far as its colour; only the first may be empty (T.4, 4.1.1).
pub data EncodesLine1D : Color → Row → Bits → Type 0 where
  over : {color : Color} → EncodesLine1D color [] []
  run : {color : Color} (n : ℕ) (word : Bits) {row : Row} {bits : Bits} → Spells color n word
      → 0 < n + length row → ((rest : Row) → row ≢ is_black color ∷ rest) → EncodesLine1D (opposite color) row bits
      → EncodesLine1D color (replicate n (is_black color) ++ row) (word ++ bits)

-- Valid steps from a position a0 to the row's end, against a reference row (T.4, 4.2.1.3; T.6, 2.2). Here `from` is
-- the first position right of a0, so the runs of a horizontal mode begin at `from - 1`, or at 0 if a0 is left of the
-- row.
pub data EncodesLine2D (reference row : Row) : ℕ → Color → Bits → Type 0 where
  over : {color : Color} → EncodesLine2D reference row (suc (length row)) color []
  pass : (from : ℕ) (word : Bits) {color : Color} {bits : Bits} → from ≤ length row → Has mode_codes Pass word
      → b2 reference from color < a1 row from → EncodesLine2D reference row (suc (b2 reference from color)) color bits
      → EncodesLine2D reference row from color (word ++ bits)
  vertical : (from : ℕ) (word : Bits) (k : ℤ) {color : Color} {bits : Bits} → from ≤ length row → Has mode_codes (Vertical k) word
      → pos (a1 row from) ≡ pos (b1 reference from color) +ℤ k
      → EncodesLine2D reference row (suc (a1 row from)) (opposite color) bits
      → EncodesLine2D reference row from color (word ++ bits)
  horizontal : (from : ℕ) (word : Bits) {first second : Bits} {color : Color} {bits : Bits}
      → from ≤ length row → Has mode_codes Horizontal word
      → Spells color (a1 row from - (from - 1)) first → Spells (opposite color) (a2 row from - a1 row from) second
      → EncodesLine2D reference row (suc (a2 row from)) color bits
      → EncodesLine2D reference row from color (word ++ (first ++ (second ++ bits)))

-- a line of an encoding: of T.6; of one-dimensional T.4; of two-dimensional T.4, after its tag (T.4, 4.1.1 and 4.2.2;
-- T.6, 2.2)
abbrev pub EncodesLine : EncodingMode → Row → Row → Bits → Type 0
EncodesLine Group4 reference row bits = EncodesLine2D reference row 0 White bits
EncodesLine Group3_1D reference row bits = EncodesLine1D White row bits
EncodesLine Group3_2D reference row bits = (line : Bits)
    × (((bits ≡ true ∷ line) × EncodesLine1D White row line) ⊎ ((bits ≡ false ∷ line) × EncodesLine2D reference row 0 White line))

-- auxiliary: zeros up to a whole byte
abbrev pub padding : ℕ → Bits
padding n = replicate ((8 - n % 8) % 8) false

-- lines in order, each filled up to a whole byte where they are aligned (T.4, 4.1.1 and 4.2.1; T.6, 2.2)
abbrev pub EncodesRows : EncodingMode → Bool → Row → List Row → Bits → Type 0
EncodesRows encoding aligned reference [] bits = bits ≡ []
EncodesRows encoding aligned reference (row ∷ rows) bits = (line next : Bits)
    × EncodesLine encoding reference row line × EncodesRows encoding aligned row rows next
    × (bits ≡ line ++ (if aligned then padding (length line) else []) ++ next)

-- eleven zeros, n more, and a one (T.4, 4.1.2 and 4.1.3)
abbrev pub eol : ℕ → Bits
eol fill = replicate (11 + fill) false ++ true ∷ []

-- a picture of this width, which is at least one: rows of that width (T.4, 4.1.1)
abbrev pub IsPicture : ℕ → List Row → Type 0
IsPicture columns rows = (0 < columns) × HaveWidth columns rows

-- a T.6 stream, closed by EOFB, which is two EOLs (T.6, 2.4.1.1)
abbrev pub PictureT6 : ℕ → Bool → List Row → Bits → Type 0
PictureT6 columns aligned rows bits = (body : Bits)
    × IsPicture columns rows × EncodesRows Group4 aligned (white_row columns) rows body × (bits ≡ body ++ eol 0 ++ eol 0)

-- lines in order, an EOL before each (T.4, 4.1.2)
abbrev pub EncodesRowsWithEols : EncodingMode → Row → List Row → Bits → Type 0
EncodesRowsWithEols encoding reference [] bits = bits ≡ []
EncodesRowsWithEols encoding reference (row ∷ rows) bits = (fill : ℕ) × (line next : Bits)
    × EncodesLine encoding reference row line × EncodesRowsWithEols encoding row rows next × (bits ≡ eol fill ++ line ++ next)

-- the tag after an EOL of RTC (T.4, 4.2.4)
abbrev pub tag_of : EncodingMode → Bits
tag_of Group3_2D = true ∷ []
tag_of Group3_1D = []
tag_of Group4 = []

-- n EOLs, each with its tag (T.4, 4.1.4 and 4.2.4)
abbrev pub ClosesWithEols : EncodingMode → ℕ → Bits → Type 0
ClosesWithEols encoding zero bits = bits ≡ []
ClosesWithEols encoding (suc n) bits =
    (fill : ℕ) × (next : Bits) × ClosesWithEols encoding n next × (bits ≡ eol fill ++ tag_of encoding ++ next)

-- a T.4 stream, closed by RTC, which is six EOLs (T.4, 4.1.4 and 4.2.4)
abbrev pub PictureT4 : EncodingMode → ℕ → List Row → Bits → Type 0
PictureT4 encoding columns rows bits = (lines closing : Bits) × (0 < length rows) × IsPicture columns rows
    × EncodesRowsWithEols encoding (white_row columns) rows lines × ClosesWithEols encoding 6 closing × (bits ≡ lines ++ closing)
