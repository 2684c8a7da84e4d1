-- A row that is being painted.
use Rattle.std.specs.Prelude.{◌≡◌, ◌+◌, ◌-◌, ◌*◌, ◌/◌, ◌%◌, ◌^◌, ◌<◌, ◌≤◌, ℕ, zero, suc, List, [], ◌∷◌, ◌++◌, Bool, true, false}
use Rattle.std.specs.Prelude.{length, map, not, take, replicate}
use Rattle.fax_bits.specs.Bits.{Bits, bit_of, bits_of, low_bits}
use Rattle.fax_reading.specs.Rows.{AreChanges}
use Rattle.fax_bitmap.specs.declared.painting.Brush.{Brush}

-- memory has as many bytes as a row that has these changes (T.4, 4.1.1)
pub record FitsRow (columns : ℕ) (row memory : List ℕ) : Type 0 where
  pub changes : AreChanges columns row
  pub room : length memory ≡ (columns + 7) / 8

-- the pixels painted so far: the bytes before the word, and the word
abbrev pub under : Brush → List ℕ → Bits
under brush row = bits_of (take brush.start row) ++ low_bits 64 brush.word

-- the word is the one at a position
pub record StandsAt (brush : Brush) (place : ℕ) : Type 0 where
  pub begun : brush.start % 8 ≡ 0
  pub from : 8 * brush.start ≤ place
  pub below : place < 8 * brush.start + 64

-- what moving to the word of a position does: all before that word is painted
pub record MovesTo (brush at : Brush) (place : ℕ) (row row' : List ℕ) : Type 0 where
  pub stands : StandsAt at place
  pub right : brush.start ≤ at.start
  pub color : at.is_black ≡ brush.is_black
  pub painted : under at row' ≡ under brush row ++ replicate (8 * (at.start - brush.start)) brush.is_black
  pub long : length row' ≡ length row

-- the pixels up to a position, and white ones from there on, of a row of so many bytes
abbrev pub then_white : Bits → ℕ → Bits
then_white front bytes = front ++ replicate (8 * bytes - length front) false

-- what painting a black run does to a row that is white from its first pixel on
abbrev pub TurnsBlack : ℕ → ℕ → List ℕ → List ℕ → Type 0
TurnsBlack from to row row' =
    (front : Bits) → length front ≡ from → bits_of row ≡ then_white front (length row)
    → bits_of row' ≡ then_white (front ++ replicate (to - from) true) (length row)

-- pixels that are turned from a position on
unfoldable pub turned_from : ℕ → Bits → Bits
turned_from zero bits = map not bits
turned_from (suc n) [] = []
turned_from (suc n) (bit ∷ bits) = bit ∷ turned_from n bits

-- and at each of several positions
unfoldable pub turned_at_all : List ℕ → Bits → Bits
turned_at_all [] bits = bits
turned_at_all (place ∷ places) bits = turned_at_all places (turned_from place bits)

-- a pixel after black is turned
unfoldable pub turned_after : Bool → Bool → Bool
turned_after true pixel = not pixel
turned_after false pixel = pixel

-- a word of pixels of one colour
abbrev pub plain_pixels : Bool → ℕ
plain_pixels true = 2 ^ 64 - 1
plain_pixels false = 0

-- the pixels of words, of which each is turned if the one before it ends black
unfoldable pub joined_pixels : Bool → List ℕ → Bits
joined_pixels color [] = []
joined_pixels color (word ∷ words) =
    map (turned_after color) (low_bits 64 word) ++ joined_pixels (turned_after color (bit_of word 0)) words
