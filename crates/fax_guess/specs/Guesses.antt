-- What a guess says of data, and what is found.
use Rattle.std.specs.Prelude.{◌≡◌, ◌<◌, ◌≤◌, ◌+◌, ◌*◌, ◌⊎◌, ℕ, Bool, true, false, not, List, length, get_or, drop, Contains}
use Rattle.std.specs.Prelude.{Ok, IsTrue}
use Rattle.std.specs.List.{All}
use Rattle.hayro_ccitt.specs.Bits.{bits_in}
use Rattle.hayro_ccitt.specs.BitOrder.{BitOrder}
use Rattle.hayro_ccitt.specs.DecodeSettings.{DecodeSettings}
use Rattle.hayro_ccitt.specs.EncodingMode.{EncodingMode}
use Rattle.hayro_ccitt.specs.EncodingMode.TheVariants.{Group4, Group3_1D, Group3_2D}
use Rattle.hayro_ccitt.specs.PlainReading.{plain}
use Rattle.fax_guess.specs.Outcomes.{AreZeros}
use Rattle.fax_guess.specs.declared.forms.Form.{Form}
use Rattle.fax_guess.specs.declared.guess.Guess.{Guess}
use Rattle.fax_guess.specs.declared.search.Search.{Search}

-- the form of an encoding, whether rows end at whole bytes, and an order of bits
abbrev pub form_of : EncodingMode × Bool × BitOrder → Form
form_of form = record { encoding = form.0; is_aligned = form.1; order = form.2 }

-- The settings by which data of a form and a width is read: up to EOFB or RTC or the end of the data.
abbrev pub settings_of : Form → ℕ → Bool → DecodeSettings
settings_of form columns strict = record {
  columns = columns;
  rows = 0;
  end_of_block = true;
  end_of_line = false;
  rows_are_byte_aligned = form.is_aligned;
  encoding = form.encoding;
  strict = strict;
}

-- The reading of data by the settings of a guess, in its order of bits, has as many rows as it says, and at least one.
pub record IsReadSo (bytes : List ℕ) (guess : Guess) : Type 0 where
  pub rows : guess.rows ≡ length (plain guess.settings (bits_in guess.order bytes)).rows
  pub some : 0 < guess.rows

-- The best guesses of a search are at most ten, and readings of the data.
pub record IsSearchOf (bytes : List ℕ) (search : Search) : Type 0 where
  pub most : length search.best.items ≤ 10
  pub read : All (IsReadSo bytes) search.best.items

-- whether an encoding is tried with rows that end at whole bytes, or with others: lines with tags (T.4, 4.2.2) have EOLs, after
-- which no row ends at a whole byte
abbrev pub is_tried : EncodingMode → Bool → Bool
is_tried Group4 is_aligned = true
is_tried Group3_1D is_aligned = true
is_tried Group3_2D is_aligned = not is_aligned

-- whether data that is encoded so may begin with an EOL: in Group 3, where rows don't end at whole bytes (T.4, 4.1.2)
abbrev pub may_have_eols : EncodingMode → Bool → Bool
may_have_eols Group4 is_aligned = false
may_have_eols Group3_1D is_aligned = not is_aligned
may_have_eols Group3_2D is_aligned = not is_aligned

-- One of the first eleven bits is a one, so the data doesn't begin with an EOL (T.4, 4.1.2).
abbrev pub BeginsWithoutEol : BitOrder → List ℕ → Type 0
BeginsWithoutEol order bytes = (i : ℕ) × (i < 11) × (get_or (bits_in order bytes) i false ≡ true)

-- Data of a form may begin so.
abbrev pub MayBegin : Form → List ℕ → Type 0
MayBegin form bytes = IsTrue (may_have_eols form.encoding form.is_aligned) ⊎ BeginsWithoutEol form.order bytes

-- The reading by some settings has a row, and ends without a fault where only bytes of zeros follow, or nothing.
pub record TakesAll (settings : DecodeSettings) (order : BitOrder) (bytes : List ℕ) : Type 0 where
  pub some : 0 < length (plain settings (bits_in order bytes)).rows
  pub count : ℕ
  pub read : (plain settings (bits_in order bytes)).outcome ≡ Ok count
  pub zeros : AreZeros (drop count bytes)

-- One of some guesses has these settings and this order of bits.
pub record IsAmong (settings : DecodeSettings) (order : BitOrder) (guesses : List Guess) : Type 0 where
  pub guess : Guess
  pub among : Contains guesses guess
  pub by : guess.settings ≡ settings
  pub in_order : guess.order ≡ order

-- Data that may begin so, and of which a strict reading in a form takes all, is among the guesses.
abbrev pub IsFound : ℕ → List ℕ → List Guess → Form → Type 0
IsFound columns bytes guesses form =
    MayBegin form bytes → TakesAll (settings_of form columns true) form.order bytes
    → IsAmong (settings_of form columns true) form.order guesses

-- Each form is found by which a strict reading of this width takes all data.
abbrev pub FindsAll : ℕ → List ℕ → List Guess → Type 0
FindsAll columns bytes guesses =
    (form : Form) → is_tried form.encoding form.is_aligned ≡ true → IsFound columns bytes guesses form

-- What is among some guesses is among others.
abbrev pub Keeps : List Guess → List Guess → Type 0
Keeps old new = (settings : DecodeSettings) (order : BitOrder) → IsAmong settings order old → IsAmong settings order new

-- what a reading of some bytes costs at most
abbrev pub cost_of : List ℕ → ℕ
cost_of bytes = 8 * length bytes + 64
