-- What a directory says in words (TIFF 6.0, sections 2, 8 and 12).
use Rattle.std.specs.Prelude.{ℕ, zero, suc, ◌+◌, ◌-◌, ◌≡◌, List, [], ◌∷◌, length, get_or, slice_range, Option, None, Some}
use Rattle.std.specs.Prelude.{option_map, option_and_then, nat_le, ◌==◌, ◌&&◌, ◌||◌, Bool, if◌then◌else◌}
use Rattle.tiff_read.specs.declared.directory.Directory.{Directory}
use Rattle.tiff_read.specs.declared.directory.Values.{Values}
use Rattle.tiff_read.specs.declared.texts.Texts.{Texts}

-- which of the values that a directory keeps are those of a tag, if it is one that is kept
abbrev pub slot_of : ℕ → Option ℕ
slot_of tag = if nat_le 254 tag && nat_le tag 328 then Some (tag - 254) else (if tag == 33432 then Some 75 else None)

-- the values of a tag that a directory keeps
abbrev pub values_of : Directory → ℕ → Option Values
values_of directory tag = option_and_then (λ slot. get_or directory.tags slot None) (slot_of tag)

-- the types of a text: BYTE, ASCII and UNDEFINED
abbrev pub is_text_kind : ℕ → Bool
is_text_kind kind = kind == 1 || kind == 2 || kind == 7

-- the bytes of some values, if they are of a type for texts, and the file has them all
abbrev pub bytes_at : List ℕ → Values → Option (List ℕ)
bytes_at bytes values =
    if is_text_kind values.kind && nat_le (values.offset + values.count) (length bytes)
    then Some (slice_range bytes values.offset (values.offset + values.count))
    else None

-- the bytes before the first NUL
unfoldable pub before_nul : List ℕ → List ℕ
before_nul [] = []
before_nul (zero ∷ bytes) = []
before_nul (suc b ∷ bytes) = suc b ∷ before_nul bytes

-- the text of a tag: its bytes before the first NUL
abbrev pub text_of : List ℕ → Directory → ℕ → Option (List ℕ)
text_of bytes directory tag = option_map before_nul (option_and_then (bytes_at bytes) (values_of directory tag))

-- the steps for looking a text up: one, and one for each byte
abbrev pub cost_of : Option (List ℕ) → ℕ
cost_of None = 1
cost_of (Some text) = 1 + length text

-- Texts are those of the directory's tags, each of its own.
pub record AreTexts (bytes : List ℕ) (directory : Directory) (texts : Texts) : Type 0 where
  pub document_name : option_map (λ text. text.now) texts.document_name ≡ text_of bytes directory 269
  pub image_description : option_map (λ text. text.now) texts.image_description ≡ text_of bytes directory 270
  pub page_name : option_map (λ text. text.now) texts.page_name ≡ text_of bytes directory 285
  pub software : option_map (λ text. text.now) texts.software ≡ text_of bytes directory 305
  pub date_time : option_map (λ text. text.now) texts.date_time ≡ text_of bytes directory 306
  pub artist : option_map (λ text. text.now) texts.artist ≡ text_of bytes directory 315
  pub copyright : option_map (λ text. text.now) texts.copyright ≡ text_of bytes directory 33432

-- the steps for looking all texts of a directory up
abbrev pub cost_of_texts : List ℕ → Directory → ℕ
cost_of_texts bytes directory =
    cost_of (text_of bytes directory 269) + cost_of (text_of bytes directory 270) + cost_of (text_of bytes directory 285)
    + cost_of (text_of bytes directory 305) + cost_of (text_of bytes directory 306) + cost_of (text_of bytes directory 315)
    + cost_of (text_of bytes directory 33432)
