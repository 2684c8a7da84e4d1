-- What a run writes.
use Rattle.std.specs.Prelude.{◌≡◌, ℕ, ◌&&◌, nat_lt, List, Option, IfSome, Result, Ok, Err, if◌then◌else◌}
use Rattle.std.specs.Io.KnownBytes.{Appends}
use Rattle.hayro_ccitt.specs.Bits.{bits_in}
use Rattle.fax_encode.specs.Chosen.{filled_up}
use Rattle.fax_encode.specs.Packed.{bytes_of_row, shown}
use Rattle.fax_encode.specs.Settings.{chosen, needs_row}
use Rattle.fax_encode.specs.declared.settings.EncodeSettings.{EncodeSettings}
use Rattle.faxpack.specs.declared.arguments.Arguments.{Arguments}
use Rattle.faxpack.specs.declared.picture.PictureFault.{PictureFault}
use Rattle.faxpack.specs.declared.picture.PictureFault.TheVariants.{NoRows}
use Rattle.faxpack.specs.declared.picture.Place.{Place}
use Rattle.faxpack.specs.Pictures.{place_of, bytes_at}

-- a bitmap with a row, if the encoding needs one (T.6, 2.4.1.1)
abbrev pub with_a_row : EncodeSettings → Result Place PictureFault → Result Place PictureFault
with_a_row settings (Err fault) = Err fault
with_a_row settings (Ok place) =
    if needs_row settings.encoding settings.end_of_block && nat_lt place.length (bytes_of_row place.columns) then Err NoRows
    else Ok place

-- where the picture is that is encoded, or why there is none
abbrev pub picture_of : Arguments → List ℕ → Result Place PictureFault
picture_of arguments input = with_a_row arguments.settings (place_of arguments.size input)

-- bytes are the strip of a bitmap: in the order of bits of the settings, what is chosen for the picture that it shows, and
-- zeros up to a whole byte
abbrev pub IsStripOf : EncodeSettings → ℕ → List ℕ → List ℕ → Type 0
IsStripOf settings columns bitmap bytes =
    bits_in settings.order bytes ≡ filled_up (chosen settings columns (shown columns bitmap))

-- What a run returns for its input, and what its writer took: the strip of the picture; or nothing, and what is wrong.
abbrev pub IsAnswer : Arguments → List ℕ → Result (Unit {0}) PictureFault → Option (List ℕ) → Option (List ℕ) → Type 0
IsAnswer arguments input (Ok x) before after =
    (place : Place) × (bytes : List ℕ) × (picture_of arguments input ≡ Ok place)
    × IsStripOf arguments.settings place.columns (bytes_at place input) bytes × Appends before after bytes
IsAnswer arguments input (Err fault) before after = picture_of arguments input ≡ Err fault

-- a statement about what the arguments mean, and about the bytes that a reader supplies
abbrev pub OnKnown : Option Arguments → Option (List ℕ) → (Arguments → List ℕ → Type 0) → Type 0
OnKnown arguments known P = IfSome arguments (λ meant. IfSome known (λ input. P meant input))
