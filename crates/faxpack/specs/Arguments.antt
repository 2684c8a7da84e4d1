-- What the arguments of the program mean: a mode and flags, with the columns and the rows if no picture has them, and K.
use Rattle.std.specs.Prelude.{ℕ, ◌&&◌, List, [], ◌∷◌, Option, Some, None, if◌then◌else◌, codes, bytes_eq}
use Rattle.hayro_ccitt.specs.EncodingMode.{EncodingMode}
use Rattle.fax_encode.specs.declared.settings.Effort.{Effort}
use Rattle.fax_encode.specs.declared.settings.Effort.TheVariants.{Procedure, Shortest}
use Rattle.fax_encode.specs.declared.settings.EncodeSettings.{EncodeSettings}
use Rattle.fax_encode.specs.Settings.{names_encoding}
use Rattle.fax_program.specs.Arguments.{are_flags, has_flag, mode_of, number_of, order_with, ◌>>=◌}
use Rattle.faxpack.specs.declared.arguments.Arguments.{Arguments}

-- the flags' letters
abbrev pub letters : List ℕ
letters = codes "blasrfm"

-- the K that the arguments after the flags mean: one number, or 4 without one, the largest of T.4, 4.2.1
abbrev pub k_of : List (List ℕ) → Option ℕ
k_of [] = Some 4
k_of (arg ∷ []) = number_of arg
k_of (arg ∷ other ∷ more) = None

-- with m lines have the fewest bits
unfoldable pub effort_with : List ℕ → Effort
effort_with flags = if has_flag 109 flags then Shortest else Procedure

-- the settings with this K and these flags
abbrev pub settings_with : EncodingMode → ℕ → List ℕ → EncodeSettings
settings_with encoding k flags = record {
  encoding = encoding;
  k = k;
  end_of_line = has_flag 108 flags;
  eols_end_at_bytes = has_flag 102 flags;
  rows_are_byte_aligned = has_flag 97 flags;
  end_of_block = has_flag 98 flags;
  order = order_with flags;
  effort = effort_with flags;
}

-- the settings that a mode, flags and the arguments after them mean, if they name an encoding
abbrev pub settings_of_args : List ℕ → List ℕ → List (List ℕ) → Option EncodeSettings
settings_of_args mode flags more = do
  encoding ← mode_of mode
  k ← k_of more
  if are_flags letters flags && names_encoding (settings_with encoding k flags)
      then Some (settings_with encoding k flags)
      else None

-- what the arguments mean for a picture with a header
abbrev pub picture_args : List (List ℕ) → Option Arguments
picture_args (mode ∷ flags ∷ more) = do
  settings ← settings_of_args mode flags more
  Some (record { size = None; settings = settings })
picture_args _ = None

-- what the arguments mean for rows without a header
abbrev pub rows_args : List (List ℕ) → Option Arguments
rows_args (mode ∷ columns ∷ rows ∷ flags ∷ more) = do
  settings ← settings_of_args mode flags more
  width ← number_of columns
  limit ← number_of rows
  Some (record { size = Some (record { columns = width; rows = limit }); settings = settings })
rows_args _ = None

-- what the arguments mean, if they are valid: with -o first, rows without a header, as `faxrows -o` writes them
abbrev pub arguments_of : List (List ℕ) → Option Arguments
arguments_of [] = None
arguments_of (first ∷ args) = if bytes_eq first (codes "-o") then rows_args args else picture_args (first ∷ args)
