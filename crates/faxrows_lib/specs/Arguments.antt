-- What the arguments of the program mean: a mode, the columns, the rows, and flags.
use Rattle.std.specs.Prelude.{ℕ, List, [], ◌∷◌, Option, Some, None, if◌then◌else◌, codes, nat_lt, take}
use Rattle.hayro_ccitt.specs.EncodingMode.{EncodingMode}
use Rattle.hayro_ccitt.specs.DecodeSettings.{DecodeSettings}
use Rattle.fax_program.specs.Arguments.{are_flags, has_flag, mode_of, number_of, order_with, ◌>>=◌}
use Rattle.faxrows_lib.specs.declared.arguments.Arguments.{Arguments}

-- the flags' letters
abbrev pub letters : List ℕ
letters = codes "blasr"

-- the settings with these numbers and flags
abbrev pub settings_with : EncodingMode → ℕ → ℕ → List ℕ → DecodeSettings
settings_with encoding columns rows flags = record {
  columns = columns;
  rows = rows;
  end_of_block = has_flag 98 flags;
  end_of_line = has_flag 108 flags;
  rows_are_byte_aligned = has_flag 97 flags;
  encoding = encoding;
  strict = has_flag 115 flags;
}

-- the settings and the order that four arguments mean
abbrev pub arguments_of_four : List ℕ → List ℕ → List ℕ → List ℕ → Option Arguments
arguments_of_four mode columns rows flags = do
  encoding ← mode_of mode
  width ← number_of columns
  limit ← number_of rows
  if are_flags letters flags
      then Some (record { settings = settings_with encoding width limit flags; order = order_with flags })
      else None

-- the settings and the order that the arguments mean, if they are valid
abbrev pub arguments_of : List (List ℕ) → Option Arguments
arguments_of (mode ∷ columns ∷ rows ∷ flags ∷ []) = arguments_of_four mode columns rows flags
arguments_of _ = None

-- the K that a word writes, a number of at least 1: it counts the one-dimensional line (T.4, 4.2.1)
abbrev pub k_of_word : List ℕ → Option ℕ
k_of_word word = do
  k ← number_of word
  if nat_lt 0 k then Some k else None

-- the K that is the last of five arguments, if there is one
abbrev pub k_of : List (List ℕ) → Option ℕ
k_of (mode ∷ columns ∷ rows ∷ flags ∷ word ∷ []) = k_of_word word
k_of _ = None

-- the arguments without it
abbrev pub without : Option ℕ → List (List ℕ) → List (List ℕ)
without None args = args
without (Some k) args = take 4 args

abbrev pub without_k : List (List ℕ) → List (List ℕ)
without_k args = without (k_of args) args
