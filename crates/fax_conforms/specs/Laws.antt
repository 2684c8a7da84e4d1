-- The laws of what conforms by the coding procedure.
use Rattle.std.specs.Prelude.{◌≡◌, ◌<◌, ℕ, true, false, List, length, Option, Some}
use Rattle.hayro_ccitt.specs.Bits.{AreWholeBytes, Bits}
use Rattle.hayro_ccitt.specs.DecodeSettings.{DecodeSettings}
use Rattle.hayro_ccitt.specs.Encodings.{IsPicture}
use Rattle.hayro_ccitt.specs.Rows.{Row, white_row}
use Rattle.hayro_ccitt.specs.Settings.{AreSettings}
use Rattle.fax_encode.specs.Chosen.{filled_up}
use Rattle.fax_encode.specs.Settings.{chosen, decode_settings_for, has_eols, needs_row}
use Rattle.fax_encode.specs.declared.settings.EncodeSettings.{EncodeSettings}
use Rattle.fax_encode.specs.declared.settings.Effort.TheVariants.{Procedure}
use Rattle.fax_conforms.specs.ByProcedure.{ConformsByProcedure, LinesByProcedure, left_at_first}
use Rattle.fax_conforms.specs.Conforming.{Conforms}
use Rattle.fax_conforms.specs.Encoded.{HaveNoFill, KindsAreChosen, rows_in}

-- What is chosen for a picture with the effort of the procedure conforms by it, with the K of its settings, if EOLs needn't end
-- at whole bytes. Where they must, fill is before the first one and before each of RTC, where the procedure writes none (T.4,
-- 4.1.3).
abbrev pub ChosenConforms : Type 0
ChosenConforms = (settings : EncodeSettings) (columns : ℕ) (rows : List Row) → settings.effort ≡ Procedure
    → settings.eols_end_at_bytes ≡ false → (needs_row settings.encoding settings.end_of_block ≡ true → 0 < length rows)
    → IsPicture columns rows
    → ConformsByProcedure (decode_settings_for settings columns (length rows)) (Some settings.k)
    (filled_up (chosen settings columns rows))

-- What conforms by the procedure begins with an encoding that every decoder must read back as its rows.
abbrev pub ProcedureIsReadable : Type 0
ProcedureIsReadable = (settings : DecodeSettings) (k : Option ℕ) (whole : Bits) → AreSettings settings
    → ConformsByProcedure settings k whole → Conforms settings whole

-- Whatever conforms by the procedure is what `fax_encode` writes for its rows with the effort of the procedure, bit for bit: if
-- it has EOLs, RTC or EOFB as these settings ask, its lines are of the kinds that `fax_encode` chooses, and no EOL has fill. So
-- the procedure leaves no other choice.
abbrev pub ProcedureIsEncoded : Type 0
ProcedureIsEncoded = (settings : EncodeSettings) (columns count : ℕ) (whole : Bits) → settings.effort ≡ Procedure
    → settings.eols_end_at_bytes ≡ false → AreWholeBytes whole
    → (lines : LinesByProcedure (decode_settings_for settings columns count) (Some settings.k)
    (has_eols settings.encoding settings.end_of_line) 0 (left_at_first settings.encoding) (white_row columns) whole)
    → KindsAreChosen settings.k 0 lines → HaveNoFill lines → whole ≡ filled_up (chosen settings columns (rows_in lines))
