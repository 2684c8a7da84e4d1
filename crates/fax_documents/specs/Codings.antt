-- What the tags of a TIFF and the keys of a PDF say of how rows are encoded.
use Rattle.std.specs.Prelude.{ℕ, ◌+◌, ℤ, pos, negsuc, Bool, true, false, Option, Some, None, if◌then◌else◌}
use Rattle.fax_bits.specs.declared.settings.DecodeSettings.{DecodeSettings}
use Rattle.fax_bits.specs.declared.settings.EncodingMode.{EncodingMode}
use Rattle.fax_bits.specs.declared.settings.EncodingMode.TheVariants.{Group4, Group3_1D, Group3_2D}
use Rattle.fax_documents.specs.declared.coding.Coding.{Coding}
use Rattle.fax_documents.specs.declared.coding.FaxKeys.{FaxKeys}

-- Compression 3 has an EOL before each line. Bit 0 of T4Options says that lines may have two dimensions, bit 2 that fill precedes
-- EOLs so that they end at whole bytes (TIFF 6.0, section 11, T4Options).
abbrev pub t4 : ℕ → Bool → Option Coding
t4 dimensions fill = Some (record { compression = 3; options = if fill then 4 + dimensions else dimensions })

-- Compression 2 is one-dimensional, and each of its rows ends with a whole byte and has no EOL (TIFF 6.0, section 10); 4 is T.6,
-- whose rows are not aligned (section 11, T6Options).
abbrev pub coding_by : EncodingMode → Bool → Bool → Bool → Option Coding
coding_by Group4 end_of_line false fill = Some (record { compression = 4; options = 0 })
coding_by Group4 end_of_line true fill = None
coding_by Group3_1D true aligned fill = t4 0 fill
coding_by Group3_1D false true fill = Some (record { compression = 2; options = 0 })
coding_by Group3_1D false false fill = None
coding_by Group3_2D true aligned fill = t4 1 fill
coding_by Group3_2D false aligned fill = None

-- what the tags say of rows that are encoded as settings say
abbrev pub coding_of : DecodeSettings → Bool → Option Coding
coding_of settings fill = coding_by settings.encoding settings.end_of_line settings.rows_are_byte_aligned fill

-- K is below 0 for Group 4, 0 for Group 3 of one dimension, and above 0 for two (ISO 32000-1, table 11)
abbrev pub k_of : EncodingMode → ℤ
k_of Group4 = negsuc 0
k_of Group3_1D = pos 0
k_of Group3_2D = pos 4

-- What the keys of CCITTFaxDecode say of rows that are encoded as settings say. Its 0 bits are black in the picture that the
-- filter makes, unless BlackIs1 says otherwise (ISO 32000-1, table 11).
abbrev pub fax_keys_of : DecodeSettings → Bool → FaxKeys
fax_keys_of settings is_inverted = record {
  k = k_of settings.encoding;
  end_of_line = settings.end_of_line;
  encoded_byte_align = settings.rows_are_byte_aligned;
  end_of_block = settings.end_of_block;
  black_is_1 = is_inverted;
}
