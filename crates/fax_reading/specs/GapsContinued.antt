-- Which gaps between rows are the same whatever bits follow the data here.
use Rattle.std.specs.Prelude.{◌≡◌, ◌≢◌, ◌↔◌, ℕ, Bool, true, false, not, ◌&&◌, ◌||◌, [], ◌∷◌, ◌++◌, nat_le, nat_lt}
use Rattle.std.specs.Prelude.{Option, Some, None, Result, Ok, Err, if◌then◌else◌}
pub use Rattle.fax_bits.specs.Ones.{holds_one}
use Rattle.fax_bits.specs.Bits.{Bits, AreWholeBytes}
use Rattle.fax_bits.specs.EndOfLine.{all_eols, next_eol}
use Rattle.fax_bits.specs.Repetition.{Turn}
use Rattle.fax_bits.specs.declared.error.DecodeError.{DecodeError}
use Rattle.fax_bits.specs.declared.settings.DecodeSettings.{DecodeSettings}
use Rattle.fax_bits.specs.declared.settings.EncodingMode.{EncodingMode}
use Rattle.fax_bits.specs.declared.settings.EncodingMode.TheVariants.{Group4, Group3_1D, Group3_2D}
use Rattle.fax_reading.specs.Context.{Held}
use Rattle.fax_reading.specs.Decoding.{repairs_after}
use Rattle.fax_reading.specs.PlainReading.{Gap, Move, eols_here, gap_after_row, misses_eol, first_gap}

-- ---- The same, with more bits after (T.4, 4.1.2; T.6, 2.4.1.1)

-- an outcome whose bits that are left have more bits after them
abbrev pub outcome_before : Bits → Result Bits DecodeError → Result Bits DecodeError
outcome_before more (Ok rest) = Ok (rest ++ more)
outcome_before more (Err fault) = Err fault

-- the same gap, where more bits follow
abbrev pub gap_before : Bits → Gap → Gap
gap_before more (Gap.line_at has_eols rest) = Gap.line_at has_eols (rest ++ more)
gap_before more (Gap.over outcome) = Gap.over (outcome_before more outcome)

-- the same first gap, where more bits follow
abbrev pub move_before : Bits → Move → Move
move_before more (Turn.next so_far) = Turn.next (record so_far { rest = so_far.rest ++ more })
move_before more (Turn.done end) = Turn.done (record end { outcome = outcome_before more end.outcome })

-- ---- Gaps that stay as they are

-- whatever bits follow, the gap here is the same (T.4, 4.1.2 and 4.1.4; T.6, 2.4.1.1)
abbrev pub GapIsSettled : DecodeSettings → ℕ → Bool → Bits → Type 0
GapIsSettled settings taken has_eols here =
    (more : Bits) → gap_after_row settings taken has_eols (here ++ more)
    ≡ gap_before more (gap_after_row settings taken has_eols here)

-- whatever bits follow, the first gap of the data is the same (T.4, 4.1.2; T.6, 2.4.1.1)
abbrev pub FirstGapIsSettled : DecodeSettings → Bits → Type 0
FirstGapIsSettled settings bits =
    (more : Bits) → first_gap settings.encoding settings (bits ++ more)
    ≡ move_before more (first_gap settings.encoding settings bits)

-- ---- The test: no further EOL can come of the bits here and of those that follow

-- auxiliary: the bits after the tag of one of the next line, which one to five EOLs come before (T.4, 4.2.2); the tag of
-- RTC was read with it (T.4, 4.2.4)
abbrev pub after_line_tag : ℕ × Bits → Bits
after_line_tag (count, []) = []
after_line_tag (count, false ∷ rest) = false ∷ rest
after_line_tag (count, true ∷ rest) = if nat_lt 0 count && nat_lt count 6 then rest else true ∷ rest

-- So many EOLs were read, and these bits are left: whatever bits follow, no EOL more is read. The two of EOFB were
-- (T.6, 2.4.1.1), or a one is left which no EOL is before (T.4, 4.1.2), in two-dimensional data of Group 3 after the tag
-- (T.4, 4.2.2).
abbrev pub eols_are_settled : EncodingMode → Bool → ℕ × Bits → Bool
eols_are_settled Group4 end_of_block (count, rest) = end_of_block && nat_le 2 count || holds_one rest
eols_are_settled Group3_1D end_of_block (count, rest) = holds_one rest
eols_are_settled Group3_2D end_of_block (count, rest) = holds_one (after_line_tag (count, rest))

-- the EOLs here, read by the settings, are the same whatever bits follow (T.4, 4.1.2; T.6, 2.4.1.1)
abbrev pub eols_here_are_settled : DecodeSettings → Bits → Bool
eols_here_are_settled settings here = eols_are_settled settings.encoding settings.end_of_block (eols_here settings here)

-- there is a next EOL, and those there are the same whatever bits follow (T.4, 4.1.2)
abbrev pub next_eols_are_settled : DecodeSettings → Option Bits → Bool
next_eols_are_settled settings None = false
next_eols_are_settled settings (Some found) = eols_here_are_settled settings found

-- The gap here is the same whatever bits follow: the EOLs here are; and where a lenient reading misses one, so are the next
-- (T.4, 4.1.2 and 4.1.4; T.6, 2.4.1.1).
abbrev pub gap_is_settled : DecodeSettings → ℕ → Bool → Bits → Bool
gap_is_settled settings taken has_eols here =
    eols_here_are_settled settings here && (not (misses_eol settings taken has_eols here) || settings.strict
    || next_eols_are_settled settings (next_eol here))

-- the first gap of the data is the same whatever bits follow: in Group 3 its EOLs are read without tags (T.4, 4.1.2; T.6,
-- 2.4.1.1)
abbrev pub first_gap_is_settled : EncodingMode → DecodeSettings → Bits → Bool
first_gap_is_settled Group4 settings bits = gap_is_settled settings 0 false bits
first_gap_is_settled Group3_1D settings bits = holds_one (all_eols bits).1
first_gap_is_settled Group3_2D settings bits = holds_one (all_eols bits).1

-- ---- The law

-- The gap here passes the test exactly if it is the same whatever bits follow. Then whether it misses an EOL is the same
-- too, and so is what is counted of it. After a gap that doesn't pass whole bytes can come that change it. So it is with the
-- first gap of the data (T.4, 4.1.2 and 4.1.4; T.6, 2.4.1.1).
pub record GapsSettle : Type 0 where
  pub gaps : (settings : DecodeSettings) (taken : ℕ) (has_eols : Bool) (here : Bits)
      → (gap_is_settled settings taken has_eols here ≡ true) ↔ GapIsSettled settings taken has_eols here
  pub missed : (settings : DecodeSettings) (taken : ℕ) (has_eols : Bool) (here more : Bits)
      → gap_is_settled settings taken has_eols here ≡ true
      → misses_eol settings taken has_eols (here ++ more) ≡ misses_eol settings taken has_eols here
  pub counted : (held : Held) (here more : Bits) → gap_is_settled held.settings held.taken held.has_eols here ≡ true
      → repairs_after held (here ++ more) ≡ repairs_after held here
  pub bytes : (settings : DecodeSettings) (taken : ℕ) (has_eols : Bool) (here : Bits)
      → gap_is_settled settings taken has_eols here ≡ false
      → (more : Bits) × AreWholeBytes more × (gap_after_row settings taken has_eols (here ++ more)
      ≢ gap_before more (gap_after_row settings taken has_eols here))
  pub first : (settings : DecodeSettings) (bits : Bits)
      → (first_gap_is_settled settings.encoding settings bits ≡ true) ↔ FirstGapIsSettled settings bits
  pub first_bytes : (settings : DecodeSettings) (bits : Bits) → first_gap_is_settled settings.encoding settings bits ≡ false
      → (more : Bits) × AreWholeBytes more × (first_gap settings.encoding settings (bits ++ more)
      ≢ move_before more (first_gap settings.encoding settings bits))
