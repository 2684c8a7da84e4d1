-- Where lines of pictures begin, their padding, and how readings that reach their end are described.
use Rattle.fax_reading.proofs.Names.{◌≡◌, ℕ, suc, ◌+◌, ◌-◌, ◌/◌, ◌<◌, ◌≤◌, Bool, true, false, cond, not, leb, List, [], ◌∷◌}
use Rattle.fax_reading.proofs.Names.{◌++◌, length, None, Ok, refl, arith, not-true, false≢true, Color, EncodingMode}
use Rattle.fax_reading.proofs.Names.{DecodeSettings, Bits, Row, after_eol, Progress, Ending, row_before}
use Rattle.fax_reading.proofs.Names.{aligned, at_end, limit_met, end_of, plain, Allows, EncodesLine2D, padding, common_steps}

-- settings for a closed picture: the end of the block is looked for, and there is no limit
abbrev pub closed_settings : EncodingMode → ℕ → Bool → DecodeSettings
closed_settings encoding columns aligned = record {
  columns = columns;
  rows = 0;
  end_of_block = true;
  end_of_line = false;
  rows_are_byte_aligned = aligned;
  encoding = encoding;
  strict = false;
}

-- ---- There is no EOL at a mode word.
abbrev pub begins_no_eol : ℕ → Bits → Bool
begins_no_eol seen [] = false
begins_no_eol seen (false ∷ word) = begins_no_eol (suc seen) word
begins_no_eol seen (true ∷ word) = not (leb 11 seen)

-- there is no EOL before such a word
pub no_eol_at_word : (seen : ℕ) (word more : Bits) → begins_no_eol seen word ≡ true → after_eol seen (word ++ more) ≡ None
no_eol_at_word seen [] more e = absurd (false≢true e)
no_eol_at_word seen (false ∷ word) more e = no_eol_at_word (suc seen) word more e
no_eol_at_word seen (true ∷ word) more e = rw (not-true (leb 11 seen) e) refl

-- nor does the data end there
pub bits_at_word : (word more : Bits) → begins_no_eol 0 word ≡ true → at_end (word ++ more) ≡ false
bits_at_word [] more e = absurd (false≢true e)
bits_at_word (b ∷ word) more e = refl

-- where a line begins there is no EOL, and not the end
pub record IsLineStart (here : Bits) : Type 0 where
  pub no_eol : after_eol 0 here ≡ None
  pub open_end : at_end here ≡ false

pub line_2d_starts : (reference row : Row) (from : ℕ) (color : Color) (bits more : Bits)
    → EncodesLine2D reference row from color bits → from ≤ length row → IsLineStart (bits ++ more)
line_2d_starts reference row from color bits more given le = grind (arith, common_steps)

-- ---- One line of a run.
pub allows_sum : (settings : DecodeSettings) (n : ℕ) → Allows settings n → Allows settings (0 + n)
allows_sum settings n allows = let e : 0 + n ≡ n = omega arith in rw e allows

-- a limit that allows more rows is not met
pub not_met : (settings : DecodeSettings) (n k : ℕ) → Allows settings n → k < n → limit_met settings k ≡ false
not_met settings n k given lt = grind (arith, common_steps)

-- ---- Padding.
abbrev pub fill : Bool → Bits → Bits
fill b line = cond b (padding (length line)) []

-- ---- The lines of a picture.
pub row_before_push : (columns : ℕ) (rows : List Row) (row : Row) → row_before columns (rows ++ row ∷ []) ≡ row
row_before_push columns [] row = refl
row_before_push columns (first ∷ []) row = refl
row_before_push columns (first ∷ next ∷ rows) row = row_before_push columns (next ∷ rows) row

-- a state between lines, where no EOLs are sought
abbrev pub between : List Row → Bits → Progress
between rows rest = record { rows = rows; has_eols = false; rest = rest }

-- the end of a run that reached its end
abbrev pub ended_with : List Row → Bits → Ending
ended_with rows rest = record { rows = rows; has_eols = false; outcome = Ok rest }

-- ---- Over whole data.
pub plain_ends : (settings : DecodeSettings) (stream : Bits) (end : Ending) (rest : Bits) → 0 < settings.columns
    → end_of settings stream ≡ end → end.outcome ≡ Ok rest → plain settings stream
    ≡ record { rows = end.rows; outcome = Ok ((length stream - length rest + 7) / 8); has_eols = end.has_eols }
plain_ends settings stream end rest wide e outcome = grind (arith, common_steps)
