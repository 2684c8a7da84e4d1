-- A turn leaves a suffix of the bits that it begins with, and seeks EOLs as before or has given them up.
use Rattle.fax_reading.proofs.Names.{Reaches, eols_by, aligned, move_on, length, Option, Group4, arith, false, subst, zero, Bool}
use Rattle.fax_reading.proofs.Names.{common_steps, row_before, aligned_after_row, misses_eol, after_line, Group3_2D, after_eol}
use Rattle.fax_reading.proofs.Names.{next_eol}
use Rattle.fax_reading.proofs.Names.{eols_here, line_here, replicate, Group3_1D, past_tag, one_more, Progress, with_row, repaired}
use Rattle.fax_reading.proofs.Names.{take-append-drop, DecodeSettings, eols_with_tags, pass_last_tag, append_assoc, EncodingMode}
use Rattle.fax_reading.proofs.Names.{true, cond, ◌&&◌, ◌||◌, ◌++◌, take, Some, None, refl, Bits, Turn, Line, leb, ◌∷◌, sym, ◌∙◌}
use Rattle.fax_reading.proofs.Names.{◌⊎◌, inl, inr, Row, ◌≡◌, suc, ◌%◌, not, [], ℕ}
use Rattle.fax_bits.proofs.BitReading.ConsecutiveEols.{counts_tagged, counts_plain, CountsEols}
use Rattle.fax_bits.proofs.{Repetition.Repeated.not_next, CodeWords.ReadRuns.chosen}
use Rattle.fax_reading.proofs.DamagedLines.PastEol.{next_eol_leaves, after_eol_is}
use Rattle.fax_reading.proofs.DrawingLines.LinesLeaveBits.{line_by_leaves, leaves_trans, LeavesBits, LineLeaves}
use Rattle.fax_reading.proofs.Readings.RowsAndGaps.{after_damage-is, after_whole-is, unless_over, seek_from, after_row, row_added}
use Rattle.fax_reading.proofs.Readings.TurnsMoveOn.{unless_over_next}

-- ---- EOLs

after_eol_leaves : (here rest : Bits) → after_eol 0 here ≡ Some rest → LeavesBits here rest
after_eol_leaves here rest e = let is = after_eol_is 0 here rest e in
    (replicate is.0 false ++ true ∷ [], is.1 ∙ sym (append_assoc (replicate is.0 false) (true ∷ []) rest))

pub past_tag_leaves : (here : Bits) → LeavesBits here (past_tag here)
past_tag_leaves [] = ([], refl)
past_tag_leaves (false ∷ here) = ([], refl)
past_tag_leaves (true ∷ here) = by_after_eol (after_eol 0 here) refl
  where
    by_after_eol : (o : Option Bits) → after_eol 0 here ≡ o → LeavesBits (true ∷ here) (past_tag (true ∷ here))
    by_after_eol None e = rw (e, past_tag) ([], refl)
    by_after_eol (Some rest) e = rw (e, past_tag) (true ∷ [], refl)

one_more_leaves : (here : Bits) (found : ℕ × Bits) → LeavesBits here found.1 → LeavesBits here (one_more found).1
one_more_leaves here (count, rest) leaves = leaves

module _ {pass : Bits → Bits} {count : ℕ → Bits → ℕ × Bits} (counts : CountsEols pass count)
    (passes : (here : Bits) → LeavesBits here (pass here)) where
  pub count_leaves : (most : ℕ) (here : Bits) → LeavesBits here (count most here).1
  count_leaves zero here = subst (λ (found : ℕ × Bits). LeavesBits here found.1) (sym (counts.start here)) ([], refl)
  count_leaves (suc most) here = by_after_eol (λ rest. count_leaves most rest) (after_eol 0 here) refl
    where
      by_after_eol : ((rest : Bits) → LeavesBits rest (count most rest).1) → (o : Option Bits) → after_eol 0 here ≡ o
          → LeavesBits here (count (suc most) here).1
      by_after_eol on None e = grind (arith, common_steps)
      by_after_eol on (Some rest) e = subst (λ (found : ℕ × Bits). LeavesBits here found.1) (sym (counts.some most here rest e))
          (one_more_leaves here (count most (pass rest)) (leaves_trans here rest (count most (pass rest)).1 (after_eol_leaves here
          rest e) (leaves_trans rest (pass rest) (count most (pass rest)).1 (passes rest) (on (pass rest)))))

last_tag_leaves : (here : Bits) (found : ℕ × Bits) → LeavesBits here found.1 → LeavesBits here (pass_last_tag found).1
last_tag_leaves here (count, []) leaves = leaves
last_tag_leaves here (count, false ∷ rest) leaves = leaves
last_tag_leaves here (count, true ∷ rest) leaves = either_way (leb 6 count)
  where
    either_way : (b : Bool) → LeavesBits here (cond {A = ℕ × Bits} b (count, rest) (count, true ∷ rest)).1
    either_way true = leaves_trans here (true ∷ rest) rest leaves (true ∷ [], refl)
    either_way false = leaves

pub eols_leave_bits : (settings : DecodeSettings) (here : Bits) → LeavesBits here (eols_here settings here).1
eols_leave_bits settings here = by_encoding settings.encoding settings.end_of_block
  where
    by_encoding : (encoding : EncodingMode) (block : Bool) → LeavesBits here (eols_by encoding block here).1
    by_encoding Group3_1D block = count_leaves counts_plain (λ bits. ([], refl)) (length here) here
    by_encoding Group3_2D block =
        last_tag_leaves here (eols_with_tags (length here) here) (count_leaves counts_tagged past_tag_leaves (length here) here)
    by_encoding Group4 true = count_leaves counts_plain (λ bits. ([], refl)) 2 here
    by_encoding Group4 false = count_leaves counts_plain (λ bits. ([], refl)) (length here) here

-- ---- Turns

-- what is left of some bits is a suffix, and EOLs are sought as before or are given up
abbrev pub TurnLeavesBits : Bool → Bits → Progress → Type 0
TurnLeavesBits has_eols here t = LeavesBits here t.rest × ((t.has_eols ≡ has_eols) ⊎ (t.has_eols ≡ false))

counted_leaves : (settings : DecodeSettings) (run t : Progress) (here : Bits) → LeavesBits run.rest here
    → unless_over settings run (eols_here settings here) ≡ Turn.next t → TurnLeavesBits run.has_eols run.rest t
counted_leaves settings run t here leaves e =
    subst (TurnLeavesBits run.has_eols run.rest) (unless_over_next settings run t (eols_here settings here) e)
    (leaves_trans run.rest here (eols_here settings here).1 leaves (eols_leave_bits settings here), inl refl)

seek_leaves : (settings : DecodeSettings) (run t : Progress) (o : Option Bits) → next_eol run.rest ≡ o
    → seek_from settings run o ≡ Turn.next t → TurnLeavesBits run.has_eols run.rest t
seek_leaves settings run t o e f = grind (arith, common_steps, counted_leaves, next_eol_leaves)

pub after_row_leaves : (settings : DecodeSettings) (run t : Progress) → after_row settings run ≡ Turn.next t
    → TurnLeavesBits run.has_eols run.rest t
after_row_leaves settings run t e = elim (chosen (misses_eol settings (length run.rows) run.has_eols run.rest) _ _ _ e) [
  | inl missed ↦ elim (chosen settings.strict _ _ _ missed.1)
      [ inl over ↦ absurd (not_next _ t over.1) | inr seeks ↦ seek_leaves settings run t (next_eol run.rest) refl seeks.1 ]
  | inr counted ↦ counted_leaves settings run t run.rest ([], refl) counted.1
]

after_leaves : (b : Bool) (rest : Bits) → LeavesBits rest (cond b (aligned rest) rest)
after_leaves true rest = (take (length rest % 8) rest, sym (take-append-drop (length rest % 8) rest))
after_leaves false rest = ([], refl)

added_leaves : (settings : DecodeSettings) (s t : Progress) (row : Row) (rest : Bits) → LeavesBits s.rest rest
    → row_added settings s row rest ≡ Turn.next t → TurnLeavesBits s.has_eols s.rest t
added_leaves settings s t row rest leaves e =
    let after : Bits = aligned_after_row settings s.has_eols rest in
    let more = after_row_leaves settings (with_row s row after) t e in (
      leaves_trans s.rest after t.rest
          (leaves_trans s.rest rest after leaves (after_leaves (settings.rows_are_byte_aligned && not s.has_eols) rest)) more.0,
      more.1,
    )

line_leaves : (settings : DecodeSettings) (s t : Progress) (line : Line) → LineLeaves s.rest line
    → after_line settings s line ≡ Turn.next t → TurnLeavesBits s.has_eols s.rest t
line_leaves settings s t (Line.whole row rest) leaves e =
    added_leaves settings s t row rest leaves (sym (after_whole-is settings s row rest) ∙ e)
line_leaves settings s t (Line.broken front fault) leaves e =
    elim (chosen (settings.strict || not s.has_eols) _ _ _ (sym (after_damage-is settings s front fault) ∙ e)) [
      | inl over ↦ absurd (not_next _ t over.1)
      | inr added ↦ added_leaves settings s t (repaired settings.columns front) s.rest ([], refl) added.1
    ]

turn_leaves : (settings : DecodeSettings) (s t : Progress) → move_on settings s ≡ Turn.next t → TurnLeavesBits s.has_eols s.rest t
turn_leaves settings s t e = let above : Row = row_before settings.columns s.rows in
    line_leaves settings s t (line_here settings above s.rest)
    (line_by_leaves settings.encoding settings.strict settings.columns above s.rest) e

-- so do turns one after another
pub reached_leaves : (settings : DecodeSettings) (s last : Progress) → Reaches (move_on settings) s last
    → TurnLeavesBits s.has_eols s.rest last
reached_leaves settings s last (Reaches.stays same) = (([], refl), inl refl)
reached_leaves settings s last (Reaches.moves from after end e reaches) = grind (
  arith,
  common_steps,
  reached_leaves settings after end reaches,
  turn_leaves settings from after e,
  leaves_trans from.rest after.rest end.rest,
)
