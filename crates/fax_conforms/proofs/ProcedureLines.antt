-- Lines by the coding procedure, from one to the next.
use Rattle.hayro_ccitt.proofs.Names.{◌≡◌, ℕ, ◌+◌, ◌<◌, ◌≤◌, Bool, true, false, Option, Some, [], ◌++◌, ◌↔◌, length, refl}
use Rattle.hayro_ccitt.proofs.Names.{ap, sym, subst, ◌∙◌, append_assoc, append_cancel_left, arith, inl, inr, Bits, Row}
use Rattle.hayro_ccitt.proofs.Names.{DecodeSettings, EncodingMode, Group4, Group3_1D, Group3_2D, EncodesLine, eol, padding}
use Rattle.hayro_ccitt.proofs.Names.{cond, length-append, ◌≢◌, ◌⊎◌, Ok}
use Rattle.std.specs.Prelude.{not, ◌&&◌}
use Rattle.fax_encode.specs.Procedure.{line_by_procedure, part_by_procedure}
use Rattle.fax_encode.specs.Chosen.{chosen_line_1d, chosen_line_2d}
use Rattle.fax_encode.proofs.ChosenLines.{line_1d_encodes, line_2d_encodes}
use Rattle.fax_conforms.specs.Standing.{LineStands, Leads, Never, IsOnly}
use Rattle.fax_conforms.specs.Conforming.{EolStands}
use Rattle.hayro_ccitt.proofs.Names.{List, Result, Err, AreChanges, pixels}
use Rattle.hayro_ccitt.proofs.PixelRows.ChangesAndPixels.{length-pixels}
use Rattle.fax_conforms.specs.Stops.{IsViolated}
use Rattle.fax_conforms.specs.declared.stops.Stop.{Stop}
use Rattle.fax_conforms.specs.Checks.{IsOnlyPart, NoPart, PassesPart, ReadsPart}
use Rattle.fax_conforms.specs.ByProcedure.{EndStands, EndsHere, HasKind, LeadStands, LinesByProcedure, PartStands}
use Rattle.fax_conforms.specs.ByProcedure.{left_after, part_of}
use Rattle.hayro_ccitt.specs.Pictures.{Allows}
use Rattle.fax_conforms.proofs.BodyLines.{line_has_bits}
use Rattle.fax_conforms.proofs.EolsHere.{one_eol}

-- ---- What is before a line.
pub later_lead : (has_eols : Bool) (taken : ℕ) (here rest : Bits) → has_eols ≡ true → 0 < taken
    → EolStands here rest ↔ LeadStands has_eols taken here rest
later_lead true taken here rest has later =
    (λ (fill, is). (fill, (λ first. absurd (omega (arith, first, later))), is), λ (fill, few, is). (fill, is))
later_lead false taken here rest has later = absurd cc

pub first_lead : (has_eols : Bool) (taken : ℕ) (here rest : Bits) → has_eols ≡ true → taken ≡ 0
    → (here ≡ eol 0 ++ rest) ↔ LeadStands has_eols taken here rest
first_lead true taken here rest has first =
    (λ is. (0, (λ e. refl), is), λ (fill, few, is). is ∙ ap (λ (n : ℕ). eol n ++ rest) (few first))
first_lead false taken here rest has first = absurd cc

one_lead : (has_eols : Bool) (taken : ℕ) (here x y : Bits) → LeadStands has_eols taken here x → LeadStands has_eols taken here y
    → x ≡ y
one_lead true taken here x y (m, few, one) (n, too, two) = one_eol here x y (m, one) (n, two)
one_lead false taken here x y one two = sym one ∙ two

-- and has no bits, or some
pub lead_shorter : (has_eols : Bool) (taken : ℕ) (here rest : Bits) → LeadStands has_eols taken here rest
    → length rest ≤ length here
lead_shorter true taken here rest (fill, few, is) = omega (arith, ap length is, length-append (eol fill) rest)
lead_shorter false taken here rest is = omega (arith, ap length is)

-- ---- A line.

-- the kind of the line that is passed
abbrev pub kind_if : Bool → Result (Unit {0}) Stop → Result Bool Stop
kind_if is_two (Ok done) = Ok is_two
kind_if is_two (Err stop) = Err stop

-- none is read
pub no_part_read : (answer : Result Bool Stop) (settings : DecodeSettings) (line : Bool → Row → Bits → Type 0) (changes : List ℕ)
    (here rest : Bits) → IsViolated answer → NoPart settings line → ReadsPart settings line changes here rest answer
no_part_read (Ok is_two) settings line changes here rest violated none = absurd violated
no_part_read (Err stop) settings line changes here rest violated none = λ broken. none

pub none_passes : (answer : Result (Unit {0}) Stop) (part here rest : Bits) → IsViolated answer
    → ((others : Bits) → here ≡ part ++ others → ⊥) → PassesPart part here rest answer
none_passes (Ok done) part here rest violated none = absurd violated
none_passes (Err stop) part here rest violated none = λ broken. none

-- what the procedure writes is a line
pub by_procedure_encodes : (encoding : EncodingMode) (is_two : Bool) (reference row : Row) → HasKind encoding is_two
    → length reference ≡ length row → 0 < length row
    → EncodesLine encoding reference row (line_by_procedure encoding is_two reference row)
by_procedure_encodes Group4 true reference row kind same some = line_2d_encodes reference row same
by_procedure_encodes Group4 false reference row kind same some = absurd cc
by_procedure_encodes Group3_1D true reference row kind same some = absurd cc
by_procedure_encodes Group3_1D false reference row kind same some = line_1d_encodes row some
by_procedure_encodes Group3_2D true reference row kind same some =
    (chosen_line_2d reference row, inr (refl, line_2d_encodes reference row same))
by_procedure_encodes Group3_2D false reference row kind same some =
    (chosen_line_1d row, inl (refl, line_1d_encodes row some))

module _ (settings : DecodeSettings) (has_eols : Bool) (left : Option ℕ) (reference : Row) (here : Bits)
    (wide : 0 < settings.columns) (small : settings.columns ≤ 4294967295) (same : length reference ≡ settings.columns) where
  abbrev fills : Bool
  fills = settings.rows_are_byte_aligned && not has_eols

  -- a line by the procedure is a line that stands
  pub part_is_line : (is_two : Bool) (row : Row) (rest : Bits) → length row ≡ settings.columns
      → PartStands settings has_eols left reference here is_two row rest
      → (more : Bits) × LineStands settings.encoding reference row here more
  part_is_line is_two row rest len ((kind, may), is) =
      let line : Bits = line_by_procedure settings.encoding is_two reference row in
      let fill : Bits = cond fills (padding (length line)) [] in (
        fill ++ rest,
        (
          line,
          by_procedure_encodes settings.encoding is_two reference row kind (same ∙ sym len) (omega arith),
          is ∙ append_assoc line fill rest,
        ),
      )

  -- there is none where no line stands
  pub no_line_no_part : Never settings.columns (λ row rest. LineStands settings.encoding reference row here rest)
      → NoPart settings (PartStands settings has_eols left reference here)
  no_line_no_part never is_two row rest len part =
      let (more, stands) = part_is_line is_two row rest len part in never row more len stands

  module _ (is_two : Bool)
      (only_kind : (kind : Bool) (row : Row) (rest : Bits) → HasKind settings.encoding kind
      → here ≡ part_by_procedure settings.encoding fills kind reference row ++ rest → kind ≡ is_two) where
    -- nor where one of that kind may not come
    pub no_kind_no_part : ((is_two ≡ true → left ≢ Some 0) → ⊥)
        → NoPart settings (PartStands settings has_eols left reference here)
    no_kind_no_part never kind row rest len ((has, may), is) =
        never (subst (λ (b : Bool). b ≡ true → left ≢ Some 0) (only_kind kind row rest has is) may)

    module _ (changes : List ℕ) (ends : Bits) (lawful : AreChanges settings.columns changes)
        (lines : Leads settings.columns (λ row rest. LineStands settings.encoding reference row here rest)
        (IsOnly (pixels settings.columns changes) ends)) where
      abbrev read : Row
      read = pixels settings.columns changes

      row_is : (kind : Bool) (row : Row) (rest : Bits) → length row ≡ settings.columns
          → PartStands settings has_eols left reference here kind row rest → row ≡ read
      row_is kind row rest len part =
          let (more, stands) = part_is_line kind row rest len part in ((lines row more len).0 stands).0

      -- only the line of the row that is read
      part_of_row : (kind : Bool) (row : Row) (rest : Bits) → length row ≡ settings.columns
          → PartStands settings has_eols left reference here kind row rest
          → here ≡ part_by_procedure settings.encoding fills is_two reference read ++ rest
      part_of_row kind row rest len ((has, may), is) =
          is
          ∙ ap (λ (b : Bool). part_by_procedure settings.encoding fills b reference row ++ rest) (only_kind kind row rest has is)
          ∙ ap (λ (r : Row). part_by_procedure settings.encoding fills is_two reference r ++ rest)
          (row_is kind row rest len ((has, may), is))

      module _ (has : HasKind settings.encoding is_two) (may : is_two ≡ true → left ≢ Some 0) where
        only_part : (rest : Bits) → here ≡ part_by_procedure settings.encoding fills is_two reference read ++ rest
            → IsOnlyPart settings (PartStands settings has_eols left reference here) changes here rest is_two
        only_part rest is =
            let line : Bits = line_by_procedure settings.encoding is_two reference read in
            let fill : Bits = cond fills (padding (length line)) [] in
            let len : length read ≡ settings.columns = length-pixels settings.columns changes lawful in
            let some = line_has_bits settings wide small settings.encoding reference read line refl
            (by_procedure_encodes settings.encoding is_two reference read has (same ∙ sym len) (omega (arith, len, wide))) len in
            record {
              lawful = lawful;
              stands = ((has, may), is);
              only = λ kind row others len part. (
                only_kind kind row others part.0.0 part.1,
                row_is kind row others len part,
                append_cancel_left (part_by_procedure settings.encoding fills is_two reference read) others rest
                    (sym (part_of_row kind row others len part) ∙ is),
              );
              shorter = omega (arith, some, ap length is, length-append (line ++ fill) rest, length-append line fill);
            }

        -- is compared with the bits
        pub part_read : (rest : Bits) (answer : Result (Unit {0}) Stop)
            → PassesPart (part_of settings has_eols is_two reference read) here rest answer
            → ReadsPart settings (PartStands settings has_eols left reference here) changes here rest (kind_if is_two answer)
        part_read rest (Ok done) passes = only_part rest passes
        part_read rest (Err stop) passes = λ broken kind row others len part.
            passes broken others (part_of_row kind row others len part)

-- ---- From one line to the next.
module _ (settings : DecodeSettings) (k : Option ℕ) (has_eols : Bool) (taken : ℕ) (left : Option ℕ) (reference : Row)
    (here : Bits) (unended : EndsHere settings has_eols taken here → ⊥) where
  -- no lines stand where what is before one doesn't
  pub no_lead_no_lines : ((middle : Bits) → LeadStands has_eols taken here middle → ⊥)
      → LinesByProcedure settings k has_eols taken left reference here → ⊥
  no_lead_no_lines none (LinesByProcedure.over ends) = unended ends
  no_lead_no_lines none (LinesByProcedure.line middle is_two row rest lead len part lines) = none middle lead

  module _ (middle : Bits) (lead : LeadStands has_eols taken here middle) where
    -- nor where no line does
    pub no_part_no_lines : NoPart settings (PartStands settings has_eols left reference middle)
        → LinesByProcedure settings k has_eols taken left reference here → ⊥
    no_part_no_lines none (LinesByProcedure.over ends) = unended ends
    no_part_no_lines none (LinesByProcedure.line other is_two row rest lead2 len part lines) =
        none is_two row rest len (subst (λ (x : Bits). PartStands settings has_eols left reference x is_two row rest)
        (one_lead has_eols taken here other middle lead2 lead) part)

    -- else they go on after the line
    module _ (is_two : Bool) (row : Row) (next : Bits) (row_len : length row ≡ settings.columns)
        (part : PartStands settings has_eols left reference middle is_two row next)
        (only : (kind : Bool) (other : Row) (others : Bits) → length other ≡ settings.columns
        → PartStands settings has_eols left reference middle kind other others
        → (kind ≡ is_two) × (other ≡ row) × (others ≡ next)) where
      lines_on : LinesByProcedure settings k has_eols taken left reference here
          → LinesByProcedure settings k has_eols (taken + 1) (left_after k left is_two) row next
      lines_on (LinesByProcedure.over ends) = absurd (unended ends)
      lines_on (LinesByProcedure.line first kind other others lead2 len part2 lines) =
          let same = only kind other others len
          (subst (λ (x : Bits). PartStands settings has_eols left reference x kind other others)
          (one_lead has_eols taken here first middle lead2 lead) part2) in
          subst (λ (x : Bits). LinesByProcedure settings k has_eols (taken + 1) (left_after k left is_two) row x) same.2
          (subst (λ (r : Row). LinesByProcedure settings k has_eols (taken + 1) (left_after k left is_two) r others) same.1
          (subst (λ (b : Bool). LinesByProcedure settings k has_eols (taken + 1) (left_after k left b) other others)
          same.0 lines))

      pub by_procedure_goes_on : LinesByProcedure settings k has_eols taken left reference here
          ↔ LinesByProcedure settings k has_eols (taken + 1) (left_after k left is_two) row next
      by_procedure_goes_on = (lines_on, λ lines. LinesByProcedure.line middle is_two row next lead row_len part lines)

-- ---- The row limit.

-- as many rows are allowed, and fewer
fewer_allowed : (rows taken : ℕ) → (rows ≡ 0) ⊎ (taken + 1 ≤ rows) → (rows ≡ 0) ⊎ (taken ≤ rows)
fewer_allowed rows taken (inl none) = inl none
fewer_allowed rows taken (inr few) = inr (omega (arith, few))

ended_allowed : (closed : Bool) (settings : DecodeSettings) (taken : ℕ) (here rest : Bits)
    → EndStands closed settings taken here rest → Allows settings taken
ended_allowed true settings taken here rest (allows, closing) = allows
ended_allowed false settings taken here rest ((limit, some), is) = inr (omega (arith, limit))

module _ (settings : DecodeSettings) (k : Option ℕ) (has_eols : Bool) where
  lines_allowed : (taken : ℕ) (left : Option ℕ) (reference : Row) (here : Bits)
      → LinesByProcedure settings k has_eols taken left reference here → Allows settings taken
  lines_allowed taken left reference here (LinesByProcedure.over (rest, ends, few)) =
      ended_allowed _ settings taken here rest ends
  lines_allowed taken left reference here (LinesByProcedure.line middle is_two row rest lead len part lines) =
      fewer_allowed settings.rows taken (lines_allowed (taken + 1) (left_after k left is_two) row rest lines)

  none_allowed : (taken : ℕ) → (settings.rows ≡ taken) × (0 < taken) → Allows settings (taken + 1) → ⊥
  none_allowed taken (limit, some) (inl none) = omega (arith, limit, some, none)
  none_allowed taken (limit, some) (inr few) = omega (arith, limit, few)

  -- no line follows where the row limit is met
  pub no_lines_past_limit : (taken : ℕ) (left : Option ℕ) (reference : Row) (here : Bits)
      → (settings.rows ≡ taken) × (0 < taken) → (EndsHere settings has_eols taken here → ⊥)
      → LinesByProcedure settings k has_eols taken left reference here → ⊥
  no_lines_past_limit taken left reference here met unended (LinesByProcedure.over ends) = unended ends
  no_lines_past_limit taken left reference here met unended (LinesByProcedure.line middle is_two row rest lead len part lines) =
      none_allowed taken met (lines_allowed (taken + 1) (left_after k left is_two) row rest lines)
