-- What conforms by the procedure is what is chosen for its rows.
use Rattle.hayro_ccitt.proofs.Names.{◌≡◌, ℕ, ◌+◌, ◌-◌, ◌%◌, ◌<◌, Bool, true, false, not, ◌&&◌, cond, []}
use Rattle.hayro_ccitt.proofs.Names.{◌++◌, Option, Some, length, refl, ap, sym, subst, ◌∙◌, append_assoc, arith, Bits, Row}
use Rattle.hayro_ccitt.proofs.Names.{DecodeSettings, EncodingMode, Group4, Group3_1D, Group3_2D, eol, padding, tag_of, white_row}
use Rattle.hayro_ccitt.proofs.Names.{append-nil, length-append, length-replicate, replicate}
use Rattle.hayro_ccitt.specs.Bits.{AreWholeBytes}
use Rattle.fax_encode.specs.Chosen.{filled_up}
use Rattle.fax_encode.specs.Procedure.{part_by_procedure}
use Rattle.fax_encode.specs.Settings as choice
use Rattle.fax_encode.specs.Settings.{chosen_group3, chosen_group4, chosen_line, chosen_lines, chosen_lines_with_eols}
use Rattle.fax_encode.specs.Settings.{chosen_picture}
use Rattle.fax_encode.specs.Settings.{is_closed}
use Rattle.fax_encode.specs.declared.settings.Effort.{Effort}
use Rattle.fax_encode.specs.declared.settings.Effort.TheVariants.{Procedure}
use Rattle.fax_conforms.specs.ByProcedure.{ClosingStands, EndStands, LeadStands, LinesByProcedure}
use Rattle.fax_conforms.specs.ByProcedure.{left_at_first, tagged_eols}
use Rattle.fax_conforms.specs.Encoded.{ClosingHasNoFill, EndHasNoFill, HaveNoFill, KindsAreChosen, LeadHasNoFill}
use Rattle.fax_conforms.specs.Encoded.{chosen_kind, rows_in}
use Rattle.fax_conforms.specs.Laws.{ProcedureIsEncoded}
use Rattle.fax_conforms.proofs.ChosenConforms.{part_is, plain_eols, read_by}
use Rattle.fax_conforms.proofs.ProcedureEnds.{split_eols}

-- ---- The end.

-- what ends a picture, without fill
abbrev end_bits : EncodingMode → Bool → Bits
end_bits encoding false = []
end_bits Group4 true = eol 0 ++ eol 0
end_bits Group3_1D true = tagged_eols Group3_1D 6
end_bits Group3_2D true = tagged_eols Group3_2D 6

-- and zeros after it
abbrev EndsWith : Bits → Bits → Type 0
EndsWith here ending = (zeros : ℕ) × (zeros < 8) × (here ≡ ending ++ replicate zeros false)

rtc_is_plain : (encoding : EncodingMode) (fill : ℕ) (here rest : Bits) → fill ≡ 0
    → here ≡ eol fill ++ (tag_of encoding ++ (tagged_eols encoding 5 ++ rest)) → here ≡ tagged_eols encoding 6 ++ rest
rtc_is_plain encoding fill here rest none is =
    is ∙ ap (λ (n : ℕ). eol n ++ (tag_of encoding ++ (tagged_eols encoding 5 ++ rest))) none ∙ sym (split_eols encoding 5 rest)

closing_is : (encoding : EncodingMode) (taken : ℕ) (here rest : Bits) (closing : ClosingStands encoding taken here rest)
    → ClosingHasNoFill encoding taken here rest closing → here ≡ end_bits encoding true ++ rest
closing_is Group4 taken here rest closing none = closing ∙ sym (append_assoc (eol 0) (eol 0) rest)
closing_is Group3_1D taken here rest (some, (fill, is)) none = rtc_is_plain Group3_1D fill here rest none is
closing_is Group3_2D taken here rest (some, (fill, is)) none = rtc_is_plain Group3_2D fill here rest none is

end_is : (closed : Bool) (settings : DecodeSettings) (taken : ℕ) (here rest : Bits)
    (ends : EndStands closed settings taken here rest) → EndHasNoFill closed settings taken here rest ends
    → here ≡ end_bits settings.encoding closed ++ rest
end_is true settings taken here rest (allows, closing) none = closing_is settings.encoding taken here rest closing none
end_is false settings taken here rest (limit, is) none = is

-- ---- Lines.
module _ (settings : DecodeSettings) (k : ℕ) where
  abbrev next_left : ℕ → Row → Row → ℕ
  next_left n reference row = choice.left_after Procedure settings.encoding k n reference row

  -- a line that stands, of the kind that is chosen, and what follows it
  line_on : (has_eols fills is_two : Bool) (n : ℕ) (reference row : Row) (middle rest : Bits)
      → (settings.rows_are_byte_aligned && not has_eols) ≡ fills → is_two ≡ chosen_kind settings.encoding n reference row
      → middle ≡ part_by_procedure settings.encoding (settings.rows_are_byte_aligned && not has_eols) is_two reference row ++ rest
      → middle ≡ chosen_line Procedure settings.encoding n reference row
      ++ (cond fills (padding (length (chosen_line Procedure settings.encoding n reference row))) [] ++ rest)
  line_on has_eols fills is_two n reference row middle rest same kind is =
      is ∙ ap (λ (f : Bool). part_by_procedure settings.encoding f is_two reference row ++ rest) same
      ∙ ap (λ (b : Bool). part_by_procedure settings.encoding fills b reference row ++ rest) kind
      ∙ sym (part_is settings.encoding n fills reference row rest)

  filled_lines : (aligned : Bool) → (aligned && not false) ≡ aligned
  filled_lines true = refl
  filled_lines false = refl

  plain_lines : (aligned : Bool) → (aligned && not true) ≡ false
  plain_lines true = refl
  plain_lines false = refl

  body_is : {taken : ℕ} {left : Option ℕ} {reference : Row} {here : Bits} (n : ℕ)
      (lines : LinesByProcedure settings (Some k) false taken left reference here) → KindsAreChosen k n lines → HaveNoFill lines
      → EndsWith here (chosen_lines Procedure settings.encoding k settings.rows_are_byte_aligned n reference (rows_in lines)
      ++ end_bits settings.encoding (is_closed settings.encoding false settings.end_of_block))
  body_is {taken = taken} {here = here} n (LinesByProcedure.over (rest, ends, (zeros, few, zeros_are))) kinds none =
      let closed : Bool = is_closed settings.encoding false settings.end_of_block in (
        zeros,
        few,
        end_is closed settings taken here rest ends none
            ∙ ap (λ (x : Bits). end_bits settings.encoding closed ++ x) zeros_are,
      )
  body_is {reference = reference} {here = here} n (LinesByProcedure.line middle is_two row rest lead len (may, is) lines)
      (kind, kinds) (plain, none) =
      let (zeros, few, follows) = body_is (next_left n reference row) lines kinds none in
      let aligned : Bool = settings.rows_are_byte_aligned in
      let line : Bits = chosen_line Procedure settings.encoding n reference row in
      let fill : Bits = cond aligned (padding (length line)) [] in
      let more : Bits = chosen_lines Procedure settings.encoding k aligned (next_left n reference row) row (rows_in lines) in
      let ending : Bits = end_bits settings.encoding (is_closed settings.encoding false settings.end_of_block) in
      let last : Bits = replicate zeros false in (
        zeros,
        few,
        lead ∙ line_on false aligned is_two n reference row middle rest (filled_lines aligned) kind is
            ∙ ap (λ (x : Bits). line ++ (fill ++ x)) follows ∙ sym (append_assoc line fill ((more ++ ending) ++ last))
            ∙ sym (append_assoc (line ++ fill) (more ++ ending) last)
            ∙ sym (ap (λ (x : Bits). x ++ last) (append_assoc (line ++ fill) more ending)),
      )

  lead_is : (taken : ℕ) (here middle : Bits) (lead : LeadStands true taken here middle)
      → LeadHasNoFill true taken here middle lead → here ≡ eol 0 ++ middle
  lead_is taken here middle (fill, first, is) none = is ∙ ap (λ (n : ℕ). eol n ++ middle) none

  lines_are : {taken : ℕ} {left : Option ℕ} {reference : Row} {here : Bits} (at n : ℕ)
      (lines : LinesByProcedure settings (Some k) true taken left reference here) → KindsAreChosen k n lines → HaveNoFill lines
      → EndsWith here (chosen_lines_with_eols Procedure settings.encoding k false at n reference (rows_in lines)
      ++ end_bits settings.encoding (is_closed settings.encoding true settings.end_of_block))
  lines_are {taken = taken} {here = here} at n (LinesByProcedure.over (rest, ends, (zeros, few, zeros_are))) kinds none =
      let closed : Bool = is_closed settings.encoding true settings.end_of_block in (
        zeros,
        few,
        end_is closed settings taken here rest ends none
            ∙ ap (λ (x : Bits). end_bits settings.encoding closed ++ x) zeros_are,
      )
  lines_are {taken = taken} {reference = reference} {here = here} at n
      (LinesByProcedure.line middle is_two row rest lead len (may, is) lines) (kind, kinds) (plain, none) =
      let line : Bits = chosen_line Procedure settings.encoding n reference row in
      let then_at : ℕ = at + 12 + 0 + length line in
      let (zeros, few, follows) = lines_are then_at (next_left n reference row) lines kinds none in
      let more : Bits = chosen_lines_with_eols Procedure settings.encoding k false then_at (next_left n reference row) row
      (rows_in lines) in
      let ending : Bits = end_bits settings.encoding (is_closed settings.encoding true settings.end_of_block) in
      let last : Bits = replicate zeros false in (
        zeros,
        few,
        lead_is taken here middle lead plain
            ∙ ap (λ (x : Bits). eol 0 ++ x) (line_on true false is_two n reference row middle rest
            (plain_lines settings.rows_are_byte_aligned) kind is ∙ ap (λ (x : Bits). line ++ x) follows)
            ∙ sym (append_assoc (eol 0) line ((more ++ ending) ++ last))
            ∙ sym (append_assoc (eol 0 ++ line) (more ++ ending) last)
            ∙ sym (ap (λ (x : Bits). x ++ last) (append_assoc (eol 0 ++ line) more ending)),
      )

-- ---- Pictures.

-- the zeros are those up to a whole byte
filled : (whole bits : Bits) → AreWholeBytes whole → EndsWith whole bits → whole ≡ filled_up bits
filled whole bits bytes (zeros, few, is) =
    let count : zeros ≡ (8 - length bits % 8) % 8 =
    omega (arith, few, bytes, ap length is, length-append bits (replicate zeros false), length-replicate zeros false) in
    is ∙ ap (λ (n : ℕ). bits ++ replicate n false) count

module _ (k : ℕ) (aligned : Bool) (columns count : ℕ) (whole : Bits) (bytes : AreWholeBytes whole) where
  -- it is what is chosen for the rows of its lines
  abbrev IsChosenAs : EncodingMode → Bool → Bool → Type 0
  IsChosenAs encoding eols closed = (lines : LinesByProcedure (read_by encoding eols aligned closed columns count) (Some k)
      (choice.has_eols encoding eols) 0 (left_at_first encoding) (white_row columns) whole)
      → KindsAreChosen k 0 lines → HaveNoFill lines
      → whole ≡ filled_up (chosen_picture Procedure encoding eols k false aligned closed (white_row columns) (rows_in lines))

  from_body : (encoding : EncodingMode) (eols closed : Bool)
      (lines : LinesByProcedure (read_by encoding eols aligned closed columns count) (Some k) false 0 (left_at_first encoding)
      (white_row columns) whole) → KindsAreChosen k 0 lines → HaveNoFill lines
      → whole ≡ filled_up (chosen_lines Procedure encoding k aligned 0 (white_row columns) (rows_in lines)
      ++ end_bits encoding (is_closed encoding false (is_closed encoding eols closed)))
  from_body encoding eols closed lines kinds none = filled whole _ bytes
      (body_is (read_by encoding eols aligned closed columns count) k 0 lines kinds none)

  from_lines : (encoding : EncodingMode) (closed : Bool)
      (lines : LinesByProcedure (read_by encoding true aligned closed columns count) (Some k) true 0 (left_at_first encoding)
      (white_row columns) whole) → KindsAreChosen k 0 lines → HaveNoFill lines
      → whole ≡ filled_up (chosen_lines_with_eols Procedure encoding k false 0 0 (white_row columns) (rows_in lines)
      ++ end_bits encoding (is_closed encoding true (is_closed encoding true closed)))
  from_lines encoding closed lines kinds none = filled whole _ bytes
      (lines_are (read_by encoding true aligned closed columns count) k 0 0 lines kinds none)

  no_end : (bits : Bits) → bits ++ [] ≡ bits
  no_end bits = append-nil bits

  picture_is : (encoding : EncodingMode) (eols closed : Bool) → IsChosenAs encoding eols closed
  picture_is Group4 eols true = λ lines kinds none. from_body Group4 eols true lines kinds none
  picture_is Group4 eols false = λ lines kinds none. from_body Group4 eols false lines kinds none
  picture_is Group3_1D true true = λ lines kinds none. from_lines Group3_1D true lines kinds none
      ∙ ap (λ (x : Bits). filled_up
      (chosen_lines_with_eols Procedure Group3_1D k false 0 0 (white_row columns) (rows_in lines) ++ x))
      (sym (plain_eols Group3_1D
      (length (chosen_lines_with_eols Procedure Group3_1D k false 0 0 (white_row columns) (rows_in lines))) 6))
  picture_is Group3_1D true false = λ lines kinds none. from_lines Group3_1D false lines kinds none
  picture_is Group3_1D false closed = λ lines kinds none. from_body Group3_1D false closed lines kinds none
      ∙ ap filled_up (no_end (chosen_lines Procedure Group3_1D k aligned 0 (white_row columns) (rows_in lines)))
  picture_is Group3_2D true true = λ lines kinds none. from_lines Group3_2D true lines kinds none
      ∙ ap (λ (x : Bits). filled_up
      (chosen_lines_with_eols Procedure Group3_2D k false 0 0 (white_row columns) (rows_in lines) ++ x))
      (sym (plain_eols Group3_2D
      (length (chosen_lines_with_eols Procedure Group3_2D k false 0 0 (white_row columns) (rows_in lines))) 6))
  picture_is Group3_2D true false = λ lines kinds none. from_lines Group3_2D false lines kinds none
  picture_is Group3_2D false closed = λ lines kinds none. from_body Group3_2D false closed lines kinds none
      ∙ ap filled_up (no_end (chosen_lines Procedure Group3_2D k aligned 0 (white_row columns) (rows_in lines)))

pub procedure_is_encoded : ProcedureIsEncoded
procedure_is_encoded settings columns count whole procedure unfilled bytes lines kinds none =
    let encoding : EncodingMode = settings.encoding in
    let eols : Bool = settings.end_of_line in
    let aligned : Bool = settings.rows_are_byte_aligned in
    let closed : Bool = settings.end_of_block in
    subst (λ (fills : Bool). whole ≡ filled_up (chosen_picture settings.effort encoding eols settings.k fills aligned closed
    (white_row columns) (rows_in lines))) (sym unfilled)
    (subst (λ (effort : Effort). whole ≡ filled_up (chosen_picture effort encoding eols settings.k false aligned closed
    (white_row columns) (rows_in lines))) (sym procedure)
    (picture_is settings.k aligned columns count whole bytes encoding eols closed lines kinds none))
