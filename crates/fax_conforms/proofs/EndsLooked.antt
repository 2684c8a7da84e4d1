-- What looking for the end of a picture counts where a line begins is paid by the line.
use Rattle.hayro_ccitt.proofs.Names.{◌≡◌, ℕ, ◌+◌, ◌<◌, ◌≤◌, Bool, true, false, List, Option, [], ◌++◌, length, refl, ap, sym, ◌∙◌}
use Rattle.hayro_ccitt.proofs.Names.{append_assoc, arith, cond, length-append, Bits, Row, DecodeSettings, EncodingMode, pixels}
use Rattle.hayro_ccitt.proofs.Names.{Group4, Group3_1D, Group3_2D, BitsAt, IfSome, Some, here, after_eol, None, tag_of, eol}
use Rattle.hayro_ccitt.proofs.Names.{padding}
use Rattle.std.proofs.lemmas.List.{length-take}
use Rattle.std.specs.Prelude.{not, ◌&&◌}
use Rattle.hayro_ccitt.specs.Ticks.{looked}
use Rattle.hayro_ccitt.proofs.Work.EolsPassed.{looked_most}
use Rattle.fax_encode.specs.Procedure.{StandsUpTo, line_by_procedure}
use Rattle.fax_conforms.specs.Conforming.{TaggedEolStands}
use Rattle.fax_conforms.specs.ByProcedure.{ClosingStands, LeadStands, PartStands, PlainRtcStands, tagged_eols}
use Rattle.fax_conforms.specs.Checks.{IsOnlyPart}
use Rattle.hayro_ccitt.proofs.PixelRows.ChangesAndPixels.{length-pixels}
use Rattle.fax_conforms.specs.Standing.{IsOnly, Leads, LineStands}
use Rattle.fax_conforms.specs.Work.{LooksForEnd}
use Rattle.fax_conforms.proofs.LinesLooked.{eol_line_looks, line_looked, line_no_eol}
use Rattle.fax_conforms.proofs.ProcedureEnds.{split_eols}
use Rattle.fax_conforms.proofs.ProcedureLines.{by_procedure_encodes}
use Rattle.fax_conforms.proofs.WordsPaid.{eol_is_paid, no_eol_stands, no_tag_without_eol, tagged_eol_alone}

-- only the bits up to the first one
pub zeros_looked : (encoding : EncodingMode) (here : Bits) (before after : ℕ) → before ≤ after → after ≤ before + looked here
    → LooksForEnd encoding here before after
zeros_looked encoding here before after le few = record {
  counts = le;
  no_eol = λ none. few;
  none = λ none. omega (arith, few);
  one = λ rest stands none. omega (arith, few);
  at_most = omega (arith, few, looked_most here);
}

-- an EOL is here, and bits up to the first one after it
pub eol_looks : (encoding : EncodingMode) (here next : Bits) (before after : ℕ) → TaggedEolStands encoding here next
    → before ≤ after
    → (after_eol 0 next ≡ None → after ≤ before + looked here + length (tag_of encoding) + looked next)
    → after ≤ before + length here + 1 → LooksForEnd encoding here before after
eol_looks encoding here next before after stands le looks few = record {
  counts = le;
  no_eol = λ none. absurd (no_tag_without_eol encoding here next none stands);
  none = λ none. absurd (none next stands);
  one = λ rest other none. let same : next ≡ rest = tagged_eol_alone encoding here next rest stands other in
      omega (arith, looks (ap (after_eol 0) same ∙ none), ap looked same);
  at_most = few;
}

-- two EOLs are here
two_eols_look : (encoding : EncodingMode) (here next rest : Bits) (before after : ℕ) → TaggedEolStands encoding here next
    → next ≡ eol 0 ++ rest → before ≤ after → after ≤ before + length here + 1 → LooksForEnd encoding here before after
two_eols_look encoding here next rest before after stands is le few =
    eol_looks encoding here next before after stands le (λ none. absurd (no_eol_stands next rest none (0, is))) few

-- of two EOLs the second one is passed
pub second_paid : (o : Option BitsAt) (next : Bits) (before after all : ℕ) → IfSome o (λ ends. next ≡ eol 0 ++ here ends)
    → after ≤ before + looked next → before + length next ≤ all → IfSome o (λ ends. after + length (here ends) ≤ all)
second_paid (Some ends) next before after all is few paid = omega (arith, few, paid, eol_is_paid next (here ends) (0, is))
second_paid None next before after all is few paid = tt

-- RTC is here
pub rtc_looks : (encoding : EncodingMode) (here rest : Bits) (before after : ℕ) → PlainRtcStands encoding here rest
    → before ≤ after → after ≤ before + length here + 1 → LooksForEnd encoding here before after
rtc_looks encoding here rest before after (fill, is) le few =
    two_eols_look encoding here (tagged_eols encoding 5 ++ rest) (tag_of encoding ++ (tagged_eols encoding 4 ++ rest)) before
    after (fill, is) (split_eols encoding 4 rest) le few

-- the end of the block is here
pub closing_looks : (encoding : EncodingMode) (taken : ℕ) (here rest : Bits) (before after : ℕ)
    → ClosingStands encoding taken here rest → before ≤ after → after ≤ before + length here + 1
    → LooksForEnd encoding here before after
closing_looks Group4 taken here rest before after is le few =
    two_eols_look Group4 here (eol 0 ++ rest) rest before after (0, is) refl le few
closing_looks Group3_1D taken here rest before after (some, rtc) le few = rtc_looks Group3_1D here rest before after rtc le few
closing_looks Group3_2D taken here rest before after (some, rtc) le few = rtc_looks Group3_2D here rest before after rtc le few

module _ (settings : DecodeSettings) (wide : 0 < settings.columns) (small : settings.columns ≤ 4294967295) (has_eols : Bool)
    (left : Option ℕ) (reference : Row) (same : length reference ≡ settings.columns) where
  -- the line of a part, and what fills it
  pub part_line : (here : Bits) (is_two : Bool) (row : Row) (rest : Bits) → length row ≡ settings.columns
      → PartStands settings has_eols left reference here is_two row rest
      → (fill : Bits) × LineStands settings.encoding reference row here (fill ++ rest)
  part_line here is_two row rest len ((kind, may), is) =
      let line : Bits = line_by_procedure settings.encoding is_two reference row in
      let fill : Bits = cond (settings.rows_are_byte_aligned && not has_eols) (padding (length line)) [] in (
        fill,
        (
          line,
          by_procedure_encodes settings.encoding is_two reference row kind (same ∙ sym len) (omega (arith, wide, len)),
          is ∙ append_assoc line fill rest,
        ),
      )

  -- the bits up to the first one are the line's
  pub line_looks : (here : Bits) (row : Row) (fill rest : Bits) → length row ≡ settings.columns
      → LineStands settings.encoding reference row here (fill ++ rest)
      → (looked here + length (fill ++ rest) ≤ length here) × (length rest ≤ length (fill ++ rest))
  line_looks here row fill rest len (line, is_line, is) = (
    omega (
      arith,
      ap looked is,
      ap length is,
      line_looked settings wide small settings.encoding reference row line (fill ++ rest) is_line len,
      length-append line (fill ++ rest),
    ),
    omega (arith, length-append fill rest),
  )

  -- of a part that is read, which the line's bits pay
  pub part_paid : (here : Bits) (is_two : Bool) (changes : List ℕ) (rest ends : Bits)
      → IsOnlyPart settings (PartStands settings has_eols left reference here) changes here rest is_two
      → Leads settings.columns (λ row rest. LineStands settings.encoding reference row here rest)
      (IsOnly (pixels settings.columns changes) ends)
      → (looked here + length ends ≤ length here) × (length rest ≤ length ends)
  part_paid here is_two changes rest ends part lines =
      let row : Row = pixels settings.columns changes in
      let len : length row ≡ settings.columns = length-pixels settings.columns changes part.lawful in
      let line = part_line here is_two row rest len part.stands in
      let least = line_looks here row line.0 rest len line.1 in
      let same : line.0 ++ rest ≡ ends = ((lines row (line.0 ++ rest) len).0 line.1).1 in
      (omega (arith, least.0, ap length same), omega (arith, least.1, ap length same))

  by_lead : (eols : Bool) (taken : ℕ) (here middle : Bits) (row : Row) (fill rest : Bits) (before after : ℕ)
      → length row ≡ settings.columns
      → LeadStands eols taken here middle → LineStands settings.encoding reference row middle (fill ++ rest)
      → LooksForEnd settings.encoding here before after → after + length rest ≤ before + length here
  by_lead true taken here middle row fill rest before after len (more, few, is) (line, is_line, is2) looks = omega (
    arith,
    eol_line_looks settings wide small reference row here (fill ++ rest) before after
        (more, line, is_line, is ∙ ap (λ (x : Bits). eol more ++ x) is2) len (looks.none, looks.one),
    length-append fill rest,
  )
  by_lead false taken here middle row fill rest before after len is (line, is_line, is2) looks =
      let stands : here ≡ line ++ (fill ++ rest) = is ∙ is2 in
      let none : after_eol 0 here ≡ None = ap (after_eol 0) stands
      ∙ line_no_eol settings wide small settings.encoding reference row line (fill ++ rest) refl is_line len in
      let least = line_looks here row fill rest len (line, is_line, stands) in
      omega (arith, looks.no_eol none, least.0, least.1)

  -- where a row begins
  pub row_looks : (taken : ℕ) (here middle : Bits) (is_two : Bool) (row : Row) (rest : Bits) (before after : ℕ)
      → length row ≡ settings.columns → LeadStands has_eols taken here middle
      → PartStands settings has_eols left reference middle is_two row rest
      → LooksForEnd settings.encoding here before after → after + length rest ≤ before + length here
  row_looks taken here middle is_two row rest before after len lead part looks =
      let line = part_line middle is_two row rest len part in
      by_lead has_eols taken here middle row line.0 rest before after len lead line.1 looks

-- the first bits of a part that stand here are no more than there are
pub no_more_passed : (part here : Bits) (n : ℕ) → StandsUpTo part here n → n ≤ length here
no_more_passed part here n up = omega (arith, up.fewer, ap length up.first, length-take n here, length-take n part)
