-- Lines as the coding procedure writes them in data that is readable, and what departs after them.
use Rattle.hayro_ccitt.proofs.Names.{◌≡◌, ◌≢◌, ℕ, suc, ◌+◌, ◌<◌, ◌≤◌, Bool, true, false, Option, None, [], ◌∷◌, ◌++◌, length}
use Rattle.hayro_ccitt.proofs.Names.{drop, refl, ap, sym, subst, ◌∙◌, append_assoc, arith, inl, inr, cond, Bits, BitsAt, here}
use Rattle.hayro_ccitt.proofs.Names.{Row, eol, tag_of, DecodeSettings, EncodingMode, Group4, Group3_1D, Group3_2D, EncodesLine}
use Rattle.hayro_ccitt.proofs.Names.{padding, Allows, pixels, white_row, replicate, ◌-◌}
use Rattle.fax_encode.specs.Procedure.{line_by_procedure, part_by_procedure}
use Rattle.fax_encode.specs.Settings.{is_closed}
use Rattle.fax_conforms.specs.ByProcedure.{ClosingStands, EndStands, EndsHere, HasKind, LeadStands, PartStands, left_after}
use Rattle.fax_conforms.specs.ByProcedure.{left_at_first, one_less}
use Rattle.fax_conforms.specs.Conforming.{EolStands, EolsStand, FilledStands, TaggedEolStands, fill_at}
use Rattle.fax_conforms.specs.Departures.{BreaksProcedure, ClosesOr, ClosingDeparts, DepartsAfterLines, EndsAfterLines}
use Rattle.fax_conforms.specs.Departures.{EndsAtLimit, FilledEolStands, LeadEndsAt, LineDeparts, LineEndsAt, KindDeparts}
use Rattle.fax_conforms.specs.Departures.{LinesLead, NoClosing, Reached, ReadableFrom}
use Rattle.fax_conforms.specs.Standing.{LineStands, Never}
use Rattle.fax_conforms.specs.Stops.{IsBroken}
use Rattle.fax_conforms.specs.declared.stops.Rule.{Rule}
use Rattle.fax_conforms.specs.declared.stops.Stop.{Stop}
use Rattle.fax_conforms.specs.declared.stops.Stop.TheVariants.{Violation, OutOfMemory}
use Rattle.fax_conforms.proofs.BodyLines.{body_fails, body_leads}
use Rattle.fax_conforms.proofs.ChosenConforms.{all_filled, none_filled}
use Rattle.fax_conforms.proofs.ClosingsDepart.{filled_eol_stands}
use Rattle.fax_conforms.proofs.EolLines.{after_eol_leads, lines_fail, lines_lead, no_eol_line}
use Rattle.fax_conforms.proofs.EolsHere.{one_eol}
use Rattle.fax_conforms.proofs.FilledLines.{no_filled_line}
use Rattle.fax_conforms.proofs.OnlyLines.{only_filled_line, only_line_stands}
use Rattle.fax_conforms.proofs.Padded.{iff_on}
use Rattle.fax_conforms.proofs.ProcedureDeparts.{no_line_at_eol}
use Rattle.fax_conforms.proofs.ProcedureLines.{by_procedure_encodes}
use Rattle.fax_conforms.specs.declared.stops.Violation as at

-- ---- The first of some EOLs.
first_eol : (encoding : EncodingMode) (n : ℕ) (start : Bits) → EolsStand encoding (suc n) start
    → (next : Bits) × TaggedEolStands encoding start next × EolsStand encoding n next
first_eol encoding n start (closing, (fill, more, closes, is), (rest, begins)) = (
  more ++ rest,
  (fill, begins ∙ ap (λ (x : Bits). x ++ rest) is ∙ simp append_assoc refl),
  (more, closes, (rest, refl)),
)

-- ---- A line by the procedure in data that is readable.
module _ (settings : DecodeSettings) (wide : 0 < settings.columns) (small : settings.columns ≤ 4294967295) where
  -- no RTC is where a line and its EOL are
  rtc_by : (encoding : EncodingMode) (reference row : Row) (line rest start next after : Bits)
      → EncodesLine encoding reference row line → EolStands start (line ++ rest) → length row ≡ settings.columns
      → TaggedEolStands encoding start next → EolStands next after → ⊥
  rtc_by Group4 reference row line rest start next after is stands len tagged second =
      no_line_at_eol (record settings { encoding = Group4 }) wide small reference row (line ++ rest) rest after len
      (line, is, refl)
      (subst (λ (x : Bits). EolStands x after) (one_eol start next (line ++ rest) tagged stands) second)
  rtc_by Group3_1D reference row line rest start next after is stands len tagged second =
      no_line_at_eol (record settings { encoding = Group3_1D }) wide small reference row (line ++ rest) rest after len
      (line, is, refl)
      (subst (λ (x : Bits). EolStands x after) (one_eol start next (line ++ rest) tagged stands) second)
  rtc_by Group3_2D reference row line rest start next after (more, inl (bits_are, runs)) stands len tagged second =
      let same : true ∷ next ≡ true ∷ (more ++ rest) =
      one_eol start (true ∷ next) (line ++ rest) tagged stands ∙ ap (λ (x : Bits). x ++ rest) bits_are in
      let e : next ≡ more ++ rest = cc in
      no_line_at_eol (record settings { encoding = Group3_1D }) wide small reference row (more ++ rest) rest after len
      (more, runs, refl)
      (subst (λ (x : Bits). EolStands x after) e second)
  rtc_by Group3_2D reference row line rest start next after (more, inr (bits_are, steps)) stands len tagged second =
      let same : true ∷ next ≡ false ∷ (more ++ rest) =
      one_eol start (true ∷ next) (line ++ rest) tagged stands ∙ ap (λ (x : Bits). x ++ rest) bits_are in
      absurd cc

  no_rtc_at_line : (reference row : Row) (start middle rest : Bits) → length row ≡ settings.columns → EolStands start middle
      → LineStands settings.encoding reference row middle rest → EolsStand settings.encoding 6 start → ⊥
  no_rtc_at_line reference row start middle rest len eol_here (line, is_line, is) six =
      let (next, first, five) = first_eol settings.encoding 5 start six in
      let (after, second, four) = first_eol settings.encoding 4 next five in
      rtc_by settings.encoding reference row line rest start next (tag_of settings.encoding ++ after) is_line
      (subst (EolStands start) is eol_here) len first second

  module _ (reference row : Row) (above : length reference ≡ settings.columns) (len : length row ≡ settings.columns)
      (is_two : Bool) (left : Option ℕ) (middle next : Bits) where
    abbrev written : Bits
    written = line_by_procedure settings.encoding is_two reference row

    part_encodes : HasKind settings.encoding is_two → EncodesLine settings.encoding reference row written
    part_encodes has =
        by_procedure_encodes settings.encoding is_two reference row has (above ∙ sym len) (omega (arith, len, wide))

    -- with an EOL before it
    eol_part : PartStands settings true left reference middle is_two row next
        → LineStands settings.encoding reference row middle next
    eol_part ((has, may), stands) = (
      written,
      part_encodes has,
      stands ∙ ap (λ (f : Bool). part_by_procedure settings.encoding f is_two reference row ++ next)
          (sym (none_filled settings.rows_are_byte_aligned)) ∙ append_assoc written [] next,
    )

    -- without one
    filled_part : PartStands settings false left reference middle is_two row next
        → FilledStands settings reference row middle next
    filled_part ((has, may), stands) =
        let fill : Bits = cond settings.rows_are_byte_aligned (padding (length written)) [] in (
          written,
          part_encodes has,
          stands ∙ ap (λ (f : Bool). part_by_procedure settings.encoding f is_two reference row ++ next)
              (sym (all_filled settings.rows_are_byte_aligned)) ∙ append_assoc written fill next,
        )

    -- what follows it is readable
    pub readable_on : (has_eols : Bool) (taken : ℕ) (start : Bits) → (settings.rows ≡ taken → 0 < taken → ⊥)
        → LeadStands has_eols taken start middle → PartStands settings has_eols left reference middle is_two row next
        → ReadableFrom settings has_eols taken reference start → ReadableFrom settings has_eols (taken + 1) row next
    readable_on true taken start unmet (fill, few, is) part lines =
        let line = eol_part part in
        (lines_lead settings taken reference start unmet
        (λ (asked, some, six). no_rtc_at_line reference row start middle next len (fill, is) line six) row next len
        (λ other rest other_len. iff_on (after_eol_leads settings reference start middle (fill, is) other rest other_len)
        (only_line_stands settings wide small reference above row len middle next line other rest other_len))).0 lines
    readable_on false taken start unmet is part lines =
        let line : FilledStands settings reference row start next =
        subst (λ (x : Bits). FilledStands settings reference row x next) (sym is) (filled_part part) in
        let (bits, is_line, stands) = line in
        (body_leads settings taken reference start unmet
        (λ (seeks, (rest, eofb)). no_line_at_eol settings wide small reference row start
        (fill_at settings.rows_are_byte_aligned (length bits) ++ next) (eol 0 ++ rest) len (bits, is_line, stands) (0, eofb))
        row next len (only_filled_line settings wide small reference above row len start next line)).0 lines

-- ---- What is here in data that is readable.
eols_if_closed : (encoding : EncodingMode) (has_eols closed : Bool) → encoding ≢ Group4
    → is_closed encoding has_eols closed ≡ true → has_eols ≡ true
eols_if_closed encoding true closed three is = refl
eols_if_closed Group4 false closed three is = absurd (three refl)
eols_if_closed Group3_1D false closed three is = absurd cc
eols_if_closed Group3_2D false closed three is = absurd cc

closed_with_eols : (encoding : EncodingMode) (closed : Bool) → encoding ≢ Group4 → closed ≡ true
    → is_closed encoding true closed ≡ true
closed_with_eols Group4 closed three is = absurd (three refl)
closed_with_eols Group3_1D closed three is = is
closed_with_eols Group3_2D closed three is = is

module _ (settings : DecodeSettings) (reference : Row) where
  -- an EOL is before a line that isn't the first
  eol_is_here : (has_eols : Bool) (taken : ℕ) (start : Bits) → has_eols ≡ true → 0 < taken
      → (settings.rows ≡ taken → 0 < taken → ⊥) → ReadableFrom settings has_eols taken reference start
      → ((rest : Bits) → LeadStands has_eols taken start rest → ⊥) → ⊥
  eol_is_here true taken start has some unmet lines none =
      let none_here : (rest : Bits) → EolStands start rest → ⊥ =
      λ rest (fill, is). none rest (fill, (λ first. absurd (omega (arith, first, some))), is) in
      lines_fail settings taken reference start unmet
      (λ (asked, later, six). let (next, first, five) = first_eol settings.encoding 5 start six in
      none_here (tag_of settings.encoding ++ next) first) (no_eol_line settings reference start none_here) lines
  eol_is_here false taken start has some unmet lines none = absurd cc

  -- and before the first one too
  first_eol_filled : (has_eols : Bool) (taken : ℕ) (start : Bits) → has_eols ≡ true → taken ≡ 0
      → ReadableFrom settings has_eols taken reference start → ((rest : Bits) → LeadStands has_eols taken start rest → ⊥)
      → FilledEolStands start
  first_eol_filled true taken start has first ([], bits, after, widths, lines, is, inl (limit, some)) none =
      absurd (omega (arith, some, first))
  first_eol_filled true taken start has first ([], bits, after, widths, lines, is, inr ((asked, some, six), allows)) none =
      absurd (omega (arith, some, first))
  first_eol_filled true taken start has first
      (row ∷ rows, bits, after, widths, (fill, line, next, is_line, lines, split), is, ends) none =
      filled_eol_stands start (λ rest plain. none rest (0, (λ e. refl), plain)) (line ++ (next ++ after))
      (fill, is ∙ ap (λ (x : Bits). x ++ after) split ∙ simp append_assoc refl)
  first_eol_filled false taken start has first lines none = absurd cc

  -- a line is, where no end of the block is
  no_line_unreadable : (has_eols : Bool) (taken : ℕ) (start middle : Bits) → (has_eols ≡ true → settings.encoding ≢ Group4)
      → (settings.rows ≡ taken → 0 < taken → ⊥) → NoClosing settings has_eols taken start → LeadStands has_eols taken start middle
      → Never settings.columns (λ row rest. LineStands settings.encoding reference row middle rest)
      → ReadableFrom settings has_eols taken reference start → ⊥
  no_line_unreadable true taken start middle three unmet no_closing (fill, few, is) never lines =
      lines_fail settings taken reference start unmet
      (λ (asked, some, six). (no_closing (closed_with_eols settings.encoding settings.end_of_block (three refl) asked)).1
      (three refl) some six)
      (λ row rest len line. never row rest len ((after_eol_leads settings reference start middle (fill, is) row rest len).0 line))
      lines
  no_line_unreadable false taken start middle three unmet no_closing is never lines =
      body_fails settings taken reference start unmet
      (λ ((four, asked), (rest, eofb)).
      let closed : is_closed settings.encoding false settings.end_of_block ≡ true =
      ap (λ (e : EncodingMode). is_closed e false settings.end_of_block) four ∙ asked in
      (no_closing closed).0 rest (subst (λ (e : EncodingMode). ClosingStands e taken start rest) (sym four) eofb))
      (no_filled_line settings reference start
      (subst (λ (x : Bits). Never settings.columns (λ row rest. LineStands settings.encoding reference row x rest)) (sym is)
      never))
      lines

-- ---- Where the number of two-dimensional lines isn't limited.
pub unlimited_at_first : (encoding : EncodingMode) → encoding ≡ Group4 → left_at_first encoding ≡ None
unlimited_at_first Group4 four = refl
unlimited_at_first Group3_1D four = refl
unlimited_at_first Group3_2D four = absurd (let e : Group3_2D ≡ Group4 = four in cc)

pub unlimited_on : (encoding : EncodingMode) (k left : Option ℕ) (is_two : Bool) → HasKind encoding is_two
    → (encoding ≡ Group4 → left ≡ None) → encoding ≡ Group4 → left_after k left is_two ≡ None
unlimited_on encoding k left true has unlimited four = ap one_less (unlimited four)
unlimited_on Group4 k left false has unlimited four = absurd (let e : false ≡ true = has in cc)
unlimited_on Group3_1D k left false has unlimited four = absurd (let e : Group3_1D ≡ Group4 = four in cc)
unlimited_on Group3_2D k left false has unlimited four = absurd (let e : Group3_2D ≡ Group4 = four in cc)

-- ---- Lines that lead to a place.
abbrev pub reached_at : ℕ → Option ℕ → Row → ℕ → Reached
reached_at taken left reference place = record { taken = taken; left = left; reference = reference; place = place }

pub no_changes_white : (columns : ℕ) → pixels columns [] ≡ white_row columns
no_changes_white columns = let e : columns - 0 ≡ columns = omega arith in ap (λ (n : ℕ). replicate n false) e

-- none at first
pub none_yet : (settings : DecodeSettings) (k : Option ℕ) (has_eols : Bool) (reference : Row) (reader : BitsAt)
    → reference ≡ white_row settings.columns → reader.place ≡ 0
    → LinesLead settings k has_eols reader.bits (reached_at 0 (left_at_first settings.encoding) reference reader.place)
none_yet settings k has_eols reference reader white start =
    subst (λ (r : Row). LinesLead settings k has_eols reader.bits (reached_at 0 (left_at_first settings.encoding) r reader.place))
    (sym white)
    (subst (λ (n : ℕ). LinesLead settings k has_eols reader.bits
    (reached_at 0 (left_at_first settings.encoding) (white_row settings.columns) n)) (sym start) LinesLead.none)

module _ (settings : DecodeSettings) (k : Option ℕ) (has_eols : Bool) (taken : ℕ) (left : Option ℕ) (reference : Row)
    (reader : BitsAt) where
  abbrev LeadHere : Type 0
  LeadHere = LinesLead settings k has_eols reader.bits (reached_at taken left reference reader.place)

  pub one_line_further : (middle next : BitsAt) (is_two : Bool) (row : Row) → LeadHere → next.bits ≡ reader.bits
      → LeadStands has_eols taken (here reader) (here middle) → length row ≡ settings.columns
      → PartStands settings has_eols left reference (here middle) is_two row (here next)
      → LinesLead settings k has_eols next.bits (reached_at (taken + 1) (left_after k left is_two) row next.place)
  one_line_further middle next is_two row lead same before len part =
      subst (λ (whole : Bits). LinesLead settings k has_eols whole
      (reached_at (taken + 1) (left_after k left is_two) row next.place)) (sym same)
      (LinesLead.line (here middle) is_two row next.place lead before len
      (subst (PartStands settings has_eols left reference (here middle) is_two row) (ap (drop next.place) same) part))

  -- ---- What departs after them.
  module _ (lead : LeadHere) (allows : Allows settings taken) (unended : EndsHere settings has_eols taken (here reader) → ⊥) where
    abbrev reached : Reached
    reached = reached_at taken left reference reader.place

    abbrev Breaks : at.Violation → Rule → Type 0
    Breaks found rule = BreaksProcedure rule settings has_eols reached reader.bits found.place

    departs_here : (found : at.Violation) (rule : Rule) → found.rule ≡ rule → found.place ≤ length reader.bits → Breaks found rule
        → DepartsAfterLines settings k has_eols reader.bits found
    departs_here found rule same within breaks = (within, reached, lead, subst (Breaks found) (sym same) breaks)

    -- the end of the block that is here is followed by something, or has fill
    closing_departs : (found : at.Violation) → ClosingDeparts settings has_eols taken reader found
        → DepartsAfterLines settings k has_eols reader.bits found
    closing_departs found (closed, inl (rule, within, stands)) = departs_here found Rule.End rule within (inl (
      closed,
      stands,
      λ few. unended (
        drop found.place reader.bits,
        subst (λ (b : Bool). EndStands b settings taken (here reader) (drop found.place reader.bits)) (sym closed)
            (allows, stands),
        few,
      ),
    ))
    closing_departs found (closed, inr (three, some, (rule, within, follows))) = departs_here found Rule.Fill rule within
        (eols_if_closed settings.encoding has_eols settings.end_of_block three closed, inr (some, follows))

    -- the end isn't here, though the row limit is met
    pub ends_at_limit_after : (settings.rows ≡ taken) × (0 < taken) → (stop : Stop)
        → EndsAtLimit settings has_eols taken reader stop → EndsAfterLines settings k has_eols reader.bits stop
    ends_at_limit_after met (Violation found) (inl departs) = closing_departs found departs
    ends_at_limit_after (limit, some) (Violation found) (inr (rule, place, within)) =
        departs_here found Rule.End rule (omega (arith, place, within)) (inr (
          limit,
          some,
          place,
          λ ends. unended (subst (λ (n : ℕ). EndsHere settings has_eols taken (drop n reader.bits)) place ends),
        ))
    ends_at_limit_after met OutOfMemory ends = tt

    module _ (unmet : settings.rows ≡ taken → 0 < taken → ⊥)
        (readable : ReadableFrom settings has_eols taken reference (here reader)) (stop : Stop) where
      -- what is expected before a line isn't here
      pub no_lead_after : LeadEndsAt has_eols taken reader stop
          → (IsBroken stop → (rest : Bits) → LeadStands has_eols taken (here reader) rest → ⊥) → (result : Stop)
          → ClosesOr settings has_eols taken reader stop result → EndsAfterLines settings k has_eols reader.bits result
      no_lead_after ends none (Violation found) (inl departs) = closing_departs found departs
      no_lead_after ends none (Violation found) (inr (is, no_closing)) =
          let (has, lead_ends) = subst (LeadEndsAt has_eols taken reader) is ends in
          let nothing =
          subst (λ (s : Stop). IsBroken s → (rest : Bits) → LeadStands has_eols taken (here reader) rest → ⊥) is none in
          elim lead_ends [
            | inl (some, missing) ↦
                absurd (eol_is_here settings reference has_eols taken (here reader) has some unmet readable (nothing tt))
            | inr (first, (rule, place, within)) ↦ departs_here found Rule.Fill rule (omega (arith, place, within)) (
              has,
              inl (
                first,
                place,
                subst (λ (n : ℕ). FilledEolStands (drop n reader.bits)) (sym place)
                    (first_eol_filled settings reference has_eols taken (here reader) has first readable (nothing tt)),
              ),
            )
          ]
      no_lead_after ends none OutOfMemory closes = tt

      -- the line isn't here, or isn't as it is to be
      pub no_line_after : (has_eols ≡ true → settings.encoding ≢ Group4) → (middle : BitsAt) → middle.bits ≡ reader.bits
          → LeadStands has_eols taken (here reader) (here middle) → LineEndsAt settings has_eols left reference middle stop
          → (result : Stop) → ClosesOr settings has_eols taken reader stop result
          → EndsAfterLines settings k has_eols reader.bits result
      no_line_after three middle same before ends (Violation found) (inl departs) = closing_departs found departs
      no_line_after three middle same before ends (Violation found) (inr (is, no_closing)) =
          elim (subst (LineEndsAt settings has_eols left reference middle) is ends) [
            | inl (n, rule, place, within, departs) ↦
                let e : here middle ≡ drop middle.place reader.bits = ap (drop middle.place) same in
                departs_here found Rule.Procedure rule (omega (arith, within, ap length same)) (
                  middle.place,
                  n,
                  place,
                  subst (LeadStands has_eols taken (here reader)) e before,
                  subst (λ (x : Bits). LineDeparts settings has_eols left reference x n) e departs,
                )
            | inr other ↦ elim other [
              | inl ((rule, place, within), kind) ↦
                  let e : here middle ≡ drop found.place reader.bits =
                  ap (λ (n : ℕ). drop n middle.bits) (sym place) ∙ ap (drop found.place) same in
                  departs_here found Rule.Kind rule (omega (arith, place, within, ap length same)) (
                    subst (LeadStands has_eols taken (here reader)) e before,
                    subst (KindDeparts settings.encoding left) e kind,
                  )
              | inr never ↦ absurd (no_line_unreadable settings reference has_eols taken (here reader) (here middle) three unmet
                  no_closing before never readable)
            ]
          ]
      no_line_after three middle same before ends OutOfMemory closes = tt
