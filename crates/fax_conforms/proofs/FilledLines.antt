-- Lines with what fills them up to a whole byte.
use Rattle.hayro_ccitt.proofs.Names.{◌≡◌, ℕ, ◌+◌, ◌-◌, ◌%◌, ◌≤◌, Bool, true, false, ◌++◌, length, replicate, refl, ap}
use Rattle.hayro_ccitt.proofs.Names.{sym, ◌∙◌, arith, length-append, length-drop, Bits, BitsAt, Row, here, subst, padding}
use Rattle.hayro_ccitt.proofs.Names.{DecodeSettings, EncodesLine, append_assoc, append-nil, append_cancel_left, [], drop}
use Rattle.std.proofs.lemmas.List.{append_cancel_right}
use Rattle.fax_conforms.specs.Standing.{LineStands, Leads, Never, Passes, IsOnly}
use Rattle.fax_conforms.specs.Conforming.{FilledStands, fill_at}
use Rattle.fax_conforms.specs.declared.stops.Rule.TheVariants.{Padding}
use Rattle.fax_conforms.specs.declared.stops.Stop.{Stop}
use Rattle.fax_conforms.specs.Stops.{Departs, EndsAt}

-- the same zeros fill lines that end alike in their bytes
same_fill : (aligned : Bool) (m n : ℕ) → (aligned ≡ true → m % 8 ≡ n % 8) → fill_at aligned m ≡ fill_at aligned n
same_fill true m n same = ap (λ (k : ℕ). replicate ((8 - k) % 8) false) (same refl)
same_fill false m n same = refl

-- what isn't filled isn't filled with zeros
pub no_padding : (aligned : Bool) (end : BitsAt) (place : ℕ) → place ≡ end.place
    → ((rest : Bits) → here end ≡ fill_at aligned end.place ++ rest → ⊥) → (rest : Bits) → here end ≡ padding place ++ rest → ⊥
no_padding true end place at none rest is = none rest (subst (λ (n : ℕ). here end ≡ padding n ++ rest) at is)
no_padding false end place at none rest is = none (here end) refl

-- where zeros are missing, lines are aligned
padding_due : (aligned : Bool) (place : ℕ) (here : Bits) → ((rest : Bits) → here ≡ fill_at aligned place ++ rest → ⊥)
    → fill_at aligned place ≡ padding place
padding_due true place here none = refl
padding_due false place here none = absurd (none here refl)

module _ (settings : DecodeSettings) (reference row : Row) (start end next : BitsAt) (same_bits : end.bits ≡ start.bits)
    (start_within : start.place ≤ length start.bits) (end_within : end.place ≤ length end.bits)
    (whole : settings.rows_are_byte_aligned ≡ true → start.place % 8 ≡ 0) where
  abbrev aligned : Bool
  aligned = settings.rows_are_byte_aligned

  -- a line between the two places
  pub fill_is : (line : Bits) → here start ≡ line ++ here end → fill_at aligned (length line) ≡ fill_at aligned end.place
  fill_is line is = same_fill aligned (length line) end.place (λ e.
      let size : length (here start) ≡ length line + length (here end) = ap length is ∙ length-append line (here end) in
      omega (
        arith,
        size,
        length-drop start.place start.bits,
        length-drop end.place end.bits,
        ap length same_bits,
        whole e,
        start_within,
        end_within,
      ))

  module _ (lines : Leads settings.columns (λ row rest. LineStands settings.encoding reference row (here start) rest)
      (IsOnly row (here end))) where
    pub unfilled : ((rest : Bits) → here end ≡ fill_at aligned end.place ++ rest → ⊥)
        → Never settings.columns (λ row rest. FilledStands settings reference row (here start) rest)
    unfilled none other rest len (line, is_line, is) =
        let only = (lines other (fill_at aligned (length line) ++ rest) len).0 (line, is_line, is) in
        let ends : here start ≡ line ++ here end = is ∙ ap (λ (x : Bits). line ++ x) only.1 in
        none rest (sym only.1 ∙ ap (λ (x : Bits). x ++ rest) (fill_is line ends))

pub no_filled_line : (settings : DecodeSettings) (reference : Row) (here : Bits)
    → Never settings.columns (λ row rest. LineStands settings.encoding reference row here rest)
    → Never settings.columns (λ row rest. FilledStands settings reference row here rest)
no_filled_line settings reference here none row rest len (line, is_line, is) =
    none row (fill_at settings.rows_are_byte_aligned (length line) ++ rest) len (line, is_line, is)

-- ---- Whatever follows.
module _ (settings : DecodeSettings) (reference row : Row) (len : length row ≡ settings.columns) (start end : BitsAt)
    (passes : Passes settings.columns (λ here row rest. LineStands settings.encoding reference row here rest) (IsOnly row)
    (here start) (here end))
    (same : fill_at settings.rows_are_byte_aligned (length passes.passed) ≡ fill_at settings.rows_are_byte_aligned end.place)
  where
    abbrev line_passed : Bits
    line_passed = passes.passed

    abbrev fill_passed : Bits
    fill_passed = fill_at settings.rows_are_byte_aligned end.place

    -- what is passed is the line
    line_is : EncodesLine settings.encoding reference row line_passed
    line_is =
        let (line, is_line, is) = (passes.leads [] row [] len).1 (refl, refl) in
        subst (EncodesLine settings.encoding reference row) (sym (append_cancel_right line_passed line [] is)) is_line

    -- and no line is another
    only_line : (other : Row) (more rest line : Bits) → length other ≡ settings.columns
        → EncodesLine settings.encoding reference other line → line_passed ++ more ≡ line ++ rest
        → (other ≡ row) × (line_passed ≡ line) × (rest ≡ more)
    only_line other more rest line other_len is_line is =
        let only = (passes.leads more other rest other_len).0 (line, is_line, is) in
        (only.0, append_cancel_right line_passed line more (is ∙ ap (λ (x : Bits). line ++ x) only.1), only.1)

    -- a line that begins with it is filled alike
    only_fill : (other : Row) (more rest line : Bits) → length other ≡ settings.columns
        → EncodesLine settings.encoding reference other line
        → line_passed ++ more ≡ line ++ (fill_at settings.rows_are_byte_aligned (length line) ++ rest)
        → (other ≡ row) × (more ≡ fill_passed ++ rest)
    only_fill other more rest line other_len is_line is =
        let fill_of : Bits = fill_at settings.rows_are_byte_aligned (length line) in
        let only = only_line other more (fill_of ++ rest) line other_len is_line is in
        let fill_same : fill_of ≡ fill_passed =
        ap (λ (x : Bits). fill_at settings.rows_are_byte_aligned (length x)) (sym only.1) ∙ same in
        (only.0, sym only.2 ∙ ap (λ (x : Bits). x ++ rest) fill_same)

    -- the padding is there
    pub filled_passes : (next : BitsAt) → here end ≡ fill_passed ++ here next
        → Passes settings.columns (λ here row rest. FilledStands settings reference row here rest) (IsOnly row) (here start) (here
        next)
    filled_passes next filled = record {
      passed = line_passed ++ fill_passed;
      is = passes.is ∙ ap (λ (x : Bits). line_passed ++ x) filled ∙ sym (append_assoc line_passed fill_passed (here next));
      leads = λ more other rest other_len. (
        λ (line, is_line, is).
            let only = only_fill other (fill_passed ++ more) rest line other_len is_line
            (sym (append_assoc line_passed fill_passed more) ∙ is) in
            (only.0, sym (append_cancel_left fill_passed more rest only.1)),
        λ (other_is, rest_is). (
          line_passed,
          subst (λ (r : Row). EncodesLine settings.encoding reference r line_passed) (sym other_is) line_is,
          append_assoc line_passed fill_passed more ∙ ap (λ (x : Bits). line_passed ++ (x ++ more)) (sym same)
              ∙ ap (λ (x : Bits). line_passed ++ (fill_at settings.rows_are_byte_aligned (length line_passed) ++ x))
              (sym rest_is),
        ),
      );
    }

    -- or it isn't
    pub unfilled_departs : (bits : Bits) (place : ℕ) → end.bits ≡ bits → place ≡ end.place → place ≤ length bits
        → ((rest : Bits) → here end ≡ fill_passed ++ rest → ⊥)
        → Departs settings.columns (λ here row rest. FilledStands settings reference row here rest) bits (here start)
        (record { place = place; rule = Padding })
    unfilled_departs bits place same_bits at within none =
        let end_is : here end ≡ drop place bits = ap (λ (b : Bits). drop end.place b) same_bits
        ∙ ap (λ (n : ℕ). drop n bits) (sym at) in
        record {
          within = within;
          passed = line_passed;
          is = passes.is ∙ ap (λ (x : Bits). line_passed ++ x) end_is;
          begins = (
            row,
            fill_passed,
            len,
            (
              line_passed,
              line_is,
              ap (λ (x : Bits). line_passed ++ x) (sym same ∙ sym (append-nil (fill_at settings.rows_are_byte_aligned
                  (length line_passed)))),
            ),
          );
          otherwise = λ other more rest other_len (line, is_line, is).
              let only = only_fill other more rest line other_len is_line is in
              let filled = padding_due settings.rows_are_byte_aligned end.place (here end) none in (
                λ others there. no_padding settings.rows_are_byte_aligned end place at none others (end_is ∙ there),
                rest,
                only.1 ∙ ap (λ (x : Bits). x ++ rest) (filled ∙ ap padding (sym at)),
              );
        }

-- a line that departs is none that is filled
pub line_departs : (settings : DecodeSettings) (reference : Row) (bits here : Bits) (stop : Stop)
    → EndsAt settings.columns (λ here row rest. LineStands settings.encoding reference row here rest) bits here stop
    → EndsAt settings.columns (λ here row rest. FilledStands settings reference row here rest) bits here stop
line_departs settings reference bits here Stop.OutOfMemory d = tt
line_departs settings reference bits here (Stop.Violation found) d =
    let (row, more, len, (line, is_line, is)) = d.begins in
    let fill : Bits = fill_at settings.rows_are_byte_aligned (length line) in
    record {
      within = d.within;
      passed = d.passed;
      is = d.is;
      begins = (
        row,
        more ++ fill,
        len,
        (
          line,
          is_line,
          sym (append_assoc d.passed more fill) ∙ ap (λ (x : Bits). x ++ fill) (is ∙ append-nil line)
              ∙ ap (λ (x : Bits). line ++ x) (sym (append-nil fill)),
        ),
      );
      otherwise = λ row more rest len (line, is_line, is).
          d.otherwise row more (fill_at settings.rows_are_byte_aligned (length line) ++ rest) len (line, is_line, is);
    }
