-- Gaps with more bits after.
use Rattle.fax_reading.proofs.Names.{common_steps, ◌≡◌, ◌≢◌, ℕ, suc, Bool, true, false, not, ◌&&◌, ◌||◌, cond, leb, [], ◌++◌}
use Rattle.fax_reading.proofs.Names.{length, Option, Some, None, Ok, Err, refl, sym, ap, ◌∙◌, inl, inr, arith, length-append}
use Rattle.fax_reading.proofs.Names.{and_parts, or_parts, cases_Bool, not-false, leb-true, ne_eqb, AreWholeBytes, Bits, after_eol}
use Rattle.fax_reading.proofs.Names.{eols, all_eols, tagged_eols, next_eol, DecodeSettings, InvalidCode, EncodingMode, Group4}
use Rattle.fax_reading.proofs.Names.{Group3_1D, Group3_2D, Gap, Held, eols_by, eols_here, after_eols, from_next_eol, misses_eol}
use Rattle.fax_reading.proofs.Names.{gap_after_row, at_gap, at_front, first_gap, repairs_after}
use Rattle.std.proofs.lemmas.Bool.{or_cases, leb-false}
use Rattle.fax_reading.specs.GapsContinued.{holds_one, after_line_tag, eols_are_settled, eols_here_are_settled}
use Rattle.fax_reading.specs.GapsContinued.{next_eols_are_settled, gap_is_settled, first_gap_is_settled, gap_before, move_before}
use Rattle.fax_reading.specs.GapsContinued.{GapIsSettled, FirstGapIsSettled, GapsSettle}
use Rattle.fax_bits.proofs.BitReading.ConsecutiveEols.{all_eols-some, all_tagged-some, eols-some}
use Rattle.fax_reading.proofs.GapsContinued.ContinuedEols.{count_then_more, next_eol-more, next_eol_may_come, eols-more}
use Rattle.fax_reading.proofs.GapsContinued.ContinuedEols.{all_eols-more, eols_may_come, all_eols_may_come, bytes_of_eol}
use Rattle.fax_reading.proofs.GapsContinued.ContinuedEols.{tagged_eols-more, tagged_eols_may_come}

-- ---- The test, by encodings
settled_1d : (block : Bool) (found : ℕ × Bits) → eols_are_settled Group3_1D block found ≡ holds_one found.1
settled_1d block (count, rest) = refl

settled_2d : (block : Bool) (found : ℕ × Bits) → eols_are_settled Group3_2D block found ≡ holds_one (after_line_tag found)
settled_2d block (count, rest) = refl

settled_t6 : (block : Bool) (found : ℕ × Bits)
    → eols_are_settled Group4 block found ≡ (block && leb 2 found.0 || holds_one found.1)
settled_t6 block (count, rest) = refl

-- ---- The EOLs here
-- settled EOLs are the same with more bits after
pub eols_here-more : (more : Bits) (settings : DecodeSettings) (here : Bits) → eols_here_are_settled settings here ≡ true
    → eols_here settings (here ++ more) ≡ count_then_more more (eols_here settings here)
eols_here-more more settings here settled = by_encoding settings.encoding settings.end_of_block settled
  where
    by_encoding : (encoding : EncodingMode) (block : Bool) → eols_are_settled encoding block (eols_by encoding block here) ≡ true
        → eols_by encoding block (here ++ more) ≡ count_then_more more (eols_by encoding block here)
    by_encoding Group3_1D block is = all_eols-more more here (sym (settled_1d block (all_eols here)) ∙ is)
    by_encoding Group3_2D block is = tagged_eols-more more here (sym (settled_2d block (tagged_eols here)) ∙ is)
    by_encoding Group4 false is = all_eols-more more here (sym (settled_t6 false (all_eols here)) ∙ is)
    by_encoding Group4 true is = eols-more more 2 here (elim (or_cases (leb 2 (eols 2 here).0) (holds_one (eols 2 here).1)
        (sym (settled_t6 true (eols 2 here)) ∙ is)) [ inl both ↦ inl (leb-true 2 (eols 2 here).0 both) | inr one ↦ inr one ])

-- where they aren't settled, an EOL more may come
eols_here_may_come : (settings : DecodeSettings) (here : Bits) → eols_here_are_settled settings here ≡ false
    → eols_here settings (here ++ bytes_of_eol) ≡ (suc (eols_here settings here).0, [])
eols_here_may_come settings here unsettled = by_encoding settings.encoding settings.end_of_block unsettled
  where
    by_encoding : (encoding : EncodingMode) (block : Bool) → eols_are_settled encoding block (eols_by encoding block here) ≡ false
        → eols_by encoding block (here ++ bytes_of_eol) ≡ (suc (eols_by encoding block here).0, [])
    by_encoding Group3_1D block is = all_eols_may_come here (sym (settled_1d block (all_eols here)) ∙ is)
    by_encoding Group3_2D block is = tagged_eols_may_come here (sym (settled_2d block (tagged_eols here)) ∙ is)
    by_encoding Group4 false is = all_eols_may_come here (sym (settled_t6 false (all_eols here)) ∙ is)
    by_encoding Group4 true is =
        let both = or_parts (leb 2 (eols 2 here).0) (holds_one (eols 2 here).1) (sym (settled_t6 true (eols 2 here)) ∙ is) in
        eols_may_come 2 here (leb-false 2 (eols 2 here).0 both.0) both.1

-- an EOL at the end is counted alone
last_eol_counted : (settings : DecodeSettings) (here : Bits) → after_eol 0 here ≡ Some [] → eols_here settings here ≡ (1, [])
last_eol_counted settings here e = grind (arith, common_steps, all_eols-some here [] e, all_tagged-some here [] e, eols-some)

-- ---- What follows them

-- what follows settled EOLs is the same with more bits after
after_eols-more : (more : Bits) (settings : DecodeSettings) (taken : ℕ) (has_eols : Bool) (found : ℕ × Bits)
    → eols_are_settled settings.encoding settings.end_of_block found ≡ true → after_eols settings taken has_eols
    (count_then_more more found) ≡ gap_before more (after_eols settings taken has_eols found)
after_eols-more more settings taken has_eols found settled = grind (arith)

-- where no bit is left the reading ends
after_eols-end : (settings : DecodeSettings) (taken : ℕ) (has_eols : Bool) (count : ℕ)
    → after_eols settings taken has_eols (count, []) ≡ Gap.over (Ok [])
after_eols-end settings taken has_eols count = grind (arith, common_steps)

-- ---- The gap
-- whether an EOL is missed
misses_eol-more : (more : Bits) (settings : DecodeSettings) (taken : ℕ) (has_eols : Bool) (here : Bits) → eols_here_are_settled
    settings here ≡ true → misses_eol settings taken has_eols (here ++ more) ≡ misses_eol settings taken has_eols here
misses_eol-more more settings taken has_eols here settled = grind (arith, eols_here-more)

-- a gap that passes the test is the same with more bits after
pub gap_settled : (settings : DecodeSettings) (taken : ℕ) (has_eols : Bool) (here : Bits)
    → gap_is_settled settings taken has_eols here ≡ true → GapIsSettled settings taken has_eols here
gap_settled settings taken has_eols here passes more = by_missed (misses_eol settings taken has_eols here) refl parts.1
  where
    parts : (eols_here_are_settled settings here ≡ true) × ((not (misses_eol settings taken has_eols here)
        || settings.strict || next_eols_are_settled settings (next_eol here)) ≡ true)
    parts = grind (arith, common_steps, and_parts)

    by_next : (o : Option Bits) → next_eol here ≡ o → next_eols_are_settled settings o ≡ true → from_next_eol settings taken
        (here ++ more) (next_eol (here ++ more)) ≡ gap_before more (from_next_eol settings taken here o)
    by_next None e is = absurd cc
    by_next (Some found) e is =
        ap (from_next_eol settings taken (here ++ more)) (next_eol-more more here found e) ∙ ap (after_eols settings taken true)
        (eols_here-more more settings found is) ∙ after_eols-more more settings taken true (eols_here settings found) is

    by_strict : (b : Bool) → (b || next_eols_are_settled settings (next_eol here)) ≡ true
        → cond b (Gap.over (Err InvalidCode)) (from_next_eol settings taken (here ++ more) (next_eol (here ++ more)))
        ≡ gap_before more (cond b (Gap.over (Err InvalidCode)) (from_next_eol settings taken here (next_eol here)))
    by_strict b is = grind (arith, by_next)

    by_missed : (b : Bool) → misses_eol settings taken has_eols here ≡ b → (not (misses_eol settings taken has_eols here)
        || settings.strict || next_eols_are_settled settings (next_eol here)) ≡ true
        → gap_after_row settings taken has_eols (here ++ more) ≡ gap_before more (gap_after_row settings taken has_eols here)
    by_missed true e is = grind (arith, common_steps, misses_eol-more, parts, by_strict)
    by_missed false e is = grind (arith, common_steps, misses_eol-more, parts, eols_here-more, after_eols-more)

-- after one that doesn't, an EOL may come with which the data ends
pub gap_may_end : (settings : DecodeSettings) (taken : ℕ) (has_eols : Bool) (here : Bits) → gap_is_settled settings taken has_eols
    here ≡ false → gap_after_row settings taken has_eols (here ++ bytes_of_eol) ≡ Gap.over (Ok [])
gap_may_end settings taken has_eols here fails = by_eols (eols_here_are_settled settings here) refl fails
  where
    by_next : (o : Option Bits) → next_eol here ≡ o → next_eols_are_settled settings o ≡ false
        → from_next_eol settings taken (here ++ bytes_of_eol) (next_eol (here ++ bytes_of_eol)) ≡ Gap.over (Ok [])
    by_next None e is = grind (arith, common_steps, next_eol_may_come, last_eol_counted, after_eols-end)
    by_next (Some found) e is = ap (from_next_eol settings taken (here ++ bytes_of_eol))
        (next_eol-more bytes_of_eol here found e) ∙ ap (after_eols settings taken true)
        (eols_here_may_come settings found is) ∙ after_eols-end settings taken true (suc (eols_here settings found).0)

    by_eols : (b : Bool) → eols_here_are_settled settings here ≡ b → (b && (not (misses_eol settings taken has_eols here)
        || settings.strict || next_eols_are_settled settings (next_eol here))) ≡ false
        → gap_after_row settings taken has_eols (here ++ bytes_of_eol) ≡ Gap.over (Ok [])
    by_eols false e is = grind (arith, common_steps, eols_here_may_come, ne_eqb, after_eols-end)
    by_eols true e is = grind (arith, common_steps, or_parts, misses_eol-more, not-false, by_next)

-- ---- The law
-- bits that are left with more after them aren't the end of the data
over_differs : (gap : Gap) → Gap.over (Ok []) ≢ gap_before bytes_of_eol gap
over_differs (Gap.line_at has_eols rest) e = absurd cc
over_differs (Gap.over (Err fault)) e = absurd cc
over_differs (Gap.over (Ok rest)) e = grind (arith, common_steps, length-append rest bytes_of_eol)

-- whole bytes change a gap that doesn't pass the test
gap_unsettled : (settings : DecodeSettings) (taken : ℕ)
    (has_eols : Bool) (here : Bits) → gap_is_settled settings taken has_eols here ≡ false → (more : Bits) × AreWholeBytes more
    × (gap_after_row settings taken has_eols (here ++ more) ≢ gap_before more (gap_after_row settings taken has_eols here))
gap_unsettled settings taken has_eols here fails =
    grind (arith, common_steps, over_differs, gap_may_end settings taken has_eols here fails)

-- so each settled gap passes it
gap_passes : (settings : DecodeSettings) (taken : ℕ) (has_eols : Bool) (here : Bits)
    → GapIsSettled settings taken has_eols here → gap_is_settled settings taken has_eols here ≡ true
gap_passes settings taken has_eols here settled = grind (arith, common_steps, cases_Bool, gap_unsettled)

-- whether an EOL is missed is the same at a settled gap
missed_settled : (settings : DecodeSettings) (taken : ℕ) (has_eols : Bool) (here more : Bits) → gap_is_settled settings taken
    has_eols here ≡ true → misses_eol settings taken has_eols (here ++ more) ≡ misses_eol settings taken has_eols here
missed_settled settings taken has_eols here more passes = grind (arith, common_steps, misses_eol-more, and_parts)

-- so what is counted is the same
pub repairs_after-more : (held : Held) (here more : Bits) → gap_is_settled held.settings held.taken held.has_eols here ≡ true
    → repairs_after held (here ++ more) ≡ repairs_after held here
repairs_after-more held here more passes = grind (arith, common_steps, missed_settled)

-- ---- The first gap
-- a gap after no row, with more bits after
at_gap-more : (more bits : Bits) (gap : Gap)
    → at_gap (at_front (bits ++ more)) (gap_before more gap) ≡ move_before more (at_gap (at_front bits) gap)
at_gap-more more bits gap = grind arith

first_settled : (settings : DecodeSettings) (bits : Bits) → first_gap_is_settled settings.encoding settings bits ≡ true
    → FirstGapIsSettled settings bits
first_settled settings bits passes more = grind (arith, common_steps, gap_settled, at_gap-more, all_eols-more)

-- a first gap with more bits after it isn't the end of the data
done_differs : (bits more : Bits) (gap : Gap)
    → at_gap (at_front more) (Gap.over (Ok [])) ≢ move_before bytes_of_eol (at_gap (at_front bits) gap)
done_differs bits more (Gap.line_at has_eols rest) e = grind (arith, common_steps)
done_differs bits more (Gap.over (Err fault)) e = grind (arith, common_steps)
done_differs bits more (Gap.over (Ok rest)) e = grind (arith, common_steps, length-append rest bytes_of_eol)

first_unsettled : (settings : DecodeSettings) (bits : Bits) → first_gap_is_settled settings.encoding settings bits ≡ false
    → (more : Bits) × AreWholeBytes more × (first_gap settings.encoding settings (bits ++ more)
    ≢ move_before more (first_gap settings.encoding settings bits))
first_unsettled settings bits fails = (bytes_of_eol, refl, by_encoding settings.encoding fails)
  where
    left_over : (rest : Bits) → [] ≢ rest ++ bytes_of_eol
    left_over rest same = absurd (omega (arith, ap length same, length-append rest bytes_of_eol))

    by_encoding : (encoding : EncodingMode) → first_gap_is_settled encoding settings bits ≡ false
        → first_gap encoding settings (bits ++ bytes_of_eol) ≢ move_before bytes_of_eol (first_gap encoding settings bits)
    by_encoding Group4 is same = done_differs bits (bits ++ bytes_of_eol) (gap_after_row settings 0 false bits)
        (sym (ap (at_gap (at_front (bits ++ bytes_of_eol))) (gap_may_end settings 0 false bits is)) ∙ same)
    by_encoding Group3_1D is same = grind (arith, common_steps, left_over, all_eols_may_come)
    by_encoding Group3_2D is same = grind (arith, common_steps, left_over, all_eols_may_come)

first_passes : (settings : DecodeSettings) (bits : Bits) → FirstGapIsSettled settings bits
    → first_gap_is_settled settings.encoding settings bits ≡ true
first_passes settings bits settled = grind (arith, common_steps, cases_Bool, first_unsettled)

-- exactly the settled gaps pass the test
pub gaps_settle : GapsSettle
gaps_settle = record {
  gaps = grind (arith, gap_settled, gap_passes);
  missed = missed_settled;
  counted = repairs_after-more;
  bytes = gap_unsettled;
  first = λ settings bits. (first_settled settings bits, first_passes settings bits);
  first_bytes = first_unsettled;
}
