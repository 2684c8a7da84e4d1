-- Where a line ends, beside another position.
use Rattle.fax_reading.proofs.Names.{DecodeSettings, Line, Row, Bits, line_here}
use Rattle.fax_reading.proofs.Names.{Group3_2D}
use Rattle.fax_reading.proofs.Names.{row_before, line_by, EncodingMode}
use Rattle.fax_reading.proofs.Names.{IsTrue, arith, leb, leb-true, le-leb, length, length-drop, drop, sym}
use Rattle.fax_reading.proofs.Names.{ap, subst, refl}
use Rattle.fax_reading.proofs.Names.{◌≡◌, ◌+◌, ◌≤◌, ◌↔◌, ◌∙◌, ◌∷◌, [], ℕ, true, false}
use Rattle.fax_reading.specs.LocalityByK.{IsReadBefore}
use Rattle.hayro_ccitt.specs.TaggedBodies.{EndsHere}

-- a whole line ends before an EOL does by twelve bits
pub whole_before : (settings : DecodeSettings) (reference : Row) (bits line rest : Bits) (row : Row) (place end : ℕ)
    → line_here settings reference line ≡ Line.whole row rest → rest ≡ drop place bits → place ≤ length bits → end ≤ length bits
    → IsTrue (leb (place + 12) end) ↔ EndsHere settings reference line (drop end bits)
whole_before settings reference bits line rest row place end is at within short = (
  λ test row2 rest2 e.
      let both : Line.whole row rest ≡ Line.whole row2 rest2 = sym is ∙ e in
      let same : rest ≡ rest2 = cc in
      omega (
        arith,
        leb-true
            (place + 12) end test,
        ap length at,
        ap length same,
        length-drop place bits,
        length-drop end bits,
        within,
      ),
  λ ends. le-leb (place + 12) end
      (omega (arith, ends row rest is, ap length at, length-drop place bits, length-drop end bits, within, short)),
)

-- without columns a line is its tag
bare_line_is : (strict : _) (reference : Row) (line : Bits) (row : Row) (rest : Bits) (bit : _)
    → line_by Group3_2D strict 0 reference (bit ∷ line) ≡ Line.whole row rest → rest ≡ line
bare_line_is strict reference line row rest true e = let both : Line.whole [] line ≡ Line.whole row rest = e in cc
bare_line_is strict reference line row rest false e = let both : Line.whole [] line ≡ Line.whole row rest = e in cc

pub bare_lines : (settings : DecodeSettings) (bits : Bits) (from end : ℕ) → settings.encoding ≡ Group3_2D → settings.columns ≡ 0
    → from + 13 ≤ end → end ≤ length bits → IsReadBefore settings bits from (drop end bits)
bare_lines settings bits from end encoding none far within so_far reaches at row rest e = by_line so_far.rest refl
  where
    read : line_by Group3_2D settings.strict 0 (row_before settings.columns so_far.rows) so_far.rest ≡ Line.whole row rest
    read = sym (ap (λ (k : EncodingMode). line_by k settings.strict settings.columns (row_before settings.columns so_far.rows)
        so_far.rest) encoding ∙ ap (λ (n : ℕ). line_by Group3_2D settings.strict n (row_before settings.columns so_far.rows)
        so_far.rest) none) ∙ e

    by_line : (here : Bits) → so_far.rest ≡ here → length (drop end bits) + 12 ≤ length rest
    by_line [] is = absurd (omega (arith, ap length (sym at ∙ is), length-drop from bits, far, within))
    by_line (bit ∷ line) is =
        let left : rest ≡ line = bare_line_is settings.strict (row_before settings.columns so_far.rows) line row rest bit
        (subst (λ (b : Bits). line_by Group3_2D settings.strict 0 (row_before settings.columns so_far.rows) b
        ≡ Line.whole row rest)
        is read) in
        omega (arith, ap length left, ap length (sym at ∙ is), length-drop from bits, length-drop end bits, far, within)
