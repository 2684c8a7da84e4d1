-- A gap that was counted as its bits came is passed by its counts.
use Rattle.fax_rows.proofs.Names.{◌≡◌, ◌∙◌, ◌+◌, ◌≤◌, ap, sym, arith, length, drop, true, false, ℕ, Bool, Ok}
use Rattle.fax_rows.proofs.Names.{Bits, Context, DecodeSettings, IsStanding, ReachesNextLine, ended, is_at_line, line_after, seen}
use Rattle.fax_rows.proofs.Names.{append_assoc, length-drop, refl}
use Rattle.std.proofs.Common.{◌++◌, ◌∷◌, ◌-◌, [], None, Some, append-nil, leb, replicate, zero, suc}
use Rattle.fax_reading.proofs.Continuations.ShortLines.{line_stays, zeros_end_line}
use Rattle.fax_reading.specs.Continuations.{StaysAsRead, is_short}
use Rattle.fax_reading.specs.PlainReading.{eols_here, is_over, line_here, misses_eol}
use Rattle.fax_reading.specs.Rows.{Row}
use Rattle.fax_rows.proofs.Readings.GapsCounted.{counted_then, ends_at_end, ends_at_one, passes_known}
use Rattle.fax_rows.proofs.Readings.GapsCounted.{same_eols, stands}
use Rattle.fax_rows.proofs.Readings.GapsPassed.{gap_reaches, gap_stays}
use Rattle.fax_rows.specs.declared.gap_count.GapCount.{GapCount}
use Rattle.fax_rows.specs.declared.row_reader.RowState.{RowState}
use Rattle.fax_rows.specs.GapsCounted.{ends_at_two, has_tags, behind_tag, counted, eols_of_count, left_before, none_counted}
use Rattle.fax_rows.specs.GapsCounted.{one_counted}
use Rattle.fax_rows.specs.RowsTried.{PassesGap, rows_after_gap}

-- ---- The EOLs of a gap, of which the first bits are gone

module _ (settings : DecodeSettings) (gone : Bits) (mid : GapCount)
    (is : counted (has_tags settings.encoding) (ends_at_two settings.encoding settings.end_of_block) none_counted gone ≡ Some mid)
  where
    -- at a one that ends it
    pub found_at_one : (first rest : Bits) (end : GapCount)
        → counted (has_tags settings.encoding) (ends_at_two settings.encoding settings.end_of_block) mid first ≡ Some end
        → leb 11 end.zeros ≡ false
        → one_counted (has_tags settings.encoding) (ends_at_two settings.encoding settings.end_of_block) end ≡ None
        → eols_here settings (gone ++ (first ++ true ∷ rest)) ≡ eols_of_count settings.encoding end (true ∷ rest)
    found_at_one first rest end on few none =
        let all = counted_then (has_tags settings.encoding) (ends_at_two settings.encoding settings.end_of_block) none_counted mid
        gone first is ∙ on in
        ap (eols_here settings) (sym (append_assoc gone first (true ∷ rest)))
        ∙ same_eols settings 0 false (gone ++ first) (true ∷ rest) end all
        ∙ ends_at_one settings.encoding settings.end_of_block end rest
        (stands settings 0 false (gone ++ first) (true ∷ rest) end all).1 few none

    -- at the end of the data
    pub found_at_end : eols_here settings gone ≡ eols_of_count settings.encoding mid []
    found_at_end =
        ap (eols_here settings) (sym (append-nil gone)) ∙ same_eols settings 0 false gone [] mid is
        ∙ ends_at_end settings.encoding settings.end_of_block mid (stands settings 0 false gone [] mid is).1

-- ---- The gap is passed

module _ (from : ℕ) (rows : RowState) (ctx : Context) (bits : Bits) (place next count : ℕ)
    (eols : eols_here ctx.held.settings (drop place bits) ≡ (count, drop next bits))
    (whole : misses_eol ctx.held.settings ctx.held.taken ctx.held.has_eols (drop place bits) ≡ false)
    (onward : place ≤ next) (within : next ≤ length bits) (unended : ended rows.stand ≡ None)
    (no_line : is_at_line rows.stand ≡ false) (at : IsStanding from rows ctx (record { bits = bits; place = place })) where
  abbrev over : Bool
  over = is_over ctx.held.settings ctx.held.taken (count, drop next bits)

  known : PassesGap ctx ctx (Ok over) (drop place bits) (drop next bits)
  known = passes_known ctx (drop place bits) (drop next bits) count eols whole
      (omega (arith, onward, within, length-drop place bits, length-drop next bits))

  pub known_stays : IsStanding from (rows_after_gap rows (Ok over) place ctx ctx) ctx (record { bits = bits; place = next })
  known_stays = gap_stays from rows ctx ctx bits place next (Ok over) known (omega (arith, onward, within)) within unended
      no_line at

  pub known_reaches : ReachesNextLine (seen rows ctx (record { bits = bits; place = place }))
      (seen (rows_after_gap rows (Ok over) place ctx ctx) ctx (record { bits = bits; place = next })) (line_after (Ok over))
  known_reaches = gap_reaches from rows ctx ctx bits place next (Ok over) known (omega (arith, onward, within)) within unended
      no_line at

-- ---- A line that begins with the zeros that are left

pub zeros_split : (n k : ℕ) → replicate (n + k) false ++ [] ≡ replicate n false ++ (replicate k false ++ [])
zeros_split zero k = ap (λ (m : ℕ). replicate m false ++ []) (omega arith)
zeros_split (suc n) k =
    let one : suc n + k ≡ suc (n + k) = omega arith in
    ap (λ (m : ℕ). replicate m false ++ []) one ∙ ap (λ (b : Bits). false ∷ b) (zeros_split n k)

pub left_is : (tag : Bool) (n : ℕ) → 11 ≤ n → behind_tag tag (replicate n false ++ [])
    ≡ behind_tag tag [] ++ (replicate 11 false ++ (replicate (n - 11) false ++ []))
left_is tag n enough =
    let all : n ≡ 11 + (n - 11) = omega (arith, enough) in
    ap (λ (m : ℕ). behind_tag tag (replicate m false ++ [])) all ∙ ap (behind_tag tag) (zeros_split 11 (n - 11)) ∙ before tag _
  where
    before : (tag : Bool) (here : Bits) → behind_tag tag here ≡ behind_tag tag [] ++ here
    before true here = refl
    before false here = refl

-- It is the same however many more zeros, or whatever bits, follow eleven of them.
pub left_settles : (settings : DecodeSettings) (reference : Row) (count : GapCount) → 11 ≤ count.zeros
    → StaysAsRead settings reference (left_before count [])
left_settles settings reference count enough =
    line_stays settings reference (left_before count [])
    (ap (λ (b : Bits). is_short (line_here settings reference b)) (left_is count.tag count.zeros enough)
    ∙ zeros_end_line settings reference (behind_tag count.tag []) (replicate (count.zeros - 11) false ++ []))
