-- The reading up to a line that begins at a position.
use Rattle.std.proofs.Common.{◌↔◌, IsTrue, ◌||◌, not}
use Rattle.std.proofs.lemmas.Bool.{false≢true}
use Rattle.std.proofs.lemmas.Bool.{cases_lt}
use Rattle.fax_rows.proofs.Names.{◌≡◌, ◌≢◌, ◌+◌, ◌<◌, ◌≤◌, ◌∙◌, ◌∷◌, ◌++◌, [], ℕ, suc, Bool, true, false, Option, Some, None}
use Rattle.fax_rows.proofs.Names.{Ok, Err, Result, refl, sym, ap, subst, arith, common_steps, length, drop, length-append}
use Rattle.fax_rows.proofs.Names.{length-drop}
use Rattle.fax_rows.proofs.Names.{DecodeSettings, DecodeError, Bits, here, Row, Line, Progress, Turn, Reaches, Gap, Held}
use Rattle.fax_rows.proofs.Names.{move_on, first_line, first_gap, line_of_turn, line_here, row_of_line, plain, context_at}
use Rattle.fax_rows.proofs.Names.{no_repairs, failed_at}
use Rattle.fax_rows.proofs.Names.{add_row, at_gap, gap_after_row, with_row, row_before, Group3_2D, Group4, StandsAtLine}
use Rattle.fax_reading.proofs.Names.{next_eol, eols_here, misses_eol, inl, inr}
use Rattle.fax_reading.specs.LocalityByK.{IsReadBefore}
use Rattle.fax_bits.proofs.Repetition.Repeated.{next_is, not_next}
use Rattle.fax_bits.proofs.CodeWords.ReadRuns.{chosen}
use Rattle.fax_reading.proofs.Readings.RunsOverRows.{row_of_turn}
use Rattle.fax_reading.proofs.Readings.RowsAndGaps.{after_damage-is, after_whole-is, seek_from, after_row}
use Rattle.fax_reading.proofs.Readings.TurnsMoveOn.{unless_over_next, move_shrinks, left_to_read}
use Rattle.fax_reading.proofs.Readings.GapsAndRows.{first_gap_t4}
use Rattle.fax_reading.proofs.KeptRows.TurnsLeave.{reached_leaves}
use Rattle.fax_reading.proofs.DrawingLines.LinesLeaveBits.{LeavesBits}
use Rattle.fax_bits.proofs.BitReading.ConsecutiveEols.{all_counted}
use Rattle.fax_reading.specs.PlainReading.{after_line, aligned_after_row}
use Rattle.fax_reading.specs.Rows.{repaired}
use Rattle.fax_rows.proofs.Readings.RowByRow.{reader_fails_at_line, row_is_there}
use Rattle.hayro_ccitt.specs.TaggedBodies.{ComesLater, IsNotRead, EndsHere}

-- ---- States that are reached

module _ (settings : DecodeSettings) where
  -- a turn that continues adds one row
  adds_one : (s t : Progress) → move_on settings s ≡ Turn.next t → length t.rows ≡ suc (length s.rows)
  adds_one s t e = by_row (row_of_turn settings s) e
    where
      by_row : (row : Result (Row × Bits) DecodeError) → add_row settings s row ≡ Turn.next t → length t.rows
          ≡ suc (length s.rows)
      by_row (Err fault) e = absurd (not_next _ t e)
      by_row (Ok (row, rest)) e = at (gap_after_row settings (length (s.rows ++ row ∷ [])) s.has_eols rest) e
        where
          at : (gap : Gap) → at_gap (with_row s row rest) gap ≡ Turn.next t → length t.rows ≡ suc (length s.rows)
          at gap e = grind (arith, not_next, length-append)

  -- later states have no fewer rows
  rows_grow : (s t : Progress) → Reaches (move_on settings) s t → length s.rows ≤ length t.rows
  rows_grow s t (Reaches.stays same) = omega arith
  rows_grow s t (Reaches.moves from after last e on) = omega (arith, rows_grow after last on, adds_one from after e)

  along_moves : (from after last t : Progress) → move_on settings from ≡ Turn.next after → Reaches (move_on settings) after last
      → Reaches (move_on settings) from t → length last.rows ≤ length t.rows
      → (Reaches (move_on settings) after t → Reaches (move_on settings) last t) → Reaches (move_on settings) last t
  along_moves from after last t e on (Reaches.stays same) le more =
      absurd (omega (arith, le, rows_grow after last on, adds_one same after e))
  along_moves from after last t e on (Reaches.moves same other end f there) le more =
      more (subst (λ (p : Progress). Reaches (move_on settings) p end) (next_is other after (sym f ∙ e)) there)

  -- of two states that are reached that with no fewer rows is reached from the other
  along : (x s t : Progress) → Reaches (move_on settings) x s → Reaches (move_on settings) x t → length s.rows ≤ length t.rows
      → Reaches (move_on settings) s t
  along x s t (Reaches.stays same) there le = there
  along x s t (Reaches.moves from after last e on) there le =
      along_moves from after last t e on there le (λ more. along after last t on more le)

  -- EOLs are given up where none is left
  seek_gives_up : (run t : Progress) (o : Option Bits) → next_eol run.rest ≡ o → seek_from settings run o ≡ Turn.next t
      → run.has_eols ≡ true → t.has_eols ≡ false → next_eol t.rest ≡ None
  seek_gives_up run t None e f sought given_up =
      subst (λ (p : Progress). next_eol p.rest ≡ None) (next_is (record run { has_eols = false }) t f) e
  seek_gives_up run t (Some found) e f sought given_up =
      let same = unless_over_next settings run t (eols_here settings found) f in
      absurd (false≢true (sym given_up ∙ sym (ap (λ (p : Progress). p.has_eols) same) ∙ sought))

  row_gives_up : (run t : Progress) → after_row settings run ≡ Turn.next t → run.has_eols ≡ true → t.has_eols ≡ false
      → next_eol t.rest ≡ None
  row_gives_up run t e sought given_up = elim (chosen (misses_eol settings (length run.rows) run.has_eols run.rest) _ _ _ e) [
    | inl missed ↦ elim (chosen settings.strict _ _ _ missed.1) [
      | inl over ↦ absurd (not_next _ t over.1)
      | inr seeks ↦ seek_gives_up run t (next_eol run.rest) refl seeks.1 sought given_up
    ]
    | inr counted ↦
        let same = unless_over_next settings run t (eols_here settings run.rest) counted.1 in
        absurd (false≢true (sym given_up ∙ sym (ap (λ (p : Progress). p.has_eols) same) ∙ sought))
  ]

  line_gives_up : (s t : Progress) (line : Line) → after_line settings s line ≡ Turn.next t → s.has_eols ≡ true
      → t.has_eols ≡ false → next_eol t.rest ≡ None
  line_gives_up s t (Line.whole row rest) e sought given_up =
      row_gives_up (with_row s row (aligned_after_row settings s.has_eols rest)) t (sym (after_whole-is settings s row rest) ∙ e)
      sought given_up
  line_gives_up s t (Line.broken front fault) e sought given_up =
      elim (chosen (settings.strict || not s.has_eols) _ _ _ (sym (after_damage-is settings s front fault) ∙ e)) [
        | inl over ↦ absurd (not_next _ t over.1)
        | inr added ↦ row_gives_up (with_row s (repaired settings.columns front) (aligned_after_row settings s.has_eols s.rest)) t
            added.1 sought given_up
      ]

  -- bits that are no fewer are the same
  same_suffix : (here rest : Bits) → LeavesBits here rest → length here ≤ length rest → rest ≡ here
  same_suffix here rest ([], is) le = sym is
  same_suffix here rest (bit ∷ before, is) le =
      absurd (omega (arith, ap length is, length-append (bit ∷ before) rest, le))

  module _ (wide : 0 < settings.columns) where
    -- a turn that leaves as many bits gives up EOLs
    stays_put : (s t : Progress) → move_on settings s ≡ Turn.next t → length s.rest ≤ length t.rest → next_eol s.rest ≡ None
    stays_put s t e le = by_sought s.has_eols t.has_eols refl refl
      where
        fewer : left_to_read t < left_to_read s
        fewer = move_shrinks settings wide s t e

        same : t.rest ≡ s.rest
        same = same_suffix s.rest t.rest (reached_leaves settings s t (Reaches.moves s t t e (Reaches.stays t))).0 le

        by_sought : (b d : Bool) → s.has_eols ≡ b → t.has_eols ≡ d → next_eol s.rest ≡ None
        by_sought false d is also = absurd (grind (arith, common_steps, fewer, le))
        by_sought true true is also = absurd (grind (arith, common_steps, fewer, le))
        by_sought true false is also = subst (λ (b : Bits). next_eol b
            ≡ None) same (line_gives_up s t (line_of_turn settings s) e is also)

    -- where an EOL is left, no later state has as many bits
    no_later : (s t : Progress) → (next_eol s.rest ≡ None → ⊥) → Reaches (move_on settings) s t
        → length s.rest ≤ length t.rest → s ≡ t
    no_later s t some (Reaches.stays same) le = refl
    no_later s t some (Reaches.moves from after last e on) le =
        let leaves = (reached_leaves settings after last on).0 in
        absurd (some (stays_put from after e (omega (arith, le, ap length leaves.1, length-append leaves.0 last.rest))))

-- ---- Lines of the reading at a position

module _ (settings : DecodeSettings) (encoding : settings.encoding ≡ Group3_2D) (wide : 0 < settings.columns) (bits : Bits)
    (place : ℕ) where
  begins : first_gap settings.encoding settings bits ≡ Turn.next (first_line settings bits)
  begins = first_gap_t4 settings bits (λ other. absurd (let both : Group3_2D ≡ Group4 = sym encoding ∙ other in cc))

  -- a state that is reached is one at a line
  reached_stands : (so_far : Progress) → Reaches (move_on settings) (first_line settings bits) so_far
      → so_far.rest ≡ drop place bits → StandsAtLine settings bits (context_at settings so_far no_repairs) (drop place bits)
  reached_stands so_far reaches is = record {
    wide = wide;
    first = first_line settings bits;
    so_far = so_far;
    begins = begins;
    room = (all_counted bits).0;
    reaches = reaches;
    held_is = refl;
    rest_is = sym is;
  }

  module _ {held : Held} {line : Bits} (stands : StandsAtLine settings bits held line) (within : length line ≤ length bits) where
    abbrev now : Progress
    now = stands.so_far

    taken_is : held.taken ≡ length now.rows
    taken_is = ap (λ (h : Held). h.taken) stands.held_is

    from_first : Reaches (move_on settings) (first_line settings bits) now
    from_first = subst (λ (p : Progress). Reaches (move_on settings) p now)
        (next_is stands.first (first_line settings bits) (sym stands.begins ∙ begins)) stands.reaches

    -- with as many rows the position is the same
    same_place : (so_far : Progress) → Reaches (move_on settings) (first_line settings bits) so_far
        → so_far.rest ≡ drop place bits → held.taken ≡ length so_far.rows → length line ≡ length (drop place bits)
    same_place so_far reaches is same =
        let one = reader_fails_at_line stands in
        let other = reader_fails_at_line (reached_stands so_far reaches is) in
        omega (arith, one, other, ap (failed_at settings bits) same, within, length-drop place bits)

    -- so after a line elsewhere there is one row more
    pub later_on : length line ≢ length (drop place bits) → ComesLater settings bits place held.taken
        → ComesLater settings bits place (held.taken + 1)
    later_on elsewhere later so_far reaches is = elim (cases_lt held.taken (length so_far.rows)) [
      | inl more ↦ omega (arith, more)
      | inr few ↦ absurd (elsewhere (same_place so_far reaches is (omega (arith, few, later so_far reaches is))))
    ]

    -- past the position there is none
    pub past_place : length line < length (drop place bits) → ComesLater settings bits place held.taken
        → IsNotRead settings bits place
    past_place short later so_far reaches is row rest e =
        let on = along settings (first_line settings bits) now so_far from_first reaches
        (omega (arith, taken_is, later so_far reaches is)) in
        let leaves = (reached_leaves settings now so_far on).0 in
        omega (arith, short, ap length is, ap length stands.rest_is, ap length leaves.1, length-append leaves.0 so_far.rest)

    -- a line that begins there is this one, if an EOL is left
    pub read_before : (after : Bits) (ends : Bool) → line ≡ drop place bits → ComesLater settings bits place held.taken
        → (next_eol (drop place bits) ≡ None → ⊥) → IsTrue ends ↔ EndsHere settings held.reference line after
        → IsTrue ends ↔ IsReadBefore settings bits place after
    read_before after ends here_is later some says = (
      λ is so_far reaches at row rest e. says.0 is row rest (line_is ∙ ap (line_of_turn settings) (only so_far reaches at) ∙ e),
      λ read. says.1 (λ row rest e. read now from_first (sym stands.rest_is ∙ here_is) row rest (sym line_is ∙ e)),
    )
      where
        line_is : line_here settings held.reference line ≡ line_of_turn settings now
        line_is = ap (λ (h : Held). line_here settings h.reference line) stands.held_is
            ∙ ap (λ (b : Bits). line_here settings (row_before settings.columns now.rows) b) stands.rest_is

        left_here : now.rest ≡ drop place bits
        left_here = sym stands.rest_is ∙ here_is

        only : (so_far : Progress) → Reaches (move_on settings) (first_line settings bits) so_far
            → so_far.rest ≡ drop place bits → now ≡ so_far
        only so_far reaches at = no_later settings wide now so_far
            (λ none. some (ap next_eol (sym left_here) ∙ none))
            (along settings (first_line settings bits) now so_far from_first reaches
            (omega (arith, taken_is, later so_far reaches at)))
            (omega (arith, ap length left_here, ap length at))

  -- once all rows were read there is none
  pub none_whole : (count : ℕ) → length (plain settings bits).rows ≤ count → ComesLater settings bits place count
      → IsNotRead settings bits place
  none_whole count all later so_far reaches is row rest e =
      let read : row_of_turn settings so_far ≡ Ok (row, aligned_after_row settings so_far.has_eols rest)
      = ap (row_of_line settings so_far.has_eols so_far.rest) e in
      omega (arith, all, later so_far reaches is, row_is_there settings wide bits begins reaches read)
