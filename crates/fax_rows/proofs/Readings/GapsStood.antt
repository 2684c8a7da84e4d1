-- Where a reading is whose gap is counted as its bits come.
use Rattle.fax_rows.proofs.Names.{◌≡◌, ◌∙◌, ◌+◌, ◌≤◌, ap, sym, subst, arith, length, drop, true, false, ℕ, Bool}
use Rattle.fax_rows.proofs.Names.{Bits, Context, DecodeSettings, EncodingMode, ended, is_at_line}
use Rattle.fax_rows.proofs.Names.{append_assoc, drop-drop, length-append, length-drop, refl, Group3_1D, Group3_2D, Group4}
use Rattle.std.proofs.Common.{◌&&◌, eqb, ltb, not, ◌++◌, ◌∷◌, [], None, Some, Option, append-nil, leb, replicate}
use Rattle.std.proofs.lemmas.Bool.{and_parts, eqb-true, not-true}
use Rattle.std.proofs.Math.Seq.{drop-append-add, drop-append_seam}
use Rattle.fax_bits.specs.EndOfLine.{pass_last_tag}
use Rattle.fax_reading.specs.PlainReading.{eols_here, misses_eol}
use Rattle.fax_rows.proofs.Readings.GapsCounted.{counted_then, ends_at_two_eols, same_eols, zero_alike}
use Rattle.fax_reading.specs.PlainReading.{eols_by}
use Rattle.fax_rows.specs.GapsCounted.{stand_in}
use Rattle.fax_rows.proofs.Readings.GapsEnded.{found_at_end, found_at_one, known_reaches, known_stays}
use Rattle.fax_rows.specs.declared.gap_count.GapCount.{GapCount}
use Rattle.fax_rows.specs.declared.row_reader.RowState.{RowState}
use Rattle.fax_rows.specs.GapsCounted.{PassesCounted, StandsInGap, counted, counted_by, ends_at_two, eols_of_count, has_tags}
use Rattle.fax_rows.specs.GapsCounted.{behind_tag, can_be_tag, eol_counted, eol_more, left_before, none_counted, one_counted}
use Rattle.fax_rows.specs.GapsCounted.{tag_more, zero_more}

-- ---- It begins, and goes on

module _ {from : ℕ} {rows : RowState} {ctx : Context} {whole : Bits} where
  -- more of its bits are counted
  abbrev pub gap_counts : {at : ℕ} {count next : GapCount} (first rest : Bits) → StandsInGap from rows ctx whole at count
      → drop at whole ≡ first ++ rest → counted_by ctx.held.settings count first ≡ Some next
      → StandsInGap from rows ctx whole (at + length first) next
  gap_counts {at} {count} {next} first rest in_gap here on =
      let settings = ctx.held.settings in
      let following : rest ≡ drop (at + length first) whole =
      sym (drop-append_seam first rest) ∙ ap (drop (length first)) (sym here) ∙ drop-drop (length first) at whole in
      record {
        start = in_gap.start;
        gone = in_gap.gone ++ first;
        are = in_gap.are ∙ ap (λ (b : Bits). in_gap.gone ++ b) (here ∙ ap (λ (b : Bits). first ++ b) following)
            ∙ sym (append_assoc in_gap.gone first (drop (at + length first) whole));
        place = omega (arith, in_gap.place, length-append in_gap.gone first);
        within = omega (
          arith,
          in_gap.within,
          ap length here,
          length-append first rest,
          length-drop at whole,
        );
        is = counted_then (has_tags settings.encoding) (ends_at_two settings.encoding settings.end_of_block) none_counted count
            in_gap.gone first in_gap.is ∙ on;
        stands = in_gap.stands;
      }

-- ---- What is left after its EOLs

-- the tag and the zeros that were counted last are the last of the bits that were counted
pub before_split : (tag : Bool) (n : ℕ) (first rest : Bits) → behind_tag tag (replicate n false ++ (first ++ rest))
    ≡ behind_tag tag (replicate n false ++ first) ++ rest
before_split true n first rest = ap (λ (b : Bits). true ∷ b) (sym (append_assoc (replicate n false) first rest))
before_split false n first rest = sym (append_assoc (replicate n false) first rest)

module _ (tags two : Bool) (count next : GapCount) (rest : Bits) where
  abbrev IsUnread : GapCount → Type 0
  IsUnread now = (first : Bits) × (left_before count (true ∷ rest) ≡ first ++ left_before now rest)

  left_of_eol : (over : Bool) → (two && ltb 0 count.eols) ≡ over → eol_counted two count ≡ Some next → IsUnread next
  left_of_eol true e is = let never : ◌≡◌ {A = Option GapCount} None (Some next) = rw (e) at is in absurd cc
  left_of_eol false e is =
      let some : ◌≡◌ {A = Option GapCount} (Some (eol_more count)) (Some next) = rw (e) at is in
      let same : eol_more count ≡ next = cc in
      subst IsUnread same (left_before count (true ∷ []), before_split count.tag count.zeros (true ∷ []) rest)

  left_of_tag : (can : Bool) → can_be_tag tags count ≡ can → leb 11 count.zeros ≡ false
      → one_counted tags two count ≡ Some next → IsUnread next
  left_of_tag false e few is = let never : ◌≡◌ {A = Option GapCount} None (Some next) = rw (few, e) at is in absurd cc
  left_of_tag true e few is =
      let some : ◌≡◌ {A = Option GapCount} (Some (tag_more count)) (Some next) = rw (few, e) at is in
      let same : tag_more count ≡ next = cc in
      let last = and_parts (tags && ltb 0 count.eols && not count.tag) (eqb count.zeros 0) e in
      let tagged = and_parts (tags && ltb 0 count.eols) (not count.tag) last.0 in
      let untagged : count.tag ≡ false = not-true count.tag tagged.1 in
      let none : count.zeros ≡ 0 = eqb-true count.zeros 0 last.1 in
      subst IsUnread same ([], rw (untagged, none) refl)

  left_of_one : (enough : Bool) → leb 11 count.zeros ≡ enough → one_counted tags two count ≡ Some next → IsUnread next
  left_of_one true e is =
      left_of_eol (two && ltb 0 count.eols) refl (let eol : eol_counted two count ≡ Some next = rw (e) at is in eol)
  left_of_one false e is = left_of_tag (can_be_tag tags count) refl e is

pub left_of_counted : (tags two : Bool) (count : GapCount) (bits : Bits) (end : GapCount) (more : Bits)
    → counted tags two count bits ≡ Some end
    → (first : Bits) × (left_before count (bits ++ more) ≡ first ++ left_before end more)
left_of_counted tags two count [] end more is =
    let same : count ≡ end = cc in ([], ap (λ (n : GapCount). left_before n more) same)
left_of_counted tags two count (false ∷ bits) end more is =
    let rest = left_of_counted tags two (zero_more count) bits end more is in
    (rest.0, ap (behind_tag count.tag) (zero_alike count.zeros (bits ++ more)) ∙ rest.1)
left_of_counted tags two count (true ∷ bits) end more is =
    by_one (λ next then. left_of_counted tags two next bits end more then) (one_counted tags two count) refl
  where
    by_one : ((next : GapCount) → counted tags two next bits ≡ Some end
        → (first : Bits) × (left_before next (bits ++ more) ≡ first ++ left_before end more)) → (o : Option GapCount)
        → one_counted tags two count ≡ o
        → (first : Bits) × (left_before count (true ∷ bits ++ more) ≡ first ++ left_before end more)
    by_one on None e = let never : ◌≡◌ {A = Option GapCount} None (Some end) = rw (e, counted) at is in absurd cc
    by_one on (Some next) e =
        let then : counted tags two next bits ≡ Some end = rw (e, counted) at is in
        let one = left_of_one tags two count next (bits ++ more) (leb 11 count.zeros) refl e in
        let rest = on next then in (
          one.0 ++ rest.0,
          one.1 ∙ ap (λ (b : Bits). one.0 ++ b) rest.1
              ∙ sym (append_assoc one.0 rest.0 (left_before end more)),
        )

-- the bits after its EOLs are the last of these
last_tag_drops : (count : ℕ) (here : Bits) → (n : ℕ) × ((pass_last_tag (count, here)).1 ≡ drop n here) × (n ≤ length here)
last_tag_drops count [] = (0, refl, omega arith)
last_tag_drops count (false ∷ here) = (0, refl, omega arith)
last_tag_drops count (true ∷ here) = by_six (leb 6 count) refl
  where
    by_six : (six : Bool) → leb 6 count ≡ six
        → (n : ℕ) × ((pass_last_tag (count, true ∷ here)).1 ≡ drop n (true ∷ here)) × (n ≤ length (true ∷ here))
    by_six true e = (1, rw (e) refl, omega arith)
    by_six false e = (0, rw (e) refl, omega arith)

found_drops : (encoding : EncodingMode) (count : GapCount) (more : Bits)
    → (n : ℕ) × ((eols_of_count encoding count more).1 ≡ drop n (left_before count more)) × (n ≤ length (left_before count more))
found_drops Group3_1D count more = (0, refl, omega arith)
found_drops Group3_2D count more = last_tag_drops count.eols (left_before count more)
found_drops Group4 count more = (0, refl, omega arith)

-- ---- It ends

module _ {from : ℕ} {rows : RowState} {ctx : Context} {whole : Bits} {at : ℕ} {count : GapCount}
    (in_gap : StandsInGap from rows ctx whole at count) (unended : ended rows.stand ≡ None)
    (no_line : is_at_line rows.stand ≡ false)
    (none_missed : misses_eol ctx.held.settings ctx.held.taken ctx.held.has_eols (drop in_gap.start whole) ≡ false) where
  abbrev settings : DecodeSettings
  settings = ctx.held.settings

  -- what was found is at an offset of the data
  abbrev Passes : Bits → Type 0
  Passes more = (next : ℕ) × ((eols_of_count settings.encoding count more).1 ≡ drop next whole)
      × PassesCounted from rows ctx whole in_gap.start (eols_of_count settings.encoding count more).0 next

  passes_found : (more : Bits) → drop at whole ≡ more
      → eols_here settings (in_gap.gone ++ more) ≡ eols_of_count settings.encoding count more → Passes more
  passes_found more here eols =
      let found = eols_of_count settings.encoding count more in
      let all : drop in_gap.start whole ≡ in_gap.gone ++ more = in_gap.are ∙ ap (λ (b : Bits). in_gap.gone ++ b) here in
      let left = left_of_counted (has_tags settings.encoding) (ends_at_two settings.encoding settings.end_of_block) none_counted
      in_gap.gone count more in_gap.is in
      let drops = found_drops settings.encoding count more in
      let n = drops.0 in
      let next = in_gap.start + (length left.0 + n) in
      let there : found.1 ≡ drop next whole =
      drops.1 ∙ sym (drop-append-add left.0 (left_before count more) n)
      ∙ ap (drop (length left.0 + n)) (sym (all ∙ left.1)) ∙ drop-drop (length left.0 + n) in_gap.start whole in
      let long : length whole ≡ in_gap.start + (length left.0 + length (left_before count more)) = omega (
        arith,
        in_gap.place,
        in_gap.within,
        ap length (all ∙ left.1),
        length-append left.0 (left_before count more),
        length-drop in_gap.start whole,
      ) in
      let within : next ≤ length whole = omega (arith, long, drops.2) in
      let known : eols_here settings (drop in_gap.start whole) ≡ (found.0, drop next whole) =
      ap (eols_here settings) all ∙ eols ∙ ap (λ (b : Bits). (found.0, b)) there in (
        next,
        there,
        record {
          onward = omega arith;
          within = within;
          stands = known_stays from rows ctx whole in_gap.start next found.0 known none_missed (omega arith) within unended
              no_line
              in_gap.stands;
          reaches = known_reaches from rows ctx whole in_gap.start next found.0 known none_missed (omega arith) within unended
              no_line in_gap.stands;
        },
      )

  -- at a one that is counted no longer
  pub passes_at_one : (rest : Bits) → drop at whole ≡ true ∷ rest → leb 11 count.zeros ≡ false
      → one_counted (has_tags settings.encoding) (ends_at_two settings.encoding settings.end_of_block) count ≡ None
      → Passes (true ∷ rest)
  passes_at_one rest here few none =
      passes_found (true ∷ rest) here (found_at_one settings in_gap.gone count in_gap.is [] rest count refl few none)

  -- at the end of the data
  pub passes_at_end : drop at whole ≡ [] → Passes []
  passes_at_end here = passes_found [] here (ap (eols_here settings) (append-nil in_gap.gone)
      ∙ found_at_end settings in_gap.gone count in_gap.is)

  -- at the second EOL of EOFB (T.6, 2.4.1.1)
  pub passes_at_two : (rest : Bits) → settings.encoding ≡ Group4 → settings.end_of_block ≡ true → drop at whole ≡ true ∷ rest
      → count.tag ≡ false → count.eols ≡ 1 → 11 ≤ count.zeros
      → (rest ≡ drop (at + 1) whole) × PassesCounted from rows ctx whole in_gap.start 2 (at + 1)
  passes_at_two rest is block here untagged one enough =
      let there : rest ≡ drop (at + 1) whole = ap (drop 1) (sym here) ∙ drop-drop 1 at whole in
      let all : drop in_gap.start whole ≡ in_gap.gone ++ true ∷ rest =
      in_gap.are ∙ ap (λ (b : Bits). in_gap.gone ++ b) here in
      let two : eols_by settings.encoding settings.end_of_block (stand_in count (true ∷ rest)) ≡ (2, rest) =
      ap (λ (e : EncodingMode). eols_by e settings.end_of_block (stand_in count (true ∷ rest))) is
      ∙ ap (λ (b : Bool). eols_by Group4 b (stand_in count (true ∷ rest))) block
      ∙ ends_at_two_eols count rest untagged one enough in
      let known : eols_here settings (drop in_gap.start whole) ≡ (2, drop (at + 1) whole) =
      ap (eols_here settings) all ∙ same_eols settings 0 false in_gap.gone (true ∷ rest) count in_gap.is ∙ two
      ∙ ap (λ (b : Bits). (2, b)) there in
      let within : at + 1 ≤ length whole =
      omega (arith, in_gap.within, ap length here, length-drop at whole) in (
        there,
        record {
          onward = omega (arith, in_gap.place);
          within = within;
          stands = known_stays from rows ctx whole in_gap.start (at + 1) 2 known none_missed (omega (arith, in_gap.place)) within
              unended no_line in_gap.stands;
          reaches = known_reaches from rows ctx whole in_gap.start (at + 1) 2 known none_missed (omega (arith, in_gap.place))
              within unended no_line in_gap.stands;
        },
      )
