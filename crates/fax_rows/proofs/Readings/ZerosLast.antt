-- The gap with which the data ends, where only the number of its last zeros is kept, and the line that they begin.
use Rattle.fax_rows.proofs.Names.{◌≡◌, ◌∙◌, ◌+◌, ◌≤◌, ap, sym, subst, arith, length, drop, true, false, ℕ, Bool}
use Rattle.fax_rows.proofs.Names.{Bits, Context, DecodeSettings, DecodeError}
use Rattle.fax_rows.proofs.Names.{EncodingMode, IsStanding, ReachesNextLine, Ok, Result}
use Rattle.fax_rows.proofs.Names.{append_assoc, drop-drop, length-append, length-drop, refl, Group3_1D, Group3_2D, Group4}
use Rattle.fax_rows.proofs.Names.{ended, is_at_line, line_after, seen, AfterRow, at_end, eols_here, is_over, limit_met}
use Rattle.fax_rows.proofs.Names.{misses_eol, next_eol, after_eol, eqb, ◌&&◌}
use Rattle.std.proofs.Common.{◌++◌, ◌∷◌, [], None, append-nil, leb, replicate, zero, suc, not}
use Rattle.std.proofs.lemmas.Bool.{and_parts, eqb-true}
use Rattle.std.proofs.Math.Seq.{drop-append_seam}
use Rattle.fax_bits.proofs.BitReading.ConsecutiveEols.{last_tag_count}
use Rattle.fax_bits.proofs.BitReading.ConsecutiveEols.{counts_plain, counts_tagged, eols-none}
use Rattle.fax_bits.specs.EndOfLine.{pass_last_tag}
use Rattle.fax_reading.specs.PlainReading.{eols_by}
use Rattle.fax_rows.proofs.Readings.GapsCounted.{none_left, zeros_alone, zeros_end}
use Rattle.fax_rows.proofs.Readings.GapsEnded.{found_at_end, known_reaches, known_stays}
use Rattle.fax_rows.proofs.Readings.GapsPassed.{gap_reaches, gap_stays}
use Rattle.fax_rows.specs.declared.gap_count.GapCount.{GapCount}
use Rattle.fax_rows.specs.declared.row_reader.RowState.{RowState}
use Rattle.fax_rows.proofs.Readings.GapsStood.{left_of_counted}
use Rattle.fax_rows.specs.GapsCounted.{StandsInGap, behind_tag, ends_at_two, eols_of_count, has_tags, left_before, none_counted}
use Rattle.std.proofs.lemmas.List.{length-replicate, nil_from_length}
use Rattle.fax_rows.specs.RowsTried.{PassesGap, rows_after_gap}
use Rattle.fax_rows.specs.ZerosLast.{EndsInZeros, PassesZeros, zeros_passed}

-- ---- No EOL is among them

zeros_next : (n : ℕ) → next_eol (replicate n false ++ []) ≡ None
zeros_next zero = refl
zeros_next (suc n) = rw (zeros_end n 1, next_eol) (zeros_next n)

pub none_next : (tag : Bool) (n : ℕ) → next_eol (behind_tag tag (replicate n false ++ [])) ≡ None
none_next false n = zeros_next n
none_next true n = zeros_next n

some_left : (tag : Bool) (n : ℕ) → 11 ≤ n → at_end (behind_tag tag (replicate n false ++ [])) ≡ false
some_left true n enough = refl
some_left false zero enough = absurd (omega (arith, enough))
some_left false (suc n) enough = refl

some_behind : (first left : Bits) → at_end left ≡ false → at_end (first ++ left) ≡ false
some_behind [] left some = some
some_behind (bit ∷ first) left some = refl

-- ---- What is left after the EOLs

eols_first : (encoding : EncodingMode) (count : GapCount) → (eols_of_count encoding count []).0 ≡ count.eols
eols_first Group3_1D count = refl
eols_first Group3_2D count = last_tag_count (count.eols, left_before count [])
eols_first Group4 count = refl

untagged_passed : (encoding : EncodingMode) (count : GapCount) → has_tags encoding ≡ false → zeros_passed encoding count ≡ count
untagged_passed encoding count none = by_six (leb 6 count.eols) refl
  where
    by_six : (six : Bool) → leb 6 count.eols ≡ six → zeros_passed encoding count ≡ count
    by_six true e = rw (e, none) refl
    by_six false e = rw (e) refl

-- a tag of RTC is passed, and no other bit
tag_left : (n : ℕ) (tag : Bool) (zeros : ℕ) → (eols_of_count Group3_2D (record { eols = n; tag = tag; zeros = zeros }) []).1
    ≡ left_before (zeros_passed Group3_2D (record { eols = n; tag = tag; zeros = zeros })) []
tag_left n tag zeros = by_six tag zeros (leb 6 n) refl
  where
    by_six : (tag : Bool) (zeros : ℕ) (six : Bool) → leb 6 n ≡ six
        → (eols_of_count Group3_2D (record { eols = n; tag = tag; zeros = zeros }) []).1
        ≡ left_before (zeros_passed Group3_2D (record { eols = n; tag = tag; zeros = zeros })) []
    by_six true zeros true e = rw (e) refl
    by_six true zeros false e = rw (e) refl
    by_six false zero true e = rw (e) refl
    by_six false zero false e = rw (e) refl
    by_six false (suc zeros) true e = rw (e) refl
    by_six false (suc zeros) false e = rw (e) refl

eols_left : (encoding : EncodingMode) (count : GapCount)
    → (eols_of_count encoding count []).1 ≡ left_before (zeros_passed encoding count) []
eols_left Group3_1D count = ap (λ (n : GapCount). left_before n []) (sym (untagged_passed Group3_1D count refl))
eols_left Group3_2D count = tag_left count.eols count.tag count.zeros
eols_left Group4 count = ap (λ (n : GapCount). left_before n []) (sym (untagged_passed Group4 count refl))

-- it is the last of what was left
left_passed : (encoding : EncodingMode) (count : GapCount)
    → (first : Bits) × (left_before count [] ≡ first ++ left_before (zeros_passed encoding count) [])
left_passed encoding count = by_test count.tag refl (leb 6 count.eols && has_tags encoding) refl
  where
    by_test : (tag : Bool) → count.tag ≡ tag → (past : Bool) → (leb 6 count.eols && has_tags encoding) ≡ past
        → (first : Bits) × (left_before count [] ≡ first ++ left_before (zeros_passed encoding count) [])
    by_test tag t false e = ([], rw (e) refl)
    by_test true t true e = (true ∷ [], rw (e, t) refl)
    by_test false t true e = ([], rw (e, t) refl)

-- ---- The gap is passed

module _ {from : ℕ} {rows : RowState} {ctx : Context} {whole : Bits} {start : ℕ} {count : GapCount}
    (ends : EndsInZeros from rows ctx whole start count) (enough : 11 ≤ count.zeros) (after : rows.stand ≡ AfterRow) where
  abbrev settings : DecodeSettings
  settings = ctx.held.settings

  abbrev lacks : Bool
  lacks = eqb count.eols 0 && ctx.held.has_eols && not (limit_met settings ctx.held.taken)

  abbrev left : GapCount
  left = zeros_passed settings.encoding count

  some_here : at_end (drop start whole) ≡ false
  some_here = ap at_end ends.are ∙ some_behind ends.first (left_before count []) (some_left count.tag count.zeros enough)

  and_true : (b : Bool) → (b && true) ≡ b
  and_true true = refl
  and_true false = refl

  misses_is : misses_eol settings ctx.held.taken ctx.held.has_eols (drop start whole) ≡ lacks
  misses_is =
      ap (λ (x : ℕ × Bits). eqb x.0 0 && ctx.held.has_eols && not (limit_met settings ctx.held.taken)
      && not (at_end (drop start whole))) ends.eols
      ∙ ap (λ (n : ℕ). eqb n 0 && ctx.held.has_eols && not (limit_met settings ctx.held.taken)
      && not (at_end (drop start whole))) (eols_first settings.encoding count)
      ∙ ap (λ (b : Bool). lacks && not b) some_here ∙ and_true lacks

  unended : ended rows.stand ≡ None
  unended = ap ended after

  no_line : is_at_line rows.stand ≡ false
  no_line = ap is_at_line after

  abbrev gone : Bits
  gone = ends.first ++ (left_passed settings.encoding count).0

  all_are : drop start whole ≡ gone ++ left_before left []
  all_are = ends.are ∙ ap (λ (b : Bits). ends.first ++ b) (left_passed settings.encoding count).1
      ∙ sym (append_assoc ends.first (left_passed settings.encoding count).0 (left_before left []))

  abbrev next : ℕ
  next = start + length gone

  there : drop next whole ≡ left_before left []
  there = sym (drop-drop (length gone) start whole) ∙ ap (drop (length gone)) all_are
      ∙ drop-append_seam gone (left_before left [])

  next_within : next ≤ length whole
  next_within = omega (
    arith,
    ends.within,
    ap length all_are,
    length-append gone (left_before left []),
    length-drop start whole,
  )

  known : eols_here settings (drop start whole) ≡ (count.eols, drop next whole)
  known = ends.eols ∙ ap (λ (n : ℕ). (n, (eols_of_count settings.encoding count []).1)) (eols_first settings.encoding count)
      ∙ ap (λ (b : Bits). (count.eols, b)) (eols_left settings.encoding count ∙ sym there)

  left_enough : 11 ≤ left.zeros
  left_enough = by_test (leb 6 count.eols && has_tags settings.encoding) refl
    where
      by_test : (past : Bool) → (leb 6 count.eols && has_tags settings.encoding) ≡ past → 11 ≤ left.zeros
      by_test true e = rw (e) enough
      by_test false e = rw (e) enough

  some_next : at_end (drop next whole) ≡ false
  some_next = ap at_end there ∙ some_left left.tag left.zeros left_enough

  not_not : (b : Bool) → not (not b) ≡ b
  not_not true = refl
  not_not false = refl

  pub passes_zeros : (kept : RowState) (line : Bool) → lacks ≡ false
      → ((rest : Bits) → at_end rest ≡ false → is_over settings ctx.held.taken (count.eols, rest) ≡ not line)
      → ((place : ℕ) → kept ≡ rows_after_gap rows (Ok (not line)) place ctx ctx)
      → PassesZeros from rows kept ctx ctx whole start left (Ok line)
  passes_zeros kept line whole_eols over kept_is =
      let is_end = over (drop next whole) some_next in
      let misses = misses_is ∙ whole_eols in
      let onward : start ≤ next = omega arith in
      record {
        place = next;
        onward = onward;
        within = next_within;
        here = there;
        stands = subst (λ (r : RowState). IsStanding from r ctx (record { bits = whole; place = next })) (sym (kept_is start))
            (subst (λ (o : Bool). IsStanding from (rows_after_gap rows (Ok o) start ctx ctx) ctx
            (record { bits = whole; place = next })) is_end
            (known_stays from rows ctx whole start next count.eols known misses onward next_within unended no_line ends.stands));
        reaches = subst (λ (b : Bool). ReachesNextLine (seen rows ctx (record { bits = whole; place = start }))
            (seen kept ctx (record { bits = whole; place = next })) (Ok b)) (not_not line)
            (subst (λ (r : RowState). ReachesNextLine (seen rows ctx (record { bits = whole; place = start }))
            (seen r ctx (record { bits = whole; place = next })) (Ok (not (not line)))) (sym (kept_is start))
            (subst (λ (o : Bool). ReachesNextLine (seen rows ctx (record { bits = whole; place = start }))
            (seen (rows_after_gap rows (Ok o) start ctx ctx) ctx (record { bits = whole; place = next }))
            (line_after (Ok o))) is_end
            (known_reaches from rows ctx whole start next count.eols known misses onward next_within unended no_line
            ends.stands)));
      }

  -- an EOL is missing
  module _ (is : lacks ≡ true) where
    no_eols : count.eols ≡ 0
    no_eols = eqb-true count.eols 0 (and_parts (eqb count.eols 0) ctx.held.has_eols
        (and_parts (eqb count.eols 0 && ctx.held.has_eols) (not (limit_met settings ctx.held.taken)) is).0).0

    bits_here : drop start whole ≡ left_before count []
    bits_here = ends.are ∙ ap (λ (b : Bits). b ++ left_before count []) (ends.alone no_eols)

    pub none_counts : count.eols ≡ 0
    none_counts = no_eols

    pub none_later : next_eol (drop start whole) ≡ None
    none_later = ap next_eol bits_here ∙ none_next count.tag count.zeros

    pub is_missing : misses_eol settings ctx.held.taken ctx.held.has_eols (drop start whole) ≡ true
    is_missing = misses_is ∙ is

    pub gives_up : (over : Result Bool DecodeError) (new : Context) (kept : RowState)
        → PassesGap ctx new over (drop start whole) (drop start whole) → kept ≡ rows_after_gap rows over start ctx new
        → PassesZeros from rows kept ctx new whole start count (line_after over)
    gives_up over new kept passes kept_is = record {
      place = start;
      onward = omega arith;
      within = ends.within;
      here = bits_here;
      stands = subst (λ (r : RowState). IsStanding from r new (record { bits = whole; place = start })) (sym kept_is)
          (gap_stays from rows ctx new whole start start over passes ends.within ends.within unended no_line ends.stands);
      reaches = subst (λ (r : RowState). ReachesNextLine (seen rows ctx (record { bits = whole; place = start }))
          (seen r new (record { bits = whole; place = start })) (line_after over)) (sym kept_is)
          (gap_reaches from rows ctx new whole start start over passes ends.within ends.within unended no_line ends.stands);
    }

-- ---- Where it is

module _ {from : ℕ} {rows : RowState} {ctx : Context} {whole : Bits} {at : ℕ} {count : GapCount}
    (in_gap : StandsInGap from rows ctx whole at count) where
  abbrev encoding_now : EncodingMode
  encoding_now = ctx.held.settings.encoding

  module _ (none : count.eols ≡ 0) where
    zeros_gone : in_gap.gone ++ [] ≡ left_before count []
    zeros_gone =
        let alone = zeros_alone (has_tags encoding_now) (ends_at_two encoding_now ctx.held.settings.end_of_block) none_counted
        in_gap.gone count in_gap.is none in
        alone.1 [] ∙ ap (λ (t : Bool). behind_tag t (replicate count.zeros false ++ [])) (sym alone.0)

    pub zeros_start : at ≡ in_gap.start + count.zeros
    zeros_start =
        let alone = zeros_alone (has_tags encoding_now) (ends_at_two encoding_now ctx.held.settings.end_of_block) none_counted
        in_gap.gone count in_gap.is none in
        omega (
          arith,
          in_gap.place,
          ap length (alone.1 []),
          length-append in_gap.gone [],
          length-append (replicate count.zeros false) [],
          length-replicate count.zeros false,
        )

  -- all bits of the data were counted
  pub ends_in_zeros : drop at whole ≡ [] → EndsInZeros from rows ctx whole in_gap.start count
  ends_in_zeros last =
      let settings = ctx.held.settings in
      let all : drop in_gap.start whole ≡ in_gap.gone ++ [] = in_gap.are ∙ ap (λ (b : Bits). in_gap.gone ++ b) last in
      let left = left_of_counted (has_tags settings.encoding) (ends_at_two settings.encoding settings.end_of_block) none_counted
      in_gap.gone count [] in_gap.is in
      record {
        within = omega (arith, in_gap.place, in_gap.within);
        stands = in_gap.stands;
        eols = ap (eols_here settings) (all ∙ append-nil in_gap.gone) ∙ found_at_end settings in_gap.gone count in_gap.is;
        first = left.0;
        are = all ∙ left.1;
        alone = λ none. nil_from_length left.0 (omega (
          arith,
          ap length (sym left.1 ∙ zeros_gone none),
          length-append left.0 (left_before count []),
        ));
      }

-- a row was read whose line was broken, so that its bits are those of the gap (T.4, 4.1.2)
none_here : (encoding : EncodingMode) (block : Bool) (left : Bits) → after_eol 0 left ≡ None
    → eols_by encoding block left ≡ (0, left)
none_here Group3_1D block left none = counts_plain.none (length left) left none
none_here Group3_2D block left none = ap pass_last_tag (counts_tagged.none (length left) left none) ∙ untouched left
  where
    untouched : (left : Bits) → pass_last_tag (0, left) ≡ (0, left)
    untouched [] = refl
    untouched (false ∷ left) = refl
    untouched (true ∷ left) = refl
none_here Group4 true left none = eols-none 2 left none
none_here Group4 false left none = counts_plain.none (length left) left none

none_of : (encoding : EncodingMode) (count : GapCount) → count.eols ≡ 0
    → eols_of_count encoding count [] ≡ (0, left_before count [])
none_of Group3_1D count none = ap (λ (n : ℕ). (n, left_before count [])) none
none_of Group3_2D count none = ap (λ (n : ℕ). pass_last_tag (n, left_before count [])) none ∙ untouched (left_before count [])
  where
    untouched : (left : Bits) → pass_last_tag (0, left) ≡ (0, left)
    untouched [] = refl
    untouched (false ∷ left) = refl
    untouched (true ∷ left) = refl
none_of Group4 count none = ap (λ (n : ℕ). (n, left_before count [])) none

pub zeros_again : {from : ℕ} {rows : RowState} {ctx : Context} {whole : Bits} {start : ℕ} {count : GapCount}
    → IsStanding from rows ctx (record { bits = whole; place = start }) → start ≤ length whole
    → drop start whole ≡ left_before count [] → count.eols ≡ 0 → EndsInZeros from rows ctx whole start count
zeros_again {from} {rows} {ctx} {whole} {start} {count} stands within here none =
    let settings = ctx.held.settings in
    record {
      within = within;
      stands = stands;
      eols = ap (eols_here settings) here
          ∙ none_here settings.encoding settings.end_of_block (left_before count [])
          (none_left count.tag (replicate count.zeros false ++ []) (zeros_end count.zeros 0))
          ∙ sym (none_of settings.encoding count none);
      first = [];
      are = here;
      alone = λ e. refl;
    }
