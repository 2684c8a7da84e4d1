-- A gap that was counted, and ends, is passed to where the reader is after it.
use Rattle.fax_rows.proofs.Names.{◌≡◌, ◌∙◌, ◌+◌, ◌≤◌, ap, sym, subst, arith, length, drop, true, false, ℕ, Bool, Bits, Ok}
use Rattle.fax_rows.proofs.Names.{Context, DecodeSettings, EncodingMode, IsStanding}
use Rattle.fax_rows.proofs.Names.{ReachesNextLine, ended, is_at_line, line_after}
use Rattle.fax_rows.proofs.Names.{append_assoc, length-drop, refl, Group3_1D, Group3_2D, Group4, at_end, is_over}
use Rattle.fax_rows.proofs.Names.{misses_eol, seen, false≢true, inl, inr, drop-drop, eqb, limit_met, eols_here, ◌||◌}
use Rattle.std.proofs.Common.{◌&&◌, ltb, ◌++◌, ◌∷◌, [], None, Some, Option, append-nil, leb, replicate, zero, suc, ◌<◌, not}
use Rattle.std.proofs.lemmas.Bool.{and_parts, le-leb, leb-true, lt-ltb, ltb-true}
use Rattle.fax_rows.proofs.Readings.GapsCounted.{counted_then, ends_at_two_eols, none_missing, same_eols, stands}
use Rattle.fax_reading.specs.PlainReading.{eols_by}
use Rattle.fax_rows.specs.GapsCounted.{stand_in}
use Rattle.fax_rows.proofs.Readings.GapsEnded.{found_at_end, found_at_one}
use Rattle.fax_reading.specs.PlainReading.{is_end_of_block}
use Rattle.std.proofs.Math.Seq.{drop-append_seam}
use Rattle.fax_rows.proofs.Readings.GapsStood.{before_split, gap_counts, passes_at_end, passes_at_one, passes_at_two}
use Rattle.fax_rows.specs.declared.gap_count.GapCount.{GapCount}
use Rattle.fax_rows.specs.declared.row_reader.RowState.{RowState}
use Rattle.fax_rows.specs.GapsCounted.{counted, none_counted, EndsAtOne, EndsAtTwo, PassesCounted}
use Rattle.fax_rows.specs.GapsCounted.{StandsInGap, StaysOpen, IsLawfulCount, behind_tag, ends_at_two}
use Rattle.fax_rows.specs.GapsCounted.{eols_of_count, has_tags, left_before, one_counted, past_eols, tag_more}
use Rattle.fax_rows.specs.GapsCounted.{eol_more, to_last_eol}
use Rattle.fax_rows.specs.RowsTried.{rows_after_gap}

-- ---- Bits that follow

eols_past : (encoding : EncodingMode) (count : GapCount) (here : Bits)
    → eols_of_count encoding count here ≡ past_eols encoding (count.eols, left_before count here)
eols_past Group3_1D count here = refl
eols_past Group3_2D count here = refl
eols_past Group4 count here = refl

past_more : (encoding : EncodingMode) (n : ℕ) (here more after : Bits) → at_end here ≡ false
    → past_eols encoding (n, here) ≡ (n, after) → past_eols encoding (n, here ++ more) ≡ (n, after ++ more)
past_more encoding n [] more after some is = absurd (false≢true (sym some))
past_more Group3_1D n (bit ∷ here) more after some is = ap (λ (found : ℕ × Bits). (n, found.1 ++ more)) is
past_more Group4 n (bit ∷ here) more after some is = ap (λ (found : ℕ × Bits). (n, found.1 ++ more)) is
past_more Group3_2D n (false ∷ here) more after some is = ap (λ (found : ℕ × Bits). (n, found.1 ++ more)) is
past_more Group3_2D n (true ∷ here) more after some is = by_six (leb 6 n) refl
  where
    by_six : (six : Bool) → leb 6 n ≡ six
        → past_eols Group3_2D (n, (true ∷ here) ++ more) ≡ (n, after ++ more)
    by_six true e =
        let found : ◌≡◌ {A = ℕ × Bits} (n, here) (n, after) = rw (e) at is in
        rw (e) (ap (λ (found : ℕ × Bits). (n, found.1 ++ more)) found)
    by_six false e =
        let found : ◌≡◌ {A = ℕ × Bits} (n, true ∷ here) (n, after) = rw (e) at is in
        rw (e) (ap (λ (found : ℕ × Bits). (n, found.1 ++ more)) found)

pub some_bits : (here rest : Bits) → at_end (here ++ true ∷ rest) ≡ false
some_bits [] rest = refl
some_bits (bit ∷ here) rest = refl

some_more : (here more : Bits) → at_end here ≡ false → at_end (here ++ more) ≡ at_end here
some_more [] more some = absurd (false≢true (sym some))
some_more (bit ∷ here) more some = refl

-- where no tag follows, the tag of RTC isn't the last bit
some_past : (n : ℕ) (tag : Bool) (zeros : ℕ) (rest after : Bits) → (tag ≡ false → zeros ≡ 0 → 0 < n → ⊥)
    → past_eols Group3_2D (n, behind_tag tag (replicate zeros false ++ []) ++ true ∷ rest) ≡ (n, after) → at_end after ≡ false
some_past n tag zeros rest after other is = by_count tag zeros (leb 6 n) refl other is
  where
    by_count : (tag : Bool) (zeros : ℕ) (six : Bool) → leb 6 n ≡ six → (tag ≡ false → zeros ≡ 0 → 0 < n → ⊥)
        → past_eols Group3_2D (n, behind_tag tag (replicate zeros false ++ []) ++ true ∷ rest) ≡ (n, after)
        → at_end after ≡ false
    by_count true zeros true e other is =
        let found : ◌≡◌ {A = ℕ × Bits} (n, (replicate zeros false ++ []) ++ true ∷ rest) (n, after) = rw (e) at is in
        ap (λ (x : ℕ × Bits). at_end x.1) (sym found) ∙ some_bits (replicate zeros false ++ []) rest
    by_count true zeros false e other is =
        let found : ◌≡◌ {A = ℕ × Bits} (n, true ∷ (replicate zeros false ++ []) ++ true ∷ rest) (n, after) = rw (e) at is in
        ap (λ (x : ℕ × Bits). at_end x.1) (sym found)
    by_count false (suc zeros) six e other is = ap (λ (x : ℕ × Bits). at_end x.1) (sym is)
    by_count false zero false e other is =
        let found : ◌≡◌ {A = ℕ × Bits} (n, true ∷ rest) (n, after) = rw (e) at is in
        ap (λ (x : ℕ × Bits). at_end x.1) (sym found)
    by_count false zero true e other is = absurd (other refl refl (omega (arith, leb-true 6 n e)))

-- such a one would be a tag
no_tag : (two : Bool) (tail : GapCount) → one_counted true two tail ≡ None → tail.tag ≡ false → tail.zeros ≡ 0 → 0 < tail.eols
    → ⊥
no_tag two tail none untagged zeros some =
    let is : one_counted true two tail ≡ Some (tag_more tail) = rw (untagged, zeros, lt-ltb 0 tail.eols some) refl in
    let never : ◌≡◌ {A = Option GapCount} (Some (tag_more tail)) None = sym is ∙ none in cc

one_is_after : (encoding : EncodingMode) (two : Bool) (tail : GapCount) (rest after : Bits)
    → one_counted (has_tags encoding) two tail ≡ None
    → past_eols encoding (tail.eols, left_before tail [] ++ true ∷ rest) ≡ (tail.eols, after) → at_end after ≡ false
one_is_after Group3_1D two tail rest after none is =
    ap (λ (x : ℕ × Bits). at_end x.1) (sym is) ∙ some_bits (left_before tail []) rest
one_is_after Group4 two tail rest after none is =
    ap (λ (x : ℕ × Bits). at_end x.1) (sym is) ∙ some_bits (left_before tail []) rest
one_is_after Group3_2D two tail rest after none is =
    some_past tail.eols tail.tag tail.zeros rest after (no_tag two tail none) is

and_true : (b : Bool) → (b && true) ≡ b
and_true true = refl
and_true false = refl

none_tagged : (encoding : EncodingMode) (block : Bool) → ends_at_two encoding block ≡ true → has_tags encoding ≡ false
none_tagged Group3_1D block is = refl
none_tagged Group3_2D block is = absurd (false≢true is)
none_tagged Group4 block is = refl

pub is_t6 : (encoding : EncodingMode) (block : Bool) → ends_at_two encoding block ≡ true → (encoding ≡ Group4) × (block ≡ true)
is_t6 Group3_1D block is = absurd (false≢true is)
is_t6 Group3_2D block is = absurd (false≢true is)
is_t6 Group4 block is = (refl, is)

-- two EOLs are the end (T.6, 2.4.1.1)
pub both_over : (settings : DecodeSettings) → settings.encoding ≡ Group4 → settings.end_of_block ≡ true
    → (taken : ℕ) (after others : Bits) → is_over settings taken (2, others) ≡ is_over settings taken (2, after)
both_over settings is block taken after others =
    let over : is_end_of_block settings 2 ≡ true = rw (is, block, is_end_of_block) refl in
    rw (over) refl

-- ---- The second EOL of EOFB (T.6, 2.4.1.1)

module _ (settings : DecodeSettings) {old new : GapCount} {before after : Bits} (ends : EndsAtTwo settings old new before after)
    (gone : Bits)
    (is : counted (has_tags settings.encoding) (ends_at_two settings.encoding settings.end_of_block) none_counted gone
    ≡ Some new) where
  -- the EOLs are two, of data that ends with two
  is_second : (ends_at_two settings.encoding settings.end_of_block && ltb 0 new.eols) ≡ true
  is_second = by_test (ends_at_two settings.encoding settings.end_of_block && ltb 0 new.eols) refl
    where
      by_test : (over : Bool) → (ends_at_two settings.encoding settings.end_of_block && ltb 0 new.eols) ≡ over
          → (ends_at_two settings.encoding settings.end_of_block && ltb 0 new.eols) ≡ true
      by_test true e = e
      by_test false e =
          let counts : one_counted (has_tags settings.encoding) (ends_at_two settings.encoding settings.end_of_block) new
          ≡ Some (eol_more new) = rw (le-leb 11 new.zeros ends.enough, e) refl in
          let never : ◌≡◌ {A = Option GapCount} (Some (eol_more new)) None = sym counts ∙ ends.none in absurd cc

  pub ends_with_two : ends_at_two settings.encoding settings.end_of_block ≡ true
  ends_with_two = (and_parts (ends_at_two settings.encoding settings.end_of_block) (ltb 0 new.eols) is_second).0

  some_eol : 0 < new.eols
  some_eol = ltb-true 0 new.eols (and_parts (ends_at_two settings.encoding settings.end_of_block) (ltb 0 new.eols) is_second).1

  lawful : IsLawfulCount (has_tags settings.encoding) (ends_at_two settings.encoding settings.end_of_block) new
  lawful = (stands settings 0 false gone [] new is).1

  pub one_eol : new.eols ≡ 1
  one_eol = omega (arith, some_eol, lawful.few ends_with_two)

  pub untagged : new.tag ≡ false
  untagged = by_tag new.tag refl
    where
      by_tag : (tag : Bool) → new.tag ≡ tag → new.tag ≡ false
      by_tag false e = e
      by_tag true e = absurd (false≢true (sym (none_tagged settings.encoding settings.end_of_block ends_with_two)
          ∙ (lawful.tag e).0))

  -- two EOLs are there
  pub second_is_last : (more : Bits) → eols_here settings (gone ++ true ∷ more) ≡ (2, more)
  second_is_last more =
      let t6 = is_t6 settings.encoding settings.end_of_block ends_with_two in
      same_eols settings 0 false gone (true ∷ more) new is
      ∙ ap (λ (e : EncodingMode). eols_by e settings.end_of_block (stand_in new (true ∷ more))) t6.0
      ∙ ap (λ (b : Bool). eols_by Group4 b (stand_in new (true ∷ more))) t6.1
      ∙ ends_at_two_eols new more untagged one_eol ends.enough

-- ---- Where the reading is

module _ {from : ℕ} {rows : RowState} {ctx : Context} {whole : Bits} {at : ℕ} {old : GapCount}
    (in_gap : StandsInGap from rows ctx whole at old) (before more : Bits) (here : drop at whole ≡ before ++ more) where
  abbrev settings : DecodeSettings
  settings = ctx.held.settings

  -- after those of the bits here that were counted
  abbrev pub in_gap_after : (first after : Bits) (new : GapCount) → before ≡ first ++ after
      → counted (has_tags settings.encoding) (ends_at_two settings.encoding settings.end_of_block) old first ≡ Some new
      → StandsInGap from rows ctx whole (at + length first) new
  in_gap_after first after new are is =
      gap_counts first (after ++ more) in_gap (here ∙ ap (λ (b : Bits). b ++ more) are ∙ append_assoc first after more) is

  -- The gap was passed, and after so many EOLs these bits are here, at this offset.
  pub record IsPassed (count : ℕ) (after : Bits) (next : ℕ) : Type 0 where
    pub stands : IsStanding from (rows_after_gap rows (Ok (is_over settings ctx.held.taken (count, after))) in_gap.start ctx ctx)
        ctx (record { bits = whole; place = next })
    pub reaches : ReachesNextLine (seen rows ctx (record { bits = whole; place = in_gap.start }))
        (seen (rows_after_gap rows (Ok (is_over settings ctx.held.taken (count, after))) in_gap.start ctx ctx) ctx
        (record { bits = whole; place = next })) (line_after (Ok (is_over settings ctx.held.taken (count, after))))

  is_there : (found count next there : ℕ) (after : Bits) → found ≡ count → drop next whole ≡ after ++ more
      → drop there whole ≡ after ++ more → there ≤ length whole
      → is_over settings ctx.held.taken (count, after ++ more) ≡ is_over settings ctx.held.taken (count, after)
      → PassesCounted from rows ctx whole in_gap.start found next → IsPassed count after there
  is_there found count next there after same is place within over passes =
      let place_is : next ≡ there = omega (
        arith,
        passes.within,
        within,
        ap length (is ∙ sym place),
        length-drop next whole,
        length-drop there whole,
      ) in
      let at_place = subst (λ (n : ℕ). PassesCounted from rows ctx whole in_gap.start n there) same
      (subst (λ (n : ℕ). PassesCounted from rows ctx whole in_gap.start found n) place_is passes) in
      let is_end : is_over settings ctx.held.taken (count, drop there whole) ≡ is_over settings ctx.held.taken (count, after) =
      ap (λ (b : Bits). is_over settings ctx.held.taken (count, b)) place ∙ over in
      record {
        stands = subst (λ (o : Bool). IsStanding from (rows_after_gap rows (Ok o) in_gap.start ctx ctx) ctx
            (record { bits = whole; place = there })) is_end at_place.stands;
        reaches = subst (λ (o : Bool). ReachesNextLine (seen rows ctx (record { bits = whole; place = in_gap.start }))
            (seen (rows_after_gap rows (Ok o) in_gap.start ctx ctx) ctx (record { bits = whole; place = there }))
            (line_after (Ok o))) is_end at_place.reaches;
      }

  over_more : (count : ℕ) (after : Bits) → at_end after ≡ false
      → is_over settings ctx.held.taken (count, after ++ more) ≡ is_over settings ctx.held.taken (count, after)
  over_more count after some =
      ap (λ (b : Bool). is_end_of_block settings count || limit_met settings ctx.held.taken || b) (some_more after more some)

  -- ---- At a one

  module _ {new : GapCount} {mid : Bits} (ends : EndsAtOne settings old new before mid) where
    abbrev tail_first : Bits
    tail_first = ends.first ++ left_before ends.tail []

    tail_are : before ≡ tail_first ++ true ∷ ends.rest
    tail_are = ends.are ∙ ap (λ (b : Bits). ends.first ++ b) ends.left
        ∙ sym (append_assoc ends.first (left_before ends.tail []) (true ∷ ends.rest))

    tail_is : counted (has_tags settings.encoding) (ends_at_two settings.encoding settings.end_of_block) old tail_first
        ≡ Some ends.tail
    tail_is = counted_then (has_tags settings.encoding) (ends_at_two settings.encoding settings.end_of_block) old new ends.first
        (left_before ends.tail []) ends.is ∙ ends.counted_tail

    abbrev in_tail : StandsInGap from rows ctx whole (at + length tail_first) ends.tail
    in_tail = in_gap_after tail_first (true ∷ ends.rest) ends.tail tail_are tail_is

    at_tail : drop (at + length tail_first) whole ≡ true ∷ (ends.rest ++ more)
    at_tail = sym (drop-drop (length tail_first) at whole)
        ∙ ap (drop (length tail_first)) (here ∙ ap (λ (b : Bits). b ++ more) tail_are
        ∙ append_assoc tail_first (true ∷ ends.rest) more) ∙ drop-append_seam tail_first (true ∷ (ends.rest ++ more))

    eols_same : new.eols ≡ ends.tail.eols
    eols_same = ap (λ (n : GapCount). n.eols) ends.last

    module _ {after : Bits} (passed : past_eols settings.encoding (new.eols, mid) ≡ (new.eols, after)) where
      past_tail : past_eols settings.encoding (ends.tail.eols, left_before ends.tail [] ++ true ∷ ends.rest)
          ≡ (ends.tail.eols, after)
      past_tail = subst (λ (n : ℕ). past_eols settings.encoding (n, left_before ends.tail [] ++ true ∷ ends.rest) ≡ (n, after))
          eols_same (ap (λ (b : Bits). past_eols settings.encoding (new.eols, b)) (sym ends.left) ∙ passed)

      -- the EOLs that were found, and the bits after them
      found : eols_of_count settings.encoding ends.tail (true ∷ (ends.rest ++ more)) ≡ (ends.tail.eols, after ++ more)
      found =
          eols_past settings.encoding ends.tail (true ∷ (ends.rest ++ more))
          ∙ ap (λ (b : Bits). past_eols settings.encoding (ends.tail.eols, b)) all_left
          ∙ past_more settings.encoding ends.tail.eols (left_before ends.tail [] ++ true ∷ ends.rest) more after
          (some_bits (left_before ends.tail []) ends.rest) past_tail
        where
          all_left : left_before ends.tail (true ∷ (ends.rest ++ more))
              ≡ (left_before ends.tail [] ++ true ∷ ends.rest) ++ more
          all_left = before_split ends.tail.tag ends.tail.zeros [] (true ∷ (ends.rest ++ more))
              ∙ sym (append_assoc (left_before ends.tail []) (true ∷ ends.rest) more)

      some_there : at_end after ≡ false
      some_there = one_is_after settings.encoding (ends_at_two settings.encoding settings.end_of_block) ends.tail ends.rest after
          ends.none past_tail

      -- so many are there
      pub eols_at_one : eols_here settings (drop in_gap.start whole) ≡ (new.eols, after ++ more)
      eols_at_one =
          ap (eols_here settings) (in_tail.are ∙ ap (λ (b : Bits). in_tail.gone ++ b) at_tail)
          ∙ found_at_one settings in_tail.gone ends.tail in_tail.is [] (ends.rest ++ more) ends.tail refl ends.few ends.none
          ∙ found ∙ ap (λ (n : ℕ). (n, after ++ more)) (sym eols_same)

      pub misses_at_one : misses_eol settings ctx.held.taken ctx.held.has_eols (drop in_gap.start whole)
          ≡ (eqb new.eols 0 && ctx.held.has_eols && not (limit_met settings ctx.held.taken))
      misses_at_one =
          let start = drop in_gap.start whole in
          let none_end : at_end start ≡ false =
          ap at_end (in_tail.are ∙ ap (λ (b : Bits). in_tail.gone ++ b) at_tail) ∙ some_bits in_tail.gone (ends.rest ++ more) in
          ap (λ (x : ℕ × Bits). eqb x.0 0 && ctx.held.has_eols && not (limit_met settings ctx.held.taken) && not (at_end start))
          eols_at_one
          ∙ ap (λ (b : Bool). eqb new.eols 0 && ctx.held.has_eols && not (limit_met settings ctx.held.taken) && not b) none_end
          ∙ and_true (eqb new.eols 0 && ctx.held.has_eols && not (limit_met settings ctx.held.taken))

      pub passed_at_one : (there : ℕ) → ended rows.stand ≡ None → is_at_line rows.stand ≡ false
          → misses_eol settings ctx.held.taken ctx.held.has_eols (drop in_gap.start whole) ≡ false
          → drop there whole ≡ after ++ more → there ≤ length whole → IsPassed new.eols after there
      passed_at_one there unended no_line none_missed place within =
          let passes = passes_at_one in_tail unended no_line none_missed (ends.rest ++ more) at_tail ends.few ends.none in
          is_there (eols_of_count settings.encoding ends.tail (true ∷ (ends.rest ++ more))).0 new.eols passes.0 there after
          (ap (λ (x : ℕ × Bits). x.0) found ∙ sym eols_same) (sym passes.1 ∙ ap (λ (x : ℕ × Bits). x.1) found) place within
          (over_more new.eols after some_there) passes.2

  -- ---- At the end of the data

  module _ {new : GapCount} {mid : Bits} (waits : StaysOpen settings old new before mid) (few : new.zeros < 16) (last : more ≡ [])
      {after : Bits} (passed : past_eols settings.encoding (new.eols, mid) ≡ (new.eols, after)) where
    all_is : counted (has_tags settings.encoding) (ends_at_two settings.encoding settings.end_of_block) old before
        ≡ Some waits.end
    all_is = ap (counted (has_tags settings.encoding) (ends_at_two settings.encoding settings.end_of_block) old) waits.are
        ∙ counted_then (has_tags settings.encoding) (ends_at_two settings.encoding settings.end_of_block) old new waits.first
        mid waits.is ∙ waits.still

    abbrev in_all : StandsInGap from rows ctx whole (at + length before) waits.end
    in_all = in_gap_after before [] waits.end (sym (append-nil before)) all_is

    at_all : drop (at + length before) whole ≡ []
    at_all = sym (drop-drop (length before) at whole) ∙ ap (drop (length before)) here ∙ drop-append_seam before more ∙ last

    tail_here : (new ≡ to_last_eol waits.end) × (mid ≡ left_before waits.end [])
    tail_here = elim waits.tail [ inl is ↦ is | inr is ↦ absurd (omega (arith, few, is.0)) ]

    found_all : eols_of_count settings.encoding waits.end [] ≡ (new.eols, after ++ more)
    found_all =
        eols_past settings.encoding waits.end []
        ∙ ap (λ (n : ℕ). past_eols settings.encoding (n, left_before waits.end [])) (sym (ap (λ
        (n : GapCount). n.eols) tail_here.0))
        ∙ ap (λ (b : Bits). past_eols settings.encoding (new.eols, b)) (sym tail_here.1) ∙ passed
        ∙ ap (λ (b : Bits). (new.eols, b)) (sym (ap (λ (b : Bits). after ++ b) last ∙ append-nil after))

    pub eols_at_end : eols_here settings (drop in_gap.start whole) ≡ (new.eols, after ++ more)
    eols_at_end =
        ap (eols_here settings) (in_all.are ∙ ap (λ (b : Bits). in_all.gone ++ b) at_all ∙ append-nil in_all.gone)
        ∙ found_at_end settings in_all.gone waits.end in_all.is ∙ found_all

    pub passed_at_end : (there : ℕ) → ended rows.stand ≡ None → is_at_line rows.stand ≡ false
        → misses_eol settings ctx.held.taken ctx.held.has_eols (drop in_gap.start whole) ≡ false
        → drop there whole ≡ after ++ more → there ≤ length whole → IsPassed new.eols after there
    passed_at_end there unended no_line none_missed place within =
        let passes = passes_at_end in_all unended no_line none_missed at_all in
        is_there (eols_of_count settings.encoding waits.end []).0 new.eols passes.0 there after
        (ap (λ (x : ℕ × Bits). x.0) found_all) (sym passes.1 ∙ ap (λ (x : ℕ × Bits). x.1) found_all) place within
        (ap (λ (b : Bits). is_over settings ctx.held.taken (new.eols, b)) (ap (λ (b : Bits). after ++ b) last
        ∙ append-nil after)) passes.2

  -- ---- At the second EOL of EOFB

  module _ {new : GapCount} {after : Bits} (ends : EndsAtTwo settings old new before after) where
    abbrev in_two : StandsInGap from rows ctx whole (at + length ends.first) new
    in_two = in_gap_after ends.first (true ∷ after) new ends.are ends.is

    at_two : drop (at + length ends.first) whole ≡ true ∷ (after ++ more)
    at_two = sym (drop-drop (length ends.first) at whole)
        ∙ ap (drop (length ends.first)) (here ∙ ap (λ (b : Bits). b ++ more) ends.are
        ∙ append_assoc ends.first (true ∷ after) more) ∙ drop-append_seam ends.first (true ∷ (after ++ more))

    -- so many are there
    pub eols_at_two : eols_here settings (drop in_gap.start whole) ≡ (2, after ++ more)
    eols_at_two =
        ap (eols_here settings) (in_two.are ∙ ap (λ (b : Bits). in_two.gone ++ b) at_two)
        ∙ second_is_last settings ends in_two.gone in_two.is (after ++ more)

    pub none_missed_at_two : misses_eol settings ctx.held.taken ctx.held.has_eols (drop in_gap.start whole) ≡ false
    none_missed_at_two = none_missing settings ctx.held.taken ctx.held.has_eols (drop in_gap.start whole) (after ++ more) 2
        eols_at_two (omega arith)

    pub past_two : (n : ℕ) (bits : Bits) → past_eols settings.encoding (n, bits) ≡ (n, bits)
    past_two n bits =
        ap (λ (e : EncodingMode). past_eols e (n, bits))
        (is_t6 settings.encoding settings.end_of_block (ends_with_two settings ends in_two.gone in_two.is)).0

    pub passed_at_two : (there : ℕ) → ended rows.stand ≡ None → is_at_line rows.stand ≡ false
        → misses_eol settings ctx.held.taken ctx.held.has_eols (drop in_gap.start whole) ≡ false
        → drop there whole ≡ after ++ more → there ≤ length whole → IsPassed 2 after there
    passed_at_two there unended no_line none_missed place within =
        let is = is_t6 settings.encoding settings.end_of_block (ends_with_two settings ends in_two.gone in_two.is) in
        let passes = passes_at_two in_two unended no_line none_missed (after ++ more) is.0 is.1 at_two
        (untagged settings ends in_two.gone in_two.is) (one_eol settings ends in_two.gone in_two.is) ends.enough in
        is_there 2 2 (at + length ends.first + 1) there after refl (sym passes.0) place within
        (both_over settings is.0 is.1 ctx.held.taken after (after ++ more)) passes.1
