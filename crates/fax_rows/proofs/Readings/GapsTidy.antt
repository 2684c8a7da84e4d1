-- What was counted of a gap since its last EOL is what its last bits are.
use Rattle.fax_rows.proofs.Names.{◌≡◌, ◌∙◌, ◌+◌, ◌≤◌, ◌⊎◌, ap, sym, subst, arith}
use Rattle.fax_rows.proofs.Names.{length, drop, true, false, ℕ, Bool, Bits, inl, inr}
use Rattle.fax_rows.proofs.Names.{append_assoc, drop-drop, length-append, length-drop, refl, DecodeSettings}
use Rattle.std.proofs.Common.{◌&&◌, eqb, ltb, not, ◌++◌, ◌∷◌, [], None, Some, Option, append-nil, leb, replicate, ◌-◌, ◌<◌}
use Rattle.std.proofs.Common.{zero, suc}
use Rattle.std.proofs.lemmas.Bool.{and_parts, eqb-true, leb-true, ltb-true, not-true}
use Rattle.std.proofs.lemmas.List.{length-replicate}
use Rattle.fax_rows.proofs.Names.{common_steps}
use Rattle.std.proofs.Math.Seq.{drop-append_seam, drop-length}
use Rattle.fax_rows.proofs.Readings.GapsCounted.{counted_then, zero_alike}
use Rattle.fax_rows.specs.declared.gap_count.GapCount.{GapCount}
use Rattle.fax_rows.specs.GapsCounted.{CountsTo, EndsAtOne, StaysOpen, counted_by, ends_at_two, has_tags}
use Rattle.fax_rows.specs.GapsCounted.{IsTidy, StaysCounted, behind_tag, can_be_tag, counted, eol_counted, eol_more}
use Rattle.fax_rows.specs.GapsCounted.{left_before, one_counted}
use Rattle.fax_rows.specs.GapsCounted.{tag_more, to_last_eol, zero_more}

module _ (tags two : Bool) where
  -- no EOL was counted, and these are the last bits
  record IsAfterEol (old : GapCount) (bits : Bits) (end : GapCount) : Type 0 where
    are : left_before old bits ≡ left_before end []
    eols : old.eols ≡ end.eols
    zeros : old.zeros ≤ end.zeros

  -- up to the last EOL, and after it
  pub record HasTail (old : GapCount) (bits : Bits) (end : GapCount) : Type 0 where
    pub first : Bits
    pub are : bits ≡ first ++ left_before end []
    pub is : counted tags two old first ≡ Some (to_last_eol end)

  abbrev Tail : GapCount → Bits → GapCount → Type 0
  Tail old bits end = IsAfterEol old bits end ⊎ HasTail old bits end

  tail_zero : (old : GapCount) (bits : Bits) (end : GapCount) → Tail (zero_more old) bits end → Tail old (false ∷ bits) end
  tail_zero old bits end (inl after) = inl (record {
    are = ap (behind_tag old.tag) (zero_alike old.zeros bits) ∙ after.are;
    eols = after.eols;
    zeros = omega (arith, after.zeros);
  })
  tail_zero old bits end (inr tail) =
      inr (record { first = false ∷ tail.first; are = ap (λ (b : Bits). false ∷ b) tail.are; is = tail.is })

  -- a one that was counted, and what follows it
  one_first : (old next : GapCount) (first : Bits) (end : GapCount) → one_counted tags two old ≡ Some next
      → counted tags two next first ≡ Some end → counted tags two old (true ∷ first) ≡ Some end
  one_first old next first end one is = rw (one, counted) is

  tail_later : (old next : GapCount) (bits : Bits) (end : GapCount) → one_counted tags two old ≡ Some next
      → HasTail next bits end → HasTail old (true ∷ bits) end
  tail_later old next bits end one tail = record {
    first = true ∷ tail.first;
    are = ap (λ (b : Bits). true ∷ b) tail.are;
    is = one_first old next tail.first (to_last_eol end) one tail.is;
  }

  tail_eol : (old : GapCount) (bits : Bits) (end : GapCount) → one_counted tags two old ≡ Some (eol_more old)
      → Tail (eol_more old) bits end → HasTail old (true ∷ bits) end
  tail_eol old bits end one (inr tail) = tail_later old (eol_more old) bits end one tail
  tail_eol old bits end one (inl after) = record {
    first = true ∷ [];
    are = ap (λ (b : Bits). true ∷ b) after.are;
    is = one_first old (eol_more old) [] (to_last_eol end) one
        (ap (λ (n : ℕ). Some (record { eols = n; tag = false; zeros = 0 })) after.eols);
  }

  tail_tag : (old : GapCount) (bits : Bits) (end : GapCount) → one_counted tags two old ≡ Some (tag_more old)
      → old.tag ≡ false → old.zeros ≡ 0 → Tail (tag_more old) bits end → Tail old (true ∷ bits) end
  tail_tag old bits end one untagged none (inr tail) = inr (tail_later old (tag_more old) bits end one tail)
  tail_tag old bits end one untagged none (inl after) = inl (record {
    are = rw (untagged, none) after.are;
    eols = after.eols;
    zeros = omega (arith, none);
  })

  module _ (old next : GapCount) (bits : Bits) (end : GapCount) where
    by_eol : (over : Bool) → (two && ltb 0 old.eols) ≡ over → one_counted tags two old ≡ Some next
        → eol_counted two old ≡ Some next → Tail next bits end → Tail old (true ∷ bits) end
    by_eol true e one is tail = let never : ◌≡◌ {A = Option GapCount} None (Some next) = rw (e) at is in absurd cc
    by_eol false e one is tail =
        let some : ◌≡◌ {A = Option GapCount} (Some (eol_more old)) (Some next) = rw (e) at is in
        let same : next ≡ eol_more old = cc in
        inr (tail_eol old bits end (one ∙ ap Some same) (subst (λ (n : GapCount). Tail n bits end) same tail))

    by_tag : (can : Bool) → can_be_tag tags old ≡ can → leb 11 old.zeros ≡ false
        → one_counted tags two old ≡ Some next → Tail next bits end → Tail old (true ∷ bits) end
    by_tag false e few is tail = let never : ◌≡◌ {A = Option GapCount} None (Some next) = rw (few, e) at is in absurd cc
    by_tag true e few is tail =
        let some : ◌≡◌ {A = Option GapCount} (Some (tag_more old)) (Some next) = rw (few, e) at is in
        let same : next ≡ tag_more old = cc in
        let last = and_parts (tags && ltb 0 old.eols && not old.tag) (eqb old.zeros 0) e in
        let tagged = and_parts (tags && ltb 0 old.eols) (not old.tag) last.0 in
        tail_tag old bits end (is ∙ ap Some same) (not-true old.tag tagged.1) (eqb-true old.zeros 0 last.1)
        (subst (λ (n : GapCount). Tail n bits end) same tail)

    tail_one : (enough : Bool) → leb 11 old.zeros ≡ enough → one_counted tags two old ≡ Some next → Tail next bits end
        → Tail old (true ∷ bits) end
    tail_one true e is tail =
        by_eol (two && ltb 0 old.eols) refl is (let eol : eol_counted two old ≡ Some next = rw (e) at is in eol) tail
    tail_one false e is tail = by_tag (can_be_tag tags old) refl e is tail

  tail_of : (old : GapCount) (bits : Bits) (end : GapCount) → counted tags two old bits ≡ Some end → Tail old bits end
  tail_of old [] end is =
      let same : old ≡ end = cc in
      inl (subst (λ (n : GapCount). IsAfterEol old [] n) same (record { are = refl; eols = refl; zeros = omega arith }))
  tail_of old (false ∷ bits) end is = tail_zero old bits end (tail_of (zero_more old) bits end is)
  tail_of old (true ∷ bits) end is =
      by_one (λ next then. tail_of next bits end then) (one_counted tags two old) refl
    where
      by_one : ((next : GapCount) → counted tags two next bits ≡ Some end → Tail next bits end) → (o : Option GapCount)
          → one_counted tags two old ≡ o → Tail old (true ∷ bits) end
      by_one on None e = let never : ◌≡◌ {A = Option GapCount} None (Some end) = rw (e, counted) at is in absurd cc
      by_one on (Some next) e =
          let then : counted tags two next bits ≡ Some end = rw (e, counted) at is in
          tail_one old next bits end (leb 11 old.zeros) refl e (on next then)

  -- Few zeros were the last: the bits go back to the last EOL.
  pub goes_back : (old : GapCount) (bits : Bits) (end : GapCount) → IsTidy old → counted tags two old bits ≡ Some end
      → end.zeros < 16 → HasTail old bits end
  goes_back old bits end tidy is few = by_tail tidy (tail_of old bits end is)
    where
      by_tail : IsTidy old → Tail old bits end → HasTail old bits end
      by_tail tidy (inr tail) = tail
      by_tail (inr enough) (inl after) = absurd (omega (arith, enough, few, after.zeros))
      by_tail (inl last) (inl after) = record {
        first = [];
        are = ap (λ (n : GapCount). left_before n bits) (sym last) ∙ after.are;
        is = ap Some (last ∙ ap (λ (n : ℕ). record { eols = n; tag = false; zeros = 0 }) after.eols);
      }

  -- they are counted from there on
  pub tail_counted : (old : GapCount) (bits : Bits) (end : GapCount) → counted tags two old bits ≡ Some end
      → (tail : HasTail old bits end) → counted tags two (to_last_eol end) (left_before end []) ≡ Some end
  tail_counted old bits end is tail =
      sym (counted_then tags two old (to_last_eol end) tail.first (left_before end []) tail.is)
      ∙ ap (counted tags two old) (sym tail.are) ∙ is

-- ---- Where the reader goes back to

module _ (bits : Bits) (place from : ℕ) (first left after : Bits) (are : drop place bits ≡ (first ++ left) ++ after)
    (begun : place ≤ length bits) (within : from ≤ length bits) (rest : from + length after ≡ length bits) where
  long : length bits ≡ place + (length first + (length left + length after))
  long = omega (
    arith,
    begun,
    ap length are,
    length-drop place bits,
    length-append (first ++ left) after,
    length-append first left,
  )

  pub left_within : length left ≤ from
  left_within = omega (arith, long, rest)

  pub goes_back_to : drop (from - length left) bits ≡ left ++ after
  goes_back_to =
      let next : from - length left ≡ place + length first = omega (arith, long, rest) in
      ap (λ (n : ℕ). drop n bits) next ∙ sym (drop-drop (length first) place bits)
      ∙ ap (drop (length first)) (are ∙ append_assoc first left after) ∙ drop-append_seam first (left ++ after)

-- a tag and few zeros are few bits
few_left : (tag : Bool) (zeros : ℕ) → zeros < 16 → length (behind_tag tag (replicate zeros false ++ [])) ≤ 16
few_left true zeros few = omega (arith, few, length-append (replicate zeros false) [], length-replicate zeros false)
few_left false zeros few = omega (arith, few, length-append (replicate zeros false) [], length-replicate zeros false)

-- ---- What a call leaves that counts a gap

few_not : (n : ℕ) → n < 11 → leb 11 n ≡ false
few_not n few = by_test (leb 11 n) refl
  where
    by_test : (enough : Bool) → leb 11 n ≡ enough → leb 11 n ≡ false
    by_test false e = e
    by_test true e = absurd (omega (arith, few, leb-true 11 n e))

module _ (settings : DecodeSettings) (tags two : Bool) (tags_are : has_tags settings.encoding ≡ tags)
    (two_are : ends_at_two settings.encoding settings.end_of_block ≡ two) (old end : GapCount) where
  -- it was counted by these settings
  by_settings : (from to : GapCount) (bits : Bits) → counted tags two from bits ≡ Some to
      → counted_by settings from bits ≡ Some to
  by_settings from to bits is =
      ap (λ (t : Bool). counted t (ends_at_two settings.encoding settings.end_of_block) from bits) tags_are
      ∙ ap (λ (t : Bool). counted tags t from bits) two_are ∙ is

  none_by : one_counted tags two end ≡ None
      → one_counted (has_tags settings.encoding) (ends_at_two settings.encoding settings.end_of_block) end ≡ None
  none_by is =
      ap (λ (t : Bool). one_counted t (ends_at_two settings.encoding settings.end_of_block) end) tags_are
      ∙ ap (λ (t : Bool). one_counted tags t end) two_are ∙ is

  module _ (bits : Bits) (place : ℕ) (begun : place ≤ length bits) (tidy : IsTidy old) where
    -- all bits were counted
    module _ (is : counted tags two old (drop place bits) ≡ Some end) where
      pub all_counted : 16 ≤ end.zeros → StaysOpen settings old end (drop place bits) (drop (length bits) bits)
      all_counted enough = record {
        first = drop place bits;
        are = sym (append-nil (drop place bits)) ∙ ap (λ (b : Bits). drop place bits ++ b) (sym (drop-length bits));
        is = by_settings old end (drop place bits) is;
        tidy = inr enough;
        end = end;
        still = ap (counted_by settings end) (drop-length bits);
        few = omega (arith, ap length (drop-length bits));
        tail = inr (enough, drop-length bits);
      }

      module _ (few : end.zeros < 16) where
        tail_all : HasTail tags two old (drop place bits) end
        tail_all = goes_back tags two old (drop place bits) end tidy is few

        all_are : drop place bits ≡ (tail_all.first ++ left_before end []) ++ []
        all_are = tail_all.are ∙ sym (append-nil (tail_all.first ++ left_before end []))

        pub few_within : length (left_before end []) ≤ length bits
        few_within = left_within bits place (length bits) tail_all.first (left_before end []) [] all_are begun (omega arith)
            (omega arith)

        few_here : drop (length bits - length (left_before end [])) bits ≡ left_before end []
        few_here = goes_back_to bits place (length bits) tail_all.first (left_before end []) [] all_are begun (omega arith)
            (omega arith) ∙ append-nil (left_before end [])

        pub few_counted : StaysOpen settings old (to_last_eol end) (drop place bits)
            (drop (length bits - length (left_before end [])) bits)
        few_counted = record {
          first = tail_all.first;
          are = tail_all.are ∙ ap (λ (b : Bits). tail_all.first ++ b) (sym few_here);
          is = by_settings old (to_last_eol end) tail_all.first tail_all.is;
          tidy = inl refl;
          end = end;
          still = ap (counted_by settings (to_last_eol end)) few_here
              ∙ by_settings (to_last_eol end) end (left_before end [])
              (tail_counted tags two old (drop place bits) end is tail_all);
          few = omega (arith, ap length few_here, few_left end.tag end.zeros few);
          tail = inl (refl, few_here);
        }

    -- a one ends it
    module _ (next : ℕ) (within : next ≤ length bits)
        (counts : CountsTo tags two old end (drop place bits) (true ∷ drop next bits)) where
      one_within : (next - 1) + length (true ∷ drop next bits) ≡ length bits
      one_within = omega (
        arith,
        begun,
        within,
        ap length counts.are,
        length-append counts.first (true ∷ drop next bits),
        length-drop place bits,
        length-drop next bits,
      )

      module _ (few : end.zeros < 11) where
        tail_before : HasTail tags two old counts.first end
        tail_before = goes_back tags two old counts.first end tidy counts.is (omega (arith, few))

        one_are : drop place bits ≡ (tail_before.first ++ left_before end []) ++ true ∷ drop next bits
        one_are = counts.are ∙ ap (λ (b : Bits). b ++ true ∷ drop next bits) tail_before.are

        pub one_left_within : length (left_before end []) ≤ next - 1
        one_left_within = left_within bits place (next - 1) tail_before.first (left_before end []) (true ∷ drop next bits) one_are
            begun (omega (arith, within)) one_within

        one_here : drop ((next - 1) - length (left_before end [])) bits ≡ left_before end [] ++ true ∷ drop next bits
        one_here = goes_back_to bits place (next - 1) tail_before.first (left_before end []) (true ∷ drop next bits) one_are begun
            (omega (arith, within)) one_within

        pub one_ends : one_counted tags two end ≡ None → EndsAtOne settings old (to_last_eol end) (drop place bits)
            (drop ((next - 1) - length (left_before end [])) bits)
        one_ends none = record {
          first = tail_before.first;
          are = one_are ∙ append_assoc tail_before.first (left_before end []) (true ∷ drop next bits)
              ∙ ap (λ (b : Bits). tail_before.first ++ b) (sym one_here);
          is = by_settings old (to_last_eol end) tail_before.first tail_before.is;
          tail = end;
          rest = drop next bits;
          left = one_here;
          last = refl;
          counted_tail = by_settings (to_last_eol end) end (left_before end [])
              (tail_counted tags two old counts.first end counts.is tail_before);
          few = few_not end.zeros few;
          none = none_by none;
        }

-- a one is counted once
one_most : (tags two : Bool) (count next : GapCount) → one_counted tags two count ≡ Some next
    → next.eols + next.zeros ≤ count.eols + count.zeros + 1
one_most tags two count next is = grind (arith, common_steps)

-- no more is counted than there are bits
few_by_bits : (tags two : Bool) (count : GapCount) (bits : Bits) (end : GapCount) → counted tags two count bits ≡ Some end
    → end.eols + end.zeros ≤ count.eols + count.zeros + length bits
few_by_bits tags two count [] end is =
    let same : count ≡ end = cc in omega (arith, ap (λ (n : GapCount). n.eols + n.zeros) same)
few_by_bits tags two count (false ∷ bits) end is = omega (arith, few_by_bits tags two (zero_more count) bits end is)
few_by_bits tags two count (true ∷ bits) end is =
    by_one (λ next then. few_by_bits tags two next bits end then) (one_counted tags two count) refl
  where
    by_one : ((next : GapCount) → counted tags two next bits ≡ Some end
        → end.eols + end.zeros ≤ next.eols + next.zeros + length bits) → (o : Option GapCount)
        → one_counted tags two count ≡ o → end.eols + end.zeros ≤ count.eols + count.zeros + length (true ∷ bits)
    by_one on None e = let never : ◌≡◌ {A = Option GapCount} None (Some end) = rw (e, counted) at is in absurd cc
    by_one on (Some next) e =
        let then : counted tags two next bits ≡ Some end = rw (e, counted) at is in
        omega (arith, on next then, one_most tags two count next e)

-- the count stays one that can go on
pub stays_counted : (settings : DecodeSettings) {old new : GapCount} {before after : Bits}
    → StaysOpen settings old new before after → StaysCounted old new before after
stays_counted settings {old} {new} {before} {after} waits = record {
  tidy = waits.tidy;
  most = omega (
    arith,
    few_by_bits (has_tags settings.encoding) (ends_at_two settings.encoding settings.end_of_block) old waits.first new
        waits.is,
    ap length waits.are,
    length-append waits.first after,
  );
  few = waits.few;
}

-- the second of two EOLs that end the data follows one
pub eol_before_two : (tags two : Bool) (count : GapCount) → 11 ≤ count.zeros → one_counted tags two count ≡ None
    → 0 < count.eols
eol_before_two tags two count enough none = grind (arith, common_steps, and_parts, ltb-true)

-- where none is missing and the image goes on, one was counted
pub some_counted : (eols : ℕ) (sought over : Bool) → (eqb eols 0 && sought && not over) ≡ false → sought ≡ true → over ≡ false
    → 0 < eols
some_counted zero sought over whole is more = absurd cc
some_counted (suc n) sought over whole is more = omega arith
