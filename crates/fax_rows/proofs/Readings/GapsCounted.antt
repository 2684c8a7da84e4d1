-- A gap that is counted reads as one that has the counts alone.
use Rattle.std.proofs.Common.{arith, ap, sym, refl, subst, ◌∙◌, ◌≡◌, ◌≤◌, ◌<◌, ◌+◌, ◌++◌, ◌∷◌, [], ℕ, zero, suc, Bool, true}
use Rattle.std.proofs.Common.{false}
use Rattle.std.proofs.Common.{append-nil, Option, Some, None, replicate, length, append_assoc, leb, ltb, eqb, cond, not, ◌&&◌}
use Rattle.std.proofs.lemmas.Bool.{and_parts, eqb-true, false≢true, leb-true, lt-ltb, ltb-true, ne_eqb, not-true}
use Rattle.std.proofs.lemmas.Grind.{common_steps}
use Rattle.fax_bits.specs.Bits.{Bits}
use Rattle.fax_bits.specs.EndOfLine.{after_eol, all_eols, eols, one_more, past_tag, eols_with_tags, pass_last_tag}
use Rattle.fax_bits.proofs.BitReading.ConsecutiveEols.{eol_of, eols-none, count_all-some, counts_plain, counts_tagged}
use Rattle.fax_bits.proofs.BitReading.ConsecutiveEols.{eols-some}
use Rattle.fax_bits.specs.declared.settings.EncodingMode.{EncodingMode}
use Rattle.fax_bits.specs.declared.settings.EncodingMode.TheVariants.{Group3_1D, Group3_2D, Group4}
use Rattle.fax_bits.specs.declared.settings.DecodeSettings.{DecodeSettings}
use Rattle.fax_reading.specs.Context.{Context}
use Rattle.fax_reading.specs.Decoding.{gap_said, repairs_after}
use Rattle.fax_reading.specs.PlainReading.{Gap, after_eols, eols_by, eols_here, gap_after_row, is_over, misses_eol}
use Rattle.fax_rows.specs.RowsTried.{PassesGap}
use Rattle.std.proofs.Common.{Ok}
use Rattle.fax_rows.specs.declared.gap_count.GapCount.{GapCount}
use Rattle.fax_rows.specs.GapsCounted.{ends_at_two, has_tags, CountsTo, behind_eols, behind_tag, counted, eol_bits}
use Rattle.fax_rows.specs.GapsCounted.{eol_counted, eol_more, eols_of_count, left_before, one_counted, stand_in, tag_more}
use Rattle.fax_rows.specs.GapsCounted.{zero_more, IsLawfulCount, can_be_tag, none_counted}

-- all EOLs of one more
pub all_behind : (here : Bits) → all_eols (eol_bits ++ here) ≡ one_more (all_eols here)
all_behind here = count_all-some counts_plain (eol_bits ++ here) here refl

abbrev pub all_tagged : Bits → ℕ × Bits
all_tagged here = eols_with_tags (length here) here

pub tagged_behind : (here : Bits) → all_tagged (eol_bits ++ here) ≡ one_more (all_tagged (past_tag here))
tagged_behind here = count_all-some counts_tagged (eol_bits ++ here) here refl

-- ---- Fill before an EOL is as none

-- eleven zeros or more, and a one
abbrev pub eol_of_zeros : ℕ → Bits → Bits
eol_of_zeros zeros more = replicate zeros false ++ true ∷ more

pub after_zeros : (zeros : ℕ) (more : Bits) → 11 ≤ zeros → after_eol 0 (eol_of_zeros zeros more) ≡ Some more
after_zeros zeros more enough = eol_of 0 zeros more (omega (arith, enough))

-- after so many EOLs
pub plain_alike : (n zeros : ℕ) (more : Bits) → 11 ≤ zeros
    → all_eols (behind_eols n (eol_of_zeros zeros more)) ≡ all_eols (behind_eols (suc n) more)
unfolding behind_eols
plain_alike zero zeros more enough =
    count_all-some counts_plain (eol_of_zeros zeros more) more (after_zeros zeros more enough) ∙ sym (all_behind more)
plain_alike (suc n) zeros more enough =
    all_behind (behind_eols n (eol_of_zeros zeros more)) ∙ ap one_more (plain_alike n zeros more enough)
    ∙ sym (all_behind (behind_eols (suc n) more))

-- with tags, where one may be the last before the zeros
pub tagged_alike : (n zeros : ℕ) (tag : Bool) (more : Bits) → 11 ≤ zeros → (tag ≡ true → 0 < n)
    → all_tagged (behind_eols n (behind_tag tag (eol_of_zeros zeros more))) ≡ all_tagged (behind_eols (suc n) more)
unfolding behind_eols
tagged_alike zero zeros true more enough some = absurd (omega (arith, some refl))
tagged_alike zero zeros false more enough some =
    count_all-some counts_tagged (eol_of_zeros zeros more) more (after_zeros zeros more enough) ∙ sym (tagged_behind more)
tagged_alike (suc (suc n)) zeros tag more enough some =
    tagged_behind (behind_eols (suc n) (behind_tag tag (eol_of_zeros zeros more)))
    ∙ ap one_more (tagged_alike (suc n) zeros tag more enough (λ e. omega arith))
    ∙ sym (tagged_behind (behind_eols (suc (suc n)) more))
tagged_alike (suc zero) zeros tag more enough some =
    tagged_behind (behind_tag tag (eol_of_zeros zeros more)) ∙ ap one_more (last tag)
    ∙ sym (tagged_behind (behind_eols (suc zero) more))
  where
    no_tag : (zeros : ℕ) → 11 ≤ zeros → past_tag (eol_of_zeros zeros more) ≡ eol_of_zeros zeros more
    no_tag zero enough = absurd (omega (arith, enough))
    no_tag (suc zeros) enough = refl

    counted_there : all_tagged (eol_of_zeros zeros more) ≡ all_tagged (behind_eols (suc zero) more)
    counted_there =
        count_all-some counts_tagged (eol_of_zeros zeros more) more (after_zeros zeros more enough) ∙ sym (tagged_behind more)

    last : (tag : Bool) → all_tagged (past_tag (behind_tag tag (eol_of_zeros zeros more)))
        ≡ all_tagged (behind_eols (suc zero) more)
    last false = ap all_tagged (no_tag zeros enough) ∙ counted_there
    last true = rw (after_zeros zeros more enough, past_tag) counted_there

-- two at most (T.6, 2.4.1.1)
pub two_alike : (zeros : ℕ) (more : Bits) → 11 ≤ zeros
    → eols 2 (eol_of_zeros zeros more) ≡ eols 2 (behind_eols (suc zero) more)
unfolding behind_eols
two_alike zeros more enough =
    eols-some 1 (eol_of_zeros zeros more) more (after_zeros zeros more enough) ∙ sym (eols-some 1 (eol_bits ++ more) more refl)

-- ---- What was counted stands for the bits

-- an EOL more, whatever fill and tag are before it
eol_alike : (encoding : EncodingMode) (block : Bool) (n zeros : ℕ) (tag : Bool) (more : Bits) → 11 ≤ zeros
    → (tag ≡ true → (has_tags encoding ≡ true) × (0 < n)) → (ends_at_two encoding block && ltb 0 n) ≡ false
    → eols_by encoding block (behind_eols n (behind_tag tag (eol_of_zeros zeros more)))
    ≡ eols_by encoding block (behind_eols (suc n) more)
unfolding behind_eols
eol_alike Group3_1D block n zeros true more enough lawful few = absurd (false≢true (lawful refl).0)
eol_alike Group3_1D block n zeros false more enough lawful few = plain_alike n zeros more enough
eol_alike Group3_2D block n zeros tag more enough lawful few =
    ap pass_last_tag (tagged_alike n zeros tag more enough (λ e. (lawful e).1))
eol_alike Group4 block n zeros true more enough lawful few = absurd (false≢true (lawful refl).0)
eol_alike Group4 false n zeros false more enough lawful few = plain_alike n zeros more enough
eol_alike Group4 true zero zeros false more enough lawful few = two_alike zeros more enough
eol_alike Group4 true (suc n) zeros false more enough lawful few =
    absurd (false≢true (sym few ∙ lt-ltb 0 (suc n) (omega arith)))

-- a zero more
pub zero_alike : (zeros : ℕ) (more : Bits) → replicate zeros false ++ false ∷ more ≡ replicate (suc zeros) false ++ more
zero_alike zero more = refl
zero_alike (suc zeros) more = ap (λ (b : Bits). false ∷ b) (zero_alike zeros more)

zero_stands : (count : GapCount) (more : Bits) → stand_in count (false ∷ more) ≡ stand_in (zero_more count) more
zero_stands count more = ap (λ (b : Bits). behind_eols count.eols (behind_tag count.tag b)) (zero_alike count.zeros more)

abbrev pub Lawful : EncodingMode → Bool → GapCount → Type 0
Lawful encoding block count = IsLawfulCount (has_tags encoding) (ends_at_two encoding block) count

-- these bits after what was counted read as those after other counts
abbrev pub Stands : EncodingMode → Bool → GapCount → Bits → GapCount → Bits → Type 0
Stands encoding block count here next rest =
    (eols_by encoding block (stand_in count here) ≡ eols_by encoding block (stand_in next rest)) × Lawful encoding block next

-- no more than one EOL
few_eols : (two : Bool) (n : ℕ) → (two && ltb 0 n) ≡ false → two ≡ true → suc n < 2
few_eols two zero e is = omega arith
few_eols true (suc n) e is = absurd (false≢true (sym e ∙ lt-ltb 0 (suc n) (omega arith)))
few_eols false (suc n) e is = absurd (false≢true is)

module _ (encoding : EncodingMode) (block : Bool) (count : GapCount) (lawful : Lawful encoding block count) (more : Bits)
    (next : GapCount) where
  eol_stands : (over : Bool) → (ends_at_two encoding block && ltb 0 count.eols) ≡ over → 11 ≤ count.zeros
      → eol_counted (ends_at_two encoding block) count ≡ Some next → Stands encoding block count (true ∷ more) next more
  eol_stands true e enough is = let never : ◌≡◌ {A = Option GapCount} None (Some next) = rw (e) at is in absurd cc
  eol_stands false e enough is =
      let some : ◌≡◌ {A = Option GapCount} (Some (eol_more count)) (Some next) = rw (e) at is in
      let same : eol_more count ≡ next = cc in
      subst (λ (n : GapCount). Stands encoding block count (true ∷ more) n more) same (
        eol_alike encoding block count.eols count.zeros count.tag more enough lawful.tag e,
        record { tag = λ t. absurd (false≢true t); few = few_eols (ends_at_two encoding block) count.eols e },
      )

  tag_stands : (can : Bool) → can_be_tag (has_tags encoding) count ≡ can → leb 11 count.zeros ≡ false
      → one_counted (has_tags encoding) (ends_at_two encoding block) count ≡ Some next
      → Stands encoding block count (true ∷ more) next more
  tag_stands false e few is = let never : ◌≡◌ {A = Option GapCount} None (Some next) = rw (few, e) at is in absurd cc
  tag_stands true e few is =
      let some : ◌≡◌ {A = Option GapCount} (Some (tag_more count)) (Some next) = rw (few, e) at is in
      let same : tag_more count ≡ next = cc in
      let last = and_parts (has_tags encoding && ltb 0 count.eols && not count.tag) (eqb count.zeros 0) e in
      let tagged = and_parts (has_tags encoding && ltb 0 count.eols) (not count.tag) last.0 in
      let parts = and_parts (has_tags encoding) (ltb 0 count.eols) tagged.0 in
      let untagged : count.tag ≡ false = not-true count.tag tagged.1 in
      let none : count.zeros ≡ 0 = eqb-true count.zeros 0 last.1 in
      subst (λ (n : GapCount). Stands encoding block count (true ∷ more) n more) same
      (rw (untagged, none) refl, record { tag = λ t. (parts.0, ltb-true 0 count.eols parts.1); few = lawful.few })

  one_stands : (enough : Bool) → leb 11 count.zeros ≡ enough
      → one_counted (has_tags encoding) (ends_at_two encoding block) count ≡ Some next
      → Stands encoding block count (true ∷ more) next more
  one_stands true e is = eol_stands (ends_at_two encoding block && ltb 0 count.eols) refl (leb-true 11 count.zeros e)
      (let eol : eol_counted (ends_at_two encoding block) count ≡ Some next = rw (e) at is in eol)
  one_stands false e is = tag_stands (can_be_tag (has_tags encoding) count) refl e is

-- counted bits read as their counts, whatever follows
pub counted_stands : (encoding : EncodingMode) (block : Bool) (count : GapCount) (bits : Bits) (end : GapCount)
    → counted (has_tags encoding) (ends_at_two encoding block) count bits ≡ Some end → Lawful encoding block count
    → (more : Bits) → Stands encoding block count (bits ++ more) end more
counted_stands encoding block count [] end is lawful more =
    let same : count ≡ end = cc in
    subst (λ (n : GapCount). Stands encoding block count more n more) same (refl, lawful)
counted_stands encoding block count (false ∷ bits) end is lawful more =
    let rest = counted_stands encoding block (zero_more count) bits end is (record { tag = lawful.tag; few = lawful.few }) more in
    (ap (eols_by encoding block) (zero_stands count (bits ++ more)) ∙ rest.0, rest.1)
counted_stands encoding block count (true ∷ bits) end is lawful more =
    by_one (λ next then still. counted_stands encoding block next bits end then still more)
    (one_counted (has_tags encoding) (ends_at_two encoding block) count) refl
  where
    by_one : ((next : GapCount) → counted (has_tags encoding) (ends_at_two encoding block) next bits ≡ Some end
        → Lawful encoding block next → Stands encoding block next (bits ++ more) end more) → (o : Option GapCount)
        → one_counted (has_tags encoding) (ends_at_two encoding block) count ≡ o
        → Stands encoding block count (true ∷ bits ++ more) end more
    by_one on None e = let never : ◌≡◌ {A = Option GapCount} None (Some end) = rw (e, counted) at is in absurd cc
    by_one on (Some next) e =
        let then : counted (has_tags encoding) (ends_at_two encoding block) next bits ≡ Some end = rw (e, counted) at is in
        let first = one_stands encoding block count lawful (bits ++ more) next (leb 11 count.zeros) refl e in
        let rest = on next then first.1 in
        (first.0 ∙ rest.0, rest.1)

-- ---- The gap

-- a one that is counted leaves an EOL
one_grows : (tags two : Bool) (count next : GapCount) → one_counted tags two count ≡ Some next
    → (count.eols ≤ next.eols) × (0 < next.eols)
one_grows tags two count next is = grind (arith, common_steps, and_parts, ltb-true)

some : (found : ℕ × Bits) → eqb (one_more found).0 0 ≡ false
some (count, rest) = ne_eqb (suc count) 0 (λ none. omega (arith, none))

-- EOLs aren't forgotten
pub eols_grow : (tags two : Bool) (count : GapCount) (bits : Bits) (end : GapCount) → counted tags two count bits ≡ Some end
    → count.eols ≤ end.eols
eols_grow tags two count [] end is = let same : count ≡ end = cc in omega (arith, ap (λ (n : GapCount). n.eols) same)
eols_grow tags two count (false ∷ bits) end is = eols_grow tags two (zero_more count) bits end is
eols_grow tags two count (true ∷ bits) end is =
    by_one (λ next then. eols_grow tags two next bits end then) (one_counted tags two count) refl
  where
    by_one : ((next : GapCount) → counted tags two next bits ≡ Some end → next.eols ≤ end.eols) → (o : Option GapCount)
        → one_counted tags two count ≡ o → count.eols ≤ end.eols
    by_one on None e = let never : ◌≡◌ {A = Option GapCount} None (Some end) = rw (e, counted) at is in absurd cc
    by_one on (Some next) e =
        let then : counted tags two next bits ≡ Some end = rw (e, counted) at is in
        omega (arith, on next then, (one_grows tags two count next e).0)

-- where no EOL was counted, the zeros are all there is
pub zeros_alone : (tags two : Bool) (count : GapCount) (bits : Bits) (end : GapCount) → counted tags two count bits ≡ Some end
    → end.eols ≡ 0 → (end.tag ≡ count.tag) × ((more : Bits)
    → replicate count.zeros false ++ (bits ++ more) ≡ replicate end.zeros false ++ more)
zeros_alone tags two count [] end is none =
    let same : count ≡ end = cc in
    subst (λ (n : GapCount). (n.tag ≡ count.tag) × ((more : Bits) → replicate count.zeros false ++ more
    ≡ replicate n.zeros false ++ more)) same (refl, λ more. refl)
zeros_alone tags two count (false ∷ bits) end is none =
    let rest = zeros_alone tags two (zero_more count) bits end is none in
    (rest.0, λ more. zero_alike count.zeros (bits ++ more) ∙ rest.1 more)
zeros_alone tags two count (true ∷ bits) end is none = absurd (by_one (one_counted tags two count) refl)
  where
    by_one : (o : Option GapCount) → one_counted tags two count ≡ o → ⊥
    by_one None e = let never : ◌≡◌ {A = Option GapCount} None (Some end) = rw (e, counted) at is in cc
    by_one (Some next) e =
        let then : counted tags two next bits ≡ Some end = rw (e, counted) at is in
        omega (arith, eols_grow tags two next bits end then, (one_grows tags two count next e).1, none)

module _ (settings : DecodeSettings) (taken : ℕ) (sought : Bool) (bits more : Bits) (end : GapCount)
    (is : counted (has_tags settings.encoding) (ends_at_two settings.encoding settings.end_of_block) none_counted bits ≡ Some end)
  where
    pub stands : Stands settings.encoding settings.end_of_block none_counted (bits ++ more) end more
    stands = counted_stands settings.encoding settings.end_of_block none_counted bits end is
        (record { tag = λ e. absurd (false≢true e); few = λ e. omega arith }) more

    pub same_eols : eols_here settings (bits ++ more) ≡ eols_here settings (stand_in end more)
    unfolding behind_eols
    same_eols = stands.0

-- ---- Bits that are counted one after the other

pub counted_then : (tags two : Bool) (old mid : GapCount) (first next : Bits) → counted tags two old first ≡ Some mid
    → counted tags two old (first ++ next) ≡ counted tags two mid next
counted_then tags two old mid [] next is =
    let same : old ≡ mid = cc in ap (λ (n : GapCount). counted tags two n next) same
counted_then tags two old mid (false ∷ first) next is = counted_then tags two (zero_more old) mid first next is
counted_then tags two old mid (true ∷ first) next is =
    by_one (λ one then. counted_then tags two one mid first next then) (one_counted tags two old) refl
  where
    by_one : ((one : GapCount) → counted tags two one first ≡ Some mid
        → counted tags two one (first ++ next) ≡ counted tags two mid next) → (o : Option GapCount)
        → one_counted tags two old ≡ o → counted tags two old (true ∷ first ++ next) ≡ counted tags two mid next
    by_one on None e = let never : ◌≡◌ {A = Option GapCount} None (Some mid) = rw (e, counted) at is in absurd cc
    by_one on (Some one) e =
        let then : counted tags two one first ≡ Some mid = rw (e, counted) at is in
        rw (e, counted) (on one then)

-- so many zeros more
abbrev pub zeros_more : ℕ → GapCount → GapCount
zeros_more n count = record { eols = count.eols; tag = count.tag; zeros = count.zeros + n }

pub counted_zeros : (tags two : Bool) (count : GapCount) (n : ℕ)
    → counted tags two count (replicate n false) ≡ Some (zeros_more n count)
counted_zeros tags two count zero = ap (λ (z : ℕ). Some (record { eols = count.eols; tag = count.tag; zeros = z })) (omega arith)
counted_zeros tags two count (suc n) =
    counted_zeros tags two (zero_more count) n
    ∙ ap (λ (z : ℕ). Some (record { eols = count.eols; tag = count.tag; zeros = z })) (omega arith)

-- zeros, up to the end of the bits or to a one
pub zeros_counted : {tags two : Bool} {old mid : GapCount} {here from : Bits} (n : ℕ) (rest : Bits)
    → CountsTo tags two old mid here from → from ≡ replicate n false ++ rest → CountsTo tags two old (zeros_more n mid) here rest
zeros_counted {tags} {two} {old} {mid} n rest counts is = record {
  first = counts.first ++ replicate n false;
  are = counts.are ∙ ap (λ (b : Bits). counts.first ++ b) is ∙ sym (append_assoc counts.first (replicate n false) rest);
  is = counted_then tags two old mid counts.first (replicate n false) counts.is ∙ counted_zeros tags two mid n;
}

-- and a one
pub one_counted_next : {tags two : Bool} {old mid next : GapCount} {here rest : Bits}
    → CountsTo tags two old mid here (true ∷ rest) → one_counted tags two mid ≡ Some next → CountsTo tags two old next here rest
one_counted_next {tags} {two} {old} {mid} {next} {here} {rest} counts one = record {
  first = counts.first ++ true ∷ [];
  are = counts.are ∙ sym (append_assoc counts.first (true ∷ []) rest);
  is = counted_then tags two old mid counts.first (true ∷ []) counts.is ∙ rw (one, counted) refl;
}

-- all bits were counted
pub all_are_counted : {tags two : Bool} {old new : GapCount} {here : Bits} → CountsTo tags two old new here []
    → counted tags two old here ≡ Some new
all_are_counted {tags} {two} {old} counts =
    ap (counted tags two old) (counts.are ∙ append-nil counts.first) ∙ counts.is

-- ---- A gap that ends

-- zeros, and bits of which no EOL is made with them
abbrev pub zeros_before : GapCount → Bits → Bits
zeros_before count more = replicate count.zeros false ++ more

-- no tag was counted last, and none is here
abbrev pub NoTagHere : EncodingMode → GapCount → Bits → Type 0
NoTagHere encoding count more = has_tags encoding ≡ true → count.tag ≡ false → 0 < count.eols
    → past_tag (zeros_before count more) ≡ zeros_before count more

pub none_left : (tag : Bool) (here : Bits) → after_eol 0 here ≡ None → after_eol 0 (behind_tag tag here) ≡ None
none_left true here none = refl
none_left false here none = none

no_tag_left : (tag : Bool) (here : Bits) → after_eol 0 here ≡ None → (tag ≡ false → past_tag here ≡ here)
    → past_tag (behind_tag tag here) ≡ behind_tag tag here
no_tag_left true here none same = rw (none, past_tag) refl
no_tag_left false here none same = same refl

plain_ends : (n : ℕ) (left : Bits) → after_eol 0 left ≡ None → all_eols (behind_eols n left) ≡ (n, left)
unfolding behind_eols
plain_ends zero left none = counts_plain.none (length left) left none
plain_ends (suc n) left none = all_behind (behind_eols n left) ∙ ap one_more (plain_ends n left none)

tagged_ends : (n : ℕ) (left : Bits) → after_eol 0 left ≡ None → (0 < n → past_tag left ≡ left)
    → all_tagged (behind_eols n left) ≡ (n, left)
unfolding behind_eols
tagged_ends zero left none same = counts_tagged.none (length left) left none
tagged_ends (suc zero) left none same =
    tagged_behind left ∙ ap (λ (b : Bits). one_more (all_tagged b)) (same (omega arith))
    ∙ ap one_more (counts_tagged.none (length left) left none)
tagged_ends (suc (suc n)) left none same =
    tagged_behind (behind_eols (suc n) left) ∙ ap one_more (tagged_ends (suc n) left none (λ some. same (omega arith)))

two_end : (n : ℕ) (left : Bits) → after_eol 0 left ≡ None → n < 2 → eols 2 (behind_eols n left) ≡ (n, left)
unfolding behind_eols
two_end zero left none few = eols-none 2 left none
two_end (suc zero) left none few = eols-some 1 (eol_bits ++ left) left refl ∙ ap one_more (eols-none 1 left none)
two_end (suc (suc n)) left none few = absurd (omega (arith, few))

-- The EOLs of a gap that goes on with no EOL are those that were counted.
pub ends_counted : (encoding : EncodingMode) (block : Bool) (count : GapCount) (more : Bits) → Lawful encoding block count
    → after_eol 0 (zeros_before count more) ≡ None → NoTagHere encoding count more
    → eols_by encoding block (stand_in count more) ≡ eols_of_count encoding count more
ends_counted Group3_1D block count more lawful none same =
    plain_ends count.eols (left_before count more) (none_left count.tag (zeros_before count more) none)
ends_counted Group3_2D block count more lawful none same =
    ap pass_last_tag (tagged_ends count.eols (left_before count more) (none_left count.tag (zeros_before count more) none)
    (λ some. no_tag_left count.tag (zeros_before count more) none (λ untagged. same refl untagged some)))
ends_counted Group4 false count more lawful none same =
    plain_ends count.eols (left_before count more) (none_left count.tag (zeros_before count more) none)
ends_counted Group4 true count more lawful none same =
    two_end count.eols (left_before count more) (none_left count.tag (zeros_before count more) none) (lawful.few refl)

-- so at the end of the data
pub zeros_end : (n : ℕ) (seen : ℕ) → after_eol seen (replicate n false ++ []) ≡ None
zeros_end zero seen = refl
zeros_end (suc n) seen = zeros_end n (suc seen)

zeros_untagged : (n : ℕ) → past_tag (replicate n false ++ []) ≡ replicate n false ++ []
zeros_untagged zero = refl
zeros_untagged (suc n) = refl

pub ends_at_end : (encoding : EncodingMode) (block : Bool) (count : GapCount) → Lawful encoding block count
    → eols_by encoding block (stand_in count []) ≡ eols_of_count encoding count []
ends_at_end encoding block count lawful =
    ends_counted encoding block count [] lawful (zeros_end count.zeros 0) (λ tags untagged some. zeros_untagged count.zeros)

-- and at a one that is counted neither as that of an EOL nor as a tag
few_zeros_end : (n seen : ℕ) (rest : Bits) → leb 11 (seen + n) ≡ false
    → after_eol seen (replicate n false ++ true ∷ rest) ≡ None
few_zeros_end zero seen rest few = let same : leb 11 seen ≡ false = ap (leb 11) (omega arith) ∙ few in rw same refl
few_zeros_end (suc n) seen rest few =
    few_zeros_end n (suc seen) rest (ap (leb 11) (omega arith) ∙ few)

no_tag_there : (tags : Bool) (count : GapCount) (rest : Bits) → can_be_tag tags count ≡ false → tags ≡ true
    → count.tag ≡ false → 0 < count.eols → past_tag (zeros_before count (true ∷ rest)) ≡ zeros_before count (true ∷ rest)
no_tag_there tags count rest other tagged untagged some = by_zeros count.zeros refl
  where
    by_zeros : (n : ℕ) → count.zeros ≡ n
        → past_tag (replicate n false ++ true ∷ rest) ≡ replicate n false ++ true ∷ rest
    by_zeros (suc n) e = refl
    by_zeros zero e = absurd (false≢true (sym other ∙ rw (tagged, untagged, e, lt-ltb 0 count.eols some) refl))

pub ends_at_one : (encoding : EncodingMode) (block : Bool) (count : GapCount) (rest : Bits) → Lawful encoding block count
    → leb 11 count.zeros ≡ false → one_counted (has_tags encoding) (ends_at_two encoding block) count ≡ None
    → eols_by encoding block (stand_in count (true ∷ rest)) ≡ eols_of_count encoding count (true ∷ rest)
ends_at_one encoding block count rest lawful few none =
    ends_counted encoding block count (true ∷ rest) lawful (few_zeros_end count.zeros 0 rest (ap (leb 11) (omega arith) ∙ few))
    (no_tag_there (has_tags encoding) count rest (no_tag_counted (can_be_tag (has_tags encoding) count) refl))
  where
    no_tag_counted : (can : Bool) → can_be_tag (has_tags encoding) count ≡ can → can_be_tag (has_tags encoding) count ≡ false
    no_tag_counted false e = e
    no_tag_counted true e =
        let never : ◌≡◌ {A = Option GapCount} (Some (tag_more count)) None = rw (few, e) at none in absurd cc

-- the second EOL of EOFB ends the gap (T.6, 2.4.1.1)
pub ends_at_two_eols : (count : GapCount) (rest : Bits) → count.tag ≡ false → count.eols ≡ 1 → 11 ≤ count.zeros
    → eols_by Group4 true (stand_in count (true ∷ rest)) ≡ (2, rest)
unfolding behind_eols
ends_at_two_eols count rest untagged one enough =
    rw (untagged, one) (eols-some 1 (eol_bits ++ eol_of_zeros count.zeros rest) (eol_of_zeros count.zeros rest) refl
    ∙ ap one_more (eols-some 0 (eol_of_zeros count.zeros rest) rest (after_zeros count.zeros rest enough)))

-- ---- A gap that is passed by what is known of it

said_so : (over has_eols : Bool) (rest : Bits)
    → cond over (Gap.over (Ok rest)) (Gap.line_at has_eols rest) ≡ gap_said (Ok over) has_eols rest
said_so true has_eols rest = refl
said_so false has_eols rest = refl

-- Where its EOLs are known, and none is missing, it is passed without a look.
pub passes_known : (ctx : Context) (start rest : Bits) (count : ℕ) → eols_here ctx.held.settings start ≡ (count, rest)
    → misses_eol ctx.held.settings ctx.held.taken ctx.held.has_eols start ≡ false → length rest ≤ length start
    → PassesGap ctx ctx (Ok (is_over ctx.held.settings ctx.held.taken (count, rest))) start rest
passes_known ctx start rest count eols whole shorter =
    let held = ctx.held in
    let over = is_over held.settings held.taken (count, rest) in
    record {
      gap =
          let found : gap_after_row held.settings held.taken held.has_eols start
          ≡ after_eols held.settings held.taken held.has_eols (eols_here held.settings start) = rw (whole, gap_after_row) refl in
          found ∙ ap (after_eols held.settings held.taken held.has_eols) eols ∙ said_so over held.has_eols rest;
      held = refl;
      missed = rw (whole, repairs_after) refl;
      given_up = λ is. refl;
      only_code = tt;
      unchanged = tt;
      put_back = tt;
      counts = omega arith;
      work = λ kept. omega (arith, shorter);
      work_given_up = λ other. absurd (other refl);
      work_refused = tt;
    }

-- after an EOL that was counted none is missing
pub none_missing : (settings : DecodeSettings) (taken : ℕ) (sought : Bool) (start rest : Bits) (count : ℕ)
    → eols_here settings start ≡ (count, rest) → 0 < count → misses_eol settings taken sought start ≡ false
none_missing settings taken sought start rest count eols some =
    let other : eqb count 0 ≡ false = ne_eqb count 0 (λ none. omega (arith, none, some)) in
    rw (eols, other, misses_eol) refl
