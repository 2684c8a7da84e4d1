-- A gap is looked at no more than twelve bits beyond its end.
use Rattle.fax_feeds.proofs.Names.{common_steps}
use Rattle.fax_feeds.proofs.Names.{◌≡◌, ◌∙◌, ◌+◌, ◌≤◌, ◌∷◌, ◌&&◌, ◌||◌, [], ℕ, zero, suc, Bool, true, false, not, cond}
use Rattle.fax_feeds.proofs.Names.{leb}
use Rattle.fax_feeds.proofs.Names.{Option, None, Some, Result, Ok, Err, refl, sym, ap, arith, length, and_parts, false≢true}
use Rattle.fax_feeds.proofs.Names.{ne_eqb, eols_here}
use Rattle.fax_feeds.proofs.Names.{Bits, DecodeSettings, EncodingMode, Group4, Group3_1D, Group3_2D}
use Rattle.fax_feeds.proofs.Names.{after_eol, next_eol, at_end, eols_by, limit_met, Gap, gap_after_row, InvalidCode}
use Rattle.fax_feeds.proofs.Names.{DecodeError, OnErr, gap_said}
use Rattle.fax_bits.specs.EndOfLine.{eols, eols_with_tags, one_more, past_tag}
use Rattle.fax_feeds.specs.FeedsKeepLittle.{left_by}
use Rattle.fax_reading.specs.GapsContinued.{holds_one, eols_are_settled, next_eols_are_settled, gap_is_settled}
use Rattle.fax_feeds.specs.GapsSeen.{bits_needed, is_settled, one_eol_more, rules_after_row, stage_after}
use Rattle.fax_reading.specs.PlainReading.{after_eols, from_next_eol, missing_eol, misses_eol}
use Rattle.fax_feeds.specs.declared.gap_look.GapRules.{GapRules}
use Rattle.fax_feeds.specs.declared.gap_look.GapStage.{GapStage}
use Rattle.fax_feeds.specs.declared.gap_look.GapStage.TheVariants.{Start, Damage, AfterEol, AfterTag, Settled}
use Rattle.fax_bits.proofs.BitReading.ConsecutiveEols.{all_eols-some, all_tagged, all_tagged-some, after_eol_shorter, count_same}
use Rattle.fax_bits.proofs.BitReading.ConsecutiveEols.{counts_tagged, eols-none, eols-some, eols_with_tags-none}
use Rattle.fax_bits.proofs.BitReading.ConsecutiveEols.{eols_with_tags-some, last_tag_shorter, next_eol_found, past_tag_shorter}
use Rattle.fax_reading.proofs.GapsContinued.ContinuedEols.{after_first_tag, following_one, last_tag_tested}
use Rattle.fax_feeds.proofs.Readings.GapsSeen.{after_more, after_one_shorter, eol_counts}
use Rattle.fax_feeds.proofs.Readings.GapsSeen.{none_here, none_past, none_settled, one_here, one_is_left}
use Rattle.fax_feeds.proofs.Readings.GapsSeen.{rules_of, some_past, stage_after_eol}
use Rattle.fax_reading.proofs.Work.EolsPassed.{eols_here_shorter}
use Rattle.std.proofs.lemmas.Bool.{not-true}
use Rattle.fax_reading.proofs.DamagedLines.PastEol.{past, past_is, then_after}

-- ---- Up to the first one

-- what is settled needs no more bits
pub none_needed : (rules : GapRules) (stage : GapStage) (seen : ℕ) (here : Bits) → is_settled stage ≡ true
    → bits_needed rules stage seen here ≡ 0
none_needed rules stage seen [] is = refl
none_needed rules stage seen (false ∷ here) is = grind (arith, common_steps)
none_needed rules stage seen (true ∷ here) is = grind (arith, common_steps)

-- what isn't needs the bits up to the next one
pub one_more_needed : (rules : GapRules) (stage : GapStage) (seen : ℕ) (here : Bits) → is_settled stage ≡ false
    → bits_needed rules stage seen (true ∷ here) ≡ suc (bits_needed rules (stage_after rules stage seen) 0 here)
one_more_needed rules stage seen here is = grind (arith, common_steps)

pub zero_more_needed : (rules : GapRules) (stage : GapStage) (seen : ℕ) (here : Bits) → is_settled stage ≡ false
    → bits_needed rules stage seen (false ∷ here) ≡ suc (bits_needed rules stage (suc seen) here)
zero_more_needed rules stage seen here is = grind (arith, common_steps)

-- an EOL needs its bits
eol_needed : (rules : GapRules) (stage : GapStage) (seen : ℕ) (here rest : Bits) → is_settled stage ≡ false
    → after_eol seen here ≡ Some rest
    → bits_needed rules stage seen here + length rest ≡ length here + bits_needed rules (stage_after_eol rules stage) 0 rest
eol_needed rules stage seen [] rest is e = absurd cc
eol_needed rules stage seen (false ∷ here) rest is e =
    omega (arith, zero_more_needed rules stage seen here is, eol_needed rules stage (suc seen) here rest is e)
eol_needed rules stage seen (true ∷ here) rest is e = grind (arith, common_steps, one_more_needed, eol_counts)

-- without an EOL few bits lead to a one, and no more are needed where it settles the gap
few_needed : (rules : GapRules) (stage : GapStage) (seen : ℕ) (here : Bits) → is_settled stage ≡ false
    → ((n : ℕ) → leb 11 n ≡ false → stage_after rules stage n ≡ Settled) → after_eol seen here ≡ None
    → holds_one here ≡ true → bits_needed rules stage seen here + seen ≤ 11
few_needed rules stage seen [] is settles e one = absurd cc
few_needed rules stage seen (false ∷ here) is settles e one =
    omega (arith, zero_more_needed rules stage seen here is, few_needed rules stage (suc seen) here is settles e one)
few_needed rules stage seen (true ∷ here) is settles e one = grind (arith, common_steps, one_more_needed, none_needed)

tag_few : (rules : GapRules) (n : ℕ) → leb 11 n ≡ false → stage_after rules AfterTag n ≡ Settled
tag_few rules n few = ap (λ (b : Bool). cond b (one_eol_more rules.ends_at_two) Settled) few

start_few : (rules : GapRules) → rules.seeks ≡ false → (n : ℕ) → leb 11 n ≡ false → stage_after rules Start n ≡ Settled
start_few rules unsought n few = grind (arith, common_steps)

-- ---- After an EOL

-- once a zero came, no tag can
zero_needs : (rules : GapRules) (seen : ℕ) (here : Bits)
    → bits_needed rules AfterEol (suc seen) here ≡ bits_needed rules AfterTag (suc seen) here
zero_needs rules seen [] = refl
zero_needs rules seen (false ∷ here) = ap suc (zero_needs rules (suc seen) here)
zero_needs rules seen (true ∷ here) = grind (arith, common_steps, ne_eqb)

-- without tags none can
no_tag_needs : (rules : GapRules) (here : Bits) → rules.has_tags ≡ false
    → bits_needed rules AfterEol 0 here ≡ bits_needed rules AfterTag 0 here
no_tag_needs rules [] none = refl
no_tag_needs rules (false ∷ here) none = ap suc (zero_needs rules 0 here)
no_tag_needs rules (true ∷ here) none = grind (arith, common_steps)

-- with tags a one is a tag
tag_needs : (rules : GapRules) (here : Bits) → rules.has_tags ≡ true
    → bits_needed rules AfterEol 0 here + length (following_one here)
    ≡ length here + bits_needed rules AfterTag 0 (following_one here)
tag_needs rules [] tags = refl
tag_needs rules (false ∷ here) tags = omega (arith, zero_needs rules 0 here)
tag_needs rules (true ∷ here) tags = grind (arith, common_steps)

one_more_leaves : (found : ℕ × Bits) → (one_more found).1 ≡ found.1
one_more_leaves (count, rest) = refl

-- EOLs without tags
plain_near : (rules : GapRules) → rules.has_tags ≡ false → rules.ends_at_two ≡ false → (most : ℕ) (here : Bits)
    → length here ≤ most → holds_one (eols most here).1 ≡ true
    → bits_needed rules AfterTag 0 here + length (eols most here).1 ≤ length here + 11
plain_near rules none on zero [] few one = absurd cc
plain_near rules none on zero (bit ∷ here) few one = absurd (omega (arith, few))
plain_near rules none on (suc most) here few one =
    by_after_eol (λ rest. plain_near rules none on most rest) (after_eol 0 here) refl
  where
    by_after_eol : ((rest : Bits) → length rest ≤ most → holds_one (eols most rest).1 ≡ true
        → bits_needed rules AfterTag 0 rest + length (eols most rest).1 ≤ length rest + 11) → (o : Option Bits)
        → after_eol 0 here ≡ o → bits_needed rules AfterTag 0 here + length (eols (suc most) here).1 ≤ length here + 11
    by_after_eol next None e = grind (arith, common_steps, eols-none, few_needed, tag_few)
    by_after_eol next (Some rest) e =
        let left : (eols (suc most) here).1 ≡ (eols most rest).1 =
        ap (λ (found : ℕ × Bits). found.1) (eols-some most here rest e) ∙ one_more_leaves (eols most rest) in
        omega (
          arith,
          ap length left,
          eol_needed rules AfterTag 0 here rest refl e,
          ap (λ (b : Bool). bits_needed rules (one_eol_more b) 0 rest) on,
          no_tag_needs rules rest none,
          next rest (omega (arith, few, after_eol_shorter 0 here rest e)) (sym (ap holds_one left) ∙ one),
        )

-- EOLs with tags
tagged_near : (rules : GapRules) → rules.has_tags ≡ true → rules.ends_at_two ≡ false → (most : ℕ) (here : Bits)
    → length here ≤ most → holds_one (following_one (eols_with_tags most (past_tag here)).1) ≡ true
    → bits_needed rules AfterTag 0 (following_one here) + length (following_one (eols_with_tags most (past_tag here)).1)
    ≤ length (following_one here) + 11
tagged_near rules tags on zero [] few one = absurd cc
tagged_near rules tags on zero (bit ∷ here) few one = absurd (omega (arith, few))
tagged_near rules tags on (suc most) here few one =
    by_after_eol (λ rest. tagged_near rules tags on most rest) (after_eol 0 (following_one here)) refl
  where
    by_after_eol : ((rest : Bits) → length rest ≤ most
        → holds_one (following_one (eols_with_tags most (past_tag rest)).1) ≡ true
        → bits_needed rules AfterTag 0 (following_one rest) + length (following_one (eols_with_tags most (past_tag rest)).1)
        ≤ length (following_one rest) + 11) → (o : Option Bits) → after_eol 0 (following_one here) ≡ o
        → bits_needed rules AfterTag 0 (following_one here)
        + length (following_one (eols_with_tags (suc most) (past_tag here)).1) ≤ length (following_one here) + 11
    by_after_eol next None e = grind (arith, common_steps, none_past, eols_with_tags-none, few_needed, tag_few)
    by_after_eol next (Some rest) e =
        let past : after_eol 0 (past_tag here) ≡ Some rest = ap (after_eol 0) (some_past here rest e) ∙ e in
        let left : following_one (eols_with_tags (suc most) (past_tag here)).1
        ≡ following_one (eols_with_tags most (past_tag rest)).1 =
        ap (λ (found : ℕ × Bits). following_one found.1) (eols_with_tags-some most (past_tag here) rest past)
        ∙ ap following_one (one_more_leaves (eols_with_tags most (past_tag rest))) in
        omega (
          arith,
          ap length left,
          eol_needed rules AfterTag 0 (following_one here) rest refl e,
          ap (λ (b : Bool). bits_needed rules (one_eol_more b) 0 rest) on,
          tag_needs rules rest tags,
          next rest (omega (arith, few, after_eol_shorter 0 (following_one here) rest e, after_one_shorter here))
              (sym (ap holds_one left) ∙ one),
        )

after_one_most : (here : Bits) → length here ≤ length (following_one here) + 1
after_one_most [] = omega arith
after_one_most (false ∷ here) = omega arith
after_one_most (true ∷ here) = omega arith

-- ---- The EOLs here

-- after an EOL no more than twelve bits beyond the EOLs here are needed
eols_near : (encoding : EncodingMode) (block seeks : Bool) (here rest : Bits) → after_eol 0 here ≡ Some rest
    → eols_are_settled encoding block (eols_by encoding block here) ≡ true
    → bits_needed (rules_of encoding block seeks) AfterEol 0 rest + length (eols_by encoding block here).1 ≤ length rest + 12
eols_near Group3_1D block seeks here rest e settled =
    grind (arith, common_steps, all_eols-some, one_more_leaves, no_tag_needs, plain_near)
eols_near Group3_2D block seeks here rest e settled =
    let rules = rules_of Group3_2D block seeks in
    let enough : all_tagged (past_tag rest) ≡ eols_with_tags (length rest) (past_tag rest) =
    count_same counts_tagged (length (past_tag rest)) (length rest) (past_tag rest) (omega arith)
    (omega (arith, past_tag_shorter rest)) in
    let left : after_first_tag (all_tagged here) ≡ following_one (eols_with_tags (length rest) (past_tag rest)).1 =
    ap after_first_tag (all_tagged-some here rest e) ∙ after_more (all_tagged (past_tag rest))
    ∙ ap (λ (found : ℕ × Bits). following_one found.1) enough in
    let found : (all_tagged here).1 ≡ (eols_with_tags (length rest) (past_tag rest)).1 =
    ap (λ (found : ℕ × Bits). found.1) (all_tagged-some here rest e) ∙ one_more_leaves (all_tagged (past_tag rest))
    ∙ ap (λ (found : ℕ × Bits). found.1) enough in
    omega (
      arith,
      last_tag_shorter (all_tagged here),
      ap length found,
      after_one_most (eols_with_tags (length rest) (past_tag rest)).1,
      tag_needs rules rest refl,
      tagged_near rules refl refl (length rest) rest (omega arith)
          (sym (ap holds_one (last_tag_tested (all_tagged here) ∙ left)) ∙ settled),
    )
eols_near Group4 false seeks here rest e settled =
    grind (arith, common_steps, all_eols-some, one_more_leaves, no_tag_needs, plain_near)
eols_near Group4 true seeks here rest e settled =
    grind (arith, common_steps, eols-some, eols-none, no_tag_needs, few_needed, tag_few, eol_needed, none_needed)

-- ---- The next EOL

damage_needs : (rules : GapRules) (seen : ℕ) (here rest : Bits) → past seen here ≡ Some rest
    → bits_needed rules Damage seen here + length rest ≡ length here + bits_needed rules AfterEol 0 rest
damage_needs rules seen [] rest e = absurd cc
damage_needs rules seen (false ∷ here) rest e = omega (arith, damage_needs rules (suc seen) here rest e)
damage_needs rules seen (true ∷ here) rest e = grind (arith, common_steps, damage_needs rules 0 here rest)

-- where it is sought, the start is as damage
start_needs : (rules : GapRules) (seen : ℕ) (here : Bits) → rules.seeks ≡ true → after_eol seen here ≡ None
    → bits_needed rules Start seen here ≡ bits_needed rules Damage seen here
start_needs rules seen [] sought e = refl
start_needs rules seen (false ∷ here) sought e = ap suc (start_needs rules (suc seen) here sought e)
start_needs rules seen (true ∷ here) sought e = grind (arith, common_steps)

-- ---- The gap

pub left_by_eols : (settings : DecodeSettings) (taken : ℕ) (has_eols : Bool) (here : Bits) (found : ℕ × Bits)
    → left_by here (after_eols settings taken has_eols found) ≡ found.1
left_by_eols settings taken has_eols here (count, rest) = grind (arith, common_steps)

last_of : (a b c : Bool) → (a || b || c) ≡ true → a ≡ false → b ≡ false → c ≡ true
last_of true b c e first second = absurd (false≢true (sym first))
last_of false true c e first second = absurd (false≢true (sym second))
last_of false false c e first second = e

module _ (settings : DecodeSettings) (taken : ℕ) (has_eols : Bool) (here : Bits) where
  abbrev rules_here : GapRules
  rules_here = rules_after_row settings taken has_eols

  abbrev gap_here : Gap
  gap_here = gap_after_row settings taken has_eols here

  -- no bits are added
  left_shorter : length (left_by here gap_here) ≤ length here
  left_shorter = by_missed (misses_eol settings taken has_eols here)
    where
      by_next : (o : Option Bits) → next_eol here ≡ o → length (left_by here (from_next_eol settings taken here o)) ≤ length here
      by_next None e = omega arith
      by_next (Some found) e = grind (arith, common_steps, left_by_eols, eols_here_shorter, next_eol_found)

      by_strict : (strict : Bool) → length (left_by here (cond strict (Gap.over (Err InvalidCode))
          (from_next_eol settings taken here (next_eol here)))) ≤ length here
      by_strict true = omega arith
      by_strict false = by_next (next_eol here) refl

      by_missed : (missed : Bool) → length (left_by here (cond missed (missing_eol settings taken here)
          (after_eols settings taken has_eols (eols_here settings here)))) ≤ length here
      by_missed true = by_strict settings.strict
      by_missed false = grind (arith, common_steps, left_by_eols, eols_here_shorter)

  module _ (settled : gap_is_settled settings taken has_eols here ≡ true) where
    abbrev NearEnd : Type 0
    NearEnd = bits_needed rules_here Start 0 here + length (left_by here gap_here) ≤ length here + 12

    eols_settled : eols_are_settled settings.encoding settings.end_of_block (eols_here settings here) ≡ true
    eols_settled = (and_parts _ _ settled).0

    -- an EOL is here
    eol_near : (rest : Bits) → after_eol 0 here ≡ Some rest → NearEnd
    eol_near rest e =
        let counted : misses_eol settings taken has_eols here ≡ false =
        ap (λ (none : Bool). none && has_eols && not (limit_met settings taken) && not (at_end here))
        (one_here settings.encoding settings.end_of_block here rest e) in
        let left : left_by here gap_here ≡ (eols_here settings here).1 =
        grind (arith, common_steps, left_by_eols) in
        omega (
          arith,
          ap length left,
          eol_needed rules_here Start 0 here rest refl e,
          eols_near settings.encoding settings.end_of_block rules_here.seeks here rest e eols_settled,
        )

    -- none is here
    module _ (e : after_eol 0 here ≡ None) where
      none_counted : eols_here settings here ≡ (0, here)
      none_counted = none_here settings.encoding settings.end_of_block here e

      one : holds_one here ≡ true
      one = grind (arith, common_steps, none_counted, none_settled, eols_settled)

      -- the next one is sought
      sought_near : rules_here.seeks ≡ true → NearEnd
      sought_near sought = by_next (next_eol here) refl
        where
          sought_open : ((has_eols && not (limit_met settings taken)) ≡ true) × (not settings.strict ≡ true)
          sought_open = and_parts (has_eols && not (limit_met settings taken)) (not settings.strict) sought

          has : has_eols ≡ true
          has = (and_parts has_eols (not (limit_met settings taken)) sought_open.0).0

          lenient : settings.strict ≡ false
          lenient = not-true settings.strict sought_open.1

          missed : misses_eol settings taken has_eols here ≡ true
          missed = grind (arith, common_steps, none_counted, has, one_is_left)

          next_settled : next_eols_are_settled settings (next_eol here) ≡ true
          next_settled = last_of (not (misses_eol settings taken has_eols here)) settings.strict
              (next_eols_are_settled settings (next_eol here))
              (and_parts (eols_are_settled settings.encoding settings.end_of_block (eols_here settings here))
              (not (misses_eol settings taken has_eols here) || settings.strict
              || next_eols_are_settled settings (next_eol here)) settled).1 (ap not missed) lenient

          left : left_by here gap_here ≡ left_by here (from_next_eol settings taken here (next_eol here))
          left = ap (λ (missed : Bool). left_by here (cond missed (missing_eol settings taken here)
              (after_eols settings taken has_eols (eols_here settings here)))) missed
              ∙ ap (λ (strict : Bool). left_by here (cond strict (Gap.over (Err InvalidCode))
              (from_next_eol settings taken here (next_eol here)))) lenient

          by_next : (o : Option Bits) → next_eol here ≡ o → NearEnd
          by_next None none = grind (arith, common_steps, false≢true, next_settled)
          by_next (Some found) some =
              let there = (next_eol_found here found some).1 in
              let next : past 0 here ≡ Some there.0 = past_is here ∙ ap then_after some ∙ there.1 in
              let ends : left_by here gap_here ≡ (eols_here settings found).1 =
              left ∙ ap (λ (o : Option Bits). left_by here (from_next_eol settings taken here o)) some
              ∙ left_by_eols settings taken true here (eols_here settings found) in
              omega (
                arith,
                ap length ends,
                start_needs rules_here 0 here sought e,
                damage_needs rules_here 0 here there.0 next,
                eols_near settings.encoding settings.end_of_block rules_here.seeks found there.0 there.1
                    (sym (ap (next_eols_are_settled settings) some) ∙ next_settled),
              )

      none_near : (seeks : Bool) → rules_here.seeks ≡ seeks → NearEnd
      none_near true sought = sought_near sought
      none_near false unsought =
          omega (arith, left_shorter, few_needed rules_here Start 0 here refl (start_few rules_here unsought) e one)

    -- A settled gap needs no more than twelve bits beyond its end.
    pub gap_near : NearEnd
    gap_near = grind (arith, common_steps, NearEnd, eol_near, none_near, rules_here)

-- so it is with a gap that was passed
pub passed_near : (settings : DecodeSettings) (taken : ℕ) (has_eols : Bool) (start rest : Bits)
    → gap_is_settled settings taken has_eols start ≡ true → (over : Result Bool DecodeError) (still : Bool)
    → gap_after_row settings taken has_eols start ≡ gap_said over still rest → OnErr over (rest ≡ start)
    → bits_needed (rules_after_row settings taken has_eols) Start 0 start + length rest ≤ length start + 12
passed_near settings taken has_eols start rest settled over still said put_back = grind (arith, common_steps, gap_near)

-- no bits are added
pub passed_shorter : (settings : DecodeSettings) (taken : ℕ) (has_eols : Bool) (start rest : Bits)
    (over : Result Bool DecodeError) (still : Bool)
    → gap_after_row settings taken has_eols start ≡ gap_said over still rest → OnErr over (rest ≡ start)
    → length rest ≤ length start
passed_shorter settings taken has_eols start rest (Ok true) still said back = omega (
  arith,
  left_shorter settings taken has_eols start,
  ap (λ (gap : Gap). length (left_by start gap)) said,
)
passed_shorter settings taken has_eols start rest (Ok false) still said back = omega (
  arith,
  left_shorter settings taken has_eols start,
  ap (λ (gap : Gap). length (left_by start gap)) said,
)
passed_shorter settings taken has_eols start rest (Err e) still said back = omega (arith, ap length back)

-- whether EOLs are sought at a line after some
flag_after : (settings : DecodeSettings) (taken : ℕ) (has_eols still : Bool) (found : ℕ × Bits) (rest : Bits)
    → after_eols settings taken has_eols found ≡ Gap.line_at still rest → still ≡ has_eols
flag_after settings taken has_eols still (count, here) rest = grind (arith, common_steps)

-- Where EOLs are sought, they are after a gap that is settled.
pub settled_sought : (settings : DecodeSettings) (taken : ℕ) (here rest : Bits) (still : Bool)
    → gap_is_settled settings taken true here ≡ true → gap_after_row settings taken true here ≡ Gap.line_at still rest
    → still ≡ true
settled_sought settings taken here rest still settled = by_missed (misses_eol settings taken true here) (tested settled)
  where
    tested : gap_is_settled settings taken true here ≡ true → (not (misses_eol settings taken true here) || settings.strict
        || next_eols_are_settled settings (next_eol here)) ≡ true
    tested is = grind (arith, common_steps, and_parts)

    by_next : (o : Option Bits) → next_eols_are_settled settings o ≡ true
        → from_next_eol settings taken here o ≡ Gap.line_at still rest → still ≡ true
    by_next (Some found) is e = flag_after settings taken true still (eols_here settings found) rest e
    by_next None is e = absurd (false≢true is)

    by_strict : (strict : Bool) → (strict || next_eols_are_settled settings (next_eol here)) ≡ true
        → cond strict (Gap.over (Err InvalidCode)) (from_next_eol settings taken here (next_eol here)) ≡ Gap.line_at still rest
        → still ≡ true
    by_strict true is e = absurd cc
    by_strict false is e = by_next (next_eol here) is e

    by_missed : (missed : Bool) → (not missed || settings.strict
        || next_eols_are_settled settings (next_eol here)) ≡ true
        → cond missed (missing_eol settings taken here) (after_eols settings taken true (eols_here settings here))
        ≡ Gap.line_at still rest → still ≡ true
    by_missed true is e = by_strict settings.strict is e
    by_missed false is e = flag_after settings taken true still (eols_here settings here) rest e
