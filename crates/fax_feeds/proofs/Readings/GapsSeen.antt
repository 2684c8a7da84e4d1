-- A gap that is looked at bit by bit: it is found to be settled exactly if its definition says so.
use Rattle.fax_feeds.proofs.Names.{common_steps, ◌≡◌, ◌∙◌, ◌+◌, ◌<◌, ◌≤◌, ◌++◌, ◌∷◌, ◌&&◌, ◌||◌, [], ℕ, zero, suc, Bool}
use Rattle.fax_feeds.proofs.Names.{true, false}
use Rattle.fax_feeds.proofs.Names.{not, cond, leb, eqb, replicate, Option, None, Some, refl, sym, ap, arith, length}
use Rattle.fax_feeds.proofs.Names.{length-append, append-nil, append_assoc, drop, length-replicate, ne_eqb, Bits, EncodingMode}
use Rattle.fax_feeds.proofs.Names.{Group4, Group3_1D, Group3_2D, DecodeSettings, after_eol, all_eols, next_eol, at_end, eols_by}
use Rattle.fax_feeds.proofs.Names.{get_or, limit_met}
use Rattle.fax_bits.proofs.Names.{lt-leb}
use Rattle.fax_bits.specs.EndOfLine.{eols, eols_with_tags, one_more, past_tag}
use Rattle.fax_reading.specs.GapsContinued.{holds_one, eols_are_settled, next_eols_are_settled, gap_is_settled}
use Rattle.fax_rows.specs.GapsCounted.{ends_at_two, has_tags}
use Rattle.fax_feeds.specs.GapsSeen.{IsSeen, LooksTo, bits_needed, is_settled, nothing_seen}
use Rattle.fax_feeds.specs.GapsSeen.{one_eol_more, rules_after_row, stage_after, stage_following, zeros_after}
use Rattle.fax_feeds.specs.declared.gap_look.GapLook.{GapLook}
use Rattle.fax_feeds.specs.declared.gap_look.GapRules.{GapRules}
use Rattle.fax_feeds.specs.declared.gap_look.GapStage.{GapStage}
use Rattle.fax_feeds.specs.declared.gap_look.GapStage.TheVariants.{Start, Damage, AfterEol, AfterTag, Settled}
use Rattle.fax_bits.proofs.BitReading.ConsecutiveEols.{all_eols-none, all_eols-some, all_tagged, all_tagged-none, all_tagged-some}
use Rattle.fax_bits.proofs.BitReading.ConsecutiveEols.{after_eol_shorter, count_same, counts_tagged, eols-none, eols-some}
use Rattle.fax_bits.proofs.BitReading.ConsecutiveEols.{last_tag_count, eols_with_tags-none, eols_with_tags-some}
use Rattle.fax_bits.proofs.BitReading.ConsecutiveEols.{next_eol_found, past_tag_shorter}
use Rattle.fax_reading.proofs.GapsContinued.ContinuedEols.{after_first_tag, following_one, last_tag_tested}
use Rattle.fax_reading.proofs.DamagedLines.PastEol.{past, past_is, then_after}

-- ---- Bits that follow each other

pub stage_following-append : (rules : GapRules) (stage : GapStage) (seen : ℕ) (first next : Bits)
    → stage_following rules stage seen (first ++ next)
    ≡ stage_following rules (stage_following rules stage seen first) (zeros_after seen first) next
stage_following-append rules stage seen [] next = refl
stage_following-append rules stage seen (false ∷ first) next = stage_following-append rules stage (suc seen) first next
stage_following-append rules stage seen (true ∷ first) next =
    stage_following-append rules (stage_after rules stage seen) 0 first next

pub zeros_after-append : (seen : ℕ) (first next : Bits)
    → zeros_after seen (first ++ next) ≡ zeros_after (zeros_after seen first) next
zeros_after-append seen [] next = refl
zeros_after-append seen (false ∷ first) next = zeros_after-append (suc seen) first next
zeros_after-append seen (true ∷ first) next = zeros_after-append 0 first next

-- there are no more zeros than bits
pub few_zeros : (seen : ℕ) (bits : Bits) → zeros_after seen bits ≤ seen + length bits
few_zeros seen [] = omega arith
few_zeros seen (false ∷ bits) = omega (arith, few_zeros (suc seen) bits)
few_zeros seen (true ∷ bits) = omega (arith, few_zeros 0 bits)

-- ---- A gap that was settled stays settled

pub settled_stays : (rules : GapRules) (seen : ℕ) (here : Bits) → is_settled (stage_following rules Settled seen here) ≡ true
settled_stays rules seen [] = refl
settled_stays rules seen (false ∷ here) = settled_stays rules (suc seen) here
settled_stays rules seen (true ∷ here) = settled_stays rules 0 here

-- ---- Up to the first one

-- zeros alone change nothing
zeros_stay : (rules : GapRules) (stage : GapStage) (seen : ℕ) (here : Bits) → holds_one here ≡ false
    → stage_following rules stage seen here ≡ stage
zeros_stay rules stage seen [] none = refl
zeros_stay rules stage seen (false ∷ here) none = zeros_stay rules stage (suc seen) here none
zeros_stay rules stage seen (true ∷ here) none = absurd cc

-- after an EOL
abbrev pub stage_after_eol : GapRules → GapStage → GapStage
stage_after_eol rules Start = AfterEol
stage_after_eol rules Damage = AfterEol
stage_after_eol rules AfterEol = one_eol_more rules.ends_at_two
stage_after_eol rules AfterTag = one_eol_more rules.ends_at_two
stage_after_eol rules Settled = Settled

pub eol_counts : (rules : GapRules) (stage : GapStage) (seen : ℕ) → leb 11 seen ≡ true
    → stage_after rules stage seen ≡ stage_after_eol rules stage
eol_counts rules Start seen many = rw many refl
eol_counts rules Damage seen many = rw many refl
eol_counts rules AfterEol seen many = rw many refl
eol_counts rules AfterTag seen many = rw many refl
eol_counts rules Settled seen many = refl

eol_seen : (rules : GapRules) (stage : GapStage) (seen : ℕ) (here rest : Bits) → after_eol seen here ≡ Some rest
    → stage_following rules stage seen here ≡ stage_following rules (stage_after_eol rules stage) 0 rest
eol_seen rules stage seen [] rest e = absurd cc
eol_seen rules stage seen (false ∷ here) rest e = eol_seen rules stage (suc seen) here rest e
eol_seen rules stage seen (true ∷ here) rest e = grind (arith, common_steps, eol_counts)

-- a one that no EOL is before settles what is after a tag
tag_settles : (rules : GapRules) (seen : ℕ) (here : Bits) → after_eol seen here ≡ None
    → is_settled (stage_following rules AfterTag seen here) ≡ holds_one here
tag_settles rules seen [] e = refl
tag_settles rules seen (false ∷ here) e = tag_settles rules (suc seen) here e
tag_settles rules seen (true ∷ here) e = grind (arith, common_steps, settled_stays)

-- and what is at the start, where no EOL is sought
start_settles : (rules : GapRules) (seen : ℕ) (here : Bits) → rules.seeks ≡ false → after_eol seen here ≡ None
    → is_settled (stage_following rules Start seen here) ≡ holds_one here
start_settles rules seen [] unsought e = refl
start_settles rules seen (false ∷ here) unsought e = start_settles rules (suc seen) here unsought e
start_settles rules seen (true ∷ here) unsought e = grind (arith, common_steps, settled_stays)

-- where one is sought, the start is as damage
start_seeks : (rules : GapRules) (seen : ℕ) (here : Bits) → rules.seeks ≡ true → after_eol seen here ≡ None
    → is_settled (stage_following rules Start seen here) ≡ is_settled (stage_following rules Damage seen here)
start_seeks rules seen [] sought e = refl
start_seeks rules seen (false ∷ here) sought e = start_seeks rules (suc seen) here sought e
start_seeks rules seen (true ∷ here) sought e = grind (arith, common_steps)

-- ---- After an EOL

-- once a zero came, no tag can
zero_no_tag : (rules : GapRules) (seen : ℕ) (here : Bits)
    → is_settled (stage_following rules AfterEol (suc seen) here) ≡ is_settled (stage_following rules AfterTag (suc seen) here)
zero_no_tag rules seen [] = refl
zero_no_tag rules seen (false ∷ here) = zero_no_tag rules (suc seen) here
zero_no_tag rules seen (true ∷ here) = grind (arith, common_steps, ne_eqb)

-- without tags none can
no_tag : (rules : GapRules) (here : Bits) → rules.has_tags ≡ false
    → is_settled (stage_following rules AfterEol 0 here) ≡ is_settled (stage_following rules AfterTag 0 here)
no_tag rules [] none = refl
no_tag rules (false ∷ here) none = zero_no_tag rules 0 here
no_tag rules (true ∷ here) none = ap (λ (b : Bool). is_settled (stage_following rules (cond b AfterTag Settled) 0 here)) none

-- with tags a one is a tag
one_tag : (rules : GapRules) (here : Bits) → rules.has_tags ≡ true
    → is_settled (stage_following rules AfterEol 0 here) ≡ is_settled (stage_following rules AfterTag 0 (following_one here))
one_tag rules [] tags = refl
one_tag rules (false ∷ here) tags = zero_no_tag rules 0 here
one_tag rules (true ∷ here) tags = ap (λ (b : Bool). is_settled (stage_following rules (cond b AfterTag Settled) 0 here)) tags

-- one EOL more makes no difference to the bits after
left_by_more : (found : ℕ × Bits) → holds_one (one_more found).1 ≡ holds_one found.1
left_by_more (count, rest) = refl

left_by_more_tags : (found : ℕ × Bits) → holds_one (following_one (one_more found).1) ≡ holds_one (following_one found.1)
left_by_more_tags (count, rest) = refl

-- EOLs without tags
plain_eols : (rules : GapRules) → rules.has_tags ≡ false → rules.ends_at_two ≡ false → (most : ℕ) (here : Bits)
    → length here ≤ most → is_settled (stage_following rules AfterTag 0 here) ≡ holds_one (eols most here).1
plain_eols rules none on zero [] few = refl
plain_eols rules none on zero (bit ∷ here) few = absurd (omega (arith, few))
plain_eols rules none on (suc most) here few = by_after_eol (λ rest. plain_eols rules none on most rest) (after_eol 0 here) refl
  where
    by_after_eol : ((rest : Bits) → length rest ≤ most
        → is_settled (stage_following rules AfterTag 0 rest) ≡ holds_one (eols most rest).1) → (o : Option Bits)
        → after_eol 0 here ≡ o → is_settled (stage_following rules AfterTag 0 here) ≡ holds_one (eols (suc most) here).1
    by_after_eol next None e = grind (arith, common_steps, tag_settles, eols-none)
    by_after_eol next (Some rest) e =
        ap is_settled (eol_seen rules AfterTag 0 here rest e)
        ∙ ap (λ (b : Bool). is_settled (stage_following rules (one_eol_more b) 0 rest)) on
        ∙ no_tag rules rest none ∙ next rest (omega (arith, few, after_eol_shorter 0 here rest e))
        ∙ sym (ap (λ (found : ℕ × Bits). holds_one found.1) (eols-some most here rest e) ∙ left_by_more (eols most rest))

-- where no EOL is after the tag, none is before it
pub none_past : (here : Bits) → after_eol 0 (following_one here) ≡ None
    → (after_eol 0 (past_tag here) ≡ None) × (following_one (past_tag here) ≡ following_one here)
none_past [] e = (refl, refl)
none_past (false ∷ here) e = (e, refl)
none_past (true ∷ here) e = rw (e, past_tag) (refl, refl)

pub some_past : (here rest : Bits) → after_eol 0 (following_one here) ≡ Some rest → past_tag here ≡ following_one here
some_past [] rest e = refl
some_past (false ∷ here) rest e = refl
some_past (true ∷ here) rest e = rw (e, past_tag) refl

pub after_one_shorter : (here : Bits) → length (following_one here) ≤ length here
after_one_shorter [] = omega arith
after_one_shorter (false ∷ here) = omega arith
after_one_shorter (true ∷ here) = omega arith

-- EOLs with tags
eols_and_tags : (rules : GapRules) → rules.has_tags ≡ true → rules.ends_at_two ≡ false → (most : ℕ) (here : Bits)
    → length here ≤ most
    → is_settled (stage_following rules AfterTag 0 (following_one here))
    ≡ holds_one (following_one (eols_with_tags most (past_tag here)).1)
eols_and_tags rules tags on zero [] few = refl
eols_and_tags rules tags on zero (bit ∷ here) few = absurd (omega (arith, few))
eols_and_tags rules tags on (suc most) here few =
    by_after_eol (λ rest. eols_and_tags rules tags on most rest) (after_eol 0 (following_one here)) refl
  where
    by_after_eol : ((rest : Bits) → length rest ≤ most → is_settled (stage_following rules AfterTag 0 (following_one rest))
        ≡ holds_one (following_one (eols_with_tags most (past_tag rest)).1)) → (o : Option Bits)
        → after_eol 0 (following_one here) ≡ o → is_settled (stage_following rules AfterTag 0 (following_one here))
        ≡ holds_one (following_one (eols_with_tags (suc most) (past_tag here)).1)
    by_after_eol next None e = grind (arith, common_steps, none_past, tag_settles, eols_with_tags-none)
    by_after_eol next (Some rest) e =
        let past : after_eol 0 (past_tag here) ≡ Some rest = ap (after_eol 0) (some_past here rest e) ∙ e in
        ap is_settled (eol_seen rules AfterTag 0 (following_one here) rest e)
        ∙ ap (λ (b : Bool). is_settled (stage_following rules (one_eol_more b) 0 rest)) on
        ∙ one_tag rules rest tags
        ∙ next rest (omega (arith, few, after_eol_shorter 0 (following_one here) rest e, after_one_shorter here))
        ∙ sym (ap (λ (found : ℕ × Bits). holds_one (following_one found.1)) (eols_with_tags-some most (past_tag here) rest past)
        ∙ left_by_more_tags (eols_with_tags most (past_tag rest)))

-- ---- The EOLs here

-- the rules of an encoding
abbrev pub rules_of : EncodingMode → Bool → Bool → GapRules
rules_of encoding end_of_block seeks =
    record { has_tags = has_tags encoding; ends_at_two = ends_at_two encoding end_of_block; seeks = seeks }

-- the bits after the tag after one EOL or more
pub after_more : (found : ℕ × Bits) → after_first_tag (one_more found) ≡ following_one found.1
after_more (count, rest) = refl

-- two EOLs are EOFB (T.6, 2.4.1.1)
module _ (seeks : Bool) (here rest : Bits) (e : after_eol 0 here ≡ Some rest) where
  abbrev two : GapRules
  two = rules_of Group4 true seeks

  counted : (found : ℕ × Bits) → eols 1 rest ≡ found
      → eols_are_settled Group4 true (eols 2 here) ≡ eols_are_settled Group4 true (one_more found)
  counted found is = ap (eols_are_settled Group4 true) (eols-some 1 here rest e ∙ ap one_more is)

  eofb_seen : is_settled (stage_following two AfterEol 0 rest) ≡ eols_are_settled Group4 true (eols 2 here)
  eofb_seen = by_after_eol (after_eol 0 rest) refl
    where
      by_after_eol : (o : Option Bits) → after_eol 0 rest ≡ o
          → is_settled (stage_following two AfterEol 0 rest) ≡ eols_are_settled Group4 true (eols 2 here)
      by_after_eol None none =
          no_tag two rest refl ∙ tag_settles two 0 rest none ∙ sym (counted (0, rest) (eols-none 1 rest none))
      by_after_eol (Some last) some =
          no_tag two rest refl ∙ ap is_settled (eol_seen two AfterTag 0 rest last some) ∙ settled_stays two 0 last
          ∙ sym (counted (1, last) (eols-some 0 rest last some))

-- after an EOL it is settled exactly if the EOLs here are
eols_seen : (encoding : EncodingMode) (block seeks : Bool) (here rest : Bits) → after_eol 0 here ≡ Some rest
    → is_settled (stage_following (rules_of encoding block seeks) AfterEol 0 rest)
    ≡ eols_are_settled encoding block (eols_by encoding block here)
eols_seen Group3_1D block seeks here rest e =
    let rules = rules_of Group3_1D block seeks in
    no_tag rules rest refl ∙ plain_eols rules refl refl (length rest) rest (omega arith)
    ∙ sym (ap (λ (found : ℕ × Bits). holds_one found.1) (all_eols-some here rest e) ∙ left_by_more (all_eols rest))
eols_seen Group3_2D block seeks here rest e =
    let rules = rules_of Group3_2D block seeks in
    let enough : all_tagged (past_tag rest) ≡ eols_with_tags (length rest) (past_tag rest) =
    count_same counts_tagged (length (past_tag rest)) (length rest) (past_tag rest) (omega arith)
    (omega (arith, past_tag_shorter rest)) in
    one_tag rules rest refl ∙ eols_and_tags rules refl refl (length rest) rest (omega arith)
    ∙ sym (ap holds_one (last_tag_tested (all_tagged here))
    ∙ ap (λ (found : ℕ × Bits). holds_one (after_first_tag found)) (all_tagged-some here rest e)
    ∙ ap holds_one (after_more (all_tagged (past_tag rest)))
    ∙ ap (λ (found : ℕ × Bits). holds_one (following_one found.1)) enough)
eols_seen Group4 false seeks here rest e =
    let rules = rules_of Group4 false seeks in
    no_tag rules rest refl ∙ plain_eols rules refl refl (length rest) rest (omega arith)
    ∙ sym (ap (λ (found : ℕ × Bits). holds_one found.1) (all_eols-some here rest e) ∙ left_by_more (all_eols rest))
eols_seen Group4 true seeks here rest e = eofb_seen seeks here rest e

-- ---- The next EOL

abbrev settled_after : GapRules → Option Bits → Bool
settled_after rules None = false
settled_after rules (Some rest) = is_settled (stage_following rules AfterEol 0 rest)

damage_seen : (rules : GapRules) (seen : ℕ) (here : Bits)
    → is_settled (stage_following rules Damage seen here) ≡ settled_after rules (past seen here)
damage_seen rules seen [] = refl
damage_seen rules seen (false ∷ here) = damage_seen rules (suc seen) here
damage_seen rules seen (true ∷ here) = grind (arith, common_steps, damage_seen rules 0 here)

-- after damage it is settled exactly if there is a next EOL, and the EOLs there are
next_seen : (settings : DecodeSettings) (seeks : Bool) (here : Bits)
    → is_settled (stage_following (rules_of settings.encoding settings.end_of_block seeks) Damage 0 here)
    ≡ next_eols_are_settled settings (next_eol here)
next_seen settings seeks here =
    let rules = rules_of settings.encoding settings.end_of_block seeks in
    damage_seen rules 0 here ∙ ap (settled_after rules) (past_is here) ∙ by_next (next_eol here) refl
  where
    by_next : (o : Option Bits) → next_eol here ≡ o
        → settled_after (rules_of settings.encoding settings.end_of_block seeks) (then_after o)
        ≡ next_eols_are_settled settings o
    by_next None e = refl
    by_next (Some found) e =
        let there = (next_eol_found here found e).1 in
        ap (settled_after (rules_of settings.encoding settings.end_of_block seeks)) there.1
        ∙ eols_seen settings.encoding settings.end_of_block seeks found there.0 there.1

-- ---- The gap

-- where there is no EOL, none is counted
pub none_here : (encoding : EncodingMode) (block : Bool) (here : Bits) → after_eol 0 here ≡ None
    → eols_by encoding block here ≡ (0, here)
none_here Group3_1D block here e = all_eols-none here e
none_here Group3_2D block here e = grind (arith, common_steps, all_tagged-none)
none_here Group4 false here e = all_eols-none here e
none_here Group4 true here e = eols-none 2 here e

some : (found : ℕ × Bits) → eqb (one_more found).0 0 ≡ false
some (count, rest) = ne_eqb (suc count) 0 (λ none. omega (arith, none))

-- where there is one, at least one is
pub one_here : (encoding : EncodingMode) (block : Bool) (here rest : Bits) → after_eol 0 here ≡ Some rest
    → eqb (eols_by encoding block here).0 0 ≡ false
one_here Group3_1D block here rest e = ap (λ (found : ℕ × Bits). eqb found.0 0) (all_eols-some here rest e) ∙ some (all_eols rest)
one_here Group3_2D block here rest e =
    ap (λ (n : ℕ). eqb n 0) (last_tag_count (all_tagged here))
    ∙ ap (λ (found : ℕ × Bits). eqb found.0 0) (all_tagged-some here rest e) ∙ some (all_tagged (past_tag rest))
one_here Group4 false here rest e =
    ap (λ (found : ℕ × Bits). eqb found.0 0) (all_eols-some here rest e) ∙ some (all_eols rest)
one_here Group4 true here rest e = ap (λ (found : ℕ × Bits). eqb found.0 0) (eols-some 1 here rest e) ∙ some (eols 1 rest)

-- without EOLs the test is for a one
pub none_settled : (encoding : EncodingMode) (block : Bool) (here : Bits)
    → eols_are_settled encoding block (0, here) ≡ holds_one here
none_settled Group3_1D block here = refl
none_settled Group3_2D block [] = refl
none_settled Group3_2D block (true ∷ here) = refl
none_settled Group3_2D block (false ∷ here) = refl
none_settled Group4 false here = refl
none_settled Group4 true here = refl

-- a one is left, so it isn't the end
pub one_is_left : (here : Bits) → holds_one here ≡ true → at_end here ≡ false
one_is_left [] one = absurd cc
one_is_left (bit ∷ here) one = refl

module _ (settings : DecodeSettings) (taken : ℕ) (has_eols : Bool) (here : Bits) where
  abbrev encoding : EncodingMode
  encoding = settings.encoding

  abbrev block : Bool
  block = settings.end_of_block

  abbrev rules : GapRules
  rules = rules_after_row settings taken has_eols

  abbrev missing : Bool → Bool → Bool
  missing none ended = none && has_eols && not (limit_met settings taken) && not ended

  -- the test, where these EOLs were counted, if none is, and if bits are left
  abbrev tested : Bool → Bool → Bool → Bool
  tested settled none ended = settled && (not (missing none ended) || settings.strict
      || next_eols_are_settled settings (next_eol here))

  some_tested : (settled : Bool) → settled ≡ tested settled false (at_end here)
  some_tested true = refl
  some_tested false = refl

  by_flags : (has limited strict : Bool) → after_eol 0 here ≡ None → holds_one here ≡ true
      → is_settled (stage_following (rules_of encoding block (has && not limited && not strict)) Start 0 here)
      ≡ (not (has && not limited && true) || strict || next_eols_are_settled settings (next_eol here))
  by_flags true false false e one = start_seeks (rules_of encoding block true) 0 here refl e ∙ next_seen settings true here
  by_flags true false true e one = start_settles (rules_of encoding block false) 0 here refl e ∙ one
  by_flags true true strict e one = start_settles (rules_of encoding block false) 0 here refl e ∙ one
  by_flags false limited strict e one = start_settles (rules_of encoding block false) 0 here refl e ∙ one

  none_tested : after_eol 0 here ≡ None
      → gap_is_settled settings taken has_eols here ≡ tested (holds_one here) true (at_end here)
  none_tested e = grind (arith, common_steps, none_here, none_settled)

  by_one : (b : Bool) → holds_one here ≡ b → after_eol 0 here ≡ None
      → is_settled (stage_following rules Start 0 here) ≡ tested b true (at_end here)
  by_one true one e = grind (arith, common_steps, by_flags, one_is_left)
  by_one false none e = ap is_settled (zeros_stay rules Start 0 here none)

  by_after_eol : (o : Option Bits) → after_eol 0 here ≡ o
      → is_settled (stage_following rules Start 0 here) ≡ gap_is_settled settings taken has_eols here
  by_after_eol None e = grind (arith, common_steps, by_one, none_tested)
  by_after_eol (Some rest) e =
      ap is_settled (eol_seen rules Start 0 here rest e)
      ∙ eols_seen encoding block rules.seeks here rest e
      ∙ some_tested (eols_are_settled encoding block (eols_by encoding block here))
      ∙ ap (λ (b : Bool). tested (eols_are_settled encoding block (eols_by encoding block here)) b (at_end here))
      (sym (one_here encoding block here rest e))

  -- A gap that was looked at is settled exactly if it is the same whatever bits follow (T.4, 4.1.2 and 4.1.4; T.6, 2.4.1.1).
  pub gap_seen : is_settled (stage_following rules Start 0 here) ≡ gap_is_settled settings taken has_eols here
  gap_seen = by_after_eol (after_eol 0 here) refl

-- ---- How far it was looked at

-- nothing yet
pub nothing_looked : (rules : GapRules) (look : GapLook) (here : Bits) → LooksTo rules look look here here
nothing_looked rules look here = grind (arith, common_steps)

-- all of some bits are needed
abbrev AllNeeded : GapRules → GapStage → ℕ → Bits → Type 0
AllNeeded rules stage seen next = (others : Bits) → bits_needed rules stage seen (next ++ others)
    ≡ length next + bits_needed rules (stage_following rules stage seen next) (zeros_after seen next) others

zeros_needed : (rules : GapRules) (stage : GapStage) (seen n : ℕ) → is_settled stage ≡ false
    → AllNeeded rules stage seen (replicate n false)
zeros_needed rules stage seen zero unsettled others = omega arith
zeros_needed rules stage seen (suc n) unsettled others =
    grind (arith, common_steps, zeros_needed rules stage (suc seen) n unsettled others)

one_needed : (rules : GapRules) (stage : GapStage) (seen : ℕ) → is_settled stage ≡ false
    → AllNeeded rules stage seen (true ∷ [])
one_needed rules stage seen unsettled others = grind (arith, common_steps)

-- more bits
pub looks_more : (next : Bits) {rules : GapRules} {old mid : GapLook} {here from rest : Bits}
    → AllNeeded rules mid.stage mid.zeros next → LooksTo rules old mid here from → from ≡ next ++ rest
    → LooksTo rules old (record {
      stage = stage_following rules mid.stage mid.zeros next;
      zeros = zeros_after mid.zeros next;
      bits = mid.bits + length next;
    }) here rest
looks_more next {rules} {old} {mid} {here} {from} {rest} all looks is = record {
  looked = looks.looked ++ next;
  are = looks.are ∙ ap (λ (b : Bits). looks.looked ++ b) is ∙ sym (append_assoc looks.looked next rest);
  stage = grind (arith, common_steps, rules, stage_following-append);
  zeros = ap (λ (n : ℕ). zeros_after n next) looks.zeros ∙ sym (zeros_after-append old.zeros looks.looked next);
  bits = omega (arith, looks.bits, length-append looks.looked next);
  needed = λ others. ap (bits_needed rules old.stage old.zeros) (append_assoc looks.looked next others)
      ∙ omega (arith, looks.needed (next ++ others), all others, length-append looks.looked next);
}

-- zeros alone
zeros_after-zeros : (seen n : ℕ) → zeros_after seen (replicate n false) ≡ seen + n
zeros_after-zeros seen zero = omega arith
zeros_after-zeros seen (suc n) = omega (arith, zeros_after-zeros (suc seen) n)

stage_following-zeros : (by : GapRules) (stage : GapStage) (seen n : ℕ)
    → stage_following by stage seen (replicate n false) ≡ stage
stage_following-zeros by stage seen zero = refl
stage_following-zeros by stage seen (suc n) = stage_following-zeros by stage (suc seen) n

by_zeros_looked : (n : ℕ) {rules : GapRules} {old mid : GapLook} {here from rest : Bits} → is_settled mid.stage ≡ false
    → LooksTo rules old mid here from → from ≡ replicate n false ++ rest
    → LooksTo rules old (record { stage = mid.stage; zeros = mid.zeros + n; bits = mid.bits + n }) here rest
by_zeros_looked n {rules} {old} {mid} unsettled looks is =
    grind (arith, common_steps, looks_more, zeros_needed, stage_following-zeros, zeros_after-zeros, length-replicate)

pub looks_at_zeros : (n : ℕ) {rules : GapRules} {old mid : GapLook} {here from : Bits} → is_settled mid.stage ≡ false
    → LooksTo rules old mid here from → from ≡ replicate n false
    → LooksTo rules old (record { stage = mid.stage; zeros = mid.zeros + n; bits = mid.bits + n }) here []
looks_at_zeros n unsettled looks is = by_zeros_looked n unsettled looks (is ∙ sym (append-nil (replicate n false)))

-- a one after them
pub looks_at_one : {rules : GapRules} {old mid : GapLook} {here rest : Bits} → is_settled mid.stage ≡ false
    → LooksTo rules old mid here (true ∷ rest)
    → LooksTo rules old (record { stage = stage_after rules mid.stage mid.zeros; zeros = 0; bits = mid.bits + 1 }) here rest
looks_at_one {rules} {old} {mid} unsettled looks =
    looks_more (true ∷ []) (one_needed rules mid.stage mid.zeros unsettled) looks refl

pub looks_at_run : (n : ℕ) {rules : GapRules} {old mid : GapLook} {here from rest : Bits} → is_settled mid.stage ≡ false
    → LooksTo rules old mid here from
    → from ≡ replicate n false ++ true ∷ rest → LooksTo rules old (record {
      stage = stage_after rules mid.stage (mid.zeros + n);
      zeros = 0;
      bits = mid.bits + n + 1;
    }) here rest
looks_at_run n unsettled looks is = looks_at_one unsettled (by_zeros_looked n unsettled looks is)

-- the bits looked at later are those after
pub looks_then : {rules : GapRules} {old mid new : GapLook} {here from rest : Bits} → LooksTo rules old mid here from
    → LooksTo rules mid new from rest → LooksTo rules old new here rest
looks_then {rules} {old} {mid} {new} {here} {from} {rest} first next =
    let all : AllNeeded rules mid.stage mid.zeros next.looked = λ others. grind (
      arith,
      common_steps,
      rules,
      next.needed
          others,
    ) in
    let both = looks_more next.looked all first next.are in
    record {
      looked = both.looked;
      are = both.are;
      stage = next.stage ∙ both.stage;
      zeros = next.zeros ∙ both.zeros;
      bits = omega (arith, next.bits, both.bits);
      needed = λ others. grind (arith, common_steps, rules, both.needed others);
    }

-- more bits come
pub seen_longer : {rules : GapRules} {look : GapLook} {here : Bits} (more : Bits) → IsSeen rules look here
    → IsSeen rules look (here ++ more)
seen_longer more (rest, looks) = (
  rest ++ more,
  record {
    looked = looks.looked;
    are = ap (λ (b : Bits). b ++ more) looks.are ∙ append_assoc looks.looked rest more;
    stage = looks.stage;
    zeros = looks.zeros;
    bits = looks.bits;
    needed = looks.needed;
  },
)

-- of no bits
pub none_seen : (rules : GapRules) (here : Bits) → IsSeen rules nothing_seen here
none_seen rules here = (here, nothing_looked rules nothing_seen here)

pub only_settled : (stage : GapStage) → is_settled stage ≡ true → stage ≡ Settled
only_settled Start is = absurd cc
only_settled Damage is = absurd cc
only_settled AfterEol is = absurd cc
only_settled AfterTag is = absurd cc
only_settled Settled is = refl

-- what a look found is so of all bits, if it found a settled gap or all bits were looked at
pub found_settled : {rules : GapRules} {look : GapLook} {here rest : Bits} → LooksTo rules nothing_seen look here rest
    → (settled : Bool) → settled ≡ is_settled look.stage → (settled ≡ false → rest ≡ [])
    → is_settled (stage_following rules Start 0 here) ≡ settled
found_settled {rules} {look} {here} {rest} looks settled is all =
    grind (arith, common_steps, stage_following-append, only_settled, settled_stays)

-- the rest is after the bits looked at
pub rest_is : {rules : GapRules} {look : GapLook} {here rest : Bits} → LooksTo rules nothing_seen look here rest
    → drop look.bits here ≡ rest
rest_is {rules} {look} {here} {rest} looks = grind (arith, common_steps)

-- no more bits than there are were looked at, and no more zeros
pub looked_within : {rules : GapRules} {look : GapLook} {here rest : Bits} → LooksTo rules nothing_seen look here rest
    → (look.bits + length rest ≡ length here) × (look.zeros ≤ look.bits)
looked_within {rules} {look} {here} {rest} looks = grind (arith, common_steps, length-append, few_zeros)

-- no more were than those needed
pub looked_needed : {rules : GapRules} {look : GapLook} {here rest : Bits} → LooksTo rules nothing_seen look here rest
    → look.bits ≤ bits_needed rules Start 0 here
looked_needed {rules} {look} {here} {rest} looks = grind (arith, common_steps)

-- ---- A gap that the bits here settle

-- no EOL is here, nor is one sought
pub settled_at_one : (rules : GapRules) (here : Bits) → rules.seeks ≡ false → after_eol 0 here ≡ None → holds_one here ≡ true
    → is_settled (stage_following rules Start 0 here) ≡ true
settled_at_one rules here unsought none one = start_settles rules 0 here unsought none ∙ one

-- a one after few zeros is no EOL
one_settles : (rules : GapRules) (seen k : ℕ) (here : Bits) → seen + k < 11 → get_or here k false ≡ true
    → is_settled (stage_following rules AfterTag seen here) ≡ true
one_settles rules seen k [] few one = absurd cc
one_settles rules seen k (true ∷ here) few one =
    let none : leb 11 seen ≡ false = lt-leb 11 seen (omega (arith, few)) in
    rw (none) (settled_stays rules 0 here)
one_settles rules seen zero (false ∷ here) few one = absurd cc
one_settles rules seen (suc k) (false ∷ here) few one = one_settles rules (suc seen) k here (omega (arith, few)) one

-- an EOL is here, and after a bit, which may be its tag, a one among ten bits
pub settled_after_eol : (rules : GapRules) (here rest : Bits) (k : ℕ) → after_eol 0 here ≡ Some rest → k < 10
    → get_or rest (suc k) false ≡ true → is_settled (stage_following rules Start 0 here) ≡ true
settled_after_eol rules here rest k eol few one = ap is_settled (eol_seen rules Start 0 here rest eol) ∙ by_tag rest one
  where
    by_has_tags : (has_tags : Bool) (rest : Bits) → get_or rest k false ≡ true
        → is_settled (stage_following rules (cond has_tags AfterTag Settled) 0 rest) ≡ true
    by_has_tags true rest one = one_settles rules 0 k rest (omega (arith, few)) one
    by_has_tags false rest one = settled_stays rules 0 rest

    by_tag : (rest : Bits) → get_or rest (suc k) false ≡ true → is_settled (stage_following rules AfterEol 0 rest) ≡ true
    by_tag [] one = absurd cc
    by_tag (false ∷ rest) one = zero_no_tag rules 0 rest ∙ one_settles rules 1 k rest (omega (arith, few)) one
    by_tag (true ∷ rest) one = by_has_tags rules.has_tags rest one
