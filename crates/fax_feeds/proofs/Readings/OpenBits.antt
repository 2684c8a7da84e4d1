-- Bits that leave open what a line or a gap is: few of them aren't part of it.
use Rattle.fax_feeds.proofs.Names.{common_steps}
use Rattle.fax_feeds.proofs.Names.{◌≡◌, ◌∙◌, ◌+◌, ◌≤◌, ◌<◌, ◌++◌, ◌∷◌, [], ℕ, suc, Bool, true, false}
use Rattle.fax_feeds.proofs.Names.{refl, sym, ap, arith, length, length-append, replicate, inl, inr, cases_lt, false≢true}
use Rattle.fax_feeds.proofs.Names.{Bits, DecodeSettings, EncodingMode, Group4, Group3_1D, Group3_2D, Row}
use Rattle.fax_feeds.proofs.Names.{Gap, Progress, all_eols, at_front, at_gap, gap_after_row, line_here}
use Rattle.fax_feeds.proofs.Names.{append_assoc, misses_eol, ◌||◌, eqb}
use Rattle.fax_rows.specs.RowsTried.{front_is_settled}
use Rattle.fax_reading.specs.Continuations.{is_short}
use Rattle.fax_feeds.specs.FeedsKeepLittle.{OpenBitsAreRead, left_by, left_by_first}
use Rattle.fax_reading.specs.GapsContinued.{first_gap_is_settled, gap_is_settled, holds_one}
use Rattle.fax_feeds.specs.GapsSeen.{bits_needed, is_settled, rules_after_row, stage_after, stage_following, zeros_after}
use Rattle.fax_reading.specs.Lines.{Line}
use Rattle.fax_reading.specs.PlainReading.{first_gap}
use Rattle.fax_feeds.specs.declared.gap_look.GapRules.{GapRules}
use Rattle.fax_feeds.specs.declared.gap_look.GapStage.{GapStage}
use Rattle.fax_feeds.specs.declared.gap_look.GapStage.TheVariants.{Start}
use Rattle.fax_feeds.proofs.Readings.GapsNear.{gap_near, left_by_eols, one_more_needed, zero_more_needed}
use Rattle.fax_feeds.proofs.Readings.GapsSeen.{gap_seen, only_settled, settled_stays, stage_following-append}
use Rattle.fax_feeds.proofs.Readings.RowsDrawn.{eol_among, prefix_more}
use Rattle.fax_reading.proofs.Continuations.ShortLines.{zeros_end_line}
use Rattle.fax_reading.proofs.KeptRows.EqualFronts.{line_again}

-- ---- Of a line

-- no EOL ends among them
pub open_before_eol : (settings : DecodeSettings) (reference : Row) (first more fill after : Bits)
    → is_short (line_here settings reference first) ≡ true → first ++ more ≡ fill ++ replicate 11 false ++ true ∷ after
    → length first < length fill + 12
open_before_eol settings reference first more fill after short e =
    grind (arith, common_steps, cases_lt, eol_among, false≢true, zeros_end_line, append_assoc)

-- where it is whole, they are all of it that came
pub open_bits_of_line : (settings : DecodeSettings) (reference row : Row) (first more rest : Bits)
    → is_short (line_here settings reference first) ≡ true
    → line_here settings reference (first ++ more) ≡ Line.whole row rest → length rest < length more
open_bits_of_line settings reference row first more rest short e =
    let again = line_again settings.encoding settings.strict settings.columns reference (first ++ more) row rest e in
    elim (cases_lt (length rest) (length more)) [
      | inl lt ↦ lt
      | inr ge ↦
          let long : length again.0 ≤ length first = omega (
            arith,
            ge,
            ap length again.1,
            length-append first more,
            length-append again.0 rest,
          ) in
          let (others, there) = prefix_more again.0 rest first more (sym again.1) long in
          absurd (false≢true (sym (ap is_short (again.2 others))
          ∙ ap (λ (b : Bits). is_short (line_here settings reference b)) (sym there) ∙ short))
    ]

-- ---- Of a gap

-- what isn't settled wasn't before
pub open_before : (rules : GapRules) (stage : GapStage) (seen : ℕ) (first : Bits)
    → is_settled (stage_following rules stage seen first) ≡ false → is_settled stage ≡ false
open_before rules stage seen first waits = grind (arith, common_steps, false≢true, only_settled, settled_stays)

-- all of them are needed
all_needed : (rules : GapRules) (stage : GapStage) (seen : ℕ) (first more : Bits)
    → is_settled (stage_following rules stage seen first) ≡ false
    → bits_needed rules stage seen (first ++ more)
    ≡ length first + bits_needed rules (stage_following rules stage seen first) (zeros_after seen first) more
all_needed rules stage seen [] more waits = omega arith
all_needed rules stage seen (false ∷ first) more waits = omega (
  arith,
  zero_more_needed rules stage seen (first ++ more) (open_before rules stage seen (false ∷ first) waits),
  all_needed rules stage (suc seen) first more waits,
)
all_needed rules stage seen (true ∷ first) more waits = omega (
  arith,
  one_more_needed rules stage seen (first ++ more) (open_before rules stage seen (true ∷ first) waits),
  all_needed rules (stage_after rules stage seen) 0 first more waits,
)

-- and one more, where those after settle it
one_needed_more : (rules : GapRules) (stage : GapStage) (seen : ℕ) (more : Bits) → is_settled stage ≡ false
    → is_settled (stage_following rules stage seen more) ≡ true → 0 < bits_needed rules stage seen more
one_needed_more rules stage seen [] waits settled = absurd (false≢true (sym waits ∙ settled))
one_needed_more rules stage seen (false ∷ more) waits settled = omega (arith, zero_more_needed rules stage seen more waits)
one_needed_more rules stage seen (true ∷ more) waits settled = omega (arith, one_more_needed rules stage seen more waits)

module _ (settings : DecodeSettings) (taken : ℕ) (has_eols : Bool) (first more : Bits) where
  abbrev rules_there : GapRules
  rules_there = rules_after_row settings taken has_eols

  -- a beginning of bits that leave a gap open leaves it open
  pub open_gap_before : gap_is_settled settings taken has_eols (first ++ more) ≡ false
      → gap_is_settled settings taken has_eols first ≡ false
  open_gap_before waits = sym (gap_seen settings taken has_eols first)
      ∙ open_before rules_there (stage_following rules_there Start 0 first) (zeros_after 0 first) more
      (ap is_settled (sym (stage_following-append rules_there Start 0 first more))
      ∙ gap_seen settings taken has_eols (first ++ more) ∙ waits)

  -- all but eleven are passed
  pub open_bits_of_gap : gap_is_settled settings taken has_eols first ≡ false
      → gap_is_settled settings taken has_eols (first ++ more) ≡ true
      → length (left_by (first ++ more) (gap_after_row settings taken has_eols (first ++ more))) ≤ length more + 11
  open_bits_of_gap waits settled =
      let unsettled : is_settled (stage_following rules_there Start 0 first) ≡ false =
      gap_seen settings taken has_eols first ∙ waits in
      let later : is_settled (stage_following rules_there (stage_following rules_there Start 0 first) (zeros_after 0 first) more)
      ≡ true = ap is_settled (sym (stage_following-append rules_there Start 0 first more))
      ∙ gap_seen settings taken has_eols (first ++ more) ∙ settled in
      omega (
        arith,
        length-append first more,
        all_needed rules_there Start 0 first more unsettled,
        one_needed_more rules_there (stage_following rules_there Start 0 first) (zeros_after 0 first) more unsettled later,
        gap_near settings taken has_eols (first ++ more) settled,
      )

-- ---- Of the first gap

-- the first gap of Group 3 is that of data without tags, in which no EOL is missed
abbrev plainly : DecodeSettings → DecodeSettings
plainly settings = record settings { encoding = Group3_1D }

module _ (settings : DecodeSettings) (here : Bits) where
  none_missed : misses_eol (plainly settings) 0 false here ≡ false
  none_missed = grind (arith, common_steps)

  plain_settled : gap_is_settled (plainly settings) 0 false here ≡ holds_one (all_eols here).1
  plain_settled = grind (arith, common_steps, none_missed)

  plain_left : left_by here (gap_after_row (plainly settings) 0 false here) ≡ (all_eols here).1
  plain_left = grind (arith, common_steps, none_missed, left_by_eols)

-- a beginning of bits that leave it open leaves it open
pub open_first_gap_before : (settings : DecodeSettings) (first more : Bits)
    → first_gap_is_settled settings.encoding settings (first ++ more) ≡ false
    → first_gap_is_settled settings.encoding settings first ≡ false
open_first_gap_before settings first more = by_encoding settings.encoding
  where
    without_tags : holds_one (all_eols (first ++ more)).1 ≡ false → holds_one (all_eols first).1 ≡ false
    without_tags waits = sym (plain_settled settings first)
        ∙ open_gap_before (plainly settings) 0 false first more (plain_settled settings (first ++ more) ∙ waits)

    by_encoding : (encoding : EncodingMode) → first_gap_is_settled encoding settings (first ++ more) ≡ false
        → first_gap_is_settled encoding settings first ≡ false
    by_encoding Group4 waits = open_gap_before settings 0 false first more waits
    by_encoding Group3_1D waits = without_tags waits
    by_encoding Group3_2D waits = without_tags waits

pub open_front_before : (settings : DecodeSettings) (first more : Bits) → front_is_settled settings (first ++ more) ≡ false
    → front_is_settled settings first ≡ false
open_front_before settings first more = by_columns (eqb settings.columns 0)
  where
    by_columns : (none : Bool) → (none || first_gap_is_settled settings.encoding settings (first ++ more)) ≡ false
        → (none || first_gap_is_settled settings.encoding settings first) ≡ false
    by_columns true waits = absurd (false≢true (sym waits))
    by_columns false waits = open_first_gap_before settings first more waits

-- the bits after the gap before no row
left_at_front : (here : Bits) (so_far : Progress) (gap : Gap) → left_by_first here (at_gap so_far gap) ≡ left_by here gap
left_at_front here so_far (Gap.line_at has_eols rest) = refl
left_at_front here so_far (Gap.over outcome) = refl

pub open_bits_of_first_gap : (settings : DecodeSettings) (first more : Bits)
    → first_gap_is_settled settings.encoding settings first ≡ false
    → first_gap_is_settled settings.encoding settings (first ++ more) ≡ true
    → length (left_by_first (first ++ more) (first_gap settings.encoding settings (first ++ more))) ≤ length more + 11
open_bits_of_first_gap settings first more = by_encoding settings.encoding
  where
    without_tags : holds_one (all_eols first).1 ≡ false → holds_one (all_eols (first ++ more)).1 ≡ true
        → length (all_eols (first ++ more)).1 ≤ length more + 11
    without_tags waits settled = omega (
      arith,
      ap length (plain_left settings (first ++ more)),
      open_bits_of_gap (plainly settings) 0 false first more (plain_settled settings first ∙ waits)
          (plain_settled settings (first ++ more) ∙ settled),
    )

    by_encoding : (encoding : EncodingMode) → first_gap_is_settled encoding settings first ≡ false
        → first_gap_is_settled encoding settings (first ++ more) ≡ true
        → length (left_by_first (first ++ more) (first_gap encoding settings (first ++ more))) ≤ length more + 11
    by_encoding Group4 waits settled = omega (
      arith,
      ap length (left_at_front (first ++ more) (at_front (first ++ more)) (gap_after_row settings 0 false (first ++ more))),
      open_bits_of_gap settings 0 false first more waits settled,
    )
    by_encoding Group3_1D waits settled = without_tags waits settled
    by_encoding Group3_2D waits settled = without_tags waits settled

-- Few bits that leave open what a line or a gap is aren't part of it.
pub open_bits_are_read : OpenBitsAreRead
open_bits_are_read = record {
  line = open_bits_of_line;
  eol = open_before_eol;
  gap = open_bits_of_gap;
  first_gap = open_bits_of_first_gap;
}
