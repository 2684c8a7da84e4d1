-- A gap whose bits are counted as they come, so that none of them is kept.
use Rattle.std.specs.Prelude.{◌≡◌, ◌<◌, ◌+◌, ◌==◌, ℕ, zero, suc, Bool, true, false, [], ◌∷◌, ◌++◌, replicate, nat_le, nat_lt}
use Rattle.std.specs.Prelude.{◌&&◌}
use Rattle.std.specs.Prelude.{if◌then◌else◌, Option, Some, None, not}
use Rattle.std.specs.Prelude.{◌≢◌, ◌≤◌, ◌^◌, ◌⊎◌, Ok, drop, length}
use Rattle.fax_bits.specs.Bits.{Bits, BitsAt, here}
use Rattle.fax_rows.specs.declared.gap_count.GapCount.{GapCount}
use Rattle.fax_bits.specs.EndOfLine.{pass_last_tag}
use Rattle.fax_bits.specs.declared.settings.DecodeSettings.{DecodeSettings}
use Rattle.fax_bits.specs.declared.settings.EncodingMode.{EncodingMode}
use Rattle.fax_bits.specs.declared.settings.EncodingMode.TheVariants.{Group4, Group3_1D, Group3_2D}
use Rattle.fax_reading.specs.Context.{Context}
use Rattle.fax_reading.specs.GapsContinued.{gap_is_settled}
use Rattle.fax_reading.specs.PlainReading.{is_over, misses_eol}
use Rattle.fax_rows.specs.declared.gap_count.GapStep.{GapStep}
use Rattle.fax_rows.specs.RowsRead.{IsStanding, ReachesNextLine, line_after, seen}
use Rattle.fax_rows.specs.RowsTried.{rows_after_gap}
use Rattle.fax_rows.specs.declared.row_reader.RowState.{RowState}
use Rattle.fax_rows.specs.declared.row_reader.Stand.TheVariants.{AtLine}

-- nothing was counted
abbrev pub none_counted : GapCount
none_counted = record { eols = 0; tag = false; zeros = 0 }

-- a zero more
abbrev pub zero_more : GapCount → GapCount
zero_more count = record count { zeros = suc count.zeros }

-- an EOL more
abbrev pub eol_more : GapCount → GapCount
eol_more count = record { eols = suc count.eols; tag = false; zeros = 0 }

-- a tag of one more
abbrev pub tag_more : GapCount → GapCount
tag_more count = record { eols = count.eols; tag = true; zeros = 0 }

-- a one can be a tag: tags follow EOLs, and it follows one (T.4, 4.2.2)
abbrev pub can_be_tag : Bool → GapCount → Bool
can_be_tag has_tags count = has_tags && nat_lt 0 count.eols && not count.tag && (count.zeros == 0)

-- an EOL more, unless it is the second of two that end the data (T.6, 2.4.1.1)
abbrev pub eol_counted : Bool → GapCount → Option GapCount
eol_counted ends_at_two count = if ends_at_two && nat_lt 0 count.eols then None else Some (eol_more count)

-- A one more: it ends an EOL (T.4, 4.1.2), or it is a tag (T.4, 4.2.2). Else the gap has ended before it.
abbrev pub one_counted : Bool → Bool → GapCount → Option GapCount
one_counted has_tags ends_at_two count =
    if nat_le 11 count.zeros then eol_counted ends_at_two count
    else (if can_be_tag has_tags count then Some (tag_more count) else None)

-- the bits here, counted one after the other, where none of them ends the gap
abbrev pub counted : Bool → Bool → GapCount → Bits → Option GapCount
counted has_tags ends_at_two count [] = Some count
counted has_tags ends_at_two count (false ∷ here) = counted has_tags ends_at_two (zero_more count) here
counted has_tags ends_at_two count (true ∷ here) = elim (one_counted has_tags ends_at_two count) [
  | None ↦ None
  | Some next ↦ counted has_tags ends_at_two next here
]

-- ---- The rules of an encoding

-- tags follow EOLs (T.4, 4.2.2)
abbrev pub has_tags : EncodingMode → Bool
has_tags Group3_2D = true
has_tags Group3_1D = false
has_tags Group4 = false

-- two EOLs end the data: EOFB (T.6, 2.4.1.1)
abbrev pub ends_at_two : EncodingMode → Bool → Bool
ends_at_two Group3_2D end_of_block = false
ends_at_two Group3_1D end_of_block = false
ends_at_two Group4 end_of_block = end_of_block

-- bits of data with these settings, counted one after the other
abbrev pub counted_by : DecodeSettings → GapCount → Bits → Option GapCount
counted_by settings count here =
    counted (has_tags settings.encoding) (ends_at_two settings.encoding settings.end_of_block) count here

-- a tag of one before some bits
abbrev pub behind_tag : Bool → Bits → Bits
behind_tag true here = true ∷ here
behind_tag false here = here

-- the bits after the EOLs that were counted: a tag of one, and the zeros, before those that follow
abbrev pub left_before : GapCount → Bits → Bits
left_before count here = behind_tag count.tag (replicate count.zeros false ++ here)

-- ---- What was counted, as bits: not part of the trusted specification

-- the first of some bits were counted, up to the rest
pub record CountsTo (has_tags ends_at_two : Bool) (old new : GapCount) (here rest : Bits) : Type 0 where
  pub first : Bits
  pub are : here ≡ first ++ rest
  pub is : counted has_tags ends_at_two old first ≡ Some new

-- there is a tag only after an EOL of data that has tags, and one EOL at most where two end the data
pub record IsLawfulCount (has_tags ends_at_two : Bool) (count : GapCount) : Type 0 where
  pub tag : count.tag ≡ true → (has_tags ≡ true) × (0 < count.eols)
  pub few : ends_at_two ≡ true → count.eols < 2

-- an EOL without fill (T.4, 4.1.2)
abbrev pub eol_bits : Bits
eol_bits = false ∷ false ∷ false ∷ false ∷ false ∷ false ∷ false ∷ false ∷ false ∷ false ∷ false ∷ true ∷ []

-- so many EOLs before some bits
unfoldable pub behind_eols : ℕ → Bits → Bits
behind_eols zero here = here
behind_eols (suc n) here = eol_bits ++ behind_eols n here

-- what was counted, as bits, before those that follow
abbrev pub stand_in : GapCount → Bits → Bits
stand_in count here = behind_eols count.eols (behind_tag count.tag (replicate count.zeros false ++ here))

-- ---- A gap that ends: not part of the trusted specification

-- The EOLs of a gap that ends after what was counted, and the bits after them: a tag of one that is the last is that of the next
-- line, unless the EOLs are RTC (T.4, 4.2.2 and 4.2.4).
abbrev pub eols_of_count : EncodingMode → GapCount → Bits → ℕ × Bits
eols_of_count Group3_1D count here = (count.eols, left_before count here)
eols_of_count Group3_2D count here = pass_last_tag (count.eols, left_before count here)
eols_of_count Group4 count here = (count.eols, left_before count here)

-- ---- What a call leaves that counts the bits of a gap: not part of the trusted specification

-- what was counted up to the last EOL
abbrev pub to_last_eol : GapCount → GapCount
to_last_eol count = record { eols = count.eols; tag = false; zeros = 0 }

-- The bits that were counted are those up to an EOL; or sixteen zeros or more are the last of them, so that a one that follows is
-- that of an EOL (T.4, 4.1.2).
abbrev pub IsTidy : GapCount → Type 0
IsTidy count = (count ≡ to_last_eol count) ⊎ (16 ≤ count.zeros)

-- the next bits can be counted too
pub record CanGoOn (count : GapCount) (here : Bits) : Type 0 where
  pub tidy : IsTidy count
  pub fits : count.eols + count.zeros + length here + 1 < 2 ^ 64

-- The next bits can still be counted, whatever data follows: no more was counted than the bits that were passed, and few weren't.
pub record StaysCounted (old new : GapCount) (before after : Bits) : Type 0 where
  pub tidy : IsTidy new
  pub most : new.eols + new.zeros + length after ≤ old.eols + old.zeros + length before
  pub few : length after ≤ 16

-- The bits here were counted, but for few, and those can be of the gap too: data that follows can change it.
pub record StaysOpen (settings : DecodeSettings) (old new : GapCount) (before after : Bits) : Type 0 where
  pub first : Bits
  pub are : before ≡ first ++ after
  pub is : counted_by settings old first ≡ Some new
  pub tidy : IsTidy new
  pub end : GapCount
  pub still : counted_by settings new after ≡ Some end
  pub few : length after ≤ 16
  -- a tag of one and fewer than sixteen zeros, which weren't counted; or all zeros were
  pub tail : ((new ≡ to_last_eol end) × (after ≡ left_before end [])) ⊎ ((16 ≤ new.zeros) × (after ≡ []))

-- They were counted up to the last EOL. A tag may follow, and few zeros, and a one with which there is no EOL nor tag.
pub record EndsAtOne (settings : DecodeSettings) (old new : GapCount) (before after : Bits) : Type 0 where
  pub first : Bits
  pub are : before ≡ first ++ after
  pub is : counted_by settings old first ≡ Some new
  pub tail : GapCount
  pub rest : Bits
  pub left : after ≡ left_before tail [] ++ true ∷ rest
  pub last : new ≡ to_last_eol tail
  pub counted_tail : counted_by settings new (left_before tail []) ≡ Some tail
  pub few : nat_le 11 tail.zeros ≡ false
  pub none : one_counted (has_tags settings.encoding) (ends_at_two settings.encoding settings.end_of_block) tail ≡ None

-- They were counted up to the second of two EOLs that end the data (T.6, 2.4.1.1).
pub record EndsAtTwo (settings : DecodeSettings) (old new : GapCount) (before after : Bits) : Type 0 where
  pub first : Bits
  pub are : before ≡ first ++ true ∷ after
  pub is : counted_by settings old first ≡ Some new
  pub enough : 11 ≤ new.zeros
  pub none : one_counted (has_tags settings.encoding) (ends_at_two settings.encoding settings.end_of_block) new ≡ None

-- so many EOLs come before these bits: a tag of one that follows is that of the next line, unless the EOLs are RTC (T.4, 4.2.2
-- and 4.2.4)
abbrev pub past_eols : EncodingMode → ℕ × Bits → ℕ × Bits
past_eols Group3_2D found = pass_last_tag found
past_eols Group3_1D found = found
past_eols Group4 found = found

-- among the bits that were passed an EOL was counted
pub record CountsEol (settings : DecodeSettings) (count : GapCount) (before after : Bits) : Type 0 where
  pub first : Bits
  pub rest : Bits
  pub are : before ≡ first ++ rest
  pub mid : GapCount
  pub is : counted_by settings count first ≡ Some mid
  pub some : 0 < mid.eols
  pub onward : length after ≤ length rest

-- ---- Where a reading is whose gap was counted: not part of the trusted specification

-- The reading is after a row. The bits from there up to this offset are of the gap, and this was counted of them.
pub record StandsInGap (from : ℕ) (rows : RowState) (ctx : Context) (whole : Bits) (at : ℕ) (count : GapCount) : Type 0 where
  pub start : ℕ
  pub gone : Bits
  pub are : drop start whole ≡ gone ++ drop at whole
  pub place : at ≡ start + length gone
  pub within : at ≤ length whole
  pub is : counted_by ctx.held.settings none_counted gone ≡ Some count
  pub stands : IsStanding from rows ctx (record { bits = whole; place = start })

-- The gap is passed, up to the line or the end that is at this offset: where the reading is then, and what is seen of it.
pub record PassesCounted (from : ℕ) (rows : RowState) (ctx : Context) (whole : Bits) (start count next : ℕ) : Type 0 where
  pub onward : start ≤ next
  pub within : next ≤ length whole
  pub stands : IsStanding from (rows_after_gap rows (Ok (is_over ctx.held.settings ctx.held.taken (count, drop next whole))) start
      ctx ctx) ctx (record { bits = whole; place = next })
  pub reaches : ReachesNextLine (seen rows ctx (record { bits = whole; place = start }))
      (seen (rows_after_gap rows (Ok (is_over ctx.held.settings ctx.held.taken (count, drop next whole))) start ctx ctx) ctx
      (record { bits = whole; place = next }))
      (line_after (Ok (is_over ctx.held.settings ctx.held.taken (count, drop next whole))))

-- ---- A step in a gap: not part of the trusted specification

-- some data has these bits from this offset on, and others after them
pub record LiesAt (whole : Bits) (dropped : ℕ) (bits more : Bits) : Type 0 where
  pub within : dropped ≤ length whole
  pub are : drop dropped whole ≡ bits ++ more

-- The reading waits in the gap: few of the bits here weren't counted, and data that follows those can change it (T.4, 4.1.2; T.6,
-- 2.4.1.1).
pub record WaitsInGap (from : ℕ) (rows : RowState) (ctx : Context) (whole : Bits) (at : ℕ) (count : GapCount) (after : Bits)
    : Type 0 where
  pub stands : StandsInGap from rows ctx whole at count
  pub unsettled : gap_is_settled ctx.held.settings ctx.held.taken ctx.held.has_eols (stands.gone ++ after) ≡ false
  pub tidy : IsTidy count
  pub few : length after ≤ 16

-- The data ends with zeros that were counted: sixteen of them or more.
pub record EndsWithZeros (from : ℕ) (rows : RowState) (ctx : Context) (whole : Bits) (at : ℕ) (count : GapCount) (after : Bits)
    : Type 0 where
  pub stands : StandsInGap from rows ctx whole at count
  pub enough : 16 ≤ count.zeros
  pub none_left : after ≡ []

-- The gap was passed, to where this is kept, and there is a line or not.
pub record ComesByCounts (from : ℕ) (rows kept : RowState) (ctx : Context) (whole : Bits) (before at : ℕ) (line : Bool)
    : Type 0 where
  pub stands : IsStanding from kept ctx (record { bits = whole; place = at })
  pub reaches : ReachesNextLine (seen rows ctx (record { bits = whole; place = before }))
      (seen kept ctx (record { bits = whole; place = at })) (Ok line)

-- The gap begins here, and it has no EOL, although there must be one (T.4, 4.1.2).
pub record LacksEolHere (from : ℕ) (rows : RowState) (ctx : Context) (whole : Bits) (at : ℕ) : Type 0 where
  pub stands : IsStanding from rows ctx (record { bits = whole; place = at })
  pub misses : misses_eol ctx.held.settings ctx.held.taken ctx.held.has_eols (drop at whole) ≡ true

-- what is kept between two rows is unchanged, unless the gap is passed, to a line or not
abbrev pub KeepsRows : GapStep → RowState → RowState → Type 0
KeepsRows GapStep.Waits rows kept = kept ≡ rows
KeepsRows GapStep.Zeros rows kept = kept ≡ rows
KeepsRows GapStep.Missed rows kept = kept ≡ rows
KeepsRows (GapStep.Passed line) rows kept = line ≡ true → kept.stand ≡ AtLine

-- what a step says, whatever the data is: it waits only where more data may come, whose bits can be counted too, and comes to
-- zeros only where none does
pub record StepSays (is_last : Bool) (count next : GapCount) (before after : Bits) (step : GapStep) : Type 0 where
  pub waits : is_last ≡ true → step ≢ GapStep.Waits
  pub stays : step ≡ GapStep.Waits → StaysCounted count next before after
  pub zeros : step ≡ GapStep.Zeros → (is_last ≡ true) × (16 ≤ next.zeros)

-- what became of the gap after a row of some data, which begins at an offset, and of which the bits here are known from another
-- on
abbrev pub StepLeaves : GapStep → ℕ → RowState → RowState → Context → Bits → ℕ → ℕ → GapCount → BitsAt → BitsAt → Type 0
StepLeaves GapStep.Waits from rows kept ctx whole start dropped count before after =
    (waits : WaitsInGap from rows ctx whole (dropped + after.place) count (here after)) × (waits.stands.start ≡ start)
    × (kept ≡ rows)
StepLeaves GapStep.Zeros from rows kept ctx whole start dropped count before after =
    (ends : EndsWithZeros from rows ctx whole (dropped + after.place) count (here after)) × (ends.stands.start ≡ start)
    × (kept ≡ rows)
StepLeaves GapStep.Missed from rows kept ctx whole start dropped count before after =
    LacksEolHere from rows ctx whole (dropped + after.place) × (dropped + after.place ≡ start) × (kept ≡ rows)
StepLeaves (GapStep.Passed line) from rows kept ctx whole start dropped count before after =
    ComesByCounts from rows kept ctx whole (dropped + before.place) (dropped + after.place) line

-- whatever the data is
abbrev pub StepsInGap : Bool → RowState → RowState → Context → GapCount → GapCount → BitsAt → BitsAt → GapStep → Type 0
StepsInGap is_last rows kept ctx count next before after step =
    (from : ℕ) (whole more : Bits) (dropped : ℕ) → LiesAt whole dropped before.bits more → (is_last ≡ true → more ≡ [])
    → (in_gap : StandsInGap from rows ctx whole (dropped + before.place) count)
    → StepLeaves step from rows kept ctx whole in_gap.start dropped next before after
