-- A feed in a gap whose bits are counted as they come: not part of the trusted specification.
use Rattle.std.specs.Prelude.{◌≡◌, ◌≤◌, ◌<◌, ◌+◌, ◌-◌, ◌^◌, ℕ, Bool, true, false, length, drop, [], ◌++◌, Result, Ok, Err, Option}
use Rattle.std.specs.Prelude.{Some, None}
use Rattle.fax_bits.specs.declared.error.DecodeError.{DecodeError}
use Rattle.fax_bits.specs.Bits.{Bits, BitsAt, here}
use Rattle.fax_reading.specs.GapsContinued.{gap_is_settled}
use Rattle.fax_reading.specs.Context.{Context}
use Rattle.fax_bits.specs.declared.settings.DecodeSettings.{DecodeSettings}
use Rattle.fax_rows.specs.FrontsCounted.{CountsFront, PassesFront, TakesNoRow}
use Rattle.fax_rows.specs.RowsTried.{front_is_settled}
use Rattle.fax_rows.specs.declared.row_reader.RowState.{RowState}
use Rattle.fax_rows.specs.GapsCounted.{IsTidy, StandsInGap, left_before}
use Rattle.fax_rows.specs.RowsRead.{IsStanding, ReachesNextLine, is_at_line, seen}
use Rattle.fax_feeds.specs.declared.counted_gaps.GapSoFar.{GapSoFar}
use Rattle.fax_feeds.specs.GapsSeen.{IsSeen, nothing_seen, rules_for}
use Rattle.fax_bits.specs.declared.settings.EncodingMode.TheVariants.{Group3_2D}
use Rattle.fax_bits.specs.declared.error.DecodeError.TheVariants.{InvalidCode}
use Rattle.std.specs.Prelude.{◌*◌, ◌≢◌, IfErr}
use Rattle.fax_feeds.specs.RowFeeds.{LacksEol, LieIn, PassesEol, no_gap}

-- ---- The gap before the next line

-- The reading is after a row, in the gap of which this is known: up to this offset it was counted.
pub record StandsSoFar (from : ℕ) (rows : RowState) (ctx : Context) (whole : Bits) (at : ℕ) (gap : GapSoFar) : Type 0 where
  pub in_gap : StandsInGap from rows ctx whole at gap.count
  pub passed : at ≡ in_gap.start + gap.passed
  pub missed : 0 < gap.look.bits → LacksEol ctx.held (drop in_gap.start whole)

-- It waits there: data that follows can change the gap (T.4, 4.1.2; T.6, 2.4.1.1).
pub record WaitsSoFar (from : ℕ) (rows : RowState) (ctx : Context) (whole : Bits) (start at : ℕ) (gap : GapSoFar) (after : Bits)
    : Type 0 where
  pub stands : StandsSoFar from rows ctx whole at gap
  pub start_is : stands.in_gap.start ≡ start
  pub unsettled : gap_is_settled ctx.held.settings ctx.held.taken ctx.held.has_eols (stands.in_gap.gone ++ after) ≡ false

-- The gap was passed. Where the data ends with zeros, the reading is before them, and a tag of one.
pub record ComesSoFar (from : ℕ) (rows kept : RowState) (old new : Context) (whole : Bits) (start at : ℕ) (gap : GapSoFar)
    (answer : Result Bool DecodeError) : Type 0 where
  pub place : ℕ
  pub place_is : place + gap.passed ≡ at
  pub onward : answer ≡ Ok true → start ≤ place
  pub stands : IsStanding from kept new (record { bits = whole; place = place })
  pub reaches : ReachesNextLine (seen rows old (record { bits = whole; place = start }))
      (seen kept new (record { bits = whole; place = place })) answer
  pub zeros : gap.at_zeros ≡ true → (drop place whole ≡ left_before gap.count [])
      × (gap.count.tag ≡ true → new.held.settings.encoding ≡ Group3_2D)

abbrev pub CameSoFar : Result (Option Bool) DecodeError → ℕ → RowState → RowState → Context → Context → Bits → ℕ → ℕ → GapSoFar
    → BitsAt → Type 0
CameSoFar (Ok None) from rows kept old new whole start at gap after =
    WaitsSoFar from rows new whole start at gap (here after) × (kept ≡ rows)
CameSoFar (Ok (Some line)) from rows kept old new whole start at gap after =
    ComesSoFar from rows kept old new whole start at gap (Ok line)
CameSoFar (Err error) from rows kept old new whole start at gap after =
    ComesSoFar from rows kept old new whole start at gap (Err error)

-- How far a call looks that passes the gap up to a line, of which so many bits were counted before this offset: where more may
-- come, no more than twice the bits of the gap and sixteen. An EOL is among them, if EOLs are sought (T.4, 4.1.2).
pub record PassesNear (is_last : Bool) (rows : RowState) (start at place extra : ℕ) (gap next : GapSoFar) (old : Context)
    (known : Bits) : Type 0 where
  pub near : is_last ≡ false → extra + gap.look.bits + 2 * at ≤ 2 * place + 16
  pub last : is_last ≡ true → extra + 2 * start ≤ 2 * place + next.passed + 16
  pub past_eol : is_last ≡ false → is_at_line rows.stand ≡ false → old.held.has_eols ≡ true → PassesEol known start place

-- what is known of the gap stays so: it waits, and can be counted on; or it was passed, and it is known only where zeros end the
-- data
pub record StaysKnown (is_last : Bool) (gap next : GapSoFar) (before after : Bits) (answer : Result (Option Bool) DecodeError)
    : Type 0 where
  pub waits : answer ≡ Ok None → IsTidy next.count × (next.at_zeros ≡ false)
      × (next.count.eols + next.count.zeros + length after ≤ gap.count.eols + gap.count.zeros + length before)
  -- few bits are left that weren't counted, unless an EOL is missing
  pub few : answer ≡ Ok None → next.look.bits ≡ 0 → length after ≤ 16
  pub passed : answer ≢ Ok None → next.at_zeros ≡ false → next ≡ no_gap
  pub zeros : next.at_zeros ≡ true → (is_last ≡ true) × (16 ≤ next.count.zeros) × (next.look ≡ nothing_seen)
  -- where an EOL is missing, the gap begins here
  pub missed : 0 < next.look.bits → next ≡ record no_gap { look = next.look }

-- What a call leaves that passes the gap before the next line, if there is one here, of which this was known, if no data that
-- follows can change it, whatever the data is.
pub record ComesCounted (is_last : Bool) (dropped : ℕ) (rows kept : RowState) (gap next : GapSoFar) (old new : Context)
    (before after : BitsAt) (answer : Result (Option Bool) DecodeError) : Type 0 where
  pub extra : ℕ
  pub counts : old.ticks + extra ≤ new.ticks
  pub space : new.space ≡ old.space
  pub frame : new.held ≡ record old.held { has_eols = new.held.has_eols; repairs = new.held.repairs }
  pub same_bits : after.bits ≡ before.bits
  pub within : after.place ≤ length after.bits
  pub line : answer ≡ Ok (Some true) → is_at_line kept.stand ≡ true
  -- at a line there is no gap
  pub at_line : is_at_line rows.stand ≡ true → (answer ≡ Ok (Some true)) × (after ≡ before) × (new.held ≡ old.held)
      × (extra ≡ 0) × (next ≡ gap)
  pub only_code : IfErr answer (λ e. e ≡ InvalidCode)
  -- where it waits, but sixteen of the bits that were counted are those up to here, or were looked at from here on
  pub near : answer ≡ Ok None → extra + gap.look.bits + before.place ≤ after.place + next.look.bits + 16
  -- no more were looked at than there are, and sixteen
  pub looks : 0 < extra → extra + gap.look.bits + before.place ≤ length before.bits + 16
  pub waits : answer ≡ Ok None → (new.held ≡ old.held) × (new.ticks ≡ old.ticks + extra) × (is_last ≡ false) × (kept ≡ rows)
  pub seen : answer ≡ Ok None → IsSeen (rules_for true old.held) next.look (here after)
  pub known : StaysKnown is_last gap next (here before) (here after) answer
  pub leaves : (from : ℕ) (whole : Bits) → LieIn whole dropped is_last before.bits
      → (stands : StandsSoFar from rows old whole (dropped + before.place) gap)
      → CameSoFar answer (from + extra) rows kept old new whole stands.in_gap.start (dropped + after.place) next after
  pub passes : (from : ℕ) (whole : Bits) → LieIn whole dropped is_last before.bits
      → (stands : StandsSoFar from rows old whole (dropped + before.place) gap) → answer ≡ Ok (Some true)
      → PassesNear is_last rows stands.in_gap.start (dropped + before.place) (dropped + after.place - next.passed) extra gap
      next old (stands.in_gap.gone ++ here before)

-- ---- What is before the first line

-- it waits for more data: of the bits up to this offset this was counted (T.4, 4.1.2; T.6, 2.4.1.1)
pub record WaitsFirst (settings : DecodeSettings) (whole : Bits) (at : ℕ) (gap : GapSoFar) (after : Bits) : Type 0 where
  pub stands : CountsFront settings whole at gap.count
  pub passed : gap.passed ≡ at
  pub unsettled : front_is_settled settings (stands.gone ++ after) ≡ false

-- It was passed, to where this offset is, and a line follows or not. Where the data ends with zeros, the reading is before them.
pub record PassesFirst (old new : Context) (whole : Bits) (at : ℕ) (gap : GapSoFar) (line : Bool) : Type 0 where
  pub place : ℕ
  pub place_is : place + gap.passed ≡ at
  pub within : place ≤ length whole
  pub passes : PassesFront old new whole place line
  pub zeros : gap.at_zeros ≡ true → (drop place whole ≡ left_before gap.count [])
      × (gap.count.tag ≡ true → new.held.settings.encoding ≡ Group3_2D)

abbrev pub CameFirst : Option Bool → Context → Context → Bits → ℕ → GapSoFar → BitsAt → Type 0
CameFirst None old new whole at gap after = WaitsFirst old.held.settings whole at gap (here after)
CameFirst (Some line) old new whole at gap after = PassesFirst old new whole at gap line

-- What a call leaves that passes what is before the first line, of which this was known, if no data that follows can change it.
pub record ComesFirst (is_last : Bool) (gap next : GapSoFar) (old new : Context) (before after : BitsAt) (answer : Option Bool)
    : Type 0 where
  pub takes : TakesNoRow old new
  pub same_bits : after.bits ≡ before.bits
  pub within : after.place ≤ length after.bits
  pub onward : before.place ≤ after.place
  pub near : new.ticks + before.place ≤ old.ticks + after.place + 16
  pub waits : answer ≡ None → (new.held ≡ old.held) × (is_last ≡ false)
  pub known : StaysKnown is_last gap next (here before) (here after) (Ok answer)
  pub unlooked : next.look ≡ nothing_seen
  pub passed : answer ≡ None → gap.passed + after.place < 2 ^ 64 + before.place
      → next.passed + before.place ≡ gap.passed + after.place
  pub leaves : (whole : Bits) (dropped : ℕ) → length whole < 2 ^ 64 → LieIn whole dropped is_last before.bits
      → CountsFront old.held.settings whole (dropped + before.place) gap.count → gap.passed ≡ dropped + before.place
      → CameFirst answer old new whole (dropped + after.place) next after
