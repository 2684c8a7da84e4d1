-- Rows from data that comes in pieces: what is kept of it, what is seen of a reading, and which data it is a reading of.
use Rattle.std.specs.Prelude.{◌≡◌, ◌≢◌, ◌≤◌, ◌<◌, ◌+◌, ◌*◌, ◌/◌, ◌%◌, ◌^◌, ℕ, Bool, true, false, ◌++◌, [], not, ◌&&◌, ◌⊎◌}
use Rattle.std.specs.Prelude.{◌-◌, ◌||◌, ◌==◌, take, if◌then◌else◌}
use Rattle.std.specs.Prelude.{vec_capacity, List, max, drop, length, replicate, ◌∷◌, Option, None, Some, Result, Ok, Err, IfErr}
use Rattle.fax_bits.specs.declared.bit_reader.BitOrder.{BitOrder}
use Rattle.fax_bits.specs.declared.codes.Color.TheVariants.{White}
use Rattle.fax_bits.specs.declared.settings.EncodingMode.TheVariants.{Group3_2D}
use Rattle.fax_bits.specs.declared.error.DecodeError.{DecodeError}
use Rattle.fax_bits.specs.declared.error.DecodeError.TheVariants.{InvalidCode, OutOfMemory, Refused}
use Rattle.fax_feeds.specs.declared.line_parts.KeptPart.{KeptPart}
use Rattle.fax_feeds.specs.declared.row_feed.Fed.{Fed}
use Rattle.fax_feeds.specs.declared.row_feed.LineState.{LineState}
use Rattle.fax_feeds.specs.declared.row_feed.RowFeed.TheInside.{Inside}
use Rattle.fax_rows.specs.declared.row_reader.RowState.{RowState}
use Rattle.fax_rows.specs.declared.row_reader.Stand.{Stand}
use Rattle.fax_rows.specs.declared.row_reader.Stand.TheVariants.{AtLine, AfterRow, AtEnd, AtFault}
use Rattle.fax_reading.specs.Answers.{HasBlack, PaintsBlack, front_of, meaning_after}
use Rattle.fax_bits.specs.Bits.{AreWholeBytes, Bits, BitsAt, bits_in, here}
use Rattle.fax_reading.specs.Context.{Context, Held, fresh, redrawn}
use Rattle.fax_reading.specs.Continuations.{is_short}
use Rattle.fax_reading.specs.Decoding.{SinkState}
use Rattle.fax_reading.specs.GapsContinued.{gap_is_settled}
use Rattle.fax_feeds.specs.GapsSeen.{IsSeen, nothing_seen, rules_for}
use Rattle.fax_feeds.specs.declared.gap_look.GapLook.{GapLook}
use Rattle.fax_feeds.specs.declared.counted_gaps.GapSoFar.{GapSoFar}
use Rattle.fax_bits.specs.declared.settings.DecodeSettings.{DecodeSettings}
use Rattle.fax_rows.specs.FrontsCounted.{front_rules}
use Rattle.fax_rows.specs.GapsCounted.{IsTidy, counted_by, left_before, none_counted}
use Rattle.fax_feeds.specs.LineParts.{IsLawfulPart, IsPartOf}
use Rattle.fax_reading.specs.Lines.{Line}
use Rattle.fax_reading.specs.PlainReading.{line_here, lines_of, misses_eol, row_of_line}
use Rattle.fax_reading.specs.Rows.{Row, changes}
use Rattle.fax_rows.specs.RowsRead.{IsStanding, IsStandingAtLine, ReachesNextLine, ReadsNext, RowsRead, ended, is_at_line}
use Rattle.fax_rows.specs.RowsRead.{seen}
use Rattle.fax_rows.specs.RowsTried.{CanCome, IsUnread, TriesRow, front_is_settled}
use Rattle.fax_bits.specs.Faults.{no_memory}

-- ---- What is seen

-- the context, what is kept between two rows, the order of the bits, whether what is before the first line was passed, whether
-- the data is finished, the bits kept of it, how many bits came before them, the offset of the next bit among those kept, how
-- many bits of the gap before the next line were looked at, what is known of that gap, the part of the line there from which it
-- goes on, if it was found to be short, how many of its bits were read, and for how many bytes there is room
pub record Feeding : Type 0 where
  pub ctx : Context
  pub rows : RowState
  pub order : BitOrder
  pub begun : Bool
  pub finished : Bool
  pub kept : Bits
  pub dropped : ℕ
  pub place : ℕ
  pub looked : ℕ
  pub gap : GapSoFar
  pub part : Option KeptPart
  pub line_read : ℕ
  pub tried_at : ℕ
  pub room : ℕ

abbrev pub feeding_of : Inside → Feeding
feeding_of f = record {
  ctx = f.ctx;
  rows = f.rows;
  order = f.order;
  begun = f.begun;
  finished = f.is_last;
  kept = bits_in f.order f.«data».items;
  dropped = f.dropped;
  place = f.place;
  looked = f.gap.passed + f.gap.look.bits;
  gap = f.gap;
  part = f.part;
  line_read = f.line_read;
  tried_at = f.tried;
  room = vec_capacity f.«data»;
}

-- the line that begins these bits is short, and goes on from this part of it, of which so many bits were read
pub record LineGoesOn (begun : Bool) (stand : Stand) (held : Held) (here : Bits) (read : ℕ) (part : KeptPart) : Type 0 where
  pub is_begun : begun ≡ true
  pub at_line : is_at_line stand ≡ true
  pub none_drawn : redrawn held [] White ≡ held
  pub within : read ≤ length here
  pub lawful : IsLawfulPart held.settings held.reference part
  pub line : IsPartOf held.settings held.reference here part (drop read here)

-- the part is one of a one-dimensional line
abbrev pub IsPartOf1d : Option KeptPart → Type 0
IsPartOf1d None = ⊥
IsPartOf1d (Some part) = part.is_2d ≡ false

abbrev pub PartIsKept : Option KeptPart → Bool → Stand → Held → Bits → ℕ → Type 0
PartIsKept None begun stand held here read = read ≡ 0
PartIsKept (Some part) begun stand held here read = LineGoesOn begun stand held here read part

-- nothing is known of a gap that begins
abbrev pub no_gap : GapSoFar
no_gap = record { count = none_counted; passed = 0; at_zeros = false; look = nothing_seen }

-- The bits of a gap that were counted are those of a gap that goes on, and no more than there were; or the data ends with zeros
-- that were counted.
pub record IsCounted (gap : GapSoFar) (at : ℕ) : Type 0 where
  pub tidy : gap.at_zeros ≡ false → IsTidy gap.count
  pub few : gap.at_zeros ≡ false → gap.count.eols + gap.count.zeros ≤ at
  pub zeros : gap.at_zeros ≡ true → (16 ≤ gap.count.zeros) × (gap.look ≡ nothing_seen)
  pub missed : 0 < gap.look.bits → gap ≡ record no_gap { look = gap.look }

-- nothing was read yet
pub record IsUnbegun (f : Inside) : Type 0 where
  pub fresh : f.ctx.held ≡ fresh f.ctx.held.settings
  pub start : f.dropped + f.place ≡ f.gap.passed
  pub unended : ended f.rows.stand ≡ None
  pub rows : is_at_line f.rows.stand ≡ false
  pub unlooked : f.gap.look ≡ nothing_seen
  pub some_follow : f.gap.at_zeros ≡ false
  pub narrow : f.ctx.held.settings.columns ≡ 0 → f.gap ≡ no_gap

-- the next bit is among those kept, or just after them, whole bytes came before them, offsets fit, and no gap is known of a line
-- that is next, nor after the end
pub record IsKept (f : Inside) : Type 0 where
  pub within : f.place ≤ 8 * length f.«data».items
  pub fit : f.dropped + 8 * length f.«data».items + 64 < 2 ^ 64
  pub bytes : f.dropped % 8 ≡ 0
  pub unbegun : f.begun ≡ false → IsUnbegun f
  pub seen : IsSeen (rules_for f.begun f.ctx.held) f.gap.look (drop f.place (bits_in f.order f.«data».items))
  pub line : is_at_line f.rows.stand ≡ true → f.gap.at_zeros ≡ false → f.gap ≡ no_gap
  pub over : ended f.rows.stand ≢ None → f.gap.at_zeros ≡ false → f.gap ≡ no_gap
  pub counted : IsCounted f.gap (f.dropped + f.place)
  pub unkept : f.gap.at_zeros ≡ true → f.part ≡ None
  pub last : f.gap.at_zeros ≡ true → f.is_last ≡ true
  pub part : PartIsKept f.part f.begun f.rows.stand f.ctx.held (drop f.place (bits_in f.order f.«data».items)) f.line_read

-- how many bits were fed
abbrev pub fed_bits : Feeding → ℕ
fed_bits feed = feed.dropped + length feed.kept

-- where the reading is: before the bits of the gap that were counted
abbrev pub offset_of : Feeding → ℕ
offset_of feed = feed.dropped + feed.place - feed.gap.passed

-- The feed with all bits of some data that were fed, where the reading is.
abbrev pub completed : Bits → Feeding → Feeding
completed whole feed = record feed { kept = take (fed_bits feed) whole; dropped = 0; place = offset_of feed }

-- what was read of these bits
abbrev pub fed_over : Bits → Feeding → RowsRead
fed_over whole feed = seen feed.rows feed.ctx (record { bits = whole; place = feed.dropped + feed.place })

-- ---- Which data it is a reading of

-- the bits kept, of which so many came before, lie in some data, and more bits may follow them
pub record LieIn (whole : Bits) (dropped : ℕ) (finished : Bool) (kept : Bits) : Type 0 where
  pub within : dropped ≤ length whole
  pub more : Bits
  pub bits : drop dropped whole ≡ kept ++ more
  pub can_come : CanCome finished more

-- nothing was read yet
pub record IsAtFront (from : ℕ) (rows : RowState) (ctx : Context) (place : ℕ) : Type 0 where
  pub fresh : ctx.held ≡ fresh ctx.held.settings
  pub ticks : ctx.ticks ≡ from
  pub state : rows ≡ record { started_at = 0; damage = None; cut = false; missed = None; stand = Stand.AfterRow }
  pub start : place ≡ 0

-- where the reading is by the plain reading of these bits, with the work of all tries that were left
abbrev pub StandsIn : Bool → ℕ → RowState → Context → BitsAt → Type 0
StandsIn true tried rows ctx at = IsStanding tried rows ctx at
StandsIn false tried rows ctx at = IsAtFront tried rows ctx at.place

-- It is a reading of these bits, of which those fed so far are a beginning, and all of them if the data is finished; its rows
-- so far are those of the plain reading. This much work was counted for what was tried and left. No bits of a gap are gone.
pub record IsPlainFeedOf (whole : Bits) (tried : ℕ) (feed : Feeding) : Type 0 where
  pub fit : length whole + 64 < 2 ^ 64
  pub lie : LieIn whole feed.dropped feed.finished feed.kept
  pub stands : StandsIn feed.begun tried feed.rows feed.ctx (record { bits = whole; place = feed.dropped + feed.place })

-- the rules of the gap that is next: EOLs before the first line have no tags (T.4, 4.1.2)
abbrev pub gap_rules : Bool → DecodeSettings → DecodeSettings
gap_rules true settings = settings
gap_rules false settings = front_rules settings

-- an EOL is missing in the gap that these bits begin (T.4, 4.1.2)
abbrev pub LacksEol : Held → Bits → Type 0
LacksEol held gap = misses_eol held.settings held.taken held.has_eols gap ≡ true

-- What is known of the gap is so of these bits: those from where the reading is up to the next bit were counted. Where the data
-- ends with zeros, the reading is before them, and a tag of one.
pub record KnowsGap (whole : Bits) (feed : Feeding) : Type 0 where
  pub gone : Bits
  pub are : drop (offset_of feed) whole ≡ gone ++ drop (feed.dropped + feed.place) whole
  pub place : feed.dropped + feed.place ≡ offset_of feed + length gone
  pub long : length gone ≡ feed.gap.passed
  pub counted : feed.gap.at_zeros ≡ false
      → counted_by (gap_rules feed.begun feed.ctx.held.settings) none_counted gone ≡ Some feed.gap.count
  pub zeros : feed.gap.at_zeros ≡ true
      → (feed.finished ≡ true) × (drop (offset_of feed) whole ≡ left_before feed.gap.count [])
      × (feed.gap.count.tag ≡ true → feed.ctx.held.settings.encoding ≡ Group3_2D)
  -- its bits are kept and looked at only where an EOL is missing
  pub missed : 0 < feed.gap.look.bits → (feed.begun ≡ true) × LacksEol feed.ctx.held (drop (offset_of feed) whole)

-- It is a reading of these bits, as above, where the first bits of the gap that is next may have been counted.
pub record IsFeedOf (whole : Bits) (tried : ℕ) (feed : Feeding) : Type 0 where
  pub fit : length whole + 64 < 2 ^ 64
  pub lie : LieIn whole feed.dropped feed.finished feed.kept
  pub stands : StandsIn feed.begun tried feed.rows feed.ctx (record { bits = whole; place = offset_of feed })
  pub known : KnowsGap whole feed

-- ---- What a call leaves

-- nothing was read: more data is needed, or there is no memory for the row
abbrev pub HasNone : Result Fed DecodeError → Type 0
HasNone (Ok fed) = fed ≡ Fed.NeedsMore
HasNone (Err error) = error ≡ OutOfMemory

-- what a call that reads no row leaves unchanged: the rows so far and what is known of the last one
pub record StaysThere (old new : RowsRead) : Type 0 where
  pub settings : new.settings ≡ old.settings
  pub bits : new.bits ≡ old.bits
  pub counts : old.ticks ≤ new.ticks
  pub taken : new.taken ≡ old.taken
  pub row : new.row ≡ old.row
  pub damage : new.damage ≡ old.damage
  pub cut : new.cut ≡ old.cut
  pub line_start : new.line_start ≡ old.line_start
  pub unended : new.end ≡ None
  pub line : old.at_line ≡ true → new.at_line ≡ true

-- What is next can be changed by data that follows: what is before the first line, the gap, or the line, which is short
-- (T.4, 4.1 and 4.2; T.6, 2.2 and 2.4.1.1).
abbrev pub IsOpenAt : Bool → Stand → Context → Bits → Type 0
IsOpenAt false stand ctx next = front_is_settled ctx.held.settings next ≡ false
IsOpenAt true AtLine ctx next = is_short (line_here ctx.held.settings ctx.held.reference next) ≡ true
IsOpenAt true AfterRow ctx next = gap_is_settled ctx.held.settings ctx.held.taken ctx.held.has_eols next ≡ false
IsOpenAt true AtEnd ctx next = ⊥
IsOpenAt true (AtFault error) ctx next = ⊥

-- Of a gap that begins these bits some were looked at before, and so many more now, each counted once but for sixteen. None are
-- at a line.
pub record LooksAhead (at_line : Bool) (looked : ℕ) (gap : Bits) (counted : ℕ) : Type 0 where
  pub line : at_line ≡ true → counted ≡ 0
  pub within : 0 < counted → counted + looked ≤ length gap + 16

-- how many bits are left with which the data ends, of which only the number is kept
abbrev pub zeros_left : Feeding → ℕ
zeros_left feed = if feed.gap.at_zeros then feed.gap.passed else 0

-- the line that is here
abbrev pub line_of_feed : Feeding → Line
line_of_feed feed = line_here feed.ctx.held.settings feed.ctx.held.reference (drop feed.place feed.kept)

-- what reading a short line on has counted, at most: two ticks a bit that was read of it, the changes of the reference row that
-- were passed, and two for the word that is missing
abbrev pub paid_by : Option KeptPart → ℕ → ℕ
paid_by None read = 0
paid_by (Some part) read = part.passed + 2 * read + 2

abbrev pub paid_for_line : Feeding → ℕ
paid_for_line feed = paid_by feed.part feed.line_read

-- the most of it, where the line is read to its end, or to that of its bits that are known
abbrev pub most_for_line : Feeding → ℕ
most_for_line feed = length (changes feed.ctx.held.reference) + 2 * length (drop feed.place feed.kept)

-- a line is found to be short for the first time, and no part of it is kept
pub record TriesFirst (old new : Feeding) : Type 0 where
  pub untried : old.tried_at ≢ new.dropped + new.place
  pub tried : new.tried_at ≡ new.dropped + new.place
  pub at_line : is_at_line new.rows.stand ≡ true

-- the most that is counted to find a line to be short, or to draw what memory is left for
abbrev pub most_to_find : Feeding → ℕ
most_to_find feed = 4 * length (drop feed.place feed.kept) + length (changes feed.ctx.held.reference)

-- What a call counts for a line that it leaves, or that was left before. Where a short line goes on, only the bits that are read
-- newly are counted, and the changes that are passed newly; where it is found to be short first, four ticks a bit more, and the
-- changes once. Where it is read, what went before counts no more than once for the whole line (T.4, 4.1 and 4.2; T.6, 2.2).
pub record LineWork (old new : Feeding) (answer : Result Fed DecodeError) (counted : ℕ) : Type 0 where
  pub goes_on : answer ≡ Ok Fed.NeedsMore → old.part ≢ None → counted + paid_for_line old ≤ paid_for_line new + 2
  pub begins : answer ≡ Ok Fed.NeedsMore → old.part ≡ None → counted ≤ paid_for_line new
      + (4 * length (drop new.place new.kept) + length (changes new.ctx.held.reference) + 2)
  pub read : (HasNone answer → ⊥) → counted + paid_for_line old ≤ most_for_line old + 4
  pub at_once : (HasNone answer → ⊥) → old.part ≡ None → counted ≡ 0
  -- the part that is kept goes on, and where none is kept nothing is counted
  pub some : answer ≡ Ok Fed.NeedsMore → old.part ≢ None → new.part ≢ None
  pub unread : answer ≡ Ok Fed.NeedsMore → old.part ≡ None → new.part ≡ None → (counted ≡ 0) ⊎ TriesFirst old new
  -- a line that was left before is read on once more, and then from its start
  pub failed : answer ≡ Err OutOfMemory
      → counted + paid_for_line old ≤ most_for_line old + most_to_find new + 6
  pub failed_at_once : answer ≡ Err OutOfMemory → old.part ≡ None → counted ≤ most_to_find new + 2

-- an EOL is among some bits, which begin at this offset, and ends no later than another (T.4, 4.1.2)
pub record PassesEol (gap : Bits) (from to : ℕ) : Type 0 where
  pub fill : Bits
  pub after : Bits
  pub place : gap ≡ fill ++ replicate 11 false ++ true ∷ after
  pub passed : from + length fill + 12 ≤ to

-- A row is read from a line that begins at this offset. It has no more changes than the line has bits, and but one more than
-- there are bits up to the end of an EOL, where it is repaired (T.4, 4.1.2).
pub record DrawsRow (old new : Feeding) : Type 0 where
  pub start : ℕ
  pub onward : old.dropped + old.place ≤ start
  pub past_eol : old.finished ≡ false → old.begun ≡ true → is_at_line old.rows.stand ≡ false → old.ctx.held.has_eols ≡ true
      → PassesEol (drop old.place old.kept) (old.dropped + old.place) start
  pub most : start + length (changes new.ctx.held.reference) ≤ new.dropped + length new.kept + 1
  pub drawn : (start + length (changes new.ctx.held.reference) ≤ new.dropped + new.place)
      ⊎ ((new.ctx.held.has_eols ≡ true) × ((more fill after : Bits)
      → drop new.place new.kept ++ more ≡ fill ++ replicate 11 false ++ true ∷ after
      → start + length (changes new.ctx.held.reference) ≤ new.dropped + new.place + length fill + 13))

-- How a call goes on in the data, and what it counts for that: where a gap is passed, its bits were looked at twice at most, and
-- no more than sixteen beyond it; the changes of a row are no more than the words of its line, and one; and the lists of
-- changes have no more room than before, or than a row needs.
pub record CallGoesOn (old new : Feeding) (answer : Result Fed DecodeError) (gap extra : ℕ) : Type 0 where
  pub counts : old.ctx.ticks + extra ≤ new.ctx.ticks
  pub stored : answer ≡ Ok Fed.Row → length (changes new.ctx.held.reference) + (old.ctx.ticks + extra) ≤ new.ctx.ticks + 1
  pub draws : answer ≡ Ok Fed.Row → DrawsRow old new
  pub onward : ended new.rows.stand ≡ None → old.dropped + old.place ≤ new.dropped + new.place
  pub near : old.begun ≡ true → old.finished ≡ false → ended new.rows.stand ≡ None
      → gap + old.looked + 2 * (old.dropped + old.place) ≤ 2 * (new.dropped + new.place) + new.looked + 16
  pub last : old.begun ≡ true → old.finished ≡ true → ended new.rows.stand ≡ None
      → gap + zeros_left old + 2 * (old.dropped + old.place) ≤ 2 * (new.dropped + new.place) + zeros_left new + 16
  -- a line that is read leaves what is known of zeros with which the data ends
  pub zeros : ended new.rows.stand ≡ None → (old.begun && is_at_line old.rows.stand) ≡ true → zeros_left new ≡ zeros_left old
  pub stays : HasNone answer → (old.begun && is_at_line old.rows.stand) ≡ true → new.place ≡ old.place
  -- what a line yields that was left before
  pub row_is : answer ≡ Ok Fed.Row → (old.begun && is_at_line old.rows.stand) ≡ true
      → row_of_line old.ctx.held.settings old.ctx.held.has_eols (drop old.place old.kept) (line_of_feed old)
      ≡ Ok (new.ctx.held.reference, drop new.place new.kept)
  -- an EOL is passed, where EOLs are sought and more data may come (T.4, 4.1.2)
  pub past_eol : old.finished ≡ false → old.begun ≡ true → is_at_line old.rows.stand ≡ false → old.ctx.held.has_eols ≡ true
      → ended new.rows.stand ≡ None → (answer ≡ Ok Fed.NeedsMore → is_at_line new.rows.stand ≡ true)
      → PassesEol (drop old.place old.kept) (old.dropped + old.place) (new.dropped + new.place)
  pub after : answer ≡ Ok Fed.Row → is_at_line new.rows.stand ≡ false
  pub tried : HasNone answer → (old.begun && is_at_line old.rows.stand) ≡ true
      → (new.tried_at ≡ old.tried_at) ⊎ (new.tried_at ≡ new.dropped + new.place)
  pub sought : answer ≡ Ok Fed.Row → (old.begun && is_at_line old.rows.stand) ≡ true
      → new.ctx.held.has_eols ≡ old.ctx.held.has_eols
  pub waits : answer ≡ Ok Fed.NeedsMore → is_at_line new.rows.stand ≡ false
      → (new.place ≡ old.place) × (new.ctx.held.has_eols ≡ old.ctx.held.has_eols)
  pub within : new.place ≤ length new.kept
  pub paid : paid_for_line new ≤ most_for_line new + 2
  pub unkept : (answer ≡ Ok Fed.NeedsMore → is_at_line new.rows.stand ≡ false) → new.part ≡ None
  pub unbegun : new.begun ≡ false
      → (old.begun ≡ false) × (answer ≡ Ok Fed.NeedsMore) × (is_at_line new.rows.stand ≡ false)
  pub space : new.ctx.space ≤ max old.ctx.space (2 * old.ctx.held.settings.columns + 66)

-- What a call that reads the next row leaves, of whatever data those fed are a beginning: the next row of its plain reading,
-- its end or its fault; or nothing is read, since what is next can still be changed, or since a change of a row that paints a
-- black pixel can't be stored. What was tried and left counted at most so much.
pub record FeedsPlainly (whole : Bits) (tried : ℕ) (old new : Feeding) (answer : Result Fed DecodeError) : Type 0 where
  pub row : answer ≡ Ok Fed.Row → ReadsNext (fed_over whole old) (fed_over whole new) (Ok true)
  pub end : answer ≡ Ok Fed.End → ReadsNext (fed_over whole old) (fed_over whole new) (Ok false)
  pub fault : IfErr answer (λ e. e ≢ OutOfMemory → ReadsNext (fed_over whole old) (fed_over whole new) (Err e))
  pub none : HasNone answer → StaysThere (fed_over whole old) (fed_over whole new)
  pub unsettled : answer ≡ Ok Fed.NeedsMore
      → (new.finished ≡ false) × IsOpenAt new.begun new.rows.stand new.ctx (drop new.place new.kept)
  pub memory : answer ≡ Err OutOfMemory
      → HasBlack (front_of (line_here new.ctx.held.settings new.ctx.held.reference (drop new.place new.kept)))
  pub paints : answer ≡ Err OutOfMemory → PaintsBlack (lines_of new.ctx.held.settings whole) new.ctx.held.taken
  pub extra : ℕ
  pub stands : IsPlainFeedOf whole (tried + extra) new
  -- what was counted for bits of the gap that weren't looked at before, and for the line; where the gap waits, the bits that were
  -- looked at are kept
  pub gap : ℕ
  pub line_extra : ℕ
  pub extra_is : extra ≡ gap + line_extra
  pub looks : LooksAhead (old.begun && is_at_line old.rows.stand) old.looked (drop old.place old.kept) gap
  pub looked : answer ≡ Ok Fed.NeedsMore → is_at_line new.rows.stand ≡ false → gap + old.looked ≤ new.looked + 16
  pub line_work : LineWork old new answer line_extra
  pub goes_on : CallGoesOn old new answer gap extra

-- So it is of a feed with all bits of that data that were fed.
pub record FeedsNext (whole : Bits) (tried : ℕ) (old new : Feeding) (answer : Result Fed DecodeError) : Type 0 where
  pub plainly : FeedsPlainly whole tried (completed whole old) (completed whole new) answer
  pub stands : IsFeedOf whole (tried + plainly.extra) new

-- what no call changes that reads a row: the order and the bits kept, how many came before them, for how many bytes there is
-- room, and whether the data is finished
pub record KeepsBits (old new : Feeding) : Type 0 where
  pub order : new.order ≡ old.order
  pub finished : new.finished ≡ old.finished
  pub kept : new.kept ≡ old.kept
  pub dropped : new.dropped ≡ old.dropped
  pub room : new.room ≡ old.room

-- What a call that reads the next row leaves, whatever the data is: the settings; and of a row that it is counted, has as many
-- pixels as there are columns, and a gap is next, of which nothing is known unless the data ends with zeros. Where a gap waits
-- whose bits are counted, few are kept from the next one on.
pub record CountsRow (old new : Feeding) (answer : Result Fed DecodeError) : Type 0 where
  pub settings : new.ctx.held.settings ≡ old.ctx.held.settings
  pub taken : answer ≡ Ok Fed.Row → (new.ctx.held.taken ≡ old.ctx.held.taken + 1) × (new.ctx.held.taken < 2 ^ 64)
  pub width : answer ≡ Ok Fed.Row → length new.ctx.held.reference ≡ old.ctx.held.settings.columns
  pub stands : answer ≡ Ok Fed.Row → (new.begun ≡ true) × (new.rows.stand ≡ AfterRow) × (new.part ≡ None)
  pub unlooked : answer ≡ Ok Fed.Row → new.gap.at_zeros ≡ false → new.gap ≡ no_gap
  pub few : answer ≡ Ok Fed.NeedsMore → is_at_line new.rows.stand ≡ false → new.gap.look.bits ≡ 0
      → length new.kept ≤ new.place + 16

-- a short line is read on: nothing changes but the count of work, and what is kept of the line
pub record Scans (old new : Feeding) : Type 0 where
  pub frame : new ≡ record old {
    ctx = record old.ctx { ticks = new.ctx.ticks };
    part = new.part;
    line_read = new.line_read;
    tried_at = new.tried_at;
  }
  pub counts : old.ctx.ticks ≤ new.ctx.ticks

-- what a call answers once the reading has ended
abbrev pub fed_end : Result (Unit {0}) DecodeError → Result Fed DecodeError
fed_end (Ok x) = Ok Fed.End
fed_end (Err error) = Err error

-- ---- The steps of a call: not part of the trusted specification

-- the answer of a step that passes a gap, if it was passed
abbrev pub came : Result (Option Bool) DecodeError → Result Bool DecodeError
came (Ok None) = Ok true
came (Ok (Some line)) = Ok line
came (Err error) = Err error

-- Of a gap that begins these bits some were looked at before, and so many more now, each counted once: as far as is needed to
-- know that nothing that follows changes it, or all there are. None are at a line, nor in data that is finished.
pub record LooksUpTo (is_last at_line : Bool) (looked : ℕ) (gap : Bits) (counted : ℕ) : Type 0 where
  pub line : at_line ≡ true → counted ≡ 0
  pub finished : is_last ≡ true → counted ≡ 0
  pub within : 0 < counted → counted + looked ≤ length gap

-- the gap before the next line is passed, if there is one here, and no data that follows can change it
pub record ComesOn (is_last : Bool) (gap_start : ℕ) (rows kept : RowState) (look kept_look : GapLook) (old new : Context)
    (before after : BitsAt) (answer : Result (Option Bool) DecodeError) : Type 0 where
  pub extra : ℕ
  pub looks : LooksUpTo is_last (is_at_line rows.stand) look.bits (here before) extra
  pub looked : answer ≡ Ok None → (extra + look.bits ≡ kept_look.bits)
      × IsSeen (rules_for true old.held) kept_look (here before) × (kept_look.bits ≡ length (here before))
  pub none_looked : answer ≢ Ok None → kept_look ≡ nothing_seen
  -- of a gap that is passed no more than twelve bits beyond its end were looked at
  pub near : answer ≢ Ok None → is_last ≡ false → extra + look.bits + before.place ≤ after.place + 12
  pub counts : old.ticks + extra ≤ new.ticks
  pub onward : answer ≡ Ok (Some true) → before.place ≤ after.place
  pub at_line : is_at_line rows.stand ≡ true → (after ≡ before) × (new.held ≡ old.held)
  pub past_eol : is_last ≡ false → is_at_line rows.stand ≡ false → old.held.has_eols ≡ true → answer ≡ Ok (Some true)
      → PassesEol (here before) before.place after.place
  pub same_bits : after.bits ≡ before.bits
  pub within : after.place ≤ length after.bits
  pub space : new.space ≡ old.space
  pub frame : new.held ≡ record old.held { has_eols = new.held.has_eols; repairs = new.held.repairs }
  pub waits : answer ≡ Ok None → (new.held ≡ old.held) × (new.ticks ≡ old.ticks + extra) × (kept ≡ rows) × (after ≡ before)
      × (is_last ≡ false) × (is_at_line rows.stand ≡ false)
      × (gap_is_settled old.held.settings old.held.taken old.held.has_eols (here before) ≡ false)
  pub comes : (from : ℕ) (whole : Bits) (dropped : ℕ) → answer ≢ Ok None → LieIn whole dropped is_last before.bits
      → gap_start ≡ dropped + before.place → IsStanding from rows old (record { bits = whole; place = gap_start })
      → ReachesNextLine (seen rows old (record { bits = whole; place = gap_start }))
      (seen kept new (record { bits = whole; place = dropped + after.place })) (came answer)
  pub stands : (from : ℕ) (whole : Bits) (dropped : ℕ) → answer ≢ Ok None → LieIn whole dropped is_last before.bits
      → gap_start ≡ dropped + before.place → IsStanding from rows old (record { bits = whole; place = gap_start })
      → IsStanding (from + extra) kept new (record { bits = whole; place = dropped + after.place })
  pub line : answer ≡ Ok (Some true) → is_at_line kept.stand ≡ true
  pub only_code : IfErr answer (λ e. e ≡ InvalidCode)

-- the line here is read, unless data that follows can change it
pub record TriesLine (is_last : Bool) (line_start : ℕ) (rows kept : RowState) (old new : Context) (before after : BitsAt)
    (answer : Result Bool DecodeError) : Type 0 where
  pub tried : TriesRow is_last old new answer before after
  pub same_bits : after.bits ≡ before.bits
  pub within : after.place ≤ length after.bits
  pub left : IsUnread answer → (kept ≡ rows) × (after ≡ before)
  pub stand : answer ≡ Ok true → kept.stand ≡ AfterRow
  pub reads : (from : ℕ) (whole : Bits) (dropped : ℕ) → (IsUnread answer → ⊥) → LieIn whole dropped is_last before.bits
      → line_start ≡ dropped + before.place → IsStandingAtLine from rows old (record { bits = whole; place = line_start })
      → ReadsNext (seen rows old (record { bits = whole; place = line_start }))
      (seen kept new (record { bits = whole; place = dropped + after.place })) answer
  pub stands : (from : ℕ) (whole : Bits) (dropped : ℕ) → (IsUnread answer → ⊥) → LieIn whole dropped is_last before.bits
      → line_start ≡ dropped + before.place → IsStandingAtLine from rows old (record { bits = whole; place = line_start })
      → IsStanding from kept new (record { bits = whole; place = dropped + after.place })

abbrev pub of_settled_gap : Result Bool DecodeError → Result (Option Bool) DecodeError
of_settled_gap (Ok line) = Ok (Some line)
of_settled_gap (Err error) = Err error

-- a line was left
abbrev pub is_unread : Result Bool DecodeError → Bool
is_unread (Ok read) = not read
is_unread (Err error) = no_memory error

-- what came of a line that wasn't left
abbrev pub line_answer : Result Bool DecodeError → Result (Unit {0}) DecodeError
line_answer (Ok read) = Ok tt
line_answer (Err error) = Err error

-- how a reading goes on after what is before its first line
abbrev pub line_first : Stand → Result Bool DecodeError
line_first AtLine = Ok true
line_first AfterRow = Ok true
line_first AtEnd = Ok false
line_first (AtFault error) = Err error

-- a line is reached after a gap
pub record ReachesLine (old new : Feeding) (extra : ℕ) : Type 0 where
  pub counts : old.ctx.ticks + extra ≤ new.ctx.ticks
  pub onward : old.dropped + old.place ≤ new.dropped + new.place
  pub near : old.begun ≡ true → old.finished ≡ false
      → extra + old.looked + 2 * (old.dropped + old.place) ≤ 2 * (new.dropped + new.place) + 16
  pub last : old.begun ≡ true → old.finished ≡ true
      → extra + zeros_left old + 2 * (old.dropped + old.place) ≤ 2 * (new.dropped + new.place) + zeros_left new + 16
  pub past_eol : old.finished ≡ false → old.begun ≡ true → is_at_line old.rows.stand ≡ false → old.ctx.held.has_eols ≡ true
      → PassesEol (drop old.place old.kept) (old.dropped + old.place) (new.dropped + new.place)
  pub at_line : (old.begun && is_at_line old.rows.stand) ≡ true
      → (new.place ≡ old.place) × (new.ctx.held ≡ old.ctx.held) × (new.kept ≡ old.kept)
  pub zeros : (old.begun && is_at_line old.rows.stand) ≡ true → zeros_left new ≡ zeros_left old
  pub tried : new.tried_at ≡ old.tried_at
  pub space : new.ctx.space ≡ old.ctx.space
  pub settings : new.ctx.held.settings ≡ old.ctx.held.settings

-- what is before the first line of these bits is passed, if no data that follows can change it
pub record Begins (whole : Bits) (tried : ℕ) (old new : Feeding) (answer : Bool) : Type 0 where
  pub extra : ℕ
  pub looks : LooksAhead false old.looked (drop old.place old.kept) extra
  pub looked : answer ≡ false → extra + old.looked ≤ new.looked + 16
  pub keeps : KeepsBits old new
  pub begun : new.begun ≡ answer
  pub within : new.place ≤ length new.kept
  pub space : new.ctx.space ≡ old.ctx.space
  pub settings : new.ctx.held.settings ≡ old.ctx.held.settings
  pub taken : new.ctx.held.taken ≡ old.ctx.held.taken
  pub waits : answer ≡ false → (new.ctx.held ≡ old.ctx.held) × (new.ctx.ticks ≡ old.ctx.ticks + extra) × (new.rows ≡ old.rows)
      × (new.place ≡ old.place) × (old.finished ≡ false)
      × (front_is_settled old.ctx.held.settings old.kept ≡ false)
  pub reaches : answer ≡ true → ReachesLine old new extra
  pub unfailed : answer ≡ true → (error : DecodeError) → ended new.rows.stand ≢ Some (Err error)
  pub passes : answer ≡ true → ReachesNextLine (fed_over whole old) (fed_over whole new) (line_first new.rows.stand)
  pub stands : IsPlainFeedOf whole (tried + extra) new

-- what is before the first line of these bits is passed by a feed that may have counted bits of it
pub record BeginsCounted (whole : Bits) (tried : ℕ) (old new : Feeding) (answer : Bool) : Type 0 where
  pub begins : Begins whole tried (completed whole old) (completed whole new) answer
  pub stands : IsFeedOf whole (tried + begins.extra) new

-- what that leaves unchanged, whatever the data is
pub record KeepsFront (old new : Feeding) (answer : Bool) : Type 0 where
  pub keeps : KeepsBits old new
  pub begun : new.begun ≡ answer
  pub settings : new.ctx.held.settings ≡ old.ctx.held.settings
  pub taken : new.ctx.held.taken ≡ old.ctx.held.taken
  pub unkept : (old.part ≡ None) × (new.part ≡ None)
  pub few : answer ≡ false → length new.kept ≤ new.place + 16

-- so is the gap before the next line
pub record ComesInFeed (whole : Bits) (tried : ℕ) (old new : Feeding) (answer : Result (Option Bool) DecodeError) : Type 0 where
  pub extra : ℕ
  pub looks : LooksAhead (is_at_line old.rows.stand) old.looked (drop old.place old.kept) extra
  pub looked : answer ≡ Ok None → extra + old.looked ≤ new.looked + 16
  pub keeps : KeepsBits old new
  pub begun : new.begun ≡ true
  pub within : new.place ≤ length new.kept
  pub space : new.ctx.space ≡ old.ctx.space
  pub waits : answer ≡ Ok None → (new.ctx.held ≡ old.ctx.held) × (new.ctx.ticks ≡ old.ctx.ticks + extra) × (new.rows ≡ old.rows)
      × (new.place ≡ old.place) × (old.finished ≡ false) × (is_at_line old.rows.stand ≡ false)
      × (gap_is_settled old.ctx.held.settings old.ctx.held.taken old.ctx.held.has_eols (drop old.place old.kept) ≡ false)
  pub comes : answer ≢ Ok None → ReachesNextLine (fed_over whole old) (fed_over whole new) (came answer)
  pub stands : IsPlainFeedOf whole (tried + extra) new
  pub line : answer ≡ Ok (Some true) → is_at_line new.rows.stand ≡ true
  pub counts : old.ctx.ticks + extra ≤ new.ctx.ticks
  pub reaches : answer ≡ Ok (Some true) → ReachesLine old new extra
  pub only_code : IfErr answer (λ e. e ≡ InvalidCode)

-- what is counted for a line that is left, or that was left before
pub record LineIsPaid (old new : Feeding) (answer : Result Bool DecodeError) (counted : ℕ) : Type 0 where
  pub goes_on : answer ≡ Ok false → old.part ≢ None → counted + paid_for_line old ≤ paid_for_line new + 2
  pub begins : answer ≡ Ok false → old.part ≡ None → counted ≤ paid_for_line new
      + (4 * length (drop old.place old.kept) + length (changes old.ctx.held.reference) + 2)
  pub read : (IsUnread answer → ⊥) → counted + paid_for_line old ≤ most_for_line old + 4
  pub at_once : (IsUnread answer → ⊥) → old.part ≡ None → counted ≡ 0
  pub some : answer ≡ Ok false → old.part ≢ None → new.part ≢ None
  pub failed : answer ≡ Err OutOfMemory → counted + paid_for_line old ≤ most_for_line old + most_to_find old + 6
  pub failed_at_once : answer ≡ Err OutOfMemory → old.part ≡ None → counted ≤ most_to_find old + 2

-- and the line here is read
pub record ReadsInFeed (old new : Feeding) (answer : Result Bool DecodeError) : Type 0 where
  pub extra : ℕ
  pub keeps : KeepsBits old new
  pub begun : new.begun ≡ true
  pub counts : old.ctx.ticks ≤ new.ctx.ticks
  pub left : IsUnread answer → (new.rows ≡ old.rows) × (new.place ≡ old.place) × (new.ctx.held ≡ redrawn old.ctx.held [] White)
  pub unsettled : answer ≡ Ok false → (old.finished ≡ false)
      × (is_short (line_here new.ctx.held.settings new.ctx.held.reference (drop old.place old.kept)) ≡ true)
  pub memory : answer ≡ Err OutOfMemory
      → HasBlack (front_of (line_here new.ctx.held.settings new.ctx.held.reference (drop old.place old.kept)))
  pub paints : (whole : Bits) (tried : ℕ) → answer ≡ Err OutOfMemory → IsPlainFeedOf whole tried old
      → PaintsBlack (lines_of new.ctx.held.settings whole) new.ctx.held.taken
  pub reads : (whole : Bits) (tried : ℕ) → (IsUnread answer → ⊥) → IsPlainFeedOf whole tried old
      → ReadsNext (fed_over whole old) (fed_over whole new) answer
  pub stands : (whole : Bits) (tried : ℕ) → IsPlainFeedOf whole tried old → IsPlainFeedOf whole (tried + extra) new
  pub most : new.ctx.space ≤ max old.ctx.space (2 * old.ctx.held.settings.columns + 66)
  pub counted : old.ctx.ticks + extra ≤ new.ctx.ticks
  pub stored : answer ≡ Ok true → length (changes new.ctx.held.reference) + (old.ctx.ticks + extra) ≤ new.ctx.ticks + 1
  pub looked : new.looked ≡ old.looked
  pub gap : new.gap ≡ old.gap
  pub done : answer ≢ Ok false → new.part ≡ None
  pub tried : (new.tried_at ≡ old.tried_at) ⊎ (new.tried_at ≡ new.dropped + new.place)
  pub after : answer ≡ Ok true → new.rows.stand ≡ AfterRow
  pub within : new.place ≤ length new.kept
  pub paid : paid_for_line new ≤ most_for_line new + 2
  pub row_is : (whole : Bits) (tried : ℕ) → answer ≡ Ok true → IsPlainFeedOf whole tried old
      → (row_of_line old.ctx.held.settings old.ctx.held.has_eols (drop old.place old.kept) (line_of_feed old)
      ≡ Ok (new.ctx.held.reference, drop new.place new.kept)) × (old.place ≤ new.place)
      × (new.ctx.held.has_eols ≡ old.ctx.held.has_eols)
  pub work : LineIsPaid old new answer extra
  pub width : answer ≡ Ok true → length new.ctx.held.reference ≡ old.ctx.held.settings.columns
  pub settings : new.ctx.held.settings ≡ old.ctx.held.settings
  pub taken : answer ≡ Ok true → new.ctx.held.taken ≡ old.ctx.held.taken + 1

-- from a part with so many changes passed and bits read on
pub record ScansLine (passed read : ℕ) (old new : Feeding) (short : Bool) : Type 0 where
  pub scans : Scans old new
  pub tried : new.tried_at ≡ old.tried_at
  pub said : is_short (line_of_feed old) ≡ short
  pub none : short ≡ false → new.part ≡ None
  pub some : short ≡ true → new.part ≢ None
  pub kept : short ≡ true → (new.place ≤ length new.kept) × (paid_for_line new ≤ most_for_line new + 2)
  pub work : short ≡ true → new.ctx.ticks + (passed + 2 * read) ≤ old.ctx.ticks + paid_for_line new
  pub most : new.ctx.ticks + (passed + 2 * read) ≤ old.ctx.ticks + most_for_line old + 2

-- whether a line still is short
abbrev pub says_short : LineState → Bool
says_short LineState.Short = true
says_short LineState.Settled = false

-- from the part that is kept, if one is
pub record StaysShort (old new : Feeding) (short : Bool) : Type 0 where
  pub scans : Scans old new
  pub tried : new.tried_at ≡ old.tried_at
  pub said : short ≡ true
      → (is_short (line_of_feed old) ≡ true) × (old.finished ≡ false) × (redrawn old.ctx.held [] White ≡ old.ctx.held)
  pub settled : short ≡ false → old.part ≢ None → (old.finished ≡ true) ⊎ (is_short (line_of_feed old) ≡ false)
  pub none : short ≡ false → new.part ≡ None
  pub some : short ≡ true → new.part ≢ None
  pub kept : short ≡ true → (new.place ≤ length new.kept) × (paid_for_line new ≤ most_for_line new + 2)
  pub unkept : old.part ≡ None → (short ≡ false) × (new.ctx.ticks ≡ old.ctx.ticks)
  pub work : short ≡ true → new.ctx.ticks + paid_for_line old ≤ old.ctx.ticks + paid_for_line new + 2
  pub most : new.ctx.ticks + paid_for_line old ≤ old.ctx.ticks + most_for_line old + 4

-- from the start of the line, which is short
pub record KeepsPart (old new : Feeding) : Type 0 where
  pub scans : Scans old new
  pub work : is_short (line_of_feed old) ≡ true → new.ctx.ticks ≤ old.ctx.ticks + paid_for_line new
  pub paid : new.part ≢ None → paid_for_line new ≤ most_for_line new + 2
  pub tried : new.tried_at ≡ old.dropped + old.place
  -- where none is, the line is tried for the first time, or the tag is missing
  pub no_tag : is_short (line_of_feed old) ≡ true → new.part ≡ None → old.tried_at ≡ old.dropped + old.place
      → (old.ctx.held.settings.encoding ≡ Group3_2D) × (drop old.place old.kept ≡ []) × (new.ctx.ticks ≡ old.ctx.ticks)

-- what a call answers where a line was tried
abbrev pub fed_row : Result Bool DecodeError → Result Fed DecodeError
fed_row (Ok true) = Ok Fed.Row
fed_row (Ok false) = Ok Fed.NeedsMore
fed_row (Err error) = Err error

-- what it answers where no line was reached
abbrev pub fed_without_row : Result (Option Bool) DecodeError → Result Fed DecodeError
fed_without_row (Ok None) = Ok Fed.NeedsMore
fed_without_row (Ok (Some line)) = Ok Fed.End
fed_without_row (Err error) = Err error

-- ---- Rows that are passed to a sink

-- What a call leaves that reads the next row: of whatever data those fed are a beginning, the next row of the plain reading, its
-- end or its fault, or nothing is read; and after the end nothing changes. What is kept of the data stays.
pub record FeedsRow (old new : Feeding) (answer : Result Fed DecodeError) : Type 0 where
  pub reads : (whole : Bits) (tried : ℕ) → ended old.rows.stand ≡ None → IsFeedOf whole tried old
      → FeedsNext whole tried old new answer
  pub keeps : KeepsBits old new
  pub over : (end : Result (Unit {0}) DecodeError) → ended old.rows.stand ≡ Some end → (new ≡ old) × (answer ≡ fed_end end)
  pub counts : CountsRow old new answer

-- what calls leave, one after another, each of which reads a row
abbrev pub FeedsRows : Feeding → List Feeding → Type 0
FeedsRows old [] = Unit {0}
FeedsRows old (new ∷ after) = FeedsRow old new (Ok Fed.Row) × FeedsRows new after

-- and what the last of them leaves
abbrev pub last_left : Feeding → List Feeding → Feeding
last_left old [] = old
last_left old (new ∷ after) = last_left new after

-- the rows that they read
abbrev pub rows_left : List Feeding → List Row
rows_left [] = []
rows_left (new ∷ after) = new.ctx.held.reference ∷ rows_left after

-- Rows were read one after another, and each was passed to a sink of this step, which takes it from one meaning to another.
pub record PassesRows {M : Type 0} (step : M → List ℕ → M) (before after : M) (old new : Feeding) : Type 0 where
  pub rows : List Feeding
  pub reads : FeedsRows old rows
  pub last : new ≡ last_left old rows
  pub meaning : after ≡ meaning_after step before (rows_left rows)

-- a call that reads the next row has this answer, which is no row, and the sink has refused none
pub record ComesToNoRow {M : Type 0} (before after : SinkState M) (old new : Feeding) (answer : Result Fed DecodeError)
    : Type 0 where
  pub call : FeedsRow old new answer
  pub no_row : answer ≢ Ok Fed.Row
  pub flag : after.refused ≡ before.refused

-- it reads a row that the sink refuses
pub record RefusesRow {M : Type 0} (after : SinkState M) (old new : Feeding) (answer : Result Fed DecodeError) : Type 0 where
  pub call : FeedsRow old new (Ok Fed.Row)
  pub answer_is : answer ≡ Err Refused
  pub flag : after.refused ≡ true
  pub row : after.refuses (changes new.ctx.held.reference)

-- What a call leaves that passes rows to a sink: each was read as by a call that reads the next row, and the sink means them in
-- order; then such a call comes to no row, or the sink refuses its row, and means what it meant before.
pub record PushesRows {M : Type 0} (step : M → List ℕ → M) (before after : SinkState M) (old new : Feeding)
    (answer : Result Fed DecodeError) : Type 0 where
  pub mid : Feeding
  pub passes : PassesRows step before.meaning after.meaning old mid
  pub ends : ComesToNoRow before after mid new answer ⊎ RefusesRow after mid new answer
  pub keeps : KeepsBits old new
  pub settings : new.ctx.held.settings ≡ old.ctx.held.settings

-- ---- More data

-- the bits of the bytes that were fed and aren't consumed: a byte of which a bit was read is
abbrev pub unused : Feeding → Bits
unused feed = drop (8 * ((feed.place + 7) / 8)) feed.kept

-- Their bytes are kept: no bits of the gap that is next were counted, or they are those with which the data ends.
abbrev pub keeps_unused : Feeding → Bool
keeps_unused feed = feed.gap.at_zeros || (feed.gap.passed == 0)

-- how many they are, also of those of a gap that were counted
abbrev pub unused_size : Feeding → ℕ
unused_size feed = fed_bits feed - 8 * ((offset_of feed + 7) / 8)

-- These bits are held after those that were, and the reading is at the same offset. Before it fewer than eight bits are held.
-- There is room for no more bits than before, or than twice those held.
pub record HoldsMore (next : Bits) (old new : Feeding) : Type 0 where
  pub unread : drop new.place new.kept ≡ drop old.place old.kept ++ next
  pub left : unused new ≡ unused old ++ next
  pub fed : fed_bits new ≡ fed_bits old + length next
  pub place : new.dropped + new.place ≡ old.dropped + old.place
  pub few_read : new.place < 8
  pub begun : new.begun ≡ old.begun
  pub looked : new.looked ≡ old.looked
  pub gap : new.gap ≡ old.gap
  pub part : new.part ≡ old.part
  pub line_read : new.line_read ≡ old.line_read
  pub tried_at : new.tried_at ≡ old.tried_at
  pub room : 8 * new.room ≤ max (8 * old.room) (2 * length new.kept)
  pub within : old.place ≤ length old.kept
  pub reading : (new.ctx ≡ old.ctx) × (new.rows ≡ old.rows) × (new.finished ≡ old.finished)
  pub order : new.order ≡ old.order

-- these bits are those of the whole data that come next, and whole bytes follow them
pub record ComeNext (whole : Bits) (feed : Feeding) (next : Bits) : Type 0 where
  pub rest : Bits
  pub bits : drop (feed.dropped + length feed.kept) whole ≡ next ++ rest
  pub bytes : AreWholeBytes rest

-- the whole bytes before the next bit are dropped
pub record DropsRead (old new : Feeding) : Type 0 where
  pub bytes : ℕ
  pub read : 8 * bytes ≤ old.place
  pub kept : new.kept ≡ drop (8 * bytes) old.kept
  pub dropped : new.dropped ≡ old.dropped + 8 * bytes
  pub place : new.place + 8 * bytes ≡ old.place
  pub few_read : new.place < 8
  pub looked : new.looked ≡ old.looked
  pub gap : new.gap ≡ old.gap
  pub within : old.place ≤ length old.kept
  pub ctx : new.ctx ≡ old.ctx
  pub rows : new.rows ≡ old.rows
  pub order : new.order ≡ old.order
  pub begun : new.begun ≡ old.begun
  pub finished : new.finished ≡ old.finished
  pub part : new.part ≡ old.part
  pub line_read : new.line_read ≡ old.line_read
  pub tried_at : new.tried_at ≡ old.tried_at
  pub room : new.room ≡ old.room
