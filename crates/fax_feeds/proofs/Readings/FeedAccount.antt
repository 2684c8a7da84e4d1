-- The account of what all calls of a feed count.
use Rattle.std.specs.Prelude.{◌≡◌, ◌≢◌, ◌≤◌, ◌+◌, ◌*◌, ℕ, true, false, ◌∷◌, ◌++◌, ◌⊎◌, length, drop, replicate}
use Rattle.std.specs.Prelude.{Option, Some, None}
use Rattle.fax_feeds.specs.declared.line_parts.KeptPart.{KeptPart}
use Rattle.fax_bits.specs.Bits.{Bits}
use Rattle.fax_reading.specs.Continuations.{is_short}
use Rattle.fax_reading.specs.PlainReading.{line_here}
use Rattle.fax_feeds.specs.RowFeeds.{Feeding, fed_bits, most_for_line, paid_for_line, zeros_left}
use Rattle.fax_feeds.specs.FeedsPaid.{changes_of}
use Rattle.fax_rows.specs.RowsRead.{ended, is_at_line}

-- the offset of the next bit
abbrev pub offset : Feeding → ℕ
offset feed = feed.dropped + feed.place

-- the line here was short where these bits of it were known, up to this offset
pub record WasShort (known : ℕ) (feed : Feeding) : Type 0 where
  pub begun : feed.begun ≡ true
  pub at_line : is_at_line feed.rows.stand ≡ true
  pub seen : Bits
  pub more : Bits
  pub are : drop feed.place feed.kept ≡ seen ++ more
  pub short : is_short (line_here feed.ctx.held.settings feed.ctx.held.reference seen) ≡ true
  pub known_is : known ≡ offset feed + length seen

-- a damaged line was repaired, and no EOL ends before this offset (T.4, 4.1.2)
pub record SeeksEol (known : ℕ) (feed : Feeding) : Type 0 where
  pub begun : feed.begun ≡ true
  pub after : is_at_line feed.rows.stand ≡ false
  pub sought : feed.ctx.held.has_eols ≡ true
  pub none : (more fill after : Bits) → drop feed.place feed.kept ++ more ≡ fill ++ replicate 11 false ++ true ∷ after
      → known ≤ offset feed + length fill + 12

-- Where the lines that were short were known up to this offset: the next one begins no sooner.
abbrev pub IsAfter : ℕ → Feeding → Type 0
IsAfter known feed = ended feed.rows.stand ≡ None → feed.finished ≡ false → (known ≤ offset feed) ⊎ SeeksEol known feed

-- the same, unless the line here is one of them, of which a part is kept
abbrev pub IsPassed : Option KeptPart → ℕ → Feeding → Type 0
IsPassed None known feed = IsAfter known feed
IsPassed (Some part) known feed = WasShort known feed

-- the line here is the last that was tried
pub record WasTried (known : ℕ) (feed : Feeding) : Type 0 where
  pub tried : feed.tried_at ≡ offset feed
  pub short : WasShort known feed

-- the lines that were tried are after, and the changes are left that the next one passes
pub record IsUntried (known firsts most : ℕ) (feed : Feeding) : Type 0 where
  pub after : IsAfter known feed
  pub left : ended feed.rows.stand ≡ None → feed.finished ≡ false → firsts + changes_of feed ≤ most

-- The changes of the rows, less one for each row, are no more than the bits up to the next line.
pub record RowsPaid (drawn : ℕ) (feed : Feeding) : Type 0 where
  pub most : drawn ≤ fed_bits feed
  pub after : IsAfter drawn feed

-- What so many calls counted for gaps: the bits of gaps twice, those before the first line once more, twice those known where
-- the data was finished, and sixteen bits a call.
pub record GapsPaid (calls gaps : ℕ) (feed : Feeding) : Type 0 where
  pub first : ℕ
  pub first_most : first ≤ fed_bits feed
  pub last : ℕ
  pub last_most : last ≤ 2 * fed_bits feed
  pub none_last : feed.finished ≡ false → last ≡ 0
  pub most : gaps ≤ first + last + 2 * fed_bits feed + 16 * calls
  pub here : ended feed.rows.stand ≡ None → feed.finished ≡ false
      → gaps ≤ first + 2 * offset feed + feed.looked + 16 * calls
  pub there : ended feed.rows.stand ≡ None → feed.finished ≡ true → feed.begun ≡ true
      → gaps ≤ first + last + 2 * offset feed + zeros_left feed + 16 * calls
  pub unbegun : feed.begun ≡ false → (gaps ≤ feed.looked + 16 * calls) × (first ≡ 0) × (gaps ≤ fed_bits feed + 16 * calls)

-- What they counted for lines that were left, of which so much in calls that failed for memory: the bits that were known when
-- lines were short, those that were known when such lines were read, the changes of the rows, and a few ticks a call. Before a
-- line twice the changes of the row before are left for it, and where a part of one is kept, what reading it needs.
pub record LinesPaid (calls lost drawn lines : ℕ) (feed : Feeding) : Type 0 where
  pub known : ℕ
  pub read : ℕ
  pub seen : ℕ
  pub known_most : known ≤ fed_bits feed
  pub read_most : read ≤ fed_bits feed
  pub read_before : feed.part ≢ None → read ≤ known
  pub within : feed.place ≤ length feed.kept
  pub part_most : paid_for_line feed ≤ most_for_line feed + 2
  pub seen_is : feed.part ≢ None → known ≡ offset feed + seen
  pub most : lines ≤ paid_for_line feed + 6 * known + 2 * read + 2 * drawn + 8 * calls + lost
  pub next : feed.part ≡ None → ended feed.rows.stand ≡ None → feed.finished ≡ false
      → lines + 2 * changes_of feed ≤ 6 * known + 2 * read + 2 * drawn + 8 * calls + lost
  pub here : feed.part ≢ None → lines + changes_of feed + 2 * seen
      ≤ paid_for_line feed + 6 * known + 2 * read + 2 * drawn + 8 * calls + lost
  pub passed : IsPassed feed.part known feed

-- What they counted for first tries of lines: four ticks for each bit that was known when a line was tried first, the changes of
-- the rows, and two ticks a call.
pub record FirstsPaid (calls drawn firsts : ℕ) (feed : Feeding) : Type 0 where
  pub known : ℕ
  pub known_most : known ≤ fed_bits feed
  pub most : firsts ≤ 4 * known + drawn + 2 * calls
  pub here : WasTried known feed ⊎ IsUntried known firsts (4 * known + drawn + 2 * calls) feed

-- What so many calls counted for what was tried and left, of which so much in calls that failed for memory.
pub record FeedIsPaid (calls lost tried : ℕ) (feed : Feeding) : Type 0 where
  pub gaps : ℕ
  pub lines : ℕ
  pub firsts : ℕ
  pub drawn : ℕ
  pub sum : tried ≤ gaps + lines + firsts
  pub rows_paid : RowsPaid drawn feed
  pub gaps_paid : GapsPaid calls gaps feed
  pub lines_paid : LinesPaid calls lost drawn lines feed
  pub firsts_paid : FirstsPaid calls drawn firsts feed

-- ---- More data

-- So many bits more are known of a feed, and the reading is at the same offset.
pub record KnowsMore (next : Bits) (old new : Feeding) : Type 0 where
  pub unread : drop new.place new.kept ≡ drop old.place old.kept ++ next
  pub fed : fed_bits new ≡ fed_bits old + length next
  pub place : new.dropped + new.place ≡ old.dropped + old.place
  pub begun : new.begun ≡ old.begun
  pub looked : new.looked ≡ old.looked
  pub gap : new.gap ≡ old.gap
  pub part : new.part ≡ old.part
  pub line_read : new.line_read ≡ old.line_read
  pub tried_at : new.tried_at ≡ old.tried_at
  pub reading : (new.ctx ≡ old.ctx) × (new.rows ≡ old.rows) × (new.finished ≡ old.finished)
