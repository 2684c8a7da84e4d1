-- How few bits of the data a feed keeps, and for how few bytes it has room.
use Rattle.std.specs.Prelude.{◌≡◌, ◌≤◌, ◌<◌, ◌+◌, ◌*◌, ℕ, Bool, true, false, [], ◌∷◌, ◌++◌, drop, length, replicate, take}
use Rattle.std.specs.Prelude.{Result, Ok, Err, max}
use Rattle.fax_bits.specs.declared.settings.DecodeSettings.{DecodeSettings}
use Rattle.fax_bits.specs.declared.error.DecodeError.{DecodeError}
use Rattle.fax_feeds.specs.declared.row_feed.Fed.{Fed}
use Rattle.fax_rows.specs.declared.row_reader.Stand.{Stand}
use Rattle.fax_bits.specs.Bits.{Bits}
use Rattle.fax_reading.specs.Context.{Context}
use Rattle.fax_reading.specs.Continuations.{is_short}
use Rattle.fax_reading.specs.GapsContinued.{first_gap_is_settled, gap_is_settled}
use Rattle.fax_reading.specs.Lines.{Line}
use Rattle.fax_reading.specs.PlainReading.{Gap, Move, Progress, first_gap, gap_after_row, line_here, line_of_turn, move_on}
use Rattle.fax_reading.specs.PlainReading.{misses_eol, row_before, row_of_line}
use Rattle.fax_bits.specs.Repetition.{Reaches, Turn}
use Rattle.fax_feeds.specs.RowFeeds.{Feeding, FeedsNext, FeedsRow, HoldsMore, IsFeedOf, IsOpenAt, fed_bits, offset_of}
use Rattle.fax_reading.specs.Rows.{Row}

-- ---- Bits that are needed

-- each beginning of these bits leaves open what is next, the line or the gap: none came before it was needed (T.4, 4.1 and 4.2;
-- T.6, 2.2 and 2.4.1.1)
abbrev pub AreNeeded : Bool → Stand → Context → Bits → Type 0
AreNeeded begun stand ctx bits = (first rest : Bits) → bits ≡ first ++ rest → IsOpenAt begun stand ctx first

-- the bits after a gap; none are passed where it is faulty (T.4, 4.1.2)
abbrev pub left_by : Bits → Gap → Bits
left_by here (Gap.line_at has_eols rest) = rest
left_by here (Gap.over (Ok rest)) = rest
left_by here (Gap.over (Err fault)) = here

-- the bits after the first gap
abbrev pub left_by_first : Bits → Move → Bits
left_by_first here (Turn.next so_far) = so_far.rest
left_by_first here (Turn.done end) = left_by here (Gap.over end.outcome)

-- Of the bits that leave open what a line or a gap is, whatever follows them, few aren't part of it. A line that is whole has
-- all of them, and at least one more. No EOL ends among those of a line; so of a broken line, which is repaired, they are part
-- of the gap after it, in which the next EOL after the line's start is passed. A gap passes all but eleven, as where a tag of
-- one and ten zeros are after its last EOL (T.4, 4.1.2, 4.2.2 and 4.2.4; T.6, 2.4.1.1).
pub record OpenBitsAreRead : Type 0 where
  pub line : (settings : DecodeSettings) (reference row : Row) (first more rest : Bits)
      → is_short (line_here settings reference first) ≡ true
      → line_here settings reference (first ++ more) ≡ Line.whole row rest → length rest < length more
  pub eol : (settings : DecodeSettings) (reference : Row) (first more fill after : Bits)
      → is_short (line_here settings reference first) ≡ true
      → first ++ more ≡ fill ++ replicate 11 false ++ true ∷ after → length first < length fill + 12
  pub gap : (settings : DecodeSettings) (taken : ℕ) (has_eols : Bool) (first more : Bits)
      → gap_is_settled settings taken has_eols first ≡ false → gap_is_settled settings taken has_eols (first ++ more) ≡ true
      → length (left_by (first ++ more) (gap_after_row settings taken has_eols (first ++ more))) ≤ length more + 11
  pub first_gap : (settings : DecodeSettings) (first more : Bits)
      → first_gap_is_settled settings.encoding settings first ≡ false
      → first_gap_is_settled settings.encoding settings (first ++ more) ≡ true
      → length (left_by_first (first ++ more) (first_gap settings.encoding settings (first ++ more))) ≤ length more + 11

-- ---- The lines and gaps of the data

-- the plain reading of some data has a turn from here on (T.4, 4.1 and 4.2; T.6, 2.2)
pub record IsTurn (settings : DecodeSettings) (whole : Bits) (turn : Progress) : Type 0 where
  pub first : Progress
  pub begins : first_gap settings.encoding settings whole ≡ Turn.next first
  pub reaches : Reaches (move_on settings) first turn

-- No line up to the one after so many rows, and no gap before that line in which an EOL is missing, is open for more than so
-- many of its first bits: whatever follows those doesn't change it (T.4, 4.1 and 4.2; T.6, 2.2 and 2.4.1.1).
pub record AreOpenFor (most taken : ℕ) (settings : DecodeSettings) (whole : Bits) : Type 0 where
  pub line : (turn : Progress) (first rest : Bits) → IsTurn settings whole turn → length turn.rows ≤ taken
      → turn.rest ≡ first ++ rest
      → is_short (line_here settings (row_before settings.columns turn.rows) first) ≡ true → length first ≤ most
  pub gap : (turn : Progress) (row : Row) (after first rest : Bits) → IsTurn settings whole turn → length turn.rows < taken
      → row_of_line settings turn.has_eols turn.rest (line_of_turn settings turn) ≡ Ok (row, after) → after ≡ first ++ rest
      → misses_eol settings (length turn.rows + 1) turn.has_eols after ≡ true
      → gap_is_settled settings (length turn.rows + 1) turn.has_eols first ≡ false → length first ≤ most

-- ---- What is called

-- what is so of a reading of some data stays so
abbrev pub StaysReading : Bits → Feeding → Feeding → Type 0
StaysReading whole old new = (tried : ℕ) → IsFeedOf whole tried old → IsFeedOf whole tried new

-- What became of a feed of some data: pieces of at most so many bits were fed, the first at the start, and each other one after a
-- call that needs more; rows were read; and the data may have been finished.
pub data IsFedInTurn (whole : Bits) (piece : ℕ) : Feeding → Type 0 where
  opens : {feed : Feeding} (tried : ℕ) → IsFeedOf whole tried feed → feed.kept ≡ [] → feed.room ≡ 0
      → IsFedInTurn whole piece feed
  begins : {old new : Feeding} (next : Bits) → IsFedInTurn whole piece old → old.kept ≡ [] → HoldsMore next old new
      → StaysReading whole old new → length next ≤ piece → IsFedInTurn whole piece new
  reads : {old new : Feeding} (answer : Result Fed DecodeError) → IsFedInTurn whole piece old → FeedsRow old new answer
      → IsFedInTurn whole piece new
  feeds : {old mid new : Feeding} (next : Bits) → IsFedInTurn whole piece old → FeedsRow old mid (Ok Fed.NeedsMore)
      → HoldsMore next mid new → StaysReading whole mid new → length next ≤ piece → IsFedInTurn whole piece new
  finishes : {old new : Feeding} → IsFedInTurn whole piece old → new ≡ record old { finished = true }
      → StaysReading whole old new → IsFedInTurn whole piece new

-- ---- The law

-- After a call that needs more, each bit that was fed from the line or the gap that is next on is needed for it. Of
-- such bits few aren't part of it. The bits of a gap are counted and not kept, but for sixteen, unless an EOL is missing in it.
-- So where each piece is fed after such a call, a feed keeps no more bits than sixteen, or those for which the longest line so
-- far, or the longest gap without an EOL, or the one that is next, is open; those of a piece, and seven; and it has room for no
-- more than twice as many.
pub record FeedsKeepLittle : Type 0 where
  pub needed : (whole : Bits) (tried : ℕ) (old new : Feeding) → FeedsNext whole tried old new (Ok Fed.NeedsMore)
      → AreNeeded new.begun new.rows.stand new.ctx (drop (offset_of new) (take (fed_bits new) whole))
  pub read : OpenBitsAreRead
  pub kept : (whole : Bits) (most piece : ℕ) (feed : Feeding) → IsFedInTurn whole piece feed
      → AreOpenFor most feed.ctx.held.taken feed.ctx.held.settings whole
      → (length feed.kept ≤ max most 16 + piece + 7) × (8 * feed.room ≤ 2 * (max most 16 + piece + 7))
