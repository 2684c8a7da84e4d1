-- Whether damage to a line of lenient two-dimensional data ends at the next one-dimensional line, and what calls leave that
-- test it.
use Rattle.std.specs.Prelude.{◌≡◌, ◌≢◌, ◌+◌, ◌*◌, ◌≤◌, ◌<◌, ◌⊎◌, ◌∷◌, [], ℕ, Bool, true, false, drop, length, None, Some, Err}
use Rattle.fax_bits.specs.declared.error.DecodeError.{DecodeError}
use Rattle.fax_bits.specs.declared.settings.DecodeSettings.{DecodeSettings}
use Rattle.fax_bits.specs.declared.settings.EncodingMode.TheVariants.{Group3_2D}
use Rattle.fax_bits.specs.Bits.{Bits, BitsAt, IsPrefix}
use Rattle.fax_bits.specs.EndOfLine.{after_eol, next_eol}
use Rattle.fax_bits.specs.Repetition.{Reaches}
use Rattle.fax_reading.specs.Answers.{IsFault}
use Rattle.fax_reading.specs.Context.{Context, Held, fresh}
use Rattle.fax_reading.specs.Lines.{Line}
use Rattle.fax_reading.specs.LocalityByK.{IsTaggedBody, IsTagOfLine}
use Rattle.fax_reading.specs.Locality.{IsEol}
use Rattle.fax_reading.specs.PlainReading.{Progress, first_line, line_here, line_of_turn, move_on, plain}
use Rattle.fax_reading.specs.Rows.{Row}
use Rattle.fax_rows.specs.declared.row_reader.RowState.{RowState}
use Rattle.fax_rows.specs.RowsRead.{IsStanding, IsStandingAtLine, PaidAtLine, StandsAtLine, ended, is_at_line}

-- In lenient two-dimensional data of Group 3 the tag and the body of a line lie between two positions: the premise on each data
-- of damage that ends at the next one-dimensional line (T.4, 4.1.2 and 4.2.2).
pub record IsLocal2D (settings : DecodeSettings) (bits : Bits) (from to : ℕ) : Type 0 where
  pub encoding : settings.encoding ≡ Group3_2D
  pub lenient : settings.strict ≡ false
  pub body : IsTaggedBody settings bits from to

-- The most that the tests of a line's tag and body count in data of this many bits: a reading up to the line counts no more than
-- 36 a bit and 14, and the tests of its EOLs and its bits no more than 10 a bit (T.4, 4.1.2 and 4.2.2).
abbrev pub most_for_tagged_body : ℕ → ℕ
most_for_tagged_body bits = 46 * bits + 14

-- ---- auxiliary: the reading up to a line

-- all that is said of the tag and the body of a line but where the line ends as it is read: the EOL after it ends at a position
pub record IsTaggedBodyTo (bits : Bits) (from to end : ℕ) : Type 0 where
  pub within : to ≤ length bits
  pub starts : (from ≡ 0) ⊎ ((place : ℕ) × IsEol bits place from)
  pub tag : IsTagOfLine bits from
  pub one : (place : ℕ) × (from < place) × (place < to) × IsPrefix (true ∷ []) (drop place bits)
  pub no_eol : (place last : ℕ) → from ≤ place → last ≤ to → IsEol bits place last → ⊥
  pub eol : after_eol 0 (drop to bits) ≡ Some (drop end bits)
  pub short : end ≤ length bits

-- each state of the reading in which the bits from a position on are next has this many rows or more
abbrev pub ComesLater : DecodeSettings → Bits → ℕ → ℕ → Type 0
ComesLater settings bits place taken = (so_far : Progress) → Reaches (move_on settings) (first_line settings bits) so_far
    → so_far.rest ≡ drop place bits → taken ≤ length so_far.rows

-- what must be where a reading is to come to a line at a position: it is at the start of two-dimensional data that has columns
pub record CanComeTo (held : Held) (now : BitsAt) (place : ℕ) : Type 0 where
  pub encoding : held.settings.encoding ≡ Group3_2D
  pub wide : 0 < held.settings.columns
  pub fresh : held ≡ fresh held.settings
  pub start : now.place ≡ 0
  pub within : place ≤ length now.bits

-- a position is at least a tag and the last twelve bits of an EOL after another, from which on there is an EOL
pub record MayEndBefore (bits : Bits) (from end : ℕ) : Type 0 where
  pub far : from + 13 ≤ end
  pub within : end ≤ length bits
  pub eol : next_eol (drop from bits) ≢ None

-- the reading has no whole line that begins at a position
abbrev pub IsNotRead : DecodeSettings → Bits → ℕ → Type 0
IsNotRead settings bits place = (so_far : Progress) → Reaches (move_on settings) (first_line settings bits) so_far
    → so_far.rest ≡ drop place bits → (row : Row) (rest : Bits) → line_of_turn settings so_far ≡ Line.whole row rest → ⊥

-- the line here, if it is whole, ends before the last twelve bits of an EOL; `after` is what follows that EOL
abbrev pub EndsHere : DecodeSettings → Row → Bits → Bits → Type 0
EndsHere settings reference line after = (row : Row) (rest : Bits) → line_here settings reference line ≡ Line.whole row rest
    → length after + 12 ≤ length rest

-- What a call leaves that reads the row of a line.
pub record ReadsRowHere (rows kept : RowState) (old new : Context) (before after : BitsAt) : Type 0 where
  pub stands : (base : ℕ) → IsStandingAtLine base rows old before → IsStanding base kept new after
  pub settings : new.held.settings ≡ old.held.settings
  pub no_line : is_at_line kept.stand ≡ false
  pub taken : new.held.taken ≤ old.held.taken + 1
  pub more : ended kept.stand ≡ None → new.held.taken ≡ old.held.taken + 1
  pub fault : (e : DecodeError) → ended kept.stand ≡ Some (Err e) → IsFault e

-- What a call leaves that reads the row of a line and passes the gap after it, and says whether another line follows.
pub record PassesLine (rows kept : RowState) (old new : Context) (before after : BitsAt) (follows : Bool) : Type 0 where
  pub line : follows ≡ true → (base : ℕ) → IsStandingAtLine base rows old before → IsStandingAtLine base kept new after
  pub more : follows ≡ true → new.held.taken ≡ old.held.taken + 1
  pub over : follows ≡ false → (base : ℕ) → IsStandingAtLine base rows old before
      → length (plain old.held.settings before.bits).rows ≤ old.held.taken + 1

-- The reading comes to a line that begins at a position, and no line before it does.
pub record ComesFirst (base : ℕ) (settings : DecodeSettings) (bits : Bits) (place : ℕ) (ctx : Context) : Type 0 where
  pub stands : StandsAtLine settings bits ctx.held (drop place bits)
  pub later : ComesLater settings bits place ctx.held.taken
  pub paid : PaidAtLine base settings bits ctx.held (drop place bits) ctx.ticks
