-- Rows that C reads from data in pieces, as many as there is room for.
use Rattle.std.specs.Prelude.{◌≡◌, ◌≢◌, ◌<◌, ◌≤◌, ◌⊎◌, ◌+◌, ◌*◌, ℕ, zero, suc, Bool, true, false, List, [], ◌∷◌, length}
use Rattle.std.specs.Prelude.{Result, Ok, map, take, drop}
use Rattle.hayro_ccitt.specs.Answers.{meaning_after}
use Rattle.hayro_ccitt.specs.DecodeError.{DecodeError}
use Rattle.hayro_ccitt.specs.Decoding.{SinkState}
use Rattle.hayro_ccitt.specs.Rows.{HaveWidth, Row, changes}
use Rattle.hayro_ccitt.specs.Fed.{Fed}
use Rattle.c_rows.specs.Listing.{listed, listed_row}
use Rattle.c_rows.specs.Packing.{bytes_of_row, bytes_of_rows, outside_rows, packed_row, rows_at, spaced}
use Rattle.c_rows.specs.RowsFed.{GivesFed, TurnsToFed, is_fed_row, status_of_fed}
use Rattle.c_rows.specs.declared.feeding.Feeding.{Feeding}
use Rattle.c_rows.specs.declared.packed_rows.Layout.{Layout}
use Rattle.c_rows.specs.declared.status.TheConstants.{OK, REFUSED}

-- what calls leave, one after another, each of which gives a row
abbrev pub GivesEach : Feeding → List Feeding → Type 0
GivesEach old [] = Unit {0}
GivesEach old (next ∷ more) = GivesFed old next OK × GivesEach next more

-- and what the last of them leaves
abbrev pub feeding_after : Feeding → List Feeding → Feeding
feeding_after old [] = old
feeding_after old (next ∷ more) = feeding_after next more

-- the rows that they give
abbrev pub rows_given : List Feeding → List Row
rows_given [] = []
rows_given (next ∷ more) = next.rows.ctx.held.reference ∷ rows_given more

-- their width
abbrev pub columns_of : Feeding → ℕ
columns_of feeding = feeding.rows.ctx.held.settings.columns

-- How rows are written to memory, and how much room there has to be for the last row of a reading after them.
module _ (AreWritten : Feeding → List Row → List ℕ → List ℕ → Type 0) (need : Feeding → List Row → ℕ) where
  -- a row is kept since there is no room for it after those that were given
  pub record KeepsRow (rows : List Row) (size : ℕ) (old new : Feeding) : Type 0 where
    pub gives : GivesFed old new REFUSED
    pub room : size < need new rows

  -- What a call leaves that gives rows, as many as there is room for: each is given as a call of one row gives it. The status is
  -- `OK` if the next row needs more room than there is, and is kept. Else it is that of a call of one row after these: such a
  -- call is refused only before the first.
  pub record GivesRows (old new : Feeding) (before after : List ℕ) (count status : ℕ) : Type 0 where
    pub given : List Feeding
    pub each : GivesEach old given
    pub count_is : count ≡ length given
    pub written : AreWritten old (rows_given given) before after
    pub some : status ≡ OK → 0 < count
    pub none : status ≡ REFUSED → count ≡ 0
    pub kept : (status ≡ OK) ⊎ (status ≡ REFUSED)
        → KeepsRow (rows_given given) (length after) (feeding_after old given) new
    pub ends : status ≢ OK → GivesFed (feeding_after old given) new status

-- Packed rows are in memory, by this layout, and what is outside them is unchanged.
pub record StandPacked (layout : Layout) (columns : ℕ) (rows : List Row) (before after : List ℕ) : Type 0 where
  pub rows_are : rows_at layout.stride columns (length rows) after ≡ map (packed_row layout.black_is_0) rows
  pub others : outside_rows layout.stride columns (length rows) after ≡ outside_rows layout.stride columns (length rows) before
  pub room : bytes_of_rows layout.stride columns (length rows) ≤ length after

-- Packed rows, each a stride after the one before; rows without columns, which have no bytes, a byte after.
abbrev pub ArePackedRows : Feeding → List Row → List ℕ → List ℕ → Type 0
ArePackedRows old rows before after = StandPacked (spaced old.layout) (columns_of old) rows before after

abbrev pub room_of_packed : Feeding → List Row → ℕ
room_of_packed new rows = length rows * (spaced new.layout).stride + bytes_of_row (columns_of new)

abbrev pub PacksRows : Feeding → Feeding → List ℕ → List ℕ → ℕ → ℕ → Type 0
PacksRows = GivesRows ArePackedRows room_of_packed

-- Memory begins with the lists of rows, of each the number of its changes and then the changes; what follows is unchanged.
pub record StandListed (rows : List Row) (before after : List ℕ) : Type 0 where
  pub rows_are : take (length (listed rows)) after ≡ listed rows
  pub rest : drop (length (listed rows)) after ≡ drop (length (listed rows)) before

abbrev pub AreListedRows : Feeding → List Row → List ℕ → List ℕ → Type 0
AreListedRows old rows before after = StandListed rows before after

abbrev pub room_of_lists : Feeding → List Row → ℕ
room_of_lists new rows = length (listed rows) + length (listed_row (changes new.rows.ctx.held.reference))

abbrev pub ListsRows : Feeding → Feeding → List ℕ → List ℕ → ℕ → ℕ → Type 0
ListsRows = GivesRows AreListedRows room_of_lists

-- ---- Rows that are passed to a sink (auxiliary)

-- the status of a call that comes to this after this number of rows, or keeps a row
abbrev pub status_after : Result Fed DecodeError → ℕ → Bool → ℕ
status_after answer count false = status_of_fed answer
status_after answer zero true = REFUSED
status_after answer (suc count) true = OK

-- a call after these rows comes to no row
pub record ComesToNone (refused : Bool) (last new : Feeding) (answer : Result Fed DecodeError) : Type 0 where
  pub flag : refused ≡ false
  pub turns : TurnsToFed last.is_kept last.rows new.rows answer
  pub no_row : is_fed_row answer ≡ false

-- or to one that the sink refuses
pub record RefusesOne (refused : Bool) (refuses : List ℕ → Type 0) (last new : Feeding) : Type 0 where
  pub flag : refused ≡ true
  pub turns : TurnsToFed last.is_kept last.rows new.rows (Ok Fed.Row)
  pub row : refuses (changes new.rows.ctx.held.reference)

-- What is left where rows were passed to a sink, which means them in order.
pub record PassesAll {M : Type 0} (step : M → List ℕ → M) (before after : SinkState M) (old new : Feeding)
    (answer : Result Fed DecodeError) : Type 0 where
  pub given : List Feeding
  pub each : GivesEach old given
  pub wide : HaveWidth (columns_of old) (rows_given given)
  pub meaning : after.meaning ≡ meaning_after step before.meaning (rows_given given)
  pub layout : (new.layout ≡ old.layout) × ((feeding_after old given).layout ≡ old.layout)
  pub columns : columns_of new ≡ columns_of old
  pub ends : ComesToNone after.refused (feeding_after old given) new answer
      ⊎ RefusesOne after.refused after.refuses (feeding_after old given) new
