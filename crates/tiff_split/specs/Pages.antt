-- The pages of a file, one after another.
use Rattle.std.specs.Prelude.{ℕ, ◌+◌, ◌-◌, ◌^◌, ◌≡◌, ◌<◌, Bool, true, false, Option, None, Result, Ok, Err, min, ⊤}
use Rattle.tiff_split.specs.Reads.{Opens, Passes, Reads, Reading}
use Rattle.tiff_split.specs.declared.error.SplitError.{SplitError}
use Rattle.tiff_split.specs.declared.error.SplitError.TheVariants.{Outside, Loop, Spent, OutOfMemory, Unread}
use Rattle.tiff_split.specs.declared.split.Table.{Table}

-- The way through a file's directories; what was found after the last page, if it was sought; how many pages there were; whether
-- nothing follows; and whether a page wasn't read since the allowance was spent.
pub record Pages : Type 0 where
  pub reading : Reading
  pub ahead : Option (Result (Option Table) SplitError)
  pub count : ℕ
  pub has_ended : Bool
  pub is_spent : Bool

-- The pages of a file of so many bytes, of which none was found.
pub record Begins (size : ℕ) (pages : Pages) : Type 0 where
  pub opened : Opens size pages.reading
  pub ahead : pages.ahead ≡ None
  pub count : pages.count ≡ 0
  pub has_ended : pages.has_ended ≡ false
  pub is_spent : pages.is_spent ≡ false

-- The next page may have been sought: it is the same file, no more may be read than before, and no page was read.
abbrev pub IsSamePage : Pages → Pages → Type 0
IsSamePage old new = Passes old.reading new.reading × (new.is_spent ≡ old.is_spent)

-- A page of this number was counted, which is the next one.
abbrev pub CountsPage : ℕ → Pages → Pages → Type 0
CountsPage number old new = (number ≡ min (old.count + 1) (2 ^ 32 - 1)) × (new.count ≡ number)

-- No page follows, and there was one.
abbrev pub IsNoPage : Pages → Pages → Type 0
IsNoPage old new = (new.has_ended ≡ true) × (new.count ≡ old.count) × ((old.has_ended ≡ false) → 0 < old.count)

-- A page may have been read: the next one is as before.
pub record IsRead (old new : Pages) : Type 0 where
  pub reads : Reads old.reading new.reading
  pub ahead : new.ahead ≡ old.ahead
  pub count : new.count ≡ old.count
  pub has_ended : new.has_ended ≡ old.has_ended

-- Whether a page wasn't read since the allowance was spent: it was so before, or this page, which has a directory, is refused.
abbrev pub is_spent_after : {A B C D E : Type 0} → Result A B → Result (Result C D) E → Bool → Bool
is_spent_after (Err why) result before = before
is_spent_after (Ok table) (Ok (Err why)) before = true
is_spent_after (Ok table) (Ok (Ok file)) before = before
is_spent_after (Ok table) (Err error) before = before

-- No page is found or read further for this reason: there is no memory, or the file can't be read.
abbrev pub StopsPages : SplitError → Type 0
StopsPages OutOfMemory = ⊤
StopsPages (Unread error) = ⊤
StopsPages Spent = ⊥
StopsPages Outside = ⊥
StopsPages Loop = ⊥
