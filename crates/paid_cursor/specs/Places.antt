-- Bytes, a place among them, and what may still be paid.
use Rattle.std.specs.Prelude.{ℕ, ◌≡◌, ◌+◌, ◌-◌, ◌≤◌, List, drop, Result, OnOk, OnErr}

-- The bytes, how many of them come before the place, and how many steps are left.
pub record Place : Type 0 where
  pub bytes : List ℕ
  pub place : ℕ
  pub left : ℕ

-- The bytes from the place on.
abbrev pub rest_of : Place → List ℕ
rest_of now = drop now.place now.bytes

-- The place so many bytes further on.
abbrev pub moved : ℕ → Place → Place
moved count now = record now { place = now.place + count }

-- So many steps are paid.
abbrev pub paid : ℕ → Place → Place
paid count now = record now { left = now.left - count }

-- The steps that are left may differ.
abbrev pub IsSamePlace : Place → Place → Type 0
IsSamePlace old new = (new.bytes ≡ old.bytes) × (new.place ≡ old.place)

-- What a step for each byte passed leaves as it is: the steps that are left, and the bytes that were passed.
abbrev pub budget : Place → ℕ
budget now = now.left + now.place

-- From the first place to the second, among the same bytes, a step was paid for each byte passed, and one for each that the
-- output grew by: its lengths are given.
abbrev pub IsPaid : Place → ℕ → Place → ℕ → Type 0
IsPaid old before new after = (new.bytes ≡ old.bytes) × (before ≤ after) × (budget new + after ≡ budget old + before)

-- As many steps were paid, or more.
abbrev pub IsPaidAtLeast : Place → ℕ → Place → ℕ → Type 0
IsPaidAtLeast old before new after = (new.bytes ≡ old.bytes) × (before ≤ after) × (budget new + after ≤ budget old + before)

-- What a call pays that adds to an output: before an error it may have paid for bytes that it doesn't add.
abbrev pub Pays : {T E : Type 0} → Result T E → Place → ℕ → Place → ℕ → Type 0
Pays result old before new after = OnOk result (IsPaid old before new after) × OnErr result (IsPaidAtLeast old before new after)
