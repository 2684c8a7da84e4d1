-- What reading costs.
use Rattle.std.specs.Prelude.{ℕ, ◌+◌, ◌≡◌, ◌≤◌}
use Rattle.paid_cursor.specs.Places.{Place, budget}

-- From the first place to the second a step was paid for each byte passed.
abbrev pub Passes : Place → Place → Type 0
Passes old new = (budget new ≡ budget old) × (new.bytes ≡ old.bytes) × (new.left ≤ old.left)

-- From the first place to the second a step was paid for each byte passed, and one for each item that a list grew by: its lengths
-- are given.
abbrev pub Adds : Place → ℕ → Place → ℕ → Type 0
Adds old before new after =
    (budget new + after ≤ budget old + before) × (new.bytes ≡ old.bytes) × (new.left ≤ old.left) × (old.place ≤ new.place)

-- Only steps were paid.
abbrev pub Pays : Place → Place → Type 0
Pays old new = (new.bytes ≡ old.bytes) × (new.place ≡ old.place) × (new.left ≤ old.left)
