-- The lists of a picture, one after another.
use Rattle.fax_encode.proofs.Names.{◌≡◌, ℕ, ◌+◌, ◌<◌, List, [], ◌∷◌, length, get_or, drop, map, Some, sym, ap, subst, ◌∙◌}
use Rattle.fax_encode.proofs.Names.{arith, get_or-map, length-map, slice_get-get_or, White, AreChanges, pixels, changes}
use Rattle.fax_encode.proofs.Names.{drop_some, length-pixels, changes-pixels, chosen_runs, chosen_line_1d}
use Rattle.fax_encode.proofs.Names.{AreRows}

-- an item that a loop has at hand
pub item_at : {X : Type 0} (list_of : X → List ℕ) (items : List X) (i : ℕ) (item : X) → i < length items
    → item ≡ get_or items i item → get_or (map list_of items) i [] ≡ list_of item
item_at list_of items i item lt is = get_or-map list_of items i item [] lt ∙ ap list_of (sym is)

-- is the first of those that are left
pub item_next : {X : Type 0} (list_of : X → List ℕ) (items : List X) (i : ℕ) (item : X) → i < length items
    → item ≡ get_or items i item → drop i (map list_of items) ≡ list_of item ∷ drop (i + 1) (map list_of items)
item_next list_of items i item lt is = drop_some (map list_of items) i (list_of item) (slice_get-get_or (map list_of items) i []
    (omega (arith, length-map items list_of)) ∙ ap Some (item_at list_of items i item lt is))

-- and valid where all are
pub item_lawful : {X : Type 0} (columns : ℕ) (list_of : X → List ℕ) (items : List X) (i : ℕ) (item : X) → i < length items
    → item ≡ get_or items i item → AreRows columns (map list_of items) → AreChanges columns (list_of item)
item_lawful columns list_of items i item lt is are =
    subst (AreChanges columns) (item_at list_of items i item lt is) (are i [] (omega (arith, length-map items list_of)))

-- the runs of a valid list are those of its row
pub line_of_list : (columns : ℕ) (list : List ℕ) → AreChanges columns list
    → chosen_line_1d (pixels columns list) ≡ chosen_runs columns White 0 list
line_of_list columns list lawful =
    ap (λ (n : ℕ). chosen_runs n White 0 (changes (pixels columns list))) (length-pixels columns list lawful)
    ∙ ap (chosen_runs columns White 0) (changes-pixels columns list lawful)
