-- The changes of a row with its end six times after them.
use Rattle.fax_reading.proofs.Names.{common_steps, ◌≡◌, ℕ, zero, suc, ◌<◌, ◌++◌, List, [], ◌∷◌, length, replicate, get_or, refl}
use Rattle.fax_reading.proofs.Names.{ap, ◌∙◌, arith, AreChanges, AreEnded, changes_in, cases_lt, get_or_past, length-append}
use Rattle.std.proofs.lemmas.List.{take_at}

end_at : (end count k : ℕ) → get_or (replicate count end) k end ≡ end
end_at end zero k = refl
end_at end (suc count) zero = refl
end_at end (suc count) (suc k) = end_at end count k

ends_at : (xs : List ℕ) (end k : ℕ) → get_or (xs ++ replicate 6 end) k end ≡ get_or xs k end
ends_at [] end k = end_at end 6 k
ends_at (x ∷ xs) end zero = refl
ends_at (x ∷ xs) end (suc k) = ends_at xs end k

without_ends : (xs : List ℕ) (end : ℕ) → changes_in (xs ++ replicate 6 end) ≡ xs
without_ends xs end = take_at xs (replicate 6 end) _ (omega (arith, length-append xs (replicate 6 end)))

pub ends_taken : (xs ended : List ℕ) (end : ℕ) → ended ≡ xs ++ replicate 6 end → changes_in ended ≡ xs
ends_taken xs ended end put = ap changes_in put ∙ without_ends xs end

pub with_ends : (columns : ℕ) (xs : List ℕ) → AreChanges columns xs → AreEnded columns (xs ++ replicate 6 columns)
with_ends columns xs lawful = grind (arith, common_steps, without_ends)

module _ (columns : ℕ) (places : List ℕ) (ended : AreEnded columns places) where
  -- after the changes each place is the row's end
  pub ended_at : (k : ℕ) → get_or places k columns ≡ get_or (changes_in places) k columns
  ended_at k = ap (λ xs. get_or xs k columns) ended.ended ∙ ends_at (changes_in places) columns k

  pub among_changes : (k : ℕ) → get_or (changes_in places) k columns < columns → k < length (changes_in places)
  among_changes k below = grind (arith, common_steps, cases_lt, get_or_past)
