use Rattle.fax_coding.proofs.Names.{◌≡◌, ℕ, ◌-◌, ◌%◌, ◌<◌, ◌≤◌, List, inl, inr, sym, ◌∙◌, arith, rising, TurnsFrom, color_after}
use Rattle.fax_coding.proofs.Names.{Color, subst, get_or, AreChanges, IsAbove, IsNear, Place, b2_after_b1}
use Rattle.fax_coding.specs.declared.group4.Above.{Above}
use Rattle.fax_coding.proofs.StepsToB1.{even_or_odd, white_after, black_after, b1_reached, near_within}
use Rattle.fax_coding.proofs.shortest_lines.step_back.Goals as goal

-- an index of the colour's parity
turns_at : (n index : ℕ) → index % 2 ≡ n % 2 → TurnsFrom index (color_after n)
turns_at n index e = elim (even_or_odd n) [
  | inl even ↦ subst (λ (k : Color). TurnsFrom index k) (sym (white_after n even)) (let f : index % 2 ≡ 0 = omega
      (arith, e, even) in f)
  | inr odd ↦ subst (λ (k : Color). TurnsFrom index k) (sym (black_after n odd)) (let f : index % 2 ≡ 1 = omega
      (arith, e, odd) in f)
]

-- nothing is left of the first two changes
near_start : (columns : ℕ) (places : List ℕ) (from n index : ℕ) → index % 2 ≡ n % 2 → index < 2
    → IsNear columns places (record { from = from; color = color_after n }) index
near_start columns places from n index turns lt = record {
  turns = turns_at n index turns;
  left = λ k le. absurd (omega (arith, lt, le));
}

-- the change two before is left
near_before : (columns : ℕ) (places : List ℕ) → AreChanges columns places → (from n index : ℕ) → index % 2 ≡ n % 2
    → get_or places (index - 2) columns < from → IsNear columns places (record { from = from; color = color_after n }) index
near_before columns places lawful from n index turns lt = record {
  turns = turns_at n index turns;
  left = λ k le. omega (arith, lt, rising columns places lawful k (index - 2) (omega (arith, le)));
}

pub returns-clause-near : goal.returns-clause-near
returns-clause-near c = near_start c.args.columns c.args.reference.now c.args.from c.args._next c.back.above
    c.back.invariant.turns (omega (arith, c.back-test.false))

pub returns-then-from-clause-near : goal.returns-then-from-clause-near
returns-then-from-clause-near c = near_before c.args.columns c.args.reference.now c.requires.lawful c.args.from c.args._next
    c.back.above c.back.invariant.turns (omega (arith, c.if-from.true, c.from.ensures, c.change_or_end-before.ensures))

-- b1 is found from an index that isn't left of the position
found_near : (columns : ℕ) (places : List ℕ) → AreChanges columns places → (from n : ℕ) (above : Above) → from ≤ columns
    → above.b1 ≡ get_or places above.index columns → from ≤ above.b1
    → IsNear columns places (record { from = from; color = color_after n }) above.index
    → IsAbove columns places (record { from = from; color = color_after n }) above
found_near columns places lawful from n above inside here right near =
    let at : Place = record { from = from; color = color_after n } in
    let b1 = b1_reached columns places lawful at above.index near inside (omega (arith, right, here)) in
    record {
      b2 = b2_after_b1 columns places from above.index (color_after n) lawful b1;
      b1 = b1 ∙ sym here;
      first = here;
      within = near_within columns places lawful at above.index near inside;
    }

pub returns-clause-found : goal.returns-clause-found
returns-clause-found c = found_near c.args.columns c.args.reference.now c.requires.lawful c.args.from c.args._next
    (record { index = c.back.above; b1 = c.back.b1 }) c.requires.inside c.back.invariant.here c.back.invariant.right
    (returns-clause-near c)

pub returns-then-from-clause-found : goal.returns-then-from-clause-found
returns-then-from-clause-found c = found_near c.args.columns c.args.reference.now c.requires.lawful c.args.from c.args._next
    (record { index = c.back.above; b1 = c.back.b1 }) c.requires.inside c.back.invariant.here c.back.invariant.right
    (returns-then-from-clause-near c)
