-- Bytes that are replaced one by one, so that their bits are others.
use Rattle.fax_encode.proofs.Names.{◌≡◌, ℕ, suc, ◌+◌, ◌<◌, ◌≤◌, List, [], ◌∷◌, ◌++◌, length, get_or, set, flat_map, refl, sym, ap}
use Rattle.fax_encode.proofs.Names.{◌∙◌, arith, inl, inr, cases_eq, get_or-set_same, get_or-set_other, length-set, Bits}

-- the bits of the new bytes up to an index are those that the old ones are to have, and those from it on are the old ones
pub record AreChanged (written wanted : ℕ → Bits) (index : ℕ) (new old : List ℕ) : Type 0 where
  pub same_length : length new ≡ length old
  pub changed : (k : ℕ) → k < index → written (get_or new k 0) ≡ wanted (get_or old k 0)
  pub kept : (k : ℕ) → index ≤ k → get_or new k 0 ≡ get_or old k 0

-- none yet
pub none_changed : (written wanted : ℕ → Bits) (old : List ℕ) → AreChanged written wanted 0 old old
none_changed written wanted old = record { same_length = refl; changed = λ k lt. absurd (omega (arith, lt)); kept = λ k ge. refl }

-- one byte more
pub one_changed : (written wanted : ℕ → Bits) (i : ℕ) (new old : List ℕ) (byte : ℕ) → i < length new
    → written byte ≡ wanted (get_or new i 0) → AreChanged written wanted i new old
    → AreChanged written wanted (i + 1) (set new i byte) old
one_changed written wanted i new old byte lt is so_far = record {
  same_length = length-set new i byte ∙ so_far.same_length;
  changed = λ k below. elim (cases_eq k i) [
    | inl same ↦
        let here : get_or (set new i byte) k 0 ≡ byte =
        ap (λ (n : ℕ). get_or (set new i byte) n 0) same ∙ get_or-set_same new i byte 0 lt in
        ap written here ∙ is ∙ ap wanted (so_far.kept i (omega arith) ∙ ap (λ (n : ℕ). get_or old n 0) (sym same))
    | inr other ↦ ap written (get_or-set_other new i k byte 0 other) ∙ so_far.changed k (omega (arith, other))
  ];
  kept = λ k ge. get_or-set_other new i k byte 0 (λ same. absurd (omega (arith, same))) ∙ so_far.kept k (omega arith);
}

bits_changed : (written wanted : ℕ → Bits) (new old : List ℕ) → length new ≡ length old
    → ((k : ℕ) → k < length old → written (get_or new k 0) ≡ wanted (get_or old k 0))
    → flat_map written new ≡ flat_map wanted old
bits_changed written wanted [] [] same changed = refl
bits_changed written wanted (a ∷ new) [] same changed = absurd (omega (arith, same))
bits_changed written wanted [] (b ∷ old) same changed = absurd (omega (arith, same))
bits_changed written wanted (a ∷ new) (b ∷ old) same changed =
    let rest = bits_changed written wanted new old (omega (arith, same)) (λ k lt. changed (suc k) (omega arith)) in
    ap (λ (x : Bits). x ++ flat_map written new) (changed 0 (omega arith)) ∙ ap (λ (x : Bits). wanted b ++ x) rest

-- all bytes
pub all_changed : (written wanted : ℕ → Bits) (i : ℕ) (new old : List ℕ) → length new ≤ i → AreChanged written wanted i new old
    → flat_map written new ≡ flat_map wanted old
all_changed written wanted i new old whole so_far =
    bits_changed written wanted new old so_far.same_length (λ k lt. so_far.changed k (omega (arith, so_far.same_length)))
