-- EOLs that follow each other.
use Rattle.fax_bits.proofs.Names.{common_steps, ◌≡◌, ℕ, zero, suc, ◌+◌, ◌<◌, ◌≤◌, Bool, true, false, cond, [], ◌∷◌, ◌++◌, length}
use Rattle.fax_bits.proofs.Names.{replicate, Option, Some, None, refl, sym, ap, subst, ◌∙◌, arith, le-leb, Bits, after_eol}
use Rattle.fax_bits.proofs.Names.{one_more, eols, all_eols, next_eol, past_tag, eols_with_tags, pass_last_tag, tagged_eols}

-- enough zeros and a one are an EOL
pub eol_of : (seen k : ℕ) (rest : Bits) → 11 ≤ seen + k → after_eol seen (replicate k false ++ true ∷ rest) ≡ Some rest
eol_of seen zero rest le = let ge : 11 ≤ seen = omega arith in rw (le-leb 11 seen ge) refl
eol_of seen (suc k) rest le = eol_of (suc seen) k rest (omega arith)

-- what follows an EOL is shorter
pub after_eol_shorter : (seen : ℕ) (here rest : Bits) → after_eol seen here ≡ Some rest → length rest < length here
after_eol_shorter seen [] rest e = absurd cc
after_eol_shorter seen (false ∷ here) rest e = omega (arith, after_eol_shorter (suc seen) here rest e)
after_eol_shorter seen (true ∷ here) rest e = grind arith

-- one more EOL, and the same bits
pub length-one_more : (found : ℕ × Bits) → length (one_more found).1 ≡ length found.1
length-one_more (count, here) = refl

-- of two lists that are short enough either is
pub cond_le : (b : Bool) (x y : Bits) (n : ℕ) → length x ≤ n → length y ≤ n → length (cond b x y) ≤ n
cond_le b x y n p q = grind arith

-- one more EOL
pub one_more-count : (found : ℕ × Bits) → (one_more found).0 ≡ suc found.0
one_more-count (count, here) = refl

-- if there is an EOL, the count of EOLs is that of those after it, and one more
pub eols-some : (most : ℕ) (here rest : Bits) → after_eol 0 here ≡ Some rest → eols (suc most) here ≡ one_more (eols most rest)
eols-some most here rest e = rw (e, eols) refl

-- if there is no EOL, none is counted
pub eols-none : (most : ℕ) (here : Bits) → after_eol 0 here ≡ None → eols most here ≡ (0, here)
eols-none most here e = grind arith

-- ---- Counting consecutive EOLs, where bits are passed after each.
pub record CountsEols (pass : Bits → Bits) (count : ℕ → Bits → ℕ × Bits) : Type 0 where
  pub passes : (here : Bits) → length (pass here) ≤ length here
  pub start : (here : Bits) → count zero here ≡ (0, here)
  pub none : (most : ℕ) (here : Bits) → after_eol 0 here ≡ None → count most here ≡ (0, here)
  pub some : (most : ℕ) (here rest : Bits) → after_eol 0 here ≡ Some rest
      → count (suc most) here ≡ one_more (count most (pass rest))

module _ {pass : Bits → Bits} {count : ℕ → Bits → ℕ × Bits} (counts : CountsEols pass count) where
  -- what follows them isn't longer
  pub count_shorter : (most : ℕ) (here : Bits) → length (count most here).1 ≤ length here
  count_shorter zero here = omega (arith, ap (λ (found : ℕ × Bits). length found.1) (counts.start here))
  count_shorter (suc most) here = by_after_eol (λ rest. count_shorter most rest) (after_eol 0 here) refl
    where
      by_after_eol : ((rest : Bits) → length (count most rest).1 ≤ length rest) → (o : Option Bits) → after_eol 0 here ≡ o
          → length (count (suc most) here).1 ≤ length here
      by_after_eol on None e = rw (counts.none (suc most) here e) (omega arith)
      by_after_eol on (Some rest) e = grind (arith, length-one_more (count most (pass rest)), after_eol_shorter 0 here rest e)

  -- each of them moves the offset on
  pub count_moves : (most : ℕ) (here : Bits) → 0 < (count most here).0 → length (count most here).1 < length here
  count_moves zero here some = absurd (omega (arith, some, ap (λ (found : ℕ × Bits). found.0) (counts.start here)))
  count_moves (suc most) here some = by_after_eol (after_eol 0 here) refl
    where
      by_after_eol : (o : Option Bits) → after_eol 0 here ≡ o → length (count (suc most) here).1 < length here
      by_after_eol None e = grind arith
      by_after_eol (Some rest) e = rw (counts.some most here rest e)
          grind (arith, length-one_more, count_shorter, after_eol_shorter)

  -- an EOL that is there is counted
  pub count_some : (here rest : Bits) → after_eol 0 here ≡ Some rest → 0 < (count (length here) here).0
  count_some [] rest e = absurd cc
  count_some (bit ∷ here) rest e = grind (arith, one_more-count (count (length here) (pass rest)))

  -- and consumed
  pub count_past : (here rest : Bits) → after_eol 0 here ≡ Some rest → length (count (length here) here).1 ≤ length rest
  count_past [] rest e = absurd cc
  count_past (bit ∷ here) rest e =
      grind (arith, length-one_more (count (length here) (pass rest)), count_shorter (length here) (pass rest))

  -- the number of EOLs asked for doesn't matter, if there are no more bits
  pub count_same : (n m : ℕ) (here : Bits) → length here ≤ n → length here ≤ m → count n here ≡ count m here
  count_same n m [] h k = counts.none n [] refl ∙ sym (counts.none m [] refl)
  count_same zero m (b ∷ here) h k = absurd (omega arith)
  count_same (suc n) zero (b ∷ here) h k = absurd (omega arith)
  count_same (suc n) (suc m) (b ∷ here) h k = by_after_eol (λ rest. count_same n m rest) (after_eol 0 (b ∷ here)) refl
    where
      by_after_eol : ((rest : Bits) → length rest ≤ n → length rest ≤ m → count n rest ≡ count m rest) → (o : Option Bits)
          → after_eol 0 (b ∷ here) ≡ o → count (suc n) (b ∷ here) ≡ count (suc m) (b ∷ here)
      by_after_eol on None e = counts.none (suc n) (b ∷ here) e ∙ sym (counts.none (suc m) (b ∷ here) e)
      by_after_eol on (Some rest) e = grind (arith, after_eol_shorter 0 (b ∷ here) rest e)

  -- if there is an EOL, it is counted, and those after it
  pub count_all-some : (here rest : Bits) → after_eol 0 here ≡ Some rest
      → count (length here) here ≡ one_more (count (length (pass rest)) (pass rest))
  count_all-some [] rest e = absurd cc
  count_all-some (b ∷ here) rest e = let shorter = after_eol_shorter 0 (b ∷ here) rest e in
      counts.some (length here) (b ∷ here) rest e ∙ ap one_more
      (count_same (length here) (length (pass rest)) (pass rest) (omega (arith, shorter, counts.passes rest)) (omega arith))

-- if the next EOL was found, there is one
pub next_eol_found : (here found : Bits) → next_eol here ≡ Some found → (length found ≤ length here)
    × ((after : Bits) × (after_eol 0 found ≡ Some after))
next_eol_found [] found e = absurd cc
next_eol_found (bit ∷ here) found e = by_after_eol (next_eol_found here found) (after_eol 0 (bit ∷ here)) refl
  where
    by_after_eol : (next_eol here ≡ Some found → (length found ≤ length here)
        × ((after : Bits) × (after_eol 0 found ≡ Some after))) → (o : Option Bits) → after_eol 0 (bit ∷ here) ≡ o
        → (length found ≤ length (bit ∷ here)) × ((after : Bits) × (after_eol 0 found ≡ Some after))
    by_after_eol on None f = grind arith
    by_after_eol on (Some rest) f = let g : ◌≡◌ {A = Option Bits} (Some (bit ∷ here)) (Some found) = rw (f, next_eol) at e in
        let same : (bit ∷ here) ≡ found = cc in
        subst (λ (x : Bits). (length x ≤ length (bit ∷ here)) × ((after : Bits) × (after_eol 0 x ≡ Some after))) same
        (omega arith, (rest, f))

-- a tag is consumed, or nothing
pub past_tag_shorter : (here : Bits) → length (past_tag here) ≤ length here
past_tag_shorter here = grind arith

-- if there is an EOL, the count of EOLs with their tags is that of those after it and its tag, and one more
pub eols_with_tags-some : (most : ℕ) (here rest : Bits) → after_eol 0 here ≡ Some rest
    → eols_with_tags (suc most) here ≡ one_more (eols_with_tags most (past_tag rest))
eols_with_tags-some most here rest e = rw (e, eols_with_tags) refl

-- if there is no EOL, none is counted
pub eols_with_tags-none : (most : ℕ) (here : Bits) → after_eol 0 here ≡ None → eols_with_tags most here ≡ (0, here)
eols_with_tags-none most here e = grind arith

-- both are counts of EOLs
pub counts_plain : CountsEols (λ here. here) eols
counts_plain = grind (arith, common_steps)

pub counts_tagged : CountsEols past_tag eols_with_tags
counts_tagged = grind (arith, common_steps)

pub last_tag_count : (found : ℕ × Bits) → (pass_last_tag found).0 ≡ found.0
last_tag_count found = grind arith

pub last_tag_shorter : (found : ℕ × Bits) → length (pass_last_tag found).1 ≤ length found.1
last_tag_shorter found = grind arith

-- counting EOLs leaves at most the bits that were there, and fewer where one came
abbrev pub Counted : Bits → ℕ × Bits → Type 0
Counted here found = (length found.1 ≤ length here) × (0 < found.0 → length found.1 < length here)

pub all_counted : (here : Bits) → Counted here (all_eols here)
all_counted here = (count_shorter counts_plain (length here) here, count_moves counts_plain (length here) here)

pub tagged_eols_counted : (here : Bits) → Counted here (tagged_eols here)
tagged_eols_counted here = let found : ℕ × Bits = eols_with_tags (length here) here in (
  omega (arith, last_tag_shorter found, count_shorter counts_tagged (length here) here),
  λ some. let counts : 0 < found.0 = omega (arith, last_tag_count found, some) in
      omega (arith, last_tag_shorter found, count_moves counts_tagged (length here) here counts),
)

-- if there is an EOL, it is counted, and those after it
pub all_eols-some : (here rest : Bits) → after_eol 0 here ≡ Some rest → all_eols here ≡ one_more (all_eols rest)
all_eols-some here rest e = count_all-some counts_plain here rest e

-- if there is none, none is counted
pub all_eols-none : (here : Bits) → after_eol 0 here ≡ None → all_eols here ≡ (0, here)
all_eols-none here e = eols-none (length here) here e

-- all EOLs here, with the tags between them
abbrev pub all_tagged : Bits → ℕ × Bits
all_tagged here = eols_with_tags (length here) here

-- if there is an EOL, it is counted, and those after its tag
pub all_tagged-some : (here rest : Bits) → after_eol 0 here ≡ Some rest → all_tagged here ≡ one_more (all_tagged (past_tag rest))
all_tagged-some here rest e = count_all-some counts_tagged here rest e

-- if there is none, none is counted
pub all_tagged-none : (here : Bits) → after_eol 0 here ≡ None → all_tagged here ≡ (0, here)
all_tagged-none here e = eols_with_tags-none (length here) here e
