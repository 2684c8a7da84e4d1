-- EOLs, also with tags between them, with more bits after.
use Rattle.fax_reading.proofs.Names.{eols_with_tags, length-append, pass_last_tag, common_steps, tagged_eols, after_eol, all_eols}
use Rattle.fax_reading.proofs.Names.{cases_lt, next_eol, one_more, past_tag, Option, le-leb, length, lt-leb, lt-ltb, arith, false}
use Rattle.fax_reading.proofs.Names.{Bits, Bool, None, Some, eols, refl, true, zero, ◌++◌, inl, suc, sym, ◌<◌, ◌∙◌, ◌∷◌, ◌≡◌, ◌≤◌}
use Rattle.fax_reading.proofs.Names.{◌⊎◌, [], ap, ℕ}
use Rattle.fax_bits.proofs.BitReading.ConsecutiveEols.{eols_with_tags-none, eols_with_tags-some, last_tag_count, counts_tagged}
use Rattle.fax_bits.proofs.BitReading.ConsecutiveEols.{all_tagged, count_same, eols-none, eols-some, eol_of}
use Rattle.fax_reading.specs.GapsContinued.{after_line_tag, holds_one}
use Rattle.fax_bits.proofs.BitReading.ZeroRuns.{eols_enough, eols_fewer}

-- what follows an EOL, with more bits after
abbrev pub then_more : Bits → Option Bits → Option Bits
then_more more None = None
then_more more (Some rest) = Some (rest ++ more)

-- a count of EOLs, with more bits after
abbrev pub count_then_more : Bits → ℕ × Bits → ℕ × Bits
count_then_more more found = (found.0, found.1 ++ more)

-- one EOL more makes no difference to the bits after
pub one_then_more : (more : Bits) (found : ℕ × Bits)
    → one_more (count_then_more more found) ≡ count_then_more more (one_more found)
one_then_more more (count, rest) = refl

-- ---- One EOL
-- where a one is left, more bits make no difference to whether there is an EOL
pub after_eol-more : (more : Bits) (seen : ℕ) (here : Bits) → holds_one here ≡ true
    → after_eol seen (here ++ more) ≡ then_more more (after_eol seen here)
after_eol-more more seen [] one = absurd cc
after_eol-more more seen (false ∷ here) one = after_eol-more more (suc seen) here one
after_eol-more more seen (true ∷ here) one = grind (arith, common_steps)

-- an EOL has a one
pub eol_holds_one : (seen : ℕ) (here rest : Bits) → after_eol seen here ≡ Some rest → holds_one here ≡ true
eol_holds_one seen [] rest e = absurd cc
eol_holds_one seen (false ∷ here) rest e = eol_holds_one (suc seen) here rest e
eol_holds_one seen (true ∷ here) rest e = refl

-- an EOL stays
pub eol-more : (more : Bits) (here rest : Bits) → after_eol 0 here ≡ Some rest → after_eol 0 (here ++ more) ≡ Some (rest ++ more)
eol-more more here rest e = after_eol-more more 0 here (eol_holds_one 0 here rest e) ∙ ap (then_more more) e

-- two bytes that are an EOL
abbrev pub bytes_of_eol : Bits
bytes_of_eol = false
    ∷ false ∷ false ∷ false ∷ false ∷ false ∷ false ∷ false ∷ false ∷ false ∷ false ∷ false ∷ false ∷ false ∷ false ∷ true ∷ []

-- where no one is left, an EOL may come
pub eol_may_come : (seen : ℕ) (here : Bits) → holds_one here ≡ false → after_eol seen (here ++ bytes_of_eol) ≡ Some []
eol_may_come seen [] none = eol_of seen 15 [] (omega arith)
eol_may_come seen (false ∷ here) none = eol_may_come (suc seen) here none
eol_may_come seen (true ∷ here) none = absurd cc

-- ---- The next EOL
pub next_eol_holds_one : (here found : Bits) → next_eol here ≡ Some found → holds_one here ≡ true
next_eol_holds_one [] found e = absurd cc
next_eol_holds_one (true ∷ here) found e = refl
next_eol_holds_one (false ∷ here) found e = grind (arith, common_steps, eol_holds_one, next_eol_holds_one here found)

-- the next EOL stays the next
pub next_eol-more : (more here found : Bits) → next_eol here ≡ Some found → next_eol (here ++ more) ≡ Some (found ++ more)
next_eol-more more [] found e = absurd cc
next_eol-more more (bit ∷ here) found e = by_after_eol (next_eol-more more here found) (after_eol 0 (bit ∷ here)) refl
  where
    by_after_eol : (next_eol here ≡ Some found → next_eol (here ++ more) ≡ Some (found ++ more)) → (o : Option Bits)
        → after_eol 0 (bit ∷ here) ≡ o → next_eol ((bit ∷ here) ++ more) ≡ Some (found ++ more)
    by_after_eol on None f = grind (arith, common_steps, after_eol-more, next_eol_holds_one)
    by_after_eol on (Some rest) f = grind (arith, common_steps, eol-more more (bit ∷ here) rest f)

-- where there is no next EOL, one may come
pub next_eol_may_come : (here : Bits) → next_eol here ≡ None
    → (found : Bits) × (next_eol (here ++ bytes_of_eol) ≡ Some found) × (after_eol 0 found ≡ Some [])
next_eol_may_come [] e = (bytes_of_eol, refl, refl)
next_eol_may_come (bit ∷ here) e = by_after_eol (next_eol_may_come here) (after_eol 0 (bit ∷ here)) refl
  where
    by_one : (b : Bool) → holds_one (bit ∷ here) ≡ b → after_eol 0 (bit ∷ here) ≡ None → next_eol here ≡ None
        → (next_eol here ≡ None → (found : Bits) × (next_eol (here ++ bytes_of_eol) ≡ Some found) × (after_eol 0 found ≡ Some []))
        → (found : Bits) × (next_eol (bit ∷ here ++ bytes_of_eol) ≡ Some found) × (after_eol 0 found ≡ Some [])
    by_one true one f none on = grind (arith, common_steps, after_eol-more)
    by_one false zeros f none on =
        let comes = eol_may_come 0 (bit ∷ here) zeros in (bit ∷ here ++ bytes_of_eol, rw (comes, next_eol) refl, comes)

    by_after_eol : (next_eol here ≡ None → (found : Bits) × (next_eol (here ++ bytes_of_eol) ≡ Some found)
        × (after_eol 0 found ≡ Some [])) → (o : Option Bits) → after_eol 0 (bit ∷ here) ≡ o
        → (found : Bits) × (next_eol (bit ∷ here ++ bytes_of_eol) ≡ Some found) × (after_eol 0 found ≡ Some [])
    by_after_eol on None f = by_one (holds_one (bit ∷ here)) refl f (rw (f, next_eol) at e) on
    by_after_eol on (Some rest) f = grind (arith, common_steps)

-- ---- Consecutive EOLs without tags
-- as many as were sought are counted whatever follows, and so are those after which no EOL comes
pub eols_stop : (more : Bits) (most : ℕ) (here : Bits) → (most ≤ (eols most here).0)
    ⊎ (after_eol 0 ((eols most here).1 ++ more) ≡ None) → eols most (here ++ more) ≡ count_then_more more (eols most here)
eols_stop more zero here settled = refl
eols_stop more (suc most) here settled = by_after_eol (λ rest. eols_stop more most rest) (after_eol 0 here) refl
  where
    by_after_eol : ((rest : Bits) → (most ≤ (eols most rest).0) ⊎ (after_eol 0 ((eols most rest).1 ++ more) ≡ None)
        → eols most (rest ++ more) ≡ count_then_more more (eols most rest)) → (o : Option Bits) → after_eol 0 here ≡ o
        → eols (suc most) (here ++ more) ≡ count_then_more more (eols (suc most) here)
    by_after_eol on None e = grind (arith, common_steps, eols-none)
    by_after_eol on (Some rest) e = let stepped : eols (suc most) here ≡ one_more (eols most rest) = eols-some most here rest e in
        let inside : (most ≤ (eols most rest).0) ⊎ (after_eol 0 ((eols most rest).1 ++ more) ≡ None) = grind arith in
        eols-some most (here ++ more) (rest ++ more) (eol-more more here rest e) ∙ ap one_more (on rest inside)
        ∙ one_then_more more (eols most rest) ∙ sym (ap (count_then_more more) stepped)

eols_over : (most : ℕ) (here : Bits) → (most ≤ (eols most here).0) ⊎ (after_eol 0 (eols most here).1 ≡ None)
eols_over zero here = inl (omega arith)
eols_over (suc most) here = grind (arith, eols_over most, eols-none, eols-some)

-- so are those before a one
pub eols-more : (more : Bits) (most : ℕ) (here : Bits) → (most ≤ (eols most here).0)
    ⊎ (holds_one (eols most here).1 ≡ true) → eols most (here ++ more) ≡ count_then_more more (eols most here)
eols-more more most here settled = grind (arith, eols_stop, eols_over most here, after_eol-more)

pub all_eols-more : (more here : Bits) → holds_one (all_eols here).1 ≡ true
    → all_eols (here ++ more) ≡ count_then_more more (all_eols here)
all_eols-more more here one = grind (arith, common_steps, eols_enough, length-append, eols-more)

-- where neither is so, an EOL more may come
pub eols_may_come : (most : ℕ) (here : Bits) → (eols most here).0 < most → holds_one (eols most here).1 ≡ false
    → eols most (here ++ bytes_of_eol) ≡ (suc (eols most here).0, [])
eols_may_come zero here few none = absurd (omega arith)
eols_may_come (suc most) here few none = grind (arith, eols_may_come most, eols-none, eols-some, eol_may_come, eol-more)

pub all_eols_may_come : (here : Bits) → holds_one (all_eols here).1 ≡ false
    → all_eols (here ++ bytes_of_eol) ≡ (suc (all_eols here).0, [])
all_eols_may_come here none = grind (arith, common_steps, length-append, eols_enough, eols_fewer, eols_may_come)

-- the bits after a tag of one
abbrev pub following_one : Bits → Bits
following_one [] = []
following_one (false ∷ here) = false ∷ here
following_one (true ∷ here) = here

-- a one after a tag is a one
one_after_one : (here : Bits) → holds_one (following_one here) ≡ true → holds_one here ≡ true
one_after_one here one = grind arith

-- ---- The tag before an EOL
-- where a one is left after the tag, more bits make no difference to whether it is passed
past_tag-more : (more here : Bits) → holds_one (following_one here) ≡ true → past_tag (here ++ more) ≡ past_tag here ++ more
past_tag-more more here one = grind (arith, after_eol-more, eol-more)

-- a one is left after the tag if one is left after the next tag
one_after_past : (here : Bits) → holds_one (following_one (past_tag here)) ≡ true → holds_one (following_one here) ≡ true
one_after_past here one = grind (arith, eol_holds_one)

-- or if an EOL is after the tag
one_in_eol : (here rest : Bits) → after_eol 0 (past_tag here) ≡ Some rest → holds_one (following_one here) ≡ true
one_in_eol here rest f = grind (arith, eol_holds_one)

-- ---- The EOLs after an EOL
-- the EOLs after a tag
abbrev tagged_past : ℕ → Bits → ℕ × Bits
tagged_past most here = eols_with_tags most (past_tag here)

-- where a one is left after the last tag, more bits make no difference
tagged_past-more : (more : Bits) (most : ℕ) (here : Bits) → holds_one (following_one (tagged_past most here).1) ≡ true
    → tagged_past most (here ++ more) ≡ count_then_more more (tagged_past most here)
tagged_past-more more zero here one = ap (λ (rest : Bits). (0, rest)) (past_tag-more more here (one_after_past here one))
tagged_past-more more (suc most) here one = by_after_eol (λ rest. tagged_past-more more most rest) (after_eol 0 (past_tag here))
    refl
  where
    by_after_eol : ((rest : Bits) → holds_one (following_one (tagged_past most rest).1) ≡ true → tagged_past most (rest ++ more)
        ≡ count_then_more more (tagged_past most rest)) → (o : Option Bits) → after_eol 0 (past_tag here) ≡ o
        → tagged_past (suc most) (here ++ more) ≡ count_then_more more (tagged_past (suc most) here)
    by_after_eol on None e =
        grind (arith, common_steps, eols_with_tags-none, after_eol-more, one_after_one, past_tag-more, one_after_past)
    by_after_eol on (Some rest) e = let is = eols_with_tags-some most (past_tag here) rest e in
        let left : holds_one (following_one (tagged_past most rest).1) ≡ true = sym
        (ap (λ (found : ℕ × Bits). holds_one (following_one found.1)) is) ∙ one in
        ap (eols_with_tags (suc most)) (past_tag-more more here (one_in_eol here rest e))
        ∙ eols_with_tags-some most (past_tag here ++ more) (rest ++ more) (eol-more more (past_tag here) rest e)
        ∙ ap one_more (on rest left) ∙ one_then_more more (tagged_past most rest) ∙ sym (ap (count_then_more more) is)

-- where no one is, an EOL more may come
tagged_past_may_come : (most : ℕ) (here : Bits) → (tagged_past most here).0 < most → holds_one
    (following_one (tagged_past most here).1) ≡ false
    → tagged_past most (here ++ bytes_of_eol) ≡ (suc (tagged_past most here).0, [])
tagged_past_may_come zero here few none = absurd (omega arith)
tagged_past_may_come (suc most) here few none = by_after_eol (λ rest. tagged_past_may_come most rest)
    (after_eol 0 (past_tag here)) refl
  where
    by_after_eol : ((rest : Bits) → (tagged_past most rest).0 < most → holds_one (following_one (tagged_past most rest).1) ≡ false
        → tagged_past most (rest ++ bytes_of_eol) ≡ (suc (tagged_past most rest).0, [])) → (o : Option Bits) → after_eol 0
        (past_tag here) ≡ o → tagged_past (suc most) (here ++ bytes_of_eol) ≡ (suc (tagged_past (suc most) here).0, [])
    by_after_eol on None e = grind (arith, common_steps, eols_with_tags-none, eols_with_tags-some, eol_may_come)
    by_after_eol on (Some rest) e = grind (arith, common_steps, eols_with_tags-some, past_tag-more, one_in_eol, eol-more)

-- ---- The EOLs here
-- the bits after the tag that EOLs are before
abbrev pub after_first_tag : ℕ × Bits → Bits
after_first_tag (zero, rest) = rest
after_first_tag (suc count, rest) = following_one rest

-- there are at most as many EOLs as were sought
tagged_at_most : (most : ℕ) (here : Bits) → (eols_with_tags most here).0 ≤ most
tagged_at_most zero here = omega arith
tagged_at_most (suc most) here = grind (arith, tagged_at_most most, eols_with_tags-none, eols_with_tags-some)

-- ---- The tag of RTC

-- the bits after the last tag, whether it is a line's or that of RTC
pub last_tag_tested : (found : ℕ × Bits) → after_line_tag (pass_last_tag found) ≡ after_first_tag found
last_tag_tested found = grind (arith, cases_lt, lt-leb, lt-ltb, le-leb)

-- where a one is left after the tag, more bits make no difference
pub tagged_eols-more : (more here : Bits) → holds_one (after_line_tag (tagged_eols here)) ≡ true
    → tagged_eols (here ++ more) ≡ count_then_more more (tagged_eols here)
tagged_eols-more more here one = let most = suc (length (here ++ more)) in
    let long = length-append here more in
    let fewer : eols_with_tags most here ≡ all_tagged here = count_same counts_tagged most (length here) here
    (omega (arith, long)) (omega arith) in
    let all : eols_with_tags most (here ++ more) ≡ all_tagged (here ++ more) = count_same counts_tagged most
    (length (here ++ more)) (here ++ more) (omega arith) (omega arith) in
    let left : holds_one (after_first_tag (all_tagged here)) ≡ true = sym (ap holds_one (last_tag_tested (all_tagged here)))
    ∙ one in
    let counted : all_tagged (here ++ more) ≡ count_then_more more (all_tagged here) = grind
    (arith, common_steps, eols_with_tags-none, after_eol-more, eols_with_tags-some, eol-more, tagged_past-more, one_then_more) in
    ap pass_last_tag counted ∙ (grind arith)

-- where none is, an EOL more may come
pub tagged_eols_may_come : (here : Bits) → holds_one (after_line_tag (tagged_eols here)) ≡ false
    → tagged_eols (here ++ bytes_of_eol) ≡ (suc (tagged_eols here).0, [])
tagged_eols_may_come here none = grind (
  arith,
  common_steps,
  length-append here bytes_of_eol,
  count_same counts_tagged,
  counts_tagged,
  last_tag_tested (all_tagged here),
  tagged_at_most (length here) here,
  eols_with_tags-none,
  eols_with_tags-some,
  eol_may_come,
  eol-more,
  tagged_past_may_come,
  last_tag_count (all_tagged here),
)
