-- EOLs without fill.
use Rattle.fax_bits.proofs.Names.{◌≡◌, ℕ, ◌+◌, ◌-◌, ◌*◌, ◌/◌, ◌%◌, ◌^◌, ◌<◌, ◌≤◌, true, false, eqb, length, get_or, cond, leb}
use Rattle.fax_bits.proofs.Names.{drop, min, Some, None, sym, ap, ◌∙◌, arith, inl, inr, count_leading_zeros, count_trailing_zeros}
use Rattle.fax_bits.proofs.Names.{bit_at, cases_lt, get_or-drop, length-drop, drop_min, leading_top, shr-shr, pow-le-pow_right}
use Rattle.fax_bits.proofs.Names.{bit_at_above, bit_at_cat_low, bit_at-trailing_zeros, Bits, BitsAt, here, bit_of, looked}
use Rattle.fax_bits.proofs.Names.{after_eol, all_eols, pass_last_tag, tagged_eols, common_steps}
use Rattle.fax_bits.proofs.BitReading.ZeroRuns.{after_eol_run, eols_one, eols_enough, looked_eol, looked_run}
use Rattle.fax_bits.proofs.BitReading.ConsecutiveEols.{after_eol_shorter, eols_with_tags-some, eols_with_tags-none}
use Rattle.std.specs.Int.{w32}
use Rattle.fax_bits.proofs.BitReading.{SoughtEols.one_near, ZerosPassed.HoldsNextBits, ZerosPassed.run_ahead}

-- ---- The word.
-- eleven zeros and a one
eleven_zeros : (w : ℕ) → w < 2 ^ 32 → w / 1048576 ≡ 1 → count_leading_zeros 32 w ≡ 11
eleven_zeros w small one = let top = leading_top 32 w (omega (arith, one)) small in
    let above : 20 ≤ top.0 = grind (arith, common_steps, cases_lt, pow-le-pow_right) in
    grind (arith, cases_lt 20 top.0, pow-le-pow_right {n = 2} (omega arith) {i = 21} {j = top.0})

module _ (at : BitsAt) (w : ℕ) (small : w < 2 ^ 32) (held : HoldsNextBits w at) where
  -- a word with a one says whether an EOL is here, and how many bits are examined
  pub word_says : count_leading_zeros 32 w < 32 → (after_eol 0 (here at) ≡ cond (leb 11 (count_leading_zeros 32 w))
      (Some (drop (at.place + (count_leading_zeros 32 w + 1)) at.bits)) None) × (looked (here at) ≡ count_leading_zeros 32 w + 1)
  word_says few = let n = count_leading_zeros 32 w in
      let run = run_ahead at w small held few in
      grind (arith, after_eol_run, looked_run)

  -- an EOL without fill is here
  pub plain_eol_here : w / 1048576 ≡ 1 → (after_eol 0 (here at) ≡ Some (drop (at.place + 12) at.bits)) × (looked (here at) ≡ 12)
  plain_eol_here one = grind (arith, eleven_zeros, word_says)

  -- it is passed
  module _ (one : w / 1048576 ≡ 1) (next : BitsAt) (e : next ≡ record at { place = min (at.place + 12) (length at.bits) }) where
    pub plain_eol : after_eol 0 (here at) ≡ Some (here next)
    plain_eol = grind (arith, plain_eol_here, drop_min)

    pub twelve_more : length (here at) ≡ length (here next) + 12
    twelve_more = omega (arith, looked_eol 0 (here at) (here next) plain_eol, (plain_eol_here one).1)

    pub plain_eol_within : next.place ≡ at.place + 12
    plain_eol_within = grind (arith, common_steps, length-drop, twelve_more)

  -- a one among the ten bits after a tag
  module _ (some : (w / 512) % 1024 ≡ 0 → ⊥) where
    abbrev ten : ℕ
    ten = (w / 512) % 1024

    abbrev zeros_after : ℕ
    zeros_after = count_trailing_zeros 32 ten

    lowest : (zeros_after < 32) × (bit_at ten zeros_after ≡ 1)
    lowest = grind (arith, common_steps, bit_at-trailing_zeros w32 ten, cases_lt 0 ten)

    within_ten : zeros_after < 10
    within_ten = elim (cases_lt zeros_after 10) [
      | inl lt ↦ lt
      | inr ge ↦
          absurd (let none = bit_at_above ten 10 zeros_after (omega arith) ge in let one = lowest.1 in omega (arith, none, one))
    ]

    one_there : get_or at.bits (at.place + (22 - zeros_after)) false ≡ true
    one_there = let e : 9 + zeros_after ≡ 31 - (22 - zeros_after) = omega (arith, within_ten) in
        let whole : w / 512 ≡ (w / 512 / 1024) * 2 ^ 10 + ten = omega arith in
        let low : bit_at (w / 512) zeros_after ≡ bit_at ten zeros_after = ap (λ (n : ℕ). bit_at n zeros_after) whole
        ∙ bit_at_cat_low (w / 512 / 1024) 10 ten zeros_after within_ten in
        let bit : bit_of w (9 + zeros_after) ≡ true = sym (ap (λ (m : ℕ). eqb (m % 2) 1) (shr-shr w 9 zeros_after))
        ∙ ap (λ (m : ℕ). eqb m 1) (low ∙ lowest.1) in
        sym (held (22 - zeros_after) (omega arith)) ∙ ap (bit_of w) (sym e) ∙ bit

    -- no EOL begins after the twelve bits before it, nor a bit later
    pub none_after : (next : BitsAt) → next.bits ≡ at.bits → next.place ≡ at.place + 12 → (after_eol 0 (here next) ≡ None)
        × (after_eol 0 (drop 1 (here next)) ≡ None)
    none_after next same place = let step = one_near 0 (9 - zeros_after) (drop 1 (here next)) (omega arith) in
        let step2 = get_or-drop next.place next.bits (10 - zeros_after) false in
        grind (arith, one_near, get_or-drop, one_there, within_ten)

-- ---- The EOLs.
-- the first, and the others
pub eol_and_others : (here rest : Bits) → after_eol 0 here ≡ Some rest
    → all_eols here ≡ (1 + (all_eols rest).0, (all_eols rest).1)
eol_and_others here rest e = grind (arith, common_steps, after_eol_shorter, eols_enough, eols_one)

pub few_keep_the_tag : (here : Bits) → pass_last_tag (1, here) ≡ (1, here)
few_keep_the_tag here = grind (arith, common_steps)

-- one alone
pub single_tagged_eol : (here rest : Bits) → after_eol 0 here ≡ Some rest → after_eol 0 rest ≡ None
    → after_eol 0 (drop 1 rest) ≡ None → tagged_eols here ≡ (1, rest)
single_tagged_eol here rest e none later = grind (arith, common_steps, eols_with_tags-none, eols_with_tags-some, few_keep_the_tag)
