-- Words of pixels, and turning the colour within one.
use Rattle.fax_bitmap.proofs.Names.{◌≡◌, ℕ, zero, suc, ◌+◌, ◌-◌, ◌%◌, ◌^◌, ◌<◌, ◌≤◌, Bool, not, [], ◌∷◌, ◌++◌}
use Rattle.fax_bitmap.proofs.Names.{length, replicate, eqb, refl, sym, ap, ◌∙◌, arith, bit_at}
use Rattle.fax_bitmap.proofs.Names.{bit_xor}
use Rattle.fax_bitmap.proofs.Names.{bit_at_xor, bit_at_ones, bit_at_ones_above, bit_at-lt, Bits, bit_of}
use Rattle.fax_bitmap.proofs.Names.{low_bits}

-- ---- turning the colour
-- a bit that is turned
turned_bit : (b : ℕ) → b < 2 → eqb ((b + 1) % 2) 1 ≡ not (eqb b 1)
turned_bit zero lt = refl
turned_bit (suc zero) lt = refl
turned_bit (suc (suc b)) lt = absurd (omega arith)

-- a bit that stays
kept_bit : (b : ℕ) → b < 2 → (b + 0) % 2 ≡ b
kept_bit b lt = omega arith

pub turned_bit_at : (m n k : ℕ) → k < m → bit_of (bit_xor n (2 ^ m - 1)) k ≡ not (bit_of n k)
turned_bit_at m n k lt =
    ap (λ (b : ℕ). eqb b 1) (bit_at_xor n (2 ^ m - 1) k ∙ ap (λ (b : ℕ). (bit_at n k + b) % 2) (bit_at_ones m k lt))
    ∙ turned_bit (bit_at n k) (bit_at-lt n k)

pub kept_at : (m n k : ℕ) → m ≤ k → bit_of (bit_xor n (2 ^ m - 1)) k ≡ bit_of n k
kept_at m n k le =
    ap (λ (b : ℕ). eqb b 1) (bit_at_xor n (2 ^ m - 1) k ∙ ap (λ (b : ℕ). (bit_at n k + b) % 2) (bit_at_ones_above m k le)
    ∙ kept_bit (bit_at n k) (bit_at-lt n k))

turned_low : (k m n : ℕ) (color : Bool) → k ≤ m → low_bits k n ≡ replicate k color
    → low_bits k (bit_xor n (2 ^ m - 1)) ≡ replicate k (not color)
turned_low zero m n color le e = refl
turned_low (suc k) m n color le e =
    let first : bit_of n k ≡ color = cc in
    let rest : low_bits k n ≡ replicate k color = cc in
    let one = turned_bit_at m n k (omega arith) in
    let others = turned_low k m n color (omega arith) rest in
    cc

-- from a position on the colour turns
pub turned_following : (front : Bits) (m n total : ℕ) (color : Bool) → total ≡ length front + m
    → low_bits total n ≡ front ++ replicate m color → low_bits total (bit_xor n (2 ^ m - 1)) ≡ front ++ replicate m (not color)
turned_following [] m n total color is e =
    let same : total ≡ m = omega arith in
    ap (λ (k : ℕ). low_bits k (bit_xor n (2 ^ m - 1))) same
    ∙ turned_low m m n color (omega arith) (sym (ap (λ (k : ℕ). low_bits k n) same) ∙ e)
turned_following (b ∷ front) m n zero color is e = absurd (omega arith)
turned_following (b ∷ front) m n (suc total) color is e =
    let first : bit_of n total ≡ b = cc in
    let rest : low_bits total n ≡ front ++ replicate m color = cc in
    let one = kept_at m n total (omega arith) in
    let others = turned_following front m n total color (omega arith) rest in
    cc

-- the same of bytes and the word after them
pub turned_under : (bytes word word' front : Bits) (n : ℕ) (color color' : Bool) → bytes ++ word ≡ front ++ replicate n color
    → length bytes ≤ length front → ((f : Bits) → length f ≡ length front - length bytes → word ≡ f ++ replicate n color
    → word' ≡ f ++ replicate n color') → bytes ++ word' ≡ front ++ replicate n color'
turned_under [] word word' front n color color' e le turn = turn front (omega arith) e
turned_under (b ∷ bytes) word word' [] n color color' e le turn = absurd (omega arith)
turned_under (b ∷ bytes) word word' (f ∷ front) n color color' e le turn =
    let first : b ≡ f = cc in
    let rest : bytes ++ word ≡ front ++ replicate n color = cc in
    let others = turned_under bytes word word' front n color color' rest (omega arith) (λ g len. turn g (omega arith)) in
    cc
