-- What is chosen by settings is read to its last byte.
use Rattle.fax_encode.proofs.Names.{◌≡◌, ◌≢◌, ℕ, zero, suc, ◌+◌, ◌-◌, ◌/◌, ◌%◌, ◌<◌, ◌≤◌, Bool, true, false, List, [], ◌∷◌, ◌++◌}
use Rattle.fax_encode.proofs.Names.{length, replicate, refl, sym, ap, subst, ◌∙◌, arith, append_assoc, Ok, length-append}
use Rattle.fax_encode.proofs.Names.{length-replicate, DecodeSettings, EncodingMode, Group4, Group3_1D, Group3_2D, BitOrder, Bits}
use Rattle.fax_encode.proofs.Names.{AreWholeBytes, bits_in, Row, eol, tag_of, padding, eols, past_tag, eols_with_tags}
use Rattle.fax_encode.proofs.Names.{pass_last_tag, one_more, GivesAll, BeginsWithRowsT6, BeginsWithRowsT4}
use Rattle.fax_encode.proofs.Names.{BeginsWithRowsAndEolsT4, Ending, Reading, end_of, eols_here, ending_after, first_gap}
use Rattle.fax_encode.proofs.Names.{AreSettings, length-bits_in, bits_are_whole, eols-some, eols_with_tags-some}
use Rattle.fax_encode.proofs.Names.{eols_with_tags-none, eols_here_counted, body_end, rows_t4_end, ended_with, plain_ends}
use Rattle.fax_encode.proofs.Names.{eol_stands, eols_here_one, eols_here_two, limited_t4_end, matches_itself, filled_up}
use Rattle.fax_encode.proofs.Names.{chosen_eols, fill_of, zeros_end}
use Rattle.fax_encode.proofs.RoundTrip.{eols_end}

-- ---- the EOLs of RTC
abbrev zeros : ℕ → Bits
zeros n = replicate n false

-- the first of several EOLs
eols_first : (encoding : EncodingMode) (fills : Bool) (at n : ℕ) (more : Bits)
    → chosen_eols encoding fills at (suc n) ++ more ≡ eol (fill_of fills at)
    ++ (tag_of encoding ++ (chosen_eols encoding fills (at + 12 + fill_of fills at + length (tag_of encoding)) n ++ more))
eols_first encoding fills at n more =
    let after : Bits = chosen_eols encoding fills (at + 12 + fill_of fills at + length (tag_of encoding)) n in
    append_assoc (eol (fill_of fills at) ++ tag_of encoding) after more
    ∙ append_assoc (eol (fill_of fills at)) (tag_of encoding) (after ++ more)

-- of one-dimensional data
one_closing : (fills : Bool) (most at n k : ℕ) → n ≤ most → (eols most (chosen_eols Group3_1D fills at n ++ zeros k)).1 ≡ zeros k
one_closing fills most at zero k le = ap (λ (f : ℕ × Bits). f.1) (eols_end most k)
one_closing fills zero at (suc n) k le = absurd (omega arith)
one_closing fills (suc most) at (suc n) k le =
    let fill : ℕ = fill_of fills at in
    let next : ℕ = at + 12 + fill + 0 in
    let rest : Bits = chosen_eols Group3_1D fills next n ++ zeros k in
    let here : chosen_eols Group3_1D fills at (suc n) ++ zeros k ≡ eol fill ++ rest = eols_first Group3_1D fills at n (zeros k) in
    ap (λ (b : Bits). (eols (suc most) b).1) here ∙ ap (λ (f : ℕ × Bits). f.1)
    (eols-some most (eol fill ++ rest) rest (eol_stands fill rest)) ∙ one_closing fills most next n k (omega arith)

-- an EOL stands after a tag, or none
tag_before_eol : (fill : ℕ) (more : Bits) → past_tag (true ∷ (eol fill ++ more)) ≡ eol fill ++ more
tag_before_eol fill more = rw (eol_stands fill more, past_tag) refl

tag_before_zeros : (k : ℕ) → past_tag (true ∷ zeros k) ≡ true ∷ zeros k
tag_before_zeros k = rw (zeros_end 0 k, past_tag) refl

-- of two-dimensional data: the last tag is left
two_closing : (fills : Bool) (most at n k : ℕ) → suc n ≤ most
    → eols_with_tags most (chosen_eols Group3_2D fills at (suc n) ++ zeros k) ≡ (suc n, true ∷ zeros k)
two_closing fills zero at n k le = absurd (omega arith)
two_closing fills (suc most) at zero k le =
    let fill : ℕ = fill_of fills at in
    let rest : Bits = true ∷ zeros k in
    let here : chosen_eols Group3_2D fills at 1 ++ zeros k ≡ eol fill ++ rest = eols_first Group3_2D fills at 0 (zeros k) in
    ap (eols_with_tags (suc most)) here ∙ eols_with_tags-some most (eol fill ++ rest) rest (eol_stands fill rest)
    ∙ ap (λ (b : Bits). one_more (eols_with_tags most b)) (tag_before_zeros k)
    ∙ ap one_more (eols_with_tags-none most (true ∷ zeros k) refl)
two_closing fills (suc most) at (suc n) k le =
    let fill : ℕ = fill_of fills at in
    let next : ℕ = at + 12 + fill + 1 in
    let after : Bits = chosen_eols Group3_2D fills next (suc n) ++ zeros k in
    let rest : Bits = true ∷ after in
    let here : chosen_eols Group3_2D fills at (suc (suc n)) ++ zeros k ≡ eol fill ++ rest
    = eols_first Group3_2D fills at (suc n) (zeros k) in
    let fill_after : ℕ = fill_of fills next in
    let last : Bits = true ∷ (chosen_eols Group3_2D fills (next + 12 + fill_after + 1) n ++ zeros k) in
    let begins : after ≡ eol fill_after ++ last = eols_first Group3_2D fills next n (zeros k) in
    let tag : past_tag rest ≡ after =
    ap (λ (b : Bits). past_tag (true ∷ b)) begins ∙ tag_before_eol fill_after last ∙ sym begins in
    ap (eols_with_tags (suc most)) here ∙ eols_with_tags-some most (eol fill ++ rest) rest (eol_stands fill rest)
    ∙ ap (λ (b : Bits). one_more (eols_with_tags most b)) tag ∙ ap one_more (two_closing fills most next n k (omega arith))

-- there are at least as many bits as EOLs
eols_are_long : (encoding : EncodingMode) (fills : Bool) (at n : ℕ) → n ≤ length (chosen_eols encoding fills at n)
eols_are_long encoding fills at zero = omega arith
eols_are_long encoding fills at (suc n) =
    let fill : ℕ = fill_of fills at in
    let next : ℕ = at + 12 + fill + length (tag_of encoding) in
    omega (
      arith,
      length-append (eol fill ++ tag_of encoding) (chosen_eols encoding fills next n),
      length-append (eol fill) (tag_of encoding),
      length-append (replicate (11 + fill) false) (true ∷ []),
      eols_are_long encoding fills next n,
    )

long_enough : (encoding : EncodingMode) (fills : Bool) (at k : ℕ) → 6 ≤ length (chosen_eols encoding fills at 6 ++ zeros k)
long_enough encoding fills at k =
    omega (arith, length-append (chosen_eols encoding fills at 6) (zeros k), eols_are_long encoding fills at 6)

-- nothing but zeros is left after RTC
pub rtc_left : (d : DecodeSettings) (encoding : EncodingMode) (fills : Bool) (at k : ℕ) → d.encoding ≡ encoding
    → encoding ≢ Group4 → (eols_here d (chosen_eols encoding fills at 6 ++ zeros k)).1 ≡ zeros k
rtc_left d Group4 fills at k is not_t6 = absurd (not_t6 refl)
rtc_left d Group3_1D fills at k is not_t6 =
    let here : Bits = chosen_eols Group3_1D fills at 6 ++ zeros k in
    ap (λ (f : ℕ × Bits). f.1) (eols_here_one d here is)
    ∙ one_closing fills (length here) at 6 k (long_enough Group3_1D fills at k)
rtc_left d Group3_2D fills at k is not_t6 =
    let here : Bits = chosen_eols Group3_2D fills at 6 ++ zeros k in
    ap (λ (f : ℕ × Bits). f.1) (eols_here_two d here is)
    ∙ ap (λ (f : ℕ × Bits). (pass_last_tag f).1) (two_closing fills (length here) at 5 k (long_enough Group3_2D fills at k))

-- ---- all bytes
-- fewer than eight bits are left of whole bytes
pub all_but : (order : BitOrder) (bytes : List ℕ) (rest : Bits) → length rest < 8
    → (length (bits_in order bytes) - length rest + 7) / 8 ≡ length bytes
all_but order bytes rest few = omega (arith, length-bits_in order bytes)

pub few_zeros : (n : ℕ) → length (padding n) < 8
few_zeros n = omega (arith, length-replicate ((8 - n % 8) % 8) false)

-- the bits of the bytes, rounded up
pub rounded_up : (order : BitOrder) (bits : Bits) (bytes : List ℕ) → bits_in order bytes ≡ filled_up bits
    → (length bits + 7) / 8 ≡ length bytes
rounded_up order bits bytes e =
    omega (
      arith,
      ap length e,
      length-bits_in order bytes,
      length-append bits (padding (length bits)),
      length-replicate ((8 - length bits % 8) % 8) false,
    )

pub rtc_few : (d : DecodeSettings) (encoding : EncodingMode) (fills : Bool) (at n : ℕ) → d.encoding ≡ encoding → encoding ≢ Group4
    → length (eols_here d (chosen_eols encoding fills at 6 ++ padding n)).1 < 8
rtc_few d encoding fills at n is not_t6 =
    omega (arith, ap length (rtc_left d encoding fills at ((8 - n % 8) % 8) is not_t6), few_zeros n)

module _ (order : BitOrder) (d : DecodeSettings) (rows : List Row) (bytes : List ℕ) (are : AreSettings d) where
  abbrev whole : Bits
  whole = bits_in order bytes

  -- a reading that ends so has them all
  pub read_all : (end : Ending) (found : Bits) → 0 < d.columns → end_of d whole ≡ end → end.outcome ≡ Ok found → end.rows ≡ rows
      → length found < 8 → GivesAll d whole rows (length bytes)
  read_all end found wide e outcome rows_are few =
      let read = plain_ends d whole end found wide e outcome in (
        ap (λ (a : Reading). a.rows) read ∙ rows_are,
        ap (λ (a : Reading). a.outcome) read ∙ ap (λ (n : ℕ). Ok n) (all_but order bytes found few),
      )

  few_left : (more : Bits) → length more < 8 → length (eols_here d more).1 < 8
  few_left more few = omega (arith, few, (eols_here_counted d more).0)

  pub all_t6 : (bits : Bits) (begins : BeginsWithRowsT6 d rows bits whole) → length begins.begins.0 < 8
      → GivesAll d whole rows (length bytes)
  all_t6 bits begins few =
      let more : Bits = begins.begins.0 in
      let found : Bits = (eols_here d more).1 in
      let ends_whole : AreWholeBytes (bits ++ more) = subst AreWholeBytes begins.begins.1 (bits_are_whole order bytes) in
      let ends = ap (λ (e : EncodingMode). ending_after d (first_gap e d (bits ++ more))) begins.encoding
      ∙ body_end d begins.picture.0 (omega (arith, are.columns)) Group4 begins.encoding rows bits more begins.some begins.limit
      begins.picture (λ e. ends_whole) begins.lines in
      read_all (ended_with rows found) found begins.picture.0 (ap (end_of d) begins.begins.1 ∙ ends) refl refl (few_left more few)

  pub all_t4 : (bits : Bits) (begins : BeginsWithRowsT4 d rows bits whole) → length begins.begins.0 < 8
      → GivesAll d whole rows (length bytes)
  all_t4 bits begins few =
      let more : Bits = begins.begins.0 in
      let found : Bits = (eols_here d more).1 in
      let ends_whole : AreWholeBytes (bits ++ more) = subst AreWholeBytes begins.begins.1 (bits_are_whole order bytes) in
      let ends = rows_t4_end d begins.picture.0 (omega (arith, are.columns)) d.encoding refl rows bits more begins.some
      begins.limit begins.picture (λ e. ends_whole) begins.lines begins.encoding begins.end_of_line in
      read_all (ended_with rows found) found begins.picture.0 (ap (end_of d) begins.begins.1 ∙ ends) refl refl (few_left more few)

  pub all_t4_with_eols : (bits : Bits) (begins : BeginsWithRowsAndEolsT4 d rows bits whole) → length begins.begins.0 < 8
      → GivesAll d whole rows (length bytes)
  all_t4_with_eols bits begins few =
      let more : Bits = begins.begins.0 in
      let found : Bits = (eols_here d more).1 in
      let ends = limited_t4_end d begins.picture.0 (omega (arith, are.columns)) d.encoding rows bits more
      (matches_itself d begins.encoding) begins.limit begins.some begins.picture begins.lines in
      read_all (record { rows = rows; has_eols = true; outcome = Ok found }) found begins.picture.0
      (ap (end_of d) begins.begins.1 ∙ ends) refl refl (few_left more few)
