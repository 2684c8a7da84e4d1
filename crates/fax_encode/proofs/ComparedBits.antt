-- Bits that are compared part by part.
use Rattle.std.proofs.Common.{Bool, Some, [], ap, append_assoc, arith, cond, false, length, refl, subst, suc, sym, take, true}
use Rattle.std.proofs.Common.{ℕ, ◌+◌, ◌-◌, ◌<◌, ◌≤◌, ◌≡◌, ◌≢◌, ◌∙◌, ◌∷◌, ◌++◌, zero, get_or}
use Rattle.std.proofs.lemmas.List.{append-nil, length-append, length-drop, get_or-drop}
use Rattle.std.proofs.Math.Seq.{take-append_seam}
use Rattle.std.specs.Prelude.{slice_get}
use Rattle.std.proofs.Common.{Result, Ok, Err, IfOk, OnOk, OnErr, IsErr, eqb, not, ◌/◌, ◌%◌, ◌^◌, ◌↔◌}
use Rattle.std.specs.Result.{is_ok}
use Rattle.std.proofs.lemmas.Option.{get_or_from_slice_get}
use mathlib.Core.Bool.{beq}
use Rattle.fax_bits.specs.declared.error.DecodeError.{DecodeError}
use Rattle.fax_bits.specs.Bits.{Bits, BitsAt, bit_of, here, low_bits}
use Rattle.fax_encode.specs.Comparing.{Compares, CountsBits, IsPassed, bits_of_mode, bits_of_runs}
use Rattle.fax_encode.specs.Procedure.{StandsUpTo, tag_of_line}
use Rattle.fax_encode.specs.declared.procedure.CodedMode.{CodedMode}
use Rattle.fax_encode.proofs.Names.{Color, EncodingMode, Group3_1D, Group3_2D, Group4, inl, inr, length-low_bits, ◌⊎◌, Mode}
use Rattle.fax_encode.proofs.Names.{Vertical, Has, mode_codes, is_near}
use Rattle.fax_encode.proofs.Names.{vertical_mode, word_of_mode}
use Rattle.fax_encode.proofs.ChosenLines.{is_vertical}

-- nothing is consumed yet
pub none_passed : (part : Bits) (at : BitsAt) → IsPassed part part at at
none_passed part at = record { first = []; is = refl; stands = refl; place = omega arith; same_bits = refl }

-- one part more
passed_on : {whole rest part left : Bits} {old middle new : BitsAt} (after : Bits) → IsPassed whole rest old middle
    → rest ≡ part ++ after → IsPassed part left middle new → IsPassed whole (left ++ after) old new
passed_on {whole} {rest} {part} {left} {old} {middle} {new} after before split more = record {
  first = before.first ++ more.first;
  is = before.is ∙ ap (λ (b : Bits). before.first ++ b) (split ∙ ap (λ (b : Bits). b ++ after) more.is
      ∙ append_assoc more.first left after) ∙ sym (append_assoc before.first more.first (left ++ after));
  stands = before.stands ∙ ap (λ (b : Bits). before.first ++ b) more.stands
      ∙ sym (append_assoc before.first more.first (here new));
  place = omega (arith, before.place, more.place, length-append before.first more.first);
  same_bits = more.same_bits ∙ before.same_bits;
}

-- the next part is here
pub compares_on : {whole rest part after : Bits} {old middle new : BitsAt} {is_here : Bool} → IsPassed whole rest old middle
    → rest ≡ part ++ after → Compares part middle new is_here → is_here ≡ true → IsPassed whole after old new
compares_on {whole} {rest} {part} {after} before split (Compares.passed more) is = passed_on after before split more
compares_on before split (Compares.differs bit left more differs) is = absurd cc

-- or isn't
pub stops : {whole rest part : Bits} {old middle new : BitsAt} {is_here : Bool} (after : Bits) → IsPassed whole rest old middle
    → rest ≡ part ++ after → Compares part middle new is_here → is_here ≡ false → Compares whole old new false
stops after before split (Compares.passed more) is = absurd cc
stops after before split (Compares.differs bit left more differs) is =
    Compares.differs bit (left ++ after) (passed_on after before split more) differs

-- a part by another name
pub compared_as : {part other : Bits} {old new : BitsAt} {is_here : Bool} → part ≡ other → Compares other old new is_here
    → Compares part old new is_here
compared_as {part} {other} {old} {new} {is_here} same more = subst (λ (b : Bits). Compares b old new is_here) (sym same) more

-- the last part
pub last_compared : {whole rest part : Bits} {old middle new : BitsAt} {is_here : Bool} → IsPassed whole rest old middle
    → rest ≡ part → Compares part middle new is_here → Compares whole old new is_here
last_compared {whole} {rest} {part} before same (Compares.passed more) =
    Compares.passed (passed_on [] before (same ∙ sym (append-nil part)) more)
last_compared {whole} {rest} {part} before same (Compares.differs bit left more differs) =
    Compares.differs bit (left ++ []) (passed_on [] before (same ∙ sym (append-nil part)) more) differs

-- no part is left
pub all_compared : {whole rest : Bits} {old new : BitsAt} → IsPassed whole rest old new → rest ≡ [] → Compares whole old new true
all_compared {whole} {rest} {old} {new} before none =
    Compares.passed (subst (λ (b : Bits). IsPassed whole b old new) none before)

-- the reader goes on
pub moves_on : {part : Bits} {old new : BitsAt} {is_here : Bool} → Compares part old new is_here → old.place ≤ new.place
moves_on (Compares.passed more) = omega (arith, more.place)
moves_on (Compares.differs bit left more differs) = omega (arith, more.place)

pub keeps_bits : {part : Bits} {old new : BitsAt} {is_here : Bool} → Compares part old new is_here → new.bits ≡ old.bits
keeps_bits (Compares.passed more) = more.same_bits
keeps_bits (Compares.differs bit left more differs) = more.same_bits

-- how many bits are counted that aren't here
pub if_here : {is_here : Bool} → is_here ≡ true → ◌≡◌ {A = ℕ} (cond is_here 0 1) 0
if_here is = rw is refl

pub if_not_here : {is_here : Bool} → is_here ≡ false → ◌≡◌ {A = ℕ} (cond is_here 0 1) 1
if_not_here is = rw is refl

pub if_few : (is_here : Bool) → cond is_here 0 1 ≤ 1
if_few true = omega arith
if_few false = omega arith

-- ---- Where the first bit differs.

get_first : (first : Bits) (bit : Bool) (left : Bits) → slice_get (first ++ bit ∷ left) (length first) ≡ Some bit
get_first [] bit left = refl
get_first (one ∷ first) bit left = get_first first bit left

first_is : (first next : Bits) (bit : Bool) → slice_get (first ++ next) (length first) ≡ Some bit
    → (rest : Bits) × (next ≡ bit ∷ rest)
first_is [] [] bit e = absurd cc
first_is [] (other ∷ next) bit e = (next, let same : other ≡ bit = cc in ap (λ (b : Bool). b ∷ next) same)
first_is (one ∷ first) next bit e = first_is first next bit e

stands_there : {part : Bits} {old new : BitsAt} (bit : Bool) (left : Bits) → IsPassed part (bit ∷ left) old new
    → ((rest : Bits) → here new ≢ bit ∷ rest) → StandsUpTo part (here old) (new.place - old.place)
stands_there {part} {old} {new} bit left more differs =
    let count : length more.first ≡ new.place - old.place = omega (arith, more.place) in
    subst (StandsUpTo part (here old)) count (record {
      fewer = omega (arith, ap length more.is, length-append more.first (bit ∷ left));
      first = ap (take (length more.first)) more.stands ∙ take-append_seam more.first (here new)
          ∙ sym (ap (take (length more.first)) more.is ∙ take-append_seam more.first (bit ∷ left));
      differs = λ same.
          let found = first_is more.first (here new) bit
          (ap (λ (b : Bits). slice_get b (length more.first)) (sym more.stands) ∙ same
          ∙ ap (λ (b : Bits). slice_get b (length more.first)) more.is ∙ get_first more.first bit left) in
          differs found.0 found.1;
    })

pub stands_up_to : {part : Bits} {old new : BitsAt} {is_here : Bool} → Compares part old new is_here → is_here ≡ false
    → StandsUpTo part (here old) (new.place - old.place)
stands_up_to (Compares.passed more) is = absurd cc
stands_up_to (Compares.differs bit left more differs) is = stands_there bit left more differs

pub stands_whole : {part : Bits} {old new : BitsAt} {is_here : Bool} → Compares part old new is_here → is_here ≡ true
    → here old ≡ part ++ here new
stands_whole {part} {old} {new} (Compares.passed more) is =
    more.stands ∙ ap (λ (b : Bits). b ++ here new) (sym (more.is ∙ append-nil more.first))
stands_whole (Compares.differs bit left more differs) is = absurd cc

pub whole_length : {part : Bits} {old new : BitsAt} {is_here : Bool} → Compares part old new is_here → is_here ≡ true
    → new.place ≡ old.place + length part
whole_length {part} {old} {new} (Compares.passed more) is =
    omega (arith, more.place, ap length (more.is ∙ append-nil more.first))
whole_length (Compares.differs bit left more differs) is = absurd cc

-- it is not here
pub stands_nowhere : {part here : Bits} {n : ℕ} → StandsUpTo part here n → (rest : Bits) → here ≢ part ++ rest
stands_nowhere {part} {here} {n} stands rest is =
    stands.differs (ap (λ (b : Bits). slice_get b n) is ∙ in_first part n stands.fewer)
  where
    in_first : (list : Bits) (k : ℕ) → k < length list → slice_get (list ++ rest) k ≡ slice_get list k
    in_first [] k lt = absurd (omega arith)
    in_first (one ∷ list) zero lt = refl
    in_first (one ∷ list) (suc k) lt = in_first list k (omega arith)

-- ---- One bit.

-- it isn't consumed unless it is here
pub none_consumed : {bit : Bool} {old new : BitsAt} {is_here : Bool} → Compares (bit ∷ []) old new is_here → is_here ≡ false
    → new.place ≡ old.place
none_consumed more is = omega (arith, moves_on more, (stands_up_to more is).fewer)

-- where it is counted, each bit that is consumed is, and the one that isn't here
pub bit_counted : {bit : Bool} {old new : BitsAt} {is_here : Bool} (before : ℕ) → Compares (bit ∷ []) old new is_here
    → CountsBits old new before (before + 1) is_here
bit_counted before (Compares.passed more) = omega (arith, whole_length (Compares.passed more) refl)
bit_counted before (Compares.differs bit left more differs) =
    omega (arith, none_consumed (Compares.differs bit left more differs) refl)

-- it is not the one that is next, or the data ends
pub bit_elsewhere : (at : BitsAt) (bit : Bool) → get_or at.bits at.place false ≢ bit → Compares (bit ∷ []) at at false
bit_elsewhere at bit other = Compares.differs bit [] (none_passed (bit ∷ []) at) (λ rest is. other (next_is rest is))
  where
    next_is : (rest : Bits) → here at ≡ bit ∷ rest → get_or at.bits at.place false ≡ bit
    next_is rest is = let same : at.place ≡ at.place + 0 = omega arith in
        ap (λ (n : ℕ). get_or at.bits n false) same ∙ sym (get_or-drop at.place at.bits 0 false)
        ∙ ap (λ (b : Bits). get_or b 0 false) is

pub bit_past_end : (at : BitsAt) (bit : Bool) → length at.bits ≤ at.place → Compares (bit ∷ []) at at false
bit_past_end at bit past = Compares.differs bit [] (none_passed (bit ∷ []) at)
    (λ rest is. absurd (omega (arith, past, ap length is, length-drop at.place at.bits)))

pub bit_here : (old new : BitsAt) (bit : Bool) → new.bits ≡ old.bits → new.place ≡ old.place + 1 → here old ≡ bit ∷ here new
    → Compares (bit ∷ []) old new true
bit_here old new bit same_bits place front =
    Compares.passed (record { first = bit ∷ []; is = refl; stands = front; place = omega (arith, place); same_bits = same_bits })

-- the highest of 32 bits
pub top_bit : (n : ℕ) → n < 4294967296 → eqb (n / 2147483648) 1 ≡ bit_of n 31
top_bit n lt = let same : n / 2147483648 ≡ n / 2 ^ 31 % 2 = omega (arith, lt) in ap (λ (m : ℕ). eqb m 1) same

pub are_others : (one other : Bool) → not (beq one other) ≡ true → one ≢ other
are_others true true e = absurd cc
are_others false false e = absurd cc
are_others true false e = λ is. absurd cc
are_others false true e = λ is. absurd cc

pub same_bits : (one other : Bool) → not (beq one other) ≡ false → one ≡ other
same_bits true true e = refl
same_bits false false e = refl
same_bits true false e = absurd cc
same_bits false true e = absurd cc

-- the next bit is read
pub bit_compared : (result : Result ℕ DecodeError) (old new : BitsAt) (bit : Bool) → get_or old.bits old.place false ≡ bit
    → IfOk result (λ b. (b ≤ 1) × (slice_get old.bits old.place ≡ Some (eqb b 1)))
    → OnOk result (new ≡ record old { place = old.place + 1 }) → IfOk result (λ b. here old ≡ eqb b 1 ∷ here new)
    → (IsErr result ↔ (length old.bits ≤ old.place)) → OnErr result (new ≡ old) → Compares (bit ∷ []) old new (is_ok result)
bit_compared (Ok b) old new bit is at next front end unchanged =
    let same : eqb b 1 ≡ bit = sym (get_or_from_slice_get old.bits old.place (eqb b 1) false at.1) ∙ is in
    bit_here old new bit (ap (λ (r : BitsAt). r.bits) next) (ap (λ (r : BitsAt). r.place) next)
    (front ∙ ap (λ (x : Bool). x ∷ here new) same)
bit_compared (Err e) old new bit is at next front end unchanged =
    subst (λ (r : BitsAt). Compares (bit ∷ []) old r false) (sym unchanged) (bit_past_end old bit (end.0 refl))

-- the next bit of a word
pub next_low : (left n : ℕ) → 0 < left → low_bits left n ≡ bit_of n (left - 1) ∷ low_bits (left - 1) n
next_low zero n lt = absurd (omega arith)
next_low (suc m) n lt =
    let same : m ≡ suc m - 1 = omega arith in ap (λ (k : ℕ). bit_of n k ∷ low_bits k n) same

-- ---- Lines.

pub no_tag : (encoding : EncodingMode) (is_two : Bool) → (encoding ≡ Group3_1D) ⊎ (encoding ≡ Group4)
    → tag_of_line encoding is_two ≡ []
no_tag Group3_1D is_two e = refl
no_tag Group4 is_two e = refl
no_tag Group3_2D is_two (inl e) = absurd cc
no_tag Group3_2D is_two (inr e) = absurd cc

-- a mode has some bits
pub mode_has_bits : (color : Color) (mode : CodedMode) → 0 < mode.word.count → 0 < length (bits_of_mode color mode)
mode_has_bits color mode some = omega (
  arith,
  some,
  length-append (low_bits mode.word.count mode.word.bits) (bits_of_runs color mode.runs),
  length-low_bits mode.word.count mode.word.bits,
)

some_in_word : (word long : Bits) → long ≡ word → 0 < length long → 0 < length word
some_in_word word long is some = omega (arith, some, ap length is)

mode_word_has_bits : (mode : Mode) (word : Bits) → Has mode_codes mode word → 0 < length word
mode_word_has_bits mode word (inl (m, w)) = some_in_word word _ w (omega arith)
mode_word_has_bits mode word (inr (inl (m, w))) = some_in_word word _ w (omega arith)
mode_word_has_bits mode word (inr (inr (inl (m, w)))) = some_in_word word _ w (omega arith)
mode_word_has_bits mode word (inr (inr (inr (inl (m, w))))) = some_in_word word _ w (omega arith)
mode_word_has_bits mode word (inr (inr (inr (inr (inl (m, w)))))) = some_in_word word _ w (omega arith)
mode_word_has_bits mode word (inr (inr (inr (inr (inr (inl (m, w))))))) = some_in_word word _ w (omega arith)
mode_word_has_bits mode word (inr (inr (inr (inr (inr (inr (inl (m, w)))))))) = some_in_word word _ w (omega arith)
mode_word_has_bits mode word (inr (inr (inr (inr (inr (inr (inr (inl (m, w))))))))) = some_in_word word _ w (omega arith)
mode_word_has_bits mode word (inr (inr (inr (inr (inr (inr (inr (inr (inl (m, w)))))))))) = some_in_word word _ w (omega arith)
mode_word_has_bits mode word (inr (inr (inr (inr (inr (inr (inr (inr (inr none))))))))) = absurd none

-- nor has the word of a vertical mode none
pub vertical_has_bits : (start to : ℕ) → is_near start to ≡ true → 0 < length (word_of_mode (vertical_mode start to))
vertical_has_bits start to near =
    let v = is_vertical start to near in
    omega (
      arith,
      mode_word_has_bits (Vertical v.k) (word_of_mode (Vertical v.k)) v.word,
      ap (λ (m : Mode). length (word_of_mode m)) v.mode,
    )
