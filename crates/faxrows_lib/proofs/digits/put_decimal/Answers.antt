use Rattle.faxrows_lib.proofs.Names.{◌≡◌, ℕ, ◌+◌, ◌-◌, ◌/◌, ◌^◌, ◌<◌, ◌≤◌, List, [], ◌∷◌, ◌++◌, length, drop, set, ap, sym, ◌∙◌}
use Rattle.faxrows_lib.proofs.Names.{append_assoc, arith, rules, length-append, length-drop, decimal_step, decimal_digit}
use Rattle.faxrows_lib.proofs.Names.{decimal_nonempty, length-decimal-le, drop-set, decimal}
use Rattle.faxrows_lib.proofs.digits.put_decimal.Goals as goal

-- a number of more than one digit has at least two
two_digits : (n : ℕ) → 10 ≤ n → n < 2 ^ 64 → 2 ≤ length (decimal n)
two_digits n more small =
    let split : length (decimal n) ≡ length (decimal (n / 10)) + 1 =
    ap length (decimal_step n more small) ∙ length-append (decimal (n / 10)) _ in
    omega (arith, split, decimal_nonempty (n / 10) (omega arith))

-- the digits that are left to write have room among the twenty
room_left : (number rest start end : ℕ) (old new : List ℕ) → number < 2 ^ 64 → start < end → end ≤ length old → length new ≡
    length old → decimal number ++ drop end old ≡ decimal rest ++ drop (start + 1) new → end + length (decimal rest) ≤ start + 21
room_left number rest start end old new small before within same e =
    let lengths : length (decimal number) + (length old - end) ≡ length (decimal rest) + (length new - (start + 1)) =
    simp (length-append, length-drop) at (ap length e) in
    omega (arith, lengths, length-decimal-le 20 number (omega arith) (omega arith) small)

-- a digit written before the others
digit_before : (front : List ℕ) (digit start : ℕ) (bytes : List ℕ) → start < length bytes
    → (front ++ digit ∷ []) ++ drop (start + 1) bytes ≡ front ++ drop start (set bytes start digit)
digit_before front digit start bytes within =
    append_assoc front (digit ∷ []) (drop (start + 1) bytes) ∙ ap (λ l. front ++ l) (sym (drop-set bytes start digit within))

pub overflow_sub-start-in-loop-rest : goal.overflow_sub-start-in-loop-rest
overflow_sub-start-in-loop-rest c =
    let so_far = c.loop-rest.invariant in
    let room = room_left _ _ _ _ _ _ c.ranges.number.fits so_far.before c.requires.within so_far.same_length so_far.digits in
    omega (arith, room, two_digits c.loop-rest.rest c.loop-rest-test.true c.loop-rest.auto.rest-fits.fits)

pub loop-rest-preserved : goal.loop-rest-preserved
loop-rest-preserved c =
    let so_far = c.loop-rest.invariant in
    let room = room_left _ _ _ _ _ _ c.ranges.number.fits so_far.before c.requires.within so_far.same_length so_far.digits in
    let two = two_digits c.loop-rest.rest c.loop-rest-test.true c.loop-rest.auto.rest-fits.fits in
    let next : c.loop-rest.start - 1 + 1 ≡ c.loop-rest.start = omega (arith, room, two) in
    record {
      before = omega arith;
      same_length = search rules;
      digits = rw next (c.loop-rest.invariant.digits ∙ ap (λ l. l ++ drop (c.loop-rest.start + 1) c.loop-rest.bytes)
          (decimal_step c.loop-rest.rest c.loop-rest-test.true c.loop-rest.auto.rest-fits.fits)
          ∙ digit_before _ _ c.loop-rest.start c.loop-rest.bytes (omega arith));
    }

pub returns-clause-digits : goal.returns-clause-digits
returns-clause-digits c =
    sym (c.loop-rest.invariant.digits
    ∙ ap (λ l. l ++ drop (c.loop-rest.start + 1) c.loop-rest.bytes) (decimal_digit c.loop-rest.rest c.loop-rest-test.false)
    ∙ digit_before [] _ c.loop-rest.start c.loop-rest.bytes (omega arith))

pub returns-clause-most : goal.returns-clause-most
returns-clause-most c =
    let so_far = c.loop-rest.invariant in
    let room = room_left _ _ _ _ _ _ c.ranges.number.fits so_far.before c.requires.within so_far.same_length so_far.digits in
    omega (arith, room, decimal_nonempty c.loop-rest.rest c.loop-rest.auto.rest-fits.fits)
