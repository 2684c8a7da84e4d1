use Rattle.std.proofs.Common.{◌≡◌, ℕ, ◌^◌, ◌<◌, ◌&&◌, true, false, cond, List, Some, None, Result, Ok, Err, sym, ap, ◌∙◌, inl}
use Rattle.std.proofs.Common.{inr, arith, rules, length, refl}
use Rattle.std.specs.Prelude.{nat_le, nat_lt}
use Rattle.std.specs.Char.{is_ascii_digit}
use Rattle.std.specs.List.{list_all}
use Rattle.std.specs.Str.Parse.{digits_value, ParsesUnsigned}
use Rattle.std.specs.Result.{OkIff, result_ok}
use Rattle.std.proofs.lemmas.Str.Parse.{IsNumeralModel, numerals_by_value, parse_digits}
use Rattle.std.proofs.lemmas.Bool.{le-leb, lt-leb, ltb-true, and_parts, cases_lt}
use Rattle.fax_program.specs.Arguments.{are_digits, number_of}
use Rattle.fax_program.proofs.arguments.number_of.Goals as goal

-- digits, and the number that they write
by_value : IsNumeralModel (λ ds. list_all is_ascii_digit ds ≡ true) (digits_value 10)
by_value = numerals_by_value _ (search rules)

-- the result of a number's test, if the digits are good
number_of-digits : (arg : List ℕ) → are_digits arg ≡ true
    → number_of arg ≡ cond (nat_le (digits_value 10 arg) 4294967295) (Some (digits_value 10 arg)) None
number_of-digits arg digits =
    ap (λ b. cond (b && nat_le (digits_value 10 arg) 4294967295) (Some (digits_value 10 arg)) None) digits

-- a result that is right about a number of 32 bits
same_answer : {E : Type 0} (r : Result ℕ E) (n long : ℕ) → 0 < long
    → OkIff r ((0 < long) × (n < 2 ^ 32)) n → result_ok r ≡ cond (nat_le n 4294967295) (Some n) None
same_answer (Ok x) n long some h =
    let small : nat_le n 4294967295 ≡ true = le-leb n 4294967295 (omega (arith, h.0.1)) in
    rw small (ap Some h.1)
same_answer (Err e) n long some h =
    elim (cases_lt n (2 ^ 32)) [
      | inl small ↦ absurd (h (some, small))
      | inr large ↦ let no : nat_le n 4294967295 ≡ false = lt-leb n 4294967295 (omega arith) in rw no refl
    ]

-- what is parsed of one to ten digits is the number that the definition gives
number_of-parsed : {E : Type 0} (arg : List ℕ) (r : Result ℕ E) → are_digits arg ≡ true → ParsesUnsigned 32 10 arg r
    → result_ok r ≡ number_of arg
number_of-parsed arg r digits parsed =
    let (front, good) = and_parts _ (list_all is_ascii_digit arg) digits in
    let (some, few) = and_parts (nat_lt 0 (length arg)) _ front in
    same_answer r (digits_value 10 arg) (length arg) (ltb-true 0 (length arg) some)
    (parse_digits by_value 32 arg r parsed good) ∙ sym (number_of-digits arg digits)

pub returns : goal.returns
returns c = c.ok.ensures.value ∙ number_of-parsed c.args.arg.now c.parse.result
    (sym c.are_digits.ensures ∙ c.if-not-are_digits.false) c.parse.ensures.value.0
