use Rattle.hayro_ccitt.proofs.Names.{◌≡◌, ◌+◌, ◌-◌, ◌≤◌, ◌∙◌, ℕ, false, Some, None, sym, ap, arith, refl}
use Rattle.hayro_ccitt.proofs.Names.{Bits, bits_in, drop, length, length-drop, looked, after_eol, next_eol, take, is_some}
use Rattle.hayro_ccitt.proofs.Names.{false≢true, Option, DecodeSettings, Group3_1D}
use Rattle.fax_reading.proofs.Names.{none-some}
use Rattle.fax_reading.proofs.Work.EolsPassed.{looked_most}
use Rattle.hayro_ccitt.proofs.BitReading.BitLists.{length-bits_in}
use Rattle.hayro_ccitt.proofs.TaggedBodies.BodiesByTests.{body_has_one, body_tests, by_tests}
use Rattle.hayro_ccitt.proofs.tagged.end_of_tagged_body.Goals as goal

pub returns-then-from-to-clause-none : goal.returns-then-from-to-clause-none
returns-then-from-to-clause-none c = λ e settings body.
    omega (arith, (body_has_one settings (bits_in c.args.order c.args.data.now) c.args.from c.args.to body).0, c.if-from-to.true)

pub returns-then-not-is_following_eol-clause-none : goal.returns-then-not-is_following_eol-clause-none
returns-then-not-is_following_eol-clause-none c = λ e settings body.
    false≢true (sym c.if-not-is_following_eol.true
    ∙ c.is_following_eol.ensures.after.1 (body_tests settings
    (bits_in c.args.order c.args.data.now) c.args.from c.args.to body).0)

pub returns-then-not-holds_one-clause-none : goal.returns-then-not-holds_one-clause-none
returns-then-not-holds_one-clause-none c = λ e settings body.
    false≢true (sym c.if-not-holds_one.true
    ∙ c.holds_one.ensures.one.1 (body_has_one settings (bits_in c.args.order c.args.data.now) c.args.from c.args.to body).1)

pub returns-in_default-clause-none : goal.returns-in_default-clause-none
returns-in_default-clause-none c = λ e settings body.
    none-some body.closes.0 (sym (rw c.in_default.is at c.end_of_eol.ensures.end) ∙ body.closes.1)

pub returns-then-holds_eol-clause-none : goal.returns-then-holds_eol-clause-none
returns-then-holds_eol-clause-none c = λ e settings body.
    false≢true (sym (ap is_some (body_tests settings (bits_in c.args.order c.args.data.now) c.args.from c.args.to body).1)
    ∙ sym c.holds_eol.ensures.eol ∙ c.if-holds_eol.true)

pub returns-then-not-is_tag_of_line-clause-none : goal.returns-then-not-is_tag_of_line-clause-none
returns-then-not-is_tag_of_line-clause-none c = λ e settings body.
    false≢true (sym c.if-not-is_tag_of_line.true ∙ c.is_tag_of_line.ensures.tag.1 body.tag)

pub returns-clause-body : goal.returns-clause-body
returns-clause-body c =
    let bits = bits_in c.args.order c.args.data.now in
    let within : c.args.to ≤ length bits = omega (arith, c.requires.within, length-bits_in c.args.order c.args.data.now) in
    let short : c.in-Some.end ≤ length bits
    = omega (arith, rw c.in-Some.is at c.end_of_eol.ensures.within, length-bits_in c.args.order c.args.data.now) in
    let eol : after_eol 0 (drop c.args.to bits) ≡ Some (drop c.in-Some.end bits) = rw c.in-Some.is at c.end_of_eol.ensures.end in
    by_tests any_settings bits
    (drop c.in-Some.end bits) c.args.from c.args.to c.if-from-to.false within eol c.in-Some.end refl short
    (c.is_following_eol.ensures.after.0 c.if-not-is_following_eol.false) (c.holds_one.ensures.one.0 c.if-not-holds_one.false)
    (none_is (next_eol (take (c.args.to - c.args.from) (drop c.args.from bits))) (sym c.holds_eol.ensures.eol
    ∙ c.if-holds_eol.false))
    (c.is_tag_of_line.ensures.tag.0 c.if-not-is_tag_of_line.false)
  where
    none_is : (o : Option Bits) → is_some o ≡ false → o ≡ None
    none_is None e = refl
    none_is (Some x) e = absurd (false≢true (sym e))

    any_settings : DecodeSettings
    any_settings = record {
      columns = 0;
      rows = 0;
      end_of_block = false;
      end_of_line = false;
      rows_are_byte_aligned = false;
      encoding = Group3_1D;
      strict = false;
    }

-- no test looks at more than the bits from a position on
looks : (bits : Bits) (place : ℕ) → looked (drop place bits) ≤ length bits - place
looks bits place = omega (arith, looked_most (drop place bits), length-drop place bits)

pub returns-then-not-is_following_eol-clause-at_most : goal.returns-then-not-is_following_eol-clause-at_most
returns-then-not-is_following_eol-clause-at_most c =
    omega (arith, c.is_following_eol.ensures.at_most, looks (bits_in c.args.order c.args.data.now) (c.args.from - 12))

pub returns-then-not-holds_one-clause-at_most : goal.returns-then-not-holds_one-clause-at_most
returns-then-not-holds_one-clause-at_most c =
    let bits = bits_in c.args.order c.args.data.now in
    omega (
      arith,
      c.is_following_eol.ensures.at_most,
      c.holds_one.ensures.work,
      looks bits (c.args.from - 12),
      looks bits (c.args.from + 1),
    )

pub returns-in_default-clause-at_most : goal.returns-in_default-clause-at_most
returns-in_default-clause-at_most c =
    let bits = bits_in c.args.order c.args.data.now in
    omega (
      arith,
      c.is_following_eol.ensures.at_most,
      c.holds_one.ensures.work,
      c.end_of_eol.ensures.work,
      looks bits (c.args.from - 12),
      looks bits (c.args.from + 1),
      looks bits c.args.to,
    )

pub returns-then-holds_eol-clause-at_most : goal.returns-then-holds_eol-clause-at_most
returns-then-holds_eol-clause-at_most c =
    let bits = bits_in c.args.order c.args.data.now in
    omega (
      arith,
      c.is_following_eol.ensures.at_most,
      c.holds_one.ensures.work,
      c.end_of_eol.ensures.work,
      c.holds_eol.ensures.at_most,
      looks bits (c.args.from - 12),
      looks bits (c.args.from + 1),
      looks bits c.args.to,
      c.requires.within,
      length-bits_in c.args.order c.args.data.now,
    )

pub returns-then-not-is_tag_of_line-clause-at_most : goal.returns-then-not-is_tag_of_line-clause-at_most
returns-then-not-is_tag_of_line-clause-at_most c =
    let bits = bits_in c.args.order c.args.data.now in
    omega (
      arith,
      c.is_following_eol.ensures.at_most,
      c.holds_one.ensures.work,
      c.end_of_eol.ensures.work,
      c.holds_eol.ensures.at_most,
      c.is_tag_of_line.ensures.at_most,
      looks bits (c.args.from - 12),
      looks bits (c.args.from + 1),
      looks bits c.args.to,
      c.requires.within,
      length-bits_in c.args.order c.args.data.now,
    )

pub returns-clause-at_most : goal.returns-clause-at_most
returns-clause-at_most c =
    let bits = bits_in c.args.order c.args.data.now in
    omega (
      arith,
      c.is_following_eol.ensures.at_most,
      c.holds_one.ensures.work,
      c.end_of_eol.ensures.work,
      c.holds_eol.ensures.at_most,
      c.is_tag_of_line.ensures.at_most,
      looks bits (c.args.from - 12),
      looks bits (c.args.from + 1),
      looks bits c.args.to,
      c.requires.within,
      length-bits_in c.args.order c.args.data.now,
    )
