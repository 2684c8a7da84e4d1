use Rattle.fax_reading.proofs.Names.{◌≡◌, ◌*◌, ◌≤◌, ◌⊎◌, ◌∙◌, ℕ, Bits, BitsAt, length, drop, here, arith, ap, sym, inl, inr, refl}
use Rattle.fax_reading.proofs.Names.{common_steps, length-drop, next_eol, tagged_eols, None, Some}
use Rattle.fax_bits.specs.Bits.{bits_in}
use Rattle.fax_bits.proofs.BitReading.BitLists.{length-bits_in}
use Rattle.fax_reading.proofs.Work.EolsPassed.{looked_most}
use Rattle.fax_reading.proofs.Names.{false≢true}
use Rattle.fax_bits.proofs.BitReading.ConsecutiveEols.{next_eol_found, tagged_eols_counted}
use Rattle.hayro_ccitt.proofs.TaggedBodies.TagsOfLines.{found_within, few_past_end, few_if_none, few_after, six_there}
use Rattle.hayro_ccitt.proofs.TaggedBodies.TagsOfLines.{twelve_end, EndsEol, Passed, passed, few_at_first}
use Rattle.hayro_ccitt.proofs.tagged.is_tag_of_line.Goals.{After-are_rtc_before, Then-not-skip_to_eol, After-eols}
use Rattle.hayro_ccitt.proofs.tagged.is_tag_of_line.Goals as goal

pub eols-init : goal.eols-init
eols-init c = grind (arith, common_steps, few_at_first)

pub returns-then-not-skip_to_eol-clause-tag : goal.returns-then-not-skip_to_eol-clause-tag
returns-then-not-skip_to_eol-clause-tag c =
    let bits = bits_in c.args.order c.args.data.now in
    let none : next_eol (drop c.eols.reader.place bits) ≡ None
    = ap (λ (b : Bits). next_eol (drop c.eols.reader.place b)) (sym c.eols.invariant.same) ∙ c.if-not-skip_to_eol.ensures.next in
    (λ is. few_if_none bits c.args.end c.eols.reader.place c.eols.invariant.few none, λ tag. refl)

pub returns-then-not-skip_to_eol-clause-at_most : goal.returns-then-not-skip_to_eol-clause-at_most
returns-then-not-skip_to_eol-clause-at_most c =
    omega (
      arith,
      c.eols.invariant.work,
      c.if-not-skip_to_eol.ensures.ticks,
      looked_most (drop 1 (here c.eols.reader)),
      length-drop 1 (here c.eols.reader),
      ap (λ (at : BitsAt). length (here at)) (c.skip_to_eol.ensures.unchanged c.if-not-skip_to_eol.true),
    )

-- the end of the data is far
pub are_rtc_before-requires : goal.are_rtc_before-requires
are_rtc_before-requires c = omega (arith, c.requires.within, c.requires.fit)

module _ (c : After-are_rtc_before) where
  abbrev bits : Bits
  bits = bits_in c.args.order c.args.data.now

  abbrev now : BitsAt
  now = c.read_tagged_eols-count.new.self

  -- the same bits
  sought_bits : c.skip_to_eol.new.self.bits ≡ bits
  sought_bits = c.skip_to_eol.ensures.same_bits ∙ c.eols.invariant.same

  now_bits : now.bits ≡ bits
  now_bits = c.read_tagged_eols-count.ensures.same_bits ∙ sought_bits

  size : length bits ≡ 8 * length c.args.data.now
  size = length-bits_in c.args.order c.args.data.now

  found : next_eol (drop c.eols.reader.place bits) ≡ Some (drop c.skip_to_eol.new.self.place bits)
  found = ap (λ (b : Bits). next_eol (drop c.eols.reader.place b)) (sym c.eols.invariant.same)
      ∙ c.if-not-skip_to_eol.ensures.next ∙ ap (λ (b : Bits). Some (drop c.skip_to_eol.new.self.place b)) sought_bits

  counted : tagged_eols (drop c.skip_to_eol.new.self.place bits) ≡ (c.read_tagged_eols-count.result, drop now.place bits)
  counted = ap (λ (b : Bits). tagged_eols (drop c.skip_to_eol.new.self.place b)) (sym sought_bits)
      ∙ c.read_tagged_eols-count.ensures.eols
      ∙ ap (λ (b : Bits). (c.read_tagged_eols-count.result, drop now.place b)) now_bits

  ends : (c.args.end ≡ 0) ⊎ EndsEol bits c.args.end
  ends = elim c.requires.eol [
    | inl first ↦ inl first
    | inr there ↦ inr (twelve_end bits c.args.end (omega (arith, c.requires.within, size)) there.0 there.1)
  ]

  short : now.place ≤ length bits
  short = omega (arith, c.bit_pos-in-eols.ensures.place, c.bit_pos-in-eols.ensures.within, ap length now_bits)

  within : c.args.end ≤ length bits
  within = omega (arith, c.requires.within, size)

  -- bits are left where an EOL is
  there : c.skip_to_eol.new.self.place ≤ length bits
  there = found_within bits c.skip_to_eol.new.self.place (drop c.eols.reader.place bits) found

  tagged_shorter : length (here now) ≤ length (here c.skip_to_eol.new.self)
  tagged_shorter = omega (
    arith,
    (tagged_eols_counted (here c.skip_to_eol.new.self)).0,
    ap (λ (f : ℕ × Bits). length f.1) c.read_tagged_eols-count.ensures.eols,
  )

  step : Passed c.args.ticks.now (length bits) c.eols.ticks c.read_tagged_eols-count.new.ticks (here c.eols.reader) (here now)
  step = passed c.args.ticks.now (length bits) c.eols.ticks c.skip_to_eol.new.ticks c.read_tagged_eols-count.new.ticks
      c.read_tagged_eols-count.result (here c.eols.reader) (here c.skip_to_eol.new.self)
      (here now) c.if-not-skip_to_eol.ensures.next
      c.read_tagged_eols-count.ensures.eols c.eols.invariant.work c.if-not-skip_to_eol.ensures.ticks
      c.read_tagged_eols-count.ensures.at_most

pub returns-then-are_rtc_before-clause-tag : goal.returns-then-are_rtc_before-clause-tag
returns-then-are_rtc_before-clause-tag c =
    let at = (goal.at.returns-then-are_rtc_before-clause-tag c).After-are_rtc_before in
    let rtc = c.are_rtc_before.ensures.0 c.if-are_rtc_before.true in
    let place = c.bit_pos-in-eols.ensures.place in (
      λ is. absurd (false≢true is),
      λ tag. absurd (six_there (bits at) c.args.end c.eols.reader.place c.skip_to_eol.new.self.place (now at).place
          c.read_tagged_eols-count.result (short at) (within at) (there at) (found at) (counted at) (ends at) rtc.0
          (elim rtc.1 [ inl same ↦ inl (sym place ∙ same) | inr more ↦ inr (sym place ∙ more) ]) tag),
    )

pub returns-then-are_rtc_before-clause-at_most : goal.returns-then-are_rtc_before-clause-at_most
returns-then-are_rtc_before-clause-at_most c =
    let at = (goal.at.returns-then-are_rtc_before-clause-at_most c).After-are_rtc_before in
    omega (arith, (step at).work, looked_most (drop 1 (here (now at))), length-drop 1 (here (now at)))

pub eols-smaller : goal.eols-smaller
eols-smaller c =
    let at = (goal.at.eols-smaller c).After-are_rtc_before in
    omega (
      arith,
      (step at).shorter,
      length-drop (now at).place (now at).bits,
      length-drop c.eols.reader.place c.eols.reader.bits,
      ap length (now_bits at),
      ap length c.eols.invariant.same,
    )

pub eols-preserved : goal.eols-preserved
eols-preserved c =
    let at = (goal.at.eols-preserved c).After-are_rtc_before in
    let place = c.bit_pos-in-eols.ensures.place in
    record {
      same = now_bits at;
      few = few_after (bits at) c.args.end c.eols.reader.place c.skip_to_eol.new.self.place (now at).place
          c.read_tagged_eols-count.result (short at) (within at) (there at) (found at) (counted at) c.eols.invariant.few
          (λ six. (
            λ same. false≢true (sym c.if-are_rtc_before.false ∙ c.are_rtc_before.ensures.1 (six, inl (place ∙ same))),
            λ more. false≢true (sym c.if-are_rtc_before.false ∙ c.are_rtc_before.ensures.1 (six, inr (place ∙ more))),
          ));
      counts = omega (
        arith,
        c.eols.invariant.counts,
        c.if-not-skip_to_eol.ensures.ticks,
        c.read_tagged_eols-count.ensures.at_least,
        (next_eol_found (here c.eols.reader) (here c.skip_to_eol.new.self) c.if-not-skip_to_eol.ensures.next).0,
        (step at).shorter,
        tagged_shorter at,
      );
      work = (step at).work;
    }

pub returns-clause-tag : goal.returns-clause-tag
returns-clause-tag c =
    let past : c.args.end ≤ c.eols.reader.place = omega (arith, c.eols-test.false, c.bit_pos.ensures.place) in (
      λ is. few_past_end (bits_in c.args.order c.args.data.now) c.args.end c.eols.reader.place c.eols.invariant.few past,
      λ tag.
          refl,
    )

pub returns-clause-at_most : goal.returns-clause-at_most
returns-clause-at_most c =
    omega (arith, c.eols.invariant.work, looked_most (drop 1 (here c.eols.reader)), length-drop 1 (here c.eols.reader))
