use Rattle.fax_coding.proofs.Names.{◌≡◌, ◌+◌, ◌-◌, ◌∷◌, ◌≤◌, [], ℕ, List, length, get_or, inl, inr, sym, ap, subst, ◌∙◌, arith}
use Rattle.fax_coding.proofs.Names.{cases_lt, zero, suc, ◌%◌, ◌<◌, refl, get_or_past, AreChanges}
use Rattle.fax_coding.proofs.Names.{length-append, pixels, Place, color_after}
use Rattle.fax_coding.specs.declared.shortest_lines.Way.{Way}
use Rattle.fax_coding.specs.Ways.{right_of_changes, bits_right_of, IsShortest, no_way}
use Rattle.fax_coding.proofs.Elements.{next_is_right}
use Rattle.fax_coding.proofs.ShortestSteps.{right_from, none_right, few_right, bits_of_way, stands_right, not_right}
use Rattle.fax_coding.proofs.ShortestSteps.{pushed_before, pushed_last}
use Rattle.fax_coding.proofs.shortest_lines.find_ways.Goals as goal

pub changes-init : goal.changes-init
changes-init c =
    let columns : ℕ = c.args.columns in
    let changes : List ℕ = c.args.changes.now in
    record {
      within = omega arith;
      few = omega arith;
      turns = omega arith;
      right = λ some. let stands = stands_right columns changes c.requires.changes (length changes) (omega arith) in
          let one : length changes + 1 - 1 ≡ length changes = omega arith in
          omega (
            arith,
            stands.inside,
            ap (λ (m : ℕ). (right_of_changes columns changes m).from) one,
            get_or_past c.args.reference.now
                (length c.args.reference.now + (length c.args.reference.now + (length changes + 1)) % 2 + 1)
                columns (omega arith),
          );
      count = omega (arith, ap length c.reserve_exact.ensures.items, ap length c.clear.ensures.items);
      room = omega (
        arith,
        c.in_ok-reserve_exact.ensures.ok,
        c.in_ok-reserve_exact.ensures.len,
        c.reserve_exact.ensures.len,
        c.clear.ensures.len,
      );
      each = λ n ge le. absurd (omega (arith, ge, le));
      second = sym (get_or_past changes (length changes + 1) columns (omega arith));
      vertical = sym (none_right columns c.args.reference.now changes c.requires.reference c.requires.changes (length changes + 1)
          (omega arith));
      horizontal = sym (none_right columns c.args.reference.now changes c.requires.reference c.requires.changes
          (length changes + 1 + 1) (omega arith));
    }

pub step_back-above-requires-clause-inside : goal.step_back-above-requires-clause-inside
step_back-above-requires-clause-inside c =
    let stands = stands_right c.args.columns c.args.changes.now c.requires.changes (c.changes.next - 1)
    (omega (arith, c.changes.invariant.within, c.changes-test.true)) in
    omega (arith, stands.inside, c.place_right_of-from.ensures)

pub step_back-above-requires-clause-right : goal.step_back-above-requires-clause-right
step_back-above-requires-clause-right c = record {
  few = omega (arith, c.changes.invariant.few);
  turns = omega (arith, c.changes.invariant.turns, c.changes-test.true);
  right = omega (arith, c.changes.invariant.right (omega (arith, c.changes-test.true)), c.place_right_of-from.ensures);
}

pub find_way-way-requires-clause-stands : goal.find_way-way-requires-clause-stands
find_way-way-requires-clause-stands c = record {
  reference = c.requires.reference;
  changes = c.requires.changes;
  inside = omega (arith, c.changes.invariant.within, c.changes-test.true);
  right = right_from c.args.columns c.args.changes.now (c.changes.next - 1) c.place_right_of-from.result
      c.place_right_of-from.ensures;
  near = c.step_back-above.ensures.near;
}

-- a position right of changes is further right than that of one less
further : (columns : ℕ) (changes : List ℕ) → AreChanges columns changes → (n : ℕ) → n ≤ length changes → 0 < n
    → (right_of_changes columns changes (n - 1)).from ≤ (right_of_changes columns changes n).from
unfolding right_of_changes
further columns changes are zero le some = absurd (omega (arith, some))
further columns changes are (suc n) le some =
    let before = not_right columns changes are n (right_of_changes columns changes n)
    (stands_right columns changes are n (omega (arith, le))) in
    let one : suc n - 1 ≡ n = omega arith in
    omega (arith, before, ap (λ (m : ℕ). (right_of_changes columns changes m).from) one)

pub find_way-way-requires-clause-few : goal.find_way-way-requires-clause-few
find_way-way-requires-clause-few c = (
  omega (
    arith,
    c.changes.invariant.vertical,
    few_right c.args.columns c.args.reference.now c.args.changes.now
        c.requires.reference c.requires.changes c.changes.next c.ranges.columns.fits,
  ),
  omega (
    arith,
    c.changes.invariant.horizontal,
    few_right c.args.columns c.args.reference.now c.args.changes.now
        c.requires.reference c.requires.changes (c.changes.next + 1) c.ranges.columns.fits,
  ),
)

pub find_way-way-requires-clause-ahead : goal.find_way-way-requires-clause-ahead
find_way-way-requires-clause-ahead c =
    let one : c.changes.next ≡ c.changes.next - 1 + 1 = omega (arith, c.changes-test.true) in
    let two : c.changes.next + 1 ≡ c.changes.next - 1 + 2 = omega (arith, c.changes-test.true) in
    record {
      a1 = c.change_or_end.ensures;
      a2 = c.changes.invariant.second ∙ ap (λ (m : ℕ). get_or c.args.changes.now m c.args.columns) one;
      after_a1 = c.changes.invariant.vertical ∙ ap (bits_right_of c.args.columns c.args.reference.now c.args.changes.now) one;
      after_a2 = c.changes.invariant.horizontal ∙ ap (bits_right_of c.args.columns c.args.reference.now c.args.changes.now) two;
    }

pub changes-preserved : goal.changes-preserved
changes-preserved c =
    let columns : ℕ = c.args.columns in
    let above : List ℕ = c.args.reference.now in
    let changes : List ℕ = c.args.changes.now in
    let ways : List Way = c.changes.ways.items in
    let way : Way = c.find_way-way.result in
    let n : ℕ = c.changes.next - 1 in
    let at : Place = record { from = c.place_right_of-from.result; color = color_after n } in
    let place : at ≡ right_of_changes columns changes n
    = right_from columns changes n c.place_right_of-from.result c.place_right_of-from.ensures in
    let shortest : IsShortest (pixels columns above) (pixels columns changes) at way = c.find_way-way.ensures in
    let stands = stands_right columns changes c.requires.changes n (omega
    (arith, c.changes.invariant.within, c.changes-test.true)) in
    let is : (i : ℕ) → n ≤ i → i ≤ length changes → IsShortest (pixels columns above) (pixels columns changes)
    (right_of_changes columns changes i) (get_or c.push_reserved.new.self.items (length changes - i) no_way) = λ i ge le.
    elim (cases_lt i c.changes.next) [
      | inl lt ↦
          (let here : n ≡ i = omega (arith, lt, ge, c.changes-test.true) in
          let last = ap (λ (l : List Way). get_or l (length changes - i) no_way) c.push_reserved.ensures.items
          ∙ pushed_last ways way (length changes - i) (omega (arith, here, c.changes.invariant.count, c.changes-test.true)) in
          subst (λ (w : Way). IsShortest (pixels columns above) (pixels columns changes) (right_of_changes columns changes i) w)
          (sym last) (subst (λ (p : Place). IsShortest (pixels columns above) (pixels columns changes) p way)
          (place ∙ ap (right_of_changes columns changes) here) shortest))
      | inr later ↦
          (let kept = ap (λ (l : List Way). get_or l (length changes - i) no_way) c.push_reserved.ensures.items
          ∙ pushed_before ways way (length changes - i) (omega (arith, later, le, c.changes.invariant.count)) in
          subst (λ (w : Way). IsShortest (pixels columns above) (pixels columns changes) (right_of_changes columns changes i) w)
          (sym kept) (c.changes.invariant.each i later le))
    ] in
    let next : c.changes.next ≡ n + 1 = omega (arith, c.changes-test.true) in
    record {
      within = omega (arith, c.changes.invariant.within);
      few = c.step_back-above.ensures.found.within;
      turns = c.step_back-above.ensures.right.turns;
      right = λ some. omega (
        arith,
        further columns changes c.requires.changes n (omega (arith, c.changes.invariant.within, c.changes-test.true)) some,
        c.place_right_of-from.ensures,
        c.step_back-above.ensures.right.right,
        next_is_right 0 columns above c.step_back-above.result.index (c.step_back-above.result.index + 1) refl
            c.requires.reference,
      );
      count = omega (
        arith,
        ap length c.push_reserved.ensures.items,
        length-append ways (way ∷ []),
        c.changes.invariant.count,
        c.changes-test.true,
      );
      room = omega (
        arith,
        c.push_reserved.ensures.len,
        c.push_reserved.ensures.capacity,
        c.changes.invariant.room,
        c.changes-test.true,
      );
      each = is;
      second = c.change_or_end.ensures;
      vertical = bits_of_way columns above changes c.requires.reference c.requires.changes n at way place shortest;
      horizontal = c.changes.invariant.vertical ∙ ap (bits_right_of columns above changes) next;
    }
