use Rattle.fax_coding.proofs.Names.{◌≡◌, ◌+◌, ◌-◌, ◌*◌, ◌%◌, ◌^◌, ◌<◌, ◌++◌}
use Rattle.fax_coding.proofs.Names.{ℕ, suc, true, length, replicate, get_or, sym, ap, subst}
use Rattle.fax_coding.proofs.Names.{◌∙◌, arith, append_assoc, one_shl, Bits, Row, low_bits, pixels, chosen_from, AreAllLeft}
use Rattle.fax_coding.proofs.Names.{IsNear, color_after, all_bits}
use Rattle.fax_words.proofs.RunsWritten.{left_of_end}
use Rattle.fax_coding.proofs.ModesBelow.{IsBelow, all_below}
use Rattle.fax_coding.proofs.group4.put_all_below.Goals.{After-from}
use Rattle.fax_coding.proofs.group4.put_all_below.Goals as goal
use Rattle.fax_bits.proofs.BitReading.WordRanges.{ones_below}
use Rattle.fax_coding.proofs.Names.{get_or_default}

below : (c : After-from) → IsBelow c.args._columns c.args.reference.now c.args.changes.now c.requires.coded.reference
    c.requires.coded.changes
    (c.count_below-count.result - 1) c.args.at.from c.args.at.next (c.args.at.next + c.count_below-count.result - 1)
    (c.args.at.next + c.count_below-count.result) (c.args.above.index + c.count_below-count.result)
below c =
    let count : ℕ = c.count_below-count.result in
    all_below c.args._columns c.args.reference.now c.args.changes.now c.requires.coded.reference c.requires.coded.changes (count -
    1)
    c.args.at.from c.args.at.next c.args.above.index (c.args.at.next + count - 1) (c.args.at.next + count)
    (c.args.above.index + count)
    (omega (arith, c.count_below-count.ensures.some)) (omega (arith, c.count_below-count.ensures.some))
    (omega (arith, c.count_below-count.ensures.some)) c.requires.coded.inside c.requires.coded.near c.requires.coded.next
    c.count_below-count.ensures.below.within c.count_below-count.ensures.below.reaches
    (λ k lt. c.count_below-count.ensures.below.same k (omega (arith, lt, c.count_below-count.ensures.some)))

in_list : (c : After-from) → c.args.at.next + c.count_below-count.result - 1 < length c.args.changes.now
in_list c = omega (arith, c.count_below-count.ensures.some, c.count_below-count.ensures.below.within)

-- the last of them
last : (c : After-from) → c.from.result
    ≡ get_or c.args.changes.now (c.args.at.next + c.count_below-count.result - 1) c.args._columns
last c = c.from.ensures
    ∙ get_or_default c.args.changes.now (c.args.at.next + c.count_below-count.result - 1) 0 c.args._columns (in_list c)

pub returns-clause-written : goal.returns-clause-written
returns-clause-written c =
    let d = (goal.at.returns-clause-written c).After-from in
    let count : ℕ = c.count_below-count.result in
    let to : ℕ = c.args.at.next + count in
    let above : Row = pixels c.args._columns c.args.reference.now in
    let row : Row = pixels c.args._columns c.args.changes.now in
    let old : Bits = all_bits c.args.writer.now in
    let after : ℕ → Bits = λ n. chosen_from above row (record { from = n + 1; color = color_after to }) in
    let place : ℕ = get_or c.args.changes.now (to - 1) c.args._columns in
    let one : 1 * 2 ^ count % 2 ^ 64 ≡ 2 ^ count = one_shl count 64 (omega (arith, c.count_below-count.ensures.few)) in
    let more : count ≡ suc (count - 1) = omega (arith, c.count_below-count.ensures.some) in
    ap (λ (n : ℕ). all_bits c.put.new.self ++ after n) (last d)
    ∙ ap (λ (b : Bits). b ++ after place) c.in_ok-put.ensures
    ∙ ap (λ (m : ℕ). (old ++ low_bits count (m - 1)) ++ after place) one
    ∙ ap (λ (b : Bits). (old ++ b) ++ after place) (ones_below count count (omega arith))
    ∙ ap (λ (m : ℕ). (old ++ replicate m true) ++ after place) more
    ∙ append_assoc old (replicate (suc (count - 1)) true) (after place) ∙ ap (λ (b : Bits). old ++ b) (sym (below d).bits)

pub returns-clause-coded : goal.returns-clause-coded
returns-clause-coded c =
    let d = (goal.at.returns-clause-coded c).After-from in
    let count : ℕ = c.count_below-count.result in
    record {
      reference = c.requires.coded.reference;
      changes = c.requires.coded.changes;
      inside = omega (
        arith,
        last d,
        left_of_end 0 c.args._columns c.args.changes.now (c.args.at.next + count - 1) c.requires.coded.changes (in_list d),
      );
      next = subst (λ (n : ℕ). AreAllLeft c.args.changes.now (n + 1) (c.args.at.next + count)) (sym (last d)) (below d).left;
      near = subst (λ (n : ℕ). IsNear c.args._columns c.args.reference.now
          (record { from = n + 1; color = color_after (c.args.at.next + count) }) (c.args.above.index + count)) (sym (last d))
          (below d).near;
    }

pub returns-clause-onward : goal.returns-clause-onward
returns-clause-onward c =
    let d = (goal.at.returns-clause-onward c).After-from in
    omega (
      arith,
      last d,
      (below d).left.left.left c.args.at.next (omega (arith, c.count_below-count.ensures.some)),
      c.requires.coded.next.right c.requires.some,
    )
