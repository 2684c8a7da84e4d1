use Rattle.fax_coding.proofs.Names.{◌≡◌, ◌+◌, ◌<◌, ℕ, suc, List, b2, refl, sym, ap, subst, ◌∙◌, arith, Color, Row}
use Rattle.fax_coding.proofs.Names.{pixels}
use Rattle.fax_coding.proofs.Names.{Place, IsNear, color_after, place_of}
use Rattle.fax_coding.specs.Ways.{passed_by, IsFound, MayPass}
use Rattle.fax_coding.specs.declared.shortest_lines.Way.{Way}
use Rattle.fax_coding.proofs.Elements.{next_is_right}
use Rattle.fax_coding.proofs.ModesWritten.{one_width}
use Rattle.fax_coding.proofs.StepsToB1.{near_pass}
use Rattle.fax_coding.proofs.ShortestSteps.{Stands, stands_at, stands_by, may_pass, may_not_pass, passed_next, found_ahead}
use Rattle.fax_coding.proofs.ShortestSteps.{IsSearched, first_searched, next_searched, searched_to_end, in_row, no_more_changes}
use Rattle.fax_coding.proofs.ShortestSteps.{change_within, all_before, least_of_rest, searched_enough}
use Rattle.fax_coding.proofs.shortest_lines.search_passes.Goals as goal

pub find_above-above-requires-clause-inside : goal.find_above-above-requires-clause-inside
find_above-above-requires-clause-inside c =
    (stands_at c.args.columns c.args._changes.now c.requires.stands.changes c.args.at.next
    (place_of c.args.at) c.requires.stands.inside c.requires.stands.right).inside

pub passes-init : goal.passes-init
unfolding passed_by
passes-init c =
    let columns : ℕ = c.args.columns in
    let R : Row = pixels columns c.args.reference.now in
    let C : Row = pixels columns c.args._changes.now in
    let at : Place = place_of c.args.at in
    let stands = stands_at columns c.args._changes.now c.requires.stands.changes c.args.at.next at c.requires.stands.inside
    c.requires.stands.right in
    record {
      near = c.find_above-above.ensures.near;
      within = c.find_above-above.ensures.found.within;
      b2_is = c.find_above-above.ensures.found.b2 ∙ sym c.change_or_end-b2.ensures;
      b2_at = c.change_or_end-b2.ensures;
      count = omega arith;
      searched = first_searched R C
          (one_width columns c.args.reference.now c.args._changes.now c.requires.stands.reference c.requires.stands.changes)
          at c.args.without (in_row columns c.args._changes.now c.requires.stands.changes c.args.at.next at stands)
          c.requires.found;
    }

pub find_above-above-requires-in-passes-clause-inside : goal.find_above-above-requires-in-passes-clause-inside
find_above-above-requires-in-passes-clause-inside c =
    let stands = stands_at c.args.columns c.args._changes.now c.requires.stands.changes c.args.at.next
    (place_of c.args.at) c.requires.stands.inside
    c.requires.stands.right in
    omega (
      arith,
      change_within c.args.columns c.args._changes.now c.requires.stands.changes c.args.at.next (place_of c.args.at) stands,
      c.requires.ahead.a1,
      c.passes-test.true,
      c.from.ensures,
    )

pub find_above-above-requires-in-passes-clause-near : goal.find_above-above-requires-in-passes-clause-near
find_above-above-requires-in-passes-clause-near c =
    let columns : ℕ = c.args.columns in
    let R : Row = pixels columns c.args.reference.now in
    let at : Place = place_of c.args.at in
    let stands = stands_at columns c.args._changes.now c.requires.stands.changes c.args.at.next at c.requires.stands.inside
    c.requires.stands.right in
    let here = stands_by columns c.args._changes.now c.requires.stands.changes R
    (one_width columns c.args.reference.now c.args._changes.now c.requires.stands.reference c.requires.stands.changes)
    c.args.at.next at stands
    c.passes.passes c.passes.invariant.searched.passes in
    let next = near_pass columns c.args.reference.now c.requires.stands.reference (passed_by R at c.passes.passes)
    c.passes.above.index
    c.passes.invariant.near c.passes.b2 c.passes.invariant.b2_at in
    subst (λ (n : ℕ). IsNear columns c.args.reference.now (record { from = n + 1; color = color_after c.args.at.next })
    (c.passes.above.index + 2)) (sym c.from.ensures)
    (subst (λ (k : Color). IsNear columns c.args.reference.now (record { from = c.passes.b2 + 1; color = k })
    (c.passes.above.index + 2)) here.color next)

pub way_without_pass-way-requires-clause-order : goal.way_without_pass-way-requires-clause-order
way_without_pass-way-requires-clause-order c = omega (
  arith,
  c.requires.ahead.a1,
  c.requires.ahead.a2,
  next_is_right 0 c.args.columns c.args._changes.now c.args.at.next (c.args.at.next + 1) refl c.requires.stands.changes,
)

pub way_without_pass-way-requires-clause-few : goal.way_without_pass-way-requires-clause-few
way_without_pass-way-requires-clause-few c = (
  omega (
    arith,
    c.passes.invariant.count,
    c.passes.invariant.within,
    c.ranges.columns.fits,
    no_more_changes 0 c.args.columns c.args.reference.now c.requires.stands.reference (omega arith),
  ),
  c.requires.few.0,
  c.requires.few.1,
)

pub overflow_add-passes : goal.overflow_add-passes
overflow_add-passes c = omega (
  arith,
  c.passes.invariant.count,
  c.passes.invariant.within,
  c.ranges.columns.fits,
  no_more_changes 0 c.args.columns c.args.reference.now c.requires.stands.reference (omega arith),
)

pub passes-preserved : goal.passes-preserved
passes-preserved c =
    let columns : ℕ = c.args.columns in
    let above : List ℕ = c.args.reference.now in
    let changes : List ℕ = c.args._changes.now in
    let R : Row = pixels columns above in
    let C : Row = pixels columns changes in
    let at : Place = place_of c.args.at in
    let n : ℕ = c.args.at.next in
    let k : ℕ = c.passes.passes in
    let here : Place = passed_by R at k in
    let same = one_width columns above changes c.requires.stands.reference c.requires.stands.changes in
    let stands = stands_at columns changes c.requires.stands.changes n at c.requires.stands.inside c.requires.stands.right in
    let before = c.passes.invariant.searched.passes in
    let standing = stands_by columns changes c.requires.stands.changes R same n at stands k before in
    let may : MayPass R C here = may_pass columns changes c.requires.stands.changes R same n at stands k
    (omega (arith, c.passes-test.true, c.passes.invariant.b2_is, c.requires.ahead.a1)) before in
    let all : (i : ℕ) → i < suc k → MayPass R C (passed_by R at i) = all_before R C at k before may in
    let now : Place = record { from = c.from.result + 1; color = color_after n } in
    let place : now ≡ passed_by R at (k + 1)
    = ap (λ (j : Color). record { from = c.from.result + 1; color = j }) (sym standing.color)
    ∙ passed_next R at here k (k + 1) (c.from.result + 1) refl refl
    (omega (arith, c.from.ensures, c.passes.invariant.b2_is)) in
    let one : suc k ≡ k + 1 = omega arith in
    let standing_on = stands_by columns changes c.requires.stands.changes R same n at stands (suc k) all in
    let way : Way = c.way_without_pass-way.result in
    let found : IsFound R C at (k + 1) way =
    found_ahead columns above changes c.requires.stands.changes n (k + 1) at now way c.args.ahead
    c.find_above-above-in-passes.result.b1 c.color_after-color.result
    (subst (λ (m : ℕ). Stands columns changes n (passed_by R at m)) one standing_on) place c.requires.ahead
    c.find_above-above-in-passes.ensures.found.b1 c.color_after-color.ensures (record {
      passes = c.way_without_pass-way.ensures.passes;
      vertical = c.way_without_pass-way.ensures.vertical;
      bits = c.way_without_pass-way.ensures.bits;
      word = c.way_without_pass-way.ensures.word;
      first = c.way_without_pass-way.ensures.first;
    }) in
    record {
      near = subst (λ (p : Place). IsNear columns above p c.find_above-above-in-passes.result.index) place
          c.find_above-above-in-passes.ensures.near;
      within = c.find_above-above-in-passes.ensures.found.within;
      b2_is = ap (λ (p : Place). b2 R p.from p.color) (sym place) ∙ c.find_above-above-in-passes.ensures.found.b2
          ∙ sym c.change_or_end-b2-in-passes.ensures;
      b2_at = c.change_or_end-b2-in-passes.ensures;
      count = omega (arith, c.passes.invariant.count, c.find_above-above-in-passes.ensures.onward);
      searched = subst (λ (m : ℕ). IsSearched R C at m c.shorter_way-best.result) one
          (next_searched R C same at k c.passes.best way c.passes.invariant.searched may
          (in_row columns changes c.requires.stands.changes n (passed_by R at (suc k)) standing_on)
          (subst (λ (m : ℕ). IsFound R C at m way) (sym one) found) c.shorter_way-best.result c.shorter_way-best.ensures);
    }

-- more passes take more bits
pub returns-then-best-passes : goal.returns-then-best-passes
returns-then-best-passes c =
    let columns : ℕ = c.args.columns in
    let above : List ℕ = c.args.reference.now in
    let changes : List ℕ = c.args._changes.now in
    let R : Row = pixels columns above in
    let C : Row = pixels columns changes in
    let at : Place = place_of c.args.at in
    let n : ℕ = c.args.at.next in
    let k : ℕ = c.passes.passes in
    let same = one_width columns above changes c.requires.stands.reference c.requires.stands.changes in
    let stands = stands_at columns changes c.requires.stands.changes n at c.requires.stands.inside c.requires.stands.right in
    let before = c.passes.invariant.searched.passes in
    let may : MayPass R C (passed_by R at k) = may_pass columns changes c.requires.stands.changes R same n at stands k
    (omega (arith, c.passes-test.true, c.passes.invariant.b2_is, c.requires.ahead.a1)) before in
    let standing = stands_by columns changes c.requires.stands.changes R same n at stands (suc k) (all_before R C at k before may)
    in
    let least = least_of_rest columns above changes c.requires.stands.reference c.requires.stands.changes n
    c.least_ahead-least.result
    (omega (arith, c.least_ahead-least.ensures.vertical, c.requires.ahead.after_a1))
    (omega (arith, c.least_ahead-least.ensures.horizontal, c.requires.ahead.after_a2)) (suc columns) (passed_by R at (suc k))
    standing (omega arith) in
    searched_enough R C same at k c.passes.best c.passes.invariant.searched may (omega (arith, c.if-best-passes.true, least))

pub returns : goal.returns
returns c =
    let columns : ℕ = c.args.columns in
    let R : Row = pixels columns c.args.reference.now in
    let C : Row = pixels columns c.args._changes.now in
    let at : Place = place_of c.args.at in
    let same = one_width columns c.args.reference.now c.args._changes.now c.requires.stands.reference c.requires.stands.changes in
    let stands = stands_at columns c.args._changes.now c.requires.stands.changes c.args.at.next at c.requires.stands.inside
    c.requires.stands.right in
    searched_to_end R C same at c.passes.passes c.passes.best c.passes.invariant.searched
    (may_not_pass columns c.args._changes.now c.requires.stands.changes R same c.args.at.next at stands c.passes.passes
    (omega (arith, c.passes-test.false, c.passes.invariant.b2_is, c.requires.ahead.a1)) c.passes.invariant.searched.passes)
