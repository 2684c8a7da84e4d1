use Rattle.fax_coding.proofs.Names.{◌≡◌, ◌+◌, ◌≤◌, ℕ, List, refl, sym, subst, arith, Row, pixels, Place, place_of}
use Rattle.fax_coding.proofs.Names.{AreChanges, a1, b2}
use Rattle.fax_coding.specs.declared.shortest_lines.Way.{Way}
use Rattle.fax_coding.specs.Ways.{IsFound, IsShortest, passed_by}
use Rattle.fax_coding.proofs.Elements.{next_is_right}
use Rattle.fax_coding.proofs.ModesWritten.{one_width}
use Rattle.fax_coding.proofs.ShortestSteps.{Stands, stands_at, not_right, in_row, a1_here, found_ahead}
use Rattle.fax_coding.proofs.ShortestSteps.{first_searched, searched_to_end}
use Rattle.fax_coding.proofs.ShortestSteps.{below_counts, below_way}
use Rattle.fax_coding.proofs.shortest_lines.find_way.Goals.{After-way_without_pass-way}
use Rattle.fax_coding.proofs.shortest_lines.find_way.Goals as goal

pub way_without_pass-way-requires-clause-right : goal.way_without_pass-way-requires-clause-right
way_without_pass-way-requires-clause-right c =
    let stands = stands_at c.args.columns c.args._changes.now c.requires.stands.changes c.args.at.next (place_of c.args.at)
    c.requires.stands.inside c.requires.stands.right in
    omega (
      arith,
      not_right c.args.columns c.args._changes.now c.requires.stands.changes c.args.at.next (place_of c.args.at) stands,
      c.requires.ahead.a1,
    )

pub way_without_pass-way-requires-clause-order : goal.way_without_pass-way-requires-clause-order
way_without_pass-way-requires-clause-order c = omega (
  arith,
  c.requires.ahead.a1,
  c.requires.ahead.a2,
  next_is_right 0 c.args.columns c.args._changes.now c.args.at.next (c.args.at.next + 1) refl c.requires.stands.changes,
)

-- the way without a pass
found_without : (c : After-way_without_pass-way) → IsFound (pixels c.args.columns c.args.reference.now)
    (pixels c.args.columns c.args._changes.now) (place_of c.args.at) 0 c.way_without_pass-way.result
unfolding passed_by
found_without c =
    let stands = stands_at c.args.columns c.args._changes.now c.requires.stands.changes c.args.at.next (place_of c.args.at)
    c.requires.stands.inside c.requires.stands.right in
    found_ahead c.args.columns c.args.reference.now c.args._changes.now c.requires.stands.changes c.args.at.next 0 (place_of
    c.args.at)
    (place_of c.args.at) c.way_without_pass-way.result c.args.ahead c.args.above.b1 c.color_after.result stands refl
    c.requires.ahead c.requires.above.b1 c.color_after.ensures (record {
      passes = c.way_without_pass-way.ensures.passes;
      vertical = c.way_without_pass-way.ensures.vertical;
      bits = c.way_without_pass-way.ensures.bits;
      word = c.way_without_pass-way.ensures.word;
      first = c.way_without_pass-way.ensures.first;
    })

-- it is the shortest where no pass can be made
at_end : (columns : ℕ) (above changes : List ℕ) → AreChanges columns above → (are : AreChanges columns changes) → (n : ℕ)
    (at : Place) (way : Way) → Stands columns changes n at → IsFound (pixels columns above) (pixels columns changes) at 0 way
    → a1 (pixels columns changes) at.from ≤ b2 (pixels columns above) at.from at.color
    → IsShortest (pixels columns above) (pixels columns changes) at way
unfolding passed_by
at_end columns above changes lawful are n at way stands found le =
    let same = one_width columns above changes lawful are in
    searched_to_end (pixels columns above) (pixels columns changes) same at 0 way
    (first_searched (pixels columns above) (pixels columns changes) same at way (in_row columns changes are n at stands) found) le

-- and where a1 is below b1
pub returns-then-ahead : goal.returns-then-ahead
unfolding passed_by
returns-then-ahead c =
    let columns : ℕ = c.args.columns in
    let R : Row = pixels columns c.args.reference.now in
    let C : Row = pixels columns c.args._changes.now in
    let at : Place = place_of c.args.at in
    let stands = stands_at columns c.args._changes.now c.requires.stands.changes c.args.at.next at c.requires.stands.inside
    c.requires.stands.right in
    let here = a1_here columns c.args._changes.now c.requires.stands.changes c.args.at.next at stands in
    let below : c.args.above.b1 ≡ c.args.ahead.a1 = c.if-above-ahead.true in
    let way : Way = below_way c.below_word.result c.args.ahead in
    let found : IsFound R C at 0 way =
    found_ahead columns c.args.reference.now c.args._changes.now c.requires.stands.changes c.args.at.next 0 at at way c.args.ahead
    c.args.above.b1 at.color stands refl c.requires.ahead c.requires.above.b1 refl
    (below_counts at.color at.from c.args.above.b1 c.args.ahead c.below_word.result below
    (omega (arith, c.if-ahead.true)) c.below_word.ensures) in
    subst (λ (w : Way). IsShortest R C at w) (sym c.vertical_way.ensures)
    (at_end columns c.args.reference.now c.args._changes.now c.requires.stands.reference c.requires.stands.changes c.args.at.next
    at way
    stands found (omega (
      arith,
      below,
      here,
      c.requires.ahead.a1,
      c.requires.above.first,
      c.requires.above.b2,
      next_is_right 0 columns c.args.reference.now c.args.above.index (c.args.above.index + 1) refl c.requires.stands.reference,
    )))

pub search_copies-requires-clause-found : goal.search_copies-requires-clause-found
search_copies-requires-clause-found c = found_without (goal.at.search_copies-requires-clause-found c).After-way_without_pass-way

pub returns-in-None : goal.returns-in-None
returns-in-None c =
    let columns : ℕ = c.args.columns in
    let at : Place = place_of c.args.at in
    let stands = stands_at columns c.args._changes.now c.requires.stands.changes c.args.at.next at c.requires.stands.inside
    c.requires.stands.right in
    at_end columns c.args.reference.now c.args._changes.now c.requires.stands.reference c.requires.stands.changes c.args.at.next
    at
    c.way_without_pass-way.result stands (found_without (goal.at.returns-in-None c).After-way_without_pass-way) (omega (
      arith,
      c.in-None.ensures,
      c.requires.above.b2,
      c.requires.ahead.a1,
      a1_here columns c.args._changes.now c.requires.stands.changes c.args.at.next at stands,
    ))
