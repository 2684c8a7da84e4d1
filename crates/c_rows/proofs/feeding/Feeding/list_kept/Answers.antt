use Rattle.std.proofs.Common.{◌≡◌, ◌∙◌, ◌≤◌, ◌<◌, List, length, refl, sym, arith, rules}
use Rattle.hayro_ccitt.specs.Rows.{Row}
use Rattle.c_rows.specs.GivenRows.{AreListedRows, room_of_lists, rows_given}
use Rattle.c_rows.proofs.FedRows.{gives_rows}
use Rattle.c_rows.proofs.StandingRows.{AreFromStart, as_many, lists_from_start}
use Rattle.c_rows.proofs.feeding.Feeding.list_kept.Goals.{After-push_all-answer}
use Rattle.c_rows.proofs.feeding.Feeding.list_kept.Goals as goal

module _ (c : After-push_all-answer) where
  abbrev rows : List Row
  rows = rows_given c.push_all-answer.ensures.passes.given

  lists : AreFromStart c.new-sink.result.lists.ghost_name c.push_all-answer.new.sink.lists.ghost_name
      c.push_all-answer.new.sink.end c.push_all-answer.new.sink.changes rows c.args.lists.now c.push_all-answer.new.sink.lists.now
  lists = lists_from_start c.new-sink.ensures.end c.new-sink.ensures.numbers c.new-sink.ensures.changes
      c.push_all-answer.ensures.passes.meaning

pub rows-requires : goal.rows-requires
rows-requires c = (lists (goal.at.rows-requires c).After-push_all-answer).no_more

pub returns : goal.returns
returns c =
    let here = (goal.at.returns c).After-push_all-answer in
    let are : AreListedRows c.args.self.now (rows here) c.args.lists.now c.push_all-answer.new.sink.lists.now =
    (lists here).stand in
    let name = sym c.new-sink.ensures.same_reference ∙ (lists here).same in
    let within : c.push_all-answer.new.sink.end ≤ 18446744073709551615 = omega (arith, c.rows.ensures.few) in
    let many : c.rows.result ≡ length c.push_all-answer.ensures.passes.given =
    omega (arith, c.rows.ensures.rows, (lists here).within within, as_many c.push_all-answer.ensures.passes.given) in
    gives_rows AreListedRows room_of_lists c.push_all-answer.ensures.passes _ refl c.has_refused-self.ensures refl
    c.args.lists.now _ c.rows.result c.status_after.result many (search rules)
    (λ refused full. let few : length c.push_all-answer.new.sink.lists.now
    < room_of_lists c.push_all-answer.new.self (rows here) = omega (arith, full, (lists here).end_is) in search rules)
    c.status_after.ensures
