use Rattle.fax_rows.proofs.Names.{common_steps}
use Rattle.fax_rows.proofs.Names.{rules, ◌≤◌, ◌+◌, length, ap, subst, arith, err_from_is_err_and, front_of}
use Rattle.fax_rows.proofs.Names.{Line, changes}
use Rattle.fax_rows.proofs.Names.{true, DrawsLine}
use Rattle.fax_rows.proofs.Names.{found_here, here, Context, line_here, Result, DecodeError}
use Rattle.fax_reading.proofs.DrawingLines.DrawnLines.{draws_anywhere, isnt_repaired, line_breaks}
use Rattle.fax_reading.proofs.Work.ChangesStored.{changes_found, changes_repaired}
use Rattle.fax_lines.proofs.Work.RoomTaken.{grown_again}
use Rattle.fax_rows.proofs.rows.settle_row.Goals as goal

pub returns-in_err-recover_from-clause-row : goal.returns-in_err-recover_from-clause-row
returns-in_err-recover_from-clause-row c before start is read =
    let held = before.held in
    let line = line_here held.settings held.reference (here start) in
    let left = here c.recover_from.new.reader in
    let answer = err_from_is_err_and c.from_residual.result c.from_residual.ensures.1 in
    let drawn = subst (λ (r : Result (Unit {0}) DecodeError). DrawsLine line r c.args.ctx.now.held.front
    (here c.args.reader.now))
    c.in-Err.is read.drawn in
    let draws = draws_anywhere line c.in-Err.error c.args.ctx.now.held.front (here c.args.reader.now) left drawn in
    let strict = line_here (record held.settings { strict = true }) held.reference (here start) in
    let ends = isnt_repaired line strict (here start) held c.args.ctx.now.held read.held left
    c.in-Err.error c.in_err-recover_from.field-0.0 draws c.in_err-recover_from.ensures.fails.only_memory
    c.in_err-recover_from.ensures.fails.memory c.in_err-recover_from.ensures.fails.otherwise in
    let kept = c.in_err-recover_from.ensures.unchanged in
    record {
      row = rw (answer.1, answer.2, kept) ends;
      counts = omega (arith, ap (λ (x : Context). x.ticks) kept, read.counts);
      at_least = rw (answer.1) tt;
      at_most = omega (arith, ap (λ (x : Context). x.ticks) kept, read.at_most);
      stored = rw (answer.1) tt;
      width = rw (answer.1) tt;
      put_back = grind (arith, common_steps);
      space = omega (arith, ap (λ (x : Context). x.space) kept, read.space);
    }

pub returns-in-Err-clause-row : goal.returns-in-Err-clause-row
returns-in-Err-clause-row c before start is read =
    let held = before.held in
    let left = c.args.ctx.now.held in
    let words = found_here held.settings held.reference (here start) in
    let line = line_here held.settings held.reference (here start) in
    let drawn = subst (λ (r : Result (Unit {0}) DecodeError). DrawsLine line r left.front (here c.args.reader.now))
    c.in-Err.is read.drawn in
    let fault = c.in_ok-recover_from.ensures.only_damage.fault in
    let breaks = line_breaks line c.in-Err.error left.front (here c.args.reader.now) fault drawn in
    let few = changes_found held.settings.encoding held.settings.strict held.settings.columns held.reference (here start) in
    let found = subst (λ (l : Line). length (changes (front_of l)) ≤ length words) breaks few in
    let frame = c.in_ok-recover_from.ensures.frame in
    let counted : before.ticks + length words ≤ c.args.ctx.now.ticks
    = grind (arith, common_steps) in
    record {
      row = grind (arith, common_steps);
      counts = omega (arith, c.take_damaged_row.ensures.moves.count, ap (λ (x : Context). x.ticks) frame, read.counts);
      at_least = omega (arith, c.take_damaged_row.ensures.moves.count, ap (λ (x : Context). x.ticks) frame, counted);
      at_most = omega (arith, c.take_damaged_row.ensures.moves.count, ap (λ (x : Context). x.ticks) frame, read.at_most);
      stored = grind (arith, common_steps, changes_repaired);
      width = search rules;
      put_back = search rules;
      space = grind (arith, common_steps, grown_again);
    }

pub returns-clause-row : goal.returns-clause-row
returns-clause-row c before start is read = grind (arith, common_steps, changes_found)

pub take_whole_row-requires-clause-rows : goal.take_whole_row-requires-clause-rows
take_whole_row-requires-clause-rows c = c.requires.room.rows
