use Rattle.fax_rows.proofs.Names.{common_steps}
use Rattle.fax_rows.proofs.Names.{Result, Ok, true, subst, false≢true, DecodeError}
use Rattle.fax_rows.proofs.Names.{Context}
use Rattle.fax_rows.proofs.Names.{err_from_is_err_and, ℕ, ReachesNextLine, ReadsNext, IsStanding, IsStandingAtLine}
use Rattle.fax_rows.proofs.Names.{seen}
use Rattle.fax_rows.proofs.Names.{row_came, arith, length-drop, max, most_room, ◌≤◌, ◌+◌}
use Rattle.fax_rows.proofs.Names.{◌*◌}
use Rattle.fax_rows.proofs.Readings.RowByRow.{at_line_stands, begun_is, reader_fails_at_line, reads_on, room_at_line}
use Rattle.fax_rows.proofs.Work.CallsPaid.{line_enough}
use Rattle.fax_lines.proofs.Work.RoomTaken.{grown_within, row_enough}
use Rattle.fax_rows.proofs.row_reader.RowState.next_row.Goals.{After-read_line, Then-not-has_room}
use Rattle.fax_rows.proofs.row_reader.RowState.next_row.Goals as goal

-- if there is a line, there is room for its row
room_is_there : (from : ℕ) (c : Then-not-has_room) → IsStanding from c.args.self.now c.args.ctx.now c.args.reader.now → ⊥
room_is_there from c stands =
    let room = room_at_line from c.come_to_line.new.self c.come_to_line.new.ctx c.come_to_line.new.reader
    (c.come_to_line.ensures.stands from stands) in
    let line = (c.come_to_line.ensures.comes from stands).line in
    grind (arith, common_steps, false≢true, room, line)

pub returns-then-not-has_room-clause-reads : goal.returns-then-not-has_room-clause-reads
returns-then-not-has_room-clause-reads c from stands =
    absurd (room_is_there from c stands)

pub returns-then-not-has_room-clause-fails : goal.returns-then-not-has_room-clause-fails
returns-then-not-has_room-clause-fails c from stands =
    absurd (room_is_there from c stands)

-- the reading is at that line when it is begun
record Begun (from : ℕ) (c : After-read_line) (ctx : Context) : Type 0 where
  stands : IsStandingAtLine from c.come_to_line.new.self ctx c.come_to_line.new.reader
  comes : ReachesNextLine (seen c.args.self.now c.args.ctx.now c.args.reader.now)
      (seen c.come_to_line.new.self ctx c.come_to_line.new.reader) (Ok true)

begun : (from : ℕ) (c : After-read_line) → IsStanding from c.args.self.now c.args.ctx.now c.args.reader.now
    → Begun from c c.begin_line.new.ctx
begun from c stands =
    grind (
      arith,
      common_steps,
      begun_is,
      at_line_stands,
      c.come_to_line.ensures.comes from stands,
      c.come_to_line.ensures.stands from stands,
    )

reads_there : (from : ℕ) (c : After-read_line) → IsStanding from c.args.self.now c.args.ctx.now c.args.reader.now → ReadsNext
    (seen c.args.self.now c.args.ctx.now c.args.reader.now) (seen c.read_line.new.self c.read_line.new.ctx c.read_line.new.reader)
    (row_came c.read_line.result)
reads_there from c stands =
    let at = begun from c stands in
    reads_on (seen c.args.self.now c.args.ctx.now c.args.reader.now)
    (seen c.come_to_line.new.self c.begin_line.new.ctx c.come_to_line.new.reader)
    (seen c.read_line.new.self c.read_line.new.ctx c.read_line.new.reader) (row_came c.read_line.result) at.comes
    (c.read_line.ensures.reads from at.stands)

pub returns-in_err-read_line-clause-reads : goal.returns-in_err-read_line-clause-reads
returns-in_err-read_line-clause-reads c from stands =
    let answer = err_from_is_err_and c.from_residual-in_err-read_line.result c.from_residual-in_err-read_line.ensures.1 in
    rw (answer.1, answer.2) (subst (λ (r : Result (Unit {0}) DecodeError). ReadsNext (seen c.args.self.now c.args.ctx.now
    c.args.reader.now) (seen c.read_line.new.self c.read_line.new.ctx c.read_line.new.reader) (row_came r)) c.in_err-read_line.was
    (reads_there from (goal.at.returns-in_err-read_line-clause-reads c).After-read_line stands))

pub returns-clause-reads : goal.returns-clause-reads
returns-clause-reads c from stands =
    subst (λ (r : Result (Unit {0}) DecodeError). ReadsNext (seen c.args.self.now c.args.ctx.now c.args.reader.now)
    (seen c.read_line.new.self c.read_line.new.ctx c.read_line.new.reader) (row_came r)) c.in_ok-read_line.was
    (reads_there from (goal.at.returns-clause-reads c).After-read_line stands)

pub returns-in_err-read_line-clause-stands : goal.returns-in_err-read_line-clause-stands
returns-in_err-read_line-clause-stands c from stands =
    c.read_line.ensures.stands from (begun from (goal.at.returns-in_err-read_line-clause-stands c).After-read_line stands).stands

pub returns-clause-stands : goal.returns-clause-stands
returns-clause-stands c from stands =
    c.read_line.ensures.stands from (begun from (goal.at.returns-clause-stands c).After-read_line stands).stands

-- the lists have no more room than the line accounts for
room_after_line : (from : ℕ) (c : After-read_line) → IsStanding from c.args.self.now c.args.ctx.now c.args.reader.now
    → c.read_line.new.ctx.space ≤ max c.args.ctx.now.space (most_room c.args.ctx.now.held.settings c.args.reader.now.bits)
room_after_line from c stands = grind (arith, common_steps, line_enough, grown_within, begun from c stands)

pub returns-in_err-read_line-clause-space : goal.returns-in_err-read_line-clause-space
returns-in_err-read_line-clause-space c from stands =
    room_after_line from (goal.at.returns-in_err-read_line-clause-space c).After-read_line stands

pub returns-clause-space : goal.returns-clause-space
returns-clause-space c from stands = room_after_line from (goal.at.returns-clause-space c).After-read_line stands

-- nor than a row does
room_of_row : (c : After-read_line) → c.read_line.new.ctx.space
    ≤ max c.args.ctx.now.space (2 * c.args.ctx.now.held.settings.columns + 66)
room_of_row c = grind (arith, common_steps, row_enough, grown_within)

pub returns-in_err-read_line-clause-most : goal.returns-in_err-read_line-clause-most
returns-in_err-read_line-clause-most c = room_of_row (goal.at.returns-in_err-read_line-clause-most c).After-read_line

pub returns-clause-most : goal.returns-clause-most
returns-clause-most c = room_of_row (goal.at.returns-clause-most c).After-read_line

-- the line begins where the reading would fail
pub returns-clause-starts : goal.returns-clause-starts
returns-clause-starts c from stands is =
    let there = (goal.at.returns-clause-starts c).After-read_line in
    let at = begun from there stands in
    grind (arith, common_steps, reader_fails_at_line, at_line_stands, length-drop, at.stands, at.comes)

pub returns-in_err-read_line-clause-fails : goal.returns-in_err-read_line-clause-fails
returns-in_err-read_line-clause-fails c from stands = grind (arith, common_steps, length-drop)
