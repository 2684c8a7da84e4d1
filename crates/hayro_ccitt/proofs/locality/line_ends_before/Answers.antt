use Rattle.hayro_ccitt.proofs.Names.{◌≡◌, ◌≢◌, ◌+◌, ◌≤◌, false, length, drop, Err, refl, sym, ap, subst, ◌∙◌, arith, OutOfMemory}
use Rattle.hayro_ccitt.proofs.Names.{false≢true, DrawsLine, words_from_1d, BitsAt, bits_in, here, Context, Line, line_1d}
use Rattle.hayro_ccitt.proofs.Names.{found_1d, common_steps, max, most_room, length-drop}
use Rattle.hayro_ccitt.proofs.Work.RoomTaken.{grown_within, line_1d_enough}
use Rattle.hayro_ccitt.proofs.{BitReading.BitLists.length-bits_in, DamagedLines.BodyWork.same_bound}
use Rattle.hayro_ccitt.proofs.{DrawingLines.DrawnLines.memory_has_black, locality.line_ends_before.Goals.After-decode_1d_line}
use Rattle.hayro_ccitt.proofs.DamagedLines.BodyTests.{lenient_line, whole_ends, broken_ends}
use Rattle.hayro_ccitt.proofs.locality.line_ends_before.Goals as goal

pub returns-in-Ok-clause-before : goal.returns-in-Ok-clause-before
returns-in-Ok-clause-before c =
    let bits = bits_in c.args.order c.args.data.now in
    let same = c.decode_1d_line.ensures.only.same_bits ∙ ap (λ (at : BitsAt). at.bits) c.at_place-reader.ensures in
    let line = lenient_line c.reset.new.self.held c.args.ctx.now.held.settings c.at_place-reader.result
    (drop c.args.from bits) (ap (λ (ctx : Context). ctx.held) c.reset.ensures.frame) c.requires.lenient
    (ap (λ (at : BitsAt). here at) c.at_place-reader.ensures) in
    let drawn = rw c.in-Ok.is at c.decode_1d_line.ensures.line in
    let rest : here c.decode_1d_line.new.reader ≡ drop c.bit_pos.result bits = grind (arith, common_steps) in
    let within : c.bit_pos.result ≤ length bits = omega (arith, c.bit_pos.ensures.within, ap length same) in
    whole_ends c.args.ctx.now.held.settings.columns c.bit_pos.result c.args.end bits
    (drop c.args.from bits) (here c.decode_1d_line.new.reader) c.decode_1d_line.new.ctx.held.front (sym line ∙ drawn) rest within
    (omega (arith, c.requires.within, length-bits_in c.args.order c.args.data.now))

pub returns-in-Err-clause-memory : goal.returns-in-Err-clause-memory
returns-in-Err-clause-memory c =
    let bits = bits_in c.args.order c.args.data.now in
    let line = lenient_line c.reset.new.self.held c.args.ctx.now.held.settings c.at_place-reader.result
    (drop c.args.from bits) (ap (λ (ctx : Context). ctx.held) c.reset.ensures.frame) c.requires.lenient
    (ap (λ (at : BitsAt). here at) c.at_place-reader.ensures) in
    let wants = c.wants_memory.ensures.0 c.if-wants_memory.true in
    let draws = rw (c.in-Err.is, wants) at c.decode_1d_line.ensures.line in
    let front = c.decode_1d_line.new.ctx.held.front in
    let rest = here c.decode_1d_line.new.reader in
    λ e. memory_has_black (line_1d false c.args.ctx.now.held.settings.columns (drop c.args.from bits)) front rest
    (subst (λ (l : Line). DrawsLine l (Err OutOfMemory) front rest) line draws)

pub returns-in-Err-2-clause-before : goal.returns-in-Err-2-clause-before
returns-in-Err-2-clause-before c =
    let bits = bits_in c.args.order c.args.data.now in
    let line = lenient_line c.reset.new.self.held c.args.ctx.now.held.settings c.at_place-reader.result
    (drop c.args.from bits) (ap (λ (ctx : Context). ctx.held) c.reset.ensures.frame) c.requires.lenient
    (ap (λ (at : BitsAt). here at) c.at_place-reader.ensures) in
    let draws = rw c.in-Err.is at c.decode_1d_line.ensures.line in
    let front = c.decode_1d_line.new.ctx.held.front in
    let rest = here c.decode_1d_line.new.reader in
    let other : c.in-Err.error ≢ OutOfMemory = λ e. false≢true (sym c.if-wants_memory.false ∙ c.wants_memory.ensures.1 e) in (
      λ test. broken_ends c.args.ctx.now.held.settings.columns (drop c.args.end bits) (drop c.args.from bits) rest front
          c.in-Err.error other (subst (λ (l : Line). DrawsLine l (Err c.in-Err.error) front rest) line draws),
      λ ends. refl,
    )

-- what is counted while the line is read
counted_by_line : (c : After-decode_1d_line) → c.decode_1d_line.new.ctx.ticks ≤ c.args.ctx.now.ticks
    + length (found_1d c.args.ctx.now.held.settings.strict c.args.ctx.now.held.settings.columns
    (drop c.args.from (bits_in c.args.order c.args.data.now))) + 1
counted_by_line c =
    let settings = c.args.ctx.now.held.settings in
    let rest = drop c.args.from (bits_in c.args.order c.args.data.now) in
    let words = ap (λ (ctx : Context). words_from_1d ctx.held (here c.at_place-reader.result)) c.reset.ensures.frame
    ∙ ap (λ (at : BitsAt). found_1d settings.strict settings.columns (here at)) c.at_place-reader.ensures in
    same_bound c.decode_1d_line.new.ctx.ticks c.args.ctx.now.ticks c.reset.new.self.ticks
    (found_1d settings.strict settings.columns rest) (words_from_1d c.reset.new.self.held (here c.at_place-reader.result))
    (ap (λ (ctx : Context). ctx.ticks) c.reset.ensures.frame) words c.decode_1d_line.ensures.at_most

pub returns-in-Ok-clause-at_most : goal.returns-in-Ok-clause-at_most
returns-in-Ok-clause-at_most c = counted_by_line (goal.at.returns-in-Ok-clause-at_most c).After-decode_1d_line

pub returns-in-Err-clause-at_most : goal.returns-in-Err-clause-at_most
returns-in-Err-clause-at_most c = counted_by_line (goal.at.returns-in-Err-clause-at_most c).After-decode_1d_line

pub returns-in-Err-2-clause-at_most : goal.returns-in-Err-2-clause-at_most
returns-in-Err-2-clause-at_most c = counted_by_line (goal.at.returns-in-Err-2-clause-at_most c).After-decode_1d_line

-- the lists have no more room than the line accounts for
room_of_line : (c : After-decode_1d_line) → c.decode_1d_line.new.ctx.space
    ≤ max c.args.ctx.now.space (most_room c.args.ctx.now.held.settings (bits_in c.args.order c.args.data.now))
room_of_line c = grind (arith, common_steps, length-drop, line_1d_enough, grown_within)

pub returns-in-Ok-clause-space : goal.returns-in-Ok-clause-space
returns-in-Ok-clause-space c = room_of_line (goal.at.returns-in-Ok-clause-space c).After-decode_1d_line

pub returns-in-Err-clause-space : goal.returns-in-Err-clause-space
returns-in-Err-clause-space c = room_of_line (goal.at.returns-in-Err-clause-space c).After-decode_1d_line

pub returns-in-Err-2-clause-space : goal.returns-in-Err-2-clause-space
returns-in-Err-2-clause-space c = room_of_line (goal.at.returns-in-Err-2-clause-space c).After-decode_1d_line
