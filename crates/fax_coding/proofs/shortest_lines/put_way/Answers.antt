use Rattle.fax_coding.proofs.Names.{◌≡◌, ◌+◌, ◌-◌, ◌++◌, ℕ, Bool, refl, sym, ap, ◌∙◌, arith, Bits, Row, pixels, opposite, a1, b1}
use Rattle.fax_coding.proofs.Names.{Place, Color, word_of_mode, Horizontal, color_after, all_bits, shortest_run, append_assoc}
use Rattle.fax_coding.specs.Ways.{right_of_changes, passed_by, mode_of, way_bits}
use Rattle.fax_coding.proofs.Elements.{next_is_right}
use Rattle.fax_coding.proofs.ModesWritten.{one_width}
use Rattle.fax_coding.proofs.ShortestSteps.{Stands, stands_right, stands_by, a1_here, a2_here, right_after_vertical}
use Rattle.fax_coding.proofs.ShortestSteps.{right_after_horizontal, vertical_written, horizontal_written}
use Rattle.fax_coding.proofs.shortest_lines.put_way.Goals.{After-put_passes}
use Rattle.fax_coding.proofs.shortest_lines.put_way.Goals as goal

-- the position after the passes
standing : (c : After-put_passes) → Stands c.args.columns c.args.changes.now c.args.next
    (passed_by (pixels c.args.columns c.args._reference.now) (right_of_changes c.args.columns c.args.changes.now c.args.next)
    c.args.way.passes)
standing c =
    stands_by c.args.columns c.args.changes.now c.requires.changes (pixels c.args.columns c.args._reference.now)
    (one_width c.args.columns c.args._reference.now c.args.changes.now c.requires.reference c.requires.changes) c.args.next
    (right_of_changes c.args.columns c.args.changes.now c.args.next)
    (stands_right c.args.columns c.args.changes.now c.requires.changes c.args.next c.requires.inside)
    c.args.way.passes c.requires.way.lawful.passes

pub returns-then-way-clause-written : goal.returns-then-way-clause-written
returns-then-way-clause-written c =
    let d = (goal.at.returns-then-way-clause-written c).After-put_passes in
    let R : Row = pixels c.args.columns c.args._reference.now in
    let C : Row = pixels c.args.columns c.args.changes.now in
    let n : ℕ = c.args.next in
    let k : ℕ = c.args.way.passes in
    let at : Place = right_of_changes c.args.columns c.args.changes.now n in
    let here : Place = passed_by R at k in
    let new = c.in_ok-put_code_word.ensures
    ∙ ap (λ (b : Bits). all_bits c.put_passes.new.writer ++ b) c.requires.way.spelled.word.spells
    ∙ ap (λ (t : Bool). all_bits c.put_passes.new.writer ++ word_of_mode (mode_of R C here t)) c.if-way.true in
    vertical_written R C at (right_of_changes c.args.columns c.args.changes.now (n + 1)) k (b1 R here.from here.color)
    (a1 C here.from) (all_bits c.args.writer.now) (all_bits c.put_passes.new.writer) (all_bits c.put_code_word.new.writer)
    c.in_ok-put_passes.ensures new refl refl
    (right_after_vertical c.args.columns c.args.changes.now c.requires.changes n here (standing d) R (b1 R here.from here.color)
    (a1 C here.from) (n + 1) refl)
    ∙ ap (λ (t : Bool). all_bits c.args.writer.now ++ way_bits R C at k t) (sym c.if-way.true)

pub overflow_sub-a2 : goal.overflow_sub-a2
overflow_sub-a2 c = omega (
  arith,
  c.change_or_end-a1.ensures,
  c.change_or_end-a2.ensures,
  next_is_right 0 c.args.columns c.args.changes.now c.args.next (c.args.next + 1) refl c.requires.changes,
)

pub returns-clause-written : goal.returns-clause-written
returns-clause-written c =
    let d = (goal.at.returns-clause-written c).After-put_passes in
    let R : Row = pixels c.args.columns c.args._reference.now in
    let C : Row = pixels c.args.columns c.args.changes.now in
    let n : ℕ = c.args.next in
    let k : ℕ = c.args.way.passes in
    let at : Place = right_of_changes c.args.columns c.args.changes.now n in
    let here : Place = passed_by R at k in
    let first : ℕ = c.change_or_end-a1.result in
    let second : ℕ = c.change_or_end-a2.result in
    let is_first : a1 C here.from ≡ first = a1_here c.args.columns c.args.changes.now c.requires.changes n here (standing d)
    ∙ sym c.change_or_end-a1.ensures in
    let run : c.args.way.first ≡ first - (here.from - 1) = c.requires.way.spelled.first c.if-way.false
    ∙ ap (λ (m : ℕ). m - (here.from - 1)) is_first in
    let runs : Color → ℕ → Bits = λ j m. shortest_run j m ++ shortest_run (opposite j) (second - first) in
    let both : Bits = runs (color_after n) (first - (here.from - 1)) in
    let new = c.in_ok-put_shortest_runs.ensures
    ∙ ap (λ (j : Color). all_bits c.put_code_word.new.writer ++ runs j c.args.way.first) c.color_after.ensures
    ∙ ap (λ (m : ℕ). all_bits c.put_code_word.new.writer ++ runs (color_after n) m) run
    ∙ ap (λ (b : Bits). b ++ both) (c.in_ok-put_code_word.ensures
    ∙ ap (λ (b : Bits). all_bits c.put_passes.new.writer ++ b) c.requires.way.spelled.word.spells
    ∙ ap (λ (t : Bool). all_bits c.put_passes.new.writer ++ word_of_mode (mode_of R C here t)) c.if-way.false)
    ∙ append_assoc (all_bits c.put_passes.new.writer) (word_of_mode Horizontal) both in
    horizontal_written R C at (right_of_changes c.args.columns c.args.changes.now (n + 2)) k first second here.from
    (color_after n) (all_bits c.args.writer.now) (all_bits c.put_passes.new.writer) (all_bits c.put_shortest_runs.new.writer)
    c.in_ok-put_passes.ensures new refl (standing d).color is_first
    (a2_here c.args.columns c.args.changes.now c.requires.changes n here (standing d) ∙ sym c.change_or_end-a2.ensures)
    (right_after_horizontal c.args.columns c.args.changes.now c.requires.changes n here (standing d) R (n + 2) refl)
    ∙ ap (λ (t : Bool). all_bits c.args.writer.now ++ way_bits R C at k t) (sym c.if-way.false)
