use Rattle.fax_bitmap.proofs.Names.{◌≡◌, ◌+◌, ◌-◌, ◌*◌, ◌/◌, ◌≤◌, ◌++◌, ℕ, List, false, length, replicate, ap, ◌∙◌, arith}
use Rattle.fax_bitmap.proofs.Names.{pixels, Brush, under}
use Rattle.fax_bitmap.proofs.PaintedRows.{one_change, run_at_hand, all_painted, ends_white, filled}
use Rattle.fax_bitmap.proofs.painting.paint_from_left.Goals.{then-at, else-at}
use Rattle.fax_bitmap.proofs.painting.paint_from_left.Goals.{then-done-changes, else-done-changes}
use Rattle.fax_bitmap.proofs.painting.paint_from_left.Goals as goal

pub word-init : goal.word-init
word-init c =
    let columns : ℕ = c.args.columns in
    let changes : List ℕ = c.args.changes.now in
    let done : ℕ = c.runs.done in
    let is = c.runs.invariant in
    let room : columns ≤ 8 * length c.runs.row = omega (arith, is.room, c.requires.fits.room) in
    let at = c.move_to.ensures in
    let turned = c.turned-brush.ensures in
    let wide : columns ≤ 8 * length c.move_to.new.row = omega (arith, at.long, room) in
    let one = one_change columns changes done c.runs.brush c.move_to.result c.turned-brush.result c.runs.row c.move_to.new.row
    (omega (arith, c.runs-test.true)) wide is.painted at.stands at.right at.color at.painted turned.start turned.color
    turned.word in
    let at' = c.move_to-in-runs.ensures in
    let turned' = c.turned-brush-in-runs.ensures in
    let wide' : columns ≤ 8 * length c.move_to-in-runs.new.row = omega (arith, at'.long, wide) in
    let two = one_change columns changes (done + 1) c.turned-brush.result c.move_to-in-runs.result c.turned-brush-in-runs.result
    c.move_to.new.row c.move_to-in-runs.new.row c.runs-test.true wide' one at'.stands at'.right at'.color at'.painted
    turned'.start turned'.color turned'.word in
    let sum : done + 1 + 1 ≡ done + 2 = omega arith in
    record {
      painted = rw sum at two;
      within = omega (arith, c.runs-test.true);
      further = omega arith;
      room = at'.long ∙ at.long ∙ is.room;
    }

pub word-preserved : goal.word-preserved
word-preserved c =
    let is = c.word.invariant in
    let one = c.turned.ensures in
    let two = c.turned-brush-in-word.ensures in
    record {
      painted = run_at_hand c.args.columns c.args.changes.now c.word.done c.word.brush c.turned.result
          c.turned-brush-in-word.result c.move_to-in-runs.new.row c.word-test.true
          (omega (arith, is.room, c.requires.fits.room)) is.painted
          (omega (arith, is.painted.stands.begun, c.if-changes-done.true)) one.start one.color one.word two.start two.color
          two.word;
      within = omega (arith, c.word-test.true);
      further = omega (arith, is.further);
      room = is.room;
    }

pub runs-preserved : goal.runs-preserved
runs-preserved c =
    let is = c.word.invariant in
    record { painted = is.painted; within = is.within; room = is.room }

pub runs-preserved-else-changes-done : goal.runs-preserved-else-changes-done
runs-preserved-else-changes-done c =
    let is = c.word.invariant in
    record { painted = is.painted; within = is.within; room = is.room }

pub runs-smaller-else-changes-done : goal.runs-smaller-else-changes-done
runs-smaller-else-changes-done c = omega (arith, c.word.invariant.further, c.word.invariant.within, c.runs-test.true)

pub returns : goal.returns
returns c =
    let columns : ℕ = c.args.columns in
    let changes : List ℕ = c.args.changes.now in
    let done : ℕ = c.runs.done in
    let is = c.runs.invariant in
    let room : columns ≤ 8 * length c.runs.row = omega (arith, is.room, c.requires.fits.room) in
    let last = c.move_to-at.ensures in
    let row : List ℕ = c.move_to-at.new.row in
    let before : length c.if-done-changes.row ≡ length c.runs.row = c.if-done-changes.auto.row in
    let bytes : length row ≡ (columns + 7) / 8 = last.long ∙ before ∙ is.room ∙ c.requires.fits.room in
    let wide : columns ≤ 8 * length row = omega arith in
    let n : ℕ = 8 * c.move_to-at.result.start + 64 - columns in
    let painted : under c.move_to-at.result row ≡ pixels columns changes ++ replicate n c.move_to-at.result.is_black =
    elim c.if-done-changes.branch [
      | then-done-changes w ↦
          let at = w.move_to-then-done-changes.ensures in
          let turned = w.turned-brush-then-done-changes.ensures in
          let wide' : columns ≤ 8 * length w.move_to-then-done-changes.new.row = omega (arith, at.long, room) in
          let one = one_change columns changes done c.runs.brush w.move_to-then-done-changes.result
          w.turned-brush-then-done-changes.result c.runs.row w.move_to-then-done-changes.new.row w.if-done-changes.true wide'
          is.painted at.stands at.right at.color at.painted turned.start turned.color turned.word in
          let all : length changes ≤ done + 1 = omega (arith, c.runs-test.false) in
          all_painted columns changes (done + 1) c.if-done-changes.brush c.move_to-at.result c.if-done-changes.row row all
          (rw (w.brush-is, w.row-is) one) last.stands last.right last.color last.painted
      | else-done-changes w ↦
          all_painted columns changes done c.if-done-changes.brush c.move_to-at.result c.if-done-changes.row row
          (omega (arith, w.if-done-changes.false))
          (rw (w.brush-is, w.row-is) is.painted) last.stands last.right last.color last.painted
    ] in
    let white : under c.if-at.at row ≡ pixels columns changes ++ replicate n false = elim c.if-at.branch [
      | then-at w ↦
          ap (λ (b : Brush). under b row) w.at-is ∙ ends_white columns changes row c.move_to-at.result w.turned-at.result
          c.requires.fits.changes wide last.stands painted w.if-at.true w.turned-at.ensures.start w.turned-at.ensures.word
      | else-at w ↦
          ap (λ (b : Brush). under b row) w.at-is ∙ painted ∙ ap (λ b. pixels columns changes ++ replicate n b) w.if-at.false
    ] in
    record {
      painted = filled columns n changes row c.finish.new.row (under c.if-at.at row) c.requires.fits.changes bytes
          (omega (arith, last.stands.below, last.stands.begun)) c.finish.ensures white;
    }
