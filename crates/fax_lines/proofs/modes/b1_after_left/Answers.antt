use Rattle.fax_lines.proofs.Names.{ℕ, ◌≡◌, ◌+◌, ◌-◌, ◌<◌, get_or, arith, IsB1, changes_in}
use Rattle.fax_reading.proofs.PixelRows.B1ByParity.{after_vl_on}
use Rattle.fax_lines.proofs.modes.b1_after_left.Goals as goal

pub returns-else-change_at-place : goal.returns-else-change_at-place
returns-else-change_at-place c =
    let a = c.args in
    let line = a.line.now in
    let before : ℕ = a.stroke.index - 1 in
    let e : before + 1 ≡ a.stroke.index = omega (arith, c.if-stroke-eq0.false) in
    let at : IsB1 line.columns (changes_in line.places.now) a.stroke.painted (before + 1) a.stroke.color = rw e c.requires.at in
    let left : a.place < get_or (changes_in line.places.now) (before + 1) line.columns = rw e c.requires.left in
    record {
      at = after_vl_on line.columns (changes_in line.places.now) c.requires.ended.lawful a.stroke.painted before a.stroke.color
          at a.place c.requires.right left (omega (arith, c.if-change_at-place.false, c.change_at.ensures));
      near = omega arith;
    }
