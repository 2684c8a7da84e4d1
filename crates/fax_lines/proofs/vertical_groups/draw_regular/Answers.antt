use Rattle.fax_lines.proofs.Names.{common_steps}
use Rattle.std.specs.Prelude.{length, get_or, take, ◌∷◌, ◌++◌}
use Rattle.std.proofs.Math.Seq.{take-length}
use Rattle.std.proofs.lemmas.List.{get_or-take, length-take-le}
use Rattle.fax_lines.proofs.Names.{◌≡◌, ℕ, refl, arith}
use Rattle.fax_lines.proofs.DrawingLines.RegularModes.{draws_first, first_inside, stored_at, after_first}
use Rattle.fax_bits.specs.ModeGroups.{width_of, words_of}
use Rattle.fax_lines.proofs.vertical_groups.draw_regular.Goals as goal

-- what is stored
stored : (c : goal.After-next_color) → c.push_first_places.new.row.items ≡ c.args.pen.now.row.items ++ take c.count-count.result
    c.args.modes.now.places
stored c = c.push_first_places.ensures.items

-- the last place that is stored
last : (c : goal.After-next_color) → c.index.result.now ≡ get_or (c.args.stroke.painted ∷ c.args.modes.now.places)
    c.count-count.result 0
last c = grind (arith, common_steps, stored_at, length-take-le, get_or-take, after_first, stored c)

pub returns-clause-drawn : goal.returns-clause-drawn
returns-clause-drawn c =
    let a = c.args in
    let words = words_of a.modes.now.group in
    let n : ℕ = c.count-count.result in
    let all : n ≡ length words = c.count-count.ensures.value in
    let set = rw (← all) at c.requires.all in
    let width : c.width.result ≡ width_of (take n words) = grind (arith, common_steps, take-length) in
    let turned = c.push_first_places.ensures in
    draws_first c.requires.can c.requires.here n (omega (arith, all)) set
    (omega (
      arith,
      c.requires.can.room,
      turned.count,
      turned.room,
      c.pass.ensures.left,
      c.width.ensures.some,
      all,
    ))
    (omega (arith, all, c.requires.here.some)) (last c) refl c.next_color.ensures.turns (stored c)
    (rw width at c.pass.ensures.moved) (omega (arith, c.tick_times.ensures))

pub returns-clause-inside : goal.returns-clause-inside
returns-clause-inside c =
    let all = c.count-count.ensures.value in
    rw (last c) (first_inside c.requires.can c.requires.here c.count-count.result (omega (arith, all)) (rw (← all) at
    c.requires.all))
