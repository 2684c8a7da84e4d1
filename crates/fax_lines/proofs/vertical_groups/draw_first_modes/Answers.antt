use Rattle.fax_lines.proofs.Names.{common_steps}
use Rattle.std.specs.Prelude.{length, vec_len, vec_capacity, get_or, take, ◌<◌, ◌≤◌, ◌∷◌, ◌++◌}
use Rattle.std.proofs.Math.Seq.{take-append-add, drop-append_seam}
use Rattle.fax_lines.proofs.Names.{◌≡◌, ◌∙◌, ◌+◌, ℕ, List, Color, TurnsFrom, opposite, suc, ap, sym, refl, arith}
use Rattle.fax_lines.proofs.Names.{BitsAt, length-append, moved}
use Rattle.std.proofs.lemmas.List.{length-take-le}
use Rattle.fax_lines.proofs.DrawingLines.GroupMasks.{set_before_first}
use Rattle.fax_lines.proofs.DrawingLines.RegularModes.{draws_first, draws_next, first_inside, first_reached}
use Rattle.fax_lines.proofs.DrawingLines.RegularModes.{one_color, stored_at}
use Rattle.fax_reading.proofs.PixelRows.B1ByParity.{turns_before}
use Rattle.fax_reading.proofs.PixelRows.ReferencePlaces.{opposite_twice}
use Rattle.fax_lines.specs.DrawnModes.{first_clear}
use Rattle.fax_bits.specs.ModeGroups.{VerticalWord, width_of, words_of}
use Rattle.fax_lines.specs.RegularModes.{AreSet}
use Rattle.fax_lines.proofs.vertical_groups.draw_first_modes.Goals.{After-painted_by-painted}
use Rattle.fax_lines.proofs.vertical_groups.draw_first_modes.Goals as goal

-- the places are stored, and it is known which of them is the first that isn't marked
module _ (c : After-painted_by-painted) where
  abbrev n : ℕ
  n = first_clear c.args.modes.now

  abbrev words : List VerticalWord
  words = words_of c.args.modes.now.group

  abbrev places : List ℕ
  places = c.args.modes.now.places

  abbrev row : List ℕ
  row = c.args.pen.now.row.items

  within : n ≤ length words
  within = omega (arith, c.requires.some)

  set : AreSet c.args.modes.now.regular n
  set = set_before_first c.args.modes.now.regular c.requires.here.lead.mask

  few : n < length places
  few = omega (arith, c.requires.some, c.requires.here.few, c.requires.here.lead.four)

  begin : c.len-start.result ≡ length row
  begin = omega (arith, c.len-start.ensures, c.args.pen.now.row.ok.0)

  place_is : c.index-place.result.now ≡ get_or places n 0
  place_is = grind (arith, common_steps, stored_at, n, row, places, few, begin)

  painted_is : c.painted_by-painted.result ≡ get_or (c.args.stroke.painted ∷ places) n 0
  painted_is = grind (arith, common_steps, drop-append_seam, n, row, places, begin)

  -- what is kept of the places
  kept : (k : ℕ) {m : ℕ} {new : List ℕ} → new ≡ take m c.push_places.new.row.items → m ≡ c.len-start.result + k
      → new ≡ row ++ take k places
  kept k {m} is e = grind (arith, common_steps, take-append-add, row, places, begin)

  room : (n < 4) × (vec_len c.push_places.new.row ≡ c.len-start.result + 4)
      × (c.len-start.result + c.args.pen.now.window.left ≤ vec_capacity c.push_places.new.row)
  room = grind (arith, common_steps, few)

  -- the bits of one mode more are passed
  passed : {width : ℕ} {to : BitsAt} → width ≡ width_of (take (n + 1) words) → to ≡ moved width c.args.pen.now.window.at
      → to ≡ moved (width_of (take (suc n) words)) c.args.pen.now.window.at
  passed is to =
      let one : n + 1 ≡ suc n = omega arith in
      to ∙ ap (λ (w : ℕ). moved w c.args.pen.now.window.at) (is ∙ ap (λ (k : ℕ). width_of (take k words)) one)

  -- the colour before one of the places that is turned at
  colored_before : {count : ℕ} (color : Color) → count ≡ c.len-start.result + n + 1 → TurnsFrom count color
      → TurnsFrom (length (row ++ take n places)) (opposite color)
  colored_before {count} color e turns =
      grind (arith, common_steps, length-take-le, length-append, n, places, few, row, begin, turns_before)

pub b1_after-index-requires-clause-within : goal.b1_after-index-requires-clause-within
b1_after-index-requires-clause-within c =
    let at = (goal.at.b1_after-index-requires-clause-within c).After-painted_by-painted in
    let colored = colored_before at _ (omega (arith, c.truncate.ensures.len, room at)) c.next_color.ensures.turns in
    omega (arith, (first_reached c.requires.can c.requires.here (n at) (within at) (set at) _ colored).near)

pub b1_after-index-requires-clause-at : goal.b1_after-index-requires-clause-at
b1_after-index-requires-clause-at c =
    let at = (goal.at.b1_after-index-requires-clause-at c).After-painted_by-painted in
    let colored = colored_before at _ (omega (arith, c.truncate.ensures.len, room at)) c.next_color.ensures.turns in
    let here = c.requires.here in
    rw (painted_is at, c.opposite.ensures) ((first_reached c.requires.can here (n at) (within at) (set at) _ colored).at
    (first_inside c.requires.can here (n at) (within at) (set at)))

pub returns-then-place-line-clause-drawn : goal.returns-then-place-line-clause-drawn
returns-then-place-line-clause-drawn c =
    let at = (goal.at.returns-then-place-line-clause-drawn c).After-painted_by-painted in
    let items = kept at (suc (n at)) c.truncate.ensures.items (omega arith) in
    let colored = colored_before at _ (omega (arith, c.truncate.ensures.len, room at)) c.next_color.ensures.turns in
    let turned = one_color _ _ _ c.next_color-color.ensures.turns c.next_color.ensures.turns in
    draws_next c.requires.can c.requires.here (n at) (within at) (set at)
    (omega (arith, room at, c.truncate.ensures.len, c.truncate.ensures.capacity, c.pass.ensures.left, c.first_width.ensures.some))
    (opposite c.next_color.result) c.requires.some colored (turned ∙ sym (opposite_twice c.next_color.result))
    (passed at c.first_width.ensures.value c.pass.ensures.moved)
    (omega (arith, c.tick_times.ensures, c.b1_after-index.ensures.work.0))
    (omega (arith, c.tick_times.ensures, c.b1_after-index.ensures.work.1, c.requires.here.after)) (place_is at)
    (omega (arith, painted_is at, c.if-painted-place.true)) (omega (arith, c.if-place-line.true))
    (rw c.opposite.ensures at c.b1_after-index.ensures.at) items

pub returns-clause-drawn : goal.returns-clause-drawn
returns-clause-drawn c =
    let at = (goal.at.returns-clause-drawn c).After-painted_by-painted in
    let items = kept at (n at) c.truncate-2.ensures.items refl in
    let width = c.first_width-2.ensures in
    draws_first c.requires.can c.requires.here (n at) (within at) (set at)
    (omega (arith, room at, c.truncate-2.ensures.len, c.truncate-2.ensures.capacity, c.pass-2.ensures.left, width.some))
    (omega (arith, c.if-count-eq0.false)) (painted_is at) refl c.next_color-2.ensures.turns items
    (c.pass-2.ensures.moved ∙ ap (λ (w : ℕ). moved w c.args.pen.now.window.at) width.value)
    (omega (arith, c.tick_times-2.ensures))

pub returns-clause-inside : goal.returns-clause-inside
returns-clause-inside c =
    let at = (goal.at.returns-clause-inside c).After-painted_by-painted in
    omega (arith, painted_is at, first_inside c.requires.can c.requires.here (n at) (within at) (set at))
