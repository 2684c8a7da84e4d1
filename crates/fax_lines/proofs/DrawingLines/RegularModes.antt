-- Vertical modes drawn several at a time: while they are regular, b1 of each is the next change of the reference row.
use Rattle.fax_lines.proofs.Names.{common_steps}
use Rattle.std.specs.Prelude.{⊤, take, Vec, vec_len, vec_capacity}
use Rattle.fax_lines.proofs.Names.{◌≡◌, ℕ, suc, ◌+◌, ◌-◌, ◌*◌, ◌<◌, ◌≤◌, Bool, List, [], ◌∷◌, ◌++◌, length, get_or, refl}
use Rattle.fax_lines.proofs.Names.{arith}
use Rattle.fax_lines.proofs.Names.{sym, ap, subst, append-nil, append_assoc, ints, pos, ◌+ℤ◌, Color, White, Black, opposite}
use Rattle.fax_lines.proofs.Names.{Vertical}
use Rattle.fax_lines.proofs.Names.{BitsAt, AreChanges, pixels, IsB1, IsStroke, GoesOn2d, TurnsFrom}
use Rattle.fax_lines.proofs.Names.{pen_at, moved}
use Rattle.fax_lines.proofs.Names.{AtHand, CanDraw, CodingLine, Stroke, changes_in, row_in, zero, ◌∙◌, get_or_default_zero}
use Rattle.std.proofs.lemmas.List.{get_or-append-add, get_or-take, length-take-le}
use Rattle.fax_lines.specs.DrawnModes.{AreModesHere, DrawsMode, pen_here}
use Rattle.fax_bits.specs.ModeGroups.{VerticalWord, AreNextWords, IsNextWord, width_of, distance_of, offset_at, words_of}
use Rattle.fax_lines.specs.RegularModes.{AreSet, IsRegular}
use Rattle.fax_lines.specs.declared.pen.RowPen.{RowPen}
use Rattle.fax_lines.specs.declared.vertical_groups.ModesHere.{ModesHere}
use Rattle.fax_lines.proofs.DrawingLines.UsualModes.{vertical_on, left_stroke, b2_within, twice_2d, draws_mode}
use Rattle.fax_lines.proofs.DrawingLines.UsualStrokes.{pixels-pending}
use Rattle.std.proofs.Math.Seq.{take-suc}
use Rattle.fax_reading.proofs.PixelRows.ReferencePlaces.{end_within}
use Rattle.fax_reading.proofs.PixelRows.B1ByParity.{turns_next, rising}

-- where a word leads to
pub named_by : (b1 offset place : ℕ) → b1 + offset ≡ place + 3 → pos b1 +ℤ distance_of offset ≡ pos place
named_by b1 offset place e = omega (arith, ints, e)

pub moved_on : (first more : ℕ) (at : BitsAt) → moved more (moved first at) ≡ moved (first + more) at
moved_on first more at = ap (λ (place : ℕ). record { bits = at.bits; place = place }) (omega arith)

moved_none : (at : BitsAt) → moved 0 at ≡ at
moved_none at = ap (λ (place : ℕ). record { bits = at.bits; place = place }) (omega arith)

-- the colour is that of the number of changes
pub one_color : (count : ℕ) (a b : Color) → TurnsFrom count a → TurnsFrom count b → a ≡ b
one_color count White White e f = refl
one_color count White Black e f = absurd (omega (arith, e, f))
one_color count Black White e f = absurd (omega (arith, e, f))
one_color count Black Black e f = refl

module _ {columns : ℕ} {places : List ℕ} (ascend : AreChanges columns places) where
  -- after a regular place the next index is that of b1, in the other colour
  regular_b1 : {painted index place : ℕ} {color : Color} → IsB1 columns places painted index color
      → IsRegular columns places painted index place → IsB1 columns places place (index + 1) (opposite color)
  regular_b1 {painted} {index} {place} {color} at regular = grind (arith, common_steps, turns_next, rising, regular)

  -- a row reaches a regular place, and is turned there
  regular_stroke : {painted index place : ℕ} {color : Color} {row : List ℕ} → painted < columns
      → IsStroke columns places painted index color row → IsRegular columns places painted index place
      → IsStroke columns places place (index + 1) (opposite color) (row ++ place ∷ [])
  regular_stroke open_row stroke regular =
      left_stroke ascend open_row stroke regular.right (omega (arith, regular.left, b2_within ascend open_row stroke)) refl refl
      (regular_b1 (stroke.at open_row) regular)

  regular_inside : {painted index place : ℕ} → IsRegular columns places painted index place → place < columns
  regular_inside {painted} {index} regular = omega (arith, regular.left, end_within columns places ascend (index + 1))

  -- a regular mode is one step, of two ticks
  regular_on : {strict : Bool} {painted index place : ℕ} {color : Color} {row : List ℕ} {word : VerticalWord} (at : BitsAt)
      (ticks : ℕ)
      → columns ≤ 4294967295 → painted < columns → IsStroke columns places painted index color row → IsNextWord word at
      → get_or places index columns + word.offset ≡ place + 3 → IsRegular columns places painted index place
      → GoesOn2d strict columns (pixels columns places) (pen_at painted row color at)
      (pen_at place (row ++ place ∷ []) (opposite color) (moved word.width at)) ticks (ticks + 2) (index - 1) (index + 1 - 1)
  regular_on {strict} {painted} {index} {place} {color} {row} {word} at ticks fits open_row stroke next named regular =
      rw pixels-pending (vertical_on ascend open_row stroke at (index + 1) word.width
      (omega (arith, fits, regular_inside regular)) next.read (named_by _ _ place named)
      (omega (arith, regular.right)) (omega (arith, regular_inside regular)) (omega arith) (omega arith))

-- ---- Some regular modes, one after another.

-- the last place
abbrev pub last_place : ℕ → List ℕ → ℕ
last_place painted [] = painted
last_place painted (place ∷ group) = last_place place group

abbrev pub color_after : List ℕ → Color → Color
color_after [] color = color
color_after (place ∷ group) color = color_after group (opposite color)

-- each place is regular after the one before it
abbrev pub AreRegular : ℕ → List ℕ → ℕ → ℕ → List ℕ → Type 0
AreRegular columns places painted index [] = ⊤
AreRegular columns places painted index (place ∷ group) =
    IsRegular columns places painted index place × AreRegular columns places place (index + 1) group

-- each is where a word leads to
abbrev pub AreNamed : ℕ → List ℕ → ℕ → List VerticalWord → List ℕ → Type 0
AreNamed columns places index words [] = ⊤
AreNamed columns places index [] (place ∷ group) = 1 ≤ 0
AreNamed columns places index (word ∷ words) (place ∷ group) =
    (get_or places index columns + word.offset ≡ place + 3) × AreNamed columns places (index + 1) words group

-- the row isn't full
group_inside : (columns : ℕ) (places : List ℕ) (group : List ℕ) (painted index : ℕ) → AreChanges columns places → painted <
    columns
    → AreRegular columns places painted index group → last_place painted group < columns
group_inside columns places [] painted index ascend open_row regular = open_row
group_inside columns places (place ∷ group) painted index ascend open_row regular =
    group_inside columns places group place (index + 1) ascend (regular_inside ascend regular.0) regular.1

module _ {columns : ℕ} {places : List ℕ} (ascend : AreChanges columns places) where
  -- the row that is reached
  pub group_stroke : (group : List ℕ) (painted index : ℕ) (color : Color) (row : List ℕ) → painted < columns
      → IsStroke columns places painted index color row → AreRegular columns places painted index group
      → IsStroke columns places (last_place painted group) (index + length group) (color_after group color) (row ++ group)
  group_stroke [] painted index color row open_row stroke regular = grind (arith, common_steps, append-nil)
  group_stroke (place ∷ group) painted index color row open_row stroke regular =
      let on = group_stroke group place (index + 1) (opposite color) (row ++ place ∷ []) (regular_inside ascend regular.0)
      (regular_stroke ascend open_row stroke regular.0) regular.1 in
      subst (λ (r : List ℕ). IsStroke columns places (last_place place group) (index + suc (length group))
      (color_after group (opposite color)) r) (append_assoc row (place ∷ []) group)
      (subst (λ (n : ℕ). IsStroke columns places (last_place place group) n (color_after group (opposite color))
      ((row ++ place ∷ []) ++ group)) (omega arith) on)

  -- and the line, of two ticks a mode
  pub group_on : {strict : Bool} (group : List ℕ) (words : List VerticalWord) (painted index : ℕ) (color : Color) (row : List ℕ)
      (at : BitsAt) (ticks : ℕ) → columns ≤ 4294967295 → painted < columns → IsStroke columns places painted index color row
      → AreNextWords words at → AreNamed columns places index words group → AreRegular columns places painted index group
      → GoesOn2d strict columns (pixels columns places) (pen_at painted row color at) (pen_at (last_place painted group) (row
      ++ group)
      (color_after group color) (moved (width_of (take (length group) words)) at)) ticks (ticks + 2 * length group) (index - 1)
      (index + length group - 1)
  group_on [] words painted index color row at ticks fits open_row stroke next named regular =
      let none : at.place + 0 ≡ at.place = omega arith in
      rw (append-nil row, none) (record {
        line = refl;
        strictly = refl;
        counts = omega arith;
        at_least = omega arith;
        at_most = omega arith;
        none = λ e. (omega arith, e);
      })
  group_on (place ∷ group) [] painted index color row at ticks fits open_row stroke next named regular =
      grind (arith, common_steps, named)
  group_on {strict} (place ∷ group) (word ∷ words) painted index color row at ticks fits open_row stroke next named regular =
      let first = regular_on ascend {strict = strict} at ticks fits open_row stroke next.0 named.0 regular.0 in
      let on = group_on {strict = strict} group words place (index + 1) (opposite color) (row ++ place ∷ []) (moved word.width at)
      (ticks + 2) fits (regular_inside ascend regular.0) (regular_stroke ascend open_row stroke regular.0) next.1 named.1
      regular.1 in
      let sum : ticks + 2 + 2 * length group ≡ ticks + 2 * suc (length group) = omega arith in
      let far : index + 1 + length group - 1 ≡ index + suc (length group) - 1 = omega arith in
      let there = moved_on word.width (width_of (take (length group) words)) at in
      subst (λ (next : BitsAt). GoesOn2d strict columns (pixels columns places) (pen_at painted row color at)
      (pen_at (last_place place group) (row ++ place ∷ group) (color_after group (opposite color)) next) ticks
      (ticks + 2 * suc (length group)) (index - 1) (index + suc (length group) - 1)) there
      (rw (sym sum, sym far, sym (append_assoc row (place ∷ []) group)) (twice_2d first on))

-- ---- The first modes of a group.
are_regular_each : (columns : ℕ) (places : List ℕ) (painted index : ℕ) (group : List ℕ)
    → ((k : ℕ) → k < length group → IsRegular columns places (get_or (painted ∷ group) k 0) (index + k) (get_or group k 0))
    → AreRegular columns places painted index group
are_regular_each columns places painted index [] each = tt
are_regular_each columns places painted index (place ∷ group) each = (
  subst (λ (n : ℕ). IsRegular columns places painted n place) (omega arith) (each 0 (omega arith)),
  are_regular_each columns places place (index + 1) group (λ k lt. subst (λ (n : ℕ). IsRegular columns places
      (get_or (place ∷ group) k 0) n (get_or group k 0)) (omega arith) (each (suc k) (omega (arith, lt)))),
)

are_named_each : (columns : ℕ) (places : List ℕ) (index : ℕ) (words : List VerticalWord) (group : List ℕ) → length group ≤
    length words
    → ((k : ℕ) → k < length group → get_or places (index + k) columns + offset_at words k ≡ get_or group k 0 + 3)
    → AreNamed columns places index words group
are_named_each columns places index words [] few each = tt
are_named_each columns places index [] (place ∷ group) few each = absurd (omega (arith, few))
are_named_each columns places index (word ∷ words) (place ∷ group) few each = (
  subst (λ (n : ℕ). get_or places n columns + word.offset ≡ place + 3) (omega arith) (each 0 (omega arith)),
  are_named_each columns places (index + 1) words group (omega (arith, few)) (λ k lt. subst (λ (n : ℕ). get_or places n columns
      + offset_at words k ≡ get_or group k 0 + 3) (omega arith) (each (suc k) (omega (arith, lt)))),
)

last_taken : (painted : ℕ) (group : List ℕ) → last_place painted group ≡ get_or (painted ∷ group) (length group) 0
last_taken painted [] = refl
last_taken painted (place ∷ group) = last_taken place group

-- no fewer bits than words
bits_at_least : (words : List VerticalWord) (n : ℕ) (at : BitsAt) → AreNextWords words at → n ≤ length words
    → n ≤ width_of (take n words)
bits_at_least words zero at next few = omega arith
bits_at_least [] (suc n) at next few = absurd (omega (arith, few))
bits_at_least (word ∷ words) (suc n) at next few =
    omega (arith, next.0.some, bits_at_least words n (moved word.width at) next.1 (omega (arith, few)))

-- a place that is stored after a row
pub stored_at : (row places : List ℕ) (i k d : ℕ) → k < length places → i ≡ length row + k → get_or (row ++ places) i d ≡
    get_or places k 0
stored_at row places i k d few e =
    ap (λ (j : ℕ). get_or (row ++ places) j d) e ∙ get_or-append-add row places k d ∙ get_or_default_zero places k d few

pub after_first : (painted : ℕ) (places : List ℕ) (n : ℕ) → 0 < n → get_or places (n - 1) 0 ≡ get_or (painted ∷ places) n 0
after_first painted places zero some = absurd (omega (arith, some))
after_first painted places (suc n) some = ap (λ (k : ℕ). get_or places k 0) (omega arith)

-- a word among others is next after those before it
pub next_word : (words : List VerticalWord) (n : ℕ) (at : BitsAt) → AreNextWords words at → n < length words
    → (word : VerticalWord) × (word.offset ≡ offset_at words n) × (width_of (take n words) + word.width ≡ width_of (take (suc
    n) words))
    × IsNextWord word (moved (width_of (take n words)) at)
next_word [] n at next few = absurd (omega (arith, few))
next_word (word ∷ words) zero at next few = (word, refl, omega arith, rw (moved_none at) next.0)
next_word (word ∷ words) (suc n) at next few =
    let on = next_word words n (moved word.width at) next.1 (omega (arith, few)) in
    let sum : width_of (take n words) + on.0.width ≡ width_of (take (suc n) words) = on.2 in
    (on.0, on.1, omega (arith, sum), rw (sym (moved_on word.width (width_of (take n words)) at)) on.3)

module _ {line : CodingLine} {stroke : Stroke} {pen : RowPen} {modes : ModesHere}
    (can : CanDraw line stroke pen) (here : AreModesHere line stroke pen.window modes) (n : ℕ)
    (within : n ≤ length (words_of modes.group)) (set : AreSet modes.regular n) where
  count : length (take n modes.places) ≡ n
  count = length-take-le n modes.places (omega (arith, within, here.few, here.lead.four))

  before_is : (k : ℕ) → k ≤ n → get_or (stroke.painted ∷ take n modes.places) k 0 ≡ get_or (stroke.painted ∷ modes.places) k 0
  before_is zero le = refl
  before_is (suc k) le = get_or-take n modes.places k 0 (omega (arith, le))

  regular : AreRegular line.columns (changes_in line.places.now) stroke.painted stroke.index (take n modes.places)
  regular = grind (arith, common_steps, get_or-take, are_regular_each, count, before_is)

  named : AreNamed line.columns (changes_in line.places.now) stroke.index (words_of modes.group) (take n modes.places)
  named = are_named_each line.columns (changes_in line.places.now) stroke.index (words_of modes.group) (take n modes.places)
      (omega (arith, count, within)) (λ k lt.
      let below : k < n = omega (arith, lt, count) in
      let is = here.lead.regular k (omega (arith, below, within, here.few)) (λ j le. set j (omega (arith, le, below))) in
      rw (get_or-take n modes.places k 0 below) (here.lead.named k (omega (arith, below, within, here.few))
      (omega (arith, is.left, end_within line.columns (changes_in line.places.now) can.ended.lawful (stroke.index + k + 1)))))

  is_open : last_place stroke.painted (take n modes.places) < line.columns
  is_open = group_inside line.columns (changes_in line.places.now) (take n modes.places) stroke.painted stroke.index
      can.ended.lawful can.inside regular

  -- the place that is reached
  pub first_last : last_place stroke.painted (take n modes.places) ≡ get_or (stroke.painted ∷ modes.places) n 0
  first_last = last_taken stroke.painted (take n modes.places) ∙ ap (λ (k : ℕ). get_or (stroke.painted ∷ take n modes.places) k
      0) count ∙ before_is n (omega arith)

  pub first_inside : get_or (stroke.painted ∷ modes.places) n 0 < line.columns
  first_inside = rw first_last at is_open

  -- the row that is reached
  pub first_reached : (color : Color) → TurnsFrom (length (pen.row.items ++ take n modes.places)) color → IsStroke line.columns
      (changes_in line.places.now) (get_or (stroke.painted ∷ modes.places) n 0) (stroke.index + n) color (pen.row.items ++ take n
      modes.places)
  first_reached color turns =
      let on = group_stroke can.ended.lawful (take n modes.places) stroke.painted stroke.index stroke.color pen.row.items
      can.inside can.reached regular in
      let same = one_color (length (pen.row.items ++ take n modes.places)) _ color (on.colored is_open) turns in
      rw (first_last, count, same) at on

  -- and the line
  pub first_drawn : (ticks : ℕ) (color : Color) → TurnsFrom (length (pen.row.items ++ take n modes.places)) color
      → GoesOn2d line.strict line.columns (row_in line.columns line.places.now) (pen_here stroke pen)
      (pen_at (get_or (stroke.painted ∷ modes.places) n 0) (pen.row.items ++ take n modes.places) color
      (moved (width_of (take n (words_of modes.group))) pen.window.at)) ticks (ticks + 2 * n) (stroke.index - 1)
      (stroke.index + n - 1)
  first_drawn ticks color turns =
      let on = group_stroke can.ended.lawful (take n modes.places) stroke.painted stroke.index stroke.color pen.row.items
      can.inside can.reached regular in
      let same = one_color (length (pen.row.items ++ take n modes.places)) _ color (on.colored is_open) turns in
      rw (first_last, count, same) at (group_on can.ended.lawful {strict = line.strict} (take n modes.places) (words_of
      modes.group) stroke.painted
      stroke.index stroke.color pen.row.items pen.window.at ticks (omega (arith, can.fits)) can.inside can.reached here.next named
      regular)

  -- the line with the mode after them, which leads to a place that isn't left of them
  next_drawn : {place ticks now : ℕ} (later : ℕ) (color : Color) → n < length (words_of modes.group) → place ≡ get_or
      modes.places n 0
      → get_or (stroke.painted ∷ modes.places) n 0 ≤ place → place ≤ line.columns
      → TurnsFrom (length (pen.row.items ++ take n modes.places)) color → ticks + 2 * n + 1 ≤ now
      → now + (stroke.index + n - 1) ≤ ticks + 2 * n + 4 + (later - 1)
      → GoesOn2d line.strict line.columns (row_in line.columns line.places.now) (pen_here stroke pen)
      (pen_at place (pen.row.items ++ take n modes.places) (opposite color)
      (moved (width_of (take (suc n) (words_of modes.group))) pen.window.at)) ticks now (stroke.index - 1) (later - 1)
  next_drawn {place} {ticks} {now} later color more is right within_row colored least most =
      let width : ℕ = width_of (take n (words_of modes.group)) in
      let word = next_word (words_of modes.group) n pen.window.at here.next more in
      let named = here.lead.named n (omega (arith, more, here.few)) (omega (arith, is, within_row)) in
      let step = vertical_on can.ended.lawful first_inside (first_reached color colored) {strict = line.strict}
      (moved width pen.window.at) later word.0.width {ticks = ticks + 2 * n} {now = now} (omega (arith, can.fits, within_row))
      word.3.read
      (named_by (get_or (changes_in line.places.now) (stroke.index + n) line.columns) word.0.offset place
      (omega (arith, named, word.1, is))) right within_row least most in
      subst (λ (at : BitsAt). GoesOn2d line.strict line.columns (row_in line.columns line.places.now) (pen_here stroke pen)
      (pen_at place (pen.row.items ++ take n modes.places) (opposite color) at) ticks now (stroke.index - 1) (later - 1))
      (moved_on width word.0.width pen.window.at ∙ ap (λ (w : ℕ). moved w pen.window.at) word.2)
      (twice_2d (first_drawn ticks color colored) step)

  -- ---- What is drawn, by a window, a row and a stroke.
  module _ {next : Stroke} {after : RowPen} (room : vec_len after.row + after.window.left ≤ vec_capacity after.row) where
    -- the regular modes
    pub draws_first : 0 < n → next.painted ≡ get_or (stroke.painted ∷ modes.places) n 0 → next.index ≡ stroke.index + n
        → TurnsFrom (vec_len after.row) next.color → after.row.items ≡ pen.row.items ++ take n modes.places
        → after.window.at ≡ moved (width_of (take n (words_of modes.group))) pen.window.at → after.ticks ≡ pen.ticks + 2 * n
        → DrawsMode line stroke pen next after
    draws_first some painted index colored items at counted =
        let turns : TurnsFrom (length (pen.row.items ++ take n modes.places)) next.color =
        rw (after.row.ok.0, items) at colored in
        draws_mode (rw (painted, index, items, at, counted) (first_drawn pen.ticks next.color turns))
        (rw (painted, index, items) (first_reached next.color turns))
        (rw at (omega (arith, some, bits_at_least (words_of modes.group) n pen.window.at here.next within))) room

    module _ (color : Color) (more : n < length (words_of modes.group))
        (colored : TurnsFrom (length (pen.row.items ++ take n modes.places)) color) (turned : next.color ≡ opposite color)
        (at : after.window.at ≡ moved (width_of (take (suc n) (words_of modes.group))) pen.window.at)
        (least : pen.ticks + 2 * n + 1 ≤ after.ticks)
        (most : after.ticks + (stroke.index + n - 1) ≤ pen.ticks + 2 * n + 4 + (next.index - 1)) where
      -- the next mode, at another place of the row, right of them
      pub draws_next : next.painted ≡ get_or modes.places n 0 → get_or (stroke.painted ∷ modes.places) n 0 < next.painted
          → next.painted < line.columns → IsB1 line.columns (changes_in line.places.now) next.painted next.index (opposite color)
          → after.row.items ≡ pen.row.items ++ take (suc n) modes.places → DrawsMode line stroke pen next after
      draws_next is right inside b1 items =
          let one : take (suc n) modes.places ≡ take n modes.places ++ next.painted ∷ [] =
          rw is (take-suc modes.places n 0 (omega (arith, here.lead.four, more, here.few))) in
          let longer_is : after.row.items ≡ (pen.row.items ++ take n modes.places) ++ next.painted ∷ [] =
          items ∙ ap (λ xs. pen.row.items ++ xs) one
          ∙ sym (append_assoc pen.row.items (take n modes.places) (next.painted ∷ [])) in
          let some : pen.window.at.place < pen.window.at.place + width_of (take (suc n) (words_of modes.group)) =
          omega (arith, bits_at_least (words_of modes.group) (suc n) pen.window.at here.next more) in
          draws_mode (rw (at, turned, longer_is, pixels-pending)
          (next_drawn next.index color more is (omega (arith, right)) (omega (arith, inside)) colored least most))
          (left_stroke can.ended.lawful first_inside (first_reached color colored) right inside longer_is turned b1) (rw at
          some) room
