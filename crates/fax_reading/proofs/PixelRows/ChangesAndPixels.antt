-- Valid lists of changes and rows of pixels correspond one to one, and what painting does to both.
use Rattle.fax_reading.proofs.Names.{◌≡◌, ℕ, zero, suc, ◌+◌, ◌-◌, ◌%◌, ◌<◌, ◌≤◌, eqb, Bool, true, false, not, List, [], ◌∷◌}
use Rattle.fax_reading.proofs.Names.{◌++◌, length, replicate, refl, sym, arith, append_assoc, length-append, add-one, beq}
use Rattle.fax_reading.proofs.Names.{range_with_len, filter, length-replicate, replicate-append-replicate, Row, pixel, is_change}
use Rattle.fax_reading.proofs.Names.{changes, AscendFrom, AreChanges, pixels_from, pixels, last_pixel, continued, common_steps}
use Rattle.fax_reading.proofs.PixelRows.RowChanges.{changes_from, changes_from-append, changes_from-same}

-- ---- Ascending positions.

-- positions that ascend from a position on ascend from any position to its left, and below any larger width
pub AscendFrom-wider : (low first width wider : ℕ) (places : List ℕ) → low ≤ first → width ≤ wider → AscendFrom first width places
    → AscendFrom low wider places
AscendFrom-wider low first width wider [] le below ascend = tt
AscendFrom-wider low first width wider (place ∷ places) le below ascend =
    grind (arith, common_steps, AscendFrom-wider (suc place) (suc place) width wider places (omega arith) below ascend.2)

-- positions that ascend right of a position ascend from it on
pub AscendFrom-here : (place width : ℕ) (places : List ℕ) → AscendFrom (suc place) width places → AscendFrom place width places
AscendFrom-here place width places ascend = grind (arith, common_steps, AscendFrom-wider)

-- changes below a width are changes below a larger one
pub AreChanges-wider : (width wider : ℕ) (places : List ℕ) → width ≤ wider → AreChanges width places → AreChanges wider places
AreChanges-wider width wider places below ascend = AscendFrom-wider 0 0 width wider places (omega arith) below ascend

-- a sink that is as wide as the row accepts the changes of a front
pub front_fits : (painted columns width : ℕ) (places : List ℕ) → painted ≤ columns → columns ≤ width → AreChanges painted places
    → AreChanges width places
front_fits painted columns width places within wide ascend = AreChanges-wider painted width places (omega arith) ascend

-- one position more, at the old width
pub AscendFrom-push : (first width more : ℕ) (places : List ℕ) → first ≤ width → 0 < more → AscendFrom first width places
    → AscendFrom first (width + more) (places ++ width ∷ [])
AscendFrom-push first width more [] le some ascend = (le, omega arith, tt)
AscendFrom-push first width more (place ∷ places) le some ascend =
    grind (arith, common_steps, AscendFrom-push (suc place) width more places (omega arith) some ascend.2)

-- ---- Pixels between positions.

-- a row that continues past its first position begins with a pixel of the colour
pub pixels_from-first : (place : ℕ) (color : Bool) (width : ℕ) (places : List ℕ) → place < width → AscendFrom
    (suc place) width places → pixels_from place color width places ≡ color ∷ pixels_from (suc place) color width places
pixels_from-first place color width [] lt ascend = let e : width - place ≡ suc (width - suc place) = omega arith in rw e refl
pixels_from-first place color width (change ∷ places) lt ascend =
    let e : change - place ≡ suc (change - suc place) = omega arith in
    rw e refl

-- the pixels from a position on reach up to the width
pub length-pixels_from : (place : ℕ) (color : Bool) (width : ℕ) (places : List ℕ) → place ≤ width → AscendFrom place width places
    → place + length (pixels_from place color width places) ≡ width
length-pixels_from place color width [] le ascend = omega (arith, length-replicate (width - place) color)
length-pixels_from place color width (change ∷ places) le ascend =
    let step = length-pixels_from change (not color) width places (omega arith) (AscendFrom-here change width places ascend.2) in
    grind (arith, common_steps, AscendFrom-here, length-append, length-replicate, step)

-- a row of valid changes has as many pixels as its width
pub length-pixels : (width : ℕ) (places : List ℕ) → AreChanges width places → length (pixels width places) ≡ width
length-pixels width places ascend = omega (arith, length-pixels_from 0 false width places (omega arith) ascend)

-- ---- The last pixel.

-- the last pixel of two rows one after the other
pub last_pixel-append : (before : Bool) (front row : Row)
    → last_pixel before (front ++ row) ≡ last_pixel (last_pixel before front) row
last_pixel-append before [] row = refl
last_pixel-append before (pixel ∷ front) row = last_pixel-append pixel front row

-- the last of pixels of the colour before them
pub last_pixel-same : (n : ℕ) (color : Bool) → last_pixel color (replicate n color) ≡ color
last_pixel-same zero color = refl
last_pixel-same (suc n) color = last_pixel-same n color

-- the colour after these changes: it turns at each
abbrev pub turned_at : Bool → List ℕ → Bool
turned_at color [] = color
turned_at color (place ∷ places) = turned_at (not color) places

-- after an even number of changes the colour is the same, and else the other one
pub turned_at-even : (color : Bool) (places : List ℕ) → turned_at color places ≡ beq (eqb (length places % 2) 0) color
turned_at-even color [] = grind (arith, common_steps)
turned_at-even color (place ∷ places) = grind (arith, common_steps, turned_at-even (not color) places)

-- each valid change is followed by a pixel, so the last pixel has the colour after all of them
pub last_pixel-pixels_from : (place : ℕ) (color : Bool) (width : ℕ) (places : List ℕ) → AscendFrom place width places
    → last_pixel color (pixels_from place color width places) ≡ turned_at color places
last_pixel-pixels_from place color width [] ascend = last_pixel-same (width - place) color
last_pixel-pixels_from place color width (change ∷ places) ascend =
    let step = last_pixel-pixels_from change (not color) width places (AscendFrom-here change width places ascend.2) in
    grind (arith, common_steps, AscendFrom-here, last_pixel-append, last_pixel-same, pixels_from-first, step)

-- the last pixel of a row of valid changes
pub last_pixel-pixels : (width : ℕ) (places : List ℕ) → AreChanges width places
    → last_pixel false (pixels width places) ≡ turned_at false places
last_pixel-pixels width places ascend = last_pixel-pixels_from 0 false width places ascend

-- ---- Painting.

-- a wider row continues in its last colour; the last change may equal the width
pub pixels_from-on : (place : ℕ) (color : Bool)
    (width more : ℕ) (places : List ℕ) → place ≤ width → AscendFrom place (suc width) places → pixels_from place color
    (width + more) places ≡ pixels_from place color width places ++ replicate more (turned_at color places)
pixels_from-on place color width more [] le ascend = grind (arith, common_steps, replicate-append-replicate)
pixels_from-on place color width more (change ∷ places) le ascend = grind (
  arith,
  append_assoc,
  pixels_from-on change (not color) width more places (omega arith) (AscendFrom-here change (suc width) places ascend.2),
)

-- so painting pixels of the last colour adds no change
pub pixels-same : (width more : ℕ) (places : List ℕ) → AreChanges width places
    → pixels (width + more) places ≡ pixels width places ++ replicate more (last_pixel false (pixels width places))
pixels-same width more places ascend = rw (last_pixel-pixels width places ascend) (pixels_from-on 0 false width more places
    (omega arith) (AscendFrom-wider 0 0 width (suc width) places (omega arith) (omega arith) ascend))

-- one change more at the end of a row continues in the other colour
pub pixels_from-push : (place : ℕ) (color : Bool) (width more : ℕ) (places : List ℕ) → pixels_from place color (width + more)
    (places ++ width ∷ []) ≡ pixels_from place color width places ++ replicate more (not (turned_at color places))
pixels_from-push place color width more [] = let e : width + more - width ≡ more = omega arith in rw e refl
pixels_from-push place color width more (change ∷ places) =
    rw (pixels_from-push change (not color) width more places) (sym (append_assoc (replicate (change - place) color) _ _))

-- so painting pixels of the other colour adds a change where the row ended
pub pixels-push : (width more : ℕ) (places : List ℕ) → AreChanges width places → pixels (width + more) (places ++ width ∷ [])
    ≡ pixels width places ++ replicate more (not (last_pixel false (pixels width places)))
pixels-push width more places ascend = rw (last_pixel-pixels width places ascend) (pixels_from-push 0 false width more places)

-- and the changes are valid
pub AreChanges-push : (width more : ℕ) (places : List ℕ) → 0 < more → AreChanges width places
    → AreChanges (width + more) (places ++ width ∷ [])
AreChanges-push width more places some ascend = AscendFrom-push 0 width more places (omega arith) some ascend

-- ---- The changes of a row by recursion are its changes.

-- the changes past a front
changes-rest : (front row : Row) → filter (is_change (front ++ row)) (range_with_len (length front) (length row))
    ≡ changes_from (length front) (last_pixel false front) row
changes-rest front [] = refl
changes-rest front (here ∷ row) = let step = changes-rest (front ++ here ∷ []) row in
    grind (arith, common_steps, add-one, append_assoc, last_pixel-append, length-append, step)

-- the changes of a row, by recursion
pub changes-recursive : (row : Row) → changes row ≡ changes_from 0 false row
changes-recursive row = changes-rest [] row

-- ---- There and back.

-- the changes of pixels are the positions that they turn at
pub changes_from-pixels_from : (place : ℕ) (color : Bool) (width : ℕ) (places : List ℕ) → AscendFrom place width places
    → changes_from place color (pixels_from place color width places) ≡ places
changes_from-pixels_from place color width [] ascend = changes_from-same place (width - place) color
changes_from-pixels_from place color width (change ∷ places) ascend = grind (
  arith,
  length-replicate,
  pixels_from-first,
  changes_from-append,
  changes_from-same,
  last_pixel-same,
  changes_from-pixels_from (suc change) (not color) width places ascend.2,
)

-- the changes of a row of valid changes are these
pub changes-pixels : (width : ℕ) (places : List ℕ) → AreChanges width places → changes (pixels width places) ≡ places
changes-pixels width places ascend = grind (arith, common_steps, changes-recursive, changes_from-pixels_from)

-- the changes of a row ascend, and stay inside it
pub AscendFrom-changes_from : (place : ℕ) (before : Bool) (row : Row) (width : ℕ) → place + length row ≡ width
    → AscendFrom place width (changes_from place before row)
AscendFrom-changes_from place before [] width e = tt
AscendFrom-changes_from place true (true ∷ row) width e =
    grind (arith, common_steps, AscendFrom-here, AscendFrom-changes_from (suc place) true row width (omega arith))
AscendFrom-changes_from place false (false ∷ row) width e =
    grind (arith, common_steps, AscendFrom-here, AscendFrom-changes_from (suc place) false row width (omega arith))
AscendFrom-changes_from place true (false ∷ row) width e =
    (omega arith, omega arith, AscendFrom-changes_from (suc place) false row width (omega arith))
AscendFrom-changes_from place false (true ∷ row) width e =
    (omega arith, omega arith, AscendFrom-changes_from (suc place) true row width (omega arith))

-- where the row's first pixel has the colour, the rest decides
changes_go_on : (place : ℕ) (color : Bool) (row : Row) (width : ℕ) → place + suc (length row) ≡ width
    → pixels_from (suc place) color width (changes_from (suc place) color row) ≡ row
    → pixels_from place color width (changes_from (suc place) color row) ≡ color ∷ row
changes_go_on place color row width e rest = grind (arith, common_steps, AscendFrom-changes_from, changes_from, pixels_from-first)

-- the pixels between the changes of a row are the row
pub pixels_from-changes_from : (place : ℕ) (before : Bool) (row : Row) (width : ℕ) → place + length row ≡ width
    → pixels_from place before width (changes_from place before row) ≡ row
pixels_from-changes_from place before [] width e = let none : width - place ≡ 0 = omega arith in rw none refl
pixels_from-changes_from place true (true ∷ row) width e =
    changes_go_on place true row width e (pixels_from-changes_from (suc place) true row width (omega arith))
pixels_from-changes_from place before (false ∷ row) width e = grind
    (arith, common_steps, changes_go_on, pixels_from-changes_from (suc place) false row width (omega arith))
pixels_from-changes_from place false (true ∷ row) width e =
    grind (arith, common_steps, changes_go_on, pixels_from-changes_from (suc place) true row width (omega arith))

-- the pixels of a row's changes are the row
pub pixels-changes : (row : Row) → pixels (length row) (changes row) ≡ row
pixels-changes row = rw (changes-recursive row) (pixels_from-changes_from 0 false row (length row) (omega arith))

-- a row's changes are valid
pub AreChanges-changes : (row : Row) → AreChanges (length row) (changes row)
AreChanges-changes row = rw (changes-recursive row) (AscendFrom-changes_from 0 false row (length row) (omega arith))

-- ---- What a context does to them.

-- a front that isn't full, continued in its last colour, has no more changes
pub continued-pixels : (columns width : ℕ) (places : List ℕ) → width ≤ columns → AreChanges width places
    → continued columns (pixels width places) ≡ pixels columns places
continued-pixels columns width places within ascend =
    grind (arith, common_steps, length-pixels width places ascend, pixels-same width (columns - width) places ascend)

-- so a context passes on the changes that it stored
pub changes-continued : (columns width : ℕ) (places : List ℕ) → width ≤ columns → AreChanges width places
    → changes (continued columns (pixels width places)) ≡ places
changes-continued columns width places within ascend =
    grind (arith, common_steps, continued-pixels, changes-pixels, AreChanges-wider)
