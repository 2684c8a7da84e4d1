-- Runs that are drawn by their changes alone.
use Rattle.fax_lines.specs.ContextSteps.{DrawsUsualRuns}
use Rattle.fax_lines.proofs.Names.{common_steps}
use Rattle.fax_lines.proofs.Names.{◌≡◌, ◌≢◌, ℕ, suc, ◌+◌, ◌-◌, ◌%◌, ◌<◌, ◌≤◌, ◌⊎◌, inl, inr, Bool, true, false, min, List}
use Rattle.fax_lines.proofs.Names.{[], ◌∷◌, ◌++◌, length, replicate, Ok, refl, sym, ap, subst, ◌∙◌, arith, cases_lt, le-ltb}
use Rattle.fax_lines.proofs.Names.{length-append, length-drop, length-replicate, append-nil, Color, White, Black, Step, pen_of}
use Rattle.fax_lines.proofs.Names.{words_from_1d, Bits, BitsAt, here, Context, Held, redrawn, DecodeSettings, Pen, draw_run}
use Rattle.fax_lines.proofs.Names.{Turn, Row, AscendFrom, AreChanges, pixels, is_black, opposite, paint, run_from, run_found}
use Rattle.fax_lines.proofs.Names.{TwoRuns, AreTwoRunsHere, CanFollow, IsOpen, IsRunHere, IsReached, GoesOn, pen_at, moved}
use Rattle.fax_bits.proofs.Repetition.Repeated.{after_turn}
use Rattle.fax_bits.proofs.CodeWords.WordsHere.{run_here_too}
use Rattle.fax_reading.proofs.DrawingLines.CountedLines.{found_1d_from, found_after, found_1d_on, words_run}
use Rattle.fax_reading.proofs.DrawingLines.Drawings.{drawn_by, step_1d, run_then}
use Rattle.fax_reading.proofs.DrawingLines.DrawnLines.{IsDrawnSoFar, run_open}
use Rattle.fax_reading.proofs.PixelRows.ChangesAndPixels.{turned_at, turned_at-even, AreChanges-wider, AreChanges-push}
use Rattle.fax_reading.proofs.PixelRows.ChangesAndPixels.{length-pixels, pixels_from-on, pixels_from-push}

-- ---- Drawing continues.
pub goes_on_twice : (strict : Bool) (columns : ℕ) (a b c : Pen) (m n o : ℕ) → GoesOn strict columns a b m n
    → GoesOn strict columns b c n o → GoesOn strict columns a c m o
goes_on_twice strict columns a b c m n o first second = grind (arith, common_steps)

-- ---- Painting where there is room, or where more is cut off.
pub paint_fits : (strict : Bool) (columns : ℕ) (front : Row) (color : Color) (n : ℕ) → (n ≤ columns - length front) ⊎ (strict
    ≡ false) → paint strict columns front color n ≡ Ok (front ++ replicate (min n (columns - length front)) (is_black color))
paint_fits true columns front color n (inl le) = rw (le-ltb (columns - length front) n le) refl
paint_fits true columns front color n (inr e) = absurd cc
paint_fits false columns front color n fits = refl

-- a run that is read and painted
run_on : (strict : Bool) (columns : ℕ) (pen : Pen) (run words : ℕ) (rest : Bits) (front : Row) (ticks : ℕ)
    → length pen.front < columns → run_from pen.color (0, pen.rest) ≡ Ok (run, rest)
    → length (run_found pen.color (0, pen.rest)) ≡ words → ((s : Bool) → paint s columns pen.front pen.color run ≡ Ok front)
    → GoesOn strict columns pen (record { front = front; color = opposite pen.color; rest = rest }) ticks (ticks + words)
run_on strict columns pen run words rest front ticks open_row reads found paints =
    let next : Pen = record { front = front; color = opposite pen.color; rest = rest } in
    let steps : (s : Bool) → run_then s columns pen Turn.next ≡ Turn.next next = λ s. rw (reads, paints s) refl in
    let step : run_then strict columns pen Turn.next ≡ Turn.next next = steps strict in
    let line : (s : Bool) → drawn_by (step_1d s columns) pen ≡ drawn_by (step_1d s columns) next
    = λ s. run_open s columns pen open_row ∙ ap (after_turn (drawn_by (step_1d s columns))) (steps s) in
    let words_on = found_1d_on strict columns pen open_row in
    let after : List Bits = found_after (found_1d_from strict columns) (draw_run strict columns pen).turn in
    let on : length after ≡ length (found_1d_from strict columns next) =
    ap (λ (s : Step). length (found_after (found_1d_from strict columns) s)) step in
    let first : length (draw_run strict columns pen).words ≡ words = ap length (words_run strict columns pen) ∙ found in
    record {
      line = sym (line strict);
      strictly = sym (line true);
      counts = omega arith;
      counted = omega (arith, ap length words_on, length-append (draw_run strict columns pen).words after, on, first);
    }

-- ---- Rows of changes whose last one may equal the row's end.
even_is_white : (row : List ℕ) → length row % 2 ≡ 0 → turned_at false row ≡ false
even_is_white row even = turned_at-even false row ∙ rw even refl

-- pixels of the colour after the changes
pub pixels-on : (place more : ℕ) (row : List ℕ) → AreChanges (suc place) row
    → pixels (place + more) row ≡ pixels place row ++ replicate more (turned_at false row)
pixels-on place more row lawful = pixels_from-on 0 false place more row (omega arith) lawful

pub length-pixels-on : (place : ℕ) (row : List ℕ) → AreChanges (suc place) row → length (pixels place row) ≡ place
length-pixels-on place row lawful =
    let one : suc place ≡ place + 1 = omega arith in
    let whole : length (pixels (place + 1) row) ≡ place + 1 = length-pixels (place + 1) row (rw one at lawful) in
    omega (
      arith,
      whole,
      ap length (pixels-on place 1 row lawful),
      length-append (pixels place row) (replicate 1 (turned_at false row)),
      length-replicate 1 (turned_at false row),
    )

-- a change where the row ends, and pixels after it
pixels-turned : (place more : ℕ) (row : List ℕ) → length row % 2 ≡ 0
    → pixels (place + more) (row ++ place ∷ []) ≡ pixels place row ++ replicate more true
pixels-turned place more row even = grind (arith, common_steps, pixels_from-push, even_is_white)

-- a change at the end of the row isn't visible yet
pub pixels-pending : (place : ℕ) (row : List ℕ) → pixels place (row ++ place ∷ []) ≡ pixels place row
pixels-pending place row =
    let none : place + 0 ≡ place = omega arith in
    rw none at (pixels_from-push 0 false place 0 row) ∙ append-nil (pixels place row)

-- ---- The runs of a one-dimensional line, by twos.
-- a run whose pixels are those of a row of changes
run_drawn : (strict : Bool) (columns painted place : ℕ) (row longer : List ℕ) (color : Color) (at : BitsAt) (run width words
    ticks : ℕ) → AreChanges (suc painted) row → painted < columns → IsRunHere color at run width words → run ≤ columns - painted
    → place ≡ painted + min run (columns - painted)
    → ((more : ℕ) → pixels (painted + more) longer ≡ pixels painted row ++ replicate more (is_black color))
    → GoesOn strict columns (pen_at painted row color at) (pen_at place longer (opposite color) (moved width at)) ticks
    (ticks + words)
run_drawn strict columns painted place row longer color at run width words ticks lawful open_row here_run fits reach row_on =
    let front : Row = pixels painted row in
    let len : length front ≡ painted = length-pixels-on painted row lawful in
    let paints : (s : Bool) → paint s columns front color run
    ≡ Ok (front ++ replicate (min run (columns - painted)) (is_black color)) =
    λ s. paint_fits s columns front color run (inl (rw len fits))
    ∙ ap (λ (m : ℕ). Ok (front ++ replicate (min run (columns - m)) (is_black color))) len in
    run_on strict columns (pen_at painted row color at) run words (here (moved width at)) (pixels place longer) ticks
    (omega (arith, len)) here_run.read here_run.found
    (λ s. paints s ∙ ap Ok (sym (rw reach (row_on (min run (columns - painted))))))

pub white_on : (strict : Bool) (columns painted place : ℕ) (row : List ℕ) (at : BitsAt) (run width words ticks : ℕ)
    → AreChanges (suc painted) row → length row % 2 ≡ 0 → painted < columns → IsRunHere White at run width words
    → run ≤ columns - painted → place ≡ painted + min run (columns - painted)
    → GoesOn strict columns (pen_at painted row White at) (pen_at place row Black (moved width at)) ticks (ticks + words)
white_on strict columns painted place row at run width words ticks lawful even open_row here_run fits reach =
    run_drawn strict columns painted place row row White at run width words ticks lawful open_row here_run fits reach
    (λ more. rw (even_is_white row even) at (pixels-on painted more row lawful))

pub black_on : (strict : Bool) (columns painted place : ℕ) (row : List ℕ) (at : BitsAt) (run width words ticks : ℕ)
    → AreChanges (suc painted) row → length row % 2 ≡ 0 → painted < columns → IsRunHere Black at run width words
    → run ≤ columns - painted → place ≡ painted + min run (columns - painted) → GoesOn strict columns
    (pen_at painted row Black at) (pen_at place (row ++ painted ∷ []) White (moved width at)) ticks (ticks + words)
black_on strict columns painted place row at run width words ticks lawful even open_row here_run fits reach =
    run_drawn strict columns painted place row (row ++ painted ∷ []) Black at run width words ticks lawful open_row here_run fits
    reach (λ more. pixels-turned painted more row even)

-- ---- What a call that draws them returns.

-- one more
pub wider_by_one : (painted : ℕ) (row : List ℕ) → AreChanges (painted + 1) row → AreChanges (suc painted) row
wider_by_one painted row lawful = AreChanges-wider (painted + 1) (suc painted) row (omega arith) lawful

-- a white run up to the row's end
pub white_ends_here : (strict : Bool) (columns painted : ℕ) (row : List ℕ) (at next : BitsAt) (run width words ticks now : ℕ)
    → painted < columns → AreChanges (painted + 1) row → length row % 2 ≡ 0 → IsRunHere White at run width words
    → run ≤ columns - painted → columns - painted ≤ run → next ≡ moved width at → now ≡ ticks + words
    → GoesOn strict columns (pen_at painted row White at) (pen_at columns row Black next) ticks now
white_ends_here strict columns painted row at next run width words ticks now open_row lawful even there fits far on counts =
    rw (on, counts) (white_on strict columns painted columns row at run width words ticks (wider_by_one painted row lawful) even
    open_row there fits (omega (arith, open_row, far)))

pub white_ends : (strict : Bool) (columns painted : ℕ) (row : List ℕ) (at first next : BitsAt) (run width words ticks now : ℕ)
    → painted < columns → AreChanges (painted + 1) row → length row % 2 ≡ 0 → first ≡ at → IsRunHere White (moved 0 first) run
    width words → run ≤ columns - painted → columns - painted ≤ run → next ≡ moved width first
    → now ≡ ticks + words → GoesOn strict columns (pen_at painted row White at) (pen_at columns row Black next) ticks now
white_ends strict columns painted row at first next run width words ticks now open_row lawful even same there fits far on counts =
    rw (← same) (white_ends_here strict columns painted row first next run width words ticks now open_row lawful even
    (run_here_too White first run width words there) fits far on counts)

-- a white run, and a black one after it
pub two_runs : (settings : DecodeSettings) (painted place : ℕ) (row : List ℕ) (at last : BitsAt) (runs : TwoRuns) (ticks now : ℕ)
    → AreTwoRunsHere White at runs → CanFollow settings painted row runs
    → place ≡ painted + runs.first + min runs.second (settings.columns - (painted + runs.first)) → last ≡ moved runs.width at
    → now ≡ ticks + runs.words → GoesOn settings.strict settings.columns (pen_at painted row White at)
    (pen_at place (row ++ (painted + runs.first) ∷ []) White last) ticks now
two_runs settings painted place row at last runs ticks now there follow reach on counts =
    let columns = settings.columns in
    let between : BitsAt = moved there.width at in
    let turn : ℕ = painted + runs.first in
    let sum : at.place + runs.width ≡ at.place + there.width + there.width2 = omega (arith, there.bits) in
    let end : last ≡ moved there.width2 between = on ∙ ap (λ (p : ℕ). record { bits = at.bits; place = p }) sum in
    let work : now ≡ ticks + there.words + there.words2 = omega (arith, counts, there.count) in
    let lawful = follow.row_is_open.lawful in
    let even = follow.row_is_open.even in
    let short : runs.first < columns - painted = follow.inside in
    rw (end, work) (goes_on_twice settings.strict columns (pen_at painted row White at) (pen_at turn row Black between)
    (pen_at place (row ++ turn ∷ []) White (moved there.width2 between)) ticks (ticks + there.words)
    (ticks + there.words + there.words2)
    (white_on settings.strict columns painted turn row at runs.first there.width there.words ticks
    (wider_by_one painted row lawful) even follow.row_is_open.inside there.first (omega (arith, short))
    (omega (arith, short)))
    (black_on settings.strict columns turn place row between runs.second there.width2 there.words2 (ticks + there.words)
    (AreChanges-wider (painted + 1) (suc turn) row (omega arith) lawful) even (omega (arith, short)) there.second follow.fits
    reach))

-- the row is valid up to the next change
pub next_lawful : (painted run : ℕ) (row : List ℕ) → AreChanges (painted + 1) row → (0 < run) ⊎ (row ≡ [])
    → AreChanges (painted + run) row
next_lawful painted run row lawful (inl some) = AreChanges-wider (painted + 1) (painted + run) row (omega (arith, some)) lawful
next_lawful painted run row lawful (inr none) = rw none tt

-- a row that reaches less than its end isn't full
pub reached_open : (columns place : ℕ) (color : Color) (row : List ℕ) → IsReached columns place color row → place ≢ columns
    → IsOpen columns place row × (color ≡ White)
reached_open columns place color row reached other = grind (arith, common_steps)

pub open_reached : (columns place : ℕ) (row : List ℕ) → IsOpen columns place row → IsReached columns place White row
open_reached columns place row unfilled = grind (arith, common_steps)

pub reached_white : (columns painted : ℕ) (row : List ℕ) → painted < columns → AreChanges (painted + 1) row
    → IsReached columns columns Black row
reached_white columns painted row open_row lawful = record {
  within = omega arith;
  lawful = AreChanges-wider (painted + 1) (columns + 1) row (omega (arith, open_row)) lawful;
  even = λ lt. absurd (omega (arith, lt));
  whole = λ le. AreChanges-wider (painted + 1) columns row (omega (arith, open_row)) lawful;
}

pub reached_black : (columns place : ℕ) (row new : List ℕ) → place < columns → AreChanges place row → new ≡ row ++ place ∷ []
    → IsReached columns columns White new
reached_black columns place row new open_row lawful is =
    let sum : place + (columns - place) ≡ columns = omega (arith, open_row) in
    let whole : AreChanges columns (row ++ place ∷ []) =
    rw sum at (AreChanges-push place (columns - place) row (omega (arith, open_row)) lawful) in
    rw is (record {
      within = omega arith;
      lawful = AreChanges-wider columns (columns + 1) (row ++ place ∷ []) (omega arith) whole;
      even = λ lt. absurd (omega (arith, lt));
      whole = λ le. whole;
    })

pub reached_both : (columns place run : ℕ) (row between new : List ℕ) → 0 < run → run < columns - place
    → AreChanges place row → length row % 2 ≡ 0 → between ≡ row ++ place ∷ [] → new ≡ between ++ (place + run) ∷ []
    → IsReached columns (place + run) White new
reached_both columns place run row between new some short lawful even first second =
    let on : AreChanges (place + run) (row ++ place ∷ []) = AreChanges-push place run row some lawful in
    let two : length ((row ++ place ∷ []) ++ (place + run) ∷ []) % 2 ≡ 0
    = omega (arith, even, length-append (row ++ place ∷ []) ((place + run) ∷ []), length-append row (place ∷ [])) in
    rw (second, first) (record {
      within = omega (arith, short);
      lawful = AreChanges-push (place + run) 1 (row ++ place ∷ []) (omega arith) on;
      even = λ lt. (two, refl);
      whole = λ le. absurd (omega (arith, le, short));
    })

-- ---- A row that is taken from the context, and put back.

-- the last of ascending positions
last_from : (first width : ℕ) (row : List ℕ) (last : ℕ) → AscendFrom first width (row ++ last ∷ []) → (first ≤ last)
    × (last < width)
last_from first width [] last ascend = (ascend.0, ascend.1)
last_from first width (place ∷ row) last ascend =
    let on = last_from (suc place) width row last ascend.2 in
    (omega (arith, ascend.0, on.0), on.1)

without_last : (first width : ℕ) (row : List ℕ) (last : ℕ) → AscendFrom first (suc width) (row ++ last ∷ []) → last ≤ width
    → AscendFrom first width row
without_last first width [] last ascend le = tt
without_last first width (place ∷ row) last ascend le =
    let on = last_from (suc place) (suc width) row last ascend.2 in
    (ascend.0, omega (arith, on.0, le), without_last (suc place) width row last ascend.2 le)

with_last : (first width : ℕ) (row : List ℕ) (last : ℕ) → AscendFrom first (suc width) (row ++ last ∷ []) → last < width
    → AscendFrom first width (row ++ last ∷ [])
with_last first width [] last ascend lt = (ascend.0, lt, tt)
with_last first width (place ∷ row) last ascend lt =
    let on = last_from (suc place) (suc width) row last ascend.2 in
    (ascend.0, omega (arith, on.0, lt), with_last (suc place) width row last ascend.2 lt)

-- a change at the row's end is dropped
pub laid_down : (painted : ℕ) (row new : List ℕ) (last : ℕ) → AreChanges (painted + 1) row → row ≡ new ++ last ∷ []
    → last ≡ painted → AreChanges painted new × (pixels painted new ≡ pixels painted row)
laid_down painted row new last lawful is same = grind (arith, common_steps, wider_by_one, without_last, pixels-pending)

-- and another one stays
pub other_change_stays : (painted : ℕ) (row between new : List ℕ) (last : ℕ) → AreChanges (painted + 1) row → row
    ≡ between ++ last ∷ [] → last ≢ painted → new ≡ between ++ last ∷ [] → AreChanges painted new
    × (pixels painted new ≡ pixels painted row)
other_change_stays painted row between new last lawful is other again =
    grind (arith, common_steps, cases_lt, wider_by_one, last_from, with_last)

-- ---- A line that is drawn by twos, and by one run where that isn't usual.

-- what was drawn of a line, and that the words found so far were counted
abbrev pub IsDrawn1d : Context → Context → BitsAt → BitsAt → Type 0
IsDrawn1d before now begun at =
    IsDrawnSoFar (step_1d before.held.settings.strict before.held.settings.columns) before now begun at
    × (now.ticks + length (found_1d_from before.held.settings.strict before.held.settings.columns (pen_of now.held (here at)))
    ≡ before.ticks + length (words_from_1d before.held (here begun)))

-- nothing was drawn yet
pub begun_1d : (before now : Context) (begun : BitsAt) → now ≡ record before {
  held = redrawn before.held [] Color.White;
  passed = 0;
  cut = false;
} → IsDrawn1d before now begun begun
begun_1d before now begun frame =
    rw frame (record { line = refl; held = refl; same_bits = refl; counts = omega arith }, refl)

-- and more, where drawing continues
pub drawn_on : {before now new : Context} {begun at next : BitsAt} → IsDrawn1d before now begun at
    → DrawsUsualRuns now new at next → IsDrawn1d before new begun next
drawn_on {before = before} {now = now} {new = new} {at = at} {next = next} so_far draws =
    let on : GoesOn before.held.settings.strict before.held.settings.columns (pen_of now.held (here at))
    (pen_of new.held (here next)) now.ticks new.ticks = subst (λ (s : DecodeSettings). GoesOn s.strict s.columns
    (pen_of now.held (here at)) (pen_of new.held (here next)) now.ticks new.ticks)
    (ap (λ (h : Held). h.settings) so_far.0.held) draws.drawn in (
      record {
        line = on.line ∙ so_far.0.line;
        held = draws.held ∙ ap (λ (h : Held). redrawn h new.held.front new.held.color) so_far.0.held;
        same_bits = draws.same_bits ∙ so_far.0.same_bits;
        counts = omega (arith, on.counts, so_far.0.counts);
      },
      omega (arith, on.counted, so_far.1),
    )

-- a reader that is further on has no more bits
pub not_longer : (from to : BitsAt) (n : ℕ) → length (here from) < n → to.bits ≡ from.bits → from.place ≤ to.place
    → length (here to) < n
not_longer from to n shorter same onward =
    omega (arith, shorter, ap length same, onward, length-drop from.place from.bits, length-drop to.place to.bits)
