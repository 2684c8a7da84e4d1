-- One-dimensional lines by the shortest words encode their rows, and no other words do in fewer bits.
use Rattle.fax_coding.proofs.Names.{◌≡◌, ◌≢◌, ℕ, zero, suc, ◌+◌, ◌-◌, ◌*◌, ◌<◌, ◌≤◌, Bool, not, List, [], ◌∷◌, ◌++◌, length}
use Rattle.fax_coding.proofs.Names.{get_or, drop, replicate, refl, sym, ap, ◌∙◌, arith, length-append, length-replicate}
use Rattle.fax_coding.proofs.Names.{append-nil, Color, White, Bits, Row, is_black, opposite, changes, pixels, pixels_from}
use Rattle.fax_coding.proofs.Names.{AreChanges, AscendFrom, AscendFrom-wider, AreChanges-changes, EncodesLine1D}
use Rattle.fax_coding.proofs.Names.{pixels_from-first}
use Rattle.fax_coding.proofs.Names.{pixels-changes, changes-pixels, length-pixels, shortest_run}
use Rattle.fax_coding.specs.Shortest.{shortest_runs_1d, shortest_line_1d}
use Rattle.fax_coding.proofs.ChosenLines.{not_black, begins_other, row_encodes}
use Rattle.fax_coding.proofs.RunLengths.{runs_least}
use Rattle.fax_words.proofs.RunsWritten.{next_is}
use Rattle.fax_coding.proofs.ShortestRuns.{shortest_runs}
use Rattle.fax_coding.proofs.ShortestRunsWritten.{least_of_run}

-- ---- An encoding.
pub shortest_1d_encodes : (row : Row) → 0 < length row → EncodesLine1D White row (shortest_line_1d row)
shortest_1d_encodes row some = row_encodes shortest_run shortest_runs_1d (λ color n. (shortest_runs color n).0)
    (λ width place color. refl) (λ width place change color list. refl) row some

-- ---- No other has fewer bits.
-- a run and what follows it, of another colour, are determined
same_run : (b : Bool) (m n : ℕ) (one two : Row) → ((rest : Row) → one ≢ b ∷ rest) → ((rest : Row) → two ≢ b ∷ rest)
    → replicate m b ++ one ≡ replicate n b ++ two → (m ≡ n) × (one ≡ two)
same_run b zero zero one two first second e = (refl, e)
same_run b zero (suc n) one two first second e = absurd (first (replicate n b ++ two) e)
same_run b (suc m) zero one two first second e = absurd (second (replicate m b ++ one) (sym e))
same_run b (suc m) (suc n) one two first second e =
    let tail : replicate m b ++ one ≡ replicate n b ++ two = cc in
    let same = same_run b m n one two first second tail in
    (ap suc same.0, same.1)

least_from : (color : Color) (row : Row) (bits : Bits) → EncodesLine1D color row bits → (place width : ℕ) (places : List ℕ)
    → place < width → AscendFrom place width places → row ≡ pixels_from place (is_black color) width places
    → length (shortest_runs_1d width color place places) ≤ length bits
least_from color row bits EncodesLine1D.over place width [] lt ascend e =
    absurd (omega (arith, lt, ap length e, length-replicate (width - place) (is_black color)))
least_from color row bits EncodesLine1D.over place width (change ∷ places) lt ascend e =
    let first = pixels_from-first change (not (is_black color)) width places ascend.1 ascend.2 in
    absurd (omega (
      arith,
      ap length e,
      ap length first,
      length-append (replicate (change - place) (is_black color)) (pixels_from change (not (is_black color)) width places),
    ))
least_from color row bits (EncodesLine1D.run n word {row = after} {bits = more} spells some other rest) place width []
    lt ascend e =
    let same = same_run (is_black color) n (width - place) after [] other (λ r f. absurd cc)
    (e ∙ sym (append-nil (replicate (width - place) (is_black color)))) in
    omega (
      arith,
      (shortest_runs color n).1 word spells,
      ap (λ (m : ℕ). length (shortest_run color m)) same.0,
      length-append word more,
    )
least_from color row bits (EncodesLine1D.run n word {row = after} {bits = more} spells some other rest) place width
    (change ∷ places) lt ascend e =
    let same = same_run (is_black color) n (change - place) after (pixels_from change (not (is_black color)) width places) other
    (begins_other color change width places ascend.1 ascend.2) e in
    let on = least_from (opposite color) after more rest change width places ascend.1
    (AscendFrom-wider change (suc change) width width places (omega arith) (omega arith) ascend.2)
    (same.1 ∙ ap (λ (c : Bool). pixels_from change c width places) (not_black color)) in
    omega (
      arith,
      on,
      (shortest_runs color n).1 word spells,
      ap (λ (m : ℕ). length (shortest_run color m)) same.0,
      length-append word more,
      length-append (shortest_run color (change - place)) (shortest_runs_1d width (opposite color) change places),
    )

pub shortest_1d_least : (row : Row) (bits : Bits) → 0 < length row → EncodesLine1D White row bits
    → length (shortest_line_1d row) ≤ length bits
shortest_1d_least row bits some is =
    least_from White row bits is 0 (length row) (changes row) some (AreChanges-changes row) (sym (pixels-changes row))

-- ---- The runs of a list.
pub shortest_of_list : (columns : ℕ) (list : List ℕ) → AreChanges columns list
    → shortest_line_1d (pixels columns list) ≡ shortest_runs_1d columns White 0 list
shortest_of_list columns list lawful =
    ap (λ (n : ℕ). shortest_runs_1d n White 0 (changes (pixels columns list))) (length-pixels columns list lawful)
    ∙ ap (shortest_runs_1d columns White 0) (changes-pixels columns list lawful)

-- the run up to the next change
pub next_shortest : (columns place i : ℕ) (color : Color) (changes : List ℕ) → i < length changes
    → AscendFrom place columns (drop i changes)
    → shortest_runs_1d columns color place (drop i changes) ≡ shortest_run color (get_or changes i 0 - place)
    ++ shortest_runs_1d columns (opposite color) (get_or changes i 0) (drop (i + 1) changes)
next_shortest columns place i color changes lt ascend =
    ap (shortest_runs_1d columns color place) (next_is columns place i color changes lt ascend)

-- they have three bits for each change, and a few
pub shortest_row_least : (columns : ℕ) (changes : List ℕ)
    → length changes * 3 + 3 ≤ length (shortest_runs_1d columns White 0 changes)
shortest_row_least columns changes = runs_least shortest_run shortest_runs_1d least_of_run (λ width place color. refl)
    (λ width place change color list. refl) White 0 columns changes
