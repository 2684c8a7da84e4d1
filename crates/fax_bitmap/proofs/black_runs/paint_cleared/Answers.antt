use Rattle.fax_bitmap.proofs.Names.{◌≡◌, ℕ, ◌+◌, ◌-◌, ◌*◌, ◌/◌, ◌<◌, ◌≤◌, ◌++◌, List, true, get_or, length, replicate, ap, ◌∙◌}
use Rattle.fax_bitmap.proofs.Names.{arith, then_white}
use Rattle.std.proofs.Common.{inl, inr}
use Rattle.std.proofs.lemmas.Bool.{cases_lt}
use Rattle.fax_bitmap.proofs.BlackRuns.{AreBlack, all_painted_is_filled, last_painted, no_run_left, none_painted, run_painted}
use Rattle.fax_bitmap.proofs.black_runs.paint_cleared.Goals as goal

pub returns-else-changes-gt2 : goal.returns-else-changes-gt2
returns-else-changes-gt2 c =
    let columns : ℕ = c.args.columns in
    let changes : List ℕ = c.args.changes.now in
    let row : List ℕ = c.args.row.now in
    let row' : List ℕ = c.paint_black.new.row in
    let first : ℕ = get_or changes 0 0 in
    let some : 0 < length changes = c.requires.some in
    let room : columns ≤ 8 * length row = omega (arith, c.requires.fits.room) in
    let same : length row' ≡ length row = c.paint_black.ensures.length in
    let bytes : length row' ≡ (columns + 7) / 8 = same ∙ c.requires.fits.room in
    let none : AreBlack columns changes 0 row = none_painted columns changes row c.requires.fits.changes c.requires.white in
    record {
      painted = elim (cases_lt 1 (length changes)) [
        | inl two ↦
            let run : AreBlack columns changes 2 row' = run_painted columns changes 0 row row' some room none two same
            (λ front long white. c.paint_black.ensures.painted front long white
            ∙ ap (λ (n : ℕ). then_white (front ++ replicate (n - first) true) (length row))
            (c.end_of_first.ensures.change two)) in
            all_painted_is_filled columns changes row' row' c.requires.fits.changes bytes
            (no_run_left columns changes 2 row' (omega (arith, c.if-changes-gt2.false)) (omega (arith, bytes)) run)
        | inr one ↦
            all_painted_is_filled columns changes row row' c.requires.fits.changes c.requires.fits.room
            (last_painted columns changes 0 row row' some room none one
            (λ front long white. c.paint_black.ensures.painted front long white
            ∙ ap (λ (n : ℕ). then_white (front ++ replicate (n - first) true) (length row)) (c.end_of_first.ensures.end one)))
      ];
    }
