use Rattle.fax_rows.proofs.Names.{common_steps}
use Rattle.fax_rows.proofs.Names.{◌≡◌, ◌∙◌, ℕ, [], Row, ap, arith, changes, length, pixels, sym}
use Rattle.fax_reading.proofs.PixelRows.ChangesAndPixels.{pixels-changes}
use Rattle.fax_rows.proofs.white_lines.repeats_white.Goals as goal

-- a row without changes is white
unchanged_is_white : (columns : ℕ) (row : Row) → length row ≡ columns → changes row ≡ [] → row ≡ pixels columns []
unchanged_is_white columns row wide none =
    sym (pixels-changes row) ∙ ap (pixels (length row)) none ∙ ap (λ (n : ℕ). pixels n []) wide

pub returns-clause-follow : goal.returns-clause-follow
returns-clause-follow c = grind (arith, common_steps, unchanged_is_white)
