use Rattle.fax_encode.proofs.Names.{◌≡◌, ◌-◌, ◌%◌, ℕ, List, length, take, refl, ap, ◌∙◌, arith, bits_of, filled_up, bytes_of_row}
use Rattle.fax_pictures.proofs.ClearedRows.{row_cleared}
use Rattle.fax_pictures.proofs.bitmap.lay_in_row.Goals as goal

pub returns-clause-laid : goal.returns-clause-laid
returns-clause-laid c =
    let line : List ℕ = c.lay_over.new.line in
    let size : length line ≡ bytes_of_row c.args.columns = c.lay_over.ensures.length ∙ c.requires.size in
    row_cleared c.args.columns (length line - 1) ((8 - c.args.columns % 8) % 8) _ line c.requires.some size
    (omega (arith, size, c.requires.some)) refl refl
    ∙ ap (λ (l : List ℕ). filled_up (take c.args.columns (bits_of l))) c.lay_over.ensures.laid
