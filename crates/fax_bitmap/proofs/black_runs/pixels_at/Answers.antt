use Rattle.fax_bitmap.proofs.Names.{◌≡◌, ◌-◌, ◌++◌, ℕ, List, false, length, take, drop, replicate, ap, ◌∙◌, arith}
use Rattle.fax_bitmap.proofs.Names.{bits_of, length-drop, take_all}
use Rattle.fax_bitmap.proofs.BlackRuns.{white_word}
use Rattle.fax_bitmap.proofs.black_runs.pixels_at.Goals as goal

pub returns-then-is_cleared : goal.returns-then-is_cleared
returns-then-is_cleared c = white_word c.args.start c.args.row.now (c.requires.cleared c.if-is_cleared.true)

pub returns : goal.returns
returns c =
    let row : List ℕ = c.args.row.now in
    let start : ℕ = c.args.start in
    let rest : take (length row - start) (drop start row) ≡ drop start row =
    take_all (length row - start) (drop start row) (omega (arith, length-drop start row)) in
    c.first_pixels.ensures ∙ ap (λ (l : List ℕ). take 64 (bits_of l ++ replicate 64 false)) rest
