use Rattle.fax_bitmap.proofs.Names.{◌≡◌, ◌+◌, ◌-◌, ◌*◌, ◌++◌, ℕ, List, true, length, take, drop, replicate, ap, ◌∙◌, arith}
use Rattle.fax_bitmap.proofs.Names.{put_mid, bits_of, length-drop, length-take-le, sym}
use Rattle.fax_bitmap.proofs.BlackRuns.{bytes_painted}
use Rattle.fax_words.proofs.WordBytes.{bits_of-parts}
use Rattle.fax_bitmap.proofs.black_runs.paint_bytes.Goals as goal

pub returns-then-from-to-clause-painted : goal.returns-then-from-to-clause-painted
returns-then-from-to-clause-painted c =
    let row : List ℕ = c.args.row.now in
    let count : ℕ = c.args.to - c.args.from in
    let there : length (take count (drop c.args.from row)) ≡ count =
    length-take-le count (drop c.args.from row) (omega (arith, length-drop c.args.from row, c.requires.within)) in
    let filled : c.fill_bytes.new.bytes ≡ replicate count 255 =
    c.fill_bytes.ensures ∙ ap (λ (n : ℕ). replicate n 255) there in
    ap (λ (l : List ℕ). bits_of (put_mid c.args.from count row l)) filled ∙ bytes_painted c.args.from count row

pub returns-else-from-to-clause-painted : goal.returns-else-from-to-clause-painted
returns-else-from-to-clause-painted c =
    let row : List ℕ = c.args.row.now in
    let from : ℕ = c.args.from in
    let none : c.args.to - from ≡ 0 = omega (arith, c.if-from-to.false) in
    let here : from + 0 ≡ from = omega arith in
    bits_of-parts from row ∙ ap (λ (n : ℕ). bits_of (take from row) ++ bits_of (drop n row)) (sym here)
    ∙ ap (λ (n : ℕ). bits_of (take from row) ++ (replicate (8 * n) true ++ bits_of (drop (from + n) row))) (sym none)
