use Rattle.fax_encode.proofs.Names.{◌≡◌, ◌+◌, ◌-◌, ◌++◌, ℕ, List, take, drop, ap}
use Rattle.fax_encode.proofs.Names.{◌∙◌, arith, Bits, bits_of, filled_up, bytes_of_row}
use Rattle.fax_encode.proofs.BlackRuns.{bits_of-put_mid}
use Rattle.fax_pictures.specs.Pictures.{laid_over}
use Rattle.fax_pictures.proofs.bitmap.lay_at.Goals as goal

pub returns-clause-laid : goal.returns-clause-laid
returns-clause-laid c =
    let start : ℕ = c.args.start in
    let bytes : List ℕ = c.args.bytes.now in
    let row : List ℕ = c.lay_in_row.new.line in
    let count : start + c.div_ceil.result - start ≡ bytes_of_row c.args.columns = omega (arith, c.div_ceil.ensures) in
    let over : ℕ → Bits = λ n.
    filled_up (take c.args.columns (bits_of (laid_over c.args.left c.args.part.now (take n (drop start bytes))))) in
    bits_of-put_mid start (start + c.div_ceil.result - start) bytes row
    ∙ ap (λ (n : ℕ). bits_of (take start bytes) ++ (bits_of row ++ bits_of (drop (start + n) bytes))) count
    ∙ ap (λ (b : Bits). bits_of (take start bytes) ++ (b ++ bits_of (drop (start + bytes_of_row c.args.columns) bytes)))
    (c.lay_in_row.ensures.laid ∙ ap over count)
