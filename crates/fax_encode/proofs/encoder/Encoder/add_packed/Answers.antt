use Rattle.fax_encode.proofs.Names.{◌≡◌, ◌≤◌, Bool, OnOk, ℕ, length, refl, sym}
use Rattle.fax_encode.proofs.Names.{ap, subst, ◌∙◌, arith, take, Row, RowsEncoded, bits_of}
use Rattle.fax_encode.proofs.Names.{bytes_of_row, in_black, with_row, white_row}
use Rattle.fax_encode.proofs.WhiteRowLines.{white_bytes_row}
use Rattle.fax_encode.proofs.encoder.Encoder.add_packed.Goals as goal

pub returns-then-zero_bytes-width-clause-taken : goal.returns-then-zero_bytes-width-clause-taken
returns-then-zero_bytes-width-clause-taken c =
    let columns : ℕ = c.args.self.now.columns in
    let width : ℕ = c.div_ceil-width.result in
    let same = ap (λ (r : RowsEncoded). r.columns) c.self.view_is in
    let some : bytes_of_row columns ≤ width = omega (arith, c.div_ceil-width.ensures, same) in
    let within : width ≤ length c.args.bitmap.now = omega (arith, c.div_ceil-width.ensures, same, c.requires.whole) in
    let white : in_black c.args.black_is_0 (take columns (bits_of c.args.bitmap.now)) ≡ white_row columns =
    ap (λ (b : Bool). in_black b (take columns (bits_of c.args.bitmap.now))) c.if-not-black_is_0.true
    ∙ white_bytes_row columns width c.zero_bytes.result c.args.bitmap.now _ refl some c.if-zero_bytes-width.true within
    c.zero_bytes.ensures.white in
    subst (λ (row : Row). OnOk c.add_white.result (c.add_white.new.self ≡ with_row c.args.self.now row)) (sym white)
    c.add_white.ensures.taken
