use Rattle.std.proofs.Common.{arith, ◌≡◌, ◌+◌, ◌*◌, ◌<◌, ℕ, List, ap, ◌∙◌}
use Rattle.fax_bits.specs.declared.bit_reader.BitOrder.TheVariants.{HighestFirst}
use Rattle.fax_bits.specs.Bits.{bits_of}
use Rattle.fax_bits.proofs.BitReading.BitLists.{length-bits_of}
use Rattle.fax_bits.proofs.BitReading.WindowWords.{get_or-bits_in}
use Rattle.fax_pictures.specs.Turned.{counted, is_column_last}
use Rattle.fax_pictures.proofs.ShownColumns.{column_laid}
use Rattle.fax_pictures.proofs.bitmap.Bitmap.show_byte.Goals as goal

pub loop-bit-preserved : goal.loop-bit-preserved
loop-bit-preserved c =
    let o : ℕ = c.args.orientation in
    let source = c.args.self.now in
    let bit : ℕ = c.loop-bit.bit in
    let column : ℕ = 8 * c.args.byte + bit in
    let part : List ℕ = c.bits_down.result in
    let few : bit < 8 = omega (arith, c.loop-bit-test.true, c.min-count.ensures) in
    let within : column < source.columns =
    omega (arith, c.loop-bit-test.true, c.min-count.ensures, c.columns.ensures.value, c.requires.byte) in
    let at : c.counted-y.result ≡ counted (is_column_last o) source.columns column =
    c.counted-y.ensures.value ∙ ap (λ b. counted b c.columns-in-loop-bit.result column) c.is_column_last.ensures
    ∙ ap (λ (n : ℕ). counted (is_column_last o) n column) c.columns-in-loop-bit.ensures.value in
    column_laid o c.args.left c.args.byte bit c.counted-y.result source c.args.made.now c.loop-bit.made c.lay_over_row.new.self
    (bits_of part) c.requires.across c.loop-bit.invariant (omega
    (arith, length-bits_of part, c.bits_down.ensures.size)) few within
    at
    (λ i lt inside. get_or-bits_in HighestFirst part i ∙ c.bits_down.ensures.bits i lt
    ∙ c.bytes_down-bytes.ensures i bit lt inside few within)
    c.lay_over_row.ensures
