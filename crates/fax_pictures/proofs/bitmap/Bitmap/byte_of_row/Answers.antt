use Rattle.std.proofs.Common.{arith, ◌≡◌, ◌+◌, ◌-◌, ◌*◌, ◌/◌, ◌%◌, ℕ, List, false, get_or, sym, ap, ◌∙◌}
use Rattle.std.proofs.lemmas.List.{get_or-take}
use Rattle.fax_bits.specs.declared.bit_reader.BitOrder.TheVariants.{HighestFirst}
use Rattle.fax_bits.specs.Bits.{bit_of, bits_of}
use Rattle.fax_reading.specs.Rows.{Row}
use Rattle.fax_bits.proofs.BitReading.WindowWords.{get_or-bits_in}
use Rattle.fax_pictures.proofs.bitmap.Bitmap.byte_of_row.Goals as goal

pub returns : goal.returns
returns c = λ t lt within.
    let bytes : List ℕ = c.row_bytes.result.now in
    let x : ℕ = 8 * c.args.index + t in
    let byte : x / 8 ≡ c.args.index = omega (arith, lt) in
    let bit : x % 8 ≡ t = omega (arith, lt) in
    sym (ap (λ (n : ℕ). bit_of (get_or bytes n 0) (7 - t)) byte)
    ∙ sym (ap (λ (n : ℕ). bit_of (get_or bytes (x / 8) 0) (7 - n)) bit)
    ∙ sym (get_or-bits_in HighestFirst bytes x)
    ∙ sym (get_or-take c.args.self.now.columns (bits_of bytes) x false within)
    ∙ ap (λ (r : Row). get_or r x false) c.row_bytes.ensures.row
