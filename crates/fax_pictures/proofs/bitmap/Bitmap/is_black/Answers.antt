use Rattle.fax_encode.proofs.Names.{◌-◌, ◌/◌, ◌%◌, ℕ, false, List, get_or}
use Rattle.fax_encode.proofs.Names.{sym, ap, ◌∙◌, bits_of, Row}
use Rattle.std.proofs.lemmas.List.{get_or-take}
use Rattle.std.proofs.lemmas.Nat.Bits.{shr_and_one}
use Rattle.fax_encode.proofs.Names.{HighestFirst}
use Rattle.fax_bits.proofs.BitReading.WindowWords.{get_or-bits_in}
use Rattle.std.specs.Prelude.{nat_eq}
use Rattle.fax_pictures.proofs.bitmap.Bitmap.is_black.Goals as goal

pub returns : goal.returns
returns c =
    let bytes : List ℕ = c.row_bytes.result.now in
    let column : ℕ = c.args.column in
    ap (λ (n : ℕ). nat_eq n 1) (shr_and_one (get_or bytes (column / 8) 0) (7 - column % 8))
    ∙ sym (get_or-bits_in HighestFirst bytes column)
    ∙ sym (get_or-take c.args.self.now.columns (bits_of bytes) column false c.requires.column)
    ∙ ap (λ (r : Row). get_or r column false) c.row_bytes.ensures.row
