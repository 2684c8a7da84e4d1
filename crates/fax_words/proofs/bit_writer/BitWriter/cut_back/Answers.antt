use Rattle.fax_words.proofs.Names.{◌-◌, ◌++◌, ℕ, List, length, ap, ◌∙◌, bits_of, low_bits}
use Rattle.fax_words.proofs.CutBits.{cut}
use Rattle.fax_words.proofs.bit_writer.BitWriter.cut_back.Goals as goal

pub returns : goal.returns
returns c =
    let bytes : List ℕ = c.self.inside.bytes.items in
    let count : ℕ = c.mark.inside.count in
    let rest = low_bits (64 - c.mark.inside.room) c.mark.inside.pending in
    let within = rw (← c.self.view_is, ← c.mark.view_is) at c.requires in
    rw (← c.self.view_is, ← c.mark.view_is)
    (ap (λ (l : List ℕ). bits_of l ++ rest) c.truncate.ensures.items ∙ cut bytes c.self.inside.pending c.self.inside.room count
    (length rest) rest c.self.invariant.0 c.mark.invariant.0 c.self.invariant.2 c.self.invariant.1 within)
