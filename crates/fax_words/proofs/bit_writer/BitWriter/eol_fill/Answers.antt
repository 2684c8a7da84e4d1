use Rattle.fax_words.proofs.Names.{◌≡◌, ◌+◌, ◌-◌, ◌%◌, ◌++◌, ℕ, length, arith, bits_of, low_bits}
use Rattle.fax_words.proofs.WrittenBits.{length-written}
use Rattle.fax_words.proofs.bit_writer.BitWriter.eol_fill.Goals as goal

pub returns : goal.returns
returns c =
    let room : ℕ = c.self.inside.room in
    let fill : (room + 4) % 8
    ≡ (8 - (length (bits_of c.self.inside.bytes.items ++ low_bits (64 - room) c.self.inside.pending) + 12) % 8) % 8 =
    omega (arith, length-written c.self.inside.bytes.items (64 - room) c.self.inside.pending, c.self.invariant.2) in
    rw (← c.self.view_is) fill
