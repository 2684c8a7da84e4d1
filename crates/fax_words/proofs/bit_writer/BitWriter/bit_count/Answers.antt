use Rattle.fax_words.proofs.Names.{◌-◌, ℕ, arith}
use Rattle.fax_words.proofs.WrittenBits.{length-written}
use Rattle.fax_words.proofs.bit_writer.BitWriter.bit_count.Goals as goal

pub returns : goal.returns
returns c =
    let room : ℕ = c.self.inside.room in
    rw (← c.self.view_is)
    (omega (arith, length-written c.self.inside.bytes.items (64 - room) c.self.inside.pending, c.len.ensures, c.from.ensures))
