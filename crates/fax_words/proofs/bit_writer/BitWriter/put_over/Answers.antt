use Rattle.fax_words.proofs.Names.{◌-◌, ◌≤◌, ℕ, refl, length, ap, arith}
use Rattle.fax_words.proofs.Names.{length-low_bits, Written}
use Rattle.fax_words.proofs.StoredWords.{stored}
use Rattle.fax_words.proofs.bit_writer.BitWriter.put_over.Goals as goal

pub overflow_sub-over : goal.overflow_sub-over
overflow_sub-over c =
    omega (
      arith,
      c.requires.full,
      ap (λ (w : Written). length w.rest) c.self.view_is,
      length-low_bits (64 - c.self.inside.room) c.self.inside.pending,
      c.self.invariant.2,
    )

pub returns : goal.returns
returns c =
    let room : ℕ = c.self.inside.room in
    let within : room ≤ c.args.count = omega (
      arith,
      c.requires.full,
      ap (λ (w : Written). length w.rest) c.self.view_is,
      length-low_bits (64 - room) c.self.inside.pending,
      c.self.invariant.2,
    ) in
    rw (← c.self.view_is) (stored c.self.inside.bytes.items c.store_word.new.bytes.items c.self.inside.pending room c.args.count
    c.args.word _ c.self.invariant.2 within (omega (arith, c.requires.count)) c.requires.word refl
    c.in_ok-store_word.ensures.stored)
