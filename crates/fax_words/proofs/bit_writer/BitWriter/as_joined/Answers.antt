use Rattle.fax_words.proofs.Names.{◌≡◌, ◌*◌, ◌%◌, ◌^◌, ◌-◌, ◌++◌, [], ℕ, List, sym, ap, ◌∙◌, arith, eqb-false, eqb-true}
use Rattle.fax_words.proofs.Names.{nil_from_length, vec_len, one_shl, bits_of, low_bits}
use Rattle.fax_words.proofs.WrittenBits.{length-written, low_bits_mod}
use Rattle.fax_words.proofs.bit_writer.BitWriter.as_joined.Goals as goal
use Rattle.std.proofs.lemmas.Nat.{pow_pos}

pub returns-then-is_empty-clause-joined : goal.returns-then-is_empty-clause-joined
returns-then-is_empty-clause-joined c =
    let bytes : List ℕ = c.self.inside.bytes.items in
    let pending : ℕ = c.self.inside.pending in
    let count : ℕ = 64 - c.self.inside.room in
    let none : bytes ≡ [] =
    nil_from_length bytes
    (omega (arith, eqb-true (vec_len c.self.inside.bytes) 0 (sym c.is_empty.ensures ∙ c.if-is_empty.true))) in
    let one : 1 * 2 ^ count % 2 ^ 64 ≡ 2 ^ count = one_shl count 64 (omega (arith, c.self.invariant.1)) in
    let bits : low_bits count (pending % 2 ^ count) ≡ bits_of bytes ++ low_bits count pending =
    low_bits_mod count count pending (omega arith) ∙ ap (λ (l : List ℕ). bits_of l ++ low_bits count pending) (sym none) in
    rw (← c.self.view_is, one) (omega (arith, c.self.invariant.1), (omega (arith, pow_pos count), bits))

pub returns-clause-many : goal.returns-clause-many
returns-clause-many c = λ e.
    let bytes : List ℕ = c.self.inside.bytes.items in
    let some = eqb-false (vec_len c.self.inside.bytes) 0 (sym c.is_empty.ensures ∙ c.if-is_empty.false) in
    rw (← c.self.view_is)
    (omega (arith, length-written bytes (64 - c.self.inside.room) c.self.inside.pending, c.self.invariant.0, some))
