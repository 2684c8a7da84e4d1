use Rattle.fax_words.proofs.Names.{◌-◌, ◌++◌, ℕ, List, ap, ◌∙◌, refl, arith, bits_of, low_bits}
use Rattle.fax_words.proofs.WrittenBits.{push_byte}
use Rattle.fax_words.proofs.bit_writer.push_whole_bytes.Goals as goal

pub loop-left-preserved : goal.loop-left-preserved
loop-left-preserved c = record {
  within = omega arith;
  whole = omega (arith, c.loop-left.invariant.whole);
  written = ap (λ (xs : List ℕ). bits_of xs ++ low_bits (c.loop-left.left - 8) c.args.bits) c.in_ok-push.ensures.items
      ∙ push_byte c.loop-left.bytes.items c.loop-left.left (c.loop-left.left - 8) c.args.bits _ (omega arith) refl
      ∙ c.loop-left.invariant.written;
}
