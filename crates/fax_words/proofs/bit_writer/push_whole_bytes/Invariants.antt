use Rattle.fax_words.proofs.Names.{◌≡◌, ◌≤◌, ◌++◌, ◌%◌, bits_of, low_bits}
use Rattle.fax_words.proofs.bit_writer.push_whole_bytes.Given as goal

abbrev pub invariant-loop-left : goal.invariant-loop-left
invariant-loop-left l =
    record {
      within : l.left ≤ 64;
      whole : l.left % 8 ≡ l.fn.count % 8;
      written : bits_of l.bytes.items ++ low_bits l.left l.bits ≡ bits_of l.fn.bytes.items ++ low_bits l.fn.count l.bits;
    }

abbrev pub decreases-loop-left : goal.decreases-loop-left
decreases-loop-left l = l.left
