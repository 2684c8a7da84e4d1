use Rattle.fax_reading.proofs.Names.{◌≡◌, ◌+◌, ◌-◌, ◌*◌, ◌≤◌, length, drop, here, looked}
use Rattle.fax_bits.specs.Bits.{bits_in}
use Rattle.hayro_ccitt.proofs.TaggedBodies.TagsOfLines.{HaveFewBefore}
use Rattle.hayro_ccitt.proofs.tagged.is_tag_of_line.Given as goal

-- fewer than six end there that begin before the reader's place
abbrev pub invariant-eols : goal.invariant-eols
invariant-eols l = record {
  same : l.reader.bits ≡ bits_in l.fn.order l.fn.data;
  few : HaveFewBefore (bits_in l.fn.order l.fn.data) l.fn.end l.reader.place;
  counts : l.fn.ticks ≤ l.ticks;
  work : l.ticks + 5 * length (here l.reader) ≤ l.fn.ticks + 5 * length (bits_in l.fn.order l.fn.data) + looked (drop 1
      (here l.reader));
}

abbrev pub decreases-eols : goal.decreases-eols
decreases-eols l = length (bits_in l.fn.order l.fn.data) - l.reader.place
