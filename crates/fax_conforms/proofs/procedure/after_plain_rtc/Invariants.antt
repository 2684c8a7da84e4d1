use Rattle.hayro_ccitt.proofs.Names.{◌≡◌, ◌+◌, ◌≤◌, ◌++◌, ◌↔◌, Bits, None, after_eol, here, length, tag_of}
use Rattle.hayro_ccitt.specs.Ticks.{looked}
use Rattle.fax_conforms.specs.ByProcedure.{PlainRtcStands, tagged_eols}
use Rattle.fax_conforms.specs.Conforming.{TaggedEolStands}
use Rattle.fax_conforms.proofs.procedure.after_plain_rtc.Given as goal

abbrev pub invariant-eols : goal.invariant-eols
invariant-eols l = record {
  stands : (rest : Bits) → PlainRtcStands l.encoding (here l.reader) rest
      ↔ (here l.next ≡ tagged_eols l.encoding l.left ++ rest);
  same_bits : l.next.bits ≡ l.reader.bits;
  counts : l.fn.ticks ≤ l.ticks;
  first : (next : Bits) × TaggedEolStands l.encoding (here l.reader) next
      × (after_eol 0 next ≡ None → (here l.next ≡ next)
      × (l.ticks ≤ l.fn.ticks + looked (here l.reader) + length (tag_of l.encoding)));
  paid : l.ticks + length (here l.next) ≤ l.fn.ticks + length (here l.reader);
}

abbrev pub decreases-eols : goal.decreases-eols
decreases-eols l = l.left
