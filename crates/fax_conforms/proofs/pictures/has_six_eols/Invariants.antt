use Rattle.hayro_ccitt.proofs.Names.{◌≡◌, ◌≤◌, ◌+◌, ◌↔◌, here, length, after_eol, Bits, None, tag_of}
use Rattle.hayro_ccitt.specs.Ticks.{looked}
use Rattle.fax_conforms.specs.Conforming.{EolsStand, TaggedEolStands}
use Rattle.fax_conforms.proofs.pictures.has_six_eols.Given as goal

abbrev pub invariant-eols : goal.invariant-eols
invariant-eols l = record {
  stands : EolsStand l.encoding 6 (here l.reader) ↔ EolsStand l.encoding l.left (here l.next);
  few : l.left ≤ 5;
  counts : l.fn.ticks ≤ l.ticks;
  some : ((rest : Bits) → TaggedEolStands l.encoding (here l.reader) rest → ⊥) → ⊥;
  one : (rest : Bits) → TaggedEolStands l.encoding (here l.reader) rest → after_eol 0 rest ≡ None
      → (here l.next ≡ rest) × (l.ticks ≤ l.fn.ticks + looked (here l.reader) + length (tag_of l.encoding));
  paid : l.ticks + length (here l.next) ≤ l.fn.ticks + length (here l.reader);
}

abbrev pub decreases-eols : goal.decreases-eols
decreases-eols l = l.left
