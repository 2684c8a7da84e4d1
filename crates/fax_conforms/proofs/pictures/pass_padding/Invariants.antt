use Rattle.hayro_ccitt.proofs.Names.{◌≡◌, ◌+◌, ◌-◌, ◌≤◌, ◌%◌, ◌++◌, ◌↔◌, false, replicate, Bits, here, padding}
use Rattle.fax_conforms.proofs.pictures.pass_padding.Given as goal

abbrev pub invariant-zeros : goal.invariant-zeros
invariant-zeros l = record {
  padding : (rest : Bits) → (here l.fn.reader ≡ padding l.fn.reader.place ++ rest) ↔
      (here l.reader ≡ replicate l.left false ++ rest);
  few : l.left ≤ (8 - l.fn.reader.place % 8) % 8;
  place : l.reader.place + l.left ≡ l.fn.reader.place + (8 - l.fn.reader.place % 8) % 8;
  same_bits : l.reader.bits ≡ l.fn.reader.bits;
  ticks : l.ticks + l.left ≡ l.fn.ticks + (8 - l.fn.reader.place % 8) % 8;
}

abbrev pub decreases-zeros : goal.decreases-zeros
decreases-zeros l = l.left
