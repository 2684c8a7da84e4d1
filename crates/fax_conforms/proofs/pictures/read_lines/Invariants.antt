use Rattle.hayro_ccitt.proofs.Names.{◌≡◌, ◌+◌, ◌*◌, ◌≤◌, ◌↔◌, length, here, pixels, white_row, AreChanges, Allows}
use Rattle.hayro_ccitt.proofs.Names.{true}
use Rattle.fax_conforms.specs.Conforming.{LinesStand}
use Rattle.fax_conforms.proofs.LinesBefore.{LinesBefore}
use Rattle.fax_conforms.proofs.pictures.read_lines.Given as goal

abbrev pub invariant-rows : goal.invariant-rows
invariant-rows l = record {
  stands : LinesStand l.settings 0 (white_row l.settings.columns) (here l.fn.reader)
      ↔ LinesStand l.settings l.taken (pixels l.settings.columns l.reference.items) (here l.reader);
  before : LinesBefore l.settings true l.taken (pixels l.settings.columns l.reference.items) (here l.fn.reader) (here l.reader);
  lawful : AreChanges l.settings.columns l.reference.items;
  allows : Allows l.settings l.taken;
  same_bits : l.reader.bits ≡ l.fn.reader.bits;
  few : l.taken + length (here l.reader) ≤ length l.reader.bits;
  counts : l.fn.words.ticks ≤ l.words.ticks;
  work : l.words.ticks + length l.reference.items + 5 * length (here l.reader)
      ≤ l.fn.words.ticks + 5 * length (here l.fn.reader);
}

abbrev pub decreases-rows : goal.decreases-rows
decreases-rows l = length (here l.reader)
