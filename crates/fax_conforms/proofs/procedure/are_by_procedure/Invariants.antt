use Rattle.hayro_ccitt.proofs.Names.{◌≡◌, ◌+◌, ◌≤◌, ◌↔◌, length, here, pixels, white_row, AreChanges, Allows, Group4, None, ◌*◌}
use Rattle.fax_conforms.specs.ByProcedure.{LinesByProcedure, left_at_first}
use Rattle.fax_conforms.specs.Departures.{LinesLead, ReadableFrom}
use Rattle.fax_conforms.proofs.AfterLines.{reached_at}
use Rattle.fax_conforms.proofs.procedure.are_by_procedure.Given as goal

abbrev pub invariant-rows : goal.invariant-rows
invariant-rows l = record {
  stands : LinesByProcedure l.asked.settings l.asked.k l.asked.has_eols 0 (left_at_first l.asked.settings.encoding)
      (white_row l.asked.settings.columns) (here l.fn.reader)
      ↔ LinesByProcedure l.asked.settings l.asked.k l.asked.has_eols l.taken l.left
      (pixels l.asked.settings.columns l.reference.items) (here l.reader);
  lead : LinesLead l.asked.settings l.asked.k l.asked.has_eols l.reader.bits
      (reached_at l.taken l.left (pixels l.asked.settings.columns l.reference.items) l.reader.place);
  readable : ReadableFrom l.asked.settings l.asked.has_eols l.taken (pixels l.asked.settings.columns l.reference.items)
      (here l.reader);
  unlimited : l.asked.settings.encoding ≡ Group4 → l.left ≡ None;
  allows : Allows l.asked.settings l.taken;
  lawful : AreChanges l.asked.settings.columns l.reference.items;
  same_bits : l.reader.bits ≡ l.fn.reader.bits;
  counts : l.fn.words.ticks ≤ l.words.ticks;
  work : l.words.ticks + 2 * length l.reference.items + 16 * length (here l.reader)
      ≤ l.fn.words.ticks + 16 * length (here l.fn.reader);
  few : l.taken + length (here l.reader) ≤ length l.reader.bits;
}

abbrev pub decreases-rows : goal.decreases-rows
decreases-rows l = length (here l.reader)
