use Rattle.std.proofs.Common.{◌≡◌, ◌≤◌, length, drop, false, None}
use Rattle.fax_pictures.specs.Pictures.{Picture}
use Rattle.fax_decode.specs.Drawn.{AreDrawn}
use Rattle.fax_decode.proofs.page.Drawing.draw_parts.Given as goal

abbrev pub invariant-loop-index : goal.invariant-loop-index
invariant-loop-index l = record {
  columns : l.self.picture.columns ≡ l.initial.self.picture.columns;
  rows : length l.self.picture.rows ≡ length l.initial.self.picture.rows;
  least : l.allowance.pictures ≤ l.initial.allowance.pictures;
  drawn : l.self.refused ≡ None → l.page.rows_are_words ≡ false → (last : Picture)
      → AreDrawn l.page (drop l.index l.page.parts.items) l.self.picture last
      → AreDrawn l.page l.page.parts.items l.initial.self.picture last;
}
