use Rattle.fax_encode.proofs.Names.{◌≡◌, ◌++◌, length, AreChanges, EndsWhereAligned, pixels, white_row, shown, all_bits}
use Rattle.fax_encode.proofs.Names.{IfSome, AreWhiteLines, lines_left}
use Rattle.fax_encode.proofs.by_settings.put_bitmap.Given as goal

abbrev pub invariant-loop-rest : goal.invariant-loop-rest
invariant-loop-rest l = record {
  lawful : AreChanges l.columns l.reference.items;
  whole : EndsWhereAligned l.settings l.writer;
  lines : IfSome l.lines (λ made. AreWhiteLines l.settings l.columns made);
  written : all_bits l.writer ++ lines_left l.settings (length (all_bits l.writer)) l.left (pixels l.columns l.reference.items)
      (shown l.columns l.rest) ≡ lines_left l.settings 0 0 (white_row l.columns) (shown l.columns l.bitmap);
}

abbrev pub decreases-loop-rest : goal.decreases-loop-rest
decreases-loop-rest l = length l.rest
