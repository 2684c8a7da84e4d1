use Rattle.hayro_ccitt.proofs.Names.{arith}
use Rattle.hayro_ccitt.proofs.Names.{pixels, Row, IfErr-weaker}
use Rattle.fax_conforms.proofs.Passed.{passes_now}
use Rattle.fax_conforms.proofs.Broken.{broken_never}
use Rattle.fax_conforms.proofs.Stopped.{if_done}
use Rattle.fax_conforms.proofs.WordsPaid.{paid_after}
use Rattle.fax_conforms.proofs.pictures.draw_line.Goals as goal

pub returns-in-Group4-clause-reads : goal.returns-in-Group4-clause-reads
returns-in-Group4-clause-reads c = rw c.in-Group4.is c.draw_line_2d.ensures.reads

pub returns-in-Group3_1D-clause-reads : goal.returns-in-Group3_1D-clause-reads
returns-in-Group3_1D-clause-reads c =
    let reference : Row = pixels c.args.settings.columns c.args.reference.now in
    let drawn = c.draw_line_1d.ensures in
    rw c.in-Group3_1D.is (record {
      row = if_done c.draw_line_1d.result _ _ drawn.row (λ row. passes_now c.args.settings.columns _ _ (row reference));
      passes = if_done c.draw_line_1d.result _ _ drawn.row (λ row. row reference);
      lawful = drawn.lawful;
      none = IfErr-weaker c.draw_line_1d.result _ _
          (λ e ends. broken_never _ c.args.settings.columns _ _ e (ends reference)) drawn.at;
      at = IfErr-weaker c.draw_line_1d.result _ _ (λ e ends. ends reference) drawn.at;
    })

pub returns-in-Group3_2D-clause-reads : goal.returns-in-Group3_2D-clause-reads
returns-in-Group3_2D-clause-reads c = rw c.in-Group3_2D.is c.draw_tagged_line.ensures.reads

pub returns-in-Group3_1D-clause-pays : goal.returns-in-Group3_1D-clause-pays
returns-in-Group3_1D-clause-pays c = paid_after c.draw_line_1d.result _ _ _ _ _ 0 _ _ c.draw_line_1d.ensures.pays (omega arith)
    (omega arith) (λ done. omega arith)
