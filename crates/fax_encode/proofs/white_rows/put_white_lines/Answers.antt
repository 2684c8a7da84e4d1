use Rattle.fax_encode.proofs.Names.{◌≡◌, ◌-◌, ◌++◌, suc, ℕ, List, length, replicate, sym, ap, ◌∙◌, arith, Bits, Row, white_row}
use Rattle.fax_encode.proofs.Names.{lines_left, all_bits}
use Rattle.fax_encode.proofs.LinesOfPictures.{line_written}
use Rattle.fax_encode.proofs.white_rows.put_white_lines.Goals as goal

pub rows-preserved : goal.rows-preserved
rows-preserved c =
    let white : Row = white_row c.args.white.columns in
    let old : Bits = all_bits c.rows.writer in
    let new : Bits = all_bits c.put_white_line.new.writer in
    let some : c.rows.rows ≡ suc (c.rows.rows - 1) = omega (arith, c.rows-test.true) in
    record {
      whole = c.in_ok-now.ensures.whole;
      written = λ below.
          let rest : List Row = replicate (c.rows.rows - 1) white ++ below in
          ap (λ (n : ℕ). new ++ lines_left c.args.settings (length new) n white rest) c.in_ok-now.ensures.left
          ∙ line_written c.args.settings c.rows.now white white rest old new c.in_ok-now.ensures.written
          ∙ ap (λ (n : ℕ). old ++ lines_left c.args.settings (length old) c.rows.now white (replicate n white ++ below))
          (sym some)
          ∙ c.rows.invariant.written below;
    }
