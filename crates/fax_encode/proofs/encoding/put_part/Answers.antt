use Rattle.fax_encode.proofs.Names.{◌≡◌, ◌++◌, false, length, sym, ap, ◌∙◌, Bits, Row, pixels, chosen_line, has_eols, all_bits}
use Rattle.fax_encode.proofs.LinesOfPictures.{part_without_eol}
use Rattle.fax_encode.proofs.ModesWritten.{padded_line, padded_whole}
use Rattle.fax_encode.proofs.encoding.put_part.Goals as goal

pub returns-clause-written : goal.returns-clause-written
returns-clause-written c =
    let old : Bits = all_bits c.args.writer.now in
    let reference : Row = pixels c.args.columns c.args.rows.reference.now in
    let row : Row = pixels c.args.columns c.args.rows.changes.now in
    let line : Bits = chosen_line c.args.settings.effort c.args.settings.encoding c.args.left reference row in
    let none : has_eols c.args.settings.encoding c.args.settings.end_of_line ≡ false =
    sym c.eols_precede_lines.ensures ∙ c.if-eols_precede_lines.false in
    padded_line c.args.settings.rows_are_byte_aligned old (all_bits c.put_line_of-2.new.writer)
    (all_bits c.put_padding.new.writer) line (c.requires.whole none) c.in_ok-after.ensures.written c.in_ok-put_padding.ensures
    ∙ ap (λ (b : Bits). old ++ b) (sym (part_without_eol c.args.settings (length old) c.args.left reference row none))

pub returns-clause-whole : goal.returns-clause-whole
returns-clause-whole c = λ none.
    padded_whole c.args.settings.rows_are_byte_aligned (all_bits c.put_line_of-2.new.writer)
    (all_bits c.put_padding.new.writer) c.in_ok-put_padding.ensures
