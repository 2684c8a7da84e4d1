use Rattle.fax_bitmap.proofs.Names.{◌≡◌, ◌+◌, ◌-◌, length, ap, ◌∙◌, arith, put_mid, bits_of}
use Rattle.fax_bitmap.proofs.PaintedRows.{word_written}
use Rattle.fax_words.proofs.WordBytes.{bits_of_word}
use Rattle.fax_bitmap.proofs.painting.next_word.Goals as goal

pub returns-clause-painted : goal.returns-clause-painted
returns-clause-painted c =
    let start = c.args.brush.start in
    let old = c.args.row.now in
    let count : start + 8 - start ≡ 8 = omega arith in
    word_written start (start + 8 - start) c.args.brush.word c.plain_word.result old _ c.to_be_bytes.result c.args.brush.is_black
    (ap length c.to_be_bytes.ensures) (ap bits_of c.to_be_bytes.ensures ∙ bits_of_word c.args.brush.word) count c.requires.within
    (ap (put_mid start (start + 8 - start) old) c.copy_from_slice.ensures.after) c.plain_word.ensures
