use Rattle.fax_bitmap.proofs.Names.{length, ◌-◌, ap, ◌∙◌, put_mid, bits_of}
use Rattle.fax_bitmap.proofs.PaintedRows.{last_word_written}
use Rattle.fax_words.proofs.WordBytes.{bits_of_word}
use Rattle.fax_bitmap.proofs.painting.finish.Goals as goal

pub returns : goal.returns
returns c =
    last_word_written c.args.brush.start c.args.row.now _ c.to_be_bytes.result c.args.brush.word c.requires.begun c.requires.last
    (ap length c.to_be_bytes.ensures) (ap bits_of c.to_be_bytes.ensures ∙ bits_of_word c.args.brush.word)
    (ap (put_mid c.args.brush.start (length c.args.row.now - c.args.brush.start) c.args.row.now) c.copy_from_slice.ensures.after)
