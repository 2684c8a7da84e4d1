use Rattle.fax_bits.proofs.BitReading.WhiteWordsListed.{white_terminating_listed}
use Rattle.fax_bits.proofs.tables.white_terminating_word.Goals as goal

pub returns : goal.returns
returns c = white_terminating_listed c.args.pixels c.word_of_table.result c.requires c.word_of_table.ensures.count
    c.word_of_table.ensures.bits
