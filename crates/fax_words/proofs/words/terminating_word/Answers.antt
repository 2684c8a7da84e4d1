use Rattle.fax_words.proofs.WordTables.{white_terminating, black_terminating}
use Rattle.fax_words.proofs.words.terminating_word.Goals as goal

pub returns-in-White : goal.returns-in-White
returns-in-White c =
    rw c.in-White.is (white_terminating c.args.pixels c.word_of_table.result c.requires c.word_of_table.ensures.count
    c.word_of_table.ensures.bits)

pub returns-in-Black : goal.returns-in-Black
returns-in-Black c =
    rw c.in-Black.is (black_terminating c.args.pixels c.word_of_table-in-Black.result c.requires
    c.word_of_table-in-Black.ensures.count c.word_of_table-in-Black.ensures.bits)
