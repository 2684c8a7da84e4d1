use Rattle.fax_words.proofs.Names.{◌-◌, arith}
use Rattle.fax_words.proofs.WordTables.{white_makeup, black_makeup, common_makeup}
use Rattle.fax_words.proofs.words.makeup_word.Goals as goal

pub returns-then-times-gt27 : goal.returns-then-times-gt27
returns-then-times-gt27 c =
    common_makeup c.args.color c.args.times _ c.word_of_table.result (omega arith)
    (omega arith) c.word_of_table.ensures.count c.word_of_table.ensures.bits

pub returns-in-White : goal.returns-in-White
returns-in-White c =
    rw c.in-White.is (white_makeup c.args.times (c.args.times - 1) c.word_of_table-in-White.result (omega arith)
    (omega arith) c.word_of_table-in-White.ensures.count c.word_of_table-in-White.ensures.bits)

pub returns-in-Black : goal.returns-in-Black
returns-in-Black c =
    rw c.in-Black.is (black_makeup c.args.times (c.args.times - 1) c.word_of_table-in-Black.result (omega arith)
    (omega arith) c.word_of_table-in-Black.ensures.count c.word_of_table-in-Black.ensures.bits)
