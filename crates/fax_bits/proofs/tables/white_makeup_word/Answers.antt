use Rattle.fax_bits.proofs.Names.{◌-◌, arith}
use Rattle.fax_bits.proofs.BitReading.WhiteWordsListed.{common_makeup_listed, white_makeup_listed}
use Rattle.fax_bits.proofs.tables.white_makeup_word.Goals as goal

pub returns-then-times-gt27 : goal.returns-then-times-gt27
returns-then-times-gt27 c = common_makeup_listed c.args.times _ c.word_of_table.result (omega arith)
    (omega arith) c.word_of_table.ensures.count c.word_of_table.ensures.bits

pub returns : goal.returns
returns c = white_makeup_listed c.args.times (c.args.times - 1) c.word_of_table-2.result (omega arith)
    (omega arith) c.word_of_table-2.ensures.count c.word_of_table-2.ensures.bits
