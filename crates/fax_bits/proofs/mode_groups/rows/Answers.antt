use Rattle.fax_bits.proofs.Names.{refl, GROUPS}
use Rattle.fax_bits.proofs.BitReading.WrittenGroups.{rows_agree}
use Rattle.fax_bits.proofs.mode_groups.rows.Goals as goal
use Rattle.fax_bits.specs.ModeGroups.{group_row, words_of, first_mode, vertical_words, ten_bits}

-- by computing each row
pub returns : goal.returns
unfolding group_row words_of first_mode vertical_words ten_bits
returns c = rows_agree GROUPS refl refl
