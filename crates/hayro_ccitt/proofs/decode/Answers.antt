use Rattle.hayro_ccitt.proofs.Names.{arith}
use Rattle.hayro_ccitt.proofs.Names.{common_steps}
use Rattle.hayro_ccitt.proofs.Names.{rules, ap, HighestFirst, BitsAt}
use Rattle.hayro_ccitt.proofs.BitReading.BitLists.{length-bits_in, bits_are_whole}
use Rattle.hayro_ccitt.proofs.Readings.PlainAnswers.{whole_bytes_within}
use Rattle.hayro_ccitt.proofs.decode.Goals as goal

pub decode_bits-requires-clause-whole : goal.decode_bits-requires-clause-whole
decode_bits-requires-clause-whole g c =
    rw (ap (λ (at : BitsAt). at.bits) c.new.ensures) (bits_are_whole HighestFirst c.args.«data».now)

pub returns-clause-within : goal.returns-clause-within
returns-clause-within g c = grind (arith, common_steps, whole_bytes_within, length-bits_in)

pub returns-clause-decodes : goal.returns-clause-decodes
returns-clause-decodes g c = rw (← ap (λ (at : BitsAt). at.bits) c.new.ensures) c.decode_bits.ensures.decodes

pub returns-clause-count : goal.returns-clause-count
returns-clause-count g c = search rules

pub returns-clause-row_number : goal.returns-clause-row_number
returns-clause-row_number g c = search rules
