use Rattle.hayro_ccitt.proofs.Names.{arith}
use Rattle.hayro_ccitt.proofs.Names.{common_steps}
use Rattle.hayro_ccitt.proofs.Names.{ap, LowestFirst, BitsAt}
use Rattle.hayro_ccitt.proofs.BitReading.BitLists.{length-bits_in, bits_are_whole}
use Rattle.hayro_ccitt.proofs.Readings.PlainAnswers.{whole_bytes_within}
use Rattle.hayro_ccitt.proofs.decode_low_first.Goals as goal

pub decode_bits-requires-clause-whole : goal.decode_bits-requires-clause-whole
decode_bits-requires-clause-whole g c =
    rw (ap (λ (at : BitsAt). at.bits) c.new_low_first.ensures) (bits_are_whole LowestFirst c.args.«data».now)

pub returns-clause-within : goal.returns-clause-within
returns-clause-within g c = grind (arith, common_steps, whole_bytes_within, length-bits_in)

pub returns-clause-decodes : goal.returns-clause-decodes
returns-clause-decodes g c = rw (← ap (λ (at : BitsAt). at.bits) c.new_low_first.ensures) c.decode_bits.ensures.decodes
