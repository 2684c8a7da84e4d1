use Rattle.fax_reading.proofs.Names.{mode_codes, codes_of}
use Rattle.fax_bits.proofs.BitReading.ZerosInWords.{codes_free, modes_free}
use Rattle.fax_bits.proofs.CodeWords.CodeReadings.{reads_codes}
use Rattle.fax_reading.proofs.laws.code_reading.Goals as goal

pub returns-clause-runs : goal.returns-clause-runs
returns-clause-runs c = λ color. reads_codes (codes_of color) (codes_free color)

pub returns-clause-modes : goal.returns-clause-modes
returns-clause-modes c = reads_codes mode_codes modes_free
