use Rattle.fax_rows.proofs.Names.{ℕ, length, ap, arith, Bits, here, Context}
use Rattle.fax_bits.proofs.BitReading.ConsecutiveEols.{count_shorter, counts_plain}
use Rattle.fax_rows.proofs.group3.read_leading_eols.Goals as goal

pub returns-clause-counts : goal.returns-clause-counts
returns-clause-counts c =
    let left = count_shorter counts_plain (length (here c.args.reader.now)) (here c.args.reader.now) in
    omega (
      arith,
      left,
      c.ticks.ensures.value,
      c.read_eol_if_available-count.ensures.ticks,
      ap (λ (f : ℕ × Bits). length f.1) c.read_eol_if_available-count.ensures.eols,
      ap (λ (x : Context). x.ticks) c.set_has_eols.ensures.frame,
    )
