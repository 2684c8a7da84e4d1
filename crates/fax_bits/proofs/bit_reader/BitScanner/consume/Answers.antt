use Rattle.fax_bits.proofs.Names.{arith, refl}
use Rattle.fax_bits.proofs.BitReading.FilledWindows.{scanned_on, scanned_past, scanned_within}
use Rattle.fax_bits.proofs.bit_reader.BitScanner.consume.Goals.{else-left-lt16-via-then-left-lt16+else-not-self}
use Rattle.fax_bits.proofs.bit_reader.BitScanner.consume.Goals.{else-left-lt16-via-else-left-lt16}
use Rattle.fax_bits.proofs.bit_reader.BitScanner.consume.Goals as goal

pub invariant_of-self-2 : goal.invariant_of-self-2
invariant_of-self-2 c =
    grind (arith, else-left-lt16-via-then-left-lt16+else-not-self, else-left-lt16-via-else-left-lt16, scanned_on)

pub returns-then-n-self-clause-end : goal.returns-then-n-self-clause-end
returns-then-n-self-clause-end c = rw (← c.self.view_is)
    (λ e. scanned_past c.self.inside c.args.n c.self.invariant c.requires c.if-n-self.true, λ h. refl)

pub returns-then-not-self-clause-end : goal.returns-then-not-self-clause-end
returns-then-not-self-clause-end c = grind (arith, scanned_within)

pub returns-clause-end : goal.returns-clause-end
returns-clause-end c = grind (arith, scanned_within)
