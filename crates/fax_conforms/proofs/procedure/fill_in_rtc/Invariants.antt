use Rattle.hayro_ccitt.proofs.Names.{◌≡◌, ◌-◌, ◌≤◌, here, ◌+◌, length}
use Rattle.fax_conforms.specs.Conforming.{EolsStand}
use Rattle.fax_conforms.proofs.ClosingsDepart.{EolsPassed}
use Rattle.fax_conforms.proofs.procedure.fill_in_rtc.Given as goal

abbrev pub invariant-eols : goal.invariant-eols
invariant-eols l = record {
  passed : EolsPassed l.encoding (5 - l.others) (here l.reader) (here l.next);
  few : l.others ≤ 5;
  stands : EolsStand l.encoding 6 (here l.reader) → EolsStand l.encoding l.others (here l.next);
  same_bits : l.next.bits ≡ l.reader.bits;
  counts : l.fn.ticks ≤ l.ticks;
  paid : l.ticks + length (here l.next) ≤ l.fn.ticks + length (here l.reader);
}

abbrev pub decreases-eols : goal.decreases-eols
decreases-eols l = l.others
