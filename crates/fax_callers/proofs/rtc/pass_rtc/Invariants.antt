use Rattle.hayro_ccitt.proofs.Names.{◌≡◌, ◌++◌, length, here, Bits}
use Rattle.fax_callers.specs.Rtc.{after_rtc}
use Rattle.fax_callers.proofs.rtc.pass_rtc.Given as goal

-- RTC is sought in the bits that are left, by what was seen so far
abbrev pub invariant-bits : goal.invariant-bits
invariant-bits l = (l.reader.bits ≡ l.fn.reader.bits) × ((more : Bits)
    → after_rtc l.tags l.fn.seen (here l.fn.reader ++ more) ≡ after_rtc l.tags l.seen (here l.reader ++ more))

abbrev pub decreases-bits : goal.decreases-bits
decreases-bits l = length (here l.reader)
