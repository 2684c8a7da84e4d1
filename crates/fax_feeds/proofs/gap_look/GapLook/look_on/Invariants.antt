use Rattle.fax_feeds.proofs.Names.{◌≡◌, ◌≤◌, ◌+◌, length, here}
use Rattle.fax_feeds.specs.GapsSeen.{LooksTo}
use Rattle.fax_feeds.proofs.gap_look.GapLook.look_on.Given as goal

abbrev pub invariant-ones : goal.invariant-ones
invariant-ones l = record {
  looks : LooksTo l.rules l.fn.self l.self (here l.reader) (here l.rest);
  ticks : l.ticks + l.fn.self.bits ≡ l.fn.ticks + l.self.bits;
  zeros : l.self.zeros ≤ l.self.bits;
}

abbrev pub decreases-ones : goal.decreases-ones
decreases-ones l = length (here l.rest)
