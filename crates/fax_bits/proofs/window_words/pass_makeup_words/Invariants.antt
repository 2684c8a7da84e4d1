use Rattle.fax_bits.proofs.Names.{◌≡◌, length, here, RunGoesOn}
use Rattle.fax_bits.proofs.window_words.pass_makeup_words.Given as goal

abbrev pub invariant-words : goal.invariant-words
invariant-words l = RunGoesOn l.color l.start (here l.fn.window.at) l.total (here l.window.at) l.fn.ticks l.ticks
    × (l.window.at.bits ≡ l.fn.window.at.bits)

abbrev pub decreases-words : goal.decreases-words
decreases-words l = length (here l.window.at)
