use Rattle.fax_bits.proofs.Names.{◌≡◌, ◌+◌, ◌*◌, ◌≤◌, length, here, moved, RunGoesOn}
use Rattle.fax_bits.proofs.window_words.pass_run.Given as goal

-- the words so far are make-up words
abbrev pub invariant-words : goal.invariant-words
invariant-words l = record {
  on : RunGoesOn l.color 0 (here l.fn.window.at) l.total (here l.window.at) 0 l.count;
  at : l.window.at ≡ moved l.width l.fn.window.at;
  bits : l.width ≤ 13 * l.count;
  words : 64 * l.count ≤ l.total;
  below : l.total + 4096 ≤ 2147483648;
}

abbrev pub decreases-words : goal.decreases-words
decreases-words l = length (here l.window.at)
