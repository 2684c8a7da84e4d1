use Rattle.faxrows_lib.proofs.Names.{◌≡◌, ◌<◌, ◌+◌, ◌++◌, length, drop, decimal}
use Rattle.faxrows_lib.proofs.digits.put_decimal.Given as goal

-- the digits written, after those of what is left
abbrev pub invariant-loop-rest : goal.invariant-loop-rest
invariant-loop-rest l = record {
  before : l.start < l.end;
  same_length : length l.bytes ≡ length l.fn.bytes;
  digits : decimal l.fn.number ++ drop l.end l.fn.bytes ≡ decimal l.rest ++ drop (l.start + 1) l.bytes;
}

abbrev pub decreases-loop-rest : goal.decreases-loop-rest
decreases-loop-rest l = l.rest
