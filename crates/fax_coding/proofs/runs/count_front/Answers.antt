use Rattle.fax_coding.proofs.Names.{◌/◌, arith}
use Rattle.fax_coding.proofs.ShortestRunsWritten.{white_front, black_front}
use Rattle.fax_coding.proofs.runs.count_front.Goals as goal

pub returns-in-White-clause-counted : goal.returns-in-White-clause-counted
returns-in-White-clause-counted c =
    rw c.in-White.is (white_front (c.saturating_sub-words.result / 1664) c.args.pixels
    (omega (arith, c.saturating_sub-words.ensures)))

pub returns-in-Black-clause-counted : goal.returns-in-Black-clause-counted
returns-in-Black-clause-counted c =
    rw c.in-Black.is (black_front (c.saturating_sub-words-in-Black.result / 2560) c.args.pixels
    (omega (arith, c.saturating_sub-words-in-Black.ensures)))
