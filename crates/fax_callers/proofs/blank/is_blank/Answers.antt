use Rattle.std.proofs.Common.{length, take_all, arith, Err, ap, ◌∙◌}
use Rattle.fax_callers.specs.Readings.{reading_of}
use Rattle.fax_callers.proofs.WhiteTaken.{taken_white}
use Rattle.fax_callers.proofs.blank.is_blank.Goals as goal

pub returns-in-Ok-clause-blank : goal.returns-in-Ok-clause-blank
returns-in-Ok-clause-blank c = λ same.
    let rows = (reading_of c.args.settings c.args.order c.args.«data».now).rows in
    taken_white rows (length rows) (omega arith) (rw (take_all (length rows) rows (omega arith)) c.in-Ok.ensures.front.all)

pub returns-in-Err-Refused-clause-not_blank : goal.returns-in-Err-Refused-clause-not_blank
returns-in-Err-Refused-clause-not_blank c = λ same.
    let rows = (reading_of c.args.settings c.args.order c.args.«data».now).rows in
    let front = c.decode_once.ensures.front in
    let refused = front.refused (c.in-Err-Refused.is ∙ ap Err c.in-Err-Refused.field-0-is) in
    (front.taken, refused.0, refused.1, taken_white rows front.taken front.within front.meaning)
