use Rattle.std.proofs.Common.{arith, rules, inl, inr}
use Rattle.fax_callers.proofs.FirstTaken.{ends_as, is_first}
use Rattle.fax_callers.proofs.first_rows.take_first.Goals as goal

pub returns-clause-accepts : goal.returns-clause-accepts
returns-clause-accepts g c =
    let decodes = c.decode_in.ensures.decodes in
    let first = is_first _ _ _ _ _ _ c.requires.begun decodes.reading in
    record { rows = first.meaning; memory = λ want. rw (first.rows) (decodes.short.memory want) }

pub returns-clause-reads : goal.returns-clause-reads
returns-clause-reads g c =
    let reading = c.decode_in.ensures.decodes.reading in
    let first = is_first _ _ _ _ _ _ c.requires.begun reading in
    record {
      taken = omega (arith, first.rows, reading.taken);
      all = rw (first.rows) reading.all;
      ended = ends_as _ _ reading.ok reading.fault;
    }

pub returns-clause-most : goal.returns-clause-most
returns-clause-most g c = (is_first _ _ _ _ _ _ c.requires.begun c.decode_in.ensures.decodes.reading).most

pub returns-clause-refused : goal.returns-clause-refused
returns-clause-refused g c = λ refused some.
    let decodes = c.decode_in.ensures.decodes in
    let taken = (is_first _ _ _ _ _ _ c.requires.begun decodes.reading).rows in
    let flag = decodes.short.flag refused in
    record {
      flag = search rules;
      row = elim (decodes.short.refused_row refused) [ inl full ↦ absurd (some full) | inr row ↦ rw (taken) row ];
    }
