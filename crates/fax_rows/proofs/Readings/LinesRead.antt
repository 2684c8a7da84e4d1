-- Rows one at a time: the line here is read, in data of which a reader may hold a part.
use Rattle.fax_rows.proofs.Names.{common_steps}
use Rattle.fax_rows.proofs.Names.{◌≡◌, ◌-◌, ℕ, ◌≤◌, Result, Ok, Err, ap, length, drop}
use Rattle.fax_rows.proofs.Names.{arith, length-drop, Bits, Held, DecodeError, Context, true}
use Rattle.fax_rows.proofs.Names.{StandsAtLine, ReaderStands, IsStandingAtLine, IsStanding, ReadsNext, seen, row_came}
use Rattle.fax_rows.proofs.Names.{WorkIsPaid, AfterRow, AtFault}
use Rattle.fax_rows.proofs.Readings.RowByRow.{IsRead, at_line_stands, reader_fails_at_line, damage_stays, misses_at_line}
use Rattle.fax_rows.proofs.Readings.RowByRow.{is_read, isnt_read, reported_at_line}
use Rattle.fax_rows.proofs.Work.CallsPaid.{at_line_paid, failed_most}
use Rattle.fax_lines.proofs.Work.RoomTaken.{row_short}
use Rattle.fax_rows.specs.declared.row_reader.RowState.{RowState}
use Rattle.fax_rows.specs.RowsTried.{ReadsRow, rows_after_line}

-- the offset of the bits after a position
line_start_of : (place : ℕ) (bits : Bits) → place ≤ length bits → place ≡ length bits - length (drop place bits)
line_start_of place bits within = omega (arith, within, length-drop place bits)

module _ (from : ℕ) (rows : RowState) (old new : Context) (bits : Bits) (place next : ℕ) (begun : place ≤ length bits)
    (within : next ≤ length bits) (at : IsStandingAtLine from rows old (record { bits = bits; place = place })) where
  abbrev held : Held
  held = old.held

  abbrev left : Held
  left = new.held

  stands : StandsAtLine held.settings bits held (drop place bits)
  stands = at_line_stands rows.stand held.settings bits held place at.0 at.1.0

  -- its row was read
  module _ (reads : ReadsRow old new (Ok tt) (drop place bits) (drop next bits)) where
    read : IsRead held.settings bits held left (drop place bits) (drop next bits)
    read = is_read stands reads.row

    row_is_paid : WorkIsPaid from AfterRow held.settings bits left next new.ticks
    row_is_paid = grind (arith, common_steps, at_line_paid, row_short, length-drop, read, held, left)

    row_stays : IsStanding from (rows_after_line rows (Ok tt) place held.repairs.rows held.repairs.cut left.repairs) new
        (record { bits = bits; place = next })
    row_stays = grind (arith, common_steps, misses_at_line, damage_stays, read, held, left, row_is_paid)

    row_is_next : ReadsNext (seen rows old (record { bits = bits; place = place }))
        (seen (rows_after_line rows (Ok tt) place held.repairs.rows held.repairs.cut left.repairs) new
        (record { bits = bits; place = next })) (Ok true)
    row_is_next = grind (arith, common_steps, reported_at_line, read, line_start_of, held)

  -- or it wasn't
  module _ (e : DecodeError) (reads : ReadsRow old new (Err e) (drop place bits) (drop next bits)) where
    unread : ReaderStands (AtFault e) held.settings bits left next
    unread = isnt_read stands reads.row (omega (arith, within, length-drop next bits, ap length reads.put_back))

    settings_left : left.settings ≡ held.settings
    settings_left = ap (λ (h : Held). h.settings) reads.row.held

    taken_left : left.taken ≡ held.taken
    taken_left = ap (λ (h : Held). h.taken) reads.row.held

    repairs_left : left.repairs ≡ held.repairs
    repairs_left = ap (λ (h : Held). h.repairs) reads.row.held

    fault_is_paid : WorkIsPaid from (AtFault e) held.settings bits left next new.ticks
    fault_is_paid =
        let work = at.1.2 in
        record {
          words = grind (arith, common_steps, held, taken_left);
          paid = failed_most from held.settings stands.wide bits held (drop place bits) old.ticks
              (at_line_paid from rows.stand held.settings bits held place old.ticks at.0 work.paid) new.ticks reads.at_most;
        }

    fault_stays : IsStanding from (rows_after_line rows (Err e) place held.repairs.rows held.repairs.cut left.repairs) new
        (record { bits = bits; place = next })
    fault_stays =
        grind (
          arith,
          common_steps,
          damage_stays,
          misses_at_line,
          reported_at_line,
          left,
          settings_left,
          unread,
          held,
          taken_left,
          repairs_left,
          fault_is_paid,
        )

    fault_is_next : ReadsNext (seen rows old (record { bits = bits; place = place }))
        (seen (rows_after_line rows (Err e) place held.repairs.rows held.repairs.cut left.repairs) new
        (record { bits = bits; place = next })) (Err e)
    fault_is_next =
        grind (
          arith,
          common_steps,
          reader_fails_at_line,
          reported_at_line,
          settings_left,
          taken_left,
          unread,
          line_start_of,
          stands,
          held,
        )

  pub line_stays : (answer : Result (Unit {0}) DecodeError) → ReadsRow old new answer (drop place bits) (drop next bits)
      → IsStanding from (rows_after_line rows answer place held.repairs.rows held.repairs.cut left.repairs) new
      (record { bits = bits; place = next })
  line_stays (Ok x) reads = row_stays reads
  line_stays (Err e) reads = fault_stays e reads

  pub line_is_next : (answer : Result (Unit {0}) DecodeError) → ReadsRow old new answer (drop place bits) (drop next bits)
      → ReadsNext (seen rows old (record { bits = bits; place = place }))
      (seen (rows_after_line rows answer place held.repairs.rows held.repairs.cut left.repairs) new
      (record { bits = bits; place = next })) (row_came answer)
  line_is_next (Ok x) reads = row_is_next reads
  line_is_next (Err e) reads = fault_is_next e reads
