-- What a context keeps of the rows so far, in one. This is not part of the trusted specification: no contract of a public call
-- cites it.
use Rattle.std.specs.Prelude.{false, None}
use Rattle.fax_bits.specs.declared.error.DecodeError.TheVariants.{UnexpectedEof}
use Rattle.fax_lines.specs.declared.context.row_record.RowRecord.{RowRecord}
use Rattle.fax_reading.specs.Context.{Held}

-- of no rows
abbrev pub no_rows : RowRecord
no_rows =
    record {
      decoded_rows = 0;
      damaged_rows = 0;
      last_fault = UnexpectedEof;
      last_damaged = 0;
      cut_rows = 0;
      missed_eols = 0;
      has_eols = false;
      fault_start = None;
    }

-- of the rows that were accepted
abbrev pub record_of : Held → RowRecord
record_of h =
    record {
      decoded_rows = h.taken;
      damaged_rows = h.repairs.rows;
      last_fault = h.repairs.fault;
      last_damaged = h.repairs.last;
      cut_rows = h.repairs.cut;
      missed_eols = h.repairs.missed;
      has_eols = h.has_eols;
      fault_start = h.fault_start;
    }

-- another record, and the rest as it was
abbrev pub with_record : Held → RowRecord → Held
with_record h rows =
    record {
      reference = h.reference;
      front = h.front;
      color = h.color;
      taken = rows.decoded_rows;
      repairs = record {
        rows = rows.damaged_rows;
        fault = rows.last_fault;
        last = rows.last_damaged;
        cut = rows.cut_rows;
        missed = rows.missed_eols;
      };
      has_eols = rows.has_eols;
      fault_start = rows.fault_start;
      settings = h.settings;
    }
