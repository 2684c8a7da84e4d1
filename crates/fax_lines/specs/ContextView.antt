-- A context as seen from outside. This is not part of the trusted specification: contracts speak of this view, and the
-- code is proved to keep the fields valid.
use Rattle.std.specs.Prelude.{◌≤◌, max, vec_capacity}
use Rattle.fax_reading.specs.Rows.{AreChanges, pixels}
use Rattle.fax_reading.specs.Context.{Context, ArePassed}
use Rattle.fax_lines.specs.declared.context.DecoderContext.TheInside.{Inside}

-- the rows that the lists of changes represent
abbrev pub context_of : Inside → Context
context_of c =
    record {
      held = record {
        reference = pixels c.settings.columns c.ref_changes.items;
        front = pixels c.pixels_decoded c.coding_changes.items;
        color = c.color;
        taken = c.rows.decoded_rows;
        repairs = record {
          rows = c.rows.damaged_rows;
          fault = c.rows.last_fault;
          last = c.rows.last_damaged;
          cut = c.rows.cut_rows;
          missed = c.rows.missed_eols;
        };
        has_eols = c.rows.has_eols;
        fault_start = c.rows.fault_start;
        settings = c.settings;
      };
      passed = c.passed;
      cut = c.is_cut;
      ticks = c.ticks;
      space = max (vec_capacity c.ref_changes) (vec_capacity c.coding_changes);
    }

-- both lists are valid; the front's changes are below the pixels decoded, which are at most the columns; and the
-- changes that were passed are not right of a0
pub record IsLawful (c : Inside) : Type 0 where
  pub reference : AreChanges c.settings.columns c.ref_changes.items
  pub front : AreChanges c.pixels_decoded c.coding_changes.items
  pub within : c.pixels_decoded ≤ c.settings.columns
  pub passed : ArePassed c.ref_changes.items c.pixels_decoded c.passed
