use Rattle.fax_rows.proofs.Names.{rules, arith, here}
use Rattle.fax_bits.proofs.BitReading.EolCounts.{eols_leave, all_eols_leave}
use Rattle.fax_rows.proofs.rows.read_eols_of_t6.Goals as goal

pub returns-then-settings-clause-only_ticks : goal.returns-then-settings-clause-only_ticks
returns-then-settings-clause-only_ticks c = record {
  held = search rules;
  counts =
      omega (
        arith,
        c.read_eols.ensures.ticks,
        c.ticks.ensures.value,
        eols_leave 2 c.read_eols.result (here c.args.reader.now) (here c.read_eols.new.self) c.read_eols.ensures.eols,
      );
  space = search rules;
}

pub returns-else-settings-clause-only_ticks : goal.returns-else-settings-clause-only_ticks
returns-else-settings-clause-only_ticks c = record {
  held = search rules;
  counts =
      omega (
        arith,
        c.read_eol_if_available.ensures.ticks,
        c.ticks-else-settings.ensures.value,
        all_eols_leave c.read_eol_if_available.result (here c.args.reader.now)
            (here c.read_eol_if_available.new.self) c.read_eol_if_available.ensures.eols,
      );
  space = search rules;
}

pub returns-then-settings-clause-forward : goal.returns-then-settings-clause-forward
returns-then-settings-clause-forward c =
    eols_leave 2 c.read_eols.result (here c.args.reader.now) (here c.read_eols.new.self) c.read_eols.ensures.eols

pub returns-else-settings-clause-forward : goal.returns-else-settings-clause-forward
returns-else-settings-clause-forward c =
    all_eols_leave c.read_eol_if_available.result (here c.args.reader.now)
    (here c.read_eol_if_available.new.self) c.read_eol_if_available.ensures.eols

pub returns-then-settings-clause-eols : goal.returns-then-settings-clause-eols
returns-then-settings-clause-eols c = search rules
