use Rattle.faxrows_lib.proofs.Names.{rules, ◌≡◌, ◌∙◌, Err, used}
use Rattle.faxrows_lib.proofs.ReadToEnd.{all_written, as_done, as_fault, flush_fails, line_fails}
use Rattle.faxrows_lib.proofs.by_row.write_by_row.Goals as goal

pub returns-in_err-outcome : goal.returns-in_err-outcome
returns-in_err-outcome g c =
    let is : c.from_residual.result ≡ Err c.in_err-outcome.field-0.0 = search rules in
    record { writes = as_fault c.from_residual.result c.in_err-outcome.field-0.0 is c.in_err-outcome.ensures.fails }

pub returns-in_err-put_last_line : goal.returns-in_err-put_last_line
returns-in_err-put_last_line g c =
    let is : c.from_residual-in_err-put_last_line.result ≡ Err c.in_err-put_last_line.field-0.0 = search rules in
    record {
      writes = as_fault c.from_residual-in_err-put_last_line.result c.in_err-put_last_line.field-0.0 is
          (line_fails (used g.W.Write.contents c.args.writer.now c.put_last_line.new.writer) c.in_ok-outcome.ensures.reads
          c.in_ok-outcome.ensures.reader c.in_err-put_last_line.field-0.0 c.in_err-put_last_line.ensures.fails.only
          c.in_err-put_last_line.ensures.front c.in_err-put_last_line.ensures.fails.failed);
    }

pub returns-in_err-flush : goal.returns-in_err-flush
returns-in_err-flush g c =
    let is : c.from_residual-in_err-flush.result ≡ Err c.in_err-flush.field-0.0 = search rules in
    record {
      writes = as_fault c.from_residual-in_err-flush.result c.in_err-flush.field-0.0 is
          (flush_fails (used g.W.Write.contents c.args.writer.now c.flush.new.writer) c.in_ok-outcome.ensures.reads
          c.in_ok-outcome.ensures.reader (g.W.Write.contents c.put_last_line.new.writer.0) c.put_last_line.new.waiting.items
          c.in_ok-put_last_line.ensures.ok c.in_err-flush.field-0.0 c.in_err-flush.ensures.by_writer.only
          c.in_err-flush.ensures.front
          c.in_err-flush.ensures.by_writer.failed);
    }

pub returns : goal.returns
returns g c = record {
  writes = as_done c.done_of.result _ c.done_of.ensures
      (all_written (used g.W.Write.contents c.args.writer.now c.flush.new.writer) c.in_ok-outcome.ensures.reads
      c.in_ok-outcome.ensures.reader (g.W.Write.contents c.put_last_line.new.writer.0) c.put_last_line.new.waiting.items
      c.in_ok-put_last_line.ensures.ok c.in_ok-flush.ensures.ok
      (c.in_ok-flush.ensures.by_writer.flag ∙ c.in_ok-put_last_line.ensures.fails.flag ∙ c.in_ok-outcome.ensures.writer));
}
