use Rattle.faxrows_lib.proofs.Names.{rules, ◌∙◌, ◌++◌, List, ℕ, ap, arith, refl, sym, subst, AppendsFront, Ok, PassesOn}
use Rattle.faxrows_lib.proofs.Names.{line_of_row}
use Rattle.std.proofs.lemmas.Result.{err_from_is_err_and}
use Rattle.faxrows_lib.proofs.RowsPut.{end_puts, error_puts, more_puts, next_taken, row_fails, row_so_far}
use Rattle.faxrows_lib.proofs.by_row.put_rows.Goals as goal

pub loop-rows-init : goal.loop-rows-init
loop-rows-init g c = record {
  so_far = record {
    keeps = record { order = refl; finished = refl; kept = refl; dropped = refl; room = refl };
    settings = refl;
    some = c.requires.some;
    put = λ start whole put. put;
  };
  flag = refl;
}

pub loop-rows-smaller : goal.loop-rows-smaller
loop-rows-smaller g c =
    let more = next_taken g.W.Write.contents c.args.writer.now c.loop-rows.writer c.loop-rows.invariant.so_far
    c.next_row.ensures.keeps c.next_row.result c.next_row.ensures.reads c.next_row.ensures.ended
    (c.in-Ok-Row.is ∙ ap Ok c.in-Ok-Row.field-0-is) in
    omega (arith, more, c.rows_read-read.ensures, c.rows_read-read.type_inv)

pub loop-rows-preserved : goal.loop-rows-preserved
loop-rows-preserved g c = record {
  so_far = row_so_far g.W.Write.contents c.args.writer.now c.loop-rows.writer c.loop-rows.invariant.so_far
      c.next_row.ensures.keeps c.next_row.result c.next_row.ensures.reads c.next_row.ensures.ended
      (c.in-Ok-Row.is ∙ ap Ok c.in-Ok-Row.field-0-is)
      (subst (λ (l : List ℕ). PassesOn (g.W.Write.contents c.loop-rows.writer.0) (g.W.Write.contents c.put_row.new.writer.0)
      c.loop-rows.waiting.items (line_of_row l) c.put_row.new.waiting.items) c.row.ensures.changes
      c.in_ok-put_row-in-Ok-Row.ensures.ok);
  flag = c.in_ok-put_row-in-Ok-Row.ensures.fails.flag ∙ c.loop-rows.invariant.flag;
}

pub returns-in_err-put_row-in-Ok-Row-clause-puts :
    goal.returns-in_err-put_row-in-Ok-Row-clause-puts
returns-in_err-put_row-in-Ok-Row-clause-puts g c =
    let answer = err_from_is_err_and c.from_residual.result c.from_residual.ensures.1 in
    rw answer.1 (row_fails g.W.Write.contents c.args.writer.now c.loop-rows.writer c.loop-rows.invariant.so_far
    c.next_row.ensures.keeps c.next_row.result c.next_row.ensures.reads c.next_row.ensures.ended
    (c.in-Ok-Row.is ∙ ap Ok c.in-Ok-Row.field-0-is) c.put_row.new.writer c.put_row.new.waiting.items _
    (subst (λ (l : List ℕ). AppendsFront (g.W.Write.contents c.loop-rows.writer.0)
    (g.W.Write.contents c.put_row.new.writer.0) (c.loop-rows.waiting.items ++ line_of_row l)) c.row.ensures.changes
    c.in_err-put_row-in-Ok-Row.ensures.front))

pub returns-in-Ok-NeedsMore-clause-puts : goal.returns-in-Ok-NeedsMore-clause-puts
returns-in-Ok-NeedsMore-clause-puts g c =
    more_puts g.W.Write.contents c.args.writer.now c.loop-rows.writer c.loop-rows.invariant.so_far c.next_row.ensures.keeps
    c.next_row.result c.next_row.ensures.reads c.next_row.ensures.ended
    (c.in-Ok-NeedsMore.is ∙ ap Ok c.in-Ok-NeedsMore.field-0-is)

pub returns-in-Ok-End-clause-puts : goal.returns-in-Ok-End-clause-puts
returns-in-Ok-End-clause-puts g c =
    end_puts g.W.Write.contents c.args.writer.now c.loop-rows.writer c.loop-rows.invariant.so_far c.next_row.ensures.keeps
    c.next_row.result c.next_row.ensures.reads c.next_row.ensures.ended
    (c.in-Ok-End.is ∙ ap Ok c.in-Ok-End.field-0-is) c.bytes_read.result
    c.bytes_read.ensures

pub returns-in-Err-clause-puts : goal.returns-in-Err-clause-puts
returns-in-Err-clause-puts g c =
    error_puts g.W.Write.contents c.args.writer.now c.loop-rows.writer c.loop-rows.invariant.so_far c.next_row.ensures.keeps
    c.next_row.result c.next_row.ensures.reads c.next_row.ensures.ended c.in-Err.error c.in-Err.is
