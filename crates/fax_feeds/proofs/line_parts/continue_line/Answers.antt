use Rattle.fax_feeds.proofs.Names.{◌≡◌, ◌<◌, subst, arith, here}
use Rattle.fax_feeds.specs.declared.line_parts.Word.{Word}
use Rattle.fax_feeds.specs.LineParts.{GoesOnBy, left_to_read, part_at}
use Rattle.fax_reading.specs.LinesGoOn.{read_on}
use Rattle.fax_feeds.proofs.DrawingLines.PartsOfLines.{ends_with_word, lacks_word, reads_some}
use Rattle.fax_feeds.proofs.DrawingLines.PartsOfLines.{goes_by_word}
use Rattle.fax_feeds.proofs.line_parts.continue_line.Goals.{After-read_run, After-read_step}
use Rattle.fax_feeds.proofs.line_parts.continue_line.Goals as goal

-- a word of a run leaves less to read
run_smaller : (c : After-read_run) → c.read_run.result ≡ Word.GoesOn
    → left_to_read c.read_run.new.part.in_run (here c.read_run.new.reader) < left_to_read c.run.part.in_run (here c.run.reader)
run_smaller c is =
    let held = c.run.ctx.held in
    let new = c.read_run.new.part in
    let after = here c.read_run.new.reader in
    reads_some held.settings held.reference c.run.part new (here c.run.reader) after
    (subst (GoesOnBy held.settings held.reference (λ front. (read_on held.settings held.reference
    (part_at c.run.part front (here c.run.reader))).turn) c.run.part new after) is c.read_run.ensures.reads.goes)

pub run-smaller : goal.run-smaller
run-smaller c = run_smaller (goal.at.run-smaller c).After-read_run c.in-GoesOn.is

pub run-preserved : goal.run-preserved
run-preserved c = record {
  went_on = goes_by_word c.run.invariant.went_on c.read_run.ensures.reads c.in-GoesOn.is;
  no_more = omega (arith, c.run.invariant.no_more, run_smaller (goal.at.run-preserved c).After-read_run c.in-GoesOn.is);
}

pub returns-in-Missing-clause-goes_on : goal.returns-in-Missing-clause-goes_on
returns-in-Missing-clause-goes_on c =
    lacks_word c.run.invariant.went_on c.read_run.ensures.reads c.offset-word_start.result c.offset-word_start.ensures.place
    (omega (arith, c.offset-start.ensures.place, c.offset-start.ensures.within))
    (omega (arith, c.offset-word_start.ensures.place, c.offset-word_start.ensures.within))
    c.in-Missing.is

pub returns-in-Ends-clause-goes_on : goal.returns-in-Ends-clause-goes_on
returns-in-Ends-clause-goes_on c =
    ends_with_word c.run.invariant.went_on c.read_run.ensures.reads c.offset-word_start.result c.offset-word_start.ensures.place
    (omega (arith, c.offset-start.ensures.place, c.offset-start.ensures.within))
    (omega (arith, c.offset-word_start.ensures.place, c.offset-word_start.ensures.within))
    c.in-Ends.is

pub modes-preserved : goal.modes-preserved
modes-preserved c = record {
  went_on = goes_by_word c.modes.invariant.went_on c.read_step.ensures.reads c.in-GoesOn-read_step.is;
  no_more = omega (arith, c.modes.invariant.no_more, c.read_step.ensures.smaller c.in-GoesOn-read_step.is);
}

pub returns-in-Missing-read_step-clause-goes_on : goal.returns-in-Missing-read_step-clause-goes_on
returns-in-Missing-read_step-clause-goes_on c =
    lacks_word c.modes.invariant.went_on c.read_step.ensures.reads c.offset-step_start.result c.offset-step_start.ensures.place
    (omega (arith, c.offset-start.ensures.place, c.offset-start.ensures.within))
    (omega (arith, c.offset-step_start.ensures.place, c.offset-step_start.ensures.within))
    c.in-Missing-read_step.is

pub returns-in-Ends-read_step-clause-goes_on : goal.returns-in-Ends-read_step-clause-goes_on
returns-in-Ends-read_step-clause-goes_on c =
    ends_with_word c.modes.invariant.went_on c.read_step.ensures.reads c.offset-step_start.result
    c.offset-step_start.ensures.place
    (omega (arith, c.offset-start.ensures.place, c.offset-start.ensures.within))
    (omega (arith, c.offset-step_start.ensures.place, c.offset-step_start.ensures.within))
    c.in-Ends-read_step.is
