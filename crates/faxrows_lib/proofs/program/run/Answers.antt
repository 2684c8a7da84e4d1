use Rattle.faxrows_lib.proofs.Names.{rules, ap, bits_in, IsRowsText}
use Rattle.faxrows_lib.proofs.ProgramRuns.{with_text}
use Rattle.faxrows_lib.proofs.program.run.Goals as goal

pub returns : goal.returns
returns g c = record {
  runs = with_text IsRowsText _ _ _ c.in_ok-arguments.arguments _ c.in_ok-arguments.ensures.has c.in-Ok.ctx.held.settings _ _
      (search rules) (ap (bits_in c.in_ok-arguments.arguments.order) c.as_slice.ensures.value) c.write_decoded.ensures.writes;
}
