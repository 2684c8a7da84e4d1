use Rattle.faxrows_lib.proofs.Names.{rules, ap, bits_in, IsPackedOf}
use Rattle.faxrows_lib.proofs.ProgramRuns.{with_text}
use Rattle.faxrows_lib.proofs.packed.run_packed.Goals as goal

pub returns : goal.returns
returns g c = record {
  runs = with_text IsPackedOf _ _ _ c.in_ok-arguments.arguments _ c.in_ok-arguments.ensures.has c.in-Ok.ctx.held.settings _ _
      (search rules) (ap (bits_in c.in_ok-arguments.arguments.order) c.as_slice.ensures.value) c.write_packed.ensures.writes;
}
