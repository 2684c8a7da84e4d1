use Rattle.faxrows_lib.proofs.Names.{rules, IsDamageText}
use Rattle.faxrows_lib.proofs.ProgramRuns.{with_text}
use Rattle.faxrows_lib.proofs.damage.run_damage.Goals as goal

pub returns : goal.returns
returns g c = record {
  runs = with_text IsDamageText _ _ _ c.in_ok-arguments.arguments _ c.in_ok-arguments.ensures.has c.in-Ok.rows.settings
      c.in-Ok.rows.bits _ (search rules) (search rules) c.write_damage.ensures.writes;
}
