use Rattle.faxrows_lib.proofs.Names.{refl, ap, Bits, bits_in, IsCheck}
use Rattle.faxrows_lib.proofs.{Checks.is_check}
use Rattle.faxrows_lib.proofs.ProgramRuns.{with_text, writes_weaker}
use Rattle.faxrows_lib.proofs.check.check_input.Goals as goal

pub returns : goal.returns
returns g c =
    let grade = c.args.grade in
    let arguments = c.in_ok-arguments.arguments in
    let bits : Bits = bits_in arguments.order c.as_slice.result.now in
    record {
      runs = with_text (IsCheck grade) _ _ _ arguments _ c.in_ok-arguments.ensures.has arguments.settings bits _ refl
          (ap (bits_in arguments.order) c.as_slice.ensures.value)
          (writes_weaker _ (IsCheck grade arguments.settings bits) _ _ (λ done text is. rw (is.0, is.1)
          (is_check grade arguments.settings bits c.in-Ok.found c.in-Ok.ensures.none c.in-Ok.ensures.place))
          c.write_found.ensures.writes);
    }
