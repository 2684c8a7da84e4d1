use Rattle.hayro_ccitt.proofs.Names.{◌≤◌, ◌∙◌, length, subst, bits_in, IfSome}
use Rattle.std.specs.Prelude.{IfNone}
use Rattle.fax_callers.specs.Rtc.{FindsRtc, PassesBits}
use Rattle.fax_callers.specs.declared.rtc.EolsSeen.{EolsSeen}
use Rattle.fax_callers.proofs.RtcPassed.{size_found}
use Rattle.fax_callers.proofs.rtc.rtc_size.Goals as goal

pub returns-clause-size : goal.returns-clause-size
returns-clause-size c =
    c.unwrap_or.ensures ∙ size_found c.find_rtc.result c.args.tags c.args.order c.args.«data».now c.find_rtc.new.seen
    (subst (λ (seen : EolsSeen). IfSome c.find_rtc.result
    (λ n. (n ≤ length c.args.«data».now) × FindsRtc c.args.tags c.args.order seen c.args.«data».now n))
    c.none_seen-seen.ensures c.find_rtc.ensures.found)
    (subst (λ (seen : EolsSeen). IfNone c.find_rtc.result
    (PassesBits c.args.tags seen (bits_in c.args.order c.args.«data».now) c.find_rtc.new.seen))
    c.none_seen-seen.ensures c.find_rtc.ensures.none)
