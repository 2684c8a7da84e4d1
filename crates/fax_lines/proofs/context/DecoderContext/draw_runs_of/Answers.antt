use Rattle.fax_lines.proofs.Names.{◌≡◌, ap, AtHand}
use Rattle.fax_lines.proofs.context.DecoderContext.draw_runs_of.Goals as goal

pub returns-in-Some : goal.returns-in-Some
returns-in-Some c =
    let same : c.in-Some.window.at ≡ c.args.reader.now = ap (λ (h : AtHand). h.at) c.in-Some.ensures.same in
    rw (c.go_to.ensures, ← same) c.draw_pairs_from_white.ensures

pub returns-in-Some-at_hand : goal.returns-in-Some-at_hand
returns-in-Some-at_hand c =
    let same : c.in-Some-at_hand.window.at ≡ c.args.reader.now = ap (λ (h : AtHand). h.at) c.in-Some-at_hand.ensures.same in
    rw (c.go_to-in-Some-at_hand.ensures, ← same) c.draw_pairs_from_white-in-Some-at_hand.ensures
