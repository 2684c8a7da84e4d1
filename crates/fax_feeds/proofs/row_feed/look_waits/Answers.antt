use Rattle.fax_feeds.proofs.Names.{◌≡◌, ◌∙◌, ◌+◌, ◌&&◌, ap, sym, arith, length, drop, length-drop, drop-drop, not, Bool, Bits}
use Rattle.fax_feeds.proofs.Names.{true, false, refl, false≢true}
use Rattle.fax_feeds.proofs.Names.{ℕ, subst, length-append, here}
use Rattle.fax_feeds.specs.GapsSeen.{LooksTo, nothing_seen, is_settled, stage_following}
use Rattle.fax_feeds.specs.declared.gap_look.GapStage.TheVariants.{Start}
use Rattle.fax_feeds.proofs.Readings.GapsSeen.{found_settled, looked_within, looks_then, rest_is}
use Rattle.fax_feeds.proofs.row_feed.look_waits.Goals.{After-bit_pos, After-look_on}
use Rattle.fax_feeds.proofs.row_feed.look_waits.Goals as goal
use Rattle.std.proofs.lemmas.List.{nil_from_length}

pub overflow_add-bit_pos : goal.overflow_add-bit_pos
overflow_add-bit_pos c = omega (
  arith,
  c.bit_pos.ensures.place,
  c.bit_pos.ensures.within,
  c.bit_pos.ensures.fit,
  (looked_within c.requires.seen.1).0,
  length-drop c.args.reader.now.place c.args.reader.now.bits,
)

pub at_bit-ahead-requires : goal.at_bit-ahead-requires
at_bit-ahead-requires c = omega (
  arith,
  c.bit_pos.ensures.place,
  c.bit_pos.ensures.within,
  (looked_within c.requires.seen.1).0,
  length-drop c.args.reader.now.place c.args.reader.now.bits,
)

pub look_on-requires-clause-zeros : goal.look_on-requires-clause-zeros
look_on-requires-clause-zeros c = (looked_within c.requires.seen.1).1

-- the bits that weren't looked at
ahead_is : (c : After-look_on) → here c.at_bit-ahead.result ≡ c.requires.seen.0
ahead_is c =
    let reader = c.args.reader.now in
    let bits = c.args.look.now.bits in
    ap here c.at_bit-ahead.ensures ∙ ap (λ (n : ℕ). drop (n + bits) reader.bits) c.bit_pos.ensures.place
    ∙ sym (drop-drop bits reader.place reader.bits) ∙ rest_is c.requires.seen.1

now_seen : (c : After-look_on)
    → LooksTo c.args.rules.now nothing_seen c.look_on.new.self (here c.args.reader.now) c.look_on.ensures.looks.0
now_seen c = looks_then c.requires.seen.1 (subst (λ (b : Bits). LooksTo c.args.rules.now c.args.look.now c.look_on.new.self b
    c.look_on.ensures.looks.0) (ahead_is c) c.look_on.ensures.looks.1)

pub returns-clause-waits : goal.returns-clause-waits
returns-clause-waits c =
    let at = (goal.at.returns-clause-waits c).After-look_on in
    let looks = c.look_on.ensures.looks in
    ap not (sym (found_settled (now_seen at) c.look_on.result c.look_on.ensures.settled (λ waits.
    nil_from_length looks.0 (omega (
      arith,
      c.look_on.ensures.all waits,
      looks.1.bits,
      ap length looks.1.are,
      length-append looks.1.looked looks.0,
    )))))
    ∙ sym (ap (λ (b : Bool). not b && not (is_settled (stage_following c.args.rules.now Start 0 (here c.args.reader.now))))
    c.if-is_last.false)

pub returns-clause-all : goal.returns-clause-all
returns-clause-all c e =
    let at = (goal.at.returns-clause-all c).After-look_on in
    let looks = c.requires.seen.1 in
    omega (
      arith,
      c.look_on.ensures.all (not_true c.look_on.result e),
      ap length (ahead_is at),
      looks.bits,
      ap length looks.are,
      length-append looks.looked c.requires.seen.0,
    )
  where
    not_true : (b : Bool) → not b ≡ true → b ≡ false
    not_true false e = refl
    not_true true e = absurd (false≢true e)

pub returns-clause-seen : goal.returns-clause-seen
returns-clause-seen c =
    let at = (goal.at.returns-clause-seen c).After-look_on in (c.look_on.ensures.looks.0, now_seen at)
