use Rattle.fax_coding.proofs.Names.{◌≡◌, ◌<◌, ◌++◌, ℕ, OnOk, ap, subst, ◌∙◌, arith, append_assoc, bit_or, le_or_l, le_or_r}
use Rattle.fax_coding.proofs.Names.{White, Black, Bits, low_bits, chosen_run, all_bits}
use Rattle.fax_words.proofs.RunsWritten.{more_bits, short_run}
use Rattle.fax_coding.proofs.runs.put_four_runs.Goals.{Then-white-black-lt64}
use Rattle.fax_coding.proofs.runs.put_four_runs.Goals as goal

-- all four are short
three : (c : Then-white-black-lt64) → bit_or (bit_or c.args.white c.args.black) c.args.next_white < 64
three c = omega (
  arith,
  c.if-white-black-lt64.true,
  le_or_l (bit_or (bit_or c.args.white c.args.black) c.args.next_white)
      c.args.next_black,
)

two : (c : Then-white-black-lt64) → bit_or c.args.white c.args.black < 64
two c = omega (arith, three c, le_or_l (bit_or c.args.white c.args.black) c.args.next_white)

first_small : (c : Then-white-black-lt64) → c.args.white < 64
first_small c = omega (arith, two c, le_or_l c.args.white c.args.black)

second_small : (c : Then-white-black-lt64) → c.args.black < 64
second_small c = omega (arith, two c, le_or_r c.args.white c.args.black)

third_small : (c : Then-white-black-lt64) → c.args.next_white < 64
third_small c = omega (arith, three c, le_or_r (bit_or c.args.white c.args.black) c.args.next_white)

fourth_small : (c : Then-white-black-lt64) → c.args.next_black < 64
fourth_small c = omega (
  arith,
  c.if-white-black-lt64.true,
  le_or_r (bit_or (bit_or c.args.white c.args.black) c.args.next_white)
      c.args.next_black,
)

pub terminating_word-requires : goal.terminating_word-requires
terminating_word-requires c = first_small (goal.at.terminating_word-requires c).Then-white-black-lt64

pub terminating_word-requires-then-white-black-lt64 : goal.terminating_word-requires-then-white-black-lt64
terminating_word-requires-then-white-black-lt64 c =
    second_small (goal.at.terminating_word-requires-then-white-black-lt64 c).Then-white-black-lt64

pub terminating_word-requires-then-white-black-lt64-2 : goal.terminating_word-requires-then-white-black-lt64-2
terminating_word-requires-then-white-black-lt64-2 c =
    third_small (goal.at.terminating_word-requires-then-white-black-lt64-2 c).Then-white-black-lt64

pub terminating_word-requires-then-white-black-lt64-3 : goal.terminating_word-requires-then-white-black-lt64-3
terminating_word-requires-then-white-black-lt64-3 c =
    fourth_small (goal.at.terminating_word-requires-then-white-black-lt64-3 c).Then-white-black-lt64

pub returns-then-white-black-lt64 : goal.returns-then-white-black-lt64
returns-then-white-black-lt64 c =
    let d = (goal.at.returns-then-white-black-lt64 c).Then-white-black-lt64 in
    let one : low_bits c.one_word-first.result.count c.one_word-first.result.bits ≡ chosen_run White c.args.white =
    ap (λ (n : ℕ). low_bits n c.one_word-first.result.bits) c.one_word-first.ensures.count
    ∙ ap (low_bits c.terminating_word.result.count) c.one_word-first.ensures.bits
    ∙ short_run White c.args.white c.terminating_word.result (first_small d) c.terminating_word.ensures in
    let second = short_run Black c.args.black c.terminating_word-then-white-black-lt64.result (second_small d)
    c.terminating_word-then-white-black-lt64.ensures in
    let third = short_run White c.args.next_white c.terminating_word-then-white-black-lt64-2.result (third_small d)
    c.terminating_word-then-white-black-lt64-2.ensures in
    let fourth = short_run Black c.args.next_black c.terminating_word-then-white-black-lt64-3.result (fourth_small d)
    c.terminating_word-then-white-black-lt64-3.ensures in
    let two = more_bits c.with_word-two.ensures.spells one second in
    let all = more_bits c.with_word-four.ensures.spells (more_bits c.with_word-three.ensures.spells two third) fourth
    ∙ append_assoc (chosen_run White c.args.white ++ chosen_run Black c.args.black) (chosen_run White c.args.next_white)
    (chosen_run Black c.args.next_black) in
    subst (λ (b : Bits). OnOk c.put_joined.result (all_bits c.put_joined.new.writer ≡ all_bits c.args.writer.now ++ b)) all
    c.put_joined.ensures

pub returns : goal.returns
returns c =
    let now : Bits = all_bits c.args.writer.now in
    let one : Bits = chosen_run White c.args.white ++ chosen_run Black c.args.black in
    let two : Bits = chosen_run White c.args.next_white ++ chosen_run Black c.args.next_black in
    subst (λ (b : Bits). OnOk c.put_runs-2.result (all_bits c.put_runs-2.new.writer ≡ b))
    (ap (λ (b : Bits). b ++ two) c.in_ok-put_runs.ensures ∙ append_assoc now one two) c.put_runs-2.ensures
