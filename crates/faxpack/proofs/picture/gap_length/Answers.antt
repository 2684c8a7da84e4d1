use Rattle.std.proofs.Common.{rules, ◌≡◌, ◌+◌, ◌==◌, true, false, drop, get_or, arith, ap, ◌∙◌}
use Rattle.std.specs.Prelude.{not}
use Rattle.faxpack.specs.Pictures.{gap_length}
use Rattle.faxpack.proofs.Headers.{comment_more, comment_begins, space_more, gap_end, gap_past}
use Rattle.faxpack.proofs.picture.gap_length.Goals as goal
use Rattle.faxpack.proofs.picture.gap_length.Goals.{then-in_comment, else-in_comment+then-byte-eq35}
use Rattle.faxpack.proofs.picture.gap_length.Goals.{else-in_comment+else-byte-eq35+else-not-is_space}

pub loop-count-preserved : goal.loop-count-preserved
loop-count-preserved c =
    let bytes = c.args.bytes.now in
    let at = c.loop-count.count in
    let so_far = c.loop-count.invariant.gap in
    record {
      within = search rules;
      gap = elim c.if-in_comment.branch [
        | then-in_comment w ↦
            let old : gap_length c.loop-count.in_comment (drop at bytes) ≡ gap_length true (drop at bytes) =
            ap (λ b. gap_length b (drop at bytes)) w.if-in_comment.true in
            let new : gap_length c.if-in_comment.in_comment (drop (at + 1) bytes) ≡ gap_length (not (get_or bytes at 0 == 10))
            (drop (at + 1) bytes) = ap (λ b. gap_length b (drop (at + 1) bytes)) w.in_comment-is in
            omega (arith, so_far, old, new, comment_more bytes at (search rules))
        | else-in_comment+then-byte-eq35 w ↦
            let old : gap_length c.loop-count.in_comment (drop at bytes) ≡ gap_length false (drop at bytes) =
            ap (λ b. gap_length b (drop at bytes)) w.if-in_comment.false in
            let new : gap_length c.if-in_comment.in_comment (drop (at + 1) bytes) ≡ gap_length true (drop (at + 1) bytes)
            = ap (λ b. gap_length b (drop (at + 1) bytes)) w.in_comment-is in
            omega (arith, so_far, old, new, comment_begins bytes at (search rules) (search rules))
        | else-in_comment+else-byte-eq35+else-not-is_space w ↦
            let old : gap_length c.loop-count.in_comment (drop at bytes) ≡ gap_length false (drop at bytes) =
            ap (λ b. gap_length b (drop at bytes)) w.if-in_comment.false in
            let new : gap_length c.if-in_comment.in_comment (drop (at + 1) bytes) ≡ gap_length false (drop (at + 1) bytes)
            = ap (λ b. gap_length b (drop (at + 1) bytes)) (w.in_comment-is ∙ w.if-in_comment.false) in
            omega (arith, so_far, old, new, space_more bytes at (search rules) (search rules) (search rules))
      ];
    }

pub returns-then-not-is_space-clause-gap : goal.returns-then-not-is_space-clause-gap
returns-then-not-is_space-clause-gap c =
    let end : gap_length false (drop c.loop-count.count c.args.bytes.now) ≡ 0 =
    gap_end c.args.bytes.now c.loop-count.count (search rules) (search rules) (search rules) in
    let gap : c.loop-count.count + gap_length false (drop c.loop-count.count c.args.bytes.now)
    ≡ gap_length false c.args.bytes.now = search rules in
    omega (arith, end, gap)

pub returns-clause-gap : goal.returns-clause-gap
returns-clause-gap c =
    omega (arith, gap_past c.loop-count.in_comment c.args.bytes.now c.loop-count.count (search rules), c.loop-count.invariant.gap)
