use Rattle.fax_encode.proofs.Names.{◌≡◌, ◌∷◌, ◌++◌, [], false, leb, length, sym, ap, ◌∙◌, append_assoc, append-nil, Bits, pixels}
use Rattle.fax_encode.proofs.Names.{line_1d, line_2d, all_bits, refl}
use Rattle.fax_encode.proofs.encoding.put_if_shorter.Goals.{After-line_1d_takes_at_least}
use Rattle.fax_encode.proofs.LinesByK.{shorter_is, marked_within, cut_to_mark}
use Rattle.fax_encode.proofs.encoding.put_if_shorter.Goals as goal

answered : (c : After-line_1d_takes_at_least) → c.line_1d_takes_at_least.result
    ≡ leb (length (line_2d c.args.effort (pixels c.args.columns c.args.rows.reference.now)
    (pixels c.args.columns c.args.rows.changes.now)))
    (length (line_1d c.args.effort (pixels c.args.columns c.args.rows.changes.now)))
answered c = shorter_is (all_bits c.put.new.self) (all_bits c.put_line_2d.new.writer) _ _ _ c.bit_count-start.result
    c.bit_count.result c.line_1d_takes_at_least.result c.in_ok-put_line_2d.ensures c.bit_count-start.ensures c.bit_count.ensures
    refl c.line_1d_takes_at_least.ensures

pub returns-then-line_1d_takes_at_least-clause-shorter : goal.returns-then-line_1d_takes_at_least-clause-shorter
returns-then-line_1d_takes_at_least-clause-shorter c =
    sym c.if-line_1d_takes_at_least.true
    ∙ answered (goal.at.returns-then-line_1d_takes_at_least-clause-shorter c).After-line_1d_takes_at_least

pub returns-clause-shorter : goal.returns-clause-shorter
returns-clause-shorter c = sym c.if-line_1d_takes_at_least.false
    ∙ answered (goal.at.returns-clause-shorter c).After-line_1d_takes_at_least

-- the tag and the line
tag_and_line : (c : After-line_1d_takes_at_least) → all_bits c.put_line_2d.new.writer ≡ all_bits c.args.writer.now
    ++ (false ∷ line_2d c.args.effort (pixels c.args.columns c.args.rows.reference.now)
    (pixels c.args.columns c.args.rows.changes.now))
tag_and_line c =
    let line : Bits = line_2d c.args.effort (pixels c.args.columns c.args.rows.reference.now)
    (pixels c.args.columns c.args.rows.changes.now) in
    c.in_ok-put_line_2d.ensures ∙ ap (λ (b : Bits). b ++ line) c.in_ok-put.ensures
    ∙ append_assoc (all_bits c.args.writer.now) (false ∷ []) line

pub cut_back-requires : goal.cut_back-requires
cut_back-requires c = marked_within c.args.writer.now c.mark-mark.result (all_bits c.put_line_2d.new.writer) _ c.mark-mark.ensures
    (tag_and_line (goal.at.cut_back-requires c).After-line_1d_takes_at_least)

pub returns-clause-written : goal.returns-clause-written
returns-clause-written c = cut_to_mark c.args.writer.now c.mark-mark.result
    (all_bits c.put_line_2d.new.writer) _ c.mark-mark.ensures
    (tag_and_line (goal.at.returns-clause-written c).After-line_1d_takes_at_least)
    (all_bits c.cut_back.new.self) c.cut_back.ensures
    ∙ sym (append-nil (all_bits c.args.writer.now))
