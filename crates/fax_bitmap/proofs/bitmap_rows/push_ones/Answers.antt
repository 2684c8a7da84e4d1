use Rattle.fax_bitmap.proofs.Names.{◌++◌, List, ℕ, sym, ap, ◌∙◌, append-nil}
use Rattle.fax_bitmap.proofs.ScannedWords.{ones-none}
use Rattle.fax_bitmap.proofs.bitmap_rows.push_ones.Goals as goal

pub returns-then-word-eq0 : goal.returns-then-word-eq0
returns-then-word-eq0 c = sym (ap (λ (l : List ℕ). c.args.list.now.items ++ l)
    (ones-none c.args.first c.args.count c.args.word c.if-word-eq0.true) ∙ append-nil c.args.list.now.items)
