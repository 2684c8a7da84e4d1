use Rattle.fax_coding.proofs.Names.{◌≡◌, ◌-◌, ◌++◌, ℕ, List, [], OnOk, sym, subst, length, ◌∙◌, arith, eqb-true, nil_from_length}
use Rattle.fax_coding.proofs.Names.{White, chosen_run, chosen_runs, all_bits}
use Rattle.fax_coding.proofs.runs.put_row.Goals as goal

pub returns-then-is_empty : goal.returns-then-is_empty
returns-then-is_empty c =
    let none : c.args.changes.now ≡ []
    = nil_from_length c.args.changes.now (eqb-true (length c.args.changes.now) 0 (sym c.is_empty.ensures ∙ c.if-is_empty.true)) in
    let all : c.args.columns ≡ c.args.columns - 0 = omega arith in
    subst (λ (l : List ℕ). OnOk c.put_white_row.result (all_bits c.put_white_row.new.writer ≡ all_bits c.args.writer.now
    ++ chosen_runs c.args.columns White 0 l)) (sym none) (subst (λ (n : ℕ). OnOk c.put_white_row.result
    (all_bits c.put_white_row.new.writer ≡ all_bits c.args.writer.now ++ chosen_run White n)) all c.put_white_row.ensures)
