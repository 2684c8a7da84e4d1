-- Bits that are passed, one after another, and what departs after them.
use Rattle.hayro_ccitt.proofs.Names.{◌≡◌, ◌≤◌, ℕ, Result, Ok, Err, IfErr, [], ◌++◌, refl, ap, sym, subst, ◌∙◌, append_assoc}
use Rattle.hayro_ccitt.proofs.Names.{length, drop, Bits, BitsAt, Row, here}
use Rattle.fax_conforms.specs.declared.stops.Rule.{Rule}
use Rattle.fax_conforms.specs.declared.stops.Violation as at
use Rattle.fax_conforms.specs.declared.stops.Stop.{Stop}
use Rattle.fax_conforms.specs.Standing.{Leads, Passes}
use Rattle.fax_conforms.specs.Stops.{Breaks, Departs, EndsAt}
use Rattle.fax_conforms.proofs.LinesEnd.{leads_on}

-- ---- What is passed.
pub passes_now : {P Q : Bits → Row → Bits → Type 0} (columns : ℕ) (start next : Bits) → Passes columns P Q start next
    → Leads columns (P start) (Q next)
passes_now {P = P} {Q = Q} columns start next p =
    subst (λ (x : Bits). Leads columns (P x) (Q next)) (sym p.is) (p.leads next)

pub passes_on : {P Q R : Bits → Row → Bits → Type 0} (columns : ℕ) (start middle next : Bits) → Passes columns P Q start middle
    → Passes columns Q R middle next → Passes columns P R start next
passes_on {P = P} {Q = Q} {R = R} columns start middle next p q = record {
  passed = p.passed ++ q.passed;
  is = p.is ∙ ap (λ (x : Bits). p.passed ++ x) q.is ∙ sym (append_assoc p.passed q.passed next);
  leads = λ more. subst (λ (x : Bits). Leads columns (P x) (R more)) (sym (append_assoc p.passed q.passed more))
      (leads_on {P = P (p.passed ++ (q.passed ++ more))} {Q = Q (q.passed ++ more)} {R = R more} columns
      (p.leads (q.passed ++ more)) (q.leads more));
}

pub passes_all : {P Q : Bits → Row → Bits → Type 0} (columns : ℕ) (start : Bits) → ((more : Bits) → Leads columns (P more) (Q
    more))
    → Passes columns P Q start start
passes_all columns start leads = record { passed = []; is = refl; leads = leads }

-- ---- What departs after it.
module _ {P Q : Bits → Row → Bits → Type 0} (columns : ℕ) (bits start next : Bits) (p : Passes columns P Q start next) where
  departs_after : (found : at.Violation) → Departs columns Q bits next found → Departs columns P bits start found
  departs_after found d =
      let joined : (more : Bits) → (p.passed ++ d.passed) ++ more ≡ p.passed ++ (d.passed ++ more) =
      λ more. append_assoc p.passed d.passed more in
      let (row, more, len, stands) = d.begins in
      record {
        within = d.within;
        passed = p.passed ++ d.passed;
        is = p.is ∙ ap (λ (x : Bits). p.passed ++ x) d.is ∙ sym (joined (drop found.place bits));
        begins = (
          row,
          more,
          len,
          subst (λ (x : Bits). P x row []) (sym (joined more)) ((p.leads (d.passed ++ more) row [] len).1 stands),
        );
        otherwise = λ row more rest len stands. d.otherwise row more rest len
            ((p.leads (d.passed ++ more) row rest len).0 (subst (λ (x : Bits). P x row rest) (joined more) stands));
      }

  pub stop_after : (stop : Stop) → EndsAt columns Q bits next stop → EndsAt columns P bits start stop
  stop_after (Stop.Violation found) ends = departs_after found ends
  stop_after Stop.OutOfMemory ends = tt

  pub ends_after : {T : Type 0} (r : Result T Stop) → IfErr r (EndsAt columns Q bits next) → IfErr r (EndsAt columns P bits start)
  ends_after (Ok x) ends = tt
  ends_after (Err stop) ends = stop_after stop ends

-- ---- What departs here.
pub departs_at : {P : Bits → Row → Bits → Type 0} (columns : ℕ) (bits : Bits) (place : ℕ) (rule : Rule) → place ≤ length bits
    → (row : Row) × (more : Bits) × (length row ≡ columns) × P more row []
    → ((row : Row) (more rest : Bits) → length row ≡ columns → P more row rest → Breaks rule place (drop place bits) more)
    → Departs columns P bits (drop place bits) (record { place = place; rule = rule })
departs_at columns bits place rule within begins otherwise =
    record { within = within; passed = []; is = refl; begins = begins; otherwise = otherwise }

pub ends_at : {T : Type 0} {P : Bits → Row → Bits → Type 0} (r : Result T Stop) (columns : ℕ) (bits : Bits) (place : ℕ) (rule :
    Rule)
    → r ≡ Err (Stop.Violation (record { place = place; rule = rule })) → place ≤ length bits
    → (row : Row) × (more : Bits) × (length row ≡ columns) × P more row []
    → ((row : Row) (more rest : Bits) → length row ≡ columns → P more row rest → Breaks rule place (drop place bits) more)
    → IfErr r (EndsAt columns P bits (drop place bits))
ends_at {T = T} {P = P} r columns bits place rule is within begins otherwise =
    subst (λ (s : Result T Stop). IfErr s (EndsAt columns P bits (drop place bits))) (sym is)
    (departs_at {P = P} columns bits place rule within begins otherwise)

-- where a reader is
pub ends_here : {T : Type 0} {P : Bits → Row → Bits → Type 0} (r : Result T Stop) (columns : ℕ) (reader : BitsAt) (place : ℕ)
    (rule : Rule) → r ≡ Err (Stop.Violation (record { place = place; rule = rule })) → place ≡ reader.place
    → place ≤ length reader.bits → (row : Row) × (more : Bits) × (length row ≡ columns) × P more row []
    → ((row : Row) (more rest : Bits) → length row ≡ columns → P more row rest → Breaks rule place (here reader) more)
    → IfErr r (EndsAt columns P reader.bits (here reader))
ends_here {T = T} {P = P} r columns reader place rule is same within begins otherwise =
    subst (λ (n : ℕ). IfErr r (EndsAt columns P reader.bits (drop n reader.bits))) same
    (ends_at {P = P} r columns reader.bits place rule is within begins (λ row more rest len stands.
    subst (λ (n : ℕ). Breaks rule place (drop n reader.bits) more) (sym same) (otherwise row more rest len stands)))

-- what ends within the same bits
pub ends_in : {T : Type 0} (P : Bits → Row → Bits → Type 0) (r : Result T Stop) (columns : ℕ) (bits others start : Bits)
    → others ≡ bits → IfErr r (EndsAt columns P others start) → IfErr r (EndsAt columns P bits start)
ends_in P r columns bits others start same ends =
    subst (λ (b : Bits). IfErr r (EndsAt columns P b start)) same ends

pub stop_in : (P : Bits → Row → Bits → Type 0) (columns : ℕ) (bits others start : Bits) (stop : Stop) → others ≡ bits
    → EndsAt columns P others start stop → EndsAt columns P bits start stop
stop_in P columns bits others start stop same ends = subst (λ (b : Bits). EndsAt columns P b start stop) same ends
