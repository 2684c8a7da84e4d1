use Rattle.std.proofs.Common.{◌≤◌, ◌<◌, ◌+◌, ◌*◌, ℕ, length, get_or, Bool}
use Rattle.hayro_ccitt.specs.BitOrder.{BitOrder}
use Rattle.hayro_ccitt.specs.EncodingMode.{EncodingMode}
use Rattle.fax_guess.specs.Guesses.{IsFound, IsSearchOf, cost_of, form_of}
use Rattle.fax_guess.specs.declared.forms.TheConstants.{FORMS}
use Rattle.fax_guess.proofs.search.Search.try_width.Given as goal

abbrev pub invariant-forms : goal.invariant-forms
invariant-forms l = record {
  found : IsSearchOf l.bytes l.self;
  count : length l.self.best.items ≤ l.form-index;
  paid : l.fn.self.left ≤ l.self.left + l.form-index * cost_of l.bytes;
  finds : 10 * cost_of l.bytes ≤ l.fn.self.left → (k : ℕ) → k < l.form-index → (form : EncodingMode × Bool × BitOrder)
      → IsFound l.columns l.bytes l.self.best.items (form_of (get_or FORMS k form));
}
