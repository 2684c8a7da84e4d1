use Rattle.std.proofs.Common.{arith, ◌≡◌, ◌∙◌, ◌<◌, ap, length, Bool, get_or}
use Rattle.std.proofs.lemmas.List.{get_or_default}
use Rattle.hayro_ccitt.specs.BitOrder.{BitOrder}
use Rattle.hayro_ccitt.specs.EncodingMode.{EncodingMode}
use Rattle.fax_guess.specs.Guesses.{cost_of, form_of}
use Rattle.fax_guess.specs.declared.forms.TheConstants.{FORMS}
use Rattle.fax_guess.proofs.FoundForms.{finds_all, one_more_found, paid_more, some_left}
use Rattle.fax_guess.proofs.search.Search.try_width.Goals as goal

pub forms-preserved : goal.forms-preserved
forms-preserved c =
    let bytes = c.args.bytes.now in
    let index = c.forms.form-index in
    let was = c.forms.invariant in
    let tried = c.in_ok-try_form.ensures in
    let within : index < 10 = omega (arith, c.forms-test.true) in
    let some : 0 < cost_of bytes = omega arith in
    let few : length c.forms.self.best.items < 10 = omega (arith, was.count, within) in
    let is : (f : EncodingMode × Bool × BitOrder) → c.of.result ≡ form_of (get_or FORMS index f) =
    λ f. c.of.ensures ∙ ap form_of (get_or_default FORMS index _ f within) in
    record {
      found = c.try_form.ensures.found;
      count = omega (arith, tried.count, was.count);
      paid = paid_more c.args.self.now.left c.forms.self.left _ index (cost_of bytes) was.paid tried.paid;
      finds = λ enough.
          let left = some_left c.args.self.now.left c.forms.self.left index (cost_of bytes) enough was.paid within some in
          one_more_found c.args.columns bytes c.forms.self.best.items _ index c.of.result within (tried.keeps few)
          (was.finds enough) is (tried.finds left few (omega arith));
    }

pub returns-clause-finds : goal.returns-clause-finds
returns-clause-finds c = λ enough.
    finds_all c.args.columns c.args.bytes.now c.forms.self.best.items
    (λ k within form. c.forms.invariant.finds enough k (omega (arith, within, c.forms-test.false)) form)
