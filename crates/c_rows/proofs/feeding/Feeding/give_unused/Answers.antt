use Rattle.std.proofs.Common.{◌≡◌, ◌∙◌, ◌++◌, true, ℕ, ap, arith, drop, inl, length, length-append, refl, rules, subst, sym, take}
use Rattle.std.proofs.Math.Seq.{take-append_seam}
use Rattle.std.proofs.lemmas.Bool.{false≢true}
use Rattle.std.proofs.lemmas.Slice.{drop-append-drop}
use Rattle.hayro_ccitt.specs.Bits.{bits_in}
use Rattle.hayro_ccitt.specs.RowFeeds.{keeps_unused}
use Rattle.c_rows.proofs.feeding.Feeding.give_unused.Goals as goal

pub returns : goal.returns
returns c =
    let left = c.unused_len-left.result in
    let copied = c.copy_unused.new.bytes in
    let rest = drop left c.args.bytes.now in
    let size : length copied ≡ left = search rules in
    let kept : keeps_unused c.args.self.now.rows ≡ true = search rules in
    record {
      statuses = inl refl;
      size = c.unused_len-left.ensures;
      given = λ _ whole tried fed. ap (bits_in c.args.self.now.rows.order)
          (subst (λ (n : ℕ). take n (copied ++ rest) ≡ copied) size (take-append_seam copied rest))
          ∙ c.copy_unused.ensures.copied (c.copy_unused.ensures.kept ∙ kept) whole tried fed;
      rest = drop-append-drop left c.args.bytes.now copied left (omega arith) size;
      waits = (λ e. absurd (omega (arith, e)), λ none. absurd (false≢true (sym none ∙ kept)));
      refused = (λ e. absurd (omega (arith, e)), λ few. absurd (omega (arith, few.1, size, length-append copied rest)));
      unended = λ e. absurd (omega (arith, e));
      unwritten = λ other. absurd (other refl);
    }
