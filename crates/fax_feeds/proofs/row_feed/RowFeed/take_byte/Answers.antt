use Rattle.fax_feeds.proofs.Names.{common_steps}
use Rattle.fax_feeds.proofs.Names.{◌∙◌, ap, sym, bits_in, drop, length, arith, length-append, [], ◌∷◌, get_or}
use Rattle.fax_feeds.proofs.Readings.LooksKept.{seen_more, seen_there}
use Rattle.fax_feeds.proofs.Readings.PartsFed.{kept_longer}
use Rattle.std.proofs.lemmas.List.{drop-append-le}
use Rattle.std.proofs.lemmas.List.Concat.{flat_map-append}
use Rattle.fax_bits.specs.Bits.{bits_of_byte}
use Rattle.fax_feeds.specs.RowFeeds.{Feeding}
use Rattle.fax_bits.proofs.BitReading.BitLists.{length-bits_in}
use Rattle.fax_feeds.proofs.row_feed.RowFeed.take_byte.Goals as goal

pub invariant_of-self : goal.invariant_of-self
invariant_of-self c =
    let inside = c.self.inside in
    let old = c.self.invariant in
    let items = c.push_reserved.ensures.items in
    let next = get_or c.args.bytes.now 0 0 ∷ [] in
    let longer = ap length items ∙ length-append inside.«data».items next in
    record {
      within = omega (arith, longer, old.within);
      fit = omega (arith, longer, old.fit, c.len-kept.ensures, c.if-self-kept.false);
      unbegun = λ e. grind (arith, common_steps, old.unbegun e);
      seen = seen_there (ap (drop inside.place) (sym (ap (bits_in inside.order) items
          ∙ flat_map-append (bits_of_byte inside.order) inside.«data».items next)))
          (seen_more inside.place (bits_in inside.order inside.«data».items) (bits_in inside.order next)
          (omega (arith, old.within, length-bits_in inside.order inside.«data».items)) old.seen);
      bytes = old.bytes;
      line = old.line;
      over = old.over;
      counted = old.counted;
      unkept = old.unkept;
      last = old.last;
      part = grind (arith, common_steps, drop-append-le, length-bits_in, flat_map-append, kept_longer);
    }

pub returns-clause-few_read : goal.returns-clause-few_read
returns-clause-few_read c = λ e. (
  omega (arith, ap (λ (f : Feeding). f.place) c.self.view_is, c.if-bytes-ne1.false),
  omega (
    arith,
    ap (λ (f : Feeding). f.place) c.self.view_is,
    ap (λ (f : Feeding). length f.kept) c.self.view_is,
    c.self.invariant.within,
    length-bits_in c.self.inside.order c.self.inside.«data».items,
  ),
  length c.self.inside.«data».items,
  sym (ap (λ (f : Feeding). length f.kept) c.self.view_is) ∙ length-bits_in c.self.inside.order c.self.inside.«data».items,
)

pub returns-clause-fit : goal.returns-clause-fit
returns-clause-fit c = λ e. grind (arith, common_steps, length-bits_in)
