use Rattle.fax_feeds.proofs.Names.{◌≡◌, ◌∙◌, ◌*◌, ◌+◌, ◌/◌, ap, arith, bits_in, drop, length, length-drop, sym, ℕ}
use Rattle.std.proofs.lemmas.List.{take_rest}
use Rattle.fax_bits.proofs.BitReading.BitLists.{length-bits_in}
use Rattle.fax_feeds.specs.RowFeeds.{unused_size}
use Rattle.fax_feeds.proofs.Readings.FeedsHeld.{bits-dropped}
use Rattle.fax_feeds.proofs.Readings.ZerosUnused.{unused_kept}
use Rattle.fax_feeds.proofs.row_feed.RowFeed.copy_unused.Goals as goal

pub copy_from_slice-requires : goal.copy_from_slice-requires
copy_from_slice-requires c = omega (
  arith,
  c.requires.long,
  ap unused_size c.self.view_is,
  ap length (take_rest c.deref.result.now c.div_ceil.result),
  length-drop c.div_ceil.result c.deref.result.now,
  ap length c.deref.ensures.value,
  length-bits_in c.self.inside.order c.self.inside.«data».items,
  c.div_ceil.ensures,
  c.self.invariant.bytes,
  c.if-self-gt0.false,
)

pub returns-clause-copied : goal.returns-clause-copied
returns-clause-copied c =
    let items = c.self.inside.«data».items in
    let read = c.div_ceil.result in
    let there : 8 * read ≡ 8 * ((c.self.inside.place + 7) / 8) = omega (arith, c.div_ceil.ensures) in
    rw (← c.self.view_is) (λ e whole tried fed.
    ap (bits_in c.self.inside.order) (c.copy_from_slice.ensures.after ∙ take_rest c.deref.result.now read
    ∙ ap (drop read) c.deref.ensures.value)
    ∙ bits-dropped c.self.inside.order read items ∙ ap (λ (n : ℕ). drop n (bits_in c.self.inside.order items)) there
    ∙ sym (unused_kept fed c.self.invariant.bytes (omega (arith, c.if-self-gt0.false))))
