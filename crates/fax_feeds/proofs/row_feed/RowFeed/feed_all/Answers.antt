use Rattle.fax_feeds.proofs.Names.{common_steps}
use Rattle.std.specs.Prelude.{vec_capacity}
use Rattle.fax_feeds.proofs.Names.{◌≡◌, ◌∙◌, ◌++◌, ◌*◌, ap, sym, subst, bits_in, Bits, List, ℕ, err_from_is_err_and}
use Rattle.fax_bits.specs.declared.error.DecodeError.{DecodeError}
use Rattle.fax_bits.specs.declared.error.DecodeError.TheVariants.{OutOfMemory, Overflow}
use Rattle.fax_feeds.proofs.Names.{Err, Result, ◌+◌, ◌<◌, arith, length, length-drop}
use Rattle.std.specs.Prelude.{◌^◌}
use Rattle.fax_feeds.proofs.Readings.BitsHeld.{holds_more, holds_none}
use Rattle.fax_feeds.proofs.Names.{drop, length-append}
use Rattle.fax_feeds.proofs.Readings.FeedsHeld.{come_next, drops_none_fed, drops_read, feeds_more}
use Rattle.fax_feeds.proofs.Readings.LooksKept.{seen_more, seen_there}
use Rattle.fax_feeds.proofs.Readings.PartsFed.{kept_longer}
use Rattle.std.proofs.lemmas.List.{drop-append-le}
use Rattle.std.proofs.lemmas.List.Concat.{flat_map-append}
use Rattle.fax_bits.specs.declared.bit_reader.BitOrder.{BitOrder}
use Rattle.fax_bits.specs.Bits.{bits_of_byte}
use Rattle.fax_feeds.specs.RowFeeds.{Feeding, IsFeedOf, fed_bits, feeding_of}
use Rattle.fax_bits.proofs.BitReading.BitLists.{length-bits_in}
use Rattle.fax_feeds.proofs.row_feed.RowFeed.feed_all.Goals.{then-bytes-kept-via-then-bytes-kept}
use Rattle.fax_feeds.proofs.row_feed.RowFeed.feed_all.Goals.{then-bytes-kept-via-else-bytes-kept+then-self-kept}
use Rattle.fax_feeds.proofs.row_feed.RowFeed.feed_all.Goals.{After-append}
use Rattle.fax_feeds.proofs.row_feed.RowFeed.feed_all.Goals as goal

-- the same bytes, and room for as many
same_bytes_and_room : (view : Feeding) (order : BitOrder) {now was : List ℕ} {room : ℕ} → now ≡ was → room ≡ view.room
    → record view { kept = bits_in order now; room = room } ≡ record view { kept = bits_in order was }
same_bytes_and_room view order {was = was} {room = room} items same = grind (arith, common_steps)

pub returns-then-bytes-kept-clause-refused : goal.returns-then-bytes-kept-clause-refused
returns-then-bytes-kept-clause-refused c whole tried feed = drops_read c.drop_read.ensures feed

pub returns-in_err-append-clause-refused :
    goal.returns-in_err-append-clause-refused
returns-in_err-append-clause-refused c =
    let answer = err_from_is_err_and c.from_residual.result c.from_residual.ensures.1 in
    let inside = c.self.inside in
    let same = same_bytes_and_room (feeding_of inside) inside.order c.in_err-append.ensures.items c.in_err-append.ensures.left
    ∙ c.self.view_is in
    rw answer.1 (λ whole tried feed. subst (IsFeedOf whole tried) (sym same) (drops_read c.drop_read.ensures feed))

pub returns-clause-fed : goal.returns-clause-fed
returns-clause-fed c whole tried feed come =
    let inside = c.self.inside in
    let mid = c.drop_read.new.self in
    let view = feeding_of inside in
    let order : c.args.self.now.order ≡ inside.order
    = sym c.drop_read.ensures.order ∙ ap (λ (f : Feeding). f.order) (sym c.self.view_is) in
    let next = bits_in c.args.self.now.order c.args.bytes.now in
    let longer = ap (bits_in inside.order) c.in_ok-append.ensures.items
    ∙ flat_map-append (bits_of_byte inside.order) inside.«data».items c.args.bytes.now
    ∙ ap (λ (o : BitOrder). bits_in inside.order inside.«data».items ++ bits_in o c.args.bytes.now) (sym order) in
    let room = vec_capacity c.append.new.«data» in
    let is = ap (λ (b : Bits). record view { kept = b; room = room }) longer
    ∙ ap (λ (f : Feeding). record f { kept = f.kept ++ next; room = room }) c.self.view_is in
    feeds_more next room is (c.drop_read.ensures.finished ∙ c.requires.unfinished) (drops_read c.drop_read.ensures feed)
    (come_next c.drop_read.ensures come)

pub returns-then-bytes-kept-clause-kept : goal.returns-then-bytes-kept-clause-kept
returns-then-bytes-kept-clause-kept c = grind (arith, common_steps, holds_none)

pub returns-in_err-append-clause-kept : goal.returns-in_err-append-clause-kept
returns-in_err-append-clause-kept c =
    grind (
      arith,
      common_steps,
      err_from_is_err_and,
      holds_none,
      same_bytes_and_room (feeding_of c.self.inside) c.self.inside.order c.in_err-append.ensures.items
          c.in_err-append.ensures.left,
    )

pub returns-clause-held : goal.returns-clause-held
returns-clause-held c = grind (arith, common_steps, flat_map-append, holds_more, length-append, length-bits_in)

pub returns-then-bytes-kept-clause-too_long : goal.returns-then-bytes-kept-clause-too_long
returns-then-bytes-kept-clause-too_long c = grind (arith, common_steps, length-bits_in, length-drop)

-- an allocation failure isn't a length
not_long : (answer : Result (Unit {0}) DecodeError) (error : DecodeError) → answer ≡ Err error → error ≡ OutOfMemory
    → answer ≡ Err Overflow → ⊥
not_long answer error is memory e = cc

pub returns-in_err-append-clause-too_long : goal.returns-in_err-append-clause-too_long
returns-in_err-append-clause-too_long c =
    let answer = err_from_is_err_and c.from_residual.result c.from_residual.ensures.1 in
    let inside = c.self.inside in
    let drops = c.drop_read.ensures in
    let kept = length-bits_in inside.order inside.«data».items in
    let left = ap (λ (f : Feeding). length f.kept) c.self.view_is ∙ ap length drops.kept
    ∙ length-drop (8 * drops.bytes) c.args.self.now.kept in
    let dropped = ap (λ (f : Feeding). f.dropped) c.self.view_is in
    rw answer.1 (
      λ e. absurd (not_long c.from_residual.result answer.0 answer.1 (answer.2 ∙ c.in_err-append.ensures.only) (answer.1 ∙ e)),
      λ more. absurd (omega (
        arith,
        more,
        kept,
        left,
        dropped,
        drops.dropped,
        drops.read,
        drops.place,
        drops.within,
        c.len-kept.ensures,
        c.if-bytes-kept.false,
        c.if-self-kept.false,
      )),
    )

pub returns-clause-too_long : goal.returns-clause-too_long
returns-clause-too_long c = grind (arith, common_steps, length-bits_in, length-drop)

pub invariant_of-self-2 : goal.invariant_of-self-2
invariant_of-self-2 c =
    let inside = c.self.inside in
    let old = c.self.invariant in
    let items = c.in_ok-append.ensures.items in
    let longer = ap length items ∙ length-append inside.«data».items c.args.bytes.now in
    record {
      within = omega (arith, longer, old.within);
      fit = grind (arith, common_steps);
      unbegun = λ e. grind (arith, common_steps, old.unbegun e);
      seen = seen_there (ap (drop inside.place) (sym (ap (bits_in inside.order) items
          ∙ flat_map-append (bits_of_byte inside.order) inside.«data».items c.args.bytes.now)))
          (seen_more inside.place (bits_in inside.order inside.«data».items) (bits_in inside.order c.args.bytes.now)
          (omega (arith, old.within, length-bits_in inside.order inside.«data».items)) old.seen);
      bytes = old.bytes;
      line = old.line;
      over = old.over;
      counted = old.counted;
      unkept = old.unkept;
      last = old.last;
      part = grind (arith, common_steps, drop-append-le, length-bits_in, flat_map-append, kept_longer);
    }

pub returns-clause-counts : goal.returns-clause-counts
returns-clause-counts c = grind (arith, common_steps, drops_none_fed, length-bits_in, length-append)

-- the bits fit, where the bytes are no more than there is room for
fits : (c : After-append) → fed_bits c.args.self.now + 8 * length c.args.bytes.now + 64 < 2 ^ 64
fits c = grind (arith, common_steps, drops_none_fed, length-bits_in)

pub returns-in_err-append-clause-fit : goal.returns-in_err-append-clause-fit
returns-in_err-append-clause-fit c = λ e.
    fits (goal.at.returns-in_err-append-clause-fit c).After-append

pub returns-clause-fit : goal.returns-clause-fit
returns-clause-fit c = λ e. fits (goal.at.returns-clause-fit c).After-append
