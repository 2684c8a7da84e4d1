use Rattle.fax_feeds.proofs.Names.{common_steps}
use Rattle.fax_feeds.proofs.Names.{◌≡◌, ◌∙◌, ◌++◌, ◌+◌, ◌-◌, ◌*◌, ◌/◌, ap, sym, refl, arith, length, length-drop}
use Rattle.fax_feeds.proofs.Names.{drop, drop-drop, bits_in, List, ℕ}
use Rattle.std.proofs.Math.Seq.{paste, take-append_seam}
use Rattle.std.proofs.lemmas.List.Edits.{paste_all}
use Rattle.fax_bits.proofs.BitReading.BitLists.{length-bits_in}
use Rattle.fax_feeds.proofs.Readings.FeedsHeld.{bits-dropped}
use Rattle.fax_feeds.proofs.Readings.LooksKept.{seen_there}
use Rattle.fax_feeds.proofs.Names.{subst}
use Rattle.fax_feeds.specs.RowFeeds.{IsCounted}
use Rattle.fax_feeds.proofs.row_feed.RowFeed.drop_read.Goals.{After-truncate}
use Rattle.fax_feeds.proofs.row_feed.RowFeed.drop_read.Goals as goal

-- bytes that are written over the first ones
paste_front : (over bytes : List ℕ) (n : ℕ) → n ≡ length bytes → paste over 0 bytes n ≡ bytes ++ drop n over
paste_front over bytes n whole = grind (arith, common_steps, paste_all, bytes)

-- the bytes that are left
module _ (c : After-truncate) where
  abbrev bytes : ℕ
  bytes = c.self.inside.place / 8

  abbrev items : List ℕ
  items = c.self.inside.«data».items

  pub items_left : c.truncate.new.self.items ≡ drop bytes items
  items_left = grind (arith, common_steps, length-drop, paste, take-append_seam, bytes, items, paste_front)

  pub bits_left : bits_in c.self.inside.order c.truncate.new.self.items ≡ drop (8 * bytes) (bits_in c.self.inside.order items)
  bits_left = ap (bits_in c.self.inside.order) items_left ∙ bits-dropped c.self.inside.order bytes items

pub invariant_of-self : goal.invariant_of-self
invariant_of-self c =
    let at = (goal.at.invariant_of-self c).After-truncate in
    let inside = c.self.inside in
    let bits = bits_in inside.order inside.«data».items in
    let place = inside.place - inside.place / 8 * 8 in
    let there : 8 * (inside.place / 8) + place ≡ inside.place = omega arith in
    let same : drop place (bits_in inside.order c.truncate.new.self.items) ≡ drop inside.place bits
    = ap (drop place) (bits_left at) ∙ drop-drop place (8 * (inside.place / 8)) bits ∙ ap (λ (n : ℕ). drop n bits) there in
    let kept = ap length (items_left at) ∙ length-drop (inside.place / 8) inside.«data».items in
    let old = c.self.invariant in
    record {
      within = omega (arith, kept, old.within);
      fit = omega (arith, kept, old.within, old.fit);
      unbegun = λ e.
          let was = old.unbegun e in
          record {
            fresh = was.fresh;
            start = omega (arith, was.start);
            unended = was.unended;
            rows = was.rows;
            unlooked = was.unlooked;
            some_follow = was.some_follow;
            narrow = was.narrow;
          };
      seen = seen_there (sym same) old.seen;
      bytes = omega (arith, old.bytes);
      line = old.line;
      over = old.over;
      counted = subst (IsCounted inside.gap) (omega arith) old.counted;
      unkept = old.unkept;
      last = old.last;
      part = grind (arith, common_steps);
    }

pub returns-then-bytes-eq0 : goal.returns-then-bytes-eq0
returns-then-bytes-eq0 c =
    rw (← c.self.view_is) (record {
      bytes = 0;
      read = omega arith;
      kept = refl;
      dropped = omega arith;
      place = omega arith;
      few_read = omega arith;
      looked = refl;
      gap = refl;
      within = omega (arith, c.self.invariant.within, length-bits_in c.self.inside.order c.self.inside.«data».items);
      ctx = refl;
      rows = refl;
      order = refl;
      begun = refl;
      finished = refl;
      part = refl;
      line_read = refl;
      tried_at = refl;
      room = refl;
    })

pub returns : goal.returns
returns c =
    let at = (goal.at.returns c).After-truncate in
    rw (← c.self.view_is) (record {
      bytes = c.self.inside.place / 8;
      read = omega arith;
      kept = bits_left at;
      dropped = omega arith;
      place = omega arith;
      few_read = omega arith;
      looked = refl;
      gap = refl;
      within = omega (arith, c.self.invariant.within, length-bits_in c.self.inside.order c.self.inside.«data».items);
      ctx = refl;
      rows = refl;
      order = refl;
      begun = refl;
      finished = refl;
      part = refl;
      line_read = refl;
      tried_at = refl;
      room = at.truncate.ensures.capacity ∙ at.copy_within.ensures.capacity;
    })
