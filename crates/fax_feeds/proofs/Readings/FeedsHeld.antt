-- Rows from data that comes in pieces: a feed of which bytes are dropped, and to which bytes are fed.
use Rattle.fax_feeds.proofs.Names.{common_steps, ◌≡◌, ◌∙◌, ◌+◌, ◌*◌, ◌≤◌, ◌++◌, ℕ, Bool, true, false}
use Rattle.fax_feeds.proofs.Names.{sym, ap, subst}
use Rattle.fax_feeds.proofs.Names.{arith, drop, length, length-append, length-drop, append_assoc, false≢true, zero, suc, [], ◌∷◌}
use Rattle.fax_feeds.proofs.Names.{Bits, Context, bits_in, List, refl}
use Rattle.std.proofs.Math.Seq.{drop-append-add, drop-length, drop-nil}
use Rattle.std.proofs.lemmas.List.{nil_from_length}
use Rattle.fax_bits.proofs.BitReading.BitLists.{length-bits_of_byte}
use Rattle.fax_bits.specs.Bits.{bits_of_byte}
use Rattle.fax_bits.specs.declared.bit_reader.BitOrder.{BitOrder}
use Rattle.fax_rows.specs.RowsTried.{CanCome}
use Rattle.fax_rows.specs.declared.row_reader.RowState.{RowState}
use Rattle.fax_feeds.specs.declared.counted_gaps.GapSoFar.{GapSoFar}
use Rattle.fax_feeds.specs.RowFeeds.{ComeNext, DropsRead, Feeding, IsFeedOf, KnowsGap, LacksEol, LieIn, StandsIn}
use Rattle.fax_feeds.specs.RowFeeds.{fed_bits, offset_of}
use Rattle.fax_feeds.proofs.Readings.RowsFed.{from_place, place_within}

-- the bits of bytes, without those of the first ones
pub bits-dropped : (order : BitOrder) (bytes : ℕ) (items : List ℕ) → bits_in order (drop bytes items) ≡ drop (8 * bytes)
    (bits_in order items)
bits-dropped order zero items = refl
bits-dropped order (suc bytes) [] = sym (drop-nil (8 * suc bytes))
bits-dropped order (suc bytes) (byte ∷ items) =
    let next : 8 * suc bytes ≡ length (bits_of_byte order byte) + 8 * bytes = omega (arith, length-bits_of_byte order byte) in
    bits-dropped order bytes items ∙ sym (drop-append-add (bits_of_byte order byte) (bits_in order items) (8 * bytes))
    ∙ ap (λ (n : ℕ). drop n (bits_in order (byte ∷ items))) (sym next)

-- A feed of the same reading at the same offset, which holds bits of the same data, and isn't finished unless it was.
module _ {whole : Bits} {tried : ℕ} {old : Feeding} (new : Feeding) (ctx : new.ctx ≡ old.ctx) (rows : new.rows ≡ old.rows)
    (begun : new.begun ≡ old.begun) (gap : new.gap ≡ old.gap) (there : new.dropped + new.place ≡ old.dropped + old.place)
    (last : old.finished ≡ true → new.finished ≡ true) (feed : IsFeedOf whole tried old) where
  same_offset : offset_of new ≡ offset_of old
  same_offset = omega (arith, there, ap (λ (g : GapSoFar). g.passed) gap)

  still_stands : StandsIn new.begun tried new.rows new.ctx (record { bits = whole; place = offset_of new })
  still_stands =
      subst (λ (b : Bool). StandsIn b tried new.rows new.ctx (record { bits = whole; place = offset_of new })) (sym begun)
      (subst (λ (r : RowState). StandsIn old.begun tried r new.ctx (record { bits = whole; place = offset_of new })) (sym rows)
      (subst (λ (x : Context). StandsIn old.begun tried old.rows x (record { bits = whole; place = offset_of new })) (sym ctx)
      (subst (λ (n : ℕ). StandsIn old.begun tried old.rows old.ctx (record { bits = whole; place = n })) (sym same_offset)
      feed.stands)))

  still_known : KnowsGap whole new
  still_known = let known = feed.known in record {
    gone = known.gone;
    are = ap (λ (n : ℕ). drop n whole) same_offset ∙ known.are
        ∙ ap (λ (n : ℕ). known.gone ++ drop n whole) (sym there);
    place = omega (arith, known.place, same_offset, there);
    long = known.long ∙ sym (ap (λ (g : GapSoFar). g.passed) gap);
    counted = λ e. grind (arith, common_steps, known.counted);
    zeros = λ e. grind (arith, common_steps, known.zeros, same_offset);
    missed = λ some.
        let there = known.missed (omega (arith, some, ap (λ (g : GapSoFar). g.look.bits) gap)) in (
          begun ∙ there.0,
          subst (λ (x : Context). LacksEol x.held (drop (offset_of new) whole)) (sym ctx)
              (subst (λ (n : ℕ). LacksEol old.ctx.held (drop n whole)) (sym same_offset) there.1),
        );
  }

  pub held_on : LieIn whole new.dropped new.finished new.kept → IsFeedOf whole tried new
  held_on lie = record { fit = feed.fit; lie = lie; stands = still_stands; known = still_known }

-- the reading is the same without the bytes that were read
pub drops_read : {whole : Bits} {tried : ℕ} {old new : Feeding} → DropsRead old new → IsFeedOf whole tried old
    → IsFeedOf whole tried new
drops_read {whole} {tried} {old} {new} drops feed =
    let lie = feed.lie in
    let enough : 8 * drops.bytes ≤ length old.kept = omega (arith, drops.read, drops.within) in
    held_on new drops.ctx drops.rows drops.begun drops.gap (omega (arith, drops.dropped, drops.place))
    (λ last. drops.finished ∙ last) feed (record {
      within = omega (arith, drops.dropped, place_within lie (8 * drops.bytes) enough);
      more = lie.more;
      bits = ap (λ (n : ℕ). drop n whole) drops.dropped ∙ from_place lie (8 * drops.bytes) enough
          ∙ ap (λ (b : Bits). b ++ lie.more) (sym drops.kept);
      can_come = subst (λ (b : Bool). CanCome b lie.more) (sym drops.finished) lie.can_come;
    })

-- more bits are kept
pub feeds_more : {whole : Bits} {tried : ℕ} {old new : Feeding} (next : Bits) (room : ℕ)
    → new ≡ record old { kept = old.kept ++ next; room = room } → old.finished ≡ false → IsFeedOf whole tried old
    → ComeNext whole old next → IsFeedOf whole tried new
feeds_more {whole} {tried} {old} {new} next room is unfinished feed come =
    subst (IsFeedOf whole tried) (sym is) (held_on (record old { kept = old.kept ++ next; room = room }) refl refl refl refl refl
    (λ last. last) feed (record {
      within = feed.lie.within;
      more = come.rest;
      bits = feed.lie.bits ∙ ap (λ (b : Bits). old.kept ++ b) (sym rest_is ∙ come.bits) ∙ sym
          (append_assoc old.kept next come.rest);
      can_come = record { bytes = come.bytes; none = λ last. absurd (false≢true (sym unfinished ∙ last)) };
    }))
  where
    rest_is : drop (old.dropped + length old.kept) whole ≡ feed.lie.more
    rest_is = from_place feed.lie (length old.kept) (omega arith) ∙ ap (λ (b : Bits). b ++ feed.lie.more) (drop-length old.kept)

-- dropping bytes that were read leaves the count of those fed
pub drops_none_fed : {old new : Feeding} → DropsRead old new → fed_bits new ≡ fed_bits old
drops_none_fed {old} {new} drops = grind (arith, common_steps, length-drop)

-- they come next also once bytes are dropped
pub come_next : {whole : Bits} {old new : Feeding} {next : Bits} → DropsRead old new → ComeNext whole old next
    → ComeNext whole new next
come_next {whole} {old} {new} drops come = grind (arith, common_steps, drops_none_fed)

-- the data is finished
pub feed_finished : {whole : Bits} {tried : ℕ} {old new : Feeding} → new ≡ record old { finished = true }
    → IsFeedOf whole tried old
    → length whole ≡ old.dropped + length old.kept → IsFeedOf whole tried new
feed_finished {whole} {tried} {old} {new} is feed all =
    subst (IsFeedOf whole tried) (sym is) (held_on (record old { finished = true }) refl refl refl refl refl (λ last. refl) feed
    (record {
      within = feed.lie.within;
      more = feed.lie.more;
      bits = feed.lie.bits;
      can_come = record { bytes = feed.lie.can_come.bytes; none = λ last. nil_from_length feed.lie.more none };
    }))
  where
    none : length feed.lie.more ≡ 0
    none = omega (
      arith,
      all,
      feed.lie.within,
      ap length feed.lie.bits,
      length-drop old.dropped whole,
      length-append old.kept
          feed.lie.more,
    )
