-- What is left of the data behind the zeros with which it ends, and behind bits that are kept.
use Rattle.fax_feeds.proofs.Names.{◌≡◌, ◌≢◌, ◌∙◌, ◌+◌, ◌-◌, ◌*◌, ◌/◌, ◌<◌, ◌≤◌, ◌++◌, ◌∷◌, [], ℕ, Bool, true, false, zero, suc}
use Rattle.fax_feeds.proofs.Names.{Bits, ap, arith, bits_in, drop, drop-drop, length, length-append, length-drop, refl, replicate}
use Rattle.fax_feeds.proofs.Names.{sym, take, append-nil}
use Rattle.std.specs.Prelude.{◌%◌, slice_set}
use Rattle.std.proofs.Math.Seq.{take-length}
use Rattle.std.proofs.lemmas.List.{drop-replicate, length-replicate, replicate-append-replicate}
use Rattle.fax_bits.specs.Bits.{bits_of_byte}
use Rattle.fax_bits.specs.declared.bit_reader.BitOrder.{BitOrder}
use Rattle.fax_bits.specs.declared.bit_reader.BitOrder.TheVariants.{HighestFirst, LowestFirst}
use Rattle.fax_rows.specs.GapsCounted.{behind_tag}
use Rattle.fax_feeds.specs.RowFeeds.{Feeding, IsFeedOf, completed, fed_bits, offset_of, unused, unused_size}
use Rattle.fax_feeds.proofs.Readings.FeedsCompleted.{known_from}

-- ---- Bytes of zeros

zero_byte : (order : BitOrder) → bits_of_byte order 0 ≡ replicate 8 false
zero_byte HighestFirst = refl
zero_byte LowestFirst = refl

-- their bits are zeros
pub bits_of_zeros : (order : BitOrder) (n : ℕ) → bits_in order (replicate n 0) ≡ replicate (8 * n) false
bits_of_zeros order zero = refl
bits_of_zeros order (suc n) =
    ap (λ (b : Bits). b ++ bits_in order (replicate n 0)) (zero_byte order)
    ∙ ap (λ (b : Bits). replicate 8 false ++ b) (bits_of_zeros order n)
    ∙ replicate-append-replicate 8 (8 * n) false
    ∙ ap (λ (m : ℕ). replicate m false) (omega arith)

-- so are those after a byte of which the first bit alone is one
pub bits_of_one : (order : BitOrder) (n first : ℕ) → 0 < n → bits_in order (first ∷ []) ≡ true ∷ replicate 7 false
    → bits_in order (slice_set (replicate n 0) 0 first) ≡ true ∷ replicate (8 * n - 1) false
bits_of_one order zero first some is = absurd (omega (arith, some))
bits_of_one order (suc n) first some is =
    ap (λ (b : Bits). b ++ bits_in order (replicate n 0)) (sym (append-nil (bits_of_byte order first)) ∙ is)
    ∙ ap (λ (b : Bits). (true ∷ replicate 7 false) ++ b) (bits_of_zeros order n)
    ∙ ap (λ (b : Bits). true ∷ b) (replicate-append-replicate 7 (8 * n) false)
    ∙ ap (λ (m : ℕ). true ∷ replicate m false) (omega arith)

-- ---- A tag and zeros

-- some zeros, after others
zeros_left_after : (zeros k : ℕ) → drop k (replicate zeros false ++ []) ≡ replicate (zeros - k) false
zeros_left_after zeros k = ap (drop k) (append-nil (replicate zeros false)) ∙ drop-replicate k zeros false

-- those of which no more is left than so many
after_tag : (tag : Bool) (zeros k left : ℕ) → (tag ≡ true → k ≢ 0)
    → length (behind_tag tag (replicate zeros false ++ [])) ≡ k + left
    → drop k (behind_tag tag (replicate zeros false ++ [])) ≡ replicate left false
after_tag false zeros k left other long =
    zeros_left_after zeros k ∙ ap (λ (n : ℕ). replicate n false)
    (omega (arith, long, ap length (append-nil (replicate zeros false)), length-replicate zeros false))
after_tag true zeros zero left other long = absurd (other refl refl)
after_tag true zeros (suc k) left other long =
    zeros_left_after zeros k ∙ ap (λ (n : ℕ). replicate n false)
    (omega (arith, long, ap length (append-nil (replicate zeros false)), length-replicate zeros false))

-- the tag, and all of them
from_tag : (tag : Bool) (zeros left : ℕ) → tag ≡ true → length (behind_tag tag (replicate zeros false ++ [])) ≡ left
    → behind_tag tag (replicate zeros false ++ []) ≡ true ∷ replicate (left - 1) false
from_tag false zeros left is long = absurd cc
from_tag true zeros left is long =
    ap (λ (b : Bits). true ∷ b) (append-nil (replicate zeros false) ∙ ap (λ (n : ℕ). replicate n false)
    (omega (arith, long, ap length (append-nil (replicate zeros false)), length-replicate zeros false)))

-- ---- What wasn't consumed of a feed

module _ {whole : Bits} {tried : ℕ} {feed : Feeding} (fed : IsFeedOf whole tried feed) (bytes : feed.dropped % 8 ≡ 0) where
  -- bits that are kept
  pub unused_kept : feed.gap.passed ≡ 0 → unused (completed whole feed) ≡ drop (8 * ((feed.place + 7) / 8)) feed.kept
  unused_kept none =
      let there : 8 * ((offset_of feed + 7) / 8) ≡ feed.dropped + 8 * ((feed.place + 7) / 8) = omega (arith, none, bytes) in
      ap (λ (n : ℕ). drop n (take (fed_bits feed) whole)) there
      ∙ sym (drop-drop (8 * ((feed.place + 7) / 8)) feed.dropped (take (fed_bits feed) whole))
      ∙ ap (drop (8 * ((feed.place + 7) / 8)))
      (known_from whole feed.kept fed.lie.more feed.dropped (fed_bits feed) fed.lie.bits refl)

  -- zeros with which the data ends
  module _ (zeros : feed.gap.at_zeros ≡ true) (within : feed.place ≤ length feed.kept) (held : ℕ)
      (kept : length feed.kept ≡ 8 * held) (size : ℕ) (size_is : 8 * size ≡ unused_size feed) where
    abbrev left : Bits
    left = behind_tag feed.gap.count.tag (replicate feed.gap.count.zeros false ++ [])

    abbrev next : ℕ
    next = (offset_of feed + 7) / 8

    all_fed : fed_bits feed ≡ length whole
    all_fed = omega (
      arith,
      fed.lie.within,
      ap length fed.lie.bits,
      length-append feed.kept fed.lie.more,
      length-drop feed.dropped whole,
      ap length (fed.lie.can_come.none (fed.known.zeros zeros).0),
    )

    onward : offset_of feed ≤ fed_bits feed
    onward = omega (arith, within)

    long : length left + offset_of feed ≡ fed_bits feed
    long = omega (
      arith,
      ap length (fed.known.zeros zeros).1,
      length-drop (offset_of feed) whole,
      all_fed,
      onward,
    )

    abbrev past : ℕ
    past = 8 * next - offset_of feed

    unused_is : unused (completed whole feed) ≡ drop past left
    unused_is =
        let there : 8 * next ≡ offset_of feed + past = omega arith in
        ap (λ (n : ℕ). drop (8 * next) (take n whole)) all_fed ∙ ap (drop (8 * next)) (take-length whole)
        ∙ ap (λ (n : ℕ). drop n whole) there ∙ sym (drop-drop past (offset_of feed) whole)
        ∙ ap (drop past) (fed.known.zeros zeros).1

    split : length left ≡ past + 8 * size
    split = omega (arith, long, kept, bytes, size_is)

    pub unused_zeros : (feed.gap.count.tag ≡ true → 0 < size → offset_of feed % 8 ≢ 0)
        → unused (completed whole feed) ≡ replicate (8 * size) false
    unused_zeros other = unused_is ∙ after_tag feed.gap.count.tag feed.gap.count.zeros past (8 * size) tagged split
      where
        some_left : feed.gap.count.tag ≡ true → 0 < length left
        some_left is = by_tag feed.gap.count.tag is
          where
            by_tag : (tag : Bool) → tag ≡ true → 0 < length (behind_tag tag (replicate feed.gap.count.zeros false ++ []))
            by_tag true e = omega arith
            by_tag false e = absurd cc

        tagged : feed.gap.count.tag ≡ true → past ≢ 0
        tagged is none = other is (omega (arith, none, split, some_left is)) (omega (arith, none))

    pub unused_one : feed.gap.count.tag ≡ true → offset_of feed % 8 ≡ 0
        → unused (completed whole feed) ≡ true ∷ replicate (8 * size - 1) false
    unused_one tag whole_byte =
        let none : past ≡ 0 = omega (arith, whole_byte) in
        unused_is ∙ ap (λ (n : ℕ). drop n left) none
        ∙ from_tag feed.gap.count.tag feed.gap.count.zeros (8 * size) tag (omega (arith, split, none))
