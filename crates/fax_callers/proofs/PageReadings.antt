-- The reading of a page that is given its bytes in pieces.
use Rattle.hayro_ccitt.proofs.Names.{◌≡◌, ◌≢◌, ℕ, ◌+◌, ◌*◌, ◌≤◌, ◌++◌, ◌∙◌, true, false, List, [], Option, None, Some}
use Rattle.hayro_ccitt.proofs.Names.{Err, IfSome, refl, sym, ap, subst, arith, length, drop, take, append_assoc}
use Rattle.hayro_ccitt.proofs.Names.{length-append, Bits, bits_in, Context, DecodeSettings, OutOfMemory, ended, false≢true}
use Rattle.hayro_ccitt.proofs.Names.{is_some}
use Rattle.std.specs.Prelude.{IfNone}
use Rattle.std.specs.Option.{unwrap_or}
use Rattle.std.proofs.lemmas.List.{take-append-drop, take-append-le, length-take-le}
use Rattle.std.proofs.Math.Seq.{drop-append_seam, take-add}
use Rattle.hayro_ccitt.specs.BitOrder.{BitOrder}
use Rattle.hayro_ccitt.specs.Bits.{BitsFit}
use Rattle.hayro_ccitt.specs.RowFeeds.{ComeNext, Feeding, IsFeedOf, fed_bits}
use Rattle.hayro_ccitt.specs.RowState.{RowState}
use Rattle.hayro_ccitt.proofs.BitReading.BitLists.{bits_are_whole, length-bits_in}
use Rattle.fax_callers.specs.PageFeeds.{IsPageReading}
use Rattle.fax_callers.specs.Rtc.{GoesOnAfter, page_size}
use Rattle.fax_callers.specs.declared.rtc.EolsSeen.{EolsSeen}
use Rattle.fax_callers.proofs.RtcPassed.{bits_more}

-- ---- Where a page ends

pub none_is : (P : Type 0) (o : Option ℕ) → is_some o ≡ false → IfNone o P → P
none_is P None e p = p
none_is P (Some n) e p = absurd cc

pub none_all : (o : Option ℕ) (n size : ℕ) → n ≡ unwrap_or o size → is_some o ≡ false → n ≡ size
none_all None n size is e = is
none_all (Some m) n size is e = absurd cc

pub some_is : (P : ℕ → Type 0) (o : Option ℕ) (n size : ℕ) → n ≡ unwrap_or o size → is_some o ≡ true → IfSome o P → P n
some_is P None n size is e p = absurd cc
some_is P (Some m) n size is e p = subst P (sym is) p

pub count_within : (P : ℕ → Type 0) (o : Option ℕ) (n size : ℕ) → n ≡ unwrap_or o size → IfSome o (λ m. (m ≤ size) × P m)
    → n ≤ size
count_within P None n size is p = omega (arith, is)
count_within P (Some m) n size is p = omega (arith, is, p.0)

-- ---- Bytes and their bits

-- the bits after those of the first bytes
bits_after : (order : BitOrder) (front rest : List ℕ)
    → drop (8 * length front) (bits_in order (front ++ rest)) ≡ bits_in order rest
bits_after order front rest =
    ap (drop (8 * length front)) (bits_more order front rest)
    ∙ ap (λ (n : ℕ). drop n (bits_in order front ++ bits_in order rest)) (sym (length-bits_in order front))
    ∙ drop-append_seam (bits_in order front) (bits_in order rest)

-- some bytes, a piece that follows them, and the rest
module _ (bytes piece rest : List ℕ) (given : ℕ) (within : given ≤ length bytes)
    (split : drop given bytes ≡ piece ++ rest) where
  pub bytes_are : bytes ≡ take given bytes ++ (piece ++ rest)
  bytes_are = sym (take-append-drop given bytes) ∙ ap (λ (l : List ℕ). take given bytes ++ l) split

  pub front_length : length (take given bytes) ≡ given
  front_length = length-take-le given bytes within

  pub longer : (n : ℕ) → n ≤ length piece → take (given + n) bytes ≡ take given bytes ++ take n piece
  longer n le = take-add given n bytes ∙ ap (λ (l : List ℕ). take given bytes ++ take n l) split
      ∙ ap (λ (l : List ℕ). take given bytes ++ l) (take-append-le n piece rest le)

  pub with_more : (n : ℕ) → n ≤ length piece → (more : List ℕ)
      → take (given + n) bytes ++ more ≡ take given bytes ++ (take n piece ++ more)
  with_more n le more =
      ap (λ (l : List ℕ). l ++ more) (longer n le) ∙ append_assoc (take given bytes) (take n piece) more

  pub longer_within : (n : ℕ) → n ≤ length piece → given + n ≤ length bytes
  longer_within n le = omega (
    arith,
    ap length bytes_are,
    front_length,
    length-append (take given bytes) (piece ++ rest),
    length-append piece rest,
  )

-- ---- What calls leave of it

-- a call that feeds nothing leaves it a reading of the page
pub kept_page : {order : BitOrder} {bytes : List ℕ} {given : ℕ} {seen : EolsSeen} {old new : Feeding}
    → IsPageReading order bytes given seen old
    → ((whole : Bits) (tried : ℕ) → IsFeedOf whole tried old → (again : ℕ) × IsFeedOf whole again new)
    → new.ctx.held.settings ≡ old.ctx.held.settings → new.order ≡ old.order → new.finished ≡ old.finished
    → fed_bits new ≡ fed_bits old → ended new.rows.stand ≢ Some (Err OutOfMemory) → IsPageReading order bytes given seen new
kept_page {order} {bytes} {given} {seen} {old} {new} is again settings order_is finished count memory = record {
  fit = is.fit;
  within = is.within;
  order_is = order_is ∙ is.order_is;
  counted = count ∙ is.counted;
  reads = λ more none fit.
      let before = is.reads more (λ last. none (finished ∙ last)) fit in
      again (bits_in order (take given bytes ++ more)) before.0 before.1;
  sought = λ unfinished.
      subst (λ (s : DecodeSettings). GoesOnAfter s.encoding order (take given bytes) seen) (sym settings)
      (is.sought (sym finished ∙ unfinished));
  found = λ last.
      subst (λ (s : DecodeSettings). given ≡ page_size s.encoding order bytes) (sym settings) (is.found (sym finished ∙ last));
  has_memory = memory;
}

-- the bytes of a piece come next, whatever follows them
pub comes : {order : BitOrder} {bytes : List ℕ} {given : ℕ} {seen : EolsSeen} {page : Feeding}
    → IsPageReading order bytes given seen page → (next more : List ℕ)
    → ComeNext (bits_in order (take given bytes ++ (next ++ more))) page (bits_in page.order next)
comes {order} {bytes} {given} is next more = record {
  rest = bits_in order more;
  bits = ap (λ (k : ℕ). drop k (bits_in order (take given bytes ++ (next ++ more))))
      (is.counted ∙ ap (λ (k : ℕ). 8 * k) (sym (length-take-le given bytes is.within)))
      ∙ bits_after order (take given bytes) (next ++ more) ∙ bits_more order next more
      ∙ ap (λ (o : BitOrder). bits_in o next ++ bits_in order more) (sym is.order_is);
  bytes = bits_are_whole order more;
}

-- it is given the bytes that come next
module _ {order : BitOrder} {seen : EolsSeen} {old new : Feeding} (bytes piece rest : List ℕ) (given : ℕ)
    (is : IsPageReading order bytes given seen old) (split : drop given bytes ≡ piece ++ rest)
    (unfinished : old.finished ≡ false) (n : ℕ) (le : n ≤ length piece)
    (fed : (whole : Bits) (tried : ℕ) → IsFeedOf whole tried old → ComeNext whole old (bits_in old.order (take n piece))
    → IsFeedOf whole tried new) (count : fed_bits new ≡ fed_bits old + 8 * n) (ctx : new.ctx ≡ old.ctx)
    (rows : new.rows ≡ old.rows) (order_is : new.order ≡ old.order) where
  pub reads_on : (more : List ℕ) → BitsFit (take (given + n) bytes ++ more)
      → (tried : ℕ) × IsFeedOf (bits_in order (take (given + n) bytes ++ more)) tried new
  reads_on more fit =
      let same = with_more bytes piece rest given is.within split n le more in
      let before = is.reads (take n piece ++ more) (λ last. absurd (false≢true (sym unfinished
      ∙ last))) (subst BitsFit same fit) in (
        before.0,
        subst (λ (l : List ℕ). IsFeedOf (bits_in order l) before.0 new) (sym same)
            (fed (bits_in order (take given bytes ++ (take n piece ++ more))) before.0 before.1 (comes is (take n piece) more)),
      )

  still_counted : fed_bits new ≡ 8 * (given + n)
  still_counted = omega (arith, count, is.counted)

  has_memory_still : ended new.rows.stand ≢ Some (Err OutOfMemory)
  has_memory_still = subst (λ (r : RowState). ended r.stand ≢ Some (Err OutOfMemory)) (sym rows) is.has_memory

  -- and the page goes on after them
  pub page_goes_on : (after : EolsSeen) → new.finished ≡ false
      → GoesOnAfter old.ctx.held.settings.encoding order (take (given + n) bytes) after
      → IsPageReading order bytes (given + n) after new
  page_goes_on after unended sought = record {
    fit = is.fit;
    within = longer_within bytes piece rest given is.within split n le;
    order_is = order_is ∙ is.order_is;
    counted = still_counted;
    reads = λ more none fit. reads_on more fit;
    sought = λ e.
        subst (λ (x : Context). GoesOnAfter x.held.settings.encoding order (take (given + n) bytes) after) (sym ctx) sought;
    found = λ last. absurd (false≢true (sym unended ∙ last));
    has_memory = has_memory_still;
  }

-- of data that ends after the bytes given all bits were fed
pub counted_all : {fed : ℕ} (order : BitOrder) (bytes more : List ℕ) (given : ℕ) → given ≤ length bytes → fed ≡ 8 * given
    → more ≡ [] → length (bits_in order (take given bytes ++ more)) ≡ fed
counted_all order bytes more given within counted none = omega (
  arith,
  counted,
  length-bits_in order (take given bytes ++ more),
  length-append (take given bytes) more,
  ap length none,
  length-take-le given bytes within,
)

-- its data is finished, where the page ends
pub page_finished : {order : BitOrder} {bytes : List ℕ} {given : ℕ} {seen : EolsSeen} {old new : Feeding} → BitsFit bytes
    → given ≤ length bytes → old.order ≡ order → fed_bits old ≡ 8 * given → ((more : List ℕ)
    → BitsFit (take given bytes ++ more) → (tried : ℕ) × IsFeedOf (bits_in order (take given bytes ++ more)) tried old)
    → given ≡ page_size old.ctx.held.settings.encoding order bytes → ended old.rows.stand ≢ Some (Err OutOfMemory)
    → ((whole : Bits) (tried : ℕ) → IsFeedOf whole tried old → length whole ≡ fed_bits old → IsFeedOf whole tried new)
    → new ≡ record old { finished = true } → IsPageReading order bytes given seen new
page_finished {order} {bytes} {given} {seen} {old} {new} fit within order_is counted reads found memory finish is =
    subst (IsPageReading order bytes given seen) (sym is) (record {
      fit = fit;
      within = within;
      order_is = order_is;
      counted = counted;
      reads = λ more none enough.
          let before = reads more enough in (
            before.0,
            subst (IsFeedOf (bits_in order (take given bytes ++ more)) before.0) is
                (finish (bits_in order (take given bytes ++ more)) before.0 before.1
                (counted_all order bytes more given within counted (none refl))),
          );
      sought = λ unended. absurd (false≢true (sym unended));
      found = λ last. found;
      has_memory = memory;
    })
