use Rattle.fax_bitmap.proofs.Names.{◌≡◌, ◌+◌, ◌-◌, ◌*◌, ◌%◌, ◌^◌, ◌<◌, ◌++◌, ◌∷◌, [], List, ℕ, take, refl, sym, ap, ◌∙◌, arith}
use Rattle.fax_bitmap.proofs.Names.{append_assoc, pow_mono, ◌≤◌, bit_and, count_leading_zeros, subst, vec_capacity, vec_len}
use Rattle.fax_bitmap.proofs.Names.{low_bits, ones_from}
use Rattle.fax_bitmap.proofs.ScannedWords.{room_left, some_room, one_taken, one_less, one_cleared, no_ones, ones-none, all_found}
use Rattle.fax_bitmap.proofs.bitmap_rows.push_ones_reserved.Goals as goal

pub loop-ones-init : goal.loop-ones-init
loop-ones-init c =
    let room : 64 ≤ vec_capacity c.args.list.now - vec_len c.args.list.now = omega (arith, c.requires.room) in
    let fits : c.args.word < 2 ^ 64 = omega (arith, c.ranges.word.fits) in
    record { room = omega (arith, fits, pow_mono room); written = refl }

pub returns-then-ahead-count : goal.returns-then-ahead-count
returns-then-ahead-count c =
    all_found c.loop-ones.list.items _ _ c.loop-ones.invariant.written (no_ones c.loop-ones.ones (count_leading_zeros 64
    c.loop-ones.ones)
    c.args.count (omega (arith, c.loop-ones.auto.ones-fits)) refl c.args.first c.if-ahead-count.true)

pub loop-ones-preserved : goal.loop-ones-preserved
loop-ones-preserved c =
    let ahead : ℕ = count_leading_zeros 64 c.loop-ones.ones in
    let left : ℕ = c.loop-ones.ones - 1 * 2 ^ (63 - ahead) % 2 ^ 64 in
    let fits : c.loop-ones.ones < 2 ^ 64 = omega (arith, c.loop-ones.auto.ones-fits) in
    let cleared =
    one_cleared c.loop-ones.ones ahead c.args.count fits refl (omega (arith, c.requires.few, c.if-ahead-count.false)) in
    let rest : List ℕ = ones_from c.args.first (take c.args.count (low_bits 64 left)) in
    let place : c.from-last.result + 63 - c.from.result ≡ c.args.first + ahead =
    omega (arith, c.from-last.ensures, c.from.ensures, c.requires.few, c.if-ahead-count.false) in
    let one = one_taken c.loop-ones.ones ahead c.args.count fits refl c.args.first left
    (omega (arith, c.if-ahead-count.false)) c.requires.few refl in
    let fewer = room_left c.loop-ones.ones ahead c.args.count fits refl (vec_capacity c.loop-ones.list - vec_len c.loop-ones.list)
    (omega (arith, c.requires.few, c.if-ahead-count.false)) c.loop-ones.invariant.room in
    let less : vec_capacity c.push_reserved.new.self - vec_len c.push_reserved.new.self
    ≡ vec_capacity c.loop-ones.list - vec_len c.loop-ones.list - 1 =
    omega (arith, c.push_reserved.ensures.len, c.push_reserved.ensures.capacity) in
    record {
      room = subst (λ (n : ℕ). bit_and (2 ^ 64 - 1 - 1 * 2 ^ (63 - ahead) % 2 ^ 64) c.loop-ones.ones < 2 ^ n) (sym less) fewer;
      written = ap (λ (n : ℕ). c.push_reserved.new.self.items ++ ones_from c.args.first (take
          c.args.count (low_bits 64 n))) cleared
          ∙ ap (λ (l : List ℕ). l ++ rest) (c.push_reserved.ensures.items ∙ ap (λ (n : ℕ). c.loop-ones.list.items
          ++ n ∷ []) place)
          ∙ append_assoc c.loop-ones.list.items ((c.args.first + ahead) ∷ []) rest
          ∙ ap (λ (l : List ℕ). c.loop-ones.list.items ++ l) (sym one) ∙ c.loop-ones.invariant.written;
    }

pub loop-ones-smaller : goal.loop-ones-smaller
loop-ones-smaller c = one_less c.loop-ones.ones (count_leading_zeros 64 c.loop-ones.ones) c.args.count
    (omega (arith, c.loop-ones.auto.ones-fits)) refl (omega (arith, c.requires.few, c.if-ahead-count.false))

pub returns : goal.returns
returns c = all_found c.loop-ones.list.items _ _ c.loop-ones.invariant.written
    (ones-none c.args.first c.args.count c.loop-ones.ones (omega (arith, c.loop-ones-test.false)))

pub push_reserved-requires : goal.push_reserved-requires
push_reserved-requires c =
    omega (arith, some_room c.loop-ones.ones _ (omega (arith, c.loop-ones-test.true)) c.loop-ones.invariant.room)
