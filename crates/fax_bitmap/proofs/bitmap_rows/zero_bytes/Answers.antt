use Rattle.fax_bitmap.proofs.Names.{◌+◌, ℕ, List, drop, refl, false, arith}
use Rattle.fax_bitmap.proofs.Names.{◌≡◌, ◌*◌, ◌∙◌, ap, replicate, take_rest}
use Rattle.fax_bitmap.proofs.ScannedRows.{plain_both}
use Rattle.fax_bitmap.proofs.WhiteRowLines.{white_byte}
use Rattle.fax_bitmap.proofs.bitmap_rows.zero_bytes.Goals as goal

pub many-preserved : goal.many-preserved
many-preserved c =
    let count : ℕ = c.many.count in
    let bytes : List ℕ = c.args.bytes.now in
    record {
      within = omega (arith, c.many-test.true);
      white = plain_both count 256 (count + 256) false bytes _ refl (take_rest bytes count) c.many.invariant.white
          (c.many_are_white.ensures c.if-many_are_white.true);
    }

pub bytes-init : goal.bytes-init
bytes-init c =
    let count : ℕ = c.many.count in
    let words : ℕ = c.count_plain.result in
    let bytes : List ℕ = c.args.bytes.now in
    let sum : 64 * words ≡ 8 * (8 * words) = omega arith in
    record {
      within = omega (arith, c.count_plain.ensures.within, c.many.invariant.within);
      white = plain_both count (8 * words) (count + 8 * words) false bytes _ refl (take_rest bytes count) c.many.invariant.white
          (c.count_plain.ensures.plain ∙ ap (λ (n : ℕ). replicate n false) sum);
    }

pub bytes-preserved : goal.bytes-preserved
bytes-preserved c =
    let count : ℕ = c.bytes.count in
    let bytes : List ℕ = c.args.bytes.now in
    record {
      within = omega (arith, c.bytes-test.true);
      white = plain_both count 1 (count + 1) false bytes (drop count bytes) refl refl c.bytes.invariant.white
          (white_byte count bytes (omega (arith, c.bytes-test.true)) c.if-bytes-count-eq0.true);
    }
