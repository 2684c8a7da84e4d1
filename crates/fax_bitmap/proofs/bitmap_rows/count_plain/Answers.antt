use Rattle.fax_bitmap.proofs.Names.{◌≡◌, ◌*◌, ℕ, ap, ◌∙◌, arith, take_rest, low_bits}
use Rattle.fax_bitmap.proofs.ScannedRows.{plain_more, plain_words}
use Rattle.fax_bitmap.proofs.bitmap_rows.count_plain.Goals as goal

pub eights-preserved : goal.eights-preserved
eights-preserved c = record {
  within = omega (arith, c.eights-test.true);
  same = plain_words c.eights.count 8 c.args.is_black c.args.bytes.now _ (take_rest c.args.bytes.now (8 * c.eights.count))
      c.eights.invariant.same (c.eight_are_plain.ensures c.if-eight_are_plain.true);
}

pub fours-preserved : goal.fours-preserved
fours-preserved c = record {
  within = omega (arith, c.fours-test.true);
  same = plain_words c.fours.count 4 c.args.is_black c.args.bytes.now _ (take_rest c.args.bytes.now (8 * c.fours.count))
      c.fours.invariant.same (c.four_are_plain.ensures c.if-four_are_plain.true);
}

pub ones-preserved : goal.ones-preserved
ones-preserved c =
    let count : ℕ = c.ones.count in
    let same : c.first_pixels.result ≡ c.plain_word-plain.result = c.if-first_pixels-plain.true in
    record {
      within = omega (arith, c.ones-test.true);
      same = plain_more count c.first_pixels.result c.args.is_black c.args.bytes.now _
          (omega (arith, c.requires, c.ones-test.true)) (take_rest c.args.bytes.now (8 * count)) c.first_pixels.ensures
          (ap (low_bits 64) same ∙ c.plain_word-plain.ensures) c.ones.invariant.same;
    }
