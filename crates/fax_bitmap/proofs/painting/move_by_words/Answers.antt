use Rattle.fax_bitmap.proofs.Names.{◌≡◌, ◌-◌, ◌*◌, ◌++◌, ℕ, Bool, replicate, sym, ap, ◌∙◌, arith, under}
use Rattle.fax_bitmap.proofs.PaintedRows.{word_more}
use Rattle.fax_bitmap.proofs.painting.move_by_words.Goals as goal

pub words-preserved : goal.words-preserved
words-preserved c =
    let is = c.words.invariant in
    let more = c.next_word-at.ensures in
    let done : under c.words.at c.words.row ≡ under c.args.brush c.args.row.now
    ++ replicate (8 * (c.words.at.start - c.args.brush.start)) c.args.brush.is_black = is.painted in
    let next : under c.next_word-at.result c.next_word-at.new.row ≡ under c.words.at c.words.row ++ replicate 64
    c.args.brush.is_black = more.painted ∙ ap (λ (b : Bool). under c.words.at c.words.row ++ replicate 64 b) is.color in
    record {
      begun = omega (arith, is.begun, more.start);
      forward = omega (arith, is.forward, more.start);
      within = omega (arith, is.begun, more.start, c.words-test.true);
      color = more.color ∙ is.color;
      painted = word_more (under c.args.brush c.args.row.now)
          _ _ c.args.brush.start c.words.at.start c.args.brush.is_black is.forward done next ∙ sym (ap (λ (n : ℕ).
          under c.args.brush c.args.row.now ++ replicate (8 * (n - c.args.brush.start)) c.args.brush.is_black) more.start);
      room = more.length ∙ is.room;
    }
