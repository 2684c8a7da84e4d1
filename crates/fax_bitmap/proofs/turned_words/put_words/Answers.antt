use Rattle.fax_bitmap.proofs.Names.{◌+◌, ◌*◌, ◌≤◌, ℕ, length, take, ap, ◌∙◌, arith, bit_of, false, joined_pixels}
use Rattle.fax_bitmap.proofs.TurnedWords.{last_joined, word_joined}
use Rattle.fax_bitmap.proofs.turned_words.put_words.Goals as goal

pub words-preserved : goal.words-preserved
words-preserved c =
    let is = c.words.invariant in
    let put = c.put_pixels.ensures in
    let more : 8 * c.words.at + 8 ≤ length c.words.row = omega (arith, c.words-test.true) in
    record {
      written = word_joined c.words.at c.after-word.result (bit_of c.words.color 0) (bit_of c.color_following-color.result 0)
          c.words.row c.put_pixels.new.bytes c.args.words.now (joined_pixels false c.args.words.now) more
          (omega (arith, more, is.room, c.requires)) c.after-word.ensures.pixels c.after-word.ensures.last
          c.color_following-color.ensures.same put.written is.written;
      plain = c.color_following-color.ensures.plain;
      within = omega (arith, more, put.length);
      room = put.length ∙ is.room;
    }

pub returns : goal.returns
returns c =
    let is = c.words.invariant in
    last_joined c.words.at c.after.result (bit_of c.words.color 0) c.words.row c.put_first.new.row c.args.words.now
    (joined_pixels false c.args.words.now) is.within (omega (arith, c.words-test.false))
    (omega (arith, is.within, is.room, c.requires)) c.after.ensures.pixels c.after.ensures.last c.put_first.ensures is.written
    ∙ ap (λ (n : ℕ). take (8 * n) (joined_pixels false c.args.words.now)) is.room
