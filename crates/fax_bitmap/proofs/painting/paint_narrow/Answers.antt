use Rattle.fax_bitmap.proofs.Names.{◌≡◌, ◌+◌, ◌-◌, ◌*◌, ◌<◌, ◌≤◌, ◌++◌, ℕ, List, not, false, length, take, replicate, refl}
use Rattle.fax_bitmap.proofs.Names.{pixels, Brush, StandsAt, White, Black, bits_of, get_or, low_bits, sym, under, ap, ◌∙◌, arith}
use Rattle.fax_bitmap.proofs.PaintedRows.{IsPainted, all_painted, change_at_hand, ends_white, filled, no_word, run_at_hand}
use Rattle.fax_words.proofs.RunsWritten.{next_ascends, next_within}
use Rattle.fax_bitmap.proofs.painting.paint_narrow.Goals.{then-done-changes, else-done-changes}
use Rattle.fax_bitmap.proofs.painting.paint_narrow.Goals as goal

pub pairs-preserved : goal.pairs-preserved
pairs-preserved c =
    let columns : ℕ = c.args.columns in
    let changes : List ℕ = c.args.changes.now in
    let done : ℕ = c.pairs.done in
    let is = c.pairs.invariant in
    let more = c.pairs-test.true in
    let one = c.turned.ensures in
    let two = c.turned-brush.ensures in
    let second : get_or changes (done + 1) 0 ≤ columns =
    next_within columns (get_or changes done 0) (done + 1) Black changes more
    (next_ascends columns is.painted.place done White changes (omega (arith, more)) is.painted.ascend) in
    record {
      painted = run_at_hand columns changes done c.pairs.brush c.turned.result c.turned-brush.result c.args.row.now more
          (omega (arith, c.requires.fits.room)) is.painted
          (omega (arith, second, is.at_start, c.requires.fits.room, c.requires.narrow)) one.start one.color one.word two.start
          two.color two.word;
      at_start = two.start ∙ one.start ∙ is.at_start;
      white = two.color ∙ ap not (one.color ∙ ap not is.white);
      within = omega (arith, more);
    }

pub returns : goal.returns
returns c =
    let columns : ℕ = c.args.columns in
    let changes : List ℕ = c.args.changes.now in
    let row : List ℕ = c.args.row.now in
    let done : ℕ = c.pairs.done in
    let brush = c.pairs.brush in
    let is = c.pairs.invariant in
    let n : ℕ = 64 - columns in
    let wide : columns ≤ 8 * length row = omega (arith, c.requires.fits.room) in
    let inside : columns < 64 = omega (arith, c.requires.fits.room, c.requires.narrow) in
    let at_end : (b : Brush) → b.start ≡ 0 → StandsAt b columns = λ b begun. record {
      begun = omega (arith, begun);
      from = omega (arith, begun);
      below = omega (arith, begun, inside);
    } in
    let all : (k : ℕ) (b : Brush) → length changes ≤ k → IsPainted columns changes k b row → b.start ≡ 0 → under b row
    ≡ pixels columns changes ++ replicate (8 * b.start + 64 - columns) b.is_black = λ k b last painted begun.
    all_painted columns changes k b b row row last painted (at_end b begun) (omega arith) refl
    (no_word (under b row) b.start b.is_black) in
    let of_n : (b : Brush) → b.start ≡ 0 → 8 * b.start + 64 - columns ≡ n = λ b begun. omega (arith, begun) in
    let white : under c.if-done-changes.brush row ≡ pixels columns changes ++ replicate n false = elim c.if-done-changes.branch [
      | then-done-changes w ↦
          let first : Brush = w.turned-then-done-changes.result in
          let one = w.turned-then-done-changes.ensures in
          let two = w.turned-brush-then-done-changes.ensures in
          let more = w.if-done-changes.true in
          let right : get_or changes done 0 ≤ columns =
          next_within columns is.painted.place done White changes more is.painted.ascend in
          let there : StandsAt brush (get_or changes done 0) = record {
            begun = omega (arith, is.at_start);
            from = omega (arith, is.at_start);
            below = omega (arith, right, is.at_start, inside);
          } in
          let begun : first.start ≡ 0 = one.start ∙ is.at_start in
          let painted : IsPainted columns changes (done + 1) first row =
          change_at_hand columns changes done brush first row more wide is.painted there one.start one.color one.word in
          ap (λ (b : Brush). under b row) w.brush-is ∙ ends_white columns changes row first
          w.turned-brush-then-done-changes.result c.requires.fits.changes wide (at_end first begun)
          (all (done + 1) first c.pairs-test.false painted begun) (one.color ∙ ap not is.white) two.start two.word
          ∙ ap (λ (k : ℕ). pixels columns changes ++ replicate k false) (of_n first begun)
      | else-done-changes w ↦
          ap (λ (b : Brush). under b row) w.brush-is ∙ all done brush w.if-done-changes.false is.painted is.at_start
          ∙ ap (λ b. pixels columns changes ++ replicate (8 * brush.start + 64 - columns) b) is.white
          ∙ ap (λ (k : ℕ). pixels columns changes ++ replicate k false) (of_n brush is.at_start)
    ] in
    let begun : c.if-done-changes.brush.start ≡ 0 = elim c.if-done-changes.branch [
      | then-done-changes w ↦
          ap (λ (b : Brush). b.start) w.brush-is ∙ w.turned-brush-then-done-changes.ensures.start
          ∙ w.turned-then-done-changes.ensures.start ∙ is.at_start
      | else-done-changes w ↦ ap (λ (b : Brush). b.start) w.brush-is ∙ is.at_start
    ] in
    let first : low_bits 64 c.if-done-changes.brush.word ≡ under c.if-done-changes.brush row =
    sym (ap (λ (k : ℕ). bits_of (take k row) ++ low_bits 64 c.if-done-changes.brush.word) begun) in
    record {
      painted = filled columns n changes row c.put_narrow.new.row (under c.if-done-changes.brush row) c.requires.fits.changes
          c.requires.fits.room (omega (arith, c.requires.fits.room, c.requires.narrow))
          (c.put_narrow.ensures ∙ ap (take (8 * length row)) first) white;
    }
