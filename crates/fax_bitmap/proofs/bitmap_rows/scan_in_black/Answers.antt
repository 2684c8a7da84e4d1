use Rattle.fax_bitmap.proofs.Names.{◌≡◌, ◌≤◌, Bool, true, false, cond, eqb, ◌+◌, ◌-◌, ◌*◌, ◌/◌, ◌%◌, ◌^◌, ◌<◌, ◌++◌, nat_eq, List}
use Rattle.fax_bitmap.proofs.Names.{ℕ, length, take, drop, sym, ap, subst, ◌∙◌, arith, append_assoc, OnOk, take_rest, length-drop}
use Rattle.fax_bitmap.proofs.Names.{on_ok_weaker, bits_of, bit_of, low_bits, Row, AreChanges, changes, pixels, changes_from}
use Rattle.fax_bitmap.proofs.Names.{ones_from, in_black}
use Rattle.fax_bitmap.proofs.ScannedRows.{plain_scanned, word_scanned, last_scanned, unscanned, length-row_in, lawful_row}
use Rattle.fax_bitmap.proofs.ScannedRows.{pixels_of_row}
use Rattle.fax_bitmap.proofs.bitmap_rows.scan_in_black.Goals.{After-push_ones-2}
use Rattle.fax_bitmap.proofs.bitmap_rows.scan_in_black.Goals as goal

pub loop-start-init : goal.loop-start-init
loop-start-init c = record {
  within = omega arith;
  room = omega (arith, c.requires);
  left = ap (λ (l : List ℕ). l ++ changes_from 0 (bit_of c.from-before.result 0)
      (take (c.args.columns - 0) (bits_of c.args.bitmap.now)))
      c.clear.ensures.items ∙ unscanned c.args.columns c.args.bitmap.now c.args.black_is_0 _ c.from-before.ensures;
}

pub loop-start-preserved-then-is_plain : goal.loop-start-preserved-then-is_plain
loop-start-preserved-then-is_plain c =
    let start : ℕ = c.loop-start.start in
    let n : ℕ = c.args.columns - start in
    let words : ℕ = c.plain_words-plain.result in
    let rest : List ℕ = c.loop-start.rest.now in
    let fit : 64 * words ≤ n = omega (arith, c.plain_words-plain.ensures.within) in
    let room : 8 * words ≤ length rest = omega (arith, c.loop-start.invariant.room) in
    let more : n - 64 * words ≡ c.args.columns - (start + 64 * words) = omega arith in
    let following : take (length rest - 8 * words) (drop (8 * words) rest) ≡ drop (8 * words) rest = take_rest rest (8 * words) in
    let color : nat_eq (c.loop-start.before % 2) 1 ≡ bit_of c.loop-start.before 0 =
    ap (λ (b : ℕ). nat_eq b 1) (let e : c.loop-start.before % 2 ≡ c.loop-start.before / 2 ^ 0 % 2 = omega arith in e) in
    let scanned = plain_scanned start n c.loop-start.before words _ rest color fit room c.plain_words-plain.ensures.plain in
    let after : ℕ → List ℕ → List ℕ =
    λ (m : ℕ). λ (l : List ℕ). changes_from (start + 64 * words) (bit_of c.loop-start.before 0) (take m (bits_of l)) in
    record {
      within = omega (arith, fit);
      room = omega (arith, c.loop-start.invariant.room, length-drop (8 * words) rest, ap length following);
      left = ap (λ (l : List ℕ). c.loop-start.list.items ++ after (c.args.columns - (start + 64 * words)) l) following
          ∙ ap (λ (m : ℕ). c.loop-start.list.items ++ after m (drop (8 * words) rest)) (sym more)
          ∙ ap (λ (l : List ℕ). c.loop-start.list.items ++ l) (sym scanned) ∙ c.loop-start.invariant.left;
    }

pub loop-start-preserved : goal.loop-start-preserved
loop-start-preserved c =
    let start : ℕ = c.loop-start.start in
    let n : ℕ = c.args.columns - start in
    let rest : List ℕ = c.loop-start.rest.now in
    let more : n - 64 ≡ c.args.columns - (start + 64) = omega arith in
    let following : take (length rest - 8) (drop 8 rest) ≡ drop 8 rest = take_rest rest 8 in
    let some : 64 ≤ n = c.loop-start-test.true in
    let scanned = word_scanned start n c.loop-start.before c.first_pixels-word.result c.turns-ones.result rest some
    c.loop-start.invariant.room c.first_pixels-word.ensures c.turns-ones.ensures in
    let after : List ℕ → List ℕ = λ (l : List ℕ).
    changes_from (start + 64) (bit_of c.first_pixels-word.result 0) (take (c.args.columns - (start + 64)) (bits_of l)) in
    let found : List ℕ = ones_from start (take 64 (low_bits 64 c.turns-ones.result)) in
    record {
      within = omega arith;
      room = omega (arith, c.loop-start.invariant.room, length-drop 8 rest, ap length following);
      left = ap (λ (l : List ℕ). c.push_ones.new.list.items ++ after l) following
          ∙ ap (λ (l : List ℕ). l ++ after (drop 8 rest)) c.in_ok-push_ones.ensures
          ∙ append_assoc c.loop-start.list.items found (after (drop 8 rest)) ∙ ap (λ (m : ℕ). c.loop-start.list.items
          ++ (found ++ changes_from (start + 64) (bit_of c.first_pixels-word.result 0) (take m (bits_of (drop 8 rest)))))
          (sym more) ∙ ap (λ (l : List ℕ). c.loop-start.list.items ++ l) (sym scanned) ∙ c.loop-start.invariant.left;
    }

-- all changes are found
found : (c : After-push_ones-2)
    → OnOk c.push_ones-2.result (c.push_ones-2.new.list.items
    ≡ changes (in_black c.args.black_is_0 (take c.args.columns (bits_of c.args.bitmap.now))))
found c =
    let start : ℕ = c.loop-start.start in
    let n : ℕ = c.args.columns - start in
    let few : n < 64 = omega (arith, c.loop-start-test.false) in
    let scanned = last_scanned start n c.loop-start.before c.word_of.result c.turns.result c.loop-start.rest.now few
    c.loop-start.invariant.room c.word_of.ensures c.turns.ensures in
    let all = ap (λ (l : List ℕ). c.loop-start.list.items ++ l) (sym scanned) ∙ c.loop-start.invariant.left in
    subst (λ (l : List ℕ). OnOk c.push_ones-2.result (c.push_ones-2.new.list.items ≡ l)) all c.push_ones-2.ensures

pub returns-clause-lawful : goal.returns-clause-lawful
returns-clause-lawful c =
    let row : Row = in_black c.args.black_is_0 (take c.args.columns (bits_of c.args.bitmap.now)) in
    let lawful = lawful_row c.args.columns row (length-row_in c.args.black_is_0 c.args.columns c.args.bitmap.now c.requires) in
    on_ok_weaker c.push_ones-2.result (λ same. subst (AreChanges c.args.columns) (sym same) lawful)
    (found (goal.at.returns-clause-lawful c).After-push_ones-2)

pub returns-clause-pixels : goal.returns-clause-pixels
returns-clause-pixels c =
    let row : Row = in_black c.args.black_is_0 (take c.args.columns (bits_of c.args.bitmap.now)) in
    let shows = pixels_of_row c.args.columns row (length-row_in c.args.black_is_0 c.args.columns c.args.bitmap.now c.requires) in
    on_ok_weaker c.push_ones-2.result (λ same. ap (pixels c.args.columns) same ∙ shows)
    (found (goal.at.returns-clause-pixels c).After-push_ones-2)

-- a test counts one at most
one_at_most : (b : Bool) → cond b 1 0 ≤ 1
one_at_most true = omega arith
one_at_most false = omega arith

pub loop-start-smaller : goal.loop-start-smaller
loop-start-smaller c = omega (arith, c.loop-start-test.true, one_at_most (eqb c.turns-ones.result 0))
