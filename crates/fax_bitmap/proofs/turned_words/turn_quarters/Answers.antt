use Rattle.fax_bitmap.proofs.Names.{◌≡◌, ◌+◌, ◌*◌, ◌/◌, ℕ, List, Bits, get_or, length, drop, ap, refl, sym, ◌∙◌, arith}
use Rattle.fax_bitmap.proofs.Names.{false, joined_pixels, turned_at_all, turned_from}
use Rattle.fax_bitmap.proofs.TurnedWords.{all_quarters, change_inside, no_quarters, one_of_each, quarters_turned}
use Rattle.fax_bitmap.proofs.turned_words.turn_quarters.Goals as goal

pub quarters-init : goal.quarters-init
quarters-init c = record {
  turned = sym (no_quarters (length c.args.changes.now / 4) c.args.changes.now (joined_pixels false c.args.words.now));
  within = omega arith;
  room = refl;
}

pub turn_following-requires : goal.turn_following-requires
turn_following-requires c = change_inside _ _ c.quarters.done (omega (arith, c.quarters-test.true)) c.requires.changes
    c.quarters.invariant.room c.requires.room

pub turn_following-requires-in-quarters : goal.turn_following-requires-in-quarters
turn_following-requires-in-quarters c = change_inside _ _ (length c.args.changes.now / 4 + c.quarters.done)
    (omega (arith, c.quarters-test.true)) c.requires.changes
    (c.turn_following.ensures.length ∙ c.quarters.invariant.room) c.requires.room

pub turn_following-requires-in-quarters-2 : goal.turn_following-requires-in-quarters-2
turn_following-requires-in-quarters-2 c = change_inside _ _ (2 * (length c.args.changes.now / 4) + c.quarters.done)
    (omega (arith, c.quarters-test.true)) c.requires.changes
    (c.turn_following-in-quarters.ensures.length ∙ c.turn_following.ensures.length
    ∙ c.quarters.invariant.room) c.requires.room

pub turn_following-requires-in-quarters-3 : goal.turn_following-requires-in-quarters-3
turn_following-requires-in-quarters-3 c = change_inside _ _ (3 * (length c.args.changes.now / 4) + c.quarters.done)
    (omega (arith, c.quarters-test.true)) c.requires.changes
    (c.turn_following-in-quarters-2.ensures.length ∙ c.turn_following-in-quarters.ensures.length ∙ c.turn_following.ensures.length
    ∙ c.quarters.invariant.room) c.requires.room

pub quarters-preserved : goal.quarters-preserved
quarters-preserved c =
    let changes : List ℕ = c.args.changes.now in
    let part : ℕ = length changes / 4 in
    let done : ℕ = c.quarters.done in
    let is = c.quarters.invariant in
    let one = c.turn_following.ensures in
    let two = c.turn_following-in-quarters.ensures in
    let three = c.turn_following-in-quarters-2.ensures in
    let four = c.turn_following-in-quarters-3.ensures in
    record {
      turned = four.turned ∙ ap (turned_from (get_or changes (3 * part + done) 0)) (three.turned
          ∙ ap (turned_from (get_or changes (2 * part + done) 0)) (two.turned
          ∙ ap (turned_from (get_or changes (part + done) 0)) (one.turned ∙ ap (turned_from (get_or changes done 0)) is.turned)))
          ∙ sym (one_of_each part done changes (joined_pixels false c.args.words.now) (omega arith) c.quarters-test.true);
      within = omega (arith, c.quarters-test.true);
      room = four.length ∙ three.length ∙ two.length ∙ one.length ∙ is.room;
    }

pub returns-clause-turned : goal.returns-clause-turned
returns-clause-turned c =
    let changes : List ℕ = c.args.changes.now in
    let part : ℕ = length changes / 4 in
    let before : Bits = joined_pixels false c.args.words.now in
    let is = c.quarters.invariant in
    let all : c.quarters.done ≡ part = omega (arith, c.quarters-test.false, is.within) in
    ap (turned_at_all (drop (4 * part) changes)) (is.turned ∙ ap (λ (n : ℕ). quarters_turned part n changes before) all)
    ∙ all_quarters part changes before
