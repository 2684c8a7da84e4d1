use Rattle.fax_encode.proofs.Names.{◌≡◌, ◌≢◌, ◌+◌, ℕ, Bool, List, map, sym, ap, ◌∙◌, subst, arith}
use Rattle.std.specs.List.{range_with_len}
use Rattle.fax_pictures.specs.Turned.{pixel_shown}
use Rattle.fax_pictures.proofs.DrawnRows.{AreDrawn, all_drawn, are_apart, are_same, other_drawn, same_drawn}
use Rattle.fax_pictures.proofs.bitmap.Bitmap.turned_row.Goals.{then-is_black-was_black+in_ok-push, else-is_black-was_black}
use Rattle.fax_pictures.proofs.bitmap.Bitmap.turned_row.Goals as goal

pub loop-x-preserved : goal.loop-x-preserved
loop-x-preserved c =
    let pixel : ℕ → Bool = λ x. pixel_shown c.args.orientation c.args.self.now x c.args.y in
    let here : Bool = c.pixel_shown-is_black.result in
    record {
      within = omega (arith, c.loop-x-test.true);
      drawn = elim c.if-is_black-was_black.branch [
        | then-is_black-was_black+in_ok-push w ↦
            let other : here ≢ c.loop-x.was_black = are_apart here c.loop-x.was_black w.if-is_black-was_black.true in
            subst (λ (l : List ℕ). AreDrawn pixel (c.loop-x.x + 1) l here)
            (sym (ap (λ v. v.items) w.changes-is ∙ w.in_ok-push.ensures.items))
            (other_drawn pixel c.loop-x.x c.loop-x.changes.items c.loop-x.was_black here c.loop-x.invariant.drawn
            c.pixel_shown-is_black.ensures other)
        | else-is_black-was_black w ↦
            let same : here ≡ c.loop-x.was_black = are_same here c.loop-x.was_black w.if-is_black-was_black.false in
            subst (λ (l : List ℕ). AreDrawn pixel (c.loop-x.x + 1) l here)
            (sym (ap (λ v. v.items) w.changes-is))
            (same_drawn pixel c.loop-x.x c.loop-x.changes.items c.loop-x.was_black here c.loop-x.invariant.drawn
            c.pixel_shown-is_black.ensures same)
      ];
    }

pub returns-clause-lawful : goal.returns-clause-lawful
returns-clause-lawful c =
    let pixel : ℕ → Bool = λ x. pixel_shown c.args.orientation c.args.self.now x c.args.y in
    let end : c.loop-x.x ≡ c.args.columns = omega (arith, c.loop-x-test.false, c.loop-x.invariant.within) in
    (all_drawn pixel c.args.columns c.loop-x.changes.items c.loop-x.was_black
    (subst (λ (n : ℕ). AreDrawn pixel n c.loop-x.changes.items c.loop-x.was_black) end c.loop-x.invariant.drawn)).0

pub returns-clause-row : goal.returns-clause-row
returns-clause-row c =
    let pixel : ℕ → Bool = λ x. pixel_shown c.args.orientation c.args.self.now x c.args.y in
    let end : c.loop-x.x ≡ c.args.columns = omega (arith, c.loop-x-test.false, c.loop-x.invariant.within) in
    (all_drawn pixel c.args.columns c.loop-x.changes.items c.loop-x.was_black
    (subst (λ (n : ℕ). AreDrawn pixel n c.loop-x.changes.items c.loop-x.was_black) end c.loop-x.invariant.drawn)).1
    ∙ ap (λ (n : ℕ). map pixel (range_with_len 0 n)) c.requires.columns
