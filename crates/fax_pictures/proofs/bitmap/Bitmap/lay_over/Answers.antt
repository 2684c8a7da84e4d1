use Rattle.fax_encode.proofs.Names.{◌≡◌, ◌+◌, ◌-◌, ◌*◌, ℕ, suc, List, [], ◌∷◌, length, take, drop, get_or}
use Rattle.fax_encode.proofs.Names.{sym, ap, ◌∙◌, subst, arith, inl, length-drop, bits_of, Row, shown}
use Rattle.std.proofs.lemmas.List.{drop-drop, get_or-drop}
use Rattle.fax_pictures.specs.Pictures.{LieOver}
use Rattle.fax_pictures.proofs.LaidRows.{all_lie, one_more_lies}
use Rattle.fax_pictures.proofs.PackedPictures.{next_part, no_part}
use Rattle.fax_pictures.proofs.bitmap.Bitmap.lay_over.Goals as goal

pub loop-rest-preserved : goal.loop-rest-preserved
loop-rest-preserved c =
    let width : ℕ = c.args.width in
    let rest : List ℕ = c.loop-rest.rest.now in
    let part : List Row = shown (8 * width) c.args.part.now in
    let k : ℕ = c.loop-rest.index - c.args.top in
    let at : c.loop-rest.index ≡ c.args.top + k = omega (arith, c.loop-rest.invariant.from) in
    let next : k + 1 ≡ c.loop-rest.index + 1 - c.args.top = omega (arith, c.loop-rest.invariant.from) in
    let there : drop k part ≡ bits_of (take width rest) ∷ shown (8 * width) (drop width rest) =
    sym c.loop-rest.invariant.left ∙ next_part width rest c.requires.some (omega (arith, c.loop-rest-test.true)) in
    let row : bits_of c.split_at.result.0.now ≡ get_or part k [] =
    ap bits_of c.split_at.ensures.front ∙ sym (ap (λ (l : List Row). get_or l 0 []) there) ∙ get_or-drop k part 0 []
    ∙ ap (λ (n : ℕ). get_or part n []) (omega arith) in
    let more : suc k ≡ c.loop-rest.index + 1 - c.args.top = omega (arith, next) in
    record {
      from = omega (arith, c.loop-rest.invariant.from);
      left = ap (shown (8 * width)) c.split_at.ensures.back ∙ sym (ap (drop 1) there) ∙ drop-drop 1 k part
          ∙ ap (λ (n : ℕ). drop n part) next;
      laid = subst (λ (n : ℕ). LieOver c.args.left c.args.top (take n part) c.args.self.now c.lay_over_row.new.self) more
          (one_more_lies c.args.left c.args.top c.loop-rest.index k part (bits_of c.split_at.result.0.now) c.args.self.now
          c.loop-rest.self c.lay_over_row.new.self at (omega (arith, ap length there, length-drop k part)) row
          (omega (arith, c.if-index-rows.true, c.rows.ensures, c.loop-rest.invariant.laid.size.1)) c.loop-rest.invariant.laid
          c.lay_over_row.ensures);
    }

pub returns-after-loop-rest-clause-laid : goal.returns-after-loop-rest-clause-laid
returns-after-loop-rest-clause-laid c =
    let part : List Row = shown (8 * c.args.width) c.args.part.now in
    let k : ℕ = c.loop-rest.index - c.args.top in
    let none : drop k part ≡ [] =
    sym c.loop-rest.invariant.left ∙ no_part c.args.width c.loop-rest.rest.now (omega (arith, c.loop-rest-test.false)) in
    all_lie c.args.left c.args.top k part c.args.self.now c.loop-rest.self
    (inl (omega (arith, ap length none, length-drop k part))) c.loop-rest.invariant.laid
