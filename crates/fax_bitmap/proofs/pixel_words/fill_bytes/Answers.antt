use Rattle.fax_bitmap.proofs.Names.{◌≡◌, ◌<◌, ℕ, List, [], ◌∷◌, ◌++◌, ap, sym, ◌∙◌, arith, length, replicate, take_all}
use Rattle.fax_bitmap.proofs.Names.{length-set, replicate-append-replicate}
use Rattle.std.proofs.lemmas.List.{take_more_set}
use Rattle.fax_bitmap.proofs.pixel_words.fill_bytes.Goals as goal

pub bytes-preserved : goal.bytes-preserved
bytes-preserved c =
    let at = c.bytes.at in
    let is = c.bytes.invariant in
    let more : at < length c.bytes.bytes = omega (arith, is.1, c.bytes-test.true) in (
      length-set c.bytes.bytes at c.args.byte ∙ is.0,
      omega (arith, length-set c.bytes.bytes at c.args.byte, more),
      take_more_set c.bytes.bytes at c.args.byte more ∙ ap (λ (l : List ℕ). l ++ c.args.byte ∷ []) is.2
          ∙ replicate-append-replicate at 1 c.args.byte,
    )

pub returns : goal.returns
returns c =
    let is = c.bytes.invariant in
    let all : c.bytes.at ≡ length c.args.bytes.now = omega (arith, is.0, is.1, c.bytes-test.false) in
    sym (take_all c.bytes.at c.bytes.bytes (omega (arith, is.0, all))) ∙ is.2 ∙ ap (λ (n : ℕ). replicate n c.args.byte) all
