use Rattle.std.proofs.lemmas.Grind.{common_steps}
use Rattle.std.proofs.Common.{arith, ◌≡◌, ℕ, List, sym, subst, ap, ◌∙◌, IfOk}
use Rattle.hayro_ccitt.specs.Bits.{bits_in}
use Rattle.hayro_ccitt.specs.Rows.{Row}
use Rattle.c_rows.specs.Encoding.{bits_asked}
use Rattle.c_rows.specs.Packing.{rows_read}
use Rattle.c_rows.specs.declared.packed_rows.Layout.{Layout}
use Rattle.c_rows.proofs.SpreadRows.{rows_read-together}
use Rattle.c_rows.proofs.encoding.encode_rows.Goals as goal

pub returns-then-are_together : goal.returns-then-are_together
returns-then-are_together c =
    let columns : ℕ = c.args.columns in
    let rows = ap (λ (l : Layout). rows_read l columns c.args.bitmap.now) (c.are_together.ensures c.if-are_together.true)
    ∙ rows_read-together columns c.args.bitmap.now c.requires.some in
    grind (
      arith,
      common_steps,
      subst (λ (r : List Row). IfOk c.encode_bitmap.result (λ bytes. bits_in c.args.settings.order bytes.items
          ≡ bits_asked c.args.settings columns r)) (sym rows) c.encode_bitmap.ensures.encoded,
    )
