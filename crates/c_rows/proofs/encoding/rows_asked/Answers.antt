use Rattle.std.proofs.Common.{◌≡◌, ◌+◌, ◌-◌, ◌/◌, ◌<◌, ◌≤◌, ℕ, suc, length, sym, ap, ◌∙◌, arith}
use Rattle.c_rows.specs.Encoding.{layout_asked}
use Rattle.c_rows.specs.Packing.{bytes_of_row}
use Rattle.c_rows.specs.declared.packed_rows.Layout.{Layout}
use Rattle.c_rows.proofs.SpreadRows.{length-rows_read, none_within, some_within}
use Rattle.c_rows.proofs.encoding.rows_asked.Goals as goal

pub returns-then-bitmap-width : goal.returns-then-bitmap-width
returns-then-bitmap-width c =
    let layout : Layout = layout_asked c.args.settings.now in
    let columns : ℕ = c.args.settings.now.columns in
    let few : length c.args.bitmap.now < bytes_of_row columns = omega (arith, c.div_ceil-width.ensures, c.if-bitmap-width.true) in
    sym (length-rows_read layout columns c.args.bitmap.now ∙ none_within layout.stride columns (length c.args.bitmap.now) few)

pub returns : goal.returns
returns c =
    let layout : Layout = layout_asked c.args.settings.now in
    let columns : ℕ = c.args.settings.now.columns in
    let bytes : ℕ = length c.args.bitmap.now in
    let width : c.div_ceil-width.result ≡ bytes_of_row columns = omega (arith, c.div_ceil-width.ensures) in
    let some : bytes_of_row columns ≤ bytes = omega (arith, width, c.if-bitmap-width.false) in
    let one : (bytes - bytes_of_row columns) / layout.stride + 1 ≡ suc ((bytes - bytes_of_row columns) / layout.stride) =
    omega arith in
    ap (λ (n : ℕ). (bytes - n) / c.layout_asked.result.stride + 1) width
    ∙ ap (λ (l : Layout). (bytes - bytes_of_row columns) / l.stride + 1) c.layout_asked.ensures
    ∙ one ∙ sym (length-rows_read layout columns c.args.bitmap.now ∙ some_within layout.stride columns bytes some)
