use Rattle.fax_encode.proofs.Names.{◌≡◌, ◌-◌, ◌++◌, List, ℕ, length, take, drop, refl, sym, ap, subst, ◌∙◌, arith, Vec, Bits}
use Rattle.fax_encode.proofs.Names.{bits_of, Row, AreChanges, pixels, bytes_of_row, shown, chosen_part, left_after, all_bits}
use Rattle.fax_encode.proofs.LinesOfPictures.{line_written, all_written}
use Rattle.fax_encode.proofs.Names.{[], ◌*◌, false, eqb-true, nil_from_length}
use Rattle.fax_encode.proofs.Names.{replicate, take_rest, vec_len, lines_left, white_row}
use Rattle.fax_encode.proofs.WhiteRowLines.{white_shown}
use Rattle.fax_encode.proofs.ScannedRows.{rows_below, shown-none}
use Rattle.fax_encode.proofs.by_settings.put_bitmap.Goals as goal

pub put_part-requires-clause-changes : goal.put_part-requires-clause-changes
put_part-requires-clause-changes c =
    subst (AreChanges c.args.columns) (sym c.as_slice-in-loop-rest.ensures.value) c.in_ok-scan_row.ensures.lawful

pub loop-rest-preserved : goal.loop-rest-preserved
loop-rest-preserved c =
    let columns : ℕ = c.args.columns in
    let found : List ℕ = c.scan_row.new.list.items in
    let row : Row = take columns (bits_of c.loop-rest.rest.now) in
    let reference : Row = pixels columns c.loop-rest.reference.items in
    let old : Bits = all_bits c.loop-rest.writer in
    let new : Bits = all_bits c.put_part.new.writer in
    let width : c.div_ceil-width.result ≡ bytes_of_row columns = omega (arith, c.div_ceil-width.ensures) in
    let above : pixels columns c.as_slice.result.now ≡ reference = ap (pixels columns) c.as_slice.ensures.value in
    let here : pixels columns c.as_slice-in-loop-rest.result.now ≡ row =
    ap (pixels columns) c.as_slice-in-loop-rest.ensures.value ∙ c.in_ok-scan_row.ensures.pixels in
    let written : new ≡ old ++ chosen_part c.args.settings (length old) c.loop-rest.left reference row =
    c.in_ok-left-2.ensures.written ∙ ap (λ (r : Row).
    old ++ chosen_part c.args.settings (length old) c.loop-rest.left r (pixels columns c.as_slice-in-loop-rest.result.now)) above
    ∙ ap (λ (r : Row). old ++ chosen_part c.args.settings (length old) c.loop-rest.left reference r) here in
    let left : c.in_ok-left-2.left
    ≡ left_after c.args.settings.effort c.args.settings.encoding c.args.settings.k c.loop-rest.left reference row =
    c.in_ok-left-2.ensures.left
    ∙ ap (λ (r : Row). left_after c.args.settings.effort c.args.settings.encoding c.args.settings.k c.loop-rest.left r
    (pixels columns c.as_slice-in-loop-rest.result.now)) above
    ∙ ap (λ (r : Row). left_after c.args.settings.effort c.args.settings.encoding c.args.settings.k
    c.loop-rest.left reference r) here in
    let swapped : c.swap.new.x.items ≡ found = ap (λ (v : Vec ℕ _). v.items) c.swap.ensures.x_after in
    let rest : List ℕ =
    take (length c.loop-rest.rest.now - c.div_ceil-width.result) (drop c.div_ceil-width.result c.loop-rest.rest.now) in
    let rows : List Row = shown columns rest in
    let below =
    rows_below columns c.div_ceil-width.result c.loop-rest.rest.now rest c.requires.some width c.loop-rest-test.true refl in
    record {
      lawful = subst (AreChanges columns) (sym swapped) c.in_ok-scan_row.ensures.lawful;
      whole = c.in_ok-left-2.ensures.whole;
      lines = c.loop-rest.invariant.lines;
      written = ap (λ (l : List ℕ). new ++ lines_left c.args.settings (length new) c.in_ok-left-2.left (pixels columns l) rows)
          swapped ∙ ap (λ (r : Row). new ++ lines_left c.args.settings (length new) c.in_ok-left-2.left r rows)
          c.in_ok-scan_row.ensures.pixels ∙ ap (λ (n : ℕ). new ++ lines_left c.args.settings (length new) n row rows) left
          ∙ line_written c.args.settings c.loop-rest.left reference row rows old new written ∙ ap (λ (l : List Row). old
          ++ lines_left c.args.settings (length old) c.loop-rest.left reference l) (sym below) ∙ c.loop-rest.invariant.written;
    }

pub overflow_mul-rest : goal.overflow_mul-rest
overflow_mul-rest c = omega (arith, c.white_rows-count.ensures.fits)

pub lines_for-requires : goal.lines_for-requires
lines_for-requires c = c.loop-rest.invariant.lines

pub loop-rest-preserved-then-count-gt0 : goal.loop-rest-preserved-then-count-gt0
loop-rest-preserved-then-count-gt0 c =
    let columns : ℕ = c.args.columns in
    let white : Row = white_row columns in
    let old : Bits = all_bits c.loop-rest.writer in
    let new : Bits = all_bits c.put_white_lines.new.writer in
    let count : ℕ = c.white_rows-count.result in
    let bytes : ℕ = count * c.div_ceil-width.result in
    let all : List ℕ = c.loop-rest.rest.now in
    let rest : List ℕ = take (length all - bytes) (drop bytes all) in
    let none : c.loop-rest.reference.items ≡ [] = nil_from_length c.loop-rest.reference.items
    (omega (arith, eqb-true (vec_len c.loop-rest.reference) 0 (sym c.is_empty.ensures ∙ c.if-is_empty.true))) in
    let all_white : columns - 0 ≡ columns = omega arith in
    let above : pixels columns c.loop-rest.reference.items ≡ white =
    ap (pixels columns) none ∙ ap (λ (n : ℕ). replicate n false) all_white in
    let width : c.div_ceil-width.result ≡ bytes_of_row columns = omega (arith, c.div_ceil-width.ensures) in
    let below : shown columns all ≡ replicate count white ++ shown columns rest =
    white_shown columns c.div_ceil-width.result count all rest c.requires.some width c.white_rows-count.ensures.within
    c.white_rows-count.ensures.white (take_rest all bytes) in
    record {
      lawful = c.loop-rest.invariant.lawful;
      whole = c.in_ok-left.ensures.whole;
      lines = c.in_ok-lines.ensures;
      written = ap (λ (r : Row). new ++ lines_left c.args.settings (length new) c.in_ok-left.left r (shown columns rest)) above
          ∙ c.in_ok-left.ensures.written (shown columns rest)
          ∙ ap (λ (l : List Row). old ++ lines_left c.args.settings (length old) c.loop-rest.left white l) (sym below)
          ∙ ap (λ (r : Row). old ++ lines_left c.args.settings (length old) c.loop-rest.left r (shown columns all)) (sym above)
          ∙ c.loop-rest.invariant.written;
    }

pub returns : goal.returns
returns c =
    let columns : ℕ = c.args.columns in
    let now : Bits = all_bits c.loop-rest.writer in
    let reference : Row = pixels columns c.loop-rest.reference.items in
    let few = shown-none columns c.loop-rest.rest.now (omega (arith, c.div_ceil-width.ensures, c.loop-rest-test.false)) in
    all_written c.args.settings columns (length now) c.loop-rest.left reference (shown columns c.args.bitmap.now) now
    (ap (λ (l : List Row). now ++ lines_left c.args.settings (length now) c.loop-rest.left reference l) (sym few)
    ∙ c.loop-rest.invariant.written)
