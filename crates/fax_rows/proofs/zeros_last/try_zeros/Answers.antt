use Rattle.fax_rows.proofs.Names.{◌≡◌, ◌∙◌, ◌+◌, ◌-◌, ◌%◌, ap, sym, subst, arith, here, true, false, false≢true, Bool, ℕ}
use Rattle.fax_rows.proofs.Readings.ZeroLines.{tries_zeros, zero_line_counts}
use Rattle.fax_rows.specs.RowsTried.{TriesRow}
use Rattle.fax_rows.specs.ZerosLast.{zeros_at}
use Rattle.fax_rows.proofs.zeros_last.try_zeros.Goals.{then-tag, else-tag}
use Rattle.fax_rows.proofs.zeros_last.try_zeros.Goals as goal

pub returns : goal.returns
returns c = record {
  row = λ wide tagged.
      let old = c.args.ctx.now in
      let call = c.try_row in
      let zeros = c.args.zeros in
      let tag = c.args.tag in
      let all = λ (m : ℕ). TriesRow true old call.new.ctx call.result (zeros_at tag m) (zeros_at tag m) in
      elim c.if-tag.branch [
        | then-tag w ↦
            let m = 11 + (zeros - 11) % 8 in
            let long : m + (zeros - m) ≡ zeros = omega (arith, c.requires.enough) in
            let is : here c.placed_at-reader.result ≡ (zeros_at tag m).bits =
            ap here c.placed_at-reader.ensures ∙ c.bytes_of_zeros-bytes.ensures.tagged w.if-tag.true
            ∙ ap (λ (n : ℕ). (zeros_at true n).bits) (omega (arith, w.tags-is))
            ∙ ap (λ (b : Bool). (zeros_at b m).bits) (sym w.if-tag.true) in
            subst all long (tries_zeros old call.new.ctx call.result c.placed_at-reader.result call.new.reader call.ensures.row
            call.ensures.put_back tag m (zeros - m) is wide tagged (omega arith)
            (λ none. absurd (false≢true (sym none ∙ w.if-tag.true))) (omega (arith, c.requires.enough)))
        | else-tag w ↦
            let m = 12 + (zeros - 12) % 8 in
            let long : m + (zeros - m) ≡ zeros = omega (arith, c.requires.enough) in
            let is : here c.placed_at-reader.result ≡ (zeros_at tag m).bits =
            ap here c.placed_at-reader.ensures ∙ c.bytes_of_zeros-bytes.ensures.plain w.if-tag.false
            ∙ ap (λ (n : ℕ). (zeros_at false n).bits) (omega (arith, w.tags-is))
            ∙ ap (λ (b : Bool). (zeros_at b m).bits) (sym w.if-tag.false) in
            subst all long (tries_zeros old call.new.ctx call.result c.placed_at-reader.result call.new.reader call.ensures.row
            call.ensures.put_back tag m (zeros - m) is wide tagged (omega arith) (λ none. omega arith)
            (omega (arith, c.requires.enough)))
      ];
  counts = zero_line_counts c.args.ctx.now c.try_row.new.ctx c.try_row.result c.placed_at-reader.result c.try_row.new.reader
      c.try_row.ensures.row;
}
