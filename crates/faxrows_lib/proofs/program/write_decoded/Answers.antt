use Rattle.faxrows_lib.proofs.Names.{rules, ◌≡◌, ◌++◌, List, ℕ, subst, sym, take, ◌∙◌, Appends, AppendsFront, Bits}
use Rattle.faxrows_lib.proofs.Names.{DecodeSettings, Done}
use Rattle.faxrows_lib.proofs.Names.{Appends-trans, IsRowsText, bits_in, done_of, rows_of, lines_of_rows, line_of_outcome}
use Rattle.faxrows_lib.proofs.{Outputs.front_after, Outputs.front_of_more, ProgramRuns.wrote, program.write_decoded.Given.Over}
use Rattle.faxrows_lib.proofs.Texts.{ends_after, is_rows_text, sink_text}
use Rattle.faxrows_lib.proofs.program.write_decoded.Goals.{After-text-lines}
use Rattle.faxrows_lib.proofs.program.write_decoded.Goals as goal

module _ (g : Over) (c : After-text-lines g) where
  abbrev settings : DecodeSettings
  settings = c.args.ctx.now.held.settings

  -- the bits of the bytes
  abbrev bits : Bits
  bits = bits_in c.args.order c.args.input.now

  -- the sink's text is the lines of the accepted rows
  lines : c.text-lines.result.now ≡ lines_of_rows (take c.decode_in-outcome.new.ctx.held.taken (rows_of settings bits))
  lines = c.text-lines.ensures ∙ sink_text settings bits _ _ _ _ (search rules) c.decode_in-outcome.ensures.decodes.reading

  -- with the last line it is one of the end
  is_text : IsRowsText settings bits (done_of c.decode_in-outcome.result)
      (c.text-lines.result.now ++ line_of_outcome c.decode_in-outcome.result)
  is_text =
      subst (λ (l : List ℕ). IsRowsText settings bits (done_of c.decode_in-outcome.result)
      (l ++ line_of_outcome c.decode_in-outcome.result)) (sym lines) (is_rows_text settings bits _ c.decode_in-outcome.result
      (ends_after _ settings bits _ _ _ _ c.decode_in-outcome.ensures.decodes.reading c.decode_in-outcome.ensures.decodes.short))

pub returns-in_err-write_all : goal.returns-in_err-write_all
returns-in_err-write_all g c =
    let at = (goal.at.returns-in_err-write_all g c).After-text-lines in
    let front : (done : Done) × (text : List ℕ) × IsRowsText (settings g at) (bits g at) done text
    × AppendsFront (g.W.Write.contents c.args.writer.now.0) (g.W.Write.contents c.write_all.new.writer.0) text = (
      done_of c.decode_in-outcome.result,
      c.text-lines.result.now ++ line_of_outcome c.decode_in-outcome.result,
      is_text g at,
      front_of_more _ _ _ (line_of_outcome c.decode_in-outcome.result) c.in_err-write_all.ensures.front,
    ) in
    search rules

pub returns-in_err-write_last_line : goal.returns-in_err-write_last_line
returns-in_err-write_last_line g c =
    let at = (goal.at.returns-in_err-write_last_line g c).After-text-lines in
    let last = c.in_err-write_last_line.ensures.writes.front in
    let front : (done : Done) × (text : List ℕ) × IsRowsText (settings g at) (bits g at) done text
    × AppendsFront (g.W.Write.contents c.args.writer.now.0) (g.W.Write.contents c.write_last_line.new.writer.0) text = (
      done_of c.decode_in-outcome.result,
      c.text-lines.result.now ++ line_of_outcome c.decode_in-outcome.result,
      is_text g at,
      front_after _ _ _ _ _ c.in_ok-write_all.ensures.ok (subst (AppendsFront _ _) last.2 last.3),
    ) in
    search rules

pub returns : goal.returns
returns g c =
    let at = (goal.at.returns g c).After-text-lines in
    let last = c.in_ok-write_last_line.ensures.writes.written in
    record {
      writes = wrote _ _ c.done_of.result (c.text-lines.result.now ++ line_of_outcome c.decode_in-outcome.result)
          (rw c.done_of.ensures (is_text g at))
          (Appends-trans _ _ _ _ _ c.in_ok-write_all.ensures.ok (subst (Appends _ _) last.1 last.2))
          (c.in_ok-write_last_line.ensures.writes.flag ∙ c.in_ok-write_all.ensures.flag);
    }
