use Rattle.faxrows_lib.proofs.Names.{rules, ◌≡◌, ◌∙◌, ◌++◌, [], List, ℕ, ap, length, subst, sym, Appends, Appends-trans}
use Rattle.faxrows_lib.proofs.Names.{AppendsFront}
use Rattle.faxrows_lib.proofs.Names.{Bits, DecodeSettings, Done, IsDamageText, IsDamageWithoutMemory, Outcome, PassesOn, done_of}
use Rattle.faxrows_lib.proofs.Names.{damage_after, damage_lines, last_line_of_damage, outcome_of, rows_of, whole_damage}
use Rattle.faxrows_lib.proofs.{DamageTexts.is_damage_text, ProgramRuns.wrote, Texts.whole_end, damage.write_damage.Given.Over}
use Rattle.faxrows_lib.proofs.Outputs.{passes_both, front_following, front_of_more, front_of_waiting}
use Rattle.faxrows_lib.proofs.damage.write_damage.Goals.{After-put_end}
use Rattle.faxrows_lib.proofs.damage.write_damage.Goals as goal

module _ (g : Over) (c : After-put_end g) where
  abbrev settings : DecodeSettings
  settings = c.args.rows.now.settings

  abbrev bits : Bits
  bits = c.args.rows.now.bits

  -- how many rows were read
  abbrev read : ℕ
  read = c.put_damage.new.rows.taken

  abbrev outcome : Outcome
  outcome = c.in_ok-outcome.outcome

  -- the damage of the rows that were read, and how the reading ended
  abbrev text : List ℕ
  text = damage_after settings bits read outcome

  is_text : IsDamageText settings bits (done_of outcome) text
  is_text = is_damage_text settings bits read outcome c.in_ok-outcome.ensures.ends

  -- the last line is that of the data that is read
  last_lines : last_line_of_damage c.put_damage.new.rows.settings c.put_damage.new.rows.bits read outcome
      ≡ last_line_of_damage settings bits read outcome
  last_lines =
      ap (λ (s : DecodeSettings). last_line_of_damage s c.put_damage.new.rows.bits read outcome)
      c.in_ok-outcome.ensures.same.settings
      ∙ ap (λ (b : Bits). last_line_of_damage settings b read outcome) c.in_ok-outcome.ensures.same.bits

  -- so the text is passed on, if the last line is
  passes_text : PassesOn (g.W.Write.contents c.put_damage.new.writer.0) (g.W.Write.contents c.put_end.new.writer.0)
      c.put_damage.new.waiting.items (last_line_of_damage c.put_damage.new.rows.settings c.put_damage.new.rows.bits read outcome)
      c.put_end.new.waiting.items
      → PassesOn (g.W.Write.contents c.args.writer.now.0) (g.W.Write.contents c.put_end.new.writer.0) [] text
      c.put_end.new.waiting.items
  passes_text end = passes_both _ _ _ [] _ c.put_damage.new.waiting.items _ c.put_end.new.waiting.items
      c.in_ok-outcome.ensures.lines (subst (λ (l : List ℕ). PassesOn (g.W.Write.contents c.put_damage.new.writer.0)
      (g.W.Write.contents c.put_end.new.writer.0) c.put_damage.new.waiting.items l c.put_end.new.waiting.items) last_lines end)

pub returns-in_err-outcome : goal.returns-in_err-outcome
returns-in_err-outcome g c =
    let settings = c.args.rows.now.settings in
    let bits = c.args.rows.now.bits in
    let all = length (rows_of settings bits) in
    let whole = whole_end (outcome_of settings bits) (whole_damage settings bits) (IsDamageWithoutMemory settings bits) in
    let front : (done : Done) × (text : List ℕ) × IsDamageText settings bits done text
    × AppendsFront (g.W.Write.contents c.args.writer.now.0) (g.W.Write.contents c.put_damage.new.writer.0) text = (
      whole.0,
      whole_damage settings bits,
      whole.1,
      front_of_more _ _ (damage_lines settings bits all) (last_line_of_damage settings bits all (outcome_of settings bits))
          c.in_err-outcome.ensures.front,
    ) in
    search rules

pub returns-in_err-put_end : goal.returns-in_err-put_end
returns-in_err-put_end g c =
    let at = (goal.at.returns-in_err-put_end g c).After-put_end in
    let waits = c.put_damage.new.waiting.items in
    let end : AppendsFront (g.W.Write.contents c.put_damage.new.writer.0) (g.W.Write.contents c.put_end.new.writer.0)
    (waits ++ last_line_of_damage (settings g at) (bits g at) (read g at) (outcome g at))
    = subst (λ (l : List ℕ). AppendsFront (g.W.Write.contents c.put_damage.new.writer.0)
    (g.W.Write.contents c.put_end.new.writer.0) (waits ++ l)) (last_lines g at) c.in_err-put_end.ensures.front in
    let front : (done : Done) × (text : List ℕ) × IsDamageText (settings g at) (bits g at) done text
    × AppendsFront (g.W.Write.contents c.args.writer.now.0) (g.W.Write.contents c.put_end.new.writer.0) text = (
      done_of (outcome g at),
      text g at,
      is_text g at,
      front_following _ _ _ [] (damage_lines (settings g at) (bits g at) (read g at)) waits _ c.in_ok-outcome.ensures.lines end,
    ) in
    search rules

pub returns-in_err-flush : goal.returns-in_err-flush
returns-in_err-flush g c =
    let at = (goal.at.returns-in_err-flush g c).After-put_end in
    let waiting = c.put_end.new.waiting.items in
    let passes = passes_text g at c.in_ok-put_end.ensures.ok in
    let front : (done : Done) × (text : List ℕ) × IsDamageText (settings g at) (bits g at) done text
    × AppendsFront (g.W.Write.contents c.args.writer.now.0) (g.W.Write.contents c.flush.new.writer.0) text = (
      done_of (outcome g at),
      text g at,
      is_text g at,
      front_of_waiting _ _ _ [] (text g at) waiting passes c.in_err-flush.ensures.front,
    ) in
    search rules

pub returns : goal.returns
returns g c =
    let at = (goal.at.returns g c).After-put_end in
    let waiting = c.put_end.new.waiting.items in
    let passes = passes_text g at c.in_ok-put_end.ensures.ok in
    record {
      writes = wrote _ _ c.done_of.result (text g at) (rw c.done_of.ensures (is_text g at))
          (subst (Appends (g.W.Write.contents c.args.writer.now.0) (g.W.Write.contents c.flush.new.writer.0)) (sym passes.2)
          (Appends-trans _ _ _ passes.0 waiting passes.1 c.in_ok-flush.ensures.ok))
          (c.in_ok-flush.ensures.by_writer.flag ∙ c.in_ok-put_end.ensures.fails.flag ∙ c.in_ok-outcome.ensures.by_writer.flag);
    }
