use Rattle.fax_feeds.proofs.Names.{◌≡◌, ◌≤◌, ◌<◌, ◌+◌, ◌∙◌, ap, sym, subst, refl, arith, common_steps, here, codes_of, cases_lt}
use Rattle.fax_feeds.proofs.Names.{inl, inr, Color, Context, DecodeSettings, Ok, Err, opposite, read_code, false, true}
use Rattle.fax_bits.specs.Faults.{misses_end}
use Rattle.fax_feeds.specs.declared.line_parts.KeptPart.{KeptPart}
use Rattle.fax_bits.proofs.CodeWords.ReadRuns.{some_where}
use Rattle.fax_feeds.proofs.DrawingLines.PartsOfLines.{goes_in_run, lawful_after, makeup_ends, part_after_makeup}
use Rattle.fax_feeds.proofs.DrawingLines.PartsOfLines.{part_after_run, run_ends_line, stops_in_run, word_fails}
use Rattle.fax_feeds.proofs.line_parts.read_next_run.Goals.{In-Ok, In-Err, After-from-in-Ok-4}
use Rattle.fax_feeds.proofs.line_parts.read_next_run.Goals as goal
use Rattle.fax_bits.proofs.ErrorKinds.{missing_end}

-- the word is one of the part's colour
own_word : (c : In-Ok) → read_code (codes_of c.args.part.now.color) (here c.args.reader.now)
    ≡ Ok (c.in-Ok.n, here c.read_word.new.reader)
own_word c = subst (λ (k : Color). read_code (codes_of k) (here c.args.reader.now) ≡ Ok (c.in-Ok.n, here c.read_word.new.reader))
    (sym c.requires.color) c.in-Ok.ensures.word

own_fault : (c : In-Err) → read_code (codes_of c.args.part.now.color) (here c.args.reader.now) ≡ Err c.in-Err.error
own_fault c = subst (λ (k : Color). read_code (codes_of k) (here c.args.reader.now) ≡ Err c.in-Err.error) (sym c.requires.color)
    c.in-Err.ensures.word

pub returns-in_default-clause-steps : goal.returns-in_default-clause-steps
returns-in_default-clause-steps c =
    let held = c.args.ctx.now.held in
    let part = c.args.part.now in
    let over : 4294967295 < part.total + c.in-Ok.n
    = grind (arith, common_steps, c.checked_add.ensures, c.in_default.is, c.from.ensures) in
    stops_in_run part c.args.ctx.now c.read_word.new.ctx c.args.reader.now c.read_word.new.reader false c.read_word.ensures.frame
    c.read_word.ensures.same_bits c.read_word.ensures.onward c.requires.lawful (λ e. cc)
    (makeup_ends held.settings held.reference part c.requires.run (here c.args.reader.now) c.in-Ok.n (here c.read_word.new.reader)
    (own_word (goal.at.returns-in_default-clause-steps c).In-Ok) over)

pub returns-then-n-ge64-clause-steps : goal.returns-then-n-ge64-clause-steps
returns-then-n-ge64-clause-steps c =
    let held = c.args.ctx.now.held in
    let part = c.args.part.now in
    let own = own_word (goal.at.returns-then-n-ge64-clause-steps c).In-Ok in
    let sum = some_where c.checked_add.result c.in-Some.total c.checked_add.ensures c.in-Some.is in
    let total : c.in-Some.total ≡ part.total + c.in-Ok.n = omega (arith, sum.1, c.from.ensures) in
    goes_in_run part (record part { total = c.in-Some.total }) c.args.ctx.now c.read_word.new.ctx c.args.reader.now
    c.read_word.new.reader c.in-Ok.n c.args.color own c.read_word.ensures.frame c.read_word.ensures.same_bits
    (record { within = c.requires.lawful.within; passed = c.requires.lawful.passed }) refl
    (record { line = c.requires.run.line; run = c.requires.run.run; last = c.requires.run.last }) c.requires.color
    (rw total (part_after_makeup held.settings held.reference part c.requires.run (here c.args.reader.now) c.in-Ok.n
    (here c.read_word.new.reader) own (omega (arith, c.if-n-ge64.true)) (omega (arith, sum.0, c.from.ensures))))

-- the width
columns_are : (c : After-from-in-Ok-4) → c.from-in-Ok-4.result ≡ c.args.ctx.now.held.settings.columns
columns_are c = c.from-in-Ok-4.ensures ∙ ap (λ (s : DecodeSettings). s.columns) c.settings.ensures.value
    ∙ ap (λ (x : Context). x.held.settings.columns) c.read_word.ensures.frame

pub returns-then-end-from-clause-steps : goal.returns-then-end-from-clause-steps
returns-then-end-from-clause-steps c =
    let held = c.args.ctx.now.held in
    let part = c.args.part.now in
    let at = goal.at.returns-then-end-from-clause-steps c in
    let own = own_word at.In-Ok in
    let full : held.settings.columns ≤ part.painted + (part.total + c.in-Ok.n)
    = omega (
      arith,
      c.if-end-from.true,
      columns_are at.After-from-in-Ok-4,
      c.from-in-Ok.ensures,
      c.from-in-Ok-2.ensures,
      c.from-in-Ok-3.ensures,
    ) in
    stops_in_run part c.args.ctx.now c.read_word.new.ctx c.args.reader.now c.read_word.new.reader false c.read_word.ensures.frame
    c.read_word.ensures.same_bits c.read_word.ensures.onward c.requires.lawful (λ e. cc)
    (elim (cases_lt 4294967295 (part.total + c.in-Ok.n)) [
      | inl over ↦ makeup_ends held.settings held.reference part c.requires.run (here c.args.reader.now) c.in-Ok.n
          (here c.read_word.new.reader) own over
      | inr fits ↦ run_ends_line held.settings held.reference part c.requires.run c.in-Ok.n (here c.args.reader.now)
          (here c.read_word.new.reader) own (omega (arith, c.if-n-ge64.false)) fits c.requires.lawful.within full
    ])

pub returns-else-end-from-clause-steps : goal.returns-else-end-from-clause-steps
returns-else-end-from-clause-steps c =
    let held = c.args.ctx.now.held in
    let part = c.args.part.now in
    let at = goal.at.returns-else-end-from-clause-steps c in
    let own = own_word at.In-Ok in
    let painted = c.from-in-Ok.result + c.from-in-Ok-2.result + c.from-in-Ok-3.result in
    let new : KeptPart = record part { color = c.opposite-part.result; total = 0; painted = painted } in
    let there : painted ≡ part.painted + (part.total + c.in-Ok.n)
    = omega (arith, c.from-in-Ok.ensures, c.from-in-Ok-2.ensures, c.from-in-Ok-3.ensures) in
    let within : painted < held.settings.columns = omega (arith, c.if-end-from.false, columns_are at.After-from-in-Ok-4) in
    goes_in_run part new c.args.ctx.now c.read_word.new.ctx c.args.reader.now c.read_word.new.reader c.in-Ok.n
    (opposite c.args.color) own c.read_word.ensures.frame c.read_word.ensures.same_bits
    (lawful_after held.settings held.reference new part.painted part.passed c.requires.lawful.passed refl (omega (arith, there))
    (omega (arith, within))) refl (record { line = c.requires.run.line; run = c.requires.run.run; last = c.requires.run.last })
    c.opposite-part.ensures
    (rw (there, c.opposite-part.ensures, sym c.requires.color)
    (part_after_run held.settings held.reference part c.requires.run c.in-Ok.n (here c.args.reader.now)
    (here c.read_word.new.reader) own (omega (arith, c.if-n-ge64.false)) (omega (arith, there, within))
    (omega (arith, there, within))))

pub returns-then-misses_end-clause-steps : goal.returns-then-misses_end-clause-steps
returns-then-misses_end-clause-steps c =
    let held = c.args.ctx.now.held in
    let part = c.args.part.now in
    let missing : misses_end c.in-Err.error ≡ true = sym c.misses_end.ensures ∙ c.if-misses_end.true in
    stops_in_run part c.args.ctx.now c.read_word.new.ctx c.args.reader.now c.read_word.new.reader true c.read_word.ensures.frame
    c.read_word.ensures.same_bits c.read_word.ensures.onward c.requires.lawful (λ e. c.read_word.ensures.lacking (c.in-Err.is
    ∙ ap Err (missing_end c.in-Err.error missing)))
    (λ start is. word_fails held.settings held.reference part c.requires.run (here c.args.reader.now) c.in-Err.error
    (own_fault (goal.at.returns-then-misses_end-clause-steps c).In-Err) start is ∙ missing)

pub returns-else-misses_end-clause-steps : goal.returns-else-misses_end-clause-steps
returns-else-misses_end-clause-steps c =
    let held = c.args.ctx.now.held in
    let part = c.args.part.now in
    stops_in_run part c.args.ctx.now c.read_word.new.ctx c.args.reader.now c.read_word.new.reader false c.read_word.ensures.frame
    c.read_word.ensures.same_bits c.read_word.ensures.onward c.requires.lawful (λ e. cc)
    (λ start is. word_fails held.settings held.reference part c.requires.run (here c.args.reader.now) c.in-Err.error
    (own_fault (goal.at.returns-else-misses_end-clause-steps c).In-Err) start is
    ∙ sym c.misses_end.ensures ∙ c.if-misses_end.false)
