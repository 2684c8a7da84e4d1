use Rattle.hayro_ccitt.proofs.Names.{common_steps}
use Rattle.hayro_ccitt.proofs.Names.{rules, ◌≡◌, ℕ, ◌+◌, ◌*◌, ◌≤◌, ◌⊎◌, true, [], ◌∷◌, length, drop, Some, None, sym, ap, subst}
use Rattle.hayro_ccitt.proofs.Names.{◌∙◌}
use Rattle.hayro_ccitt.proofs.Names.{arith, DecodeSettings, Bits, BitsAt, here, Held, after_eol, tagged_eols, looked}
use Rattle.hayro_ccitt.proofs.Names.{most_for_lines}
use Rattle.hayro_ccitt.proofs.{EncodedPictures.PicturesT4.eols_here_two, reach.rows_before_1d.Goals.After-read_tagged_eols-count}
use Rattle.hayro_ccitt.proofs.reach.rows_before_1d.Goals.{After-is_before_1d}
use Rattle.hayro_ccitt.proofs.DamagedLines.LinesPassed.{before_1d, not_before_1d, counted_on, last_line_counted, counted_none}
use Rattle.hayro_ccitt.proofs.DamagedLines.LinesPassed.{no_eol_no_end, no_eol_no_line, no_line_there}
use Rattle.hayro_ccitt.proofs.DamagedLines.PassedWork.{line_paid, lines_end, lines_end_after}
use Rattle.hayro_ccitt.proofs.Readings.TurnsMoveOn.{eols_here_counted}
use Rattle.fax_bits.proofs.BitReading.ConsecutiveEols.{after_eol_shorter}
use Rattle.hayro_ccitt.proofs.reach.rows_before_1d.Goals as goal

pub returns-then-not-pass_eol-clause-rows : goal.returns-then-not-pass_eol-clause-rows
returns-then-not-pass_eol-clause-rows c =
    let settings = c.args.ctx.now.held.settings in
    let now = here c.lines.reader in
    let none : after_eol 0 now ≡ None
    = ap (λ (at : BitsAt). after_eol 0 (here at)) (sym c.copy-line.ensures.value) ∙ c.if-not-pass_eol.ensures.eol in
    counted_none settings (here c.args.reader.now) now c.lines.rows c.lines.invariant.4 (no_eol_no_end settings now none)
    (no_eol_no_line now none)

-- what comes before the tag of the next line
module _ (c : After-read_tagged_eols-count) where
  eol_there : after_eol 0 (here c.lines.reader) ≡ Some (here c.pass_eol.new.reader)
  eol_there =
      ap (λ (at : BitsAt). after_eol 0 (here at)) (sym c.copy-line.ensures.value) ∙ c.if-not-pass_eol.ensures.eol

  eols_counted : tagged_eols (here c.lines.reader) ≡ (c.read_tagged_eols-count.result, here c.read_tagged_eols-count.new.self)
  eols_counted =
      ap (λ (at : BitsAt). tagged_eols (here at)) (sym c.copy-after.ensures.value) ∙ c.read_tagged_eols-count.ensures.eols

same_settings : (c : After-is_before_1d) → c.settings.result ≡ c.args.ctx.now.held.settings
same_settings c = c.settings.ensures.value ∙ ap (λ (h : Held). h.settings) c.lines.invariant.1

pub returns-then-is_before_1d-clause-rows : goal.returns-then-is_before_1d-clause-rows
returns-then-is_before_1d-clause-rows c =
    let at = (goal.at.returns-then-is_before_1d-clause-rows c).After-read_tagged_eols-count in
    let settings = c.args.ctx.now.held.settings in
    let now = here c.lines.reader in
    let rest = here c.read_tagged_eols-count.new.self in
    let count = c.read_tagged_eols-count.result in
    last_line_counted settings (here c.args.reader.now) now c.lines.rows c.lines.invariant.4
    (before_1d settings now (here c.pass_eol.new.reader) rest count (eol_there at) (eols_counted at)
    (subst (λ (s : DecodeSettings). ((s.end_of_block ≡ true) × (6 ≤ count))
    ⊎ (((line : Bits) × (rest ≡ true ∷ line)) ⊎ (rest ≡ [])))
    (same_settings (goal.at.returns-then-is_before_1d-clause-rows c).After-is_before_1d)
    (c.is_before_1d.ensures.ends c.if-is_before_1d.true)))

pub returns-then-not-pass_line-clause-rows : goal.returns-then-not-pass_line-clause-rows
returns-then-not-pass_line-clause-rows c =
    let at = (goal.at.returns-then-not-pass_line-clause-rows c).After-read_tagged_eols-count in
    let settings = c.args.ctx.now.held.settings in
    let now = here c.lines.reader in
    let tag = c.is_before_1d.ensures.zero c.if-is_before_1d.false in
    counted_none settings (here c.args.reader.now) now c.lines.rows c.lines.invariant.4
    (not_before_1d settings now (here c.read_tagged_eols-count.new.self) tag.0 c.read_tagged_eols-count.result (eols_counted at)
    (λ block six. c.is_before_1d.ensures.no_rtc c.if-is_before_1d.false
    (ap (λ (s : DecodeSettings). s.end_of_block)
    (same_settings (goal.at.returns-then-not-pass_line-clause-rows c).After-is_before_1d) ∙ block) six) tag.1)
    (no_line_there now (here c.pass_eol.new.reader) (eol_there at) (c.pass_line.ensures.no_line c.if-not-pass_line.true))

-- what is counted until the tag of the next line
counted_to_tag : (c : After-read_tagged_eols-count) → c.args.ctx.now.ticks ≤ c.read_tagged_eols-count.new.ticks
counted_to_tag c =
    let settings = c.args.ctx.now.held.settings in
    let now = here c.lines.reader in
    omega (
      arith,
      c.lines.invariant.2,
      c.ticks.ensures.value,
      c.pass_eol.ensures.ticks,
      c.ticks-in-lines.ensures.value,
      c.read_tagged_eols-count.ensures.at_least,
      ap (λ (at : BitsAt). length (here at)) c.copy-after.ensures.value,
      (eols_here_counted settings now).0,
      ap (λ (e : ℕ × Bits). length e.1) (eols_here_two settings now c.requires.encoding ∙ eols_counted c),
    )

pub returns-then-is_before_1d-clause-only_ticks : goal.returns-then-is_before_1d-clause-only_ticks
returns-then-is_before_1d-clause-only_ticks c = record {
  held = search rules;
  counts =
      counted_to_tag (goal.at.returns-then-is_before_1d-clause-only_ticks c).After-read_tagged_eols-count;
  space = search rules;
}

pub returns-then-not-pass_line-clause-only_ticks : goal.returns-then-not-pass_line-clause-only_ticks
returns-then-not-pass_line-clause-only_ticks c = record {
  held = search rules;
  counts =
      omega (
        arith,
        counted_to_tag (goal.at.returns-then-not-pass_line-clause-only_ticks c).After-read_tagged_eols-count,
        c.pass_line.ensures.only_ticks.counts,
      );
  space = search rules;
}

-- the EOL is examined, and then it and those that follow with their tags
read : (c : After-read_tagged_eols-count) → c.pass_eol.new.ticks ≡ c.lines.ctx.ticks + looked (here c.lines.reader)
read c = grind (arith, common_steps)

ahead : (c : After-read_tagged_eols-count)
    → c.read_tagged_eols-count.new.ticks + 2 * length (here c.read_tagged_eols-count.new.self)
    ≤ c.pass_eol.new.ticks + 2 * length (here c.lines.reader) + 3 + looked (drop 1 (here c.read_tagged_eols-count.new.self))
ahead c = grind (arith, common_steps)

pub returns-then-not-pass_eol-clause-at_most : goal.returns-then-not-pass_eol-clause-at_most
returns-then-not-pass_eol-clause-at_most c =
    lines_end (here c.args.reader.now) (here c.lines.reader) c.args.ctx.now.ticks c.lines.ctx.ticks c.pass_eol.new.ticks
    c.lines.invariant.5 (omega (
      arith,
      c.ticks.ensures.value,
      c.pass_eol.ensures.ticks,
      ap (λ (at : BitsAt). looked (here at)) c.copy-line.ensures.value,
    ))

-- where no line follows, what was counted is within the bound, and so are three times the bits after the EOL
within_bound : (c : After-read_tagged_eols-count) (now : ℕ)
    → now ≤ c.read_tagged_eols-count.new.ticks + 3 * length (here c.pass_eol.new.reader)
    → now ≤ c.args.ctx.now.ticks + most_for_lines (length (here c.args.reader.now))
within_bound c now passed =
    lines_end_after (here c.args.reader.now) (here c.lines.reader) (here c.pass_eol.new.reader)
    (here c.read_tagged_eols-count.new.self) c.args.ctx.now.ticks c.lines.ctx.ticks c.pass_eol.new.ticks
    c.read_tagged_eols-count.new.ticks now c.lines.invariant.5 (eol_there c) (read c) (ahead c) passed

pub returns-then-is_before_1d-clause-at_most : goal.returns-then-is_before_1d-clause-at_most
returns-then-is_before_1d-clause-at_most c =
    within_bound (goal.at.returns-then-is_before_1d-clause-at_most c).After-read_tagged_eols-count
    c.read_tagged_eols-count.new.ticks (omega arith)

pub returns-then-not-pass_line-clause-at_most : goal.returns-then-not-pass_line-clause-at_most
returns-then-not-pass_line-clause-at_most c =
    within_bound (goal.at.returns-then-not-pass_line-clause-at_most c).After-read_tagged_eols-count c.pass_line.new.ctx.ticks
    (omega (arith, c.pass_line.ensures.at_most))

pub lines-smaller : goal.lines-smaller
lines-smaller c = grind (arith, common_steps, after_eol_shorter)

pub lines-preserved : goal.lines-preserved
lines-preserved c =
    let at = (goal.at.lines-preserved c).After-read_tagged_eols-count in
    let now = here c.lines.reader in
    let eol = eol_there at in
    let line = c.pass_line.ensures.line c.if-not-pass_line.false in (
      c.pass_line.ensures.same_bits ∙ c.pass_eol.ensures.same_bits ∙ ap (λ (at : BitsAt). at.bits) c.copy-line.ensures.value
          ∙ c.lines.invariant.0,
      c.pass_line.ensures.only_ticks.held ∙ c.lines.invariant.1,
      omega (
        arith,
        counted_to_tag at,
        c.pass_line.ensures.only_ticks.counts,
      ),
      omega (
        arith,
        c.lines.invariant.3,
        c.pass_line.ensures.onward,
        after_eol_shorter 0 now (here c.pass_eol.new.reader) eol,
      ),
      counted_on c.args.ctx.now.held.settings (here c.args.reader.now) now line.0 (here c.pass_line.new.reader) c.lines.rows
          c.lines.invariant.4 (eol ∙ ap (λ (b : Bits). Some b) line.1) line.2,
      line_paid (here c.args.reader.now) now line.0 (here c.pass_line.new.reader) (here c.read_tagged_eols-count.new.self)
          c.read_tagged_eols-count.result c.args.ctx.now.ticks c.lines.ctx.ticks c.pass_eol.new.ticks
          c.read_tagged_eols-count.new.ticks c.pass_line.new.ctx.ticks c.lines.invariant.5
          (eol ∙ ap (λ (b : Bits). Some b) line.1) line.2
          (eols_counted at) (read at) (ahead at)
          (omega (arith, c.pass_line.ensures.to_eol c.if-not-pass_line.false, ap length line.1)),
      c.pass_line.ensures.only_ticks.space ∙ c.lines.invariant.6,
    )
