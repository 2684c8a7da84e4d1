use Rattle.fax_rows.proofs.Names.{common_steps}
use Rattle.fax_rows.proofs.Names.{rules, ◌≡◌, ℕ, Bool, true, false, cond, length, Option, Some, None, Ok, refl, sym, ap, ◌∙◌}
use Rattle.fax_rows.proofs.Names.{arith, cond-true, cond-false, DecodeSettings, Bits, here, Context, Held, gap_said, next_eol}
use Rattle.fax_rows.proofs.Names.{Gap, eols_here, misses_eol, is_over, after_eols, from_next_eol, looked, looked_ahead}
use Rattle.fax_rows.proofs.Names.{◌≤◌, tag_tests}
use Rattle.fax_bits.proofs.BitReading.ConsecutiveEols.{next_eol_found}
use Rattle.fax_reading.proofs.Work.EolsPassed.{eols_here_shorter, eols_here_stay, looked_most, sought_looks}
use Rattle.fax_rows.proofs.rows.pass_gap.Goals as goal

-- what follows the EOLs that were found, as a choice
said_of : (over has_eols : Bool) (rest : Bits)
    → cond over (Gap.over (Ok rest)) (Gap.line_at has_eols rest) ≡ gap_said (Ok over) has_eols rest
said_of true has_eols rest = refl
said_of false has_eols rest = refl

pub returns-then-count-gt0-clause-passes : goal.returns-then-count-gt0-clause-passes
returns-then-count-gt0-clause-passes c = record {
  gap = search rules;
  held = search rules;
  missed = search rules;
  given_up = search rules;
  only_code = search rules;
  unchanged = search rules;
  put_back = search rules;
  counts = search rules;
  work = λ kept.
      omega (
        arith,
        c.read_eols-count.ensures.work,
        eols_here_shorter c.args.ctx.now.held.settings (here c.args.reader.now),
        ap (λ (found : ℕ × Bits). length found.1) c.read_eols-count.ensures.eols,
      );
  work_given_up = search rules;
  work_refused = search rules;
}

-- where no EOL is counted, the reader stays
stays : (settings : DecodeSettings) (start : Bits) {now : Bits} {count : ℕ} → eols_here settings start ≡ (count, now)
    → count ≤ 0 → now ≡ start
stays settings start {now} {count} is none =
    eols_here_stay settings start now (is ∙ ap (λ (n : ℕ). (n, now)) (omega (arith, none)))

pub returns-then-not-skip_to_eol-clause-passes : goal.returns-then-not-skip_to_eol-clause-passes
returns-then-not-skip_to_eol-clause-passes c = grind (
  arith,
  common_steps,
  looked_most (here c.args.reader.now),
  stays c.args.ctx.now.held.settings (here c.args.reader.now) c.read_eols-count.ensures.eols c.if-count-gt0.false,
)

pub returns-clause-passes : goal.returns-clause-passes
returns-clause-passes c = record {
  gap =
      let held = c.args.ctx.now.held in
      let settings = held.settings in
      let start = here c.args.reader.now in
      let now = here c.read_eols-count.new.reader in
      let found = here c.skip_to_eol.new.self in
      let rest = here c.read_eols-count-2.new.reader in
      let still : now ≡ start = stays c.args.ctx.now.held.settings (here c.args.reader.now)
      c.read_eols-count.ensures.eols c.if-count-gt0.false in
      let next : next_eol now ≡ Some found
      = c.skip_to_eol.ensures.next ∙ ap (λ (b : Bool). cond {A = Option Bits} b (Some found) None) c.if-not-skip_to_eol.false in
      let misses : misses_eol settings held.taken held.has_eols start ≡ true = search rules in
      let lenient : settings.strict ≡ false = search rules in
      let sought : held.has_eols ≡ true = search rules in
      let eols : ℕ × Bits = (c.read_eols-count-2.result, rest) in
      let same : c.count_missed_eol.new.ctx.held.settings ≡ settings = ap (λ (x : Context). x.held.settings)
      c.count_missed_eol.ensures.frame ∙ ap (λ (h : Held). h.settings) c.read_eols-count.ensures.only_ticks.held in
      let over : is_over settings held.taken eols ≡ c.is_over-2.result
      = sym (c.is_over-2.ensures.over
      ∙ ap (λ (h : Held). is_over h.settings h.taken eols) c.read_eols-count-2.ensures.only_ticks.held
      ∙ ap (λ (x : Context). is_over x.held.settings x.held.taken eols) c.count_missed_eol.ensures.frame
      ∙ ap (λ (h : Held). is_over h.settings h.taken eols) c.read_eols-count.ensures.only_ticks.held) in
      let on : c.read_eols-count-2.new.ctx.held.has_eols ≡ true
      = ap (λ (h : Held). h.has_eols) c.read_eols-count-2.ensures.only_ticks.held
      ∙ ap (λ (x : Context). x.held.has_eols) c.count_missed_eol.ensures.frame
      ∙ ap (λ (h : Held). h.has_eols) c.read_eols-count.ensures.only_ticks.held ∙ sought in
      cond-true (misses_eol settings held.taken held.has_eols start) _ _ misses ∙ cond-false settings.strict _ _ lenient
      ∙ ap (from_next_eol settings held.taken start) (ap next_eol (sym still) ∙ next) ∙ ap (after_eols settings held.taken true)
      (ap (λ (s : DecodeSettings). eols_here s found) (sym same) ∙ c.read_eols-count-2.ensures.eols)
      ∙ ap (λ (b : Bool). cond b (Gap.over (Ok rest)) (Gap.line_at true rest)) over ∙ said_of c.is_over-2.result true rest
      ∙ ap (λ (b : Bool). gap_said (Ok c.is_over-2.result) b rest) (sym on);
  held = search rules;
  missed = search rules;
  given_up = search rules;
  only_code = search rules;
  unchanged = search rules;
  put_back = search rules;
  counts =
      grind (arith, common_steps, next_eol_found);
  work = λ kept.
      let settings = c.read_eols-count.new.ctx.held.settings in
      let none : c.read_eols-count.result ≡ 0 = omega (arith, c.if-count-gt0.false) in
      let now = here c.read_eols-count.new.reader in
      let found = here c.skip_to_eol.new.self in
      let rest = here c.read_eols-count-2.new.reader in
      let next : next_eol now ≡ Some found
      = c.skip_to_eol.ensures.next ∙ ap (λ (b : Bool). cond {A = Option Bits} b (Some found) None) c.if-not-skip_to_eol.false in
      let still = stays c.args.ctx.now.held.settings (here c.args.reader.now)
      c.read_eols-count.ensures.eols c.if-count-gt0.false in
      omega (
        arith,
        c.read_eols-count.ensures.work_none none,
        ap (λ (x : Context). x.ticks) c.count_missed_eol.ensures.frame,
        ap length still,
        ap looked still,
        c.ticks.ensures.value,
        c.skip_to_eol.ensures.ticks,
        ap (λ (b : Bool). cond b (looked found) (length found)) c.if-not-skip_to_eol.false,
        c.read_eols-count-2.ensures.work,
        ap (λ (x : ℕ × Bits). length x.1) c.read_eols-count-2.ensures.eols,
        sought_looks settings now found next,
        (next_eol_found now found next).0,
        ap (λ (x : Context). looked_ahead x.held.settings.encoding rest) c.count_missed_eol.ensures.frame,
        ap (λ (x : Context). tag_tests x.held.settings.encoding) c.count_missed_eol.ensures.frame,
        ap (λ (x : Context). length (eols_here x.held.settings found).1) c.count_missed_eol.ensures.frame,
        ap (λ (held : Held). looked_ahead held.settings.encoding rest) c.read_eols-count.ensures.only_ticks.held,
        ap (λ (held : Held). tag_tests held.settings.encoding) c.read_eols-count.ensures.only_ticks.held,
      );
  work_given_up = search rules;
  work_refused = search rules;
}

pub returns-then-settings-clause-passes : goal.returns-then-settings-clause-passes
returns-then-settings-clause-passes c = record {
  gap = search rules;
  held = search rules;
  missed = search rules;
  given_up = search rules;
  only_code = search rules;
  unchanged = search rules;
  put_back = stays c.args.ctx.now.held.settings (here c.args.reader.now) c.read_eols-count.ensures.eols
      c.if-count-gt0.false;
  counts = search rules;
  work = search rules;
  work_given_up = search rules;
  work_refused = search rules;
}

pub returns-then-settings-clause-lacks : goal.returns-then-settings-clause-lacks
returns-then-settings-clause-lacks c = record {
  strict = search rules;
  put_back = stays c.args.ctx.now.held.settings (here c.args.reader.now) c.read_eols-count.ensures.eols
      c.if-count-gt0.false;
  ticks = search rules;
}

pub returns-clause-at_least : goal.returns-clause-at_least
returns-clause-at_least c = grind (arith, common_steps)

pub returns-then-count-gt0-clause-at_least : goal.returns-then-count-gt0-clause-at_least
returns-then-count-gt0-clause-at_least c = search rules
