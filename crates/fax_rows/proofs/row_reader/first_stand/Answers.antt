use Rattle.fax_rows.proofs.Names.{common_steps}
use Rattle.fax_rows.proofs.Names.{◌≡◌, ◌≢◌, ◌∙◌, ◌<◌, ℕ, false, length, drop, ap, sym, subst, arith}
use Rattle.fax_rows.proofs.Names.{on_err_weaker, Stand, DecodeSettings}
use Rattle.fax_rows.proofs.Names.{refl}
use Rattle.fax_rows.proofs.Names.{Group4, Bits, here, Held, gap_said, gap_after_row, first_line}
use Rattle.fax_rows.proofs.Names.{ended, stand_after, AtLine, looked}
use Rattle.fax_rows.proofs.Readings.RowByRow.{no_fault}
use Rattle.fax_reading.proofs.Work.EolsPassed.{unsought_after}
use Rattle.fax_rows.proofs.Readings.FirstGaps.{eols_go_on, first_alone, front_goes_on}
use Rattle.fax_rows.specs.RowsTried.{PassesGap, StandsFirst}
use Rattle.fax_rows.proofs.row_reader.first_stand.Goals as goal

-- what the gap says
first_gap_said : (c : goal.After-stand_after_gap) → gap_after_row c.args.ctx.now.held.settings 0 false c.args.reader.now.bits
    ≡ gap_said c.pass_gap-over.result c.pass_gap-over.new.ctx.held.has_eols
    (drop c.pass_gap-over.new.reader.place c.args.reader.now.bits)
first_gap_said c = grind (arith, common_steps)

-- no EOLs are sought then
unsought_there : (c : goal.After-stand_after_gap) → c.pass_gap-over.new.ctx.held.has_eols ≡ false
unsought_there c = grind (arith, common_steps, unsought_after, on_err_weaker)

pub returns-in-Group4-clause-no_eols : goal.returns-in-Group4-clause-no_eols
returns-in-Group4-clause-no_eols c = λ is. unsought_there c

pub returns-in-Group4-clause-unfailed : goal.returns-in-Group4-clause-unfailed
returns-in-Group4-clause-unfailed c error is =
    let held = c.args.ctx.now.held in
    let last = c.pass_gap-over.new.ctx.held in
    let rest = here c.pass_gap-over.new.reader in
    let unsought : held.has_eols ≡ false = ap (λ (h : Held). h.has_eols) c.requires.fresh in
    let said : gap_after_row held.settings held.taken false (here c.args.reader.now)
    ≡ gap_said c.pass_gap-over.result last.has_eols rest
    = grind (arith, common_steps) in
    no_fault held.settings held.taken (here c.args.reader.now) c.pass_gap-over.result last.has_eols rest said error
    (ap ended (sym c.stand_after_gap.ensures) ∙ is)

pub returns-in-Group3_1D : goal.returns-in-Group3_1D
returns-in-Group3_1D c =
    let held = c.args.ctx.now.held in
    let settings = held.settings in
    let bits = c.args.reader.now.bits in
    let last = c.read_leading_eols.new.ctx.held in
    let at = c.read_leading_eols.new.reader in
    let wide : 0 < settings.columns =
    omega (arith, c.if-settings-eq0.false, ap (λ (s : DecodeSettings). s.columns) c.settings.ensures.value) in
    let begins : here c.args.reader.now ≡ bits = ap (λ (n : ℕ). drop n bits) c.requires.start in
    let read : settings.encoding ≡ c.settings-2.result.encoding =
    ap (λ (s : DecodeSettings). s.encoding) (sym c.settings-2.ensures.value) in
    let other : settings.encoding ≢ Group4 = λ is. grind (arith, common_steps) in
    let frame =
    c.read_leading_eols.ensures.has_eols ∙ ap (λ (x : Bits). record held { has_eols = (first_line settings x).has_eols }) begins
    ∙ ap (λ (h : Held). record h { has_eols = (first_line settings bits).has_eols }) c.requires.fresh in
    let rest : drop at.place bits ≡ (first_line settings bits).rest = grind (arith, common_steps) in
    let first : StandsFirst AtLine c.args.ctx.now c.read_leading_eols.new.ctx c.args.reader.now at =
    subst (λ (n : ℕ). StandsFirst AtLine c.args.ctx.now c.read_leading_eols.new.ctx
    (record { bits = bits; place = n }) at)
    (sym c.requires.start) (eols_go_on c.args.ctx.now c.read_leading_eols.new.ctx bits at.place
    (omega (
      arith,
      c.bit_pos-place-in-Group3_1D.ensures.place,
      c.bit_pos-place-in-Group3_1D.ensures.within,
      ap length c.read_leading_eols.ensures.same_bits,
    )) other wide c.requires.fresh frame rest (omega (
      arith,
      c.read_leading_eols.ensures.work,
      ap length begins,
      ap (λ (b : Bits). length (drop at.place b)) c.read_leading_eols.ensures.same_bits,
      ap (λ (b : Bits). looked (drop at.place b)) c.read_leading_eols.ensures.same_bits,
    )) c.read_leading_eols.ensures.counts at (ap (λ
    (b : Bits). record { bits = b; place = at.place }) c.read_leading_eols.ensures.same_bits)) in
    record {
      alone = first_alone first;
      first = first;
      takes_none = record {
        none_taken = ap (λ (h : Held). h.taken) frame;
        settings = ap (λ (h : Held). h.settings) frame;
        same_bits = c.read_leading_eols.ensures.same_bits;
        space = c.read_leading_eols.ensures.space;
      };
      unfailed = λ error is. cc;
      at_line = λ unended. refl;
      no_eols = λ is. absurd (other is);
    }

-- what comes before the first line, whatever follows
pub returns-in-Group4-clause-first : goal.returns-in-Group4-clause-first
returns-in-Group4-clause-first c =
    let gap = c.pass_gap-over.ensures in
    let over = c.pass_gap-over.result in
    let held = c.args.ctx.now.held in
    let bits = c.args.reader.now.bits in
    let at = c.pass_gap-over.new.reader in
    let wide : 0 < held.settings.columns =
    omega (arith, c.if-settings-eq0.false, ap (λ (s : DecodeSettings). s.columns) c.settings.ensures.value) in
    let there = subst (λ (b : Bits). PassesGap c.args.ctx.now c.pass_gap-over.new.ctx over (here c.args.reader.now)
    (drop at.place b)) gap.same_bits gap.passes in
    let front = subst (λ (n : ℕ). PassesGap c.args.ctx.now c.pass_gap-over.new.ctx over (drop n bits)
    (drop at.place bits)) c.requires.start there in
    let known = front_goes_on c.args.ctx.now c.pass_gap-over.new.ctx bits at.place over
    (omega (arith, c.bit_pos-place.ensures.place, c.bit_pos-place.ensures.within, ap length gap.same_bits))
    (ap (λ (s : DecodeSettings). s.encoding) (sym c.settings-2.ensures.value) ∙ c.in-Group4.is) wide c.requires.fresh front at
    (ap (λ (b : Bits). record { bits = b; place = at.place }) gap.same_bits) in
    subst (λ (s : Stand). StandsFirst s c.args.ctx.now c.pass_gap-over.new.ctx c.args.reader.now at)
    (sym c.stand_after_gap.ensures)
    (subst (λ (n : ℕ). StandsFirst (stand_after over) c.args.ctx.now c.pass_gap-over.new.ctx
    (record { bits = bits; place = n }) at)
    (sym c.requires.start) known)

-- and so if nothing does
pub returns-in-Group4-clause-alone : goal.returns-in-Group4-clause-alone
returns-in-Group4-clause-alone c = first_alone (returns-in-Group4-clause-first c)
