use Rattle.fax_rows.proofs.Names.{common_steps}
use Rattle.fax_rows.proofs.Names.{◌≡◌, ℕ, refl, ap, sym, ◌∙◌, length, arith, EncodingMode, DecodeSettings, here}
use Rattle.fax_rows.proofs.Names.{eols_by}
use Rattle.fax_rows.proofs.Names.{eols_here, looked, looked_ahead, tag_tests}
use Rattle.fax_bits.proofs.BitReading.EolCounts.{all_eols_leave}
use Rattle.fax_reading.proofs.Work.EolsPassed.{eols_here_stay}
use Rattle.fax_bits.proofs.BitReading.ConsecutiveEols.{tagged_eols_counted}
use Rattle.fax_rows.proofs.rows.read_eols.Goals as goal

pub returns-in-Group3_2D-clause-only_ticks : goal.returns-in-Group3_2D-clause-only_ticks
returns-in-Group3_2D-clause-only_ticks c = grind (arith, common_steps, tagged_eols_counted)

pub returns-in-Group3_1D : goal.returns-in-Group3_1D
returns-in-Group3_1D c =
    let same = ap (λ (s : DecodeSettings). s.encoding) c.settings.ensures.value in
    let now = here c.args.reader.now in
    let rest = here c.read_eol_if_available.new.self in
    let counted = c.read_eol_if_available.ensures.ticks in
    let from = c.ticks-in-Group3_1D.ensures.value in
    let left = all_eols_leave c.read_eol_if_available.result now rest c.read_eol_if_available.ensures.eols in
    let eols : eols_here c.args.ctx.now.held.settings now ≡ (c.read_eol_if_available.result, rest) =
    grind (arith, common_steps) in
    let ahead : looked_ahead c.args.ctx.now.held.settings.encoding rest ≡ looked rest
    = ap (λ (e : EncodingMode). looked_ahead e rest) (sym same ∙ c.in-Group3_1D.is) in
    let tags : tag_tests c.args.ctx.now.held.settings.encoding ≡ 0 = ap tag_tests (sym same ∙ c.in-Group3_1D.is) in
    record {
      eols = eols;
      same_bits = c.read_eol_if_available.ensures.same_bits;
      only_ticks = record { held = refl; counts = omega (arith, counted, from, left); space = refl };
      at_least = omega (arith, counted, from);
      work = omega (arith, counted, from, left, ahead, tags);
      work_none = λ none.
          let stays = eols_here_stay c.args.ctx.now.held.settings now rest (eols ∙ ap (λ (n : ℕ). (n, rest)) none) in
          omega (arith, counted, from, ap length stays, ap looked stays);
    }

pub returns-in-Group4 : goal.returns-in-Group4
returns-in-Group4 c =
    let is = sym (ap (λ (s : DecodeSettings). s.encoding) c.settings.ensures.value) ∙ c.in-Group4.is in
    let settings = c.args.ctx.now.held.settings in
    let now = here c.args.reader.now in
    let rest = here c.read_eols_of_t6.new.reader in
    let counted = c.read_eols_of_t6.ensures.work in
    let eols : eols_here settings now ≡ (c.read_eols_of_t6.result, rest)
    = ap (λ (e : EncodingMode). eols_by e settings.end_of_block now) is ∙ c.read_eols_of_t6.ensures.eols in
    let ahead : looked_ahead settings.encoding rest ≡ looked rest = ap (λ (e : EncodingMode). looked_ahead e rest) is in
    let tags : tag_tests settings.encoding ≡ 0 = ap tag_tests is in
    record {
      eols = eols;
      same_bits = c.read_eols_of_t6.ensures.same_bits;
      only_ticks = c.read_eols_of_t6.ensures.only_ticks;
      at_least = c.read_eols_of_t6.ensures.at_least;
      work = omega (arith, counted, c.read_eols_of_t6.ensures.forward, ahead, tags);
      work_none = λ none.
          let stays = eols_here_stay settings now rest (eols ∙ ap (λ (n : ℕ). (n, rest)) none) in
          omega (arith, c.read_eols_of_t6.ensures.work_none none, ap length stays, ap looked stays);
    }
