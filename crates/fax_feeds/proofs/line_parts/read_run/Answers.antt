use Rattle.fax_feeds.proofs.Names.{◌≡◌, ◌∙◌, ap, sym, subst, arith, here, codes_of, Bool, DecodeSettings, Context}
use Rattle.fax_feeds.proofs.Names.{ℕ}
use Rattle.fax_feeds.specs.LineParts.{Leads, part_by, pen_of_part, run_of_part}
use Rattle.fax_reading.specs.LinesGoOn.{read_on, word_added}
use Rattle.fax_bits.proofs.CodeWords.ReadRuns.{read_code_shorter, words_not_empty}
use Rattle.fax_feeds.proofs.DrawingLines.PartsOfLines.{lawful_after, word_is_read}
use Rattle.fax_feeds.proofs.line_parts.read_run.Goals as goal

pub returns-in-Ok : goal.returns-in-Ok
returns-in-Ok c =
    let held = c.args.ctx.now.held in
    let part = c.args.part.now in
    let new = c.add_word.new.part in
    let before = here c.args.reader.now in
    let after = here c.read_word.new.reader in
    let n = c.in-Ok.n in
    let reads = c.in-Ok.ensures.word in
    let same : c.settings.result ≡ held.settings
    = c.settings.ensures.value ∙ ap (λ (x : Context). x.held.settings) c.read_word.ensures.frame in
    let shorter = read_code_shorter (codes_of part.color) before n after (words_not_empty part.color) reads in
    let ticks = ap (λ (x : Context). x.ticks) c.read_word.ensures.frame in
    record {
      reads = record {
        goes = record {
          leads = λ front is. subst (Leads c.add_word.result new after)
              (sym (ap (λ (b : Bool). (read_on held.settings held.reference
              (part_by b (run_of_part part) (pen_of_part part front before))).turn) c.requires.run
              ∙ word_is_read held.settings held.reference front part.color before
              (run_of_part part) n after reads))
              (subst (λ (m : ℕ). Leads c.add_word.result new after (word_added held.settings.strict held.settings.columns
              (run_of_part part) (pen_of_part part front after) m).turn)
              c.from.ensures
              (subst (λ (s : DecodeSettings). Leads c.add_word.result new after (word_added s.strict s.columns
              (run_of_part part) (pen_of_part part front after)
              c.from.result).turn) same (c.add_word.ensures.goes after front is)));
          lawful = lawful_after held.settings held.reference new part.painted part.passed c.requires.lawful.passed
              c.add_word.ensures.passed c.add_word.ensures.onward
              (omega (arith, c.add_word.ensures.within, ap (λ (s : DecodeSettings). s.columns) same));
        };
        frame = c.read_word.ensures.frame ∙ ap (λ (m : ℕ). record c.args.ctx.now { ticks = m }) (sym ticks);
        same_bits = c.read_word.ensures.same_bits;
        missing = λ e. absurd (c.add_word.ensures.known e);
        counts = omega (arith, ticks);
        work = omega (arith, ticks, c.add_word.ensures.passed);
        paid = λ e. omega (arith, ticks, shorter, c.add_word.ensures.passed);
      };
    }
