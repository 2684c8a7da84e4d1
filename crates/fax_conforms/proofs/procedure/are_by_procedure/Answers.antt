use Rattle.hayro_ccitt.proofs.Names.{◌≡◌, Bool, inr, white_row, AreChanges, DecodeSettings, length-drop, ◌∙◌, List, ℕ, Bits, refl}
use Rattle.hayro_ccitt.proofs.Names.{arith, ap, sym, subst, length, false≢true, here, pixels, Row, BitsAt}
use Rattle.hayro_ccitt.proofs.PixelRows.ChangesAndPixels.{length-pixels}
use Rattle.fax_conforms.proofs.AfterLines.{ends_at_limit_after, no_lead_after, no_line_after, one_line_further, readable_on}
use Rattle.fax_conforms.proofs.AfterLines.{no_changes_white, none_yet, unlimited_at_first, unlimited_on}
use Rattle.fax_conforms.proofs.EndsLooked.{row_looks}
use Rattle.fax_conforms.proofs.Padded.{iff_on}
use Rattle.fax_conforms.proofs.ProcedureLines.{by_procedure_goes_on, lead_shorter, no_lead_no_lines, no_lines_past_limit}
use Rattle.fax_conforms.proofs.ProcedureLines.{no_part_no_lines}
use Rattle.fax_conforms.specs.ByProcedure.{LinesByProcedure, PartStands}
use Rattle.fax_conforms.specs.Checks.{IsOnlyPart, NoPart}
use Rattle.fax_conforms.specs.Departures.{EndsAfterLines, ReadableFrom}
use Rattle.fax_conforms.proofs.procedure.are_by_procedure.Goals as goal

pub returns-then-ends_here-clause-checks : goal.returns-then-ends_here-clause-checks
returns-then-ends_here-clause-checks c =
    c.rows.invariant.stands.1 (LinesByProcedure.over (c.ends_here.ensures.stands.0 c.if-ends_here.true))

pub returns-then-limit_met-clause-checks : goal.returns-then-limit_met-clause-checks
returns-then-limit_met-clause-checks c = λ broken lines. no_lines_past_limit c.args.asked.settings c.args.asked.k
    c.args.asked.has_eols c.rows.taken c.rows.left (pixels c.args.asked.settings.columns c.rows.reference.items)
    (here c.rows.reader) (c.limit_met.ensures.met c.if-limit_met.true)
    (λ ends. false≢true (sym c.if-ends_here.false ∙ c.ends_here.ensures.stands.1 ends)) (c.rows.invariant.stands.0 lines)

pub returns-in-Err-clause-checks : goal.returns-in-Err-clause-checks
returns-in-Err-clause-checks c = λ broken lines. no_lead_no_lines c.args.asked.settings c.args.asked.k c.args.asked.has_eols
    c.rows.taken c.rows.left (pixels c.args.asked.settings.columns c.rows.reference.items) (here c.rows.reader)
    (λ ends. false≢true (sym c.if-ends_here.false ∙ c.ends_here.ensures.stands.1 ends))
    (c.in-Err.ensures.none (c.stop_here.ensures.broken broken)) (c.rows.invariant.stands.0 lines)

-- there is no line
pub returns-in-Err-drawn-clause-checks : goal.returns-in-Err-drawn-clause-checks
returns-in-Err-drawn-clause-checks c = λ broken lines.
    no_part_no_lines c.args.asked.settings c.args.asked.k c.args.asked.has_eols c.rows.taken
    c.rows.left (pixels c.args.asked.settings.columns c.rows.reference.items) (here c.rows.reader)
    (λ ends. false≢true (sym c.if-ends_here.false ∙ c.ends_here.ensures.stands.1 ends)) (here c.pass_lead.new.reader)
    c.in_default.ensures.found
    (subst (λ (places : List ℕ). NoPart c.args.asked.settings (PartStands c.args.asked.settings c.args.asked.has_eols c.rows.left
    (pixels c.args.asked.settings.columns places) (here c.pass_lead.new.reader))) c.as_slice.ensures.value
    (c.in-Err-drawn.ensures.reads (c.stop_here-in-Err-drawn.ensures.broken broken))) (c.rows.invariant.stands.0 lines)

pub rows-smaller : goal.rows-smaller
rows-smaller c =
    let lead = lead_shorter c.args.asked.has_eols c.rows.taken (here c.rows.reader) (here c.pass_lead.new.reader)
    c.in_default.ensures.found in
    omega (arith, lead, c.in-Ok.ensures.reads.shorter)

pub rows-preserved : goal.rows-preserved
rows-preserved c =
    let part : IsOnlyPart c.args.asked.settings (PartStands c.args.asked.settings c.args.asked.has_eols c.rows.left
    (pixels c.args.asked.settings.columns c.rows.reference.items) (here c.pass_lead.new.reader))
    c.draw_part-drawn.new.coding.items
    (here c.pass_lead.new.reader) (here c.draw_part-drawn.new.reader) c.in-Ok.is_two =
    rw c.as_slice.ensures.value at c.in-Ok.ensures.reads in
    let row : Row = pixels c.args.asked.settings.columns c.draw_part-drawn.new.coding.items in
    let lead = c.in_default.ensures.found in
    let shorter = lead_shorter c.args.asked.has_eols c.rows.taken (here c.rows.reader) (here c.pass_lead.new.reader) lead in
    let above = length-pixels c.args.asked.settings.columns c.rows.reference.items c.rows.invariant.lawful in
    let len = length-pixels c.args.asked.settings.columns c.draw_part-drawn.new.coding.items part.lawful in
    let on = by_procedure_goes_on c.args.asked.settings c.args.asked.k c.args.asked.has_eols c.rows.taken c.rows.left
    (pixels c.args.asked.settings.columns c.rows.reference.items) (here c.rows.reader)
    (λ ends. false≢true (sym c.if-ends_here.false ∙ c.ends_here.ensures.stands.1 ends)) (here c.pass_lead.new.reader) lead
    c.in-Ok.is_two row (here c.draw_part-drawn.new.reader)
    len part.stands part.only in
    record {
      stands = rw (c.swap.ensures.x_after, c.left_after-left.ensures) (iff_on c.rows.invariant.stands on);
      lead = rw (c.swap.ensures.x_after, c.left_after-left.ensures) (one_line_further c.args.asked.settings c.args.asked.k
          c.args.asked.has_eols c.rows.taken c.rows.left (pixels c.args.asked.settings.columns c.rows.reference.items)
          c.rows.reader c.pass_lead.new.reader c.draw_part-drawn.new.reader c.in-Ok.is_two row c.rows.invariant.lead
          (c.draw_part-drawn.ensures.same_bits ∙ c.pass_lead.ensures.same_bits) lead len part.stands);
      readable = rw c.swap.ensures.x_after (readable_on c.args.asked.settings c.requires.wide (omega arith)
          (pixels c.args.asked.settings.columns c.rows.reference.items) row above len c.in-Ok.is_two c.rows.left
          (here c.pass_lead.new.reader) (here c.draw_part-drawn.new.reader) c.args.asked.has_eols c.rows.taken
          (here c.rows.reader) (c.limit_met.ensures.unmet c.if-limit_met.false) lead part.stands c.rows.invariant.readable);
      unlimited = λ four. c.left_after-left.ensures ∙ unlimited_on c.args.asked.settings.encoding c.args.asked.k c.rows.left
          c.in-Ok.is_two part.stands.0.0 c.rows.invariant.unlimited four;
      allows = c.limit_met.ensures.allows c.if-limit_met.false c.rows.invariant.allows;
      lawful = rw c.swap.ensures.x_after part.lawful;
      same_bits = c.draw_part-drawn.ensures.same_bits ∙ c.pass_lead.ensures.same_bits ∙ c.rows.invariant.same_bits;
      counts = omega (
        arith,
        c.rows.invariant.counts,
        c.ends_here.ensures.looks.counts,
        c.pass_lead.ensures.pays.counts,
        c.draw_part-drawn.ensures.pays.counts,
      );
      work = rw c.swap.ensures.x_after (omega (
        arith,
        c.rows.invariant.work,
        c.in_default.ensures.pays.paid,
        c.in-Ok.ensures.pays.paid,
        shorter,
        part.shorter,
        row_looks c.args.asked.settings c.requires.wide (omega arith) c.args.asked.has_eols c.rows.left
            (pixels c.args.asked.settings.columns c.rows.reference.items)
            above c.rows.taken
            (here c.rows.reader) (here c.pass_lead.new.reader) c.in-Ok.is_two row (here c.draw_part-drawn.new.reader) _ _
            len lead part.stands
            c.ends_here.ensures.looks,
        ap length c.as_slice.ensures.value,
      ));
      few = omega (
        arith,
        c.rows.invariant.few,
        shorter,
        part.shorter,
        ap length c.draw_part-drawn.ensures.same_bits,
        ap length c.pass_lead.ensures.same_bits,
      );
    }

-- ---- Where it ends early.
pub returns-then-limit_met-clause-at : goal.returns-then-limit_met-clause-at
returns-then-limit_met-clause-at c = subst (λ (whole : Bits). EndsAfterLines c.args.asked.settings c.args.asked.k
    c.args.asked.has_eols whole c.stop_at_limit.result) c.rows.invariant.same_bits
    (ends_at_limit_after c.args.asked.settings c.args.asked.k c.args.asked.has_eols c.rows.taken c.rows.left
    (pixels c.args.asked.settings.columns c.rows.reference.items) c.rows.reader c.rows.invariant.lead c.rows.invariant.allows
    (λ ends. false≢true (sym c.if-ends_here.false ∙ c.ends_here.ensures.stands.1 ends))
    (c.limit_met.ensures.met c.if-limit_met.true) c.stop_at_limit.result c.stop_at_limit.ensures.at)

pub returns-in-Err-clause-at : goal.returns-in-Err-clause-at
returns-in-Err-clause-at c = subst (λ (whole : Bits). EndsAfterLines c.args.asked.settings c.args.asked.k
    c.args.asked.has_eols whole c.stop_here.result) c.rows.invariant.same_bits
    (no_lead_after c.args.asked.settings c.args.asked.k c.args.asked.has_eols c.rows.taken c.rows.left
    (pixels c.args.asked.settings.columns c.rows.reference.items) c.rows.reader c.rows.invariant.lead c.rows.invariant.allows
    (λ ends. false≢true (sym c.if-ends_here.false ∙ c.ends_here.ensures.stands.1 ends))
    (c.limit_met.ensures.unmet c.if-limit_met.false) c.rows.invariant.readable c.in-Err.stop c.in-Err.ensures.at
    c.in-Err.ensures.none c.stop_here.result (rw c.copy-start.ensures.value at c.stop_here.ensures.at))

pub returns-in-Err-drawn-clause-at : goal.returns-in-Err-drawn-clause-at
returns-in-Err-drawn-clause-at c = subst (λ (whole : Bits). EndsAfterLines c.args.asked.settings c.args.asked.k
    c.args.asked.has_eols whole c.stop_here-in-Err-drawn.result) c.rows.invariant.same_bits
    (no_line_after c.args.asked.settings c.args.asked.k c.args.asked.has_eols c.rows.taken c.rows.left
    (pixels c.args.asked.settings.columns c.rows.reference.items) c.rows.reader c.rows.invariant.lead c.rows.invariant.allows
    (λ ends. false≢true (sym c.if-ends_here.false ∙ c.ends_here.ensures.stands.1 ends))
    (c.limit_met.ensures.unmet c.if-limit_met.false) c.rows.invariant.readable c.in-Err-drawn.stop c.requires.eols
    c.pass_lead.new.reader c.pass_lead.ensures.same_bits c.in_default.ensures.found
    (rw c.as_slice.ensures.value at c.in-Err-drawn.ensures.at) c.stop_here-in-Err-drawn.result
    (rw c.copy-start.ensures.value at c.stop_here-in-Err-drawn.ensures.at))

pub rows-init : goal.rows-init
rows-init c =
    let settings : DecodeSettings = c.args.asked.settings in
    let has_eols : Bool = c.args.asked.has_eols in
    let white : pixels settings.columns c.new-reference.result.items ≡ white_row settings.columns =
    ap (pixels settings.columns) c.new-reference.ensures.items ∙ no_changes_white settings.columns in
    record {
      stands = rw (c.left_at_first-left.ensures, white) (λ e. e, λ e. e);
      lead = rw c.left_at_first-left.ensures
          (none_yet settings c.args.asked.k has_eols _ c.args.reader.now white c.requires.start);
      readable = subst (λ (r : Row). ReadableFrom settings has_eols 0 r (here c.args.reader.now)) (sym white) c.requires.readable;
      unlimited = λ four. c.left_at_first-left.ensures ∙ unlimited_at_first settings.encoding four;
      allows = inr (omega arith);
      lawful = subst (AreChanges settings.columns) (sym c.new-reference.ensures.items) tt;
      same_bits = refl;
      counts = omega arith;
      work = omega (arith, ap length c.new-reference.ensures.items);
      few = omega (arith, length-drop c.args.reader.now.place c.args.reader.now.bits);
    }

-- ---- What is counted, however it ends.
pub returns-then-ends_here-clause-at_most : goal.returns-then-ends_here-clause-at_most
returns-then-ends_here-clause-at_most c = omega (arith, c.rows.invariant.work, c.ends_here.ensures.looks.at_most)

pub returns-then-ends_here-clause-counts : goal.returns-then-ends_here-clause-counts
returns-then-ends_here-clause-counts c = omega (arith, c.rows.invariant.counts, c.ends_here.ensures.looks.counts)

pub returns-then-limit_met-clause-counts : goal.returns-then-limit_met-clause-counts
returns-then-limit_met-clause-counts c = omega (
  arith,
  c.rows.invariant.counts,
  c.ends_here.ensures.looks.counts,
  c.stop_at_limit.ensures.counts,
)

pub returns-then-limit_met-clause-at_most : goal.returns-then-limit_met-clause-at_most
returns-then-limit_met-clause-at_most c = omega (
  arith,
  c.rows.invariant.work,
  c.ends_here.ensures.looks.at_most,
  c.stop_at_limit.ensures.at_most,
)

pub returns-in-Err-clause-counts : goal.returns-in-Err-clause-counts
returns-in-Err-clause-counts c = omega (
  arith,
  c.rows.invariant.counts,
  c.ends_here.ensures.looks.counts,
  c.pass_lead.ensures.pays.counts,
  c.stop_here.ensures.counts,
)

pub returns-in-Err-clause-at_most : goal.returns-in-Err-clause-at_most
returns-in-Err-clause-at_most c = omega (
  arith,
  c.rows.invariant.work,
  c.ends_here.ensures.looks.at_most,
  c.pass_lead.ensures.pays.at_most,
  c.stop_here.ensures.at_most,
  ap (λ (r : BitsAt). length (here r)) c.copy-start.ensures.value,
)

pub returns-in-Err-drawn-clause-counts : goal.returns-in-Err-drawn-clause-counts
returns-in-Err-drawn-clause-counts c = omega (
  arith,
  c.rows.invariant.counts,
  c.ends_here.ensures.looks.counts,
  c.pass_lead.ensures.pays.counts,
  c.draw_part-drawn.ensures.pays.counts,
  c.stop_here-in-Err-drawn.ensures.counts,
)

pub returns-in-Err-drawn-clause-at_most : goal.returns-in-Err-drawn-clause-at_most
returns-in-Err-drawn-clause-at_most c = omega (
  arith,
  c.rows.invariant.work,
  c.ends_here.ensures.looks.at_most,
  c.in_default.ensures.pays.paid,
  lead_shorter c.args.asked.has_eols c.rows.taken (here c.rows.reader) (here c.pass_lead.new.reader) c.in_default.ensures.found,
  c.draw_part-drawn.ensures.pays.at_most,
  ap length c.as_slice.ensures.value,
  c.stop_here-in-Err-drawn.ensures.at_most,
  ap (λ (r : BitsAt). length (here r)) c.copy-start.ensures.value,
)
