use Rattle.std.proofs.Common.{◌≡◌, take, sym, ap, ◌∙◌}
use Rattle.hayro_ccitt.specs.Answers.{meaning_after}
use Rattle.hayro_ccitt.specs.PlainReading.{plain}
use Rattle.hayro_ccitt.specs.Bits.{bits_in}
use Rattle.hayro_ccitt_c.specs.Reports.{changes_taken}
use Rattle.hayro_ccitt_c.proofs.Reporting.{on_settings, counts, changes_counted}
use Rattle.hayro_ccitt_c.proofs.hayro_ccitt_measure.Goals as goal

pub returns-clause-changes : goal.returns-clause-changes
returns-clause-changes c =
    let rows = take c.decoded-report.result.rows (plain c.in-Some.meant (bits_in c.order_of.result c.args.«data».now)).rows in
    let counted = c.changes.ensures ∙ c.decoded-report.ensures.meaning
    ∙ ap (λ count. meaning_after counts count.changes rows) c.new-count.ensures ∙ changes_counted 0 rows in
    rw c.reported.ensures.outcome (on_settings c.args.settings.now c.in-Some.meant c.args.«data».now c.order_of.result
    (λ s bits. c.changes.result ≡ changes_taken s bits c.decoded-report.result.rows)
    (sym (c.settings_for.ensures.meant c.in-Some.ensures.fit) ∙ c.in-Some.is) c.order_of.ensures counted)
