use Rattle.std.proofs.Common.{◌≡◌, ◌∙◌, ◌+◌, ◌<◌, get_or, length, arith, take, sym, rules, Some, IfSome, ℕ, List}
use Rattle.std.proofs.Common.{[]}
use Rattle.hayro_ccitt.specs.PlainReading.{plain}
use Rattle.hayro_ccitt.specs.Rows.{changes}
use Rattle.hayro_ccitt.specs.Bits.{Bits, BitsFit, bits_in}
use Rattle.hayro_ccitt_c.specs.Reports.{changes_taken, numbers_taken, AreListed}
use Rattle.hayro_ccitt.specs.DecodeSettings.{DecodeSettings}
use Rattle.hayro_ccitt_c.specs.Settings.{order_of, settings_of}
use Rattle.hayro_ccitt_c.proofs.StandingRows.{AreFromStart, lists_from_start}
use Rattle.hayro_ccitt_c.proofs.Reporting.{on_settings}
use Rattle.hayro_ccitt_c.proofs.hayro_ccitt_decode_changes.Goals as goal

module _ (c : goal.After-reported) where
  -- the settings that C passes
  meant : settings_of c.args.settings.now ≡ Some c.in-Some.meant
  meant = sym (c.settings_for.ensures.meant c.in-Some.ensures.fit) ∙ c.in-Some.is

  -- the memory is borrowed from its start
  lists : AreFromStart c.new-rows.result.lists.ghost_name c.decoded-report.new.sink.lists.ghost_name
      c.decoded-report.new.sink.end c.decoded-report.new.sink.changes
      (take c.decoded-report.result.rows (plain c.in-Some.meant (bits_in c.order_of.result c.args.«data».now)).rows)
      c.args.lists.now c.decoded-report.new.sink.lists.now
  lists = lists_from_start c.new-rows.ensures.end c.new-rows.ensures.numbers c.new-rows.ensures.changes
      c.decoded-report.ensures.meaning

  are_listed : AreListed c.in-Some.meant (bits_in c.order_of.result c.args.«data».now) c.decoded-report.result.rows
      c.args.lists.now c.decoded-report.new.sink.lists.now
  are_listed = record { rows = lists.stand.rows_are; rest = lists.stand.rest }

-- a statement about what was decoded, and about the memory afterwards, is one about what C gets
on_changes : (c : goal.After-reported) (P : DecodeSettings → Bits → List ℕ → Type 0) (memory : List ℕ)
    → P c.in-Some.meant (bits_in c.order_of.result c.args.«data».now) memory → BitsFit c.args.«data».now
    → IfSome (settings_of c.args.settings.now) (λ s. P s (bits_in (order_of c.args.settings.now) c.args.«data».now) memory)
on_changes c P memory = on_settings c.args.settings.now c.in-Some.meant c.args.«data».now c.order_of.result
    (λ s bits. P s bits memory) (meant c) c.order_of.ensures

pub returns-clause-changes : goal.returns-clause-changes
returns-clause-changes c = rw c.reported.ensures.outcome (λ fit. on_changes c (λ s bits memory.
    c.changes.result ≡ changes_taken s bits c.decoded-report.result.rows) [] (c.changes.ensures ∙ (lists c).counted) fit)

pub returns-clause-listed : goal.returns-clause-listed
returns-clause-listed c =
    let are = are_listed c in
    let name = sym c.new-rows.ensures.same_reference ∙ (lists c).same in
    rw c.reported.ensures.outcome
    (λ fit. on_changes c (λ s bits memory. AreListed s bits c.decoded-report.result.rows c.args.lists.now memory) _ (search rules)
    fit)

pub returns-clause-refused : goal.returns-clause-refused
returns-clause-refused c = λ full.
    let few : length c.decoded-report.new.sink.lists.now < numbers_taken c.in-Some.meant
    (bits_in c.order_of.result c.args.«data».now) c.decoded-report.result.rows + 1 + length (changes
    (get_or (plain c.in-Some.meant (bits_in c.order_of.result c.args.«data».now)).rows c.decoded-report.result.rows [])) =
    omega (arith, c.decoded-report.ensures.refused_row (sym c.reported.ensures.status ∙ full), (lists c).end_is) in
    let name = sym c.new-rows.ensures.same_reference ∙ (lists c).same in
    rw c.reported.ensures.outcome (λ fit. on_changes c (λ s bits memory. length memory < numbers_taken s bits
    c.decoded-report.result.rows + 1 + length (changes (get_or (plain s bits).rows c.decoded-report.result.rows []))) _
    (search rules) fit)
