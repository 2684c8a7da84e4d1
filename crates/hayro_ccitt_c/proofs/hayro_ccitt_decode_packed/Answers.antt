use Rattle.std.proofs.Common.{◌≡◌, ◌∙◌, ◌≤◌, ◌<◌, ◌+◌, ◌*◌, ℕ, [], All, length, sym, ap, subst, arith, rules, Some, IfSome}
use Rattle.std.proofs.Common.{Fits, w8, List, get_or, take}
use Rattle.hayro_ccitt.specs.Bits.{Bits, BitsFit, bits_in}
use Rattle.hayro_ccitt.specs.PlainReading.{plain}
use Rattle.hayro_ccitt.specs.Answers.{meaning_after}
use Rattle.hayro_ccitt_c.specs.Packing.{Packing, bytes_of_row, together, with_packed}
use Rattle.hayro_ccitt_c.specs.Reports.{changes_taken, ArePacked, AreTogether}
use Rattle.hayro_ccitt.specs.DecodeSettings.{DecodeSettings}
use Rattle.hayro_ccitt_c.specs.Settings.{layout_of, order_of, settings_of}
use Rattle.c_rows.specs.declared.packed_rows.Layout.{Layout}
use Rattle.hayro_ccitt_c.proofs.PackedMemory.{all_fit, are_packed, changes_are, packing_of, same_meaning, same_name, start_is}
use Rattle.hayro_ccitt_c.proofs.PackedTogether.{are_together}
use Rattle.hayro_ccitt_c.proofs.WhiteRows.{all_in_memory}
use Rattle.hayro_ccitt_c.proofs.Reporting.{on_settings, taken_within}
use Rattle.hayro_ccitt_c.proofs.hayro_ccitt_decode_packed.Goals.{After-reported}
use Rattle.hayro_ccitt_c.proofs.hayro_ccitt_decode_packed.Goals as goal

pub new-rows-requires : goal.new-rows-requires
new-rows-requires c =
    subst (λ (l : Layout). bytes_of_row c.in-Some.meant.columns ≤ l.stride) (sym c.layout_of.ensures) c.in-Some.ensures.reaches

module _ (c : After-reported) where
  -- the settings that C passes
  meant : settings_of c.args.settings.now ≡ Some c.in-Some.meant
  meant = sym (c.settings_for.ensures.meant c.in-Some.ensures.fit) ∙ c.in-Some.is

  enough : c.decoded-report.result.rows ≤ length (plain c.in-Some.meant (bits_in c.order_of.result c.args.«data».now)).rows
  enough = taken_within c.in-Some.meant (bits_in c.order_of.result c.args.«data».now) c.decoded-report.result.rows
      c.decoded-report.ensures.report.answer c.decoded-report.ensures.report.ends

  abbrev layout : Layout
  layout = layout_of c.args.settings.now

  same_layout : c.new-rows.result.layout ≡ layout
  same_layout = c.new-rows.ensures.layout ∙ c.layout_of.ensures

  -- what the sink means after these rows
  meaning : packing_of c.write_white.new.self.layout c.write_white.new.self.start c.write_white.new.self.bitmap.now
      c.write_white.new.self.changes c.write_white.new.self.bitmap.ghost_name
      ≡ meaning_after (with_packed c.new-rows.result.columns)
      (packing_of layout 0 c.args.bitmap.now 0 c.new-rows.result.bitmap.ghost_name) (take c.decoded-report.result.rows
      (plain c.in-Some.meant (bits_in c.order_of.result c.args.«data».now)).rows)
  meaning =
      sym (all_in_memory c.write_white.new.self.layout c.write_white.new.self.start c.write_white.new.self.written
      c.write_white.new.self.bitmap.now c.write_white.new.self.changes c.write_white.new.self.bitmap.ghost_name
      c.write_white.ensures.written)
      ∙ c.write_white.ensures.meaning
      ∙ c.decoded-report.ensures.meaning ∙ ap (λ (before : Packing). meaning_after (with_packed c.new-rows.result.columns) before
      (take c.decoded-report.result.rows (plain c.in-Some.meant (bits_in c.order_of.result c.args.«data».now)).rows))
      (all_in_memory c.new-rows.result.layout c.new-rows.result.start c.new-rows.result.written c.new-rows.result.bitmap.now
      c.new-rows.result.changes c.new-rows.result.bitmap.ghost_name
      (c.new-rows.ensures.starts.written_is ∙ sym c.new-rows.ensures.starts.start_is)
      ∙ same_meaning c.new-rows.result.layout layout c.new-rows.result.start 0 c.new-rows.result.bitmap.now c.args.bitmap.now
      c.new-rows.result.changes 0 c.new-rows.result.bitmap.ghost_name same_layout c.new-rows.ensures.starts.start_is
      c.new-rows.ensures.bytes c.new-rows.ensures.starts.changes_are)

  same : c.new-rows.result.bitmap.ghost_name ≡ c.write_white.new.self.bitmap.ghost_name
  same =
      same_name layout c.write_white.new.self.layout c.in-Some.meant (bits_in c.order_of.result c.args.«data».now)
      c.decoded-report.result.rows c.new-rows.result.columns c.write_white.new.self.start _ _
      c.write_white.new.self.changes c.args.bitmap.now c.write_white.new.self.bitmap.now c.new-rows.ensures.columns enough
      meaning

  wide : c.write_white.new.self.columns ≡ c.new-rows.result.columns
  wide = c.write_white.ensures.shape.columns ∙ c.decoded-report.ensures.width

  reaches : bytes_of_row c.new-rows.result.columns ≤ layout.stride
  reaches = subst (λ (l : Layout). bytes_of_row c.new-rows.result.columns ≤ l.stride) same_layout c.new-rows.result.reaches

  room : c.write_white.new.self.start + bytes_of_row c.new-rows.result.columns
      ≤ length c.write_white.new.self.bitmap.now + c.write_white.new.self.layout.stride
  room = subst (λ (n : ℕ). c.write_white.new.self.start + bytes_of_row n
      ≤ length c.write_white.new.self.bitmap.now + c.write_white.new.self.layout.stride) wide
      c.write_white.new.self.within

  packed : All (λ byte. byte < 256) c.write_white.new.self.bitmap.now
      → ArePacked layout c.in-Some.meant (bits_in c.order_of.result c.args.«data».now) c.decoded-report.result.rows
      c.args.bitmap.now c.write_white.new.self.bitmap.now
  packed =
      are_packed layout c.write_white.new.self.layout c.in-Some.meant (bits_in c.order_of.result c.args.«data».now)
      c.decoded-report.result.rows c.new-rows.result.columns c.write_white.new.self.start _ _
      c.write_white.new.self.changes c.args.bitmap.now c.write_white.new.self.bitmap.now c.new-rows.ensures.columns enough
      meaning reaches room c.new-rows.ensures.are_bytes

  started : c.write_white.new.self.start ≡ c.decoded-report.result.rows * layout.stride
  started =
      start_is layout c.write_white.new.self.layout c.in-Some.meant (bits_in c.order_of.result c.args.«data».now)
      c.decoded-report.result.rows c.new-rows.result.columns c.write_white.new.self.start _ _
      c.write_white.new.self.changes c.args.bitmap.now c.write_white.new.self.bitmap.now c.new-rows.ensures.columns enough
      meaning

  counted : c.write_white.new.self.changes
      ≡ changes_taken c.in-Some.meant (bits_in c.order_of.result c.args.«data».now) c.decoded-report.result.rows
  counted =
      changes_are layout c.write_white.new.self.layout c.in-Some.meant (bits_in c.order_of.result c.args.«data».now)
      c.decoded-report.result.rows c.new-rows.result.columns c.write_white.new.self.start _ _
      c.write_white.new.self.changes c.args.bitmap.now c.write_white.new.self.bitmap.now c.new-rows.ensures.columns enough
      meaning

-- a statement about what was decoded, and about the memory afterwards, is one about what C gets
on_packed : (c : After-reported) (P : DecodeSettings → Bits → List ℕ → Type 0) (memory : List ℕ)
    → P c.in-Some.meant (bits_in c.order_of.result c.args.«data».now) memory → BitsFit c.args.«data».now
    → IfSome (settings_of c.args.settings.now) (λ s. P s (bits_in (order_of c.args.settings.now) c.args.«data».now) memory)
on_packed c P memory = on_settings c.args.settings.now c.in-Some.meant c.args.«data».now c.order_of.result
    (λ s bits. P s bits memory) (meant c) c.order_of.ensures

-- the same of one that holds of bytes
on_bytes : (c : After-reported) (P : DecodeSettings → Bits → List ℕ → Type 0) (memory : List ℕ)
    → (All (λ byte. byte < 256) memory → P c.in-Some.meant (bits_in c.order_of.result c.args.«data».now) memory)
    → ((k : ℕ) → Fits w8 (get_or memory k 0)) → BitsFit c.args.«data».now
    → IfSome (settings_of c.args.settings.now) (λ s. P s (bits_in (order_of c.args.settings.now) c.args.«data».now) memory)
on_bytes c P memory holds fits = on_packed c P memory (holds (all_fit memory fits))

pub returns-clause-changes : goal.returns-clause-changes
returns-clause-changes c = rw c.reported.ensures.outcome (λ fit. on_packed c (λ s bits memory.
    c.changes.result ≡ changes_taken s bits c.decoded-report.result.rows) [] (c.changes.ensures ∙ counted c) fit)

pub returns-clause-packed : goal.returns-clause-packed
returns-clause-packed c =
    let are = packed c in
    let name = sym c.new-rows.ensures.same_reference ∙ same c in
    rw c.reported.ensures.outcome
    (λ fit. on_bytes c (λ s bits memory. ArePacked (layout_of c.args.settings.now) s bits c.decoded-report.result.rows
    c.args.bitmap.now memory) _ (search rules) c.type_inv.bitmap fit)

pub returns-clause-together : goal.returns-clause-together
returns-clause-together c =
    let are = λ (fits : All (λ byte. byte < 256) c.write_white.new.self.bitmap.now)
    (is : layout_of c.args.settings.now ≡ together c.in-Some.meant.columns). are_together c.in-Some.meant
    (bits_in c.order_of.result c.args.«data».now) c.decoded-report.result.rows c.args.bitmap.now
    c.write_white.new.self.bitmap.now (subst (λ (l : Layout). ArePacked l c.in-Some.meant
    (bits_in c.order_of.result c.args.«data».now) c.decoded-report.result.rows c.args.bitmap.now
    c.write_white.new.self.bitmap.now) is (packed c fits)) in
    let name = sym c.new-rows.ensures.same_reference ∙ same c in
    rw c.reported.ensures.outcome
    (λ fit. on_bytes c (λ s bits memory. layout_of c.args.settings.now ≡ together s.columns
    → AreTogether s bits c.decoded-report.result.rows c.args.bitmap.now memory) _ (search rules) c.type_inv.bitmap fit)

pub returns-clause-refused : goal.returns-clause-refused
returns-clause-refused c = λ full.
    let few : length c.write_white.new.self.bitmap.now
    < c.decoded-report.result.rows * (layout c).stride + bytes_of_row c.in-Some.meant.columns =
    omega (
      arith,
      started c,
      wide c,
      c.new-rows.ensures.columns,
      c.write_white.new.self.full
          (c.write_white.ensures.has_refused ∙ c.decoded-report.ensures.flag (sym c.reported.ensures.status ∙ full)),
    ) in
    let name = sym c.new-rows.ensures.same_reference ∙ same c in
    rw c.reported.ensures.outcome (λ fit. on_packed c (λ s bits memory. length memory
    < c.decoded-report.result.rows * (layout_of c.args.settings.now).stride + bytes_of_row s.columns) _ (search rules) fit)
