use Rattle.std.proofs.Common.{◌≡◌, ◌∙◌, ◌≤◌, ◌<◌, ◌+◌, ◌*◌, ◌/◌, ℕ, All, Fits, w8, List, get_or, length, refl, sym, ap}
use Rattle.std.proofs.Common.{true, subst, arith, rules}
use Rattle.hayro_ccitt.specs.Answers.{meaning_after}
use Rattle.hayro_ccitt.specs.DecodeSettings.{DecodeSettings}
use Rattle.hayro_ccitt.specs.Rows.{HaveWidth, Row}
use Rattle.c_rows.specs.GivenRows.{ArePackedRows, StandPacked, columns_of, room_of_packed, rows_given}
use Rattle.c_rows.specs.Packing.{Packing, bytes_of_row, spaced, with_packed}
use Rattle.c_rows.specs.declared.packed_rows.Layout.{Layout}
use Rattle.c_rows.proofs.FedRows.{gives_rows}
use Rattle.c_rows.proofs.PackedMemory.{all_fit, packing_of, same_meaning}
use Rattle.c_rows.proofs.StandingRows.{as_many, rows_before, same_layout, same_memory, stand_packed, start_of_next}
use Rattle.c_rows.proofs.WhiteRows.{all_in_memory}
use Rattle.c_rows.proofs.feeding.Feeding.pack_kept.Goals.{After-write_white}
use Rattle.c_rows.proofs.feeding.Feeding.pack_kept.Goals as goal

module _ (c : After-write_white) where
  abbrev rows : List Row
  rows = rows_given c.push_all-answer.ensures.passes.given

  abbrev layout : Layout
  layout = spaced c.args.self.now.layout

  columns : c.new-sink.result.columns ≡ columns_of c.args.self.now
  columns = c.new-sink.ensures.columns ∙ ap (λ (s : DecodeSettings). s.columns) c.settings-columns.ensures

  wide : HaveWidth c.new-sink.result.columns rows
  wide = subst (λ (n : ℕ). HaveWidth n rows) (sym columns) c.push_all-answer.ensures.passes.wide

  laid_out : c.new-sink.result.layout ≡ layout
  laid_out = c.new-sink.ensures.layout ∙ c.spaced.ensures

  -- what the sink means after these rows
  meaning : packing_of c.write_white.new.self.layout c.write_white.new.self.start c.write_white.new.self.bitmap.now
      c.write_white.new.self.changes c.write_white.new.self.bitmap.ghost_name
      ≡ meaning_after (with_packed c.new-sink.result.columns)
      (packing_of layout 0 c.args.bytes.now 0 c.new-sink.result.bitmap.ghost_name) rows
  meaning =
      sym (all_in_memory c.write_white.new.self.layout c.write_white.new.self.start c.write_white.new.self.written
      c.write_white.new.self.bitmap.now c.write_white.new.self.changes c.write_white.new.self.bitmap.ghost_name
      c.write_white.ensures.written)
      ∙ c.write_white.ensures.meaning
      ∙ c.push_all-answer.ensures.passes.meaning ∙ ap (λ (before : Packing). meaning_after
      (with_packed c.new-sink.result.columns) before rows)
      (all_in_memory c.new-sink.result.layout c.new-sink.result.start c.new-sink.result.written c.new-sink.result.bitmap.now
      c.new-sink.result.changes c.new-sink.result.bitmap.ghost_name
      (c.new-sink.ensures.starts.written_is ∙ sym c.new-sink.ensures.starts.start_is)
      ∙ same_meaning c.new-sink.result.layout layout c.new-sink.result.start 0 c.new-sink.result.bitmap.now c.args.bytes.now
      c.new-sink.result.changes 0 c.new-sink.result.bitmap.ghost_name laid_out c.new-sink.ensures.starts.start_is
      c.new-sink.ensures.bytes c.new-sink.ensures.starts.changes_are)

  same : c.new-sink.result.bitmap.ghost_name ≡ c.write_white.new.self.bitmap.ghost_name
  same = same_memory layout c.write_white.new.self.layout c.new-sink.result.columns c.write_white.new.self.start _ _
      c.write_white.new.self.changes rows c.args.bytes.now c.write_white.new.self.bitmap.now wide meaning

  start_is : c.write_white.new.self.start ≡ length rows * layout.stride
  start_is = start_of_next layout c.write_white.new.self.layout c.new-sink.result.columns c.write_white.new.self.start _ _
      c.write_white.new.self.changes rows c.args.bytes.now c.write_white.new.self.bitmap.now wide meaning

  layout_is : c.write_white.new.self.layout ≡ layout
  layout_is = same_layout layout c.write_white.new.self.layout c.new-sink.result.columns c.write_white.new.self.start _ _
      c.write_white.new.self.changes rows c.args.bytes.now c.write_white.new.self.bitmap.now wide meaning

  some : 0 < layout.stride
  some = omega arith

  some_apart : 0 < c.write_white.new.self.layout.stride
  some_apart = subst (λ (l : Layout). 0 < l.stride) (sym layout_is) some

  count_is : c.write_white.new.self.start / c.write_white.new.self.layout.stride
      ≡ length c.push_all-answer.ensures.passes.given
  count_is =
      ap (λ (l : Layout). c.write_white.new.self.start / l.stride) layout_is
      ∙ ap (λ (n : ℕ). n / layout.stride) start_is ∙ rows_before (length rows) layout.stride some
      ∙ as_many c.push_all-answer.ensures.passes.given

  reaches : bytes_of_row c.new-sink.result.columns ≤ layout.stride
  reaches = subst (λ (l : Layout). bytes_of_row c.new-sink.result.columns ≤ l.stride) laid_out c.new-sink.result.reaches

  room : c.write_white.new.self.start + bytes_of_row c.new-sink.result.columns
      ≤ length c.write_white.new.self.bitmap.now + c.write_white.new.self.layout.stride
  room = subst (λ (n : ℕ). c.write_white.new.self.start + bytes_of_row n
      ≤ length c.write_white.new.self.bitmap.now + c.write_white.new.self.layout.stride)
      (c.write_white.ensures.shape.columns ∙ c.push_all-answer.ensures.width)
      c.write_white.new.self.within

  written : All (λ byte. byte < 256) c.write_white.new.self.bitmap.now
      → ArePackedRows c.args.self.now rows c.args.bytes.now c.write_white.new.self.bitmap.now
  written fit = subst (λ (n : ℕ). StandPacked layout n rows c.args.bytes.now c.write_white.new.self.bitmap.now) columns
      (stand_packed layout c.write_white.new.self.layout c.new-sink.result.columns c.write_white.new.self.start _ _
      c.write_white.new.self.changes rows c.args.bytes.now c.write_white.new.self.bitmap.now wide meaning reaches room
      c.new-sink.ensures.are_bytes fit)

  few : c.write_white.new.self.has_refused ≡ true
      → length c.write_white.new.self.bitmap.now < room_of_packed c.push_all-answer.new.self rows
  few full =
      let width : c.write_white.new.self.columns ≡ columns_of c.push_all-answer.new.self =
      c.write_white.ensures.shape.columns ∙ c.push_all-answer.ensures.width ∙ columns ∙ sym
      c.push_all-answer.ensures.passes.columns in
      let place : c.write_white.new.self.start ≡ length rows * (spaced c.push_all-answer.new.self.layout).stride =
      start_is ∙ ap (λ (l : Layout). length rows * (spaced l).stride) (sym c.push_all-answer.ensures.passes.layout.0) in
      let bytes : (c.write_white.new.self.columns + 7) / 8 ≡ bytes_of_row (columns_of c.push_all-answer.new.self) =
      ap bytes_of_row width in
      omega (arith, place, bytes, c.write_white.new.self.full full)

-- what holds of bytes holds of memory
on_memory : (P : List ℕ → Type 0) (memory : List ℕ) → (All (λ byte. byte < 256) memory → P memory)
    → ((k : ℕ) → Fits w8 (get_or memory k 0)) → P memory
on_memory P memory holds fits = holds (all_fit memory fits)

pub rows-requires : goal.rows-requires
rows-requires c = some_apart (goal.at.rows-requires c).After-write_white

pub returns : goal.returns
returns c =
    let here = (goal.at.returns c).After-write_white in
    let are = written here in
    let full = λ (refused : c.push_all-answer.new.sink.has_refused ≡ true).
    few here (c.write_white.ensures.has_refused ∙ refused) in
    let name = sym c.new-sink.ensures.same_reference ∙ same here in
    gives_rows ArePackedRows room_of_packed c.push_all-answer.ensures.passes _ refl
    (c.has_refused-self.ensures ∙ c.write_white.ensures.has_refused) refl
    c.args.bytes.now _ c.rows.result c.status_after.result (c.rows.ensures ∙ count_is here)
    (on_memory (λ (m : List ℕ). ArePackedRows c.args.self.now (rows here) c.args.bytes.now m) _ (search rules) c.type_inv.bytes)
    (λ refused _. search rules) c.status_after.ensures
