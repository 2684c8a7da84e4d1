use Rattle.std.proofs.Common.{arith, ◌≡◌, ◌∙◌, ◌+◌, ◌-◌, ◌*◌, ◌^◌, min, sym, ap, None, Some}
use Rattle.tiff_read.specs.Numbers.{entry_bytes, is_big_tiff}
use Rattle.tiff_read.specs.Payments.{Reading}
use Rattle.tiff_read.specs.Texts.{values_of}
use Rattle.tiff_read.specs.declared.directory.Directory.{Directory}
use Rattle.tiff_read.proofs.EntryLemmas.{entry_at-counted, first_values-more, option_or-none}
use Rattle.tiff_read.proofs.file.Tiff.directory_of.Goals as goal
use Rattle.tiff_read.proofs.file.Tiff.directory_of.Goals.{in-Some, in_default}

pub entries-preserved : goal.entries-preserved
entries-preserved c =
    let bytes = c.args.self.now.bytes in
    let start = c.args.table.now.start in
    let index = c.entries.index in
    let form = c.self.invariant.1 ∙ ap (λ (r : Reading). is_big_tiff r.bytes) c.self.view_is in
    let size : c.entry_bytes.result ≡ entry_bytes (is_big_tiff bytes) = c.entry_bytes.ensures ∙ ap entry_bytes form in
    let before : c.saturating_mul.result ≡ min (index * entry_bytes (is_big_tiff bytes)) (2 ^ 64 - 1) =
    rw (← size) c.saturating_mul.ensures in
    let counted : c.saturating_add-place.result ≡ min (start + index * entry_bytes (is_big_tiff bytes)) (2 ^ 64 - 1) =
    omega (arith, before, c.saturating_add-place.ensures) in
    let found = c.entry_at.ensures.entry ∙ entry_at-counted bytes _ _ c.entry_at.ensures.few counted in
    let was = c.entries.invariant in
    elim c.match-entry_at.branch [
      | in-Some w ↦
          let set = w.set.ensures in
          record {
            entries = ap (λ (d : Directory). d.entries) w.directory-is ∙ set.entries ∙ was.entries;
            is_cut = ap (λ (d : Directory). d.is_cut) w.directory-is ∙ set.is_cut ∙ was.is_cut;
            values = λ tag. first_values-more bytes start index tag (Some w.in-Some.entry) (values_of c.entries.directory tag) _
                (sym w.in-Some.is ∙ found) (was.values tag)
                (ap (λ (d : Directory). values_of d tag) w.directory-is ∙ set.values tag);
          }
      | in_default w ↦ record {
        entries = ap (λ (d : Directory). d.entries) w.directory-is ∙ was.entries;
        is_cut = ap (λ (d : Directory). d.is_cut) w.directory-is ∙ was.is_cut;
        values = λ tag. first_values-more bytes start index tag None (values_of c.entries.directory tag) _
            (sym w.in_default.is ∙ found) (was.values tag)
            (ap (λ (d : Directory). values_of d tag) w.directory-is ∙ option_or-none (values_of c.entries.directory tag));
      }
    ]
