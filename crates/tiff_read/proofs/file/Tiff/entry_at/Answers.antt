use Rattle.std.proofs.Common.{arith, ◌≡◌, ◌∙◌, ◌≤◌, ◌+◌, length, ap, refl}
use Rattle.tiff_read.specs.Directories.{short_at, values_at, word_at}
use Rattle.tiff_read.specs.Numbers.{entry_bytes, is_big_endian, is_big_tiff}
use Rattle.tiff_read.specs.Payments.{Reading}
use Rattle.tiff_read.proofs.EntryLemmas.{entry_at-whole, short_read}
use Rattle.tiff_read.proofs.file.Tiff.entry_at.Goals as goal

pub returns-clause-entry : goal.returns-clause-entry
returns-clause-entry c =
    let bytes = c.args.self.now.bytes in
    let place = c.args.place in
    let size : c.entry_bytes-else-file-entry_bytes.result ≡ entry_bytes (is_big_tiff bytes) = cc in
    let size2 : c.entry_bytes.result ≡ entry_bytes (is_big_tiff bytes) = cc in
    let all : length c.bytes-file.result.now ≡ length bytes = cc in
    let fits : place + entry_bytes (is_big_tiff bytes) ≤ length bytes =
    omega (arith, size, size2, all, c.if-file-entry_bytes.false, c.if-place-file.false) in
    let order = c.self.invariant.0 ∙ ap (λ (r : Reading). is_big_endian r.bytes) c.self.view_is in
    let file = c.bytes-file.ensures in
    let tag : c.short.result ≡ short_at bytes place = short_read bytes _ _ place _ _ file order refl c.short.ensures in
    let kind : c.short-kind.result ≡ short_at bytes (place + 2) =
    short_read bytes _ _ (place + 2) _ _ file order (omega arith) c.short-kind.ensures in
    let count : c.word_at-count.result ≡ word_at bytes (place + 4) = c.word_at-count.ensures in
    let values : c.values_at.result ≡ values_at bytes place =
    rw (← kind, ← count) c.values_at.ensures in
    entry_at-whole bytes place c.short.result c.values_at.result fits tag values
