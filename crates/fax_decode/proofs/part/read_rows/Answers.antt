use Rattle.std.proofs.Common.{refl, ap, ◌∙◌, [], ℕ, subst}
use Rattle.hayro_ccitt.specs.Answers.{meaning_after}
use Rattle.hayro_ccitt.specs.Bits.{bits_in, bits_of}
use Rattle.hayro_ccitt.specs.Context.{Context}
use Rattle.hayro_ccitt.specs.PlainReading.{plain}
use Rattle.hayro_ccitt.specs.Rows.{HaveWidth}
use Rattle.fax_encode.specs.Packed.{Bitmap, with_packed_row}
use Rattle.fax_decode.proofs.PartReadings.{reads}
use Rattle.fax_decode.proofs.part.read_rows.Goals as goal

pub returns : goal.returns
returns c = record {
  reading = rw (← ap (λ (ctx : Context). ctx.held.settings) c.in-Ok.ensures.made)
      (reads _ _ _ _ _ _ _ _ c.decode_in-end.ensures.decodes _ refl c.decoded_rows.ensures
      (λ whole widths. let rows = (plain c.in-Ok.ctx.held.settings (bits_in c.args.order c.args.«data».now)).rows in
      ap bits_of c.into_bytes.ensures ∙ whole
      ∙ ap (λ (b : Bitmap). meaning_after (with_packed_row b.columns) (bits_of b.bytes) rows) c.new-sink.ensures
      ∙ c.rows_are_packed.ensures c.args.settings.columns [] rows
      (subst (λ (n : ℕ). HaveWidth n rows) (ap (λ (ctx : Context). ctx.held.settings.columns) c.in-Ok.ensures.made) widths)));
}
