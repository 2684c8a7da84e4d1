-- What decoding leaves is the reading of the data.
use Rattle.std.proofs.Common.{◌≡◌, sym, ◌∙◌, ℕ, List, Ok, Err}
use Rattle.std.specs.Prelude.{Result}
use Rattle.hayro_ccitt.specs.DecodeError.{DecodeError}
use Rattle.hayro_ccitt.specs.DecodeSettings.{DecodeSettings}
use Rattle.hayro_ccitt.specs.Answers.{OnAnswer, meaning_after}
use Rattle.hayro_ccitt.specs.Bits.{Bits, bits_of}
use Rattle.hayro_ccitt.specs.Context.{Held}
use Rattle.hayro_ccitt.specs.Contract.{Decodes}
use Rattle.hayro_ccitt.specs.Decoding.{SinkState}
use Rattle.hayro_ccitt.specs.PlainReading.{plain}
use Rattle.hayro_ccitt.specs.Rows.{HaveWidth}
use Rattle.fax_encode.specs.Packed.{packed}
use Rattle.fax_decode.specs.Parts.{HasReading}
use Rattle.fax_decode.specs.declared.part.PartRows.{PartRows}

-- rows whose bitmap is what the sink means
pub reads : {M : Type 0} (settings : DecodeSettings) (bits : Bits) (step : M → List ℕ → M) (before after : SinkState M)
    (held : Held) (ticks : ℕ) (answer : Result ℕ DecodeError) → Decodes settings bits step before after held ticks answer
    → (part : PartRows) → part.end ≡ answer → part.rows ≡ held.taken
    → (after.meaning ≡ meaning_after step before.meaning (plain settings bits).rows
    → HaveWidth settings.columns (plain settings bits).rows → bits_of part.bytes.items ≡ packed (plain settings bits).rows)
    → OnAnswer answer (HasReading settings.columns (plain settings bits) part)
reads settings bits step before after held ticks (Ok n) left part end rows packs = record {
  widths = left.widths;
  bitmap = packs left.whole left.widths;
  rows = rows ∙ left.reading.all;
  end = end ∙ sym left.reading.ok;
}
reads settings bits step before after held ticks (Err error) left part end rows packs = λ fault. record {
  widths = left.widths;
  bitmap = packs (left.whole fault) left.widths;
  rows = rows ∙ left.reading.all fault;
  end = end ∙ sym (left.reading.fault fault);
}
