use Rattle.faxrows_lib.proofs.Names.{rules, ◌≡◌, false, [], List, ℕ, Result, ap, ◌∙◌, AppendsFront, DecodeError, DecodeSettings}
use Rattle.faxrows_lib.proofs.Names.{Bits, bits_of, bits_in, Bitmap, IsPackedOf, answer_of, refl}
use Rattle.faxrows_lib.proofs.{PackedRuns.sink_bits, ProgramRuns.wrote, Texts.ends_after, packed.write_packed.Given.Over}
use Rattle.faxrows_lib.proofs.packed.write_packed.Goals.{After-bytes-bytes}
use Rattle.faxrows_lib.proofs.packed.write_packed.Goals as goal

module _ (g : Over) (c : After-bytes-bytes g) where
  abbrev settings : DecodeSettings
  settings = c.args.ctx.now.held.settings

  -- the bits of the bytes
  abbrev bits : Bits
  bits = bits_in c.args.order c.args.input.now

  -- the sink's bytes are packed of the data, with this result
  packed_bytes : (answer : Result (Unit {0}) DecodeError) → answer ≡ answer_of c.decode_in-outcome.result
      → IsPackedOf settings bits answer c.bytes-bytes.result.now
  packed_bytes answer is =
      let empty : c.new-sink.result ≡ record { bytes = []; columns = settings.columns; has_refused = false } =
      c.new-sink.ensures ∙ ap {B = Bitmap}
      (λ (s : DecodeSettings). record { bytes = []; columns = s.columns; has_refused = false }) c.settings.ensures.value in (
        c.decode_in-outcome.new.ctx.held.taken,
        c.decode_in-outcome.result,
        ends_after _ settings bits _ _ _ _ c.decode_in-outcome.ensures.decodes.reading c.decode_in-outcome.ensures.decodes.short,
        is,
        ap bits_of c.bytes-bytes.ensures ∙ sink_bits c.rows_are_packed.ensures settings bits c.new-sink.result _ _ _ empty
            c.decode_in-outcome.ensures.decodes.widths c.decode_in-outcome.ensures.decodes.reading,
      )

pub returns-in_err-write_all : goal.returns-in_err-write_all
returns-in_err-write_all g c =
    let at = (goal.at.returns-in_err-write_all g c).After-bytes-bytes in
    let front : (answer : Result (Unit {0}) DecodeError) × (text : List ℕ) × IsPackedOf (settings g at) (bits g at) answer text
    × AppendsFront (g.W.Write.contents c.args.writer.now.0) (g.W.Write.contents c.write_all.new.writer.0) text = (
      answer_of c.decode_in-outcome.result,
      c.bytes-bytes.result.now,
      packed_bytes g at _ refl,
      c.in_err-write_all.ensures.front,
    ) in
    search rules

pub returns : goal.returns
returns g c = record {
  writes = wrote _ _ c.answer_of.result c.bytes-bytes.result.now
      (packed_bytes g (goal.at.returns g c).After-bytes-bytes _ c.answer_of.ensures) c.in_ok-write_all.ensures.ok
      c.in_ok-write_all.ensures.flag;
}
