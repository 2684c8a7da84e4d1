use Rattle.std.proofs.lemmas.Grind.{common_steps}
use Rattle.std.proofs.Common.{arith, ◌≡◌, ℕ, true, List, sym, ap, subst, ◌∙◌, IfOk}
use Rattle.hayro_ccitt.specs.Bits.{Bits, bits_in}
use Rattle.hayro_ccitt.specs.Rows.{Row}
use Rattle.fax_encode.specs.Chosen.{filled_up}
use Rattle.fax_encode.specs.RowByRow.{RowsEncoded, no_rows, with_rows}
use Rattle.fax_encode.specs.Settings.{chosen, needs_row}
use Rattle.fax_encode.specs.declared.settings.EncodeSettings.{EncodeSettings as EncoderSettings}
use Rattle.c_rows.specs.Packing.{rows_read}
use Rattle.c_rows.proofs.SpreadRows.{settings_are, lines_are, none_wanted, none_counted, none_there, few_if_none}
use Rattle.c_rows.proofs.SpreadRows.{rows_read-none}
use Rattle.c_rows.proofs.encoding.encode_spread.Goals as goal

pub returns : goal.returns
returns c =
    let settings : EncoderSettings = c.args.settings in
    let columns : ℕ = c.args.columns in
    let rows : List Row = rows_read c.args.layout columns c.args.bitmap.now in
    let now : RowsEncoded = c.push_rows.new.encoder in
    let is : now ≡ with_rows (no_rows settings columns) rows = c.in_ok-push_rows.ensures.pushed
    ∙ ap (λ (r : RowsEncoded). with_rows r rows) c.in_ok-encoder.ensures.made in
    let same = settings_are settings columns rows now is in
    record {
      no_rows = (
        λ refused.
            let reported = c.finish.ensures.no_rows.0 refused in
            let none = none_counted settings columns rows now is reported.1 in (
              subst (λ (s : EncoderSettings). needs_row s.encoding s.end_of_block ≡ true) same reported.2,
              few_if_none c.args.layout columns c.args.bitmap.now c.requires.some c.requires.reaches none,
            ),
        λ given.
            c.finish.ensures.no_rows.1 (
              none_wanted settings columns rows now is,
              none_there settings columns rows now is (rows_read-none c.args.layout columns c.args.bitmap.now given.1),
              subst (λ (s : EncoderSettings). needs_row s.encoding s.end_of_block ≡ true) (sym same) given.0,
            ),
      );
      others = grind (arith, common_steps);
      encoded = subst (λ (s : EncoderSettings). IfOk c.finish.result
          (λ bytes. bits_in s.order bytes.items ≡ filled_up (chosen settings columns rows))) same
          (subst (λ (b : Bits). IfOk c.finish.result (λ bytes. bits_in now.settings.order bytes.items ≡ filled_up b))
          (lines_are settings columns rows now is) c.finish.ensures.encoded);
    }
