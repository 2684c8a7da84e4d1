use Rattle.fax_encode.proofs.Names.{ℕ, sym, ap, subst, DecodeSettings, bits_of, Context, IsClosedPicture, rows_of}
use Rattle.fax_encode.proofs.PackedRows.{packed_from}
use Rattle.fax_callers.proofs.round_trip.bitmap_of.Goals as goal

pub returns-in-Ok-decode-clause-packed : goal.returns-in-Ok-decode-clause-packed
returns-in-Ok-decode-clause-packed c lists count are closed =
    let columns : ℕ = c.args.settings.columns in
    let settings = ap (λ (ctx : Context). ctx.held.settings) c.in-Ok.ensures.made in
    let picture = subst (λ (s : DecodeSettings). IsClosedPicture s (rows_of columns lists) count (bits_of c.args.encoded.now))
    (sym settings) closed in
    packed_from columns lists c.new-sink.result _ are c.new-sink.ensures
    (c.in-Ok-decode.ensures.decodes.picture (rows_of columns lists) count picture)
