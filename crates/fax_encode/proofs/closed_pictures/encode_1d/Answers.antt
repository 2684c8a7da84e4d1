use Rattle.fax_encode.proofs.Names.{map, rows_of}
use Rattle.fax_encode.proofs.ClosedPictures.{in_group3}
use Rattle.fax_encode.proofs.closed_pictures.encode_1d.Goals as goal

pub returns-clause-encoded : goal.returns-clause-encoded
returns-clause-encoded c =
    in_group3 (λ bytes. bytes.items) _ _ c.args.columns (rows_of c.args.columns (map (λ row. row.items) c.args.rows.now))
    c.encode.ensures.encoded c.group3_settings.ensures
