use Rattle.fax_encode.proofs.Names.{map, rows_of}
use Rattle.fax_encode.proofs.ClosedPictures.{in_group4}
use Rattle.fax_encode.proofs.closed_pictures.encode_g4.Goals as goal

pub returns-clause-encoded : goal.returns-clause-encoded
returns-clause-encoded c =
    in_group4 (λ bytes. bytes.items) _ _ c.args.columns (rows_of c.args.columns (map (λ row. row.items) c.args.rows.now))
    c.encode.ensures.encoded c.args.aligned c.group4_settings.ensures
