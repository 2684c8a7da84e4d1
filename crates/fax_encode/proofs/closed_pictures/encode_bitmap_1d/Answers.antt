use Rattle.fax_encode.proofs.Names.{shown}
use Rattle.fax_encode.proofs.ClosedPictures.{in_group3}
use Rattle.fax_encode.proofs.closed_pictures.encode_bitmap_1d.Goals as goal

pub returns-clause-encoded : goal.returns-clause-encoded
returns-clause-encoded c =
    in_group3 (λ bytes. bytes.items) _ _ c.args.columns (shown c.args.columns c.args.bitmap.now)
    c.encode_bitmap.ensures.encoded c.group3_settings.ensures
