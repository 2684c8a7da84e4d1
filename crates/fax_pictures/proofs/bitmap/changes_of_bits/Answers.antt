use Rattle.fax_encode.proofs.Names.{take, map}
use Rattle.fax_encode.proofs.Names.{sym, ap, ◌∙◌, bits_of}
use Rattle.fax_encode.proofs.Names.{rows_of}
use Rattle.fax_pictures.proofs.PackedPictures.{one_row, only_row}
use Rattle.fax_pictures.proofs.bitmap.changes_of_bits.Goals as goal

pub returns-clause-row : goal.returns-clause-row
returns-clause-row c = only_row (λ row. row.items) c.args.columns c.pop.new.self.items c.in-Some.changes
    (take c.args.columns (bits_of c.args.row.now))
    (ap (λ l. rows_of c.args.columns (map (λ row. row.items) l)) (sym c.in-Some.ensures.items) ∙ c.in_ok-rows.ensures.pixels
    ∙ one_row c.args.columns c.args.row.now c.requires.some c.requires.size)
