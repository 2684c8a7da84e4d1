use Rattle.std.proofs.KnownBytes.{Appends-trans}
use Rattle.fax_documents.proofs.tiff.TiffWriter.put_directory.Goals as goal

pub returns-clause-written : goal.returns-clause-written
returns-clause-written g c =
    (_, Appends-trans _ _ _ _ _ c.in_ok-put.ensures.written c.in_ok-put_strips.ensures.written)
