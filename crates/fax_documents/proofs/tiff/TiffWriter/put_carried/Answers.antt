use Rattle.std.proofs.Common.{ap, ◌∙◌, List, ℕ}
use Rattle.std.specs.Prelude.{map}
use Rattle.std.specs.Borrow.{Bor}
use Rattle.fax_documents.proofs.LaidOut.{same_page}
use Rattle.fax_documents.proofs.tiff.TiffWriter.put_carried.Goals as goal

pub returns-clause-written : goal.returns-clause-written
returns-clause-written g c =
    same_page c.put_directory.result (g.W.Write.contents c.args.out.now) (g.W.Write.contents c.put_directory.new.out)
    (map (λ (slice : Bor (List ℕ)). slice.now) c.as_slice-2.result.now) (map (λ strip. strip.items) c.args.page.now.strips.items)
    (ap (λ (slices : List (Bor (List ℕ))). map (λ (slice : Bor (List ℕ)). slice.now) slices) c.as_slice-2.ensures.value
    ∙ c.in_ok-strips.ensures)
    c.put_directory.ensures.written
