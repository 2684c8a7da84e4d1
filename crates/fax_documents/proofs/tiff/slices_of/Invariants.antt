use Rattle.std.specs.Prelude.{◌≡◌, map, take}
use Rattle.fax_documents.proofs.tiff.slices_of.Given as goal

abbrev pub invariant-slices : goal.invariant-slices
invariant-slices l =
    map (λ slice. slice.now) l.slices.items ≡ map (λ strip. strip.items) (take l.strip-index l.fn.page.strips.items)
