-- The page of a directory.
use Rattle.std.proofs.Common.{◌≡◌, ◌∙◌, ap, Bool, true, false, refl, List, ℕ, None, Some, Option}
use Rattle.std.specs.Prelude.{if◌then◌else◌}
use Rattle.tiff_read.specs.Pictures.{layout_of, picture_of}
use Rattle.tiff_read.specs.declared.directory.Directory.{Directory}
use Rattle.tiff_read.specs.declared.layout.Layout.{Layout}
use Rattle.tiff_read.specs.declared.picture.Picture.{Picture}
use Rattle.fax_pages.specs.TiffPages.{first_of, has_parts, refusal_by, why_refused, why_undecoded}
use Rattle.fax_pages.specs.declared.refused.Refusal.{Refusal}
use Rattle.fax_pages.specs.declared.refused.Refusal.TheVariants as refusal

-- What is given under a condition, if it is.
pub given : {A : Type 0} (holds : Bool) (one other : A) → Some other ≡ (if holds then Some one else None)
    → (holds ≡ true) × (other ≡ one)
given true one other is = (refl, cc)
given false one other is = cc

-- It is decoded.
pub none_refused : (bytes : List ℕ) (directory : Directory) (picture : Picture) (layout : Layout)
    → picture ≡ picture_of bytes directory → why_refused picture ≡ None → layout_of bytes directory ≡ Some layout
    → has_parts layout ≡ true → refusal_by bytes directory ≡ None
none_refused bytes directory picture layout is why laid has =
    let first = rw is at why in
    let second = ap (why_undecoded (picture_of bytes directory)) laid
    ∙ ap (λ (parts : Bool). if parts then None else Some refusal.TileSize) has in
    ap (λ (one : Option Refusal). first_of one (why_undecoded (picture_of bytes directory) (layout_of bytes directory))) first
    ∙ second
