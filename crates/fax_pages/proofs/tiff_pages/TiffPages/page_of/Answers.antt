use Rattle.std.proofs.Common.{◌≡◌, ◌∙◌, sym, ap, refl, Some}
use Rattle.tiff_read.specs.Payments.{Reading}
use Rattle.tiff_read.specs.Pictures.{layout_of, picture_of}
use Rattle.tiff_read.specs.declared.picture.Picture.{Picture}
use Rattle.fax_pages.specs.declared.tiff_pages.Sizes.{Sizes}
use Rattle.fax_pages.proofs.FoundPages.{given, none_refused}
use Rattle.fax_pages.proofs.tiff_pages.TiffPages.page_of.Goals as goal

pub returns-clause-page : goal.returns-clause-page
returns-clause-page c =
    let bytes = c.args.self.now.bytes in
    let directory = c.args.directory.now in
    let picture = c.in_ok-picture.picture in
    let is : picture ≡ picture_of bytes directory = c.in_ok-picture.ensures.picture in
    let first : c.picture.new.self.bytes ≡ bytes = c.in_ok-picture.ensures.paid.0.0.0 in
    let second : c.layout.new.self.bytes ≡ bytes = c.in_ok-layout.ensures.paid.0.0.0 ∙ first in
    let third : c.is_inverted.new.self.bytes ≡ bytes = c.in_ok-is_inverted.ensures.same.0.0 ∙ second in
    let fourth : c.texts.new.self.bytes ≡ bytes = c.in_ok-texts.ensures.same.0.0 ∙ third in
    let fifth : c.parts.new.self.bytes ≡ bytes = c.in_ok-parts.ensures.same.0.0 ∙ fourth in
    let laid : layout_of bytes directory ≡ Some c.in-Some-2.layout =
    sym (rw first at c.in_ok-layout.ensures.layout) ∙ c.in-Some-2.is in
    let (has, sized) = given _ _ _ (sym c.in-Some-sizes_of.is ∙ c.sizes_of.ensures) in
    record {
      decoded = none_refused bytes directory picture c.in-Some-2.layout is (sym c.why_refused.ensures ∙ c.in_default.is) laid has;
      of_file = c.bytes.ensures ∙ ap (λ (r : Reading). r.bytes) c.self.view_is ∙ fifth;
      columns = ap (λ (s : Sizes). s.columns) sized ∙ ap (λ (p : Picture). p.columns) is;
      rows = ap (λ (s : Sizes). s.rows) sized ∙ ap (λ (p : Picture). p.rows) is;
      has_height = refl;
      order = rw is at c.order_of_tags.ensures;
      orientation = ap (λ (p : Picture). p.orientation) is;
      is_inverted = rw (second, is) at c.in_ok-is_inverted.ensures.inverted;
      rows_are_words = rw is refl;
      across = ap (λ (p : Picture). p.across) is;
      down = ap (λ (p : Picture). p.down) is;
      unit = ap (λ (p : Picture). p.unit) is;
      texts = rw third at c.in_ok-texts.ensures.texts;
      layout = c.in-Some-2.layout;
      laid_out = laid;
      kind = c.kind_of.ensures;
      parts = rw (sized, is, fourth) at c.in_ok-parts.ensures.parts;
    }
