-- Where data departs from what the coding procedure writes.
use Rattle.hayro_ccitt.proofs.Names.{◌≡◌, ◌≢◌, ℕ, zero, suc, ◌<◌, ◌≤◌, Bool, true, false, Option, Some, None, ◌++◌}
use Rattle.hayro_ccitt.proofs.Names.{length, refl, ap, sym, ◌∙◌, arith, inl, inr, Bits, BitsAt}
use Rattle.hayro_ccitt.proofs.Names.{Row, DecodeSettings, EncodingMode, Group4, Group3_1D, Group3_2D, here}
use Rattle.hayro_ccitt.proofs.Names.{after_eol, White, EncodesLine}
use Rattle.hayro_ccitt.proofs.EncodedPictures.PictureLines.{line_2d_starts}
use Rattle.hayro_ccitt.proofs.EncodedPictures.PicturesT4.{eol_stands, line_t4_starts}
use Rattle.fax_encode.specs.Procedure.{tag_of_line}
use Rattle.fax_conforms.specs.ByProcedure.{HasKind, MayCome, part_of}
use Rattle.fax_conforms.specs.Conforming.{EolStands}
use Rattle.fax_conforms.specs.Departures.{KindDeparts, LineEndsAt, PartEndsAt, TagSays}
use Rattle.fax_conforms.specs.Standing.{LineStands, Never}
use Rattle.fax_conforms.specs.Stops.{IsBroken}
use Rattle.fax_conforms.specs.declared.stops.Stop.{Stop}
use Rattle.fax_conforms.specs.declared.stops.Stop.TheVariants.{Violation, OutOfMemory}

-- ---- The kind of a line.

-- one that may not come is two-dimensional
pub kind_departs : (encoding : EncodingMode) (left : Option ℕ) (start : Bits) (is_two : Bool) → HasKind encoding is_two
    → TagSays encoding start is_two → (encoding ≡ Group4 → left ≡ None) → ((is_two ≡ true → left ≢ Some 0) → ⊥)
    → KindDeparts encoding left start
kind_departs Group3_2D (Some zero) start true kind tag unlimited never = (refl, refl, tag.0, tag.1)
kind_departs Group3_2D (Some (suc n)) start true kind tag unlimited never = absurd (never (λ t is. cc))
kind_departs Group3_2D None start true kind tag unlimited never = absurd (never (λ t is. cc))
kind_departs Group3_2D left start false kind tag unlimited never = absurd (never (λ t is. cc))
kind_departs Group3_1D left start is_two kind tag unlimited never =
    absurd (never (λ t is. let e : true ≡ false = sym t ∙ kind in cc))
kind_departs Group4 left start is_two kind tag unlimited never =
    absurd (never (λ t is. let e : None ≡ Some 0 = sym (unlimited refl) ∙ is in cc))

-- the tag of a line that stands is of its kind
pub tag_stands : (encoding : EncodingMode) (reference row : Row) (start after : Bits) (is_two : Bool)
    → LineStands encoding reference row start after → TagSays encoding start is_two
    → (after_tag : Bits) × (start ≡ tag_of_line encoding is_two ++ after_tag)
tag_stands Group4 reference row start after is_two stands tag = (start, refl)
tag_stands Group3_1D reference row start after is_two stands tag = (start, refl)
tag_stands Group3_2D reference row start after true stands tag = tag
tag_stands Group3_2D reference row start after false (bits, (line, inl (bits_are, runs)), is) tag =
    (line ++ after, is ∙ ap (λ (b : Bits). b ++ after) bits_are)
tag_stands Group3_2D reference row start after false (bits, (line, inr (bits_are, steps)), is) tag =
    absurd (tag (line ++ after) (is ∙ ap (λ (b : Bits). b ++ after) bits_are))

-- where no line stands
pub never_a_line : (settings : DecodeSettings) (has_eols : Bool) (left : Option ℕ) (reference : Row) (old : BitsAt) (stop : Stop)
    → (IsBroken stop → Never settings.columns (λ row rest. LineStands settings.encoding reference row (here old) rest))
    → LineEndsAt settings has_eols left reference old stop
never_a_line settings has_eols left reference old (Violation found) never = inr (inr (never tt))
never_a_line settings has_eols left reference old OutOfMemory never = tt

-- where the line that stands isn't as the procedure writes it
pub part_departs : (settings : DecodeSettings) (has_eols : Bool) (left : Option ℕ) (reference row : Row) (old : BitsAt)
    (after : Bits) (is_two : Bool) (stop : Stop) → length row ≡ settings.columns → MayCome settings.encoding left is_two
    → LineStands settings.encoding reference row (here old) after → TagSays settings.encoding (here old) is_two
    → PartEndsAt (part_of settings has_eols is_two reference row) old stop
    → LineEndsAt settings has_eols left reference old stop
part_departs settings has_eols left reference row old after is_two (Violation found) len may stands tag
    (n, rule, place, within, differs) =
    let (after_tag, is) = tag_stands settings.encoding reference row (here old) after is_two stands tag in
    inl (
      n,
      rule,
      place,
      within,
      record {
        is_two = is_two;
        row = row;
        after = after;
        after_tag = after_tag;
        width = len;
        may_come = may;
        stands = stands;
        tag = is;
        differs = differs;
      },
    )
part_departs settings has_eols left reference row old after is_two OutOfMemory len may stands tag ends = tt

-- ---- No line is where an EOL is.
module _ (settings : DecodeSettings) (wide : 0 < settings.columns) (small : settings.columns ≤ 4294967295) where
  line_has_no_eol : (encoding : EncodingMode) (reference row : Row) (line after : Bits) → settings.encoding ≡ encoding
      → EncodesLine encoding reference row line → length row ≡ settings.columns → after_eol 0 (line ++ after) ≡ None
  line_has_no_eol Group4 reference row line after same is len =
      (line_2d_starts reference row 0 White line after is (omega arith)).no_eol
  line_has_no_eol Group3_1D reference row line after same is len =
      (line_t4_starts settings wide small Group3_1D reference row line after same is len).no_eol
  line_has_no_eol Group3_2D reference row line after same is len =
      (line_t4_starts settings wide small Group3_2D reference row line after same is len).no_eol

  pub no_line_at_eol : (reference row : Row) (start after rest : Bits) → length row ≡ settings.columns
      → LineStands settings.encoding reference row start after → EolStands start rest → ⊥
  no_line_at_eol reference row start after rest len (line, is_line, is) (fill, stands) =
      absurd (let e : Option.Some rest ≡ None = sym (eol_stands fill rest) ∙ ap (after_eol 0) (sym stands ∙ is)
      ∙ line_has_no_eol settings.encoding reference row line after refl is_line len in cc)
