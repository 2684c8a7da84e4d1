-- What is chosen with the effort of the procedure conforms by it.
use Rattle.hayro_ccitt.proofs.Names.{◌≡◌, ◌≢◌, ℕ, zero, suc, ◌+◌, ◌-◌, ◌%◌, ◌<◌, Bool, true, false, not, ◌&&◌, cond, List, []}
use Rattle.hayro_ccitt.proofs.Names.{◌∷◌}
use Rattle.hayro_ccitt.proofs.Names.{◌++◌, Option, Some, None, length, refl, ap, sym, subst, ◌∙◌, append_assoc, arith, inl, inr}
use Rattle.hayro_ccitt.proofs.Names.{All-head, All-tail, Bits, Row, DecodeSettings, EncodingMode, Group4, Group3_1D, Group3_2D}
use Rattle.hayro_ccitt.proofs.Names.{HaveWidth, eol, padding, tag_of, white_row}
use Rattle.hayro_ccitt.specs.Encodings.{IsPicture}
use Rattle.fax_encode.specs.Chosen.{chosen_line_1d, chosen_line_2d, filled_up}
use Rattle.fax_encode.specs.Procedure.{line_by_procedure, part_by_procedure}
use Rattle.fax_encode.specs.Settings as choice
use Rattle.fax_encode.specs.Settings.{chosen_eols, chosen_group3, chosen_line, chosen_lines, chosen_lines_with_eols}
use Rattle.fax_encode.specs.Settings.{chosen_picture, fill_of, is_closed, is_two_dimensional, needs_row}
use Rattle.fax_encode.specs.declared.settings.Effort.{Effort}
use Rattle.fax_encode.specs.declared.settings.Effort.TheVariants.{Procedure}
use Rattle.fax_conforms.specs.ByProcedure.{ConformsByProcedure, EndsHere, FewZerosStand, LeadStands, LinesByProcedure, MayCome}
use Rattle.fax_conforms.specs.ByProcedure.{left_after, left_at_first, one_less, tagged_eols}
use Rattle.fax_conforms.specs.Encoded.{chosen_kind}
use Rattle.fax_conforms.specs.Laws.{ChosenConforms}
use Rattle.fax_conforms.proofs.BodyLines.{none_more, one_more_row}
use Rattle.fax_conforms.proofs.ProcedureEnds.{split_eols}

-- ---- One line.

tagged : (is_two : Bool) (x y : Bits) → cond is_two (false ∷ x) (true ∷ y) ≡ (not is_two ∷ []) ++ cond is_two x y
tagged true x y = refl
tagged false x y = refl

line_is : (encoding : EncodingMode) (n : ℕ) (reference row : Row) → chosen_line Procedure encoding n reference row
    ≡ line_by_procedure encoding (chosen_kind encoding n reference row) reference row
line_is Group4 n reference row = refl
line_is Group3_1D n reference row = refl
line_is Group3_2D n reference row =
    tagged (is_two_dimensional Procedure n reference row) (chosen_line_2d reference row) (chosen_line_1d row)

pub part_is : (encoding : EncodingMode) (n : ℕ) (fills : Bool) (reference row : Row) (rest : Bits)
    → chosen_line Procedure encoding n reference row
    ++ (cond fills (padding (length (chosen_line Procedure encoding n reference row))) [] ++ rest)
    ≡ part_by_procedure encoding fills (chosen_kind encoding n reference row) reference row ++ rest
part_is encoding n fills reference row rest =
    let line : Bits = line_by_procedure encoding (chosen_kind encoding n reference row) reference row in
    ap (λ (x : Bits). x ++ (cond fills (padding (length x)) [] ++ rest)) (line_is encoding n reference row)
    ∙ sym (append_assoc line (cond fills (padding (length line)) []) rest)

-- as many more may be two-dimensional
abbrev LeftIs : EncodingMode → ℕ → Option ℕ → Type 0
LeftIs Group4 n left = left ≡ None
LeftIs Group3_1D n left = Unit {0}
LeftIs Group3_2D n left = left ≡ Some n

left_of_kind : (k n : ℕ) (left : Option ℕ) (is_two : Bool) → left ≡ Some n
    → left_after (Some k) left is_two ≡ Some (cond is_two (n - 1) (k - 1))
left_of_kind k n left true is = ap one_less is
left_of_kind k n left false is = refl

left_goes_on : (encoding : EncodingMode) (k n : ℕ) (left : Option ℕ) (reference row : Row) → LeftIs encoding n left
    → LeftIs encoding (choice.left_after Procedure encoding k n reference row)
    (left_after (Some k) left (chosen_kind encoding n reference row))
left_goes_on Group4 k n left reference row is = ap one_less is
left_goes_on Group3_1D k n left reference row is = tt
left_goes_on Group3_2D k n left reference row is =
    left_of_kind k n left (is_two_dimensional Procedure n reference row) is

may_come : (encoding : EncodingMode) (n : ℕ) (left : Option ℕ) (reference row : Row) → LeftIs encoding n left
    → MayCome encoding left (chosen_kind encoding n reference row)
may_come Group4 n left reference row is = (refl, λ two none. let e : Option.None ≡ Some 0 = sym is ∙ none in cc)
may_come Group3_1D n left reference row is = (refl, λ two none. absurd cc)
may_come Group3_2D zero left reference row is = (tt, λ two none. absurd cc)
may_come Group3_2D (suc m) left reference row is =
    (tt, λ two none. let e : Option.Some (suc m) ≡ Some 0 = sym is ∙ none in cc)

-- ---- Lines.
pub all_filled : (aligned : Bool) → aligned ≡ (aligned && not false)
all_filled true = refl
all_filled false = refl

pub none_filled : (aligned : Bool) → false ≡ (aligned && not true)
none_filled true = refl
none_filled false = refl

module _ (settings : DecodeSettings) (k : ℕ) where
  abbrev HasRow : Row → Type 0
  HasRow row = length row ≡ settings.columns

  abbrev next_left : ℕ → Row → Row → ℕ
  next_left n reference row = choice.left_after Procedure settings.encoding k n reference row

  one_line : (has_eols fills : Bool) (taken n : ℕ) (left : Option ℕ) (reference row : Row) (here middle rest : Bits)
      → fills ≡ (settings.rows_are_byte_aligned && not has_eols) → HasRow row → LeftIs settings.encoding n left
      → LeadStands has_eols taken here middle
      → middle ≡ part_by_procedure settings.encoding fills (chosen_kind settings.encoding n reference row) reference row ++ rest
      → LinesByProcedure settings (Some k) has_eols (taken + 1)
      (left_after (Some k) left (chosen_kind settings.encoding n reference row)) row rest
      → LinesByProcedure settings (Some k) has_eols taken left reference here
  one_line has_eols fills taken n left reference row here middle rest same len left_is lead is lines =
      let kind : Bool = chosen_kind settings.encoding n reference row in
      LinesByProcedure.line middle kind row rest lead len (
        may_come settings.encoding n left reference row left_is,
        is ∙ ap (λ (f : Bool). part_by_procedure settings.encoding f kind reference row ++ rest) same,
      ) lines

  lines_conform : (taken n : ℕ) (left : Option ℕ) (reference : Row) (rows : List Row) (after : Bits)
      → HaveWidth settings.columns rows → LeftIs settings.encoding n left → EndsHere settings false (taken + length rows) after
      → LinesByProcedure settings (Some k) false taken left reference
      (chosen_lines Procedure settings.encoding k settings.rows_are_byte_aligned n reference rows ++ after)
  lines_conform taken n left reference [] after widths is ends =
      LinesByProcedure.over (subst (λ (m : ℕ). EndsHere settings false m after) (none_more taken) ends)
  lines_conform taken n left reference (row ∷ rows) after widths is ends =
      let aligned : Bool = settings.rows_are_byte_aligned in
      let line : Bits = chosen_line Procedure settings.encoding n reference row in
      let fill : Bits = cond aligned (padding (length line)) [] in
      let more : Bits = chosen_lines Procedure settings.encoding k aligned (next_left n reference row) row rows in
      let whole : Bits = ((line ++ fill) ++ more) ++ after in
      let split : whole ≡ line ++ (fill ++ (more ++ after)) =
      append_assoc (line ++ fill) more after ∙ append_assoc line fill (more ++ after) in
      one_line false aligned taken n left reference row whole whole
      (more ++ after) (all_filled aligned) (All-head HasRow row rows widths) is refl
      (split ∙ part_is settings.encoding n aligned reference row (more ++ after))
      (lines_conform (taken + 1) (next_left n reference row) (left_after (Some k) left
      (chosen_kind settings.encoding n reference row)) row rows after (All-tail HasRow row rows widths)
      (left_goes_on settings.encoding k n left reference row is)
      (subst (λ (m : ℕ). EndsHere settings false m after) (one_more_row taken rows row) ends))

  lines_with_eols_conform : (at taken n : ℕ) (left : Option ℕ) (reference : Row) (rows : List Row) (after : Bits)
      → HaveWidth settings.columns rows → LeftIs settings.encoding n left → EndsHere settings true (taken + length rows) after
      → LinesByProcedure settings (Some k) true taken left reference
      (chosen_lines_with_eols Procedure settings.encoding k false at n reference rows ++ after)
  lines_with_eols_conform at taken n left reference [] after widths is ends =
      LinesByProcedure.over (subst (λ (m : ℕ). EndsHere settings true m after) (none_more taken) ends)
  lines_with_eols_conform at taken n left reference (row ∷ rows) after widths is ends =
      let line : Bits = chosen_line Procedure settings.encoding n reference row in
      let then_at : ℕ = at + 12 + fill_of false at + length line in
      let more : Bits = chosen_lines_with_eols Procedure settings.encoding k false then_at (next_left n reference row) row rows in
      let split : (eol 0 ++ (line ++ more)) ++ after ≡ eol 0 ++ (line ++ (more ++ after)) =
      append_assoc (eol 0) (line ++ more) after ∙ ap (λ (x : Bits). eol 0 ++ x) (append_assoc line more after) in
      one_line true false taken n left reference row ((eol 0 ++ (line ++ more)) ++ after) (line ++ (more ++ after))
      (more ++ after) (none_filled settings.rows_are_byte_aligned) (All-head HasRow row rows widths) is
      (0, (λ first. refl), split) (part_is settings.encoding n false reference row (more ++ after))
      (lines_with_eols_conform then_at (taken + 1) (next_left n reference row) (left_after (Some k) left
      (chosen_kind settings.encoding n reference row)) row rows after (All-tail HasRow row rows widths)
      (left_goes_on settings.encoding k n left reference row is)
      (subst (λ (m : ℕ). EndsHere settings true m after) (one_more_row taken rows row) ends))

-- ---- The end.
few_left : (n : ℕ) → FewZerosStand (padding n)
few_left n = ((8 - n % 8) % 8, omega arith, refl)

-- the settings that read what is chosen
abbrev pub read_by : EncodingMode → Bool → Bool → Bool → ℕ → ℕ → DecodeSettings
read_by encoding eols aligned closed columns n = record {
  columns = columns;
  rows = cond (is_closed encoding eols closed) 0 n;
  end_of_block = is_closed encoding eols closed;
  end_of_line = eols;
  rows_are_byte_aligned = aligned;
  encoding = encoding;
  strict = true;
}

pub plain_eols : (encoding : EncodingMode) (at n : ℕ) → chosen_eols encoding false at n ≡ tagged_eols encoding n
plain_eols encoding at zero = refl
plain_eols encoding at (suc n) =
    ap (λ (x : Bits). eol 0 ++ (tag_of encoding ++ x)) (plain_eols encoding (at + 12 + 0 + length (tag_of encoding)) n)

rtc_is : (encoding : EncodingMode) (at : ℕ) (rest : Bits)
    → chosen_eols encoding false at 6 ++ rest ≡ eol 0 ++ (tag_of encoding ++ (tagged_eols encoding 5 ++ rest))
rtc_is encoding at rest = ap (λ (x : Bits). x ++ rest) (plain_eols encoding at 6) ∙ split_eols encoding 5 rest

module _ (aligned : Bool) (columns n : ℕ) where
  group4_ends : (eols closed : Bool) (at : ℕ) → (not closed ≡ true → 0 < n)
      → EndsHere (read_by Group4 eols aligned closed columns n) false (0 + n) (cond closed (eol 0 ++ eol 0) [] ++ padding at)
  group4_ends eols true at some = (padding at, (inl refl, append_assoc (eol 0) (eol 0) (padding at)), few_left at)
  group4_ends eols false at some = (padding at, ((omega arith, omega (arith, some refl)), refl), few_left at)

  ends_with_eols : (encoding : EncodingMode) (closed : Bool) (at length : ℕ) → encoding ≢ Group4 → 0 < n
      → EndsHere (read_by encoding true aligned closed columns n) true (0 + n)
      (cond closed (chosen_eols encoding false at 6) [] ++ padding length)
  ends_with_eols Group4 closed at length three some = absurd (three refl)
  ends_with_eols Group3_1D true at length three some =
      (padding length, (inl refl, (omega (arith, some), (0, rtc_is Group3_1D at (padding length)))), few_left length)
  ends_with_eols Group3_1D false at length three some =
      (padding length, ((omega arith, omega (arith, some)), refl), few_left length)
  ends_with_eols Group3_2D true at length three some =
      (padding length, (inl refl, (omega (arith, some), (0, rtc_is Group3_2D at (padding length)))), few_left length)
  ends_with_eols Group3_2D false at length three some =
      (padding length, ((omega arith, omega (arith, some)), refl), few_left length)

  ends_without : (encoding : EncodingMode) (closed : Bool) (length : ℕ) → encoding ≢ Group4 → 0 < n
      → EndsHere (read_by encoding false aligned closed columns n) false (0 + n) (padding length)
  ends_without Group4 closed length three some = absurd (three refl)
  ends_without Group3_1D closed length three some =
      (padding length, ((omega arith, omega (arith, some)), refl), few_left length)
  ends_without Group3_2D closed length three some =
      (padding length, ((omega arith, omega (arith, some)), refl), few_left length)

-- ---- A picture.
none_before : (encoding : EncodingMode) → LeftIs encoding 0 (left_at_first encoding)
none_before Group4 = refl
none_before Group3_1D = tt
none_before Group3_2D = refl

module _ (k : ℕ) (aligned closed : Bool) (columns : ℕ) (rows : List Row) (picture : IsPicture columns rows) where
  abbrev white : Row
  white = white_row columns

  abbrev ConformsAs : EncodingMode → Bool → Bits → Type 0
  ConformsAs encoding eols bits =
      ConformsByProcedure (read_by encoding eols aligned closed columns (length rows)) (Some k) (filled_up bits)

  group4_conforms : (eols : Bool) → (needs_row Group4 closed ≡ true → 0 < length rows)
      → ConformsAs Group4 eols (chosen_picture Procedure Group4 eols k false aligned closed white rows)
  group4_conforms eols some =
      let settings : DecodeSettings = read_by Group4 eols aligned closed columns (length rows) in
      let lines : Bits = chosen_lines Procedure Group4 k aligned 0 white rows in
      let ending : Bits = cond closed (eol 0 ++ eol 0) [] in
      let zeros : Bits = padding (length (lines ++ ending)) in (
        picture.0,
        false,
        inl refl,
        subst (λ (x : Bits). LinesByProcedure settings (Some k) false 0 None white x) (sym (append_assoc lines ending zeros))
            (lines_conform settings k 0 0 None white rows (ending ++ zeros) picture.1 refl
            (group4_ends aligned columns (length rows) eols closed (length (lines ++ ending)) some)),
      )

  group3_conforms : (encoding : EncodingMode) (eols : Bool) → encoding ≢ Group4 → 0 < length rows
      → ConformsAs encoding eols (chosen_group3 Procedure encoding eols k false aligned closed white rows)
  group3_conforms encoding true three some =
      let settings : DecodeSettings = read_by encoding true aligned closed columns (length rows) in
      let lines : Bits = chosen_lines_with_eols Procedure encoding k false 0 0 white rows in
      let ending : Bits = cond closed (chosen_eols encoding false (length lines) 6) [] in
      let zeros : Bits = padding (length (lines ++ ending)) in (
        picture.0,
        true,
        three,
        subst (λ (x : Bits). LinesByProcedure settings (Some k) true 0 (left_at_first encoding) white x)
            (sym (append_assoc lines ending zeros))
            (lines_with_eols_conform settings k 0 0 0 (left_at_first encoding) white rows (ending ++ zeros) picture.1
            (none_before encoding)
            (ends_with_eols aligned columns (length rows) encoding closed (length lines) (length (lines ++ ending)) three some)),
      )
  group3_conforms encoding false three some =
      let settings : DecodeSettings = read_by encoding false aligned closed columns (length rows) in
      let lines : Bits = chosen_lines Procedure encoding k aligned 0 white rows in (
        picture.0,
        false,
        inr refl,
        lines_conform settings k 0 0 (left_at_first encoding) white rows (padding (length lines)) picture.1
            (none_before encoding) (ends_without aligned columns (length rows) encoding closed (length lines) three some),
      )

  picture_conforms : (encoding : EncodingMode) (eols : Bool) → (needs_row encoding closed ≡ true → 0 < length rows)
      → ConformsAs encoding eols (chosen_picture Procedure encoding eols k false aligned closed white rows)
  picture_conforms Group4 eols some = group4_conforms eols some
  picture_conforms Group3_1D eols some =
      group3_conforms Group3_1D eols (λ four. let e : Group3_1D ≡ Group4 = four in cc) (some refl)
  picture_conforms Group3_2D eols some =
      group3_conforms Group3_2D eols (λ four. let e : Group3_2D ≡ Group4 = four in cc) (some refl)

pub chosen_conforms : ChosenConforms
chosen_conforms settings columns rows procedure unfilled some picture =
    let encoding : EncodingMode = settings.encoding in
    let eols : Bool = settings.end_of_line in
    let aligned : Bool = settings.rows_are_byte_aligned in
    let closed : Bool = settings.end_of_block in
    subst (λ (fills : Bool). ConformsAs settings.k aligned closed columns rows picture encoding eols
    (chosen_picture settings.effort encoding eols settings.k fills aligned closed (white_row columns) rows)) (sym unfilled)
    (subst (λ (effort : Effort). ConformsAs settings.k aligned closed columns rows picture encoding eols
    (chosen_picture effort encoding eols settings.k false aligned closed (white_row columns) rows)) (sym procedure)
    (picture_conforms settings.k aligned closed columns rows picture encoding eols some))
