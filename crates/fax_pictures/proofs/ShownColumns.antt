-- Pictures turned a part of a row after another.
use Rattle.std.proofs.Common.{◌≡◌, ℕ, ◌+◌, ◌-◌, ◌*◌, ◌/◌, ◌%◌, ◌<◌, Bool, true, false, List, []}
use Rattle.std.proofs.Common.{length, get_or, refl, sym, ap, ◌∙◌, subst, arith, ◌≢◌}
use Rattle.std.proofs.Common.{◌⊎◌, inl, inr, set}
use Rattle.std.specs.Prelude.{map}
use Rattle.std.specs.List.{range_with_len}
use Rattle.std.proofs.lemmas.Bool.{cases_eq, cases_lt}
use Rattle.std.proofs.lemmas.List.{get_or_default, same_lists, length-set, get_or-set_same, get_or-set_other}
use Rattle.std.proofs.lemmas.List.FromFn.{get_or-map-range_with_len, length-map-range_with_len}
use Rattle.fax_reading.specs.Rows.{Row, pixel}
use Rattle.fax_pictures.specs.Pictures.{Picture, laid_over, with_row_at}
use Rattle.fax_pictures.specs.Turned.{HasSizeTurned, IsInBlock, IsShownAt, Shows, column_shown, columns_turned, counted}
use Rattle.fax_pictures.specs.Turned.{is_across}
use Rattle.fax_pictures.specs.Turned.{is_column_last, is_row_last, pixel_shown, row_shown, rows_turned, turned, turned_row}
use Rattle.fax_pictures.proofs.DrawnRows.{picture_is, rows_drawn}
use Rattle.fax_pictures.proofs.LaidLists.{after_laid, before_laid, in_laid, length-laid_over, with_row_at-set}

-- An index that is counted from the last one twice.
pub counted_twice : (is_last : Bool) (count index : ℕ) → index < count
    → counted is_last count (counted is_last count index) ≡ index
counted_twice true count index lt = omega (arith, lt)
counted_twice false count index lt = refl

-- what is shown where the first row of the data is a column
pub columns_across : (o : ℕ) (source : Picture) → is_across o ≡ true → columns_turned o source ≡ length source.rows
columns_across o source e = rw e refl

pub rows_across : (o : ℕ) (source : Picture) → is_across o ≡ true → rows_turned o source ≡ source.columns
rows_across o source e = rw e refl

column_across : (o : ℕ) (source : Picture) (x y : ℕ) → is_across o ≡ true
    → column_shown o source x y ≡ counted (is_column_last o) source.columns y
column_across o source x y e = rw e refl

row_across : (o : ℕ) (source : Picture) (x y : ℕ) → is_across o ≡ true
    → row_shown o source x y ≡ counted (is_row_last o) (length source.rows) x
row_across o source x y e = rw e refl

counted_below : (is_last : Bool) (count index : ℕ) → index < count → counted is_last count index < count
counted_below true count index lt = omega (arith, lt)
counted_below false count index lt = lt

-- a row of these pixels
pub pixels_drawn : (shown : ℕ → Bool) (n : ℕ) (row : Row) → length row ≡ n → ((x : ℕ) → x < n → pixel row x ≡ shown x)
    → row ≡ map shown (range_with_len 0 n)
pixels_drawn shown n row count each = same_lists row (map shown (range_with_len 0 n))
    (count ∙ sym (length-map-range_with_len shown 0 n))
    (λ k d h. let lt : k < n = omega (arith, h, count) in
    get_or_default row k d false h ∙ each k lt ∙ sym (get_or-map-range_with_len shown 0 n k k d lt (omega arith)))

module _ (o : ℕ) (source : Picture) where
  -- One part after another.
  pub shows_more : (one two three : Picture) (First Next Both : ℕ → ℕ → Type 0) → Shows o source one two First
      → Shows o source two three Next
      → ((x y : ℕ) → x < columns_turned o source → y < rows_turned o source → Both x y → First x y ⊎ Next x y)
      → Shows o source one three Both
  shows_more one two three First Next Both a b either = record {
    size = b.size;
    kept = λ x y lx ly is. b.kept x y lx ly (a.kept x y lx ly is);
    shown = λ x y lx ly both. elim (either x y lx ly both) [
      | inl first ↦ b.kept x y lx ly (a.shown x y lx ly first)
      | inr next ↦ b.shown x y lx ly next
    ];
  }

  -- All parts.
  pub shows_all : (old new : Picture) (Here : ℕ → ℕ → Type 0) → Shows o source old new Here
      → ((x y : ℕ) → x < columns_turned o source → y < rows_turned o source → Here x y) → new ≡ turned o source
  shows_all old new Here shows all =
      picture_is new (turned o source) shows.size.columns
      (rows_drawn (turned_row o source) (rows_turned o source) new.rows shows.size.count
      (λ y ly. pixels_drawn (λ x. pixel_shown o source x y) (columns_turned o source) (get_or new.rows y [])
      (shows.size.wide y ly) (λ x lx. shows.shown x y lx ly (all x y lx ly))))

  module _ (old new : Picture) (left index : ℕ) (part : Row) (size : HasSizeTurned o source old)
      (within : index < rows_turned o source) (long : length part ≡ 512)
      (step : new ≡ record old { rows = with_row_at index (laid_over left part (get_or old.rows index [])) old.rows }) where
    abbrev row : Row
    row = get_or old.rows index []

    abbrev laid : Row
    laid = laid_over left part row

    inside : index < length old.rows
    inside = omega (arith, within, size.count)

    rows : new.rows ≡ set old.rows index laid
    rows = ap (λ (p : Picture). p.rows) step ∙ with_row_at-set index laid old.rows inside

    here : get_or new.rows index [] ≡ laid
    here = ap (λ (r : List Row). get_or r index []) rows ∙ get_or-set_same old.rows index laid [] inside

    others : (y : ℕ) → y ≢ index → get_or new.rows y [] ≡ get_or old.rows y []
    others y apart = ap (λ (r : List Row). get_or r y []) rows ∙ get_or-set_other old.rows index y laid [] apart

    wide : length row ≡ columns_turned o source
    wide = size.wide index within

    still_sized : HasSizeTurned o source new
    still_sized = record {
      columns = ap (λ (p : Picture). p.columns) step ∙ size.columns;
      count = ap length rows ∙ length-set old.rows index laid ∙ size.count;
      wide = λ y ly. elim (cases_eq y index) [
        | inl same ↦ ap (λ (k : ℕ). length (get_or new.rows k [])) same ∙ ap length here ∙ length-laid_over left part row ∙ wide
        | inr apart ↦ ap length (others y apart) ∙ size.wide y ly
      ];
    }

    -- a part of a row is laid over it
    pub part_laid : ((x : ℕ) → x < columns_turned o source → IsInBlock left x
        → pixel part (x - left) ≡ pixel_shown o source x index)
        → Shows o source old new (λ x y. IsInBlock left x × (y ≡ index))
    part_laid each =
        let in_part : (x : ℕ) → x < columns_turned o source → IsInBlock left x → IsShownAt o source new x index =
        λ x lx block. ap (λ (r : Row). pixel r x) here
        ∙ in_laid left part row x false (omega (arith, lx, wide)) block.0 (omega (arith, block.1, long)) ∙ each x lx block in
        record {
          size = still_sized;
          kept = λ x y lx ly is. elim (cases_eq y index) [
            | inr apart ↦ ap (λ (r : Row). pixel r x) (others y apart) ∙ is
            | inl same ↦
                let there : pixel row x ≡ pixel_shown o source x index =
                subst (λ (k : ℕ). IsShownAt o source old x k) same is in
                subst (λ (k : ℕ). IsShownAt o source new x k) (sym same) (elim (cases_lt x left) [
                  | inl before ↦ ap (λ (r : Row). pixel r x) here
                      ∙ before_laid left part row x false (omega (arith, lx, wide)) before ∙ there
                  | inr from ↦ elim (cases_lt x (left + 512)) [
                    | inl below ↦ in_part x lx (from, below)
                    | inr after ↦ ap (λ (r : Row). pixel r x) here
                        ∙ after_laid left part row x false (omega (arith, lx, wide)) (omega (arith, after, long)) ∙ there
                  ]
                ])
          ];
          shown = λ x y lx ly at. subst (λ (k : ℕ). IsShownAt o source new x k) (sym at.1) (in_part x lx at.0);
        }

-- a column of the data is laid over a row, as far as a block goes
pub column_laid : (o left byte bit index : ℕ) (source first old new : Picture) (part : Row) → is_across o ≡ true
    → Shows o source first old (λ x y. IsInBlock left x × (column_shown o source x y / 8 ≡ byte)
    × (column_shown o source x y % 8 < bit))
    → length part ≡ 512 → bit < 8 → 8 * byte + bit < source.columns
    → index ≡ counted (is_column_last o) source.columns (8 * byte + bit)
    → ((i : ℕ) → i < 512 → left + i < length source.rows → pixel part i
    ≡ pixel (get_or source.rows (counted (is_row_last o) (length source.rows) (left + i)) []) (8 * byte + bit))
    → new ≡ record old { rows = with_row_at index (laid_over left part (get_or old.rows index [])) old.rows }
    → Shows o source first new
    (λ x y. IsInBlock left x × (column_shown o source x y / 8 ≡ byte) × (column_shown o source x y % 8 < bit + 1))
column_laid o left byte bit index source first old new part across before long few within at each step =
    let column : ℕ = 8 * byte + bit in
    let columns : columns_turned o source ≡ length source.rows = columns_across o source across in
    let lt : index < rows_turned o source =
    omega (arith, at, counted_below (is_column_last o) source.columns column within, rows_across o source across) in
    let back : counted (is_column_last o) source.columns index ≡ column =
    ap (counted (is_column_last o) source.columns) at ∙ counted_twice (is_column_last o) source.columns column within in
    let there : (x : ℕ) → x < columns_turned o source → IsInBlock left x
    → pixel part (x - left) ≡ pixel_shown o source x index =
    λ x lx block.
    let sum : left + (x - left) ≡ x = omega (arith, block.0) in
    each (x - left) (omega (arith, block.0, block.1)) (omega (arith, sum, lx, columns))
    ∙ ap (λ (n : ℕ). pixel (get_or source.rows (counted (is_row_last o) (length source.rows) n) []) column) sum
    ∙ ap (λ (n : ℕ). pixel (get_or source.rows n []) column) (sym (row_across o source x index across))
    ∙ ap (λ (n : ℕ). pixel (get_or source.rows (row_shown o source x index) []) n)
    (sym (column_across o source x index across ∙ back)) in
    shows_more o source first old new
    (λ x y. IsInBlock left x × (column_shown o source x y / 8 ≡ byte) × (column_shown o source x y % 8 < bit))
    (λ x y. IsInBlock left x × (y ≡ index))
    (λ x y. IsInBlock left x × (column_shown o source x y / 8 ≡ byte) × (column_shown o source x y % 8 < bit + 1))
    before (part_laid o source old new left index part before.size lt long step there)
    (λ x y lx ly here. elim (cases_lt (column_shown o source x y % 8) bit) [
      | inl earlier ↦ inl (here.0, here.1, earlier)
      | inr from ↦
          let is : column_shown o source x y ≡ column = omega (arith, from, here.1, here.2) in
          let own : y < source.columns = omega (arith, ly, rows_across o source across) in
          let same : y ≡ index =
          sym (counted_twice (is_column_last o) source.columns y own)
          ∙ ap (counted (is_column_last o) source.columns) (sym (column_across o source x y across) ∙ is) ∙ sym at in
          inr (here.0, same)
    ])
