-- The rows of a bitmap, which stand a stride apart, and what an encoder makes of them.
use Rattle.std.proofs.Common.{◌≡◌, ℕ, zero, suc, ◌+◌, ◌-◌, ◌*◌, ◌/◌, ◌<◌, ◌≤◌, false, List, [], ◌∷◌, length, map, take}
use Rattle.std.proofs.Common.{drop, refl, sym, ap, ◌∙◌, arith, inl, inr, ◌⊎◌}
use Rattle.std.proofs.Math.Nat.{div-eq-sub-div, div-eq_of_lt, div-mul-le_self}
use Rattle.std.proofs.lemmas.Bool.{cases_lt, le-ltb, lt-ltb}
use Rattle.std.proofs.lemmas.List.{length-drop, length-map, take-append-le}
use Rattle.hayro_ccitt.specs.Bits.{Bits, bits_of}
use Rattle.hayro_ccitt.specs.Rows.{Row}
use Rattle.fax_encode.specs.Packed.{rows_shown, shown}
use Rattle.fax_encode.specs.RowByRow.{RowsEncoded, no_rows, with_row, with_rows}
use Rattle.fax_encode.proofs.WordBytes.{bits_of-parts, length-first}
use Rattle.fax_encode.specs.Settings.{chosen, with_end}
use Rattle.fax_encode.specs.declared.settings.EncodeSettings.{EncodeSettings as EncoderSettings}
use Rattle.fax_encode.proofs.LinesOfPictures.{rows_are_chosen}
use Rattle.c_rows.specs.Packing.{bytes_of_row, row_read, rows_at, rows_read, rows_within, together}
use Rattle.c_rows.specs.Encoding.{layout_asked, rows_asked}
use Rattle.c_rows.specs.declared.encoding.EncodeSettings.{EncodeSettings}
use Rattle.c_rows.specs.declared.packed_rows.Layout.{Layout}
use Rattle.fax_encode.proofs.DamageReachesKRows.{settings_stay}

-- ---- how many there are

-- fewer bytes than a row has are no row
pub none_within : (stride columns bytes : ℕ) → bytes < bytes_of_row columns → rows_within stride columns bytes ≡ 0
none_within stride columns bytes few = rw (lt-ltb bytes (bytes_of_row columns) few) refl

-- with more there is a row
pub some_within : (stride columns bytes : ℕ) → bytes_of_row columns ≤ bytes
    → rows_within stride columns bytes ≡ suc ((bytes - bytes_of_row columns) / stride)
some_within stride columns bytes some = rw (le-ltb bytes (bytes_of_row columns) some) refl

-- and those after a stride
pub one_within : (stride columns bytes : ℕ) → 0 < columns → bytes_of_row columns ≤ stride → bytes_of_row columns ≤ bytes
    → rows_within stride columns bytes ≡ suc (rows_within stride columns (bytes - stride))
one_within stride columns bytes wide reaches some =
    let w : ℕ = bytes_of_row columns in
    some_within stride columns bytes some ∙ ap suc (elim (cases_lt (bytes - stride) w) [
      | inl few ↦
          let below : bytes - w < stride = omega arith in
          div-eq_of_lt below ∙ sym (none_within stride columns (bytes - stride) few)
      | inr more ↦
          let at_least : stride ≤ bytes - w = omega arith in
          let stays : bytes - w - stride ≡ bytes - stride - w = omega arith in
          let positive : 0 < stride = omega arith in
          let next : (bytes - w) / stride ≡ (bytes - w - stride) / stride + 1 = div-eq-sub-div positive at_least in
          let last : (bytes - stride - w) / stride + 1 ≡ suc ((bytes - stride - w) / stride) = omega arith in
          next ∙ ap (λ (n : ℕ). n / stride + 1) stays ∙ last ∙ sym (some_within stride columns (bytes - stride) more)
    ])

-- ---- the rows

-- fewer bytes than a row has show none
pub rows_read-none : (layout : Layout) (columns : ℕ) (memory : List ℕ) → length memory < bytes_of_row columns
    → rows_read layout columns memory ≡ []
rows_read-none layout columns memory few =
    ap (λ (n : ℕ). map (row_read layout.black_is_0 columns) (rows_at layout.stride columns n memory))
    (none_within layout.stride columns (length memory) few)

-- a row, and those after the stride
pub rows_read-row : (layout : Layout) (columns : ℕ) (memory : List ℕ) → 0 < columns → bytes_of_row columns ≤ layout.stride
    → bytes_of_row columns ≤ length memory
    → rows_read layout columns memory ≡ row_read layout.black_is_0 columns (bits_of (take (bytes_of_row columns) memory))
    ∷ rows_read layout columns (drop layout.stride memory)
rows_read-row layout columns memory wide reaches some =
    let read : List Bits → List Row = map (row_read layout.black_is_0 columns) in
    let after : List ℕ = drop layout.stride memory in
    let count : rows_within layout.stride columns (length memory) ≡ suc (rows_within layout.stride columns (length after)) =
    one_within layout.stride columns (length memory) wide reaches some
    ∙ ap (λ (n : ℕ). suc (rows_within layout.stride columns n)) (sym (length-drop layout.stride memory)) in
    ap (λ (n : ℕ). read (rows_at layout.stride columns n memory)) count

-- as many as are within it
length-rows_at : (stride columns n : ℕ) (memory : List ℕ) → length (rows_at stride columns n memory) ≡ n
length-rows_at stride columns zero memory = refl
length-rows_at stride columns (suc n) memory = ap suc (length-rows_at stride columns n (drop stride memory))

pub length-rows_read : (layout : Layout) (columns : ℕ) (memory : List ℕ)
    → length (rows_read layout columns memory) ≡ rows_within layout.stride columns (length memory)
length-rows_read layout columns memory =
    length-map (rows_at layout.stride columns (rows_within layout.stride columns (length memory)) memory)
    (row_read layout.black_is_0 columns)
    ∙ length-rows_at layout.stride columns (rows_within layout.stride columns (length memory)) memory

-- rows that follow one another, with 1 for black, are those that a bitmap shows
row_read-front : (columns : ℕ) (memory : List ℕ) → take columns (bits_of (take (bytes_of_row columns) memory))
    ≡ take columns (bits_of memory) ⊎ length memory < bytes_of_row columns
row_read-front columns memory = elim (cases_lt (length memory) (bytes_of_row columns)) [
  | inl few ↦ inr few
  | inr whole ↦
      let w : ℕ = bytes_of_row columns in
      let front : Bits = bits_of (take w memory) in
      let long : columns ≤ length front = omega (arith, length-first w memory whole) in
      inl (sym (ap (take columns) (bits_of-parts w memory) ∙ take-append-le columns front (bits_of (drop w memory)) long))
]

shown_together : (columns n : ℕ) (memory : List ℕ) → n * bytes_of_row columns ≤ length memory
    → map (row_read false columns) (rows_at (bytes_of_row columns) columns n memory) ≡ rows_shown columns n memory
shown_together columns zero memory room = refl
shown_together columns (suc n) memory room =
    let w : ℕ = bytes_of_row columns in
    let more : suc n * w ≡ w + n * w = omega arith in
    let after : n * w ≤ length (drop w memory) = omega (arith, more, room, length-drop w memory) in
    let below = shown_together columns n (drop w memory) after in
    let here : take columns (bits_of (take w memory)) ≡ take columns (bits_of memory) = elim (row_read-front columns memory) [
      | inl same ↦ same
      | inr few ↦ absurd (omega (arith, more, room, few))
    ] in
    ap (λ (r : Row). r ∷ map (row_read false columns) (rows_at w columns n (drop w memory))) here
    ∙ ap (λ (l : List Row). take columns (bits_of memory) ∷ l) below

within_together : (columns bytes : ℕ) → 0 < columns
    → rows_within (bytes_of_row columns) columns bytes ≡ bytes / bytes_of_row columns
within_together columns bytes wide = elim (cases_lt bytes (bytes_of_row columns)) [
  | inl few ↦ none_within (bytes_of_row columns) columns bytes few ∙ sym (div-eq_of_lt few)
  | inr some ↦
      let w : ℕ = bytes_of_row columns in
      let positive : 0 < w = omega arith in
      let last : bytes / w ≡ (bytes - w) / w + 1 = div-eq-sub-div positive some in
      let same : (bytes - w) / w + 1 ≡ suc ((bytes - w) / w) = omega arith in
      some_within w columns bytes some ∙ sym (last ∙ same)
]

pub rows_read-together : (columns : ℕ) (memory : List ℕ) → 0 < columns
    → rows_read (together columns) columns memory ≡ shown columns memory
rows_read-together columns memory wide =
    let w : ℕ = bytes_of_row columns in
    let bytes : ℕ = length memory in
    let room : bytes / w * w ≤ bytes = div-mul-le_self bytes w in
    ap (λ (n : ℕ). map (row_read false columns) (rows_at w columns n memory)) (within_together columns bytes wide)
    ∙ shown_together columns (bytes / w) memory room

-- ---- what an encoder has after them

-- the width stays
pub columns_stay : (rows : RowsEncoded) (more : List Row) → (with_rows rows more).columns ≡ rows.columns
columns_stay rows [] = refl
columns_stay rows (row ∷ more) = columns_stay (with_row rows row) more

-- no memory is wanted
pub memory_stays : (rows : RowsEncoded) (more : List Row) → rows.wants_memory ≡ false → (with_rows rows more).wants_memory ≡ false
memory_stays rows [] e = e
memory_stays rows (row ∷ more) e = memory_stays (with_row rows row) more refl

-- once there is a row there is one
some_stay : (rows : RowsEncoded) (more : List Row) → 0 < rows.count → 0 < (with_rows rows more).count
some_stay rows [] some = some
some_stay rows (row ∷ more) some = some_stay (with_row rows row) more (omega arith)

pub no_rows_counted : (rows : RowsEncoded) (more : List Row) → (with_rows rows more).count ≡ 0 → more ≡ []
no_rows_counted rows [] e = refl
no_rows_counted rows (row ∷ more) e =
    let some : 0 < (with_rows (with_row rows row) more).count = some_stay (with_row rows row) more (omega arith) in
    absurd (omega (arith, e, some))

-- an encoder of these rows has their lines, and no memory is wanted
module _ (settings : EncoderSettings) (columns : ℕ) (rows : List Row) (now : RowsEncoded)
    (is : now ≡ with_rows (no_rows settings columns) rows) where
  pub settings_are : now.settings ≡ settings
  settings_are = ap (λ (r : RowsEncoded). r.settings) is ∙ settings_stay (no_rows settings columns) rows

  pub lines_are : with_end now.settings now.lines ≡ chosen settings columns rows
  lines_are = ap (λ (s : EncoderSettings). with_end s now.lines) settings_are
      ∙ ap (λ (r : RowsEncoded). with_end settings r.lines) is ∙ rows_are_chosen settings columns rows

  pub none_wanted : now.wants_memory ≡ false
  none_wanted = ap (λ (r : RowsEncoded). r.wants_memory) is ∙ memory_stays (no_rows settings columns) rows refl

  pub none_counted : now.count ≡ 0 → rows ≡ []
  none_counted e = no_rows_counted (no_rows settings columns) rows (sym (ap (λ (r : RowsEncoded). r.count) is) ∙ e)

  pub none_there : rows ≡ [] → now.count ≡ 0
  none_there e = ap (λ (r : RowsEncoded). r.count) is ∙ ap (λ (l : List Row). (with_rows (no_rows settings columns) l).count) e

-- no rows are shown by fewer bytes than a row has alone
pub few_if_none : (layout : Layout) (columns : ℕ) (memory : List ℕ) → 0 < columns → bytes_of_row columns ≤ layout.stride
    → rows_read layout columns memory ≡ [] → length memory < bytes_of_row columns
few_if_none layout columns memory wide reaches none = elim (cases_lt (length memory) (bytes_of_row columns)) [
  | inl few ↦ few
  | inr some ↦ let e = ap length (sym none ∙ rows_read-row layout columns memory wide reaches some) in absurd (omega (arith, e))
]

-- the rows that C passes are those that its bitmap shows, if they follow one another with 1 for black
pub asked_together : (s : EncodeSettings) (bitmap : List ℕ) → layout_asked s ≡ together s.columns → 0 < s.columns
    → rows_asked s bitmap ≡ shown s.columns bitmap
asked_together s bitmap is wide =
    ap (λ (l : Layout). rows_read l s.columns bitmap) is ∙ rows_read-together s.columns bitmap wide
