-- Packed rows in the caller's memory, from what the sink leaves.
use Rattle.std.proofs.Common.{◌≡◌, ℕ, zero, suc, ◌+◌, ◌-◌, ◌*◌, ◌≤◌, ◌<◌, Bool, true, false, not, List, [], ◌∷◌, ◌++◌}
use Rattle.std.proofs.Common.{◌%◌, All, Fits, w8, get_or, length, map, min, take, drop, refl, sym, ap, subst, ◌∙◌, arith, inl}
use Rattle.std.proofs.Common.{append_assoc, inr}
use Rattle.std.proofs.lemmas.Bool.{cases_lt}
use Rattle.std.proofs.lemmas.Grind.{flat_map-append}
use Rattle.std.proofs.lemmas.List.{append-nil, length-append, length-map, length-take, length-drop, drop-drop, drop_all, drop_at}
use Rattle.std.proofs.lemmas.List.{length-replicate, take_all, take_at}
use Rattle.std.proofs.lemmas.List.Elements.{All-drop, All-head, All-tail, All-take}
use Rattle.std.proofs.lemmas.Slice.{drop-put_mid}
use borrow.Rule.Slice.PartMut.{post_of, put_mid}
use Rattle.hayro_ccitt.specs.DecodeSettings.{DecodeSettings}
use Rattle.hayro_ccitt.specs.Answers.{meaning_after}
use Rattle.hayro_ccitt.specs.BitOrder.TheVariants.{HighestFirst}
use Rattle.hayro_ccitt.specs.Bits.{Bits, bits_of, bits_of_byte}
use Rattle.hayro_ccitt.specs.PlainReading.{plain}
use Rattle.hayro_ccitt.specs.Rows.{Row, HaveWidth, pixels, changes}
use Rattle.hayro_ccitt.proofs.BitReading.BitLists.{length-bits_of}
use Rattle.hayro_ccitt.proofs.PixelRows.ChangesAndPixels.{pixels-changes}
use Rattle.hayro_ccitt.proofs.Readings.TurnsMoveOn.{plain_width}
use Rattle.hayro_ccitt.specs.Encodings.{padding}
use Rattle.fax_encode.specs.Chosen.{filled_up}
use Rattle.fax_encode.proofs.BytesOfBits.{same_bytes}
use Rattle.fax_encode.proofs.WordBytes.{bits_of-take, bits_of-drop}
use Rattle.fax_encode.proofs.WordBytes.{bits_of-parts}
use Rattle.c_rows.specs.Packing.{Packing, with_packed, bytes_of_row, bytes_of_rows, packed_row, row_and_gap, rows_at}
use Rattle.c_rows.specs.Packing.{outside_rows}
use Rattle.c_rows.specs.Reports.{changes_taken, ArePacked}
use Rattle.c_rows.specs.declared.packed_rows.Layout.{Layout}
use Rattle.c_rows.proofs.Reporting.{counts, changes_counted}
use Rattle.std.proofs.lemmas.List.{nil_from_length}

-- ---- one row
-- the first elements of a list in two parts
pub take_into : {X : Type 0} (front following : List X) (n more : ℕ) → n ≡ length front + more
    → take n (front ++ following) ≡ front ++ take more following
take_into [] following n more is = let same : n ≡ more = omega (arith, is) in ap (λ (m : ℕ). take m following) same
take_into (x ∷ front) following zero more is = absurd (omega (arith, is))
take_into (x ∷ front) following (suc n) more is =
    ap (λ (l : List _). x ∷ l) (take_into front following n more (omega (arith, is)))

-- a row is packed after the earlier ones
module _ (layout : Layout) (columns start bytes : ℕ) (list bitmap row : List ℕ) (is : bytes ≡ bytes_of_row columns)
    (reaches : bytes_of_row columns ≤ layout.stride) (within : start ≤ length bitmap) (room : bytes ≤ length bitmap - start)
    (same : length row ≡ length (take (start + bytes - start) (drop start bitmap)))
    (packs : bits_of row ≡ packed_row layout.black_is_0 (pixels columns list)) where
  abbrev now : List ℕ
  now = put_mid start (start + bytes - start) bitmap row

  long : length row ≡ bytes
  long = omega (arith, same, length-take (start + bytes - start) (drop start bitmap), length-drop start bitmap)

  -- the bytes after the row
  abbrev following : List ℕ
  following = post_of start (start + bytes - start) bitmap

  following_is : following ≡ drop (bytes_of_row columns) (drop start bitmap)
  following_is =
      let e : start + bytes - start ≡ bytes_of_row columns = omega (arith, is) in
      ap (λ (n : ℕ). drop n (drop start bitmap)) e

  front : length (take start bitmap) ≡ start
  front = omega (arith, length-take start bitmap, within)

  abbrev gap : ℕ
  gap = layout.stride - bytes_of_row columns

  taken : take (start + layout.stride) now ≡ take start bitmap ++ (row ++ take gap following)
  taken =
      take_into (take start bitmap) (row ++ following) (start + layout.stride) layout.stride (omega (arith, front))
      ∙ ap (λ (l : List ℕ). take start bitmap ++ l) (take_into row following layout.stride gap (omega (arith, long, is, reaches)))

  pub bits_more : bits_of (take (start + layout.stride) now)
      ≡ bits_of (take start bitmap) ++ row_and_gap layout columns (pixels columns list) (drop start bitmap)
  bits_more =
      ap bits_of taken ∙ flat_map-append (bits_of_byte HighestFirst) (take start bitmap) (row ++ take gap following)
      ∙ ap (λ (b : Bits). bits_of (take start bitmap) ++ b) (flat_map-append (bits_of_byte HighestFirst) row (take gap following)
      ∙ ap (λ (b : Bits). b ++ bits_of (take gap following)) packs
      ∙ ap (λ (l : List ℕ). packed_row layout.black_is_0 (pixels columns list) ++ bits_of (take gap l)) following_is)

  pub rest_more : drop (start + layout.stride) now ≡ drop layout.stride (drop start bitmap)
  rest_more =
      drop-put_mid start (start + bytes - start) bitmap row (start + layout.stride) (omega (arith, is, reaches)) within
      (omega (arith, long)) ∙ sym (drop-drop layout.stride start bitmap)

  pub size_more : length now ≡ length bitmap
  size_more =
      omega (
        arith,
        long,
        front,
        room,
        within,
        length-append (take start bitmap) (row ++ following),
        length-append row following,
        length-drop (start + bytes - start) (drop start bitmap),
        length-drop start bitmap,
      )

-- the same in each part is the same
pub same_packing : (layout : Layout) (start start' : ℕ) (bits bits' : Bits) (rest rest' : List ℕ)
    (size size' count count' name : ℕ)
    → start ≡ start' → bits ≡ bits' → rest ≡ rest' → size ≡ size' → count ≡ count' → ◌≡◌ {A = Packing}
    (record { layout = layout; start = start; bits = bits; rest = rest; size = size; changes = count; name = name })
    (record { layout = layout; start = start'; bits = bits'; rest = rest'; size = size'; changes = count'; name = name })
same_packing layout start start' bits bits' rest rest' size size' count count' name e f g h i = cc

-- ---- all rows
pub one_row_more : (n width : ℕ) → suc n * width ≡ width + n * width
one_row_more n width = grind arith

-- the bits of memory with rows packed into it
pub laid : Layout → ℕ → List Row → List ℕ → Bits
laid layout columns [] memory = bits_of memory
laid layout columns (row ∷ rows) memory =
    row_and_gap layout columns row memory ++ laid layout columns rows (drop layout.stride memory)

-- rows were packed after others
pub record HasPacked (columns : ℕ) (rows : List Row) (before after : Packing) : Type 0 where
  pub layout : after.layout ≡ before.layout
  pub start : after.start ≡ before.start + length rows * before.layout.stride
  pub bits : after.bits ++ bits_of after.rest ≡ before.bits ++ laid before.layout columns rows before.rest
  pub size : after.size ≡ before.size
  pub changes : after.changes ≡ meaning_after counts before.changes rows
  pub name : after.name ≡ before.name

-- what the sink means after rows of the width
pub rows_packed : (columns : ℕ) (before : Packing) (rows : List Row) → HaveWidth columns rows
    → HasPacked columns rows before (meaning_after (with_packed columns) before rows)
unfolding laid
rows_packed columns before [] have =
    record { layout = refl; start = omega arith; bits = refl; size = refl; changes = refl; name = refl }
rows_packed columns before (row ∷ rows) have =
    let layout : Layout = before.layout in
    let next : Packing = with_packed columns before (changes row) in
    let others : HasPacked columns rows next (meaning_after (with_packed columns) next rows)
    = rows_packed columns next rows (All-tail (λ r. length r ≡ columns) row rows have) in
    let more : suc (length rows) * layout.stride ≡ layout.stride + length rows * layout.stride =
    one_row_more (length rows) layout.stride in
    let same : pixels columns (changes row) ≡ row =
    subst (λ (n : ℕ). pixels n (changes row) ≡ row) (All-head (λ r. length r ≡ columns) row rows have) (pixels-changes row) in
    let after : Bits = laid layout columns rows (drop layout.stride before.rest) in
    record {
      layout = others.layout;
      start = omega (arith, others.start, more);
      bits = others.bits ∙ ap (λ (r : Row). (before.bits ++ row_and_gap layout columns r before.rest) ++ after) same
          ∙ append_assoc before.bits (row_and_gap layout columns row before.rest) after;
      size = others.size;
      changes = others.changes;
      name = others.name;
    }

-- ---- where the rows are
filled : (row : Row) → length (filled_up row) ≡ 8 * bytes_of_row (length row)
filled row = omega (arith, length-append row (padding (length row)), length-replicate ((8 - length row % 8) % 8) false)

-- a packed row has whole bytes
long_row : (black_is_0 : Bool) (columns : ℕ) (row : Row) → length row ≡ columns
    → length (packed_row black_is_0 row) ≡ 8 * bytes_of_row columns
long_row true columns row is = omega (arith, filled row, is, length-map (filled_up row) not)
long_row false columns row is = omega (arith, filled row, is)

-- memory whose first bits are those of the same bytes as before
module _ (gap : ℕ) (before after : List ℕ) (rest : Bits) (same : length after ≡ length before)
    (is : bits_of after ≡ bits_of (take gap before) ++ rest) where
  long_front : length (bits_of (take gap before)) ≡ 8 * min gap (length before)
  long_front = omega (arith, length-bits_of (take gap before), length-take gap before)

  -- no bits are after memory that is shorter
  nothing : length before ≤ gap → rest ≡ []
  nothing short = nil_from_length rest (omega (
    arith,
    ap length is,
    length-bits_of after,
    same,
    long_front,
    short,
    length-append (bits_of
        (take gap before)) rest,
  ))

  front_is : bits_of (take gap after) ≡ bits_of (take gap before)
  front_is = bits_of-take gap after ∙ ap (take (8 * gap)) is ∙ elim (cases_lt gap (length before)) [
    | inl long ↦ take_at (bits_of (take gap before)) rest (8 * gap) (omega (arith, long_front, long))
    | inr short ↦
        ap (λ (b : Bits). take (8 * gap) (bits_of (take gap before) ++ b)) (nothing short)
        ∙ ap (take (8 * gap)) (append-nil (bits_of (take gap before)))
        ∙ take_all (8 * gap) (bits_of (take gap before)) (omega (arith, long_front))
  ]

  after_is_rest : bits_of (drop gap after) ≡ rest
  after_is_rest = bits_of-drop gap after ∙ ap (drop (8 * gap)) is ∙ elim (cases_lt gap (length before)) [
    | inl long ↦ drop_at (bits_of (take gap before)) rest (8 * gap) (omega (arith, long_front, long))
    | inr short ↦
        ap (λ (b : Bits). drop (8 * gap) (bits_of (take gap before) ++ b)) (nothing short)
        ∙ ap (drop (8 * gap)) (append-nil (bits_of (take gap before)))
        ∙ drop_all (8 * gap) (bits_of (take gap before)) (omega (arith, long_front)) ∙ sym (nothing short)
  ]

-- rows are where they were laid, and nothing else has changed
pub record StandWhereLaid (layout : Layout) (columns : ℕ) (rows : List Row) (before after : List ℕ) : Type 0 where
  pub rows_are : rows_at layout.stride columns (length rows) after ≡ map (packed_row layout.black_is_0) rows
  pub others : outside_rows layout.stride columns (length rows) after ≡ outside_rows layout.stride columns (length rows) before

pub stand_where_laid : (layout : Layout) (columns : ℕ) (rows : List Row) (before after : List ℕ)
    → bytes_of_row columns ≤ layout.stride → HaveWidth columns rows → length after ≡ length before
    → All (λ byte. byte < 256) before → All (λ byte. byte < 256) after → bits_of after ≡ laid layout columns rows before
    → StandWhereLaid layout columns rows before after
unfolding laid
stand_where_laid layout columns [] before after reaches have same fits fit is =
    record { rows_are = refl; others = same_bytes HighestFirst after before fit fits is }
stand_where_laid layout columns (row ∷ rows) before after reaches have same fits fit is =
    let width : ℕ = bytes_of_row columns in
    let gap : ℕ = layout.stride - width in
    let line : Bits = packed_row layout.black_is_0 row in
    let long : length line ≡ 8 * width =
    long_row layout.black_is_0 columns row (All-head (λ r. length r ≡ columns) row rows have) in
    let following : List ℕ = drop width before in
    let following' : List ℕ = drop width after in
    let rest : Bits = laid layout columns rows (drop layout.stride before) in
    let parts : bits_of after ≡ line ++ (bits_of (take gap following) ++ rest) =
    is ∙ append_assoc line (bits_of (take gap following)) rest in
    let here : bits_of (take width after) ≡ line = bits_of-take width after ∙ ap (take (8 * width)) parts
    ∙ take_at line (bits_of (take gap following) ++ rest) (8 * width) long in
    let there : bits_of following' ≡ bits_of (take gap following) ++ rest = bits_of-drop width after ∙ ap (drop (8 * width)) parts
    ∙ drop_at line (bits_of (take gap following) ++ rest) (8 * width) long in
    let same_following : length following' ≡ length following
    = omega (arith, same, length-drop width before, length-drop width after) in
    let gaps : take gap following' ≡ take gap following = same_bytes HighestFirst (take gap following') (take gap following)
    (All-take (λ byte. byte < 256) gap following' (All-drop (λ byte. byte < 256) width after fit))
    (All-take (λ byte. byte < 256) gap following (All-drop (λ byte. byte < 256) width before fits))
    (front_is gap following following' rest same_following there) in
    let whole : width + gap ≡ layout.stride = omega (arith, reaches) in
    let next : drop gap following' ≡ drop layout.stride after =
    drop-drop gap width after ∙ ap (λ (n : ℕ). drop n after) whole in
    let others : StandWhereLaid layout columns rows (drop layout.stride before) (drop layout.stride after) =
    stand_where_laid layout columns rows (drop layout.stride before) (drop layout.stride after) reaches
    (All-tail (λ r. length r ≡ columns) row rows have)
    (omega (arith, same, length-drop layout.stride before, length-drop layout.stride after))
    (All-drop (λ byte. byte < 256) layout.stride before fits) (All-drop (λ byte. byte < 256) layout.stride after fit)
    (ap bits_of (sym next) ∙ after_is_rest gap following following' rest same_following there) in
    record {
      rows_are = ap (λ (b : Bits). b ∷ rows_at layout.stride columns (length rows) (drop layout.stride after)) here
          ∙ ap (λ (l : List Bits). line ∷ l) others.rows_are;
      others = ap (λ (l : List ℕ). l ++ outside_rows layout.stride columns (length rows) (drop layout.stride after)) gaps
          ∙ ap (λ (l : List ℕ). take gap following ++ l) others.others;
    }

-- the room that n rows need
pub room_for : (stride columns n size : ℕ) → n * stride + bytes_of_row columns ≤ size + stride
    → bytes_of_rows stride columns n ≤ size
room_for stride columns zero size le = omega arith
room_for stride columns (suc n) size le = omega (arith, le, one_row_more n stride)

-- ---- what the caller's memory contains after a sink borrowed it that accepted the first rows
-- what a sink's memory means
abbrev pub packing_of : Layout → ℕ → List ℕ → ℕ → ℕ → Packing
packing_of layout start memory changes name = record {
  layout = layout;
  start = start;
  bits = bits_of (take start memory);
  rest = drop start memory;
  size = length memory;
  changes = changes;
  name = name;
}

-- memory that a sink borrowed before the first row, and after this many
module _ (layout layout' : Layout) (settings : DecodeSettings) (read : Bits) (taken columns start name name' count : ℕ)
    (before after : List ℕ) (wide : columns ≡ settings.columns) (enough : taken ≤ length (plain settings read).rows)
    (meaning : packing_of layout' start after count name' ≡ meaning_after (with_packed columns)
    (packing_of layout 0 before 0 name) (take taken (plain settings read).rows)) where
  abbrev rows : List Row
  rows = take taken (plain settings read).rows

  have : HaveWidth columns rows
  have = All-take (λ r. length r ≡ columns) taken (plain settings read).rows
      (subst (λ (n : ℕ). HaveWidth n (plain settings read).rows) (sym wide) (plain_width settings read))

  has_packed : HasPacked columns rows (packing_of layout 0 before 0 name) (packing_of layout' start after count name')
  has_packed = subst (HasPacked columns rows (packing_of layout 0 before 0 name)) (sym meaning)
      (rows_packed columns (packing_of layout 0 before 0 name) rows have)

  pub same_name : name ≡ name'
  same_name = sym has_packed.name

  many : length rows ≡ taken
  many = omega (arith, length-take taken (plain settings read).rows)

  pub start_is : start ≡ taken * layout.stride
  start_is = omega (arith, has_packed.start, ap (λ (n : ℕ). n * layout.stride) many)

  stand : bytes_of_row columns ≤ layout.stride → All (λ byte. byte < 256) before → All (λ byte. byte < 256) after
      → StandWhereLaid layout columns rows before after
  stand reaches fits fit = stand_where_laid layout columns rows before after reaches have has_packed.size fits fit
      (bits_of-parts start after ∙ has_packed.bits)

  same_stride : layout'.stride ≡ layout.stride
  same_stride = ap (λ (l : Layout). l.stride) has_packed.layout

  pub changes_are : count ≡ changes_taken settings read taken
  changes_are = has_packed.changes ∙ changes_counted 0 rows

  pub are_packed : bytes_of_row columns ≤ layout.stride → start + bytes_of_row columns ≤ length after + layout'.stride
      → All (λ byte. byte < 256) before → All (λ byte. byte < 256) after → ArePacked layout settings read taken before after
  are_packed reaches room fits fit =
      let there = stand reaches fits fit in
      record {
        rows = ap (λ (n : ℕ). rows_at layout.stride n taken after) (sym wide)
            ∙ ap (λ (n : ℕ). rows_at layout.stride columns n after) (sym many) ∙ there.rows_are;
        others = ap (λ (n : ℕ). outside_rows layout.stride n taken after) (sym wide)
            ∙ ap (λ (n : ℕ). outside_rows layout.stride columns n after) (sym many) ∙ there.others
            ∙ ap (λ (n : ℕ). outside_rows layout.stride columns n before) many
            ∙ ap (λ (n : ℕ). outside_rows layout.stride n taken before) wide;
        room = subst (λ (n : ℕ). bytes_of_rows layout.stride n taken ≤ length after) wide
            (room_for layout.stride columns taken (length after)
            (subst (λ (n : ℕ). n + bytes_of_row columns ≤ length after + layout.stride) start_is
            (subst (λ (n : ℕ). start + bytes_of_row columns ≤ length after + n) same_stride room)));
      }

-- the same memory means the same
pub same_meaning : (layout layout' : Layout) (start start' : ℕ) (memory memory' : List ℕ) (count count' name : ℕ)
    → layout ≡ layout' → start ≡ start' → memory ≡ memory' → count ≡ count'
    → packing_of layout start memory count name ≡ packing_of layout' start' memory' count' name
same_meaning layout layout' start start' memory memory' count count' name e f g h = cc

-- memory is bytes
pub all_fit : (memory : List ℕ) → ((k : ℕ) → Fits w8 (get_or memory k 0)) → All (λ byte. byte < 256) memory
all_fit [] fits k d lt = absurd (omega (arith, lt))
all_fit (byte ∷ memory) fits zero d lt = omega (arith, (fits 0).fits)
all_fit (byte ∷ memory) fits (suc k) d lt = all_fit memory (λ n. fits (suc n)) k d (omega (arith, lt))
