-- Packed rows of which the last ones are white, and not yet in memory.
use Rattle.std.proofs.Common.{◌≡◌, ℕ, ◌+◌, ◌-◌, ◌*◌, ◌≤◌, Bool, true, false, not, List, [], ◌∷◌, ◌++◌, length, map, take, drop}
use Rattle.std.proofs.Common.{replicate, refl, sym, ap, ◌∙◌, arith, append_assoc, zero, suc}
use Rattle.std.proofs.lemmas.Grind.{flat_map-append}
use Rattle.std.proofs.lemmas.List.{append-nil, drop-append-le, drop-drop, drop-replicate, length-append, length-drop}
use Rattle.std.proofs.lemmas.List.{length-replicate, length-take, replicate-append-replicate, take-append-le, take-replicate}
use Rattle.std.proofs.lemmas.List.{take_at}
use Rattle.std.proofs.lemmas.Slice.{drop-put_mid, take-put_mid}
use Rattle.std.proofs.Math.Seq.{drop-append-add}
use borrow.Rule.Slice.PartMut.{put_mid}
use Rattle.hayro_ccitt.specs.BitOrder.TheVariants.{HighestFirst}
use Rattle.hayro_ccitt.specs.Bits.{Bits, bits_of, bits_of_byte}
use Rattle.hayro_ccitt.specs.Rows.{pixels}
use Rattle.fax_encode.specs.Chosen.{filled_up}
use Rattle.fax_encode.proofs.PaintedRows.{white, bits_of_plain}
use Rattle.c_rows.specs.Packing.{Packing, bytes_of_row, counted, packed_row, packing_up_to, white_byte, with_packed}
use Rattle.c_rows.specs.declared.packed_rows.Layout.{Layout}
use Rattle.c_rows.proofs.PackedMemory.{bits_more, packing_of, rest_more, same_packing, size_more, take_into}

black_of_white : (n : ℕ) → map not (replicate n false) ≡ replicate n true
black_of_white zero = refl
black_of_white (suc n) = ap (λ (b : Bits). true ∷ b) (black_of_white n)

-- the bytes of a white row, with 1 for black
white_line : (columns : ℕ) → bits_of (replicate (bytes_of_row columns) 0) ≡ packed_row false (pixels columns [])
white_line columns =
    let zeros : List ℕ = replicate (bytes_of_row columns) 0 in
    let long : length zeros ≡ bytes_of_row columns = length-replicate (bytes_of_row columns) 0 in
    white columns [] zeros zeros refl long (ap (λ (n : ℕ). replicate n 0) (sym long))

-- and with either value for black
white_row : (black_is_0 : Bool) (columns : ℕ)
    → bits_of (replicate (bytes_of_row columns) (white_byte black_is_0)) ≡ packed_row black_is_0 (pixels columns [])
white_row false columns = white_line columns
white_row true columns =
    let count : ℕ = bytes_of_row columns in
    bits_of_plain 255 count true refl ∙ sym (black_of_white (8 * count))
    ∙ ap (map not) (sym (bits_of_plain 0 count false refl) ∙ white_line columns)

-- the same of bytes that were filled
pub white_bytes : (black_is_0 : Bool) (columns : ℕ) (list row row' : List ℕ) (byte : ℕ) → length list ≡ 0
    → length row ≡ bytes_of_row columns → byte ≡ white_byte black_is_0 → row' ≡ replicate (length row) byte
    → bits_of row' ≡ packed_row black_is_0 (pixels columns list)
white_bytes black_is_0 columns [] row row' byte none room white is =
    ap bits_of (is ∙ ap (λ (n : ℕ). replicate n byte) room ∙ ap (λ (b : ℕ). replicate (bytes_of_row columns) b) white)
    ∙ white_row black_is_0 columns
white_bytes black_is_0 columns (change ∷ list) row row' byte none room white is = absurd (omega (arith, none))

-- no white bytes after others
no_white : (front : List ℕ) (n byte : ℕ) → front ++ replicate (n - n) byte ≡ front
no_white front n byte =
    let none : n - n ≡ zero = omega arith in
    ap (λ (m : ℕ). front ++ replicate m byte) none ∙ append-nil front

-- all rows are in memory
pub all_in_memory : (layout : Layout) (start written : ℕ) (memory : List ℕ) (changes name : ℕ) → written ≡ start
    → packing_up_to layout start written memory changes name ≡ packing_of layout start memory changes name
all_in_memory layout start written memory changes name is =
    same_packing layout _ _ _ _ _ _ _ _ _ _ name refl
    (ap (λ (n : ℕ). bits_of (take n memory ++ replicate (start - n) (white_byte layout.black_is_0))) is
    ∙ ap bits_of (no_white (take start memory) start (white_byte layout.black_is_0))) refl refl refl

-- a white row more that isn't in memory
pub one_white : (layout : Layout) (columns start written bytes : ℕ) (list memory : List ℕ) (changes more name : ℕ)
    → length list ≡ 0 → bytes ≡ bytes_of_row columns → bytes ≡ layout.stride → written ≤ start
    → more ≡ counted changes (length list)
    → packing_up_to layout (start + bytes) written memory more name
    ≡ with_packed columns (packing_up_to layout start written memory changes name) list
one_white layout columns start written bytes (change ∷ list) memory changes more name none is whole le count =
    absurd (omega (arith, none))
one_white layout columns start written bytes [] memory changes more name none is whole le count =
    let byte : ℕ = white_byte layout.black_is_0 in
    let front : List ℕ = take written memory in
    let before : List ℕ = replicate (start - written) byte in
    let row : List ℕ = replicate (bytes_of_row columns) byte in
    let line : Bits = packed_row layout.black_is_0 (pixels columns []) in
    let sum : start + bytes - written ≡ (start - written) + bytes_of_row columns = omega (arith, is, le) in
    let none_between : layout.stride - bytes_of_row columns ≡ zero = omega (arith, is, whole) in
    let gap : List ℕ = drop (bytes_of_row columns) (drop start memory) in
    let ends : line ++ bits_of (take (layout.stride - bytes_of_row columns) gap) ≡ line =
    ap (λ (n : ℕ). line ++ bits_of (take n gap)) none_between ∙ append-nil line in
    same_packing layout _ _ _ _ _ _ _ _ _ _ name (ap (λ (n : ℕ). start + n) whole)
    (ap (λ (n : ℕ). bits_of (front ++ replicate n byte)) sum
    ∙ ap (λ (l : List ℕ). bits_of (front ++ l)) (sym (replicate-append-replicate (start - written) (bytes_of_row columns) byte))
    ∙ ap bits_of (sym (append_assoc front before row)) ∙ flat_map-append (bits_of_byte HighestFirst) (front ++ before) row
    ∙ ap (λ (b : Bits). bits_of (front ++ before) ++ b) (white_row layout.black_is_0 columns ∙ sym ends))
    (ap (λ (n : ℕ). drop (start + n) memory) whole ∙ sym (drop-drop layout.stride start memory)) refl count

-- A row more that is in memory, as all before it: with it the memory means more than what it meant before they were.
pub packed_after : (layout : Layout) (columns start written bytes : ℕ) (list memory row : List ℕ) (changes more name : ℕ)
    → written ≡ start → bytes ≡ bytes_of_row columns → bytes_of_row columns ≤ layout.stride → start ≤ length memory
    → bytes ≤ length memory - start → length row ≡ length (take (start + bytes - start) (drop start memory))
    → bits_of row ≡ packed_row layout.black_is_0 (pixels columns list) → more ≡ counted changes (length list)
    → (width : ℕ) (before : Packing) → packing_up_to layout start written memory changes name ≡ before → columns ≡ width
    → packing_up_to layout (start + layout.stride) (start + layout.stride) (put_mid start (start + bytes - start) memory row)
    more name ≡ with_packed width before list
packed_after layout columns start written bytes list memory row changes more name all is reaches within room same packs count
    width before means wide =
    all_in_memory layout (start + layout.stride) (start + layout.stride) (put_mid start (start + bytes - start) memory row)
    more name refl
    ∙ same_packing layout _ _ _ _ _ _ _ _ _ _ name refl
    (bits_more layout columns start bytes list memory row is reaches within room same packs)
    (rest_more layout columns start bytes list memory row is reaches within room same packs)
    (size_more layout columns start bytes list memory row is reaches within room same packs) count
    ∙ ap (λ (p : Packing). with_packed columns p list) (sym (all_in_memory layout start written memory changes name all) ∙ means)
    ∙ ap (λ (n : ℕ). with_packed n before list) wide

-- a row with 1 for black
pub plain_row : (black_is_0 : Bool) (bits row : Bits) → black_is_0 ≡ false → bits ≡ filled_up row
    → bits ≡ packed_row black_is_0 row
plain_row false bits row plain is = is
plain_row true bits row plain is = cc

-- the same parts mean the same
pub same_up_to : (layout layout' : Layout) (start start' written written' : ℕ) (memory memory' : List ℕ)
    (changes changes' name name' : ℕ) → layout ≡ layout' → start ≡ start' → written ≡ written' → memory ≡ memory'
    → changes ≡ changes' → name ≡ name' → packing_up_to layout start written memory changes name
    ≡ packing_up_to layout' start' written' memory' changes' name'
same_up_to layout layout' start start' written written' memory memory' changes changes' name name' e f g h i j = cc

-- the white rows that aren't in memory, and the next row with them, are cleared
module _ (written start bytes : ℕ) (memory filled : List ℕ) (le : written ≤ start) (room : start + bytes ≤ length memory)
    (is : filled ≡ replicate (start + bytes - written) 0) where
  abbrev cleared : List ℕ
  cleared = put_mid written (start + bytes - written) memory filled

  -- without the next row
  abbrev before_row : List ℕ
  before_row = put_mid written (start - written) memory (replicate (start - written) 0)

  abbrev after : List ℕ
  after = drop (start + bytes - written) (drop written memory)

  zeros_long : length filled ≡ start + bytes - written
  zeros_long = ap length is ∙ length-replicate {A = ℕ} (start + bytes - written) 0

  front_long : length (take written memory) ≡ written
  front_long = omega (arith, length-take written memory, room, le)

  from_row : drop start cleared ≡ replicate bytes 0 ++ after
  from_row =
      let sum : start ≡ length (take written memory) + (start - written) = omega (arith, front_long, le) in
      let fewer : start - written ≤ length filled = omega (arith, zeros_long, le) in
      let left : start + bytes - written - (start - written) ≡ bytes = omega (arith, le) in
      ap (λ (n : ℕ). drop n cleared) sum ∙ drop-append-add (take written memory) (filled ++ after) (start - written)
      ∙ drop-append-le (start - written) filled after fewer
      ∙ ap (λ (l : List ℕ). drop (start - written) l ++ after) is
      ∙ ap (λ (l : List ℕ). l ++ after) (drop-replicate (start - written) (start + bytes - written) 0
      ∙ ap (λ (n : ℕ). replicate n 0) left)

  pub row_cleared : take (start + bytes - start) (drop start cleared)
      ≡ replicate (length (take (start + bytes - start) (drop start cleared))) 0
  row_cleared =
      let count : start + bytes - start ≡ bytes = omega arith in
      let there : take (start + bytes - start) (drop start cleared) ≡ replicate bytes 0 =
      ap (λ (n : ℕ). take n (drop start cleared)) count ∙ ap (take bytes) from_row
      ∙ take_at (replicate bytes 0) after bytes (length-replicate {A = ℕ} bytes 0) in
      there ∙ ap (λ (n : ℕ). replicate n 0) (sym (ap length there ∙ length-replicate {A = ℕ} bytes 0))

  front_cleared : take start cleared ≡ take written memory ++ replicate (start - written) 0
  front_cleared =
      let sum : start ≡ length (take written memory) + (start - written) = omega (arith, front_long, le) in
      let fewer : start - written ≤ length filled = omega (arith, zeros_long, le) in
      let within : start - written ≤ start + bytes - written = omega (arith, le) in
      take_into (take written memory) (filled ++ after) start (start - written) sum
      ∙ ap (λ (l : List ℕ). take written memory ++ l) (take-append-le (start - written) filled after fewer
      ∙ ap (take (start - written)) is ∙ take-replicate (start - written) (start + bytes - written) 0 within)

  front_before : take start before_row ≡ take written memory ++ replicate (start - written) 0
  front_before = take-put_mid written (start - written) memory (replicate (start - written) 0) start
      (omega (arith, length-replicate {A = ℕ} (start - written) 0, le)) (omega (arith, room, le))

  size_before : length before_row ≡ length memory
  size_before =
      omega (
        arith,
        front_long,
        room,
        le,
        length-replicate {A = ℕ} (start - written) 0,
        length-append (take written memory)
            (replicate (start - written) 0 ++ drop (start - written) (drop written memory)),
        length-append (replicate (start - written) 0) (drop (start - written) (drop written memory)),
        length-drop (start - written) (drop written memory),
        length-drop written memory,
      )

  same_with_row : (row : List ℕ) → put_mid start (start + bytes - start) cleared row
      ≡ put_mid start (start + bytes - start) before_row row
  same_with_row row =
      let k : ℕ = start + bytes - start in
      let one : drop k (drop start cleared) ≡ drop (start + k) memory = drop-drop k start cleared
      ∙ drop-put_mid written (start + bytes - written) memory filled (start + k) (omega (arith, le)) (omega (arith, room, le))
      zeros_long in
      let two : drop k (drop start before_row) ≡ drop (start + k) memory = drop-drop k start before_row
      ∙ drop-put_mid written (start - written) memory (replicate (start - written) 0) (start + k) (omega (arith, le))
      (omega (arith, room, le)) (length-replicate {A = ℕ} (start - written) 0) in
      ap (λ (l : List ℕ). l ++ (row ++ drop k (drop start cleared))) (front_cleared ∙ sym front_before)
      ∙ ap (λ (l : List ℕ). take start before_row ++ (row ++ l)) (one ∙ sym two)

  means_before : (layout : Layout) (changes name : ℕ) → layout.black_is_0 ≡ false
      → packing_up_to layout start start before_row changes name ≡ packing_up_to layout start written memory changes name
  means_before layout changes name plain =
      let byte : ℕ = white_byte layout.black_is_0 in
      let zero_byte : 0 ≡ byte = sym (ap white_byte plain) in
      same_packing layout _ _ _ _ _ _ _ _ _ _ name refl
      (ap bits_of (no_white (take start before_row) start byte ∙ front_before
      ∙ ap (λ (b : ℕ). take written memory ++ replicate (start - written) b) zero_byte))
      (drop-put_mid written (start - written) memory (replicate (start - written) 0) start (omega (arith, le))
      (omega (arith, room, le)) (length-replicate {A = ℕ} (start - written) 0)) size_before refl

  -- and the row is packed
  pub packed_cleared : (layout : Layout) (columns : ℕ) (list row : List ℕ) (changes more name : ℕ)
      → layout.black_is_0 ≡ false → bytes ≡ bytes_of_row columns → bytes_of_row columns ≤ layout.stride
      → length row ≡ length (take (start + bytes - start) (drop start cleared))
      → bits_of row ≡ packed_row layout.black_is_0 (pixels columns list) → more ≡ counted changes (length list)
      → packing_up_to layout (start + layout.stride) (start + layout.stride)
      (put_mid start (start + bytes - start) cleared row) more name
      ≡ with_packed columns (packing_up_to layout start written memory changes name) list
  packed_cleared layout columns list row changes more name plain whole reaches long packs count =
      let k : ℕ = start + bytes - start in
      let there : length (take k (drop start cleared)) ≡ bytes =
      omega (
        arith,
        length-take k (drop start cleared),
        ap length from_row,
        length-append (replicate bytes 0) after,
        length-replicate {A = ℕ} bytes 0,
      ) in
      let fits : length row ≡ length (take k (drop start before_row)) =
      omega (arith, long, there, length-take k (drop start before_row), length-drop start before_row, size_before, room) in
      ap (λ (l : List ℕ). packing_up_to layout (start + layout.stride) (start + layout.stride) l more name) (same_with_row row)
      ∙ packed_after layout columns start start bytes list before_row row changes more name refl whole reaches
      (omega (arith, size_before, room)) (omega (arith, size_before, room)) fits packs count columns
      (packing_up_to layout start written memory changes name) (means_before layout changes name plain) refl
