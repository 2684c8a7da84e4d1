-- Packed rows without bytes between them, with 1 for black: all of their bits, one row's after another's.
use Rattle.std.proofs.Common.{◌≡◌, ℕ, zero, suc, ◌+◌, ◌-◌, ◌*◌, ◌≤◌, false, List, [], ◌∷◌, ◌++◌, length, map, take, drop}
use Rattle.std.proofs.Common.{◌∙◌, arith, refl, sym, ap}
use Rattle.std.specs.List.{flat_map}
use Rattle.std.proofs.lemmas.List.{drop-drop, drop-take, take-take}
use Rattle.hayro_ccitt.specs.DecodeSettings.{DecodeSettings}
use Rattle.hayro_ccitt.specs.Bits.{Bits, bits_of}
use Rattle.hayro_ccitt.specs.PlainReading.{plain}
use Rattle.hayro_ccitt.specs.Rows.{Row}
use Rattle.fax_encode.specs.Packed.{packed}
use Rattle.fax_encode.proofs.WordBytes.{bits_of-parts}
use Rattle.hayro_ccitt_c.proofs.PackedMemory.{one_row_more}
use Rattle.hayro_ccitt_c.specs.Packing.{bytes_of_row, bytes_of_rows, outside_rows, packed_row, rows_at, together}
use Rattle.hayro_ccitt_c.specs.Reports.{ArePacked, AreTogether}

all_bits : (columns n : ℕ) (memory : List ℕ)
    → bits_of (take (n * bytes_of_row columns) memory) ≡ flat_map (λ bits. bits) (rows_at (bytes_of_row columns) columns n memory)
all_bits columns zero memory =
    let none : zero * bytes_of_row columns ≡ zero = omega arith in
    ap (λ (m : ℕ). bits_of (take m memory)) none
all_bits columns (suc n) memory =
    let width : ℕ = bytes_of_row columns in
    let here : take width (take (width + n * width) memory) ≡ take width memory =
    take-take width (width + n * width) memory (omega arith) in
    let after : drop width (take (width + n * width) memory) ≡ take (n * width) (drop width memory) =
    drop-take width (n * width) memory in
    ap (λ (m : ℕ). bits_of (take m memory)) (one_row_more n width) ∙ bits_of-parts width (take (width + n * width) memory)
    ∙ ap (λ (l : List ℕ). bits_of l ++ bits_of (drop width (take (width + n * width) memory))) here
    ∙ ap (λ (l : List ℕ). bits_of (take width memory) ++ bits_of l) after
    ∙ ap (λ (b : Bits). bits_of (take width memory) ++ b) (all_bits columns n (drop width memory))

nothing_between : (columns n : ℕ) (memory : List ℕ)
    → outside_rows (bytes_of_row columns) columns n memory ≡ drop (n * bytes_of_row columns) memory
nothing_between columns zero memory =
    let none : zero * bytes_of_row columns ≡ zero = omega arith in
    sym (ap (λ (m : ℕ). drop m memory) none)
nothing_between columns (suc n) memory =
    let width : ℕ = bytes_of_row columns in
    let none : width - width ≡ zero = omega arith in
    ap (λ (m : ℕ). take m (drop width memory) ++ outside_rows width columns n (drop width memory)) none
    ∙ nothing_between columns n (drop width memory) ∙ drop-drop (n * width) width memory
    ∙ sym (ap (λ (m : ℕ). drop m memory) (one_row_more n width))

rows_follow : (rows : List Row) → flat_map (λ bits. bits) (map (packed_row false) rows) ≡ packed rows
rows_follow [] = refl
rows_follow (row ∷ rows) = ap (λ (b : Bits). packed_row false row ++ b) (rows_follow rows)

room_together : (columns n size : ℕ) → bytes_of_rows (bytes_of_row columns) columns n ≤ size → n * bytes_of_row columns ≤ size
room_together columns zero size le = omega arith
room_together columns (suc n) size le = omega (arith, le, one_row_more n (bytes_of_row columns))

pub are_together : (settings : DecodeSettings) (bits : Bits) (taken : ℕ) (before after : List ℕ)
    → ArePacked (together settings.columns) settings bits taken before after
    → AreTogether settings bits taken before after
are_together settings bits taken before after are = record {
  rows = all_bits settings.columns taken after ∙ ap (λ (l : List Bits). flat_map (λ bits. bits) l) are.rows
      ∙ rows_follow (take taken (plain settings bits).rows);
  rest = sym (nothing_between settings.columns taken after) ∙ are.others ∙ nothing_between settings.columns taken before;
  room = room_together settings.columns taken (length after) are.room;
}
