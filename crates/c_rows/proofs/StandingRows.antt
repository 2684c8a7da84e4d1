-- Rows that a sink took stand in the caller's memory.
use Rattle.std.proofs.Common.{◌≡◌, ◌≤◌, ◌<◌, ℕ, suc, ◌+◌, ◌*◌, ◌/◌, min, List, [], ◌∷◌, ◌++◌, length, take, drop, refl, sym, ap}
use Rattle.std.proofs.Common.{subst, ◌∙◌, arith, All}
use Rattle.std.proofs.lemmas.List.{length-append}
use Rattle.std.proofs.lemmas.Nat.{div-mul-add}
use Rattle.hayro_ccitt.specs.Answers.{meaning_after}
use Rattle.hayro_ccitt.specs.Rows.{HaveWidth, Row, changes}
use Rattle.fax_encode.proofs.WordBytes.{bits_of-parts}
use Rattle.c_rows.specs.GivenRows.{StandListed, StandPacked, rows_given}
use Rattle.c_rows.specs.Listing.{Listing, listed, listed_row, with_listed}
use Rattle.c_rows.specs.Packing.{bytes_of_row, with_packed}
use Rattle.c_rows.specs.declared.feeding.Feeding.{Feeding}
use Rattle.c_rows.specs.declared.packed_rows.Layout.{Layout}
use Rattle.c_rows.proofs.ListedMemory.{HasListed, rows_listed}
use Rattle.c_rows.proofs.PackedMemory.{HasPacked, packing_of, room_for, rows_packed, stand_where_laid}
use Rattle.c_rows.proofs.Reporting.{changes_counted, counts, sum_from}

-- each reading gives a row
pub as_many : (given : List Feeding) → length (rows_given given) ≡ length given
as_many [] = refl
as_many (next ∷ more) = ap suc (as_many more)

-- packed rows
module _ (layout layout' : Layout) (columns start name name' count : ℕ) (rows : List Row) (before after : List ℕ)
    (have : HaveWidth columns rows) (meaning : packing_of layout' start after count name'
    ≡ meaning_after (with_packed columns) (packing_of layout 0 before 0 name) rows) where
  has : HasPacked columns rows (packing_of layout 0 before 0 name) (packing_of layout' start after count name')
  has = subst (HasPacked columns rows (packing_of layout 0 before 0 name)) (sym meaning)
      (rows_packed columns (packing_of layout 0 before 0 name) rows have)

  pub same_memory : name ≡ name'
  same_memory = sym has.name

  pub start_of_next : start ≡ length rows * layout.stride
  start_of_next = omega (arith, has.start)

  pub same_layout : layout' ≡ layout
  same_layout = has.layout

  pub stand_packed : bytes_of_row columns ≤ layout.stride → start + bytes_of_row columns ≤ length after + layout'.stride
      → All (λ byte. byte < 256) before → All (λ byte. byte < 256) after → StandPacked layout columns rows before after
  stand_packed reaches room fits fit =
      let there = stand_where_laid layout columns rows before after reaches have has.size fits fit
      (bits_of-parts start after ∙ has.bits) in
      record {
        rows_are = there.rows_are;
        others = there.others;
        room = room_for layout.stride columns (length rows) (length after)
            (subst (λ (n : ℕ). n + bytes_of_row columns ≤ length after + layout.stride) start_of_next
            (subst (λ (l : Layout). start + bytes_of_row columns ≤ length after + l.stride) has.layout room));
      }

-- how many rows of this stride there are before a place
pub rows_before : (n stride : ℕ) → 0 < stride → n * stride / stride ≡ n
rows_before n stride some =
    let same : n * stride ≡ n * stride + 0 = omega arith in ap (λ (m : ℕ). m / stride) same ∙ div-mul-add n stride 0 some

-- how many numbers lists of rows have
many_listed : (count : ℕ) (rows : List Row) → count + length (listed rows) ≡ length rows + sum_from count rows
many_listed count [] = omega arith
many_listed count (row ∷ rows) =
    omega (arith, many_listed (count + length (changes row)) rows, length-append (listed_row (changes row)) (listed rows))

-- what a sink means that has listed numbers up to a place of the caller's memory
abbrev pub listing_of : ℕ → List ℕ → ℕ → ℕ → Listing
listing_of end lists changes name =
    record { end = end; numbers = take end lists; rest = drop end lists; changes = changes; name = name }

-- lists of rows were written, from the start of the memory on
pub record AreFromStart (name name' end count : ℕ) (rows : List Row) (before after : List ℕ) : Type 0 where
  pub end_is : end ≡ length (listed rows)
  pub same : name ≡ name'
  pub stand : StandListed rows before after
  pub counted : count ≡ min (sum_from 0 rows) 18446744073709551615
  pub no_more : count ≤ end
  -- where memory is no longer than numbers of 64 bits count
  pub within : end ≤ 18446744073709551615 → end ≡ length rows + count

pub lists_from_start : {begin end none count name name' : ℕ} {lists before after : List ℕ} {rows : List Row} → begin ≡ 0
    → lists ≡ before → none ≡ 0
    → listing_of end after count name' ≡ meaning_after with_listed (listing_of begin lists none name) rows
    → AreFromStart name name' end count rows before after
lists_from_start {begin} {end} {none} {count} {name} {name'} {lists} {before} {after} {rows} begun whole uncounted meaning =
    let start : Listing = listing_of begin lists none name in
    let listing : HasListed rows start (listing_of end after count name') =
    subst (HasListed rows start) (sym meaning) (rows_listed start rows) in
    let end_is : end ≡ length (listed rows) = omega (arith, listing.end, begun) in
    let counted : count ≡ min (sum_from 0 rows) 18446744073709551615 =
    listing.changes ∙ ap (λ (n : ℕ). meaning_after counts n rows) uncounted ∙ changes_counted 0 rows in
    record {
      end_is = end_is;
      same = sym listing.name;
      stand = record {
        rows_are = ap (λ (n : ℕ). take n after) (sym end_is) ∙ listing.numbers
            ∙ ap (λ (n : ℕ). take n lists ++ listed rows) begun;
        rest = ap (λ (n : ℕ). drop n after) (sym end_is) ∙ listing.rest
            ∙ ap (λ (n : ℕ). drop (length (listed rows)) (drop n lists)) begun ∙ ap (drop (length (listed rows))) whole;
      };
      counted = counted;
      no_more = omega (arith, end_is, many_listed 0 rows, counted);
      within = λ few. omega (arith, end_is, many_listed 0 rows, counted, few);
    }
