-- A row that is being painted: what is written, and what is left to paint.
use Rattle.fax_bitmap.proofs.Names.{◌≡◌, ℕ, zero, suc, ◌+◌, ◌-◌, ◌*◌, ◌/◌, ◌%◌, ◌<◌, ◌≤◌, Bool, true, false, not, List, [], ◌++◌}
use Rattle.fax_bitmap.proofs.Names.{length, get_or, take, drop, replicate, refl, sym, ap, ◌∙◌, arith, append_assoc, take_all, ◌∷◌}
use Rattle.fax_bitmap.proofs.Names.{flat_map-append, append-nil, length-append, length-replicate, length-take, length-drop}
use Rattle.fax_bitmap.proofs.Names.{drop_all, replicate-append-replicate, take-replicate, take-append-add, take-put_mid, put_mid}
use Rattle.fax_bitmap.proofs.Names.{HighestFirst, Bits, bits_of, bits_of_byte, low_bits, Row, AscendFrom, AreChanges, pixels}
use Rattle.fax_bitmap.proofs.Names.{pixels_from, length-bits_of, length-pixels, filled_up, under, StandsAt, Brush, White}
use Rattle.fax_words.proofs.WordBytes.{bits_of-take}
use Rattle.fax_bitmap.proofs.PaintedWords.{turned_under}
use Rattle.std.proofs.lemmas.List.{take_at}
use Rattle.fax_bitmap.proofs.Names.{length-low_bits}
use Rattle.fax_words.proofs.RunsWritten.{next_is, next_right, next_within, next_ascends, one_part}

-- ---- moving to another word
-- what is written over a part leaves the length
pub length-put_mid : (start count : ℕ) (row part : List ℕ) → start + count ≤ length row → length part ≡ count
    → length (put_mid start count row part) ≡ length row
length-put_mid start count row part within long =
    omega (
      arith,
      length-append (take start row) (part ++ drop count (drop start row)),
      length-append part (drop count (drop start row)),
      length-take start row,
      length-drop count (drop start row),
      length-drop start row,
    )

-- the word goes to the row, and one of the colour is begun
pub word_written : (start count word word' : ℕ) (old now bytes : List ℕ) (color : Bool)
    → length bytes ≡ 8 → bits_of bytes ≡ low_bits 64 word
    → count ≡ 8 → start + 8 ≤ length old → now ≡ put_mid start count old bytes → low_bits 64 word' ≡ replicate 64 color
    → bits_of (take (start + 8) now) ++ low_bits 64 word' ≡ (bits_of (take start old) ++ low_bits 64 word) ++ replicate 64 color
word_written start count word word' old now bytes color eight spelled is_eight within put plain =
    let after : start + 8 ≡ start + length bytes = omega arith in
    let written : bits_of (take (start + 8) now) ≡ bits_of (take start old) ++ low_bits 64 word =
    ap (λ (row : List ℕ). bits_of (take (start + 8) row)) put
    ∙ ap bits_of (take-put_mid start count old bytes (start + 8) after (omega arith)) ∙ flat_map-append
    (bits_of_byte HighestFirst) (take start old) bytes ∙ ap (λ (b : Bits). bits_of (take start old) ++ b) spelled in
    ap (λ (b : Bits). b ++ low_bits 64 word') written
    ∙ ap (λ (b : Bits). (bits_of (take start old) ++ low_bits 64 word) ++ b) plain

-- some words of the colour, and one more
pub word_more : (before now new : Bits) (start at : ℕ) (color : Bool) → start ≤ at → now ≡ before ++ replicate
    (8 * (at - start)) color → new ≡ now ++ replicate 64 color → new ≡ before ++ replicate (8 * (at + 8 - start)) color
word_more before now new start at color forward done more =
    let sum : 8 * (at - start) + 64 ≡ 8 * (at + 8 - start) = omega arith in
    more ∙ ap (λ (b : Bits). b ++ replicate 64 color) done
    ∙ append_assoc before (replicate (8 * (at - start)) color) (replicate 64 color) ∙ ap (λ (b : Bits). before ++ b)
    (replicate-append-replicate (8 * (at - start)) 64 color ∙ ap (λ (n : ℕ). replicate n color) sum)

-- no words of the colour
pub no_word : (before : Bits) (start : ℕ) (color : Bool) → before ≡ before ++ replicate (8 * (start - start)) color
no_word before start color =
    let none : 0 ≡ 8 * (start - start) = omega arith in
    sym (append-nil before) ∙ ap (λ (n : ℕ). before ++ replicate n color) none

-- bytes of one colour
pub bits_of_plain : (byte n : ℕ) (color : Bool) → bits_of_byte HighestFirst byte ≡ replicate 8 color
    → bits_of (replicate n byte) ≡ replicate (8 * n) color
bits_of_plain byte zero color plain = refl
bits_of_plain byte (suc n) color plain =
    let sum : 8 + 8 * n ≡ 8 * suc n = omega arith in
    ap (λ (b : Bits). b ++ bits_of (replicate n byte)) plain ∙ ap (λ (b : Bits). replicate 8 color ++ b)
    (bits_of_plain byte n color plain) ∙ replicate-append-replicate 8 (8 * n) color ∙ ap (λ (m : ℕ). replicate m color) sum

-- the word goes to the row, bytes of the colour are filled, and a word of it is begun
pub words_filled : (start count byte word word' : ℕ) (row one two : List ℕ) (color : Bool) → start + 8 + count ≤ length row
    → length one ≡ length row → bits_of one ≡ bits_of (take start row) ++ (low_bits 64 word ++ bits_of (drop (start + 8) row))
    → two ≡ put_mid (start + 8) count one (replicate count byte) → bits_of_byte HighestFirst byte ≡ replicate 8 color
    → low_bits 64 word' ≡ replicate 64 color → bits_of (take (start + 8 + count) two) ++ low_bits 64 word'
    ≡ (bits_of (take start row) ++ low_bits 64 word) ++ replicate (8 * (start + 8 + count - start)) color
words_filled start count byte word word' row one two color within same written filled plain begun =
    let before : Bits = bits_of (take start row) ++ low_bits 64 word in
    let after : Bits = bits_of (drop (start + 8) row) in
    let end : start + 8 + count ≡ start + 8 + length (replicate count byte) = omega (arith, length-replicate count byte) in
    let long : length before ≡ 8 * (start + 8) =
    omega (
      arith,
      length-append (bits_of (take start row)) (low_bits 64 word),
      length-bits_of (take start row),
      length-take start row,
      length-low_bits 64 word,
      within,
    ) in
    let first : bits_of (take (start + 8) one) ≡ before =
    bits_of-take (start + 8) one ∙ ap (take (8 * (start + 8))) (written
    ∙ sym (append_assoc (bits_of (take start row)) (low_bits 64 word) after)) ∙ take_at before after (8 * (start + 8)) long in
    let sum : 8 * count + 64 ≡ 8 * (start + 8 + count - start) = omega arith in
    let all : bits_of (take (start + 8 + count) two) ≡ before ++ replicate (8 * count) color =
    ap (λ (l : List ℕ). bits_of (take (start + 8 + count) l)) filled
    ∙ ap bits_of (take-put_mid (start + 8) count one (replicate count byte) (start + 8 + count) end (omega (arith, same, within)))
    ∙ flat_map-append (bits_of_byte HighestFirst) (take (start + 8) one) (replicate count byte)
    ∙ ap (λ (b : Bits). b ++ bits_of (replicate count byte)) first
    ∙ ap (λ (b : Bits). before ++ b) (bits_of_plain byte count color plain) in
    ap (λ (b : Bits). b ++ low_bits 64 word') all ∙ ap (λ (b : Bits). (before ++ replicate (8 * count) color) ++ b) begun
    ∙ append_assoc before (replicate (8 * count) color) (replicate 64 color) ∙ ap (λ (b : Bits). before ++ b)
    (replicate-append-replicate (8 * count) 64 color ∙ ap (λ (n : ℕ). replicate n color) sum)

-- ---- what is left to paint
-- A row is painted up to a position, after which the word continues in its colour; this many changes are done.
pub record IsPainted (columns : ℕ) (changes : List ℕ) (done : ℕ) (brush : Brush) (row : List ℕ) : Type 0 where
  pub place : ℕ
  pub front : Bits
  pub stands : StandsAt brush place
  pub within : place ≤ columns
  pub ascend : AscendFrom place columns (drop done changes)
  pub long : length front ≡ place
  pub left : front ++ pixels_from place brush.is_black columns (drop done changes) ≡ pixels columns changes
  pub painted : under brush row ≡ front ++ replicate (8 * brush.start + 64 - place) brush.is_black

-- the row up to a position right of it is painted in the present colour
module _ (row row' : List ℕ) (brush at : Brush) (place next : ℕ) (front : Bits)
    (right : place ≤ next) (stands : StandsAt brush place) (there : StandsAt at next) (forward : brush.start ≤ at.start)
    (long : length front ≡ place) (painted : under brush row ≡ front ++ replicate (8 * brush.start + 64 - place) brush.is_black)
    (moved : under at row' ≡ under brush row ++ replicate (8 * (at.start - brush.start)) brush.is_black) where
  abbrev pub front_to : Bits
  front_to = front ++ replicate (next - place) brush.is_black

  pub long_to : length front_to ≡ next
  long_to =
      omega (arith, length-append front (replicate (next - place) brush.is_black), length-replicate (next - place) brush.is_black)

  pub painted_to : under at row' ≡ front_to ++ replicate (8 * at.start + 64 - next) brush.is_black
  painted_to =
      let before : ℕ = 8 * brush.start + 64 - place in
      let moving : ℕ = 8 * (at.start - brush.start) in
      let after : ℕ = 8 * at.start + 64 - next in
      let from = stands.from in
      let below = stands.below in
      let from' = there.from in
      let below' = there.below in
      let sum : before + moving ≡ (next - place) + after = omega arith in
      moved ∙ ap (λ (b : Bits). b ++ replicate moving brush.is_black) painted ∙ append_assoc front (replicate before
      brush.is_black) (replicate moving brush.is_black) ∙ ap (λ (b : Bits). front ++ b) (replicate-append-replicate before moving
      brush.is_black ∙ ap (λ (n : ℕ). replicate n brush.is_black) sum ∙ sym (replicate-append-replicate (next - place) after
      brush.is_black)) ∙ sym (append_assoc front (replicate (next - place) brush.is_black) (replicate after brush.is_black))

-- the colour turns at the position
pub turned_there : (row : List ℕ) (at new : Brush) (place : ℕ) (front : Bits) (color : Bool)
    → StandsAt at place → at.start ≤ length row → length front ≡ place → new.start ≡ at.start → under at row
    ≡ front ++ replicate (8 * at.start + 64 - place) color → ((f : Bits) → length f ≡ place - 8 * at.start → low_bits 64 at.word
    ≡ f ++ replicate (64 - length f) color → low_bits 64 new.word ≡ f ++ replicate (64 - length f) (not color))
    → under new row ≡ front ++ replicate (8 * new.start + 64 - place) (not color)
turned_there row at new place front color stands within long same painted turn =
    let bytes : Bits = bits_of (take at.start row) in
    let n : ℕ = 8 * at.start + 64 - place in
    let from = stands.from in
    let below = stands.below in
    let count : length bytes ≡ 8 * at.start = omega (arith, length-bits_of (take at.start row), length-take at.start row) in
    ap (λ (k : ℕ). bits_of (take k row) ++ low_bits 64 new.word) same
    ∙ turned_under bytes (low_bits 64 at.word) (low_bits 64 new.word) front n color (not color) painted (omega arith) (λ f len e.
    let left : 64 - length f ≡ n = omega arith in
    let turned = turn f (omega arith) (e ∙ ap (λ (k : ℕ). f ++ replicate k color) (sym left)) in
    turned ∙ ap (λ (k : ℕ). f ++ replicate k (not color)) left)
    ∙ ap (λ (k : ℕ). front ++ replicate (8 * k + 64 - place) (not color)) (sym same)

-- what turning the colour at a position does to a word
abbrev pub TurnsAt : Brush → Brush → ℕ → Type 0
TurnsAt at new place =
    (f : Bits) → length f ≡ place - 8 * at.start → low_bits 64 at.word ≡ f ++ replicate (64 - length f) at.is_black
    → low_bits 64 new.word ≡ f ++ replicate (64 - length f) (not at.is_black)

-- one change more
pub one_change : (columns : ℕ) (changes : List ℕ) (done : ℕ) (brush at new : Brush) (row row' : List ℕ) → done < length changes
    → columns ≤ 8 * length row' → IsPainted columns changes done brush row → StandsAt at (get_or changes done 0)
    → brush.start ≤ at.start → at.is_black ≡ brush.is_black
    → under at row' ≡ under brush row ++ replicate (8 * (at.start - brush.start)) brush.is_black → new.start ≡ at.start
    → new.is_black ≡ not at.is_black → TurnsAt at new (get_or changes done 0) → IsPainted columns changes (done + 1) new row'
one_change columns changes done brush at new row row' lt room is there forward color moved same turned turns =
    let c : ℕ = get_or changes done 0 in
    let black : Bool = brush.is_black in
    let right = next_right columns is.place done White changes lt is.ascend in
    let within = next_within columns is.place done White changes lt is.ascend in
    let front : Bits = front_to row row' brush at is.place c is.front right is.stands there forward is.long is.painted moved in
    let long : length front ≡ c =
    long_to row row' brush at is.place c is.front right is.stands there forward is.long is.painted moved in
    let n : ℕ = 8 * at.start + 64 - c in
    let painted : under at row' ≡ front ++ replicate n at.is_black = painted_to row row' brush at is.place c is.front right
    is.stands there forward is.long is.painted moved ∙ ap (λ (b : Bool). front ++ replicate n b) (sym color) in
    let left : Bits = pixels_from c (not black) columns (drop (done + 1) changes) in
    let inside : at.start ≤ length row' = let from = there.from in omega arith in
    record {
      place = c;
      front = front;
      stands =
          record { begun = omega (arith, there.begun); from = omega (arith, there.from); below = omega (arith, there.below) };
      within = within;
      ascend = next_ascends columns is.place done White changes lt is.ascend;
      long = long;
      left = ap (λ (b : Bool). front ++ pixels_from c b columns (drop (done + 1) changes)) (turned ∙ ap not color)
          ∙ one_part front is.front (pixels_from is.place black columns (drop done changes))
          (replicate (c - is.place) black) left (pixels columns changes) is.left
          (ap (pixels_from is.place black columns) (next_is columns is.place done White changes lt is.ascend)) refl;
      painted = turned_there row' at new c front at.is_black there inside long same painted turns
          ∙ ap (λ (b : Bool). front ++ replicate (8 * new.start + 64 - c) b) (sym turned);
    }

-- one change more, in the word at hand
pub change_at_hand : (columns : ℕ) (changes : List ℕ) (done : ℕ) (brush new : Brush) (row : List ℕ) → done < length changes
    → columns ≤ 8 * length row → IsPainted columns changes done brush row → StandsAt brush (get_or changes done 0)
    → new.start ≡ brush.start → new.is_black ≡ not brush.is_black → TurnsAt brush new (get_or changes done 0)
    → IsPainted columns changes (done + 1) new row
change_at_hand columns changes done brush new row lt room is there same turned turns =
    one_change columns changes done brush brush new row row lt room is there (omega arith) refl
    (no_word (under brush row) brush.start brush.is_black) same turned turns

-- a black run, or a white one, in the word at hand
pub run_at_hand : (columns : ℕ) (changes : List ℕ) (done : ℕ) (brush one new : Brush) (row : List ℕ) → done + 1 < length changes
    → columns ≤ 8 * length row → IsPainted columns changes done brush row → get_or changes (done + 1) 0 < 8 * brush.start + 64
    → one.start ≡ brush.start → one.is_black ≡ not brush.is_black → TurnsAt brush one (get_or changes done 0)
    → new.start ≡ one.start → new.is_black ≡ not one.is_black → TurnsAt one new (get_or changes (done + 1) 0)
    → IsPainted columns changes (done + 2) new row
run_at_hand columns changes done brush one new row lt room is near same turned turns same' turned' turns' =
    let first : ℕ = get_or changes done 0 in
    let second : ℕ = get_or changes (done + 1) 0 in
    let lt' : done < length changes = omega arith in
    let stands = is.stands in
    let right : is.place ≤ first = next_right columns is.place done White changes lt' is.ascend in
    let further : first ≤ second =
    next_right columns first (done + 1) White changes lt (next_ascends columns is.place done White changes lt' is.ascend) in
    let at_first : StandsAt brush first = record {
      begun = stands.begun;
      from = omega (arith, stands.from, right);
      below = omega (arith, further, near);
    } in
    let at_second : StandsAt one second = record {
      begun = omega (arith, stands.begun, same);
      from = omega (arith, stands.from, right, further, same);
      below = omega (arith, near, same);
    } in
    let two : (done + 1) + 1 ≡ done + 2 = omega arith in
    let done_first = change_at_hand columns changes done brush one row lt' room is at_first same turned turns in
    rw (← two) (change_at_hand columns changes (done + 1) one new row lt room done_first at_second same' turned' turns')

-- ---- the end of a row
-- all changes are done: the row is painted, and continues in its last colour
pub all_painted : (columns : ℕ) (changes : List ℕ) (done : ℕ) (brush at : Brush) (row row' : List ℕ) → length changes ≤ done
    → IsPainted columns changes done brush row → StandsAt at columns → brush.start ≤ at.start → at.is_black ≡ brush.is_black
    → under at row' ≡ under brush row ++ replicate (8 * (at.start - brush.start)) brush.is_black
    → under at row' ≡ pixels columns changes ++ replicate (8 * at.start + 64 - columns) at.is_black
all_painted columns changes done brush at row row' all is there forward color moved =
    let n : ℕ = 8 * at.start + 64 - columns in
    let none : drop done changes ≡ [] = drop_all done changes all in
    let whole : is.front ++ replicate (columns - is.place) brush.is_black ≡ pixels columns changes
    = sym (ap (λ (l : List ℕ). is.front ++ pixels_from is.place brush.is_black columns l) none) ∙ is.left in
    painted_to row row' brush at is.place columns is.front is.within is.stands there forward is.long is.painted moved ∙ ap
    (λ (b : Bits). b ++ replicate n brush.is_black) whole ∙ ap (λ (b : Bool). pixels columns changes ++ replicate n b) (sym color)

-- a row that ends black turns white at its end
pub ends_white : (columns : ℕ) (changes row : List ℕ) (at new : Brush) → AreChanges columns changes → columns ≤ 8 * length row
    → StandsAt at columns → under at row ≡ pixels columns changes ++ replicate (8 * at.start + 64 - columns) at.is_black
    → at.is_black ≡ true → new.start ≡ at.start → TurnsAt at new columns
    → under new row ≡ pixels columns changes ++ replicate (8 * at.start + 64 - columns) false
ends_white columns changes row at new lawful room there painted black same turns =
    let inside : at.start ≤ length row = let from = there.from in omega arith in
    turned_there row at new columns (pixels columns changes) at.is_black there inside (length-pixels columns changes lawful)
    same painted turns ∙ ap (λ (k : ℕ). pixels columns changes ++ replicate (8 * k + 64 - columns) (not at.is_black)) same
    ∙ ap (λ (b : Bool). pixels columns changes ++ replicate (8 * at.start + 64 - columns) (not b)) black

-- what is written of the last word fills the row up
pub filled : (columns n : ℕ) (changes row row' : List ℕ) (b : Bits) → AreChanges columns changes → length row ≡ (columns + 7) / 8
    → 8 * length row - columns ≤ n → bits_of row' ≡ take (8 * length row) b → b ≡ pixels columns changes ++ replicate n false
    → bits_of row' ≡ filled_up (pixels columns changes)
filled columns n changes row row' b lawful room enough cut is =
    let whole : Row = pixels columns changes in
    let long : length whole ≡ columns = length-pixels columns changes lawful in
    let more : ℕ = 8 * length row - columns in
    let split : 8 * length row ≡ length whole + more = omega arith in
    let missing : more ≡ (8 - length whole % 8) % 8 = omega arith in
    cut ∙ ap (take (8 * length row)) is
    ∙ ap (λ (k : ℕ). take k (whole ++ replicate n false)) split ∙ take-append-add whole (replicate n false) more
    ∙ ap (λ (b : Bits). whole ++ b) (take-replicate more n false enough ∙ ap (λ (k : ℕ). replicate k false) missing)

-- the last word is written as far as the row has room
pub last_word_written : (start : ℕ) (row row' bytes : List ℕ) (word : ℕ) → start ≤ length row → length row ≤ start + 8
    → length bytes ≡ 8 → bits_of bytes ≡ low_bits 64 word → row'
    ≡ put_mid start (length row - start) row (take (length row - start) bytes) → bits_of row'
    ≡ take (8 * length row) (bits_of (take start row) ++ low_bits 64 word)
last_word_written start row row' bytes word within last eight spelled put =
    let count : ℕ = length row - start in
    let part : List ℕ = take count bytes in
    let few : length part ≡ count = omega (arith, length-take count bytes) in
    let same : length row' ≡ length row = ap length put ∙ length-put_mid start count row part (omega arith) few in
    let head : List ℕ = take start row in
    let bits : length (bits_of head) ≡ 8 * start = omega (arith, length-bits_of head, length-take start row) in
    let split : 8 * length row ≡ length (bits_of head) + 8 * count = omega arith in
    let all : row' ≡ head ++ part = sym (take_all (length row) row' (omega arith)) ∙ ap (take (length row)) put
    ∙ take-put_mid start count row part (length row) (omega arith) within in
    ap bits_of all ∙ flat_map-append (bits_of_byte HighestFirst) head part
    ∙ ap (λ (b : Bits). bits_of head ++ b) (bits_of-take count bytes ∙ ap (take (8 * count)) spelled) ∙ sym (take-append-add
    (bits_of head) (low_bits 64 word) (8 * count)) ∙ sym (ap (λ (n : ℕ). take n (bits_of head ++ low_bits 64 word)) split)

-- a row without changes is white
pub white : (columns : ℕ) (changes row row' : List ℕ) → length changes ≡ 0 → length row ≡ (columns + 7) / 8
    → row' ≡ replicate (length row) 0 → bits_of row' ≡ filled_up (pixels columns changes)
white columns [] row row' none room is =
    let whole : Row = pixels columns [] in
    let long : length whole ≡ columns - 0 = length-replicate (columns - 0) false in
    let more : ℕ = (8 - length whole % 8) % 8 in
    let all : 8 * length row ≡ (columns - 0) + more = omega arith in
    ap bits_of is ∙ bits_of_plain 0 (length row) false refl ∙ ap (λ (n : ℕ). replicate n false) all
    ∙ sym (replicate-append-replicate (columns - 0) more false)
white columns (change ∷ changes) row row' none room is = absurd (omega arith)
