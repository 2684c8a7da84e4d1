-- What the premises of locality say of the bits from a line on, and of those before it.
use Rattle.fax_reading.proofs.Names.{first_line, row_before, replicate, drop-drop, after_eol, line_here, Group3_2D, IsPrefix, ◌≡◌}
use Rattle.fax_reading.proofs.Names.{length-take-le, length-append, IsTaggedBody, common_steps, append_assoc, length-drop, length}
use Rattle.fax_reading.proofs.Names.{past_tag, cases_lt, Reaches, move_on, IsLocal, Option, lt-leb, le-leb, false, arith, IsEol}
use Rattle.fax_reading.proofs.Names.{replicate-append-replicate, length-replicate, take-append-drop, DecodeSettings, line_of_turn}
use Rattle.fax_reading.proofs.Names.{zero, true, List, ◌++◌, take, drop, Some, None, refl, Line, Bits, suc, ◌+◌, ◌-◌, ◌<◌, ◌≤◌, ℕ}
use Rattle.fax_reading.proofs.Names.{◌∷◌, sym, ◌∙◌, Row, inl, inr, [], ap}
use Rattle.std.proofs.Math.Seq.{drop-append_seam}
use Rattle.fax_bits.proofs.BitReading.ConsecutiveEols.{all_tagged}
use Rattle.fax_reading.proofs.DamagedLines.EolsAlike.{IsLineIn, Closes}
use Rattle.fax_reading.proofs.DamagedLines.PastEol.{next_eol_leaves, after_eol_is, past_later, past-eol, past}
use Rattle.fax_reading.proofs.DamagedLines.PastEol.{sought_line_is, found_next, rest_of, sought}
use Rattle.fax_reading.proofs.DrawingLines.LinesLeaveBits.{line_by_leaves, LineLeaves}

-- without a prefix, of this length, the rest is left
pub drop_at : {A : Type 0} (whole front rest : List A) (n : ℕ) → whole ≡ front ++ rest → length front ≡ n → drop n whole ≡ rest
drop_at whole front rest n e f = ap (drop n) e ∙ ap (λ (k : ℕ). drop k (front ++ rest)) (sym f) ∙ drop-append_seam front rest

-- they are eleven zeros after more
pub zeros_of_eol : (here rest : Bits) → after_eol 0 here ≡ Some rest
    → (more : ℕ) × (here ≡ (replicate more false ++ replicate 11 false) ++ true ∷ rest)
zeros_of_eol here rest e = let is = after_eol_is 0 here rest e in
    let more : ℕ = is.0 - 11 in
    let sum : is.0 ≡ more + 11 = omega (arith, is.2) in
    let zeros = ap (λ (n : ℕ). replicate n false) sum ∙ sym (replicate-append-replicate more 11 false) in
    (more, is.1 ∙ ap (λ (bits : Bits). bits ++ true ∷ rest) zeros)

-- the bits up to its end close with it
pub eol_closes : (before here rest : Bits) → after_eol 0 here ≡ Some rest → (front : Bits) × Closes front
    × (before ++ here ≡ front ++ rest)
eol_closes before here rest e = let (more, is) = zeros_of_eol here rest e in
    let first : Bits = before ++ replicate more false in
    (first ++ (replicate 11 false ++ true ∷ []), (first, refl), ap (λ (b : Bits). before ++ b) is ∙ simp append_assoc)

-- the first one is at or before any other
pub first_one : (k : ℕ) (rest before after : Bits) → replicate k false ++ true ∷ rest ≡ before ++ true ∷ after → k ≤ length before
first_one zero rest before after e = omega arith
first_one (suc k) rest [] after e = absurd cc
first_one (suc k) rest (b ∷ before) after e = grind (arith, common_steps, first_one k rest before after)

-- zeros before an EOL belong to it
pub after_eol_more : (seen more : ℕ) (here rest : Bits) → seen ≤ more → after_eol seen here ≡ Some rest
    → after_eol more here ≡ Some rest
after_eol_more seen more [] rest le e = absurd cc
after_eol_more seen more (false ∷ here) rest le e = after_eol_more (suc seen) (suc more) here rest (omega arith) e
after_eol_more seen more (true ∷ here) rest le e = grind (arith, common_steps, le-leb)

-- an EOL stays one, whatever follows
pub after_eol-append : (seen : ℕ) (here rest z : Bits) → after_eol seen here ≡ Some rest
    → after_eol seen (here ++ z) ≡ Some (rest ++ z)
after_eol-append seen [] rest z e = absurd cc
after_eol-append seen (false ∷ here) rest z e = after_eol-append (suc seen) here rest z e
after_eol-append seen (true ∷ here) rest z e = grind (arith, common_steps, le-leb)

-- if no EOL ends within some bits, the next is the one after them
pub past_before : (seen : ℕ) (bits z after : Bits) → past seen bits ≡ None → after_eol 0 z ≡ Some after
    → past seen (bits ++ z) ≡ Some after
past_before seen [] z after none e = past-eol seen z after (after_eol_more 0 seen z after (omega arith) e)
past_before seen (false ∷ bits) z after none e = past_before (suc seen) bits z after none e
past_before seen (true ∷ bits) z after none e = grind (arith, common_steps, cases_lt, le-leb, lt-leb, past_before 0 bits z after)

-- a body between two positions, and what follows the EOL after it
pub record IsBody (bits : Bits) (from to : ℕ) (after : Bits) : Type 0 where
  pub order : from ≤ to
  pub within : to ≤ length bits
  pub one : (place : ℕ) × (from ≤ place) × (place < to) × IsPrefix (true ∷ []) (drop place bits)
  pub no_eol : (place end : ℕ) → from ≤ place → end ≤ to → IsEol bits place end → ⊥
  pub eol : after_eol 0 (drop to bits) ≡ Some after

module _ (bits : Bits) (from to : ℕ) (after : Bits) (local : IsBody bits from to after) where
  -- the bits from the body on
  abbrev pub line_on : Bits
  line_on = drop from bits

  -- the body
  abbrev pub body : Bits
  body = take (to - from) (drop from bits)

  -- the bits from the EOL after it on
  abbrev pub eol_on : Bits
  eol_on = drop to bits

  -- the body, and what follows
  pub cut : line_on ≡ body ++ eol_on
  cut = grind (arith, common_steps, drop-drop (to - from) from bits, take-append-drop (to - from) line_on)

  -- the data, cut where the body begins
  pub whole : bits ≡ take from bits ++ line_on
  whole = sym (take-append-drop from bits)

  -- no EOL begins at or after the line's start and ends at or before `to`
  not_within : (before rest : Bits) (k : ℕ) (found : Bits) → line_on ≡ before ++ found → found ≡ replicate k false ++ true ∷ rest
      → after_eol 0 found ≡ Some rest → length before + (k + 1) ≤ to - from → ⊥
  not_within before rest k found e f eol le = grind (
    arith,
    append_assoc,
    drop_at bits (take from bits ++ before) found (from + length before),
    drop_at bits ((take from bits ++ before) ++ (replicate k false ++ true ∷ [])) rest (from + (length before + (k + 1))),
    length-take-le from bits (omega (arith, local.order, local.within)),
    length-append,
    length-replicate,
    whole,
  )

  -- no EOL ends within the body
  pub none_in_body : past 0 body ≡ None
  none_in_body = by_past (past 0 body) refl
    where
      by_past : (o : Option Bits) → past 0 body ≡ o → past 0 body ≡ None
      by_past None e = e
      by_past (Some rest) e = let next = found_next body rest e in
          let before = next_eol_leaves body next.0 next.1 in
          let is = after_eol_is 0 next.0 rest next.2 in
          grind (
            arith,
            append_assoc,
            after_eol-append,
            (length-take-le (to - from) line_on (omega (arith, length-drop from bits, local.order, local.within))),
            length-append,
            length-replicate,
            not_within,
            cut,
          )

  pub no_eol_here : after_eol 0 line_on ≡ None
  no_eol_here = by_after_eol (after_eol 0 line_on) refl
    where
      by_after_eol : (o : Option Bits) → after_eol 0 line_on ≡ o → after_eol 0 line_on ≡ None
      by_after_eol None e = e
      by_after_eol (Some rest) e = let is = after_eol_is 0 line_on rest e in
          let n : ℕ = local.one.0 - from in
          let sum : from + n ≡ local.one.0 = omega (arith, local.one.1) in
          let there : drop n line_on ≡ true ∷ local.one.3.0 = drop-drop n from bits ∙ ap (λ (k : ℕ). drop k bits) sum
          ∙ local.one.3.1 in
          let split : replicate is.0 false ++ true ∷ rest ≡ take n line_on ++ true ∷ local.one.3.0 = sym is.1
          ∙ sym (take-append-drop n line_on) ∙ ap (λ (b : Bits). take n line_on ++ b) there in
          let short : length (take n line_on) ≡ n = length-take-le n line_on
          (omega (arith, length-drop from bits, local.one.1, local.one.2, local.within)) in
          absurd (not_within [] rest is.0 line_on refl is.1 e (omega (arith, first_one, short, local.one.1, local.one.2)))

  pub next_line_is : past 0 line_on ≡ Some after
  next_line_is = ap (past 0) cut ∙ past_before 0 body eol_on after none_in_body local.eol

-- the next EOL is the same after a line that is broken or ends before its last twelve bits
pub line_past_of : (line : Line) (here after : Bits) → LineLeaves here line → past 0 here ≡ Some after
    → ((row : Row) (rest : Bits) → line ≡ Line.whole row rest → length after + 12 ≤ length rest)
    → past 0 (rest_of line here) ≡ Some after
line_past_of (Line.whole row rest) here after leaves next stays =
    past_later 0 leaves.0 rest after (ap (past 0) (sym leaves.1) ∙ next) (stays row rest refl)
line_past_of (Line.broken front fault) here after leaves next stays = next

pub line_past_by : (settings : DecodeSettings) (reference : Row) (here after : Bits) → past 0 here ≡ Some after
    → ((row : Row) (rest : Bits) → line_here settings reference here ≡ Line.whole row rest → length after + 12 ≤ length rest)
    → past 0 (rest_of (line_here settings reference here) here) ≡ Some after
line_past_by settings reference here after next stays = grind (arith, common_steps, line_past_of, line_by_leaves)

-- ---- One-dimensional data

-- the body of a one-dimensional line
pub body_1d : (settings : DecodeSettings) (bits : Bits) (from to : ℕ) (local : IsLocal settings bits from to)
    → IsBody bits from to local.closes.0
body_1d settings bits from to local = grind (arith, common_steps)

-- there is a line where it begins
pub line_in_1d : (settings : DecodeSettings) (bits : Bits) (from to : ℕ) (local : IsLocal settings bits from to)
    → IsLineIn settings bits (drop from bits) local.closes.0
line_in_1d settings bits from to local = let body = body_1d settings bits from to local in record {
  group3 = inl local.encoding;
  lenient = local.lenient;
  none = no_eol_here bits from to local.closes.0 body;
  next = next_line_is bits from to local.closes.0 body;
  tag = λ e. absurd (let f = local.encoding in cc);
  few = λ e. absurd (let f = local.encoding in cc);
}

-- the next EOL after its line is the one after it
pub stays_1d : (settings : DecodeSettings) (bits : Bits) (from to : ℕ) (local : IsLocal settings bits from to) (reference : Row)
    → past 0 (rest_of (line_here settings reference (drop from bits)) (drop from bits)) ≡ Some local.closes.0
stays_1d settings bits from to local reference = line_past_by settings reference (drop from bits) local.closes.0
    (next_line_is bits from to local.closes.0 (body_1d settings bits from to local)) (λ row rest e. local.closes.2 row rest
    (sym (sought_line_is settings local.encoding local.lenient reference (drop from bits)) ∙ e))

-- ---- Two-dimensional data

-- the tag and the body of a line of two-dimensional data
body_2d : (settings : DecodeSettings) (bits : Bits) (from to : ℕ) (local : IsTaggedBody settings bits from to)
    → IsBody bits from to local.closes.0
body_2d settings bits from to local = grind (arith, common_steps)

-- there is a line where it begins
pub line_in_2d : (settings : DecodeSettings) (bits : Bits) (from to : ℕ) → settings.encoding ≡ Group3_2D → settings.strict ≡ false
    → (local : IsTaggedBody settings bits from to) → IsLineIn settings bits (drop from bits) local.closes.0
line_in_2d settings bits from to encoding lenient local = let body = body_2d settings bits from to local in record {
  group3 = inr encoding;
  lenient = lenient;
  none = no_eol_here bits from to local.closes.0 body;
  next = next_line_is bits from to local.closes.0 body;
  tag = λ e. by_drop (drop from bits) refl;
  few = λ e found count leaves f. local.tag (length leaves.0) count
      (ap all_tagged (drop_at bits leaves.0 found (length leaves.0) leaves.1 refl) ∙ f);
}
  where
    none : after_eol 0 (drop (suc from) bits) ≡ None
    none = no_eol_here bits (suc from) to local.closes.0 (grind (arith, common_steps))

    by_drop : (here : Bits) → drop from bits ≡ here → past_tag here ≡ here
    by_drop [] e = refl
    by_drop (false ∷ here) e = refl
    by_drop (true ∷ here) e = grind (arith, common_steps, drop-drop 1 from bits, none)

-- the next EOL after its line, as it is read, is the one after it
pub stays_2d : (settings : DecodeSettings) (bits : Bits) (from to : ℕ) (local : IsTaggedBody settings bits from to)
    (rows : List Row) → Reaches (move_on settings) (first_line settings bits) (sought rows (drop from bits))
    → past 0 (rest_of (line_of_turn settings (sought rows (drop from bits))) (drop from bits)) ≡ Some local.closes.0
stays_2d settings bits from to local rows reached = line_past_by settings (row_before settings.columns rows)
    (drop from bits) local.closes.0 (next_line_is bits from to local.closes.0 (body_2d settings bits from to local))
    (λ row rest e. local.closes.2 (sought rows (drop from bits)) reached refl row rest e)
