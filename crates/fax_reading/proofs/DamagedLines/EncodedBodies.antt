-- The lines of an encoding with EOLs are bodies that damage may change.
use Rattle.fax_reading.proofs.Names.{DecodeSettings, length-append, EncodesLine1D, EncodesLine2D, IsTaggedBody, common_steps, suc}
use Rattle.fax_reading.proofs.Names.{EncodedLinesAreBodies, EncodesRowsWithEols, length-replicate, take-append-drop, append_assoc}
use Rattle.fax_reading.proofs.Names.{None, refl, ◌+◌, ◌-◌, ◌<◌, ◌≤◌, ◌∷◌, sym, ◌∙◌, ◌⊎◌, inl, inr, Row, eol, ◌≡◌, [], ap, ℕ}
use Rattle.fax_reading.proofs.Names.{length-drop, IsTagOfLine, EncodesLine, append-nil, Horizontal, row_before, Group3_2D, lt-leb}
use Rattle.fax_reading.proofs.Names.{line_here, HaveWidth, after_eol, replicate, drop-drop, Vertical, opposite, one_more, left_of}
use Rattle.fax_reading.proofs.Names.{past_tag, cases_lt, All-head, All-tail, le-leb, IsWord, Spells, Option, length, IsEol, false}
use Rattle.fax_reading.proofs.Names.{subst, arith, Color, White, Pass, Line, Bits, zero, Bool, true, List, ◌++◌, take, drop, Some}
use Rattle.std.proofs.Math.Seq.{drop-append_seam}
use Rattle.fax_bits.proofs.BitReading.ConsecutiveEols.{after_eol_shorter, past_tag_shorter, all_tagged-some, all_tagged-none}
use Rattle.fax_bits.proofs.BitReading.{ZerosInWords.holds_a_one, ZerosInWords.word_one, ConsecutiveEols.all_tagged}
use Rattle.fax_reading.proofs.DamagedLines.AnyReference.{quiet_append, leaves_next, quiet_line, quiet_run, scan_past, Quiet}
use Rattle.fax_reading.proofs.DamagedLines.LineTails.{after_eol_more, past_before, first_one, drop_at}
use Rattle.fax_reading.proofs.DamagedLines.{PastEol.after_eol_is, PastEol.past-eol, PastEol.past, EolsAlike.one_tagged}
use Rattle.fax_reading.proofs.DrawingLines.LinesLeaveBits.{leaves_trans, LeavesBits}
use Rattle.fax_reading.proofs.EncodedPictures.{EncodedLines.line_1d_again, PicturesT4.eol_stands}
use Rattle.fax_reading.proofs.KeptRows.TurnsLeave.{past_tag_leaves}

-- ---- Suffixes

-- a suffix of two lists is one of the second, or ends with it
suffix_of : (a b c : Bits) → LeavesBits (a ++ b) c → LeavesBits b c ⊎ ((more : Bits) × (c ≡ more ++ b))
suffix_of [] b c leaves = inl leaves
suffix_of (x ∷ a) b c ([], e) = inr (x ∷ a, sym e)
suffix_of (x ∷ a) b c (y ∷ before, e) = suffix_of a b c (before, cc)

-- a suffix that is long enough ends with the second
suffix_ends_with : (a b c : Bits) → LeavesBits (a ++ b) c → length b ≤ length c → (more : Bits) × (c ≡ more ++ b)
suffix_ends_with a b c leaves le = grind (arith, common_steps, suffix_of a b c leaves, length-append)

-- ---- EOLs in order

-- the next EOL ends first
past_first : (seen : ℕ) (before here rest next : Bits) → after_eol 0 here ≡ Some rest → past seen (before ++ here) ≡ Some next
    → length rest ≤ length next
past_first seen [] here rest next e f = grind (arith, common_steps, past-eol, after_eol_more)
past_first seen (false ∷ before) here rest next e f = past_first (suc seen) before here rest next e f
past_first seen (true ∷ before) here rest next e f =
    grind (arith, past_first 0 before here rest next e, cases_lt, lt-leb, le-leb, length-append, after_eol_shorter)

-- the last two of consecutive EOLs
last_two : (n count : ℕ) (here last : Bits) → length here < n → all_tagged here ≡ (suc (suc count), last)
    → (found rest : Bits) × LeavesBits here found × (after_eol 0 found ≡ Some rest) × (after_eol 0 (past_tag rest) ≡ Some last)
last_two zero count here last lt e = absurd (omega arith)
last_two (suc n) count here last lt e =
    by_after_eol (λ c next small. last_two n c next last small) count e (after_eol 0 here) refl
  where
    Two : Bits → Type 0
    Two start = (found rest : Bits) × LeavesBits start found × (after_eol 0 found ≡ Some rest)
        × (after_eol 0 (past_tag rest) ≡ Some last)

    by_after_eol : ((c : ℕ) (next : Bits) → length next < n → all_tagged next ≡ (suc (suc c), last) → Two next) → (count : ℕ)
        → all_tagged here ≡ (suc (suc count), last) → (o : Option Bits) → after_eol 0 here ≡ o → Two here
    by_after_eol on count e None f = grind (arith, common_steps, all_tagged-none)
    by_after_eol on zero e (Some rest) f =
        grind (arith, common_steps, all_tagged-some here rest f, one_tagged (past_tag rest) last)
    by_after_eol on (suc count) e (Some rest) f =
        let g : one_more (all_tagged (past_tag rest)) ≡ (suc (suc (suc count)), last) = sym (all_tagged-some here rest f) ∙ e in
        let more : all_tagged (past_tag rest) ≡ (suc (suc count), last) = grind (arith, common_steps) in
        let two = on count (past_tag rest) (omega (arith, lt, after_eol_shorter 0 here rest f, past_tag_shorter rest)) more in
        let is = after_eol_is 0 here rest f in
        grind (
          arith,
          common_steps,
          append_assoc (replicate is.0 false) (true ∷ []) rest,
          leaves_trans here rest two.0,
          leaves_trans rest (past_tag rest) two.0 (past_tag_leaves rest) two.2,
          past_tag_leaves rest,
        )

-- ---- One EOL is counted before a line that comes after a line

-- a one among the bits
abbrev pub HoldsOne : Bits → Type 0
HoldsOne bits = (before after : Bits) × (bits ≡ before ++ true ∷ after)

module _ (front words next : Bits) (tag : Bool) (fill : ℕ) (quiet : Quiet words) (one : HoldsOne words) where
  -- the bits after the tag of the line before
  abbrev after : Bits
  after = words ++ (eol fill ++ next)

  next_is : past 0 (tag ∷ after) ≡ Some next
  next_is = grind (arith, common_steps, past_before, eol_stands, scan_past)

  -- two consecutive EOLs don't end there
  not_two : (found rest : Bits) → LeavesBits (front ++ true ∷ (tag ∷ after)) found → after_eol 0 found ≡ Some rest
      → after_eol 0 (past_tag rest) ≡ Some next → ⊥
  not_two found rest leaves e f = in_each_case (suffix_of front (true ∷ (tag ∷ after)) found leaves)
    where
      longer : length next < length rest
      longer = omega (arith, after_eol_shorter 0 (past_tag rest) next f, past_tag_shorter rest)

      in_each_case : LeavesBits (true ∷ (tag ∷ after)) found ⊎ ((more : Bits) × (found ≡ more ++ true ∷ (tag ∷ after))) → ⊥
      in_each_case (inl (before, split)) =
          omega (arith, longer, past_first 0 before found rest next e (ap (past 0) (sym split) ∙ next_is))
      in_each_case (inr (more, split)) = let zeros = after_eol_is 0 found rest e in
          let first = first_one zeros.0 rest more (tag ∷ after) (sym zeros.1 ∙ split) in
          let sizes : zeros.0 + suc (length rest) ≡ length more + suc (length (tag ∷ after)) = omega (
            arith,
            ap length zeros.1,
            ap length split,
            length-append (replicate zeros.0 false) (true ∷ rest),
            length-replicate zeros.0 false,
            length-append more (true ∷ (tag ∷ after)),
          ) in
          let after_found : LeavesBits found rest =
          (replicate zeros.0 false ++ true ∷ [], zeros.1 ∙ sym (append_assoc (replicate zeros.0 false) (true ∷ []) rest)) in
          let in_both : LeavesBits ((more ++ true ∷ tag ∷ []) ++ after) rest = grind (arith, common_steps, append_assoc) in
          let tagged : LeavesBits ((more ++ true ∷ tag ∷ []) ++ after)
          (past_tag rest) = leaves_trans _ rest (past_tag rest) in_both (past_tag_leaves rest) in
          let covered = suffix_ends_with (more ++ true ∷ tag ∷ []) after (past_tag rest) tagged
          (grind (arith, common_steps, sizes, first)) in
          let others = after_eol_is 0 (past_tag rest) next f in
          grind (
            arith,
            common_steps,
            append_assoc one.0 (true ∷ one.1) (eol fill ++ next),
            append_assoc covered.0 one.0 (true ∷ (one.1 ++ (eol fill ++ next))),
            first_one others.0 next (covered.0 ++ one.0) (one.1 ++ (eol fill ++ next)),
            length-append (replicate others.0 false) (true ∷ next),
            length-append (covered.0 ++ one.0) (true ∷ (one.1 ++ (eol fill ++ next))),
            length-append one.1 (eol fill ++ next),
            length-append (eol fill) next,
            length-append (replicate (11 + fill) false) (true ∷ []),
            length-replicate others.0 false,
          )

  -- so the tag there isn't that of RTC
  pub few_before : (here : Bits) (count : ℕ) → LeavesBits (front ++ true ∷ (tag ∷ after)) here → all_tagged here ≡ (count, next)
      → count < 6
  few_before here zero leaves e = omega arith
  few_before here (suc zero) leaves e = omega arith
  few_before here (suc (suc count)) leaves e = let two = last_two (suc (length here)) count here next (omega arith) e in
      absurd (not_two two.0 two.1 (leaves_trans _ here two.0 leaves two.2) two.3 two.4)

-- ---- Lines of an encoding

-- a list that holds a one holds it somewhere
one_at : (bits : Bits) → holds_a_one bits ≡ true → HoldsOne bits
one_at [] e = absurd cc
one_at (true ∷ bits) e = ([], bits, refl)
one_at (false ∷ bits) e = let more = one_at bits e in (false ∷ more.0, more.1, ap (λ (b : Bits). false ∷ b) more.2)

-- so do these bits with what follows them
one_more_bits : (word more : Bits) → HoldsOne word → HoldsOne (word ++ more)
one_more_bits word more one = (one.0, one.1 ++ more, ap (λ (b : Bits). b ++ more) one.2 ∙ append_assoc one.0 (true ∷ one.1) more)

word_holds : (word : Bits) → IsWord word → HoldsOne word
word_holds word is = one_at word (word_one word is)

run_holds : (color : Color) (n : ℕ) (bits : Bits) → Spells color n bits → HoldsOne bits
run_holds color n bits (Spells.terminating m word has small) = word_holds bits (inl (color, n, has))
run_holds color n bits (Spells.makeup m word {n = k} {bits = next} has large rest) = one_more_bits word next
    (word_holds word (inl (color, m, has)))

-- the words of a one-dimensional line
pub quiet_1d : (color : Color) (row : Row) (bits : Bits) → EncodesLine1D color row bits → Quiet bits
quiet_1d color row bits EncodesLine1D.over = λ n le. (n, refl, le)
quiet_1d color row bits (EncodesLine1D.run n word {row = others} {bits = next} spells some maximal rest) =
    quiet_append word next (quiet_run color n word spells) (quiet_1d (opposite color) others next rest)

holds_1d : (color : Color) (row : Row) (bits : Bits) → EncodesLine1D color row bits → 0 < length row → HoldsOne bits
holds_1d color row bits e4 some = grind (arith, common_steps, one_more_bits, run_holds)

-- those of a two-dimensional one
holds_2d : (reference row : Row) (from : ℕ) (color : Color) (bits : Bits) → EncodesLine2D reference row from color bits
    → from ≤ length row → HoldsOne bits
holds_2d reference row from color bits EncodesLine2D.over le = absurd (omega arith)
holds_2d reference row from color bits (EncodesLine2D.pass from2 word {bits = next} inside has left_of steps) le =
    one_more_bits word next (word_holds word (inr (Pass, has)))
holds_2d reference row from color bits (EncodesLine2D.vertical from2 word k {bits = next} inside has exact steps) le =
    one_more_bits word next (word_holds word (inr (Vertical k, has)))
holds_2d reference row from color bits (EncodesLine2D.horizontal from2 word {first = run1} {second = run2} {bits = next} inside
    has spells1 spells2 steps) le = one_more_bits word (run1 ++ (run2 ++ next)) (word_holds word (inr (Horizontal, has)))

-- a tag, and words after it
pub record IsTagged (line : Bits) : Type 0 where
  pub tag : Bool
  pub words : Bits
  pub is : line ≡ tag ∷ words
  pub quiet : Quiet words
  pub one : HoldsOne words

tagged : (above row : Row) (line : Bits) → EncodesLine Group3_2D above row line → 0 < length row → IsTagged line
tagged above row line (words, inl (is, encodes)) some =
    grind (arith, common_steps, quiet_1d White row words encodes, holds_1d White row words encodes some)
tagged above row line (words, inr (is, encodes)) some = grind
    (arith, common_steps, quiet_line above row 0 White words encodes, holds_2d above row 0 White words encodes (omega arith))

-- the last of some lines, each with an EOL before it
abbrev LastLine : Bits → Type 0
LastLine bits = (before line : Bits) × (fill : ℕ) × (bits ≡ before ++ (eol fill ++ line)) × IsTagged line

last_line : (columns : ℕ) (reference : Row) (rows : List Row) (bits : Bits) → 0 < columns → HaveWidth columns rows
    → EncodesRowsWithEols Group3_2D reference rows bits → (bits ≡ []) ⊎ LastLine bits
last_line columns reference [] bits wide widths is = inl is
last_line columns reference (row ∷ rows) bits wide widths (fill, line, next, encodes, more, split) =
    in_each_case (last_line columns row rows next wide (All-tail (λ row. length row ≡ columns) row rows widths) more)
  where
    some : 0 < length row
    some = omega (arith, wide, All-head (λ row. length row ≡ columns) row rows widths)

    in_each_case : (next ≡ []) ⊎ LastLine next → (bits ≡ []) ⊎ LastLine bits
    in_each_case (inl e) = inr ([], line, fill, grind (arith, append_assoc, append-nil), tagged reference row line encodes some)
    in_each_case (inr (before, last, fill2, e, is)) = inr (
      eol fill ++ (line ++ before),
      last,
      fill2,
      split ∙ append_assoc (eol fill) line next ∙ ap (λ (b : Bits). eol fill ++ (line ++ b)) e ∙ simp append_assoc,
      is,
    )

-- ---- The law
module _ (settings : DecodeSettings) (encoding : settings.encoding ≡ Group3_2D) (lenient : settings.strict ≡ false)
    (small : settings.columns ≤ 4294967295)
    (above row : Row) (front line next after : Bits) (fill : ℕ) (width : length row ≡ settings.columns)
    (encodes : EncodesLine Group3_2D above row line) (is : IsTagged line) (eol_next : after_eol 0 next ≡ Some after) where
  abbrev whole : Bits
  whole = (front ++ eol fill) ++ (line ++ next)

  abbrev from : ℕ
  from = length (front ++ eol fill)

  abbrev to : ℕ
  to = from + length line

  line_on : drop from whole ≡ line ++ next
  line_on = drop-append_seam (front ++ eol fill) (line ++ next)

  -- the next EOL after its start
  next_from : past 0 (line ++ next) ≡ Some after
  next_from = grind (arith, common_steps, past_before, scan_past)

  longer : length after + 12 ≤ length next
  longer = grind (arith, common_steps, after_eol_is, length-append, length-replicate)

  no_eol_in : (place end : ℕ) → from ≤ place → end ≤ to → IsEol whole place end → ⊥
  no_eol_in place end le le2 (lt, within, stands) = grind (
    arith,
    common_steps,
    line_on,
    drop-drop (place - from) from whole,
    past_first 0 (take (place - from) (line ++ next)) (drop (place - from) (line ++ next)) (drop end whole) after,
    take-append-drop (place - from) (line ++ next),
    next_from,
    longer,
    length-drop end whole,
    length-append (front ++ eol fill) (line ++ next),
    length-append line next,
  )

  read_before : (other read : Row) (rest : Bits) → line_here settings other (line ++ next) ≡ Line.whole read rest
      → length after + 12 ≤ length rest
  read_before other read rest e = by_premise encodes
    where
      by_premise : EncodesLine Group3_2D above row line → length after + 12 ≤ length rest
      by_premise (words, inl (line_is, encodes)) = grind
          (arith, common_steps, line_1d_again settings.strict settings.columns [] row White words next encodes small, longer)
      by_premise (words, inr (line_is, encodes)) = omega (
        arith,
        longer,
        leaves_next settings encoding other above row words next after encodes eol_next read rest
            (ap (λ (b : Bits). line_here settings other (b ++ next)) (sym line_is) ∙ e),
      )

  -- so it is such a body, if the tag is a line's
  body : IsTagOfLine whole from → IsTaggedBody settings whole from to
  body few = record {
    within = omega (arith, length-append (front ++ eol fill) (line ++ next), length-append line next);
    starts = inr (length front, (omega (arith, sizes), omega (arith, length-append (front ++ eol fill) (line ++ next)), stands));
    tag = few;
    one = grind (arith, length-append, one_there);
    no_eol = no_eol_in;
    closes = (
      after,
      ap (after_eol 0) (drop_at whole ((front ++ eol fill) ++ line) next to (sym (append_assoc (front ++ eol fill) line next))
          (length-append (front ++ eol fill) line)) ∙ eol_next,
      λ so_far reached here read rest e. read_before (row_before settings.columns so_far.rows) read rest
          (ap (line_here settings (row_before settings.columns so_far.rows)) (sym (here ∙ line_on)) ∙ e),
    );
  }
    where
      sizes : from ≡ length front + (12 + fill)
      sizes = grind (arith, common_steps, length-append, length-replicate)

      stands : after_eol 0 (drop (length front) whole) ≡ Some (drop from whole)
      stands = grind (arith, common_steps, append_assoc, drop-append_seam, eol_stands, line_on)

      line_is : line ++ next ≡ (is.tag ∷ is.one.0) ++ true ∷ (is.one.1 ++ next)
      line_is = grind (arith, common_steps, append_assoc)

      one_there : drop (from + (1 + length is.one.0)) whole ≡ true ∷ (is.one.1 ++ next)
      one_there = sym (drop-drop (1 + length is.one.0) from whole) ∙ ap (drop (1 + length is.one.0)) line_on
          ∙ drop_at (line ++ next) (is.tag ∷ is.one.0) (true ∷ (is.one.1 ++ next)) (1 + length is.one.0) line_is (omega arith)

-- the tag after lines of an encoding is a line's
few_tags : (front line : Bits) (fill : ℕ) → (front ≡ []) ⊎ LastLine front → (here : Bits) (count : ℕ)
    → LeavesBits ((front ++ eol fill) ++ line) here → all_tagged here ≡ (count, line) → count < 6
few_tags front line fill (inl none) here count leaves e = by_count count e
  where
    first : LeavesBits (eol fill ++ line) here
    first = subst (λ (b : Bits). LeavesBits ((b ++ eol fill) ++ line) here) none leaves

    by_count : (count : ℕ) → all_tagged here ≡ (count, line) → count < 6
    by_count zero e = omega arith
    by_count (suc zero) e = omega arith
    by_count (suc (suc count)) e = let two = last_two (suc (length here)) count here line (omega arith) e in
        let at = leaves_trans (eol fill ++ line) here two.0 first two.2 in
        let next : past 0 (at.0 ++ two.0) ≡ Some line = grind (arith, past-eol, eol_stands) in
        absurd (omega (
          arith,
          past_first 0 at.0 two.0 two.1 line two.3 next,
          after_eol_shorter 0 (past_tag two.1) line two.4,
          past_tag_shorter two.1,
        ))
few_tags front line fill (inr (before, last, fill2, split, is)) here count leaves e = few_before (before ++ replicate (11 + fill2)
    false) is.words line is.tag fill is.quiet is.one here count (subst (λ (b : Bits). LeavesBits b here) same leaves) e
  where
    same : (front ++ eol fill) ++ line ≡ (before ++ replicate (11 + fill2) false)
        ++ true ∷ (is.tag ∷ (is.words ++ (eol fill ++ line)))
    same = grind (arith, common_steps, append_assoc)

-- the law
pub encoded_lines_are_bodies : EncodedLinesAreBodies
encoded_lines_are_bodies settings reference above row rows front line next fill are encoding lenient picture lines encodes
    (after, eol_next) = let width = All-head (λ row. length row ≡ settings.columns) row rows picture.1 in
    let widths = All-tail (λ row. length row ≡ settings.columns) row rows picture.1 in
    let is = tagged above row line encodes (omega (arith, width, picture.0)) in
    let last = last_line settings.columns reference rows front picture.0 widths lines in
    body settings encoding lenient (omega (arith, are.columns)) above row front line next after fill width encodes is eol_next
    (λ place count e. few_tags front (line ++ next) fill last (drop place ((front ++ eol fill) ++ (line ++ next))) count
    (take place ((front ++ eol fill) ++ (line ++ next)), sym (take-append-drop place ((front ++ eol fill) ++ (line ++ next)))) (e
    ∙ ap (λ (b : Bits). (count, b)) (drop-append_seam (front ++ eol fill) (line ++ next))))
