-- Bits before a line of Group 3: EOLs and lines among them are the same whatever that line is.
use Rattle.fax_reading.proofs.Names.{DecodeSettings, eols_with_tags, length-append, pass_last_tag, append_assoc, EncodingMode, []}
use Rattle.fax_reading.proofs.Names.{common_steps, line_before, row_before, replicate, Group3_1D, Group3_2D, after_eol, eols_here}
use Rattle.fax_reading.proofs.Names.{length, Option, lt-leb, Group4, at_end, row_of, false, arith, subst, zero, Bool, true, cond}
use Rattle.fax_reading.proofs.Names.{limit_met, line_here, all_eols, past_tag, is_short, one_more, repaired, eols_by, move_on, ap}
use Rattle.fax_reading.proofs.Names.{◌++◌, Some, None, refl, List, Bits, Line, eols, ◌≡◌, suc, ◌<◌, ◌≤◌, leb, ◌∷◌, sym, ◌∙◌, ◌⊎◌}
use Rattle.fax_bits.proofs.BitReading.ConsecutiveEols.{after_eol_shorter, last_tag_shorter, all_tagged-some, length-one_more}
use Rattle.fax_bits.proofs.BitReading.ConsecutiveEols.{count_past, count_same, all_tagged, CountsEols, count_some, eols-some}
use Rattle.fax_bits.proofs.BitReading.ConsecutiveEols.{last_tag_count, count_all-some, counts_tagged, count_shorter, counts_plain}
use Rattle.fax_reading.proofs.Continuations.{LinesContinued.line_settled, ShortLines.zeros_end_line}
use Rattle.fax_reading.proofs.DamagedLines.PastEol.{next_eol_leaves, after_eol_is, past_shorter, past-front, past}
use Rattle.fax_reading.proofs.DamagedLines.PastEol.{eols_here_same, not_past_end, move_sought, found_next, row_past, rest_of}
use Rattle.fax_reading.proofs.DrawingLines.LinesLeaveBits.{line_by_leaves, leaves_trans, LeavesBits, LineLeaves}
use Rattle.fax_reading.proofs.EncodedPictures.PicturesT4.{eols_here_one, eols_here_two}
use Rattle.fax_reading.proofs.GapsContinued.ContinuedEols.{count_then_more, after_eol-more, then_more}
use Rattle.fax_reading.proofs.{KeptRows.TurnsLeave.eols_leave_bits, Names.inl, Names.inr, Names.Row, Names.ℕ}
use Rattle.fax_reading.proofs.{Readings.RowsAndGaps.unless_over, Readings.RowsAndGaps.after_row, DamagedLines.PastEol.sought}
use Rattle.fax_reading.specs.GapsContinued.{holds_one}

-- bits before a line: none, or they end with a one after at least so many zeros
abbrev pub EndsByOne : ℕ → Bits → Type 0
EndsByOne n bits = (bits ≡ []) ⊎ ((first : Bits) × (bits ≡ first ++ (replicate n false ++ true ∷ [])))

-- bits that end with an EOL
abbrev pub Closes : Bits → Type 0
Closes bits = (first : Bits) × (bits ≡ first ++ (replicate 11 false ++ true ∷ []))

last_one : (n : ℕ) (before after : Bits) → replicate n false ++ true ∷ [] ≡ before ++ true ∷ after → after ≡ []
last_one zero [] after e = cc
last_one zero (b ∷ before) after e = absurd (omega (arith, ap length e, length-append before (true ∷ after)))
last_one (suc n) [] after e = absurd cc
last_one (suc n) (b ∷ before) after e = grind (arith, last_one n before after)

ends_after : (n : ℕ) (first before after : Bits) → first ++ (replicate n false ++ true ∷ []) ≡ before ++ true ∷ after
    → EndsByOne n after
ends_after n [] before after e = inl (last_one n before after e)
ends_after n (b ∷ first) [] after e = inr (first, cc)
ends_after n (b ∷ first) (c ∷ before) after e = grind (arith, ends_after n first before after)

-- after a one they end so too
pub still_ends : (n : ℕ) (bits before after : Bits) → EndsByOne n bits → bits ≡ before ++ true ∷ after → EndsByOne n after
still_ends n bits before after (inl none) e =
    absurd (omega (arith, ap length (sym none ∙ e), length-append before (true ∷ after)))
still_ends n bits before after (inr (first, is)) e = ends_after n first before after (sym is ∙ e)

-- the last of them end with a one
pub ends_last : (before left first : Bits) → before ++ left ≡ first ++ true ∷ [] → EndsByOne 0 left
ends_last [] left first e = inr (first, e)
ends_last (b ∷ before) [] first e = inl refl
ends_last (b ∷ before) (c ∷ left) [] e = absurd (omega (arith, ap length e, length-append before (c ∷ left)))
ends_last (b ∷ before) (c ∷ left) (d ∷ first) e = grind (arith, ends_last before (c ∷ left) first)

pub one_among : (before after : Bits) → holds_one (before ++ true ∷ after) ≡ true
one_among [] after = refl
one_among (bit ∷ before) after = grind (arith, common_steps, one_among before after)

-- a suffix isn't longer
pub leaves_length : (bits rest : Bits) → LeavesBits bits rest → length rest ≤ length bits
leaves_length bits rest leaves = omega (arith, ap length leaves.1, length-append leaves.0 rest)

-- the tag after fewer than six EOLs stays
pub last_tag_few : (count : ℕ) (here : Bits) → count < 6 → pass_last_tag (count, here) ≡ (count, here)
last_tag_few count here few = grind (arith, lt-leb)

-- where no EOL ends among them, the next one is the next from the line on
pub past_last : (seen : ℕ) (first z : Bits) → past seen (first ++ true ∷ []) ≡ None → past seen (first ++ true ∷ z) ≡ past 0 z
past_last seen [] z e = grind (arith, common_steps)
past_last seen (false ∷ first) z e = past_last (suc seen) first z e
past_last seen (true ∷ first) z e = grind (arith, common_steps, past_last 0 first z)

pub past_ends : (left z : Bits) → EndsByOne 0 left → past 0 left ≡ None → past 0 (left ++ z) ≡ past 0 z
past_ends left z given e = grind (arith, common_steps, past, append_assoc, past_last)

-- ---- EOLs, where none begins at the line

module _ (n : ℕ) (z : Bits) (none : after_eol 0 z ≡ None) where
  eol_kept : (here : Bits) → EndsByOne n here → after_eol 0 (here ++ z) ≡ then_more z (after_eol 0 here)
  eol_kept here (inl is) = rw is none
  eol_kept here (inr (first, is)) = after_eol-more z 0 here
      (ap holds_one (is ∙ sym (append_assoc first (replicate n false) (true ∷ []))) ∙ one_among (first ++ replicate n false) [])

  -- what is counted is counted among the bits before it, and they end so after that
  abbrev Kept : ℕ × Bits → ℕ × Bits → Type 0
  Kept found whole = (whole ≡ count_then_more z found) × EndsByOne n found.1

  one_more_kept : (found : ℕ × Bits) → EndsByOne n found.1 → Kept (one_more found) (one_more (count_then_more z found))
  one_more_kept (count, rest) ends = (refl, ends)

  module _ {pass : Bits → Bits} {count : ℕ → Bits → ℕ × Bits} (counts : CountsEols pass count)
      (passes : (here : Bits) → EndsByOne n here → (pass (here ++ z) ≡ pass here ++ z) × EndsByOne n (pass here)) where
    count_kept : (most : ℕ) (here : Bits) → EndsByOne n here → Kept (count most here) (count most (here ++ z))
    count_kept zero here ends = rw (counts.start here, counts.start (here ++ z)) (refl, ends)
    count_kept (suc most) here ends = by_after_eol (λ rest after. count_kept most rest after) (after_eol 0 here) refl
      where
        by_after_eol : ((rest : Bits) → EndsByOne n rest → Kept (count most rest) (count most (rest ++ z))) → (o : Option Bits)
            → after_eol 0 here ≡ o → Kept (count (suc most) here) (count (suc most) (here ++ z))
        by_after_eol on None e = grind (arith, common_steps, eol_kept, then_more)
        by_after_eol on (Some rest) e = let is = after_eol_is 0 here rest e in
            let after = passes rest (still_ends n here (replicate is.0 false) rest ends is.1) in
            let more = on (pass rest) after.1 in
            rw (
              counts.some most here rest e,
              counts.some most (here ++ z) (rest ++ z) (eol_kept here ends ∙ ap (then_more z) e),
              after.0,
              more.0,
            ) (one_more_kept (count most (pass rest)) more.1)

    all_kept : (here : Bits) → EndsByOne n here → Kept (count (length here) here) (count (length (here ++ z)) (here ++ z))
    all_kept here ends = subst (λ (found : ℕ × Bits). Kept found (count (length (here ++ z)) (here ++ z)))
        (count_same counts (length (here ++ z)) (length here) here (omega (arith, length-append here z)) (omega arith))
        (count_kept (length (here ++ z)) here ends)

  pub all_eols_kept : (here : Bits) → EndsByOne n here → Kept (all_eols here) (all_eols (here ++ z))
  all_eols_kept here ends = all_kept counts_plain (λ bits same. (refl, same)) here ends

  past_tag_kept : past_tag z ≡ z → (here : Bits) → EndsByOne n here
      → (past_tag (here ++ z) ≡ past_tag here ++ z) × EndsByOne n (past_tag here)
  past_tag_kept tag [] ends = (tag, ends)
  past_tag_kept tag (false ∷ here) ends = (refl, ends)
  past_tag_kept tag (true ∷ here) ends = by_after_eol (after_eol 0 here) refl
    where
      after : EndsByOne n here
      after = still_ends n (true ∷ here) [] here ends refl

      by_after_eol : (o : Option Bits) → after_eol 0 here ≡ o
          → (past_tag (true ∷ here ++ z) ≡ past_tag (true ∷ here) ++ z) × EndsByOne n (past_tag (true ∷ here))
      by_after_eol v0 e = grind (arith, common_steps, eol_kept, then_more, after)

  last_tag_kept : (found : ℕ × Bits) → EndsByOne n found.1 → (found.1 ≡ [] → found.0 < 6)
      → Kept (pass_last_tag found) (pass_last_tag (count_then_more z found))
  last_tag_kept (m, []) ends few = (last_tag_few m z (few refl), ends)
  last_tag_kept (m, false ∷ rest) ends few = (refl, ends)
  last_tag_kept (m, true ∷ rest) ends few = either_way (leb 6 m)
    where
      either_way : (b : Bool) → Kept (cond b (m, rest) (m, true ∷ rest)) (cond b (m, rest ++ z) (m, true ∷ rest ++ z))
      either_way true = (refl, still_ends n (true ∷ rest) [] rest ends refl)
      either_way false = (refl, ends)

-- ---- A line at which none begins

-- an encoding of Group 3
abbrev pub IsGroup3 : EncodingMode → Type 0
IsGroup3 encoding = (encoding ≡ Group3_1D) ⊎ (encoding ≡ Group3_2D)

-- Here a line begins in lenient data of Group 3: there is no EOL there, also after a tag if it has one; after the next EOL are
-- some bits; and the tag there isn't that of RTC.
pub record IsLineIn (settings : DecodeSettings) (whole z after : Bits) : Type 0 where
  pub group3 : IsGroup3 settings.encoding
  pub lenient : settings.strict ≡ false
  pub none : after_eol 0 z ≡ None
  pub next : past 0 z ≡ Some after
  pub tag : settings.encoding ≡ Group3_2D → past_tag z ≡ z
  pub few : settings.encoding ≡ Group3_2D → (found : Bits) (count : ℕ) → LeavesBits whole found → all_tagged found ≡ (count, z)
      → count < 6

-- counting EOLs consumes the first
pub eols_past : (settings : DecodeSettings) (here rest : Bits) → after_eol 0 here ≡ Some rest
    → length (eols_here settings here).1 ≤ length rest
eols_past settings here rest e = by_encoding settings.encoding settings.end_of_block
  where
    by_encoding : (encoding : EncodingMode) (block : Bool) → length (eols_by encoding block here).1 ≤ length rest
    by_encoding Group3_1D block = count_past counts_plain here rest e
    by_encoding Group3_2D block = omega
        (arith, last_tag_shorter (eols_with_tags (length here) here), count_past counts_tagged here rest e)
    by_encoding Group4 true = rw (eols-some 1 here rest e)
        (omega (arith, length-one_more (eols 1 rest), count_shorter counts_plain 1 rest))
    by_encoding Group4 false = count_past counts_plain here rest e

-- ---- One EOL alone

one_is_none : (rest : Bits) (found : ℕ × Bits) → one_more found ≡ (1, rest) → found ≡ (0, rest)
one_is_none rest (count, left) e = grind (arith, common_steps)

module _ {pass : Bits → Bits} {count : ℕ → Bits → ℕ × Bits} (counts : CountsEols pass count) where
  none_left : (rest line : Bits) → count (length rest) rest ≡ (0, line) → (rest ≡ line) × (after_eol 0 rest ≡ None)
  none_left rest line e = grind (arith, common_steps, count_some)

  one_left : (here line : Bits) → count (length here) here ≡ (1, line) → (rest : Bits) × (after_eol 0 here ≡ Some rest)
      × (pass rest ≡ line) × (after_eol 0 line ≡ None)
  one_left here line e = by_after_eol (after_eol 0 here) refl
    where
      by_after_eol : (o : Option Bits) → after_eol 0 here ≡ o → (rest : Bits) × (after_eol 0 here ≡ Some rest)
          × (pass rest ≡ line) × (after_eol 0 line ≡ None)
      by_after_eol None f = grind (arith, common_steps)
      by_after_eol (Some rest) f = let left = none_left (pass rest) line
          (one_is_none line (count (length (pass rest)) (pass rest)) (sym (count_all-some counts here rest f) ∙ e)) in
          (rest, f, left.0, subst (λ (b : Bits). after_eol 0 b ≡ None) left.0 left.1)

-- where no EOL is after a tag there was no tag
no_tag : (rest line : Bits) → past_tag rest ≡ line → after_eol 0 line ≡ None → rest ≡ line
no_tag rest line is none = grind (arith, common_steps)

-- it is here, and after it none is
abbrev pub IsAlone : Bits → Bits → Type 0
IsAlone here line = (after_eol 0 here ≡ Some line) × (after_eol 0 line ≡ None)

pub one_tagged : (here line : Bits) → all_tagged here ≡ (1, line) → IsAlone here line × (past_tag line ≡ line)
one_tagged here line e = let (rest, f, is, none) = one_left counts_tagged here line e in
    let same = no_tag rest line is none in
    ((f ∙ ap (λ (b : Bits). Some b) same, none), ap past_tag (sym same) ∙ is)

pub one_alone : (settings : DecodeSettings) (here line : Bits) → IsGroup3 settings.encoding → eols_here settings here ≡ (1, line)
    → IsAlone here line × (settings.encoding ≡ Group3_2D → past_tag line ≡ line)
one_alone settings here line (inl one) e =
    let (rest, f, is, none) = one_left counts_plain here line (sym (eols_here_one settings here one) ∙ e) in
    ((f ∙ ap (λ (b : Bits). Some b) is, none), λ two. absurd cc)
one_alone settings here line (inr two) e =
    let raw : all_tagged here ≡ (1, line) = grind (arith, common_steps, eols_here_two, last_tag_count, last_tag_few) in
    let both = one_tagged here line raw in (both.0, λ same. both.1)

-- the EOLs of some bits after an EOL
abbrev pub counted : DecodeSettings → Bits → ℕ × Bits
counted settings more = eols_here settings (replicate 11 false ++ true ∷ more)

module _ (settings : DecodeSettings) (whole z after : Bits) (line : IsLineIn settings whole z after) where
  eols_kept : (n : ℕ) (here : Bits) → EndsByOne n here
      → (settings.encoding ≡ Group3_2D → (count : ℕ) → all_tagged (here ++ z) ≡ (count, z) → count < 6)
      → Kept n z line.none (eols_here settings here) (eols_here settings (here ++ z))
  eols_kept n here ends few = by_encoding settings.encoding settings.end_of_block refl line.group3
    where
      by_encoding : (encoding : EncodingMode) (block : Bool) → settings.encoding ≡ encoding → IsGroup3 encoding
          → Kept n z line.none (eols_by encoding block here) (eols_by encoding block (here ++ z))
      by_encoding Group3_1D block same is = all_eols_kept n z line.none here ends
      by_encoding Group3_2D block same is =
          let kept = all_kept n z line.none counts_tagged (past_tag_kept n z line.none (line.tag same)) here ends in
          let last = last_tag_kept n z line.none (all_tagged here) kept.1 (λ e. few same (all_tagged here).0
          (kept.0 ∙ ap (λ (b : Bits). ((all_tagged here).0, b ++ z)) e)) in
          (ap pass_last_tag kept.0 ∙ last.0, last.1)
      by_encoding Group4 block same (inl is) = absurd cc
      by_encoding Group4 block same (inr is) = absurd cc

  -- the EOLs where a row ends before it
  pub eols_left : (left : Bits) → EndsByOne 0 left → LeavesBits whole (left ++ z)
      → eols_here settings (left ++ z) ≡ count_then_more z (eols_here settings left)
  eols_left left ends leaves = (eols_kept 0 left ends (λ same count e. line.few same (left ++ z) count leaves e)).0

  -- the same from an EOL on that ends before it
  pub eols_found : (found more : Bits) → EndsByOne 11 more → LeavesBits whole found → after_eol 0 found ≡ Some (more ++ z)
      → (eols_here settings found ≡ count_then_more z (counted settings more)) × EndsByOne 11 (counted settings more).1
      × LeavesBits whole ((counted settings more).1 ++ z)
  eols_found found more ends leaves e =
      let eol : Bits = replicate 11 false ++ true ∷ more in
      let kept = eols_kept 11 eol (in_front ends) (λ same count f. line.few same found count leaves
      (all_tagged-some found (more ++ z) e ∙ sym (all_tagged-some (eol ++ z) (more ++ z) refl) ∙ f)) in
      let is = eols_here_same settings found (eol ++ z) (more ++ z) e refl ∙ kept.0 in (
        is,
        kept.1,
        leaves_trans whole found _ leaves (subst (λ (f : ℕ × Bits). LeavesBits found f.1) is
            (eols_leave_bits settings found)),
      )
    where
      in_front : EndsByOne 11 more → EndsByOne 11 (replicate 11 false ++ true ∷ more)
      in_front (inl none) = inr ([], ap (λ (b : Bits). replicate 11 false ++ true ∷ b) none)
      in_front (inr (first, is)) = inr (replicate 11 false ++ true ∷ first, ap (λ (b : Bits). replicate 11 false ++ true ∷ b) is)

  -- the data doesn't end before it
  pub not_end : (bits : Bits) → at_end (bits ++ z) ≡ false
  not_end [] = not_past_end z after line.next
  not_end (b ∷ bits) = refl

  -- after a row that ends before it, and before another EOL
  pub row_counted : (rows : List Row) (left more : Bits) → limit_met settings (length rows) ≡ false → LeavesBits whole (left ++ z)
      → past 0 left ≡ Some more → EndsByOne 11 more → (found : Bits) × LeavesBits whole found × (length z < length found)
      × (eols_here settings found ≡ count_then_more z (counted settings more)) × EndsByOne 11 (counted settings more).1
      × LeavesBits whole ((counted settings more).1 ++ z) × (after_row settings (sought rows (left ++ z))
      ≡ unless_over settings (sought rows (left ++ z)) (count_then_more z (counted settings more)))
      × (length (counted settings more).1 < length left)
  row_counted rows left more open_limit leaves e ends =
      let found = row_past settings line.lenient rows (left ++ z) (more ++ z) open_limit (past-front 0 left more z e) in
      let there = leaves_trans whole (left ++ z) found.0 leaves found.1 in
      let same = eols_found found.0 more ends there found.2 in (
        found.0,
        there,
        omega (arith, after_eol_shorter 0 found.0 (more ++ z) found.2, length-append more z),
        same.0,
        same.1,
        same.2,
        found.3 ∙ ap (unless_over settings (sought rows (left ++ z))) same.0,
        omega (
          arith,
          past_shorter 0 left more e,
          eols_past settings found.0 (more ++ z) found.2,
          ap (λ (f : ℕ × Bits). length f.1) same.0,
          length-append more z,
          length-append (counted settings more).1 z,
        ),
      )

-- a lenient turn over a line that begins before an EOL: its row, and where it ends among the bits up to there, whatever follows
pub turn_closed : (settings : DecodeSettings) → settings.strict ≡ false → (rows : List Row) (bits : Bits) → Closes bits
    → (row : Row) × (left : Bits) × LeavesBits bits left × ((z : Bits) → move_on settings (sought rows (bits ++ z))
    ≡ after_row settings (sought (rows ++ row ∷ []) (left ++ z)))
turn_closed settings lenient rows bits (first, is) = by_line (line_here settings above bits)
    (line_by_leaves settings.encoding settings.strict settings.columns above bits) (λ z. move_sought settings lenient rows
    (bits ++ z) ∙ ap (λ (l : Line). after_row settings (sought (rows ++ row_of settings.columns l ∷ []) (rest_of l (bits ++ z))))
    (line_settled settings above bits known z))
  where
    above : Row
    above = row_before settings.columns rows

    known : is_short (line_here settings above bits) ≡ false
    known = ap (λ (b : Bits). is_short (line_here settings above b)) is ∙ zeros_end_line settings above first (true ∷ [])

    by_line : (line : Line) → LineLeaves bits line → ((z : Bits) → move_on settings (sought rows (bits ++ z)) ≡ after_row settings
        (sought (rows ++ row_of settings.columns (line_before z line) ∷ []) (rest_of (line_before z line) (bits ++ z))))
        → (row : Row) × (left : Bits) × LeavesBits bits left × ((z : Bits) → move_on settings (sought rows (bits ++ z))
        ≡ after_row settings (sought (rows ++ row ∷ []) (left ++ z)))
    by_line (Line.whole row rest) leaves turn = (row, rest, leaves, turn)
    by_line (Line.broken front fault) leaves turn = (repaired settings.columns front, bits, ([], refl), turn)

-- where such a line ends: with a one, and with an EOL after one
pub left_ends : (bits left : Bits) → Closes bits → LeavesBits bits left → EndsByOne 0 left
left_ends bits left (first, is) (before, e) =
    ends_last before left (first ++ replicate 11 false) (sym e ∙ is ∙ sym (append_assoc first (replicate 11 false) (true ∷ [])))

pub left_closes : (bits left more : Bits) → Closes bits → LeavesBits bits left → past 0 left ≡ Some more → EndsByOne 11 more
left_closes bits left more closes (before, e) f = let next = found_next left more f in
    let on = next_eol_leaves left next.0 next.1 in
    let is = after_eol_is 0 next.0 more next.2 in
    still_ends 11 bits (before ++ (on.0 ++ replicate is.0 false)) more (inr closes) (e ∙ ap (λ (b : Bits). before ++ b)
    (on.1 ∙ ap (λ (b : Bits). on.0 ++ b) is.1) ∙ simp append_assoc)

-- the same bits follow a suffix
pub with_tail : (bits rest z : Bits) → LeavesBits bits rest → LeavesBits (bits ++ z) (rest ++ z)
with_tail bits rest z (before, is) = (before, ap (λ (b : Bits). b ++ z) is ∙ append_assoc before rest z)
