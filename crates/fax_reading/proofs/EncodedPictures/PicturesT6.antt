-- A T.6 picture is read again, and what follows EOFB changes nothing.
use Rattle.fax_reading.proofs.Names.{PicturesComeToEofb, ReadsLimitedRowsT6, length-replicate, take-append-drop, DecodeSettings}
use Rattle.fax_reading.proofs.Names.{ReadsPictureT6, length-take-le, AreWholeBytes, add_row_alone, length-append, EncodingMode, ℕ}
use Rattle.fax_reading.proofs.Names.{OnePictureT6, append_assoc, common_steps, line_of_turn, nothing_read, DecodeError, AfterEofb}
use Rattle.fax_reading.proofs.Names.{gap_and_row, row_of_line, append-nil, cond-false, mode_codes, row_before, row_after, Allows}
use Rattle.fax_reading.proofs.Names.{PictureT6, after_eol, ends_with, eols_here, read_code, replicate, Progress, at_front, Ending}
use Rattle.fax_reading.proofs.Names.{cases_lt, or_parts, pass_gap, Reaches, Reading, aligned, drop_at, is_over, line_2d, or_from}
use Rattle.fax_reading.proofs.Names.{Group4, Result, end_of, for_t6, length, arith, false, plain, start, subst, Bits, Bool, Line}
use Rattle.fax_reading.proofs.Names.{List, Mode, None, Turn, cond, eols, refl, take, true, ◌&&◌, ◌++◌, Err, Has, Row, eol, inl}
use Rattle.fax_reading.proofs.Names.{inr, not, sym, ◌%◌, ◌*◌, ◌+◌, ◌-◌, ◌/◌, ◌<◌, ◌∙◌, ◌∷◌, ◌≡◌, ◌≤◌, ◌⊎◌, Ok, [], ap}
use Rattle.fax_reading.proofs.EncodedPictures.PicturesT4.{gap_at_eofb, body_again, body_end}
use Rattle.fax_reading.proofs.EncodedPictures.PictureLines.{closed_settings, IsLineStart, allows_sum, ended_with, plain_ends}
use Rattle.fax_bits.proofs.{Repetition.Repeated.not_next, Repetition.Repeated.next_is, BitReading.ZerosInWords.prefix_of_prefix}
use Rattle.fax_bits.proofs.{BitReading.ConsecutiveEols.counts_plain, CodeWords.ReadCodes.read_code_found}
use Rattle.fax_reading.proofs.GapsContinued.ContinuedEols.{count_then_more, eols_stop}
use Rattle.fax_reading.proofs.{Readings.GapsAndRows.gap_unsought, Readings.GapsAndRows.t6_end, DrawingLines.DrawnLines.line_open}
use Rattle.fax_reading.proofs.{DrawingLines.LinesLeaveBits.LeavesBits, DrawingLines.WhatFollows.line_2d_found}
use Rattle.fax_reading.proofs.{EncodedPictures.PictureLines.between, KeptRows.TurnsLeave.count_leaves}
use Rattle.fax_reading.proofs.{Readings.RowsAndGaps.unless_over, KeptRows.EqualFronts.eols_first}

-- ---- EOLs.

-- those that were counted are a prefix, and are counted again whatever follows, if no EOL does or enough were asked for
eols_again : (most n : ℕ) (here rest : Bits) → eols most here ≡ (n, rest) → (w : Bits) × (here ≡ w ++ rest)
    × ((more : Bits) → (n ≡ most) ⊎ (after_eol 0 more ≡ None) → eols most (w ++ more) ≡ (n, more))
eols_again most n here rest e = let (w, is) = subst (λ (f : ℕ × Bits). LeavesBits here f.1) e
    (count_leaves counts_plain (λ bits. ([], refl)) most here) in
    let alone : eols most w ≡ (n, []) = eols_first rest most w [] n (sym (ap (eols most) is) ∙ e) in (
      w,
      is,
      λ more or. eols_stop more most w (elim or [
        | inl full ↦ inl (omega (arith, full, ap (λ (f : ℕ × Bits). f.0) alone))
        | inr none ↦ inr (rw alone none)
      ]) ∙ ap (count_then_more more) alone,
    )

-- ---- Alignment: only how many bits follow, modulo eight, matters.
pub aligned_split : (b : Bool) (j : Bits) → (pad : Bits) × (j ≡ pad ++ cond b (aligned j) j)
    × ((more : Bits) → length more % 8 ≡ length (cond b (aligned j) j) % 8 → cond b (aligned (pad ++ more)) (pad ++ more) ≡ more)
aligned_split false j = ([], refl, λ more e. refl)
aligned_split true j = let n : ℕ = length j % 8 in
    grind (arith, common_steps, take-append-drop n j, length-take-le n j (omega arith), drop_at, length-append)

-- ---- A row of a run, and the gap before it.
record MoveFound (settings : DecodeSettings) (run after : Progress) : Type 0 where
  bits : Bits
  is : run.rest ≡ bits ++ after.rest
  unsought : after.has_eols ≡ false
  again : (more : Bits) → length more % 8 ≡ length after.rest % 8
      → gap_and_row settings (record run { rest = bits ++ more }) ≡ Turn.next (record after { rest = more })

-- the line that is read from a state
abbrev reader : DecodeSettings → Progress → Bits → Line
reader settings run = line_2d settings.strict settings.columns (row_before settings.columns run.rows)

-- a line begins with the word of a mode
line_begins : (strict : Bool) (columns : ℕ) (reference row : Row) (here rest : Bits) → 0 < columns
    → line_2d strict columns reference here ≡ Line.whole row rest → (mode : Mode) × (word others : Bits)
    × Has mode_codes mode word × (here ≡ word ++ others)
line_begins strict columns reference row here rest wide e = by_read_code (read_code mode_codes here) refl
  where
    by_read_code : (r : Result (Mode × Bits) DecodeError) → read_code mode_codes here ≡ r → (mode : Mode) × (word others : Bits)
        × Has mode_codes mode word × (here ≡ word ++ others)
    by_read_code (Ok (mode, others)) f =
        let (word, has, is) = read_code_found mode_codes here mode others f in (mode, word, others, has, is)
    by_read_code (Err fault) f = grind (arith, common_steps, line_open strict columns reference (start here) wide)

-- a run that reaches such an end
abbrev Ends : DecodeSettings → Progress → Ending → Type 0
Ends settings run end = (last : Progress) × Reaches (gap_and_row settings) run last × (pass_gap settings last ≡ Turn.done end)

module _ (settings : DecodeSettings) (four : settings.encoding ≡ Group4) (block : settings.end_of_block ≡ true)
    (wide : 0 < settings.columns) where
  -- the EOLs that are counted, at most two, and the line after them
  counts_two : (here : Bits) → eols_here settings here ≡ eols 2 here
  counts_two here = grind (arith, common_steps)

  line_is : (run : Progress) (here : Bits) → line_of_turn settings (record run { rest = here }) ≡ reader settings run here
  line_is run here = grind (arith, common_steps)

  by_line : (run after : Progress) (count : ℕ) (t : Bits) (line : Line) → run.has_eols ≡ false → eols 2 run.rest ≡ (count, t)
      → is_over settings (length run.rows) (count, t) ≡ false → reader settings run t ≡ line → add_row_alone
      (record run { rest = t }) (row_of_line settings run.has_eols t line) ≡ Turn.next after → MoveFound settings run after
  by_line run after count t (Line.broken front fault) unsought counted over read e = grind (arith, common_steps)
  by_line run after count t (Line.whole row j) unsought counted over read e =
      let b : Bool = settings.rows_are_byte_aligned && not run.has_eols in
      let line = line_2d_found settings.strict settings.columns (row_before settings.columns run.rows) t row j read in
      let eol = eols_again 2 count run.rest t counted in
      let split = aligned_split b j in
      let pad : Bits = split.0 in
      let then : Progress = record { rows = run.rows ++ row ∷ []; has_eols = run.has_eols; rest = cond b (aligned j) j } in
      let begins = line_begins settings.strict settings.columns (row_before settings.columns run.rows) row (line.bits ++ []) []
      wide (line.again []) in
      let at_start : (more : Bits) → IsLineStart (line.bits ++ more) = λ more. grind (arith, append_assoc, append-nil) in
      let moved : MoveFound settings run then = record {
        bits = eol.0 ++ (line.bits ++ pad);
        is = eol.1 ∙ ap (λ (x : Bits). eol.0 ++ x) (grind (arith, common_steps, append_assoc))
            ∙ sym (append_assoc eol.0 (line.bits ++ pad) then.rest);
        unsought = unsought;
        again = λ more same. let t2 : Bits = line.bits ++ (pad ++ more) in
            let here : (eol.0 ++ (line.bits ++ pad)) ++ more ≡ eol.0 ++ t2 = append_assoc eol.0 (line.bits ++ pad) more
            ∙ ap (λ (x : Bits). eol.0 ++ x) (append_assoc line.bits pad more) in
            let run2 : Progress = record run { rest = (eol.0 ++ (line.bits ++ pad)) ++ more } in
            let begins = at_start (pad ++ more) in
            let counted2 : eols_here settings run2.rest ≡ (count, t2) = counts_two run2.rest ∙ ap (eols 2) here
            ∙ eol.2 t2 (inr begins.no_eol) in
            grind (arith, common_steps, gap_unsought settings run2 unsought, line_is run t2, or_from, or_parts, cond-false);
      } in subst (MoveFound settings run) (next_is then after e) moved

  by_eols : (run after : Progress) (found : ℕ × Bits) → run.has_eols ≡ false → eols 2 run.rest ≡ found
      → row_after settings (unless_over settings run found) ≡ Turn.next after → MoveFound settings run after
  by_eols run after (count, t) unsought counted e = by_over (is_over settings (length run.rows) (count, t)) refl e
    where
      by_over : (over : Bool) → is_over settings (length run.rows) (count, t) ≡ over
          → row_after settings (cond over (ends_with run (Ok t)) (Turn.next (record run { rest = t }))) ≡ Turn.next after
          → MoveFound settings run after
      by_over true is e = absurd (not_next _ after e)
      by_over false is e = grind (arith, by_line, line_is) steps 200000

  move_found : (run after : Progress) → run.has_eols ≡ false → gap_and_row settings run ≡ Turn.next after
      → MoveFound settings run after
  move_found run after unsought e = grind (arith, by_eols, gap_unsought, counts_two)

  -- ---- A run that reaches two EOLs.
  abbrev ended_at : Progress → Bits → Ending
  ended_at last rest = record { rows = last.rows; has_eols = last.has_eols; outcome = Ok rest }

  -- what was read up to two EOLs yields the same rows again, whatever follows
  pub closed_found : (run last : Progress) (rest : Bits) → run.has_eols ≡ false
      → Reaches (gap_and_row settings) run last → eols 2 last.rest ≡ (2, rest) → (w : Bits) × (run.rest ≡ w ++ rest)
      × ((more : Bits) → length more % 8 ≡ length rest % 8 → Ends settings (record run { rest = w ++ more }) (ended_at last more))
  closed_found run last rest unsought (Reaches.stays same) two =
      let eol = eols_again 2 2 run.rest rest two in (
        eol.0,
        eol.1,
        λ more e.
            let run2 : Progress = record run { rest = eol.0 ++ more } in
            (run2, Reaches.stays run2, gap_at_eofb settings run2 more unsought four block (eol.2 more (inl refl))),
      )
  closed_found run last rest unsought (Reaches.moves run2 after last2 moved reaches) two =
      let one = move_found run after unsought moved in
      let on = closed_found after last rest one.unsought reaches two in (
        one.bits ++ on.0,
        one.is ∙ ap (λ (x : Bits). one.bits ++ x) on.1 ∙ sym (append_assoc one.bits on.0 rest),
        λ more e.
            let same : length (on.0 ++ more) % 8 ≡ length after.rest % 8 = grind (arith, common_steps, length-append) in
            let (end, leads, over) = on.2 more e in
            subst (λ (x : Bits). Ends settings (record run { rest = x }) (ended_at last more))
            (sym (append_assoc one.bits on.0 more)) (
              end,
              Reaches.moves (record run { rest = one.bits ++ (on.0 ++ more) }) (record after { rest = on.0 ++ more }) end
                  (one.again (on.0 ++ more) same) leads,
              over,
            ),
      )

-- ---- Over whole data.
closed_plain : (settings : DecodeSettings) (last : Progress) (w rest : Bits) → settings.encoding ≡ Group4 → 0 < settings.columns
    → ((more : Bits) → length more % 8 ≡ length rest % 8
    → Ends settings (between [] (w ++ more)) (record { rows = last.rows; has_eols = last.has_eols; outcome = Ok more }))
    → (stream more : Bits) → stream ≡ w ++ more → length more % 8 ≡ length rest % 8
    → plain settings stream ≡ record { rows = last.rows; outcome = Ok ((length w + 7) / 8); has_eols = last.has_eols }
closed_plain settings last w rest four wide ends stream more is whole =
    let end : Ending = record { rows = last.rows; has_eols = last.has_eols; outcome = Ok more } in
    let (state, leads, over) = ends more whole in
    let here : end_of settings stream ≡ end =
    ap (end_of settings) is ∙ t6_end settings wide (w ++ more) state end four leads over in
    grind (arith, common_steps, length-append, plain_ends)

-- data with the same first bytes begin with the same bits, and continue with whole bytes
begins_alike : (one two : Bits) (count : ℕ) (w rest : Bits) → AreWholeBytes one → AreWholeBytes two → one ≡ w ++ rest
    → (length w + 7) / 8 ≡ count → take (8 * count) two ≡ take (8 * count) one → (more : Bits) × (two ≡ w ++ more)
    × (length more % 8 ≡ length rest % 8)
begins_alike one two count w rest whole_one whole_two is count_is same = let step = take-append-drop (8 * count) one in
    let step2 = take-append-drop (8 * count) two in
    let step4 = prefix_of_prefix w rest in
    grind (arith, common_steps, append_assoc w, length-append w rest, length-append w, step4, step, step2)

-- without columns nothing is read
plain_no_columns : (settings : DecodeSettings) (stream : Bits) → settings.columns ≡ 0 → plain settings stream ≡ nothing_read
plain_no_columns settings stream none = grind (arith, common_steps)

-- the law
pub after_eofb : AfterEofb
after_eofb settings one two count are whole_one whole_two four block comes counted same = elim (cases_lt 0 settings.columns) [
  | inr none ↦ plain_no_columns settings two (omega arith) ∙ sym (plain_no_columns settings one (omega arith))
  | inl wide ↦ let rest : Bits = (eols 2 comes.0.rest).1 in
      let closes : eols 2 comes.0.rest ≡ (2, rest) = ap (λ (n : ℕ). (n, rest)) comes.2 in
      let same_settings : for_t6 settings ≡ settings = ap (λ (e : EncodingMode). record settings { encoding = e }) (sym four) in
      let comes_so = subst (λ (s : DecodeSettings). Reaches (gap_and_row s) (at_front one) comes.0) same_settings comes.1 in
      let found = closed_found settings four block wide (between [] one) comes.0 rest refl comes_so closes in
      let first : plain settings one
      ≡ record { rows = comes.0.rows; outcome = Ok ((length found.0 + 7) / 8); has_eols = comes.0.has_eols } = closed_plain
      settings comes.0 found.0 rest four wide found.2 one rest found.1 refl in
      let count_is : (length found.0 + 7) / 8 ≡ count = grind (arith, common_steps) in
      let front = begins_alike one two count found.0 rest whole_one whole_two found.1 count_is same in
      closed_plain settings comes.0 found.0 rest four wide found.2 two front.0 front.1 front.2 ∙ sym first
]

-- A T.6 picture, closed by EOFB: the run reaches its end with its rows.
pub picture_t6_reaches : (settings : DecodeSettings) (rows : List Row) (bits more : Bits) → settings.encoding ≡ Group4
    → settings.columns ≤ 4294967295 → Allows settings (length rows) → (settings.rows_are_byte_aligned ≡ true
    → length (bits ++ more) % 8 ≡ 0) → PictureT6 settings.columns settings.rows_are_byte_aligned rows bits
    → Reaches (gap_and_row settings) (between [] (bits ++ more)) (between rows (eol 0 ++ (eol 0 ++ more)))
picture_t6_reaches settings rows bits more four small limit whole pic = let body : Bits = pic.0 in
    let here : bits ++ more ≡ body ++ (eol 0 ++ (eol 0 ++ more)) = grind (arith, common_steps, append_assoc) in
    let read = body_again settings pic.1.0 small Group4 four [] rows body (eol 0 ++ (eol 0 ++ more))
    (allows_sum settings (length rows) limit)
    (length-replicate settings.columns false) pic.1.1 (λ e. ap (λ (x : Bits). length x % 8) (sym here) ∙ whole e) pic.2 in
    subst (λ (x : Bits). Reaches (gap_and_row settings) (between [] x) (between rows (eol 0 ++ (eol 0 ++ more)))) (sym here) read

-- and so it is read as its rows, whatever follows
pub picture_t6_end : (settings : DecodeSettings) (rows : List Row) (bits more : Bits) → settings.encoding ≡ Group4
    → settings.end_of_block ≡ true → settings.columns ≤ 4294967295
    → Allows settings (length rows) → (settings.rows_are_byte_aligned ≡ true → length (bits ++ more) % 8 ≡ 0)
    → PictureT6 settings.columns settings.rows_are_byte_aligned rows bits → end_of settings (bits ++ more) ≡ ended_with rows more
picture_t6_end settings rows bits more four block small limit whole pic = let wide : 0 < settings.columns = pic.1.0 in
    let tail : Bits = eol 0 ++ (eol 0 ++ more) in
    t6_end settings wide (bits ++ more) (between rows tail) (ended_with rows more) four (picture_t6_reaches settings rows bits
    more four small limit whole pic) (gap_at_eofb settings (between rows tail) more refl four block (refl))

-- the law
pub closed_picture_t6 : ReadsPictureT6
closed_picture_t6 settings rows bits stream are all begins = let more : Bits = begins.begins.0 in
    let is : stream ≡ bits ++ more = begins.begins.1 in
    let whole : AreWholeBytes (bits ++ more) = subst AreWholeBytes is all in
    let count : (length stream - length more + 7) / 8 ≡ (length bits + 7) / 8 = omega
    (arith, ap length is, length-append bits more) in
    plain_ends settings stream (ended_with rows more) more begins.picture.1.0 (ap (end_of settings) is ∙ picture_t6_end settings
    rows bits more begins.encoding begins.end_of_block (omega (arith, are.columns)) begins.limit (λ e. whole) begins.picture) refl
    ∙ ap {B = Reading} (λ (k : ℕ). record { rows = rows; outcome = Ok k; has_eols = false }) count

-- the law
pub limited_rows_t6 : ReadsLimitedRowsT6
limited_rows_t6 settings rows bits stream are all begins = grind (arith, common_steps, body_end, ended_with, plain_ends)

-- a picture reaches its EOFB
pub pictures_come_to_eofb : PicturesComeToEofb
pictures_come_to_eofb settings rows bits more are whole limit picture =
    grind (
      arith,
      common_steps,
      picture_t6_reaches (for_t6 settings) rows bits more refl (omega (arith, are.columns)) limit (λ e. whole) picture,
    )

-- ---- One prefix, one picture.
pub one_picture_t6 : OnePictureT6
one_picture_t6 columns aligned rows others bits more small one two =
    let settings : DecodeSettings = closed_settings Group4 columns aligned in
    let n : ℕ = length (bits ++ more) in
    let pad : Bits = replicate ((8 - n % 8) % 8) false in
    let long : length ((bits ++ more) ++ pad) ≡ n + (8 - n % 8) % 8 = length-append (bits ++ more) pad
    ∙ ap (λ (k : ℕ). n + k) (length-replicate ((8 - n % 8) % 8) false) in
    let whole : length ((bits ++ more) ++ pad) % 8 ≡ 0 = omega (arith, long) in
    let same : (bits ++ more) ++ pad ≡ bits ++ (more ++ pad) = append_assoc bits more pad in
    let first = picture_t6_end settings rows bits (more ++ pad) refl refl (omega arith) (inl refl)
    (λ e. ap (λ (x : Bits). length x % 8) (sym same) ∙ whole) one in
    let second = picture_t6_end settings others (bits ++ more) pad refl refl (omega arith) (inl refl) (λ e. whole) two in
    ap (λ (e : Ending). e.rows) (sym first ∙ ap (end_of settings) (sym same) ∙ second)
