-- A row whose line follows a gap at which nothing is missed, and white rows that are read again and again.
use Rattle.fax_rows.proofs.Names.{common_steps}
use Rattle.fax_rows.proofs.Names.{◌≡◌, ◌+◌, ◌-◌, ◌*◌, ◌≤◌, ◌&&◌, ◌++◌, ◌∷◌, ℕ, Bool, true, false, eqb, leb}
use Rattle.fax_rows.proofs.Names.{[], length, drop, cond, min, suc, None, Some, Ok, refl, sym}
use Rattle.fax_rows.proofs.Names.{ap, ◌∙◌, subst, arith, cond-true, cond-false, eq-eqb, length-drop}
use Rattle.fax_rows.proofs.Names.{DecodeSettings, EncodingMode, Group4, Bits, BitsAt, here, Context, Held}
use Rattle.fax_rows.proofs.Names.{TakesOneRow, repairs_with, repairs_after, with_row_taken, Line}
use Rattle.fax_rows.proofs.Names.{line_here, row_of_line}
use Rattle.fax_rows.proofs.Names.{Gap, gap_after_row, misses_eol, eols_by, eols_here, is_over, limit_met}
use Rattle.fax_reading.specs.PlainReading.{eols_of_end}
use Rattle.fax_rows.proofs.Names.{Row, changes, pixels, found_here}
use Rattle.fax_rows.proofs.Names.{Stand, AtLine, AfterRow, ReadsNext, seen}
use Rattle.fax_rows.proofs.Names.{StandsAtLine, StandsAfterRow, ReaderStands, DamageIsCounted, MissesAreCounted}
use Rattle.fax_rows.proofs.Names.{MissesAfterRow}
use Rattle.fax_rows.proofs.Names.{Misses, MissIsReported, WorkIsPaid, PaidAtLine, PaidAfterRow, IsPaid, IsStanding, missed_before}
use Rattle.fax_rows.proofs.Names.{failed_at, tag_tests, looked_ahead}
use Rattle.fax_rows.specs.declared.row_reader.RowState.{RowState}
use Rattle.fax_rows.proofs.Names.{Group3_1D, Group3_2D, at_end, ne_eqb, ◌<◌, ◌≢◌}
use Rattle.fax_rows.proofs.Names.{after_eol, append_assoc, drop-drop, length-append, tagged_eols}
use Rattle.fax_rows.specs.WhiteRows.{TakesWhite}
use Rattle.fax_rows.specs.WhiteLines.{AreWhiteLine, IsWhiteLine, MayFollow, PassesLine, eol_before}
use Rattle.fax_bits.specs.declared.tables.CodeWord.{CodeWord}
use Rattle.fax_rows.specs.declared.white_lines.WhiteLines.{WhiteLines}
use Rattle.fax_bits.proofs.BitReading.BitLists.{length-low_bits}
use Rattle.fax_bits.proofs.BitReading.ConsecutiveEols.{all_eols-none, eols-none, eols-some, eols_with_tags-none}
use Rattle.fax_bits.proofs.BitReading.PlainEols.{single_tagged_eol}
use Rattle.fax_reading.proofs.EncodedPictures.PicturesT4.{eol_stands, one_eol}
use Rattle.std.proofs.Math.Seq.{drop-append_seam}
use Rattle.fax_reading.proofs.PixelRows.ChangesAndPixels.{changes-pixels}
use Rattle.fax_rows.proofs.Readings.RowByRow.{IsRead, gap_stands, is_read, miss_reported, misses_passed, reads_on}
use Rattle.fax_rows.proofs.Readings.RowByRow.{reader_fails_at_line}
use Rattle.fax_rows.proofs.Work.CallsPaid.{gap_paid}

-- ---- A gap at which nothing is missed, and the line after it

module _ (from : ℕ) (rows : RowState) (ctx : Context) (at : BitsAt) (stands : IsStanding from rows ctx at)
    (aligned_after_row : rows.stand ≡ AfterRow) (place now : ℕ) (within : place ≤ length at.bits)
    (said : gap_after_row ctx.held.settings ctx.held.taken ctx.held.has_eols (here at)
    ≡ Gap.line_at ctx.held.has_eols (drop place at.bits)) (kept : ctx.held.repairs ≡ repairs_after ctx.held (here at))
    (counts : ctx.ticks ≤ now) (work : now + 4 * length (drop place at.bits) ≤ ctx.ticks + 4 * length (here at)
    + tag_tests ctx.held.settings.encoding + looked_ahead ctx.held.settings.encoding (drop place at.bits)) where
  abbrev held : Held
  held = ctx.held

  abbrev settings : DecodeSettings
  settings = held.settings

  abbrev bits : Bits
  bits = at.bits

  abbrev line : Bits
  line = drop place bits

  stands_after : StandsAfterRow settings bits held (here at)
  stands_after = subst (λ (s : Stand). ReaderStands s settings bits held at.place) aligned_after_row stands.0

  misses : MissesAfterRow settings bits held
  misses = subst (λ (s : Stand). Misses s settings bits held) aligned_after_row stands.1.misses

  is_paid : PaidAfterRow from settings bits held (here at) ctx.ticks
  is_paid = subst (λ (s : Stand). IsPaid from s settings bits held at.place ctx.ticks) aligned_after_row stands.2.paid

  at_line : StandsAtLine settings bits held line
  at_line = gap_stands settings bits held (here at) stands_after held place within refl (Ok false) said tt (λ over. refl) tt tt

  counted : MissesAreCounted settings bits held.repairs held.taken
  counted = misses_passed settings bits held (here at) stands_after misses held kept refl

  reported : None ≡ missed_before settings bits held.taken
  reported =
      let offset = length bits - length (here at) in
      sym (cond-true (eqb held.repairs.missed held.repairs.missed) None (Some offset)
      (eq-eqb held.repairs.missed held.repairs.missed refl))
      ∙ miss_reported settings bits held (here at) stands_after misses held kept offset refl

  line_paid : PaidAtLine from settings bits held line now
  line_paid = gap_paid from settings stands_after.wide bits held (here at) ctx.ticks is_paid held place now refl (Ok false) said
      (λ over. refl) (λ same. work) (λ other. absurd (other refl)) tt

  abbrev mid : RowState
  mid = record rows { missed = None; stand = AtLine }

  abbrev mid_ctx : Context
  mid_ctx = record ctx { ticks = now }

  abbrev mid_at : BitsAt
  mid_at = record { bits = bits; place = place }

  -- a reading that fails would fail there
  pub again_starts : length bits - length line ≡ failed_at settings bits held.taken
  again_starts = reader_fails_at_line at_line

  module _ (new : Held) (end last : ℕ) (ends : end ≤ length bits) (takes : TakesOneRow (line_here settings held.reference line)
      (line_here (record settings { strict = true }) held.reference line)
      (row_of_line settings held.has_eols line (line_here settings held.reference line)) held new (Ok tt) (drop end bits))
      (undamaged : new.repairs ≡ held.repairs) (least : now + length (found_here settings held.reference line) ≤ last)
      (most : last ≤ now + 4 * length (found_here settings held.reference line) + 2 + length (changes held.reference))
      (stored : length (changes new.reference) ≤ length (found_here settings held.reference line) + 1)
      (short : length (changes new.reference) ≤ suc (min settings.columns (length bits))) where
    read : IsRead settings bits held new line (drop end bits)
    read = is_read at_line takes

    abbrev after : RowState
    after = record { started_at = place; damage = None; cut = false; missed = None; stand = AfterRow }

    abbrev after_ctx : Context
    after_ctx = record ctx { held = new; ticks = last }

    abbrev after_at : BitsAt
    after_at = record { bits = bits; place = end }

    reads_line : ReadsNext (seen mid mid_ctx mid_at) (seen after after_ctx after_at) (Ok true)
    reads_line = grind (arith, common_steps, length-drop, cond-true, eq-eqb, place, bits, line, held, settings, read, reported)

    -- the row is the next one of the plain reading
    pub reads_again : ReadsNext (seen rows ctx at) (seen after after_ctx after_at) (Ok true)
    reads_again = grind (arith, common_steps, reads_on, reads_line)

    abbrev Standing : DecodeSettings → Type 0
    Standing s = StandsAfterRow s bits new (drop end bits) × DamageIsCounted AfterRow s bits new
        × WorkIsPaid from AfterRow s bits new end last × MissIsReported AfterRow s bits new.taken None

    standing : Standing settings
    standing = grind (arith, common_steps, read, counted, misses, held, line, at_line, line_paid, bits, most)

    -- and the reading is after it
    pub stands_again : IsStanding from after after_ctx after_at
    stands_again = subst Standing (sym read.settings_are) standing

-- ---- A white line below a white row

-- no number of EOLs up to one is EOFB or RTC (T.4, 4.1.4; T.6, 2.4.1.1)
one_is_not_end : (e : EncodingMode) (has_eols block : Bool) → (block && leb (eols_of_end e) (cond has_eols 1 0)) ≡ false
one_is_not_end Group4 true true = refl
one_is_not_end Group4 true false = refl
one_is_not_end Group4 false true = refl
one_is_not_end Group4 false false = refl
one_is_not_end Group3_1D true true = refl
one_is_not_end Group3_1D true false = refl
one_is_not_end Group3_1D false true = refl
one_is_not_end Group3_1D false false = refl
one_is_not_end Group3_2D true true = refl
one_is_not_end Group3_2D true false = refl
one_is_not_end Group3_2D false true = refl
one_is_not_end Group3_2D false false = refl

-- the EOLs before a line that no EOL begins, nor after a tag
no_tagged_eols : (line : Bits) → after_eol 0 line ≡ None → tagged_eols line ≡ (0, line)
no_tagged_eols line none = grind (arith, common_steps, eols_with_tags-none)

eols_counted : (e : EncodingMode) (has_eols block : Bool) (line : Bits) → after_eol 0 line ≡ None
    → (e ≡ Group3_2D → after_eol 0 (drop 1 line) ≡ None) → eols_by e block (eol_before has_eols ++ line)
    ≡ (cond has_eols 1 0, line)
eols_counted Group3_1D true block line none no_tag = one_eol 0 line none
eols_counted Group3_1D false block line none no_tag = all_eols-none line none
eols_counted Group3_2D true block line none no_tag = grind (arith, common_steps, single_tagged_eol, eol_stands)
eols_counted Group3_2D false block line none no_tag = no_tagged_eols line none
eols_counted Group4 true true line none no_tag = grind (arith, common_steps, eols-some, eol_stands, eols-none)
eols_counted Group4 true false line none no_tag = one_eol 0 line none
eols_counted Group4 false true line none no_tag = eols-none 2 line none
eols_counted Group4 false false line none no_tag = all_eols-none line none

-- an EOL that is there isn't missed
sought_there : (has_eols a b : Bool) (found : ℕ × Bits) (line : Bits) → found ≡ (cond has_eols 1 0, line)
    → (eqb found.0 0 && has_eols && a && b) ≡ false
sought_there true a b found line is = ap (λ (f : ℕ × Bits). eqb f.0 0 && true && a && b) is
sought_there false a b found line is = ap (λ (f : ℕ × Bits). eqb f.0 0 && false && a && b) is

open_end : (line rest : Bits) → 0 < length line → at_end (line ++ rest) ≡ false
open_end [] rest some = absurd (omega arith)
open_end (b ∷ line) rest some = refl

-- the word that is passed is one of the lines
pub line_passed : (settings : DecodeSettings) (has_eols : Bool) (reference : Row) (lines : WhiteLines) (at next : BitsAt)
    → MayFollow settings has_eols reference lines → (passes : PassesLine lines at next)
    → (most : ℕ) × IsWhiteLine settings.encoding settings.columns has_eols most passes.word
line_passed settings has_eols reference lines at next follow passes = grind (arith, common_steps)

-- the EOL before it
pub gap_width : (settings : DecodeSettings) (has_eols : Bool) (reference : Row) (lines : WhiteLines)
    → MayFollow settings has_eols reference lines → lines.gap ≡ length (eol_before has_eols)
gap_width settings has_eols reference lines follow = grind (arith, common_steps)

-- its EOL and its line are all of it
line_width : (encoding : EncodingMode) (columns : ℕ) (has_eols : Bool) (most : ℕ) (word : CodeWord) (gap : ℕ)
    → (is : IsWhiteLine encoding columns has_eols most word) → (some : 0 < word.count) → gap ≡ length (eol_before has_eols)
    → gap + length (is.line some).0 ≡ word.count
line_width encoding columns has_eols most word gap is some gap_is = omega (
  arith,
  gap_is,
  length-low_bits word.count word.bits,
  ap length (is.line some).2,
  length-append (eol_before has_eols) (is.line some).0,
)

-- a line begins within the data
pub line_within : (settings : DecodeSettings) (has_eols : Bool) (reference : Row) (lines : WhiteLines) (at next : BitsAt)
    → MayFollow settings has_eols reference lines → PassesLine lines at next → at.place + lines.gap ≤ length at.bits
line_within settings has_eols reference lines at next follow passes =
    let is = line_passed settings has_eols reference lines at next follow passes in
    let width = line_width settings.encoding settings.columns has_eols is.0 passes.word lines.gap is.1 passes.some
    (gap_width settings has_eols reference lines follow) in
    omega (arith, width, passes.within)

-- where the limit that is known isn't reached, the row limit isn't met
pub not_at_limit : (settings : DecodeSettings) (has_eols : Bool) (reference : Row) (lines : WhiteLines) (taken : ℕ)
    → MayFollow settings has_eols reference lines → taken ≢ lines.limit → limit_met settings taken ≡ false
not_at_limit settings has_eols reference lines taken follow other = grind (arith, common_steps, ne_eqb)

module _ (from : ℕ) (rows : RowState) (ctx : Context) (at : BitsAt) (stands : IsStanding from rows ctx at)
    (aligned_after_row : rows.stand ≡ AfterRow) (lines : WhiteLines) (follow : MayFollow ctx.held.settings ctx.held.has_eols
    ctx.held.reference lines) (limit : limit_met ctx.held.settings ctx.held.taken ≡ false) (next : BitsAt)
    (passes : PassesLine lines at next) where
  abbrev settings_now : DecodeSettings
  settings_now = ctx.held.settings

  abbrev sought : Bool
  sought = ctx.held.has_eols

  abbrev white : Row
  white = pixels settings_now.columns []

  abbrev most : ℕ
  most = (line_passed settings_now sought ctx.held.reference lines at next follow passes).0

  word_is : IsWhiteLine settings_now.encoding settings_now.columns sought most passes.word
  word_is = (line_passed settings_now sought ctx.held.reference lines at next follow passes).1

  abbrev line_bits : Bits
  line_bits = (word_is.line passes.some).0

  white_is : AreWhiteLine settings_now.encoding settings_now.columns line_bits
  white_is = (word_is.line passes.some).1

  abbrev rest : Bits
  rest = drop (at.place + passes.word.count) at.bits

  abbrev place : ℕ
  place = at.place + lines.gap

  starts : here at ≡ eol_before sought ++ (line_bits ++ rest)
  starts =
      passes.there ∙ ap (λ (b : Bits). b ++ rest) (word_is.line passes.some).2
      ∙ append_assoc (eol_before sought) line_bits rest

  line_there : drop place at.bits ≡ line_bits ++ rest
  line_there =
      sym (drop-drop lines.gap at.place at.bits) ∙ ap (drop lines.gap) starts
      ∙ ap (λ (n : ℕ). drop n (eol_before sought ++ (line_bits ++ rest)))
      (gap_width settings_now sought ctx.held.reference lines follow)
      ∙ drop-append_seam (eol_before sought) (line_bits ++ rest)

  within_place : place ≤ length at.bits
  within_place = line_within settings_now sought ctx.held.reference lines at next follow passes

  eols_are : eols_here settings_now (here at) ≡ (cond sought 1 0, line_bits ++ rest)
  eols_are = grind (arith, common_steps, settings_now, starts, eols_counted, sought, line_bits, rest, white_is)

  none_misses : misses_eol settings_now ctx.held.taken sought (here at) ≡ false
  none_misses = sought_there sought _ _ (eols_here settings_now (here at)) (line_bits ++ rest) eols_are

  goes_on : is_over settings_now ctx.held.taken (cond sought 1 0, line_bits ++ rest) ≡ false
  goes_on = grind (arith, common_steps, one_is_not_end, open_end, white_is)

  gap_said : gap_after_row settings_now ctx.held.taken sought (here at) ≡ Gap.line_at sought (drop place at.bits)
  gap_said =
      grind (
        arith,
        common_steps,
        cond-false,
        settings_now,
        sought,
        none_misses,
        eols_are,
        line_bits,
        rest,
        goes_on,
        line_there,
      )

  kept_repairs : ctx.held.repairs ≡ repairs_after ctx.held (here at)
  kept_repairs = grind (arith, common_steps, none_misses)

  gap_work : ctx.ticks + 4 * length (drop place at.bits) ≤ ctx.ticks + 4 * length (here at) + tag_tests settings_now.encoding
      + looked_ahead settings_now.encoding (drop place at.bits)
  gap_work = omega (arith, length-drop place at.bits, length-drop at.place at.bits)

  line_read : (strict : Bool)
      → line_here (record settings_now { strict = strict }) ctx.held.reference (drop place at.bits) ≡ Line.whole white rest
  line_read strict = grind (arith, common_steps, settings_now, line_there, line_bits, rest, white_is)

  few_words : length (found_here settings_now ctx.held.reference (drop place at.bits)) ≤ 2
  few_words = grind (arith, common_steps, settings_now, line_there, line_bits, rest, white_is)

  row_read : row_of_line settings_now sought (drop place at.bits) (line_here settings_now ctx.held.reference (drop place at.bits))
      ≡ Ok (white, rest)
  row_read = grind (arith, common_steps, settings_now, sought, place, line_read, white, rest)

  abbrev one_row_more : Held
  one_row_more = record ctx.held { taken = ctx.held.taken + 1 }

  held_is : one_row_more ≡ record (with_row_taken ctx.held white) {
    repairs = repairs_with (line_here settings_now ctx.held.reference (drop place at.bits))
        (line_here (record settings_now { strict = true }) ctx.held.reference (drop place at.bits)) ctx.held.taken
        ctx.held.repairs;
  }
  held_is = grind (arith, common_steps, settings_now, one_row_more, white, rest, line_read, place)

  takes_white : TakesOneRow (line_here settings_now ctx.held.reference (drop place at.bits))
      (line_here (record settings_now { strict = true }) ctx.held.reference (drop place at.bits)) (row_of_line settings_now
      sought (drop place at.bits) (line_here settings_now ctx.held.reference (drop place at.bits))) ctx.held one_row_more (Ok tt)
      rest
  takes_white = grind (arith, common_steps, white, row_read, held, held_is)

  found_least : ctx.ticks + length (found_here settings_now ctx.held.reference (drop place at.bits)) ≤ ctx.ticks + 2
  found_least = omega (arith, few_words)

  no_changes : length (changes ctx.held.reference) ≡ 0
  no_changes = ap (λ (r : Row). length (changes r)) (follow.white)
      ∙ ap length (changes-pixels settings_now.columns [] tt)

  found_stored : length (changes ctx.held.reference)
      ≤ length (found_here settings_now ctx.held.reference (drop place at.bits)) + 1
  found_stored = omega (arith, no_changes)

  found_short : length (changes ctx.held.reference) ≤ suc (min settings_now.columns (length at.bits))
  found_short = omega (arith, no_changes)

  abbrev rows_then : RowState
  rows_then = record { started_at = place; damage = None; cut = false; missed = None; stand = AfterRow }

  abbrev ctx_then : Context
  ctx_then = record ctx { held = one_row_more; ticks = ctx.ticks + 2 }

  -- a white line is a white row, the next one of the plain reading
  pub white_reads : ReadsNext (seen rows ctx at) (seen rows_then ctx_then next) (Ok true)
  white_reads =
      subst (λ (n : BitsAt). ReadsNext (seen rows ctx at) (seen rows_then ctx_then n) (Ok true)) (sym passes.moved_on)
      (reads_again from rows ctx at stands aligned_after_row place ctx.ticks within_place gap_said kept_repairs (omega arith)
      gap_work
      one_row_more (at.place + passes.word.count) (ctx.ticks + 2) passes.within takes_white refl found_least (omega arith)
      found_stored found_short)

  -- and the reading is after it
  pub white_stands : IsStanding from rows_then ctx_then next
  white_stands =
      subst (λ (n : BitsAt). IsStanding from rows_then ctx_then n) (sym passes.moved_on)
      (stands_again from rows ctx at stands aligned_after_row place ctx.ticks within_place gap_said kept_repairs (omega arith)
      gap_work
      one_row_more (at.place + passes.word.count) (ctx.ticks + 2) passes.within takes_white refl found_least (omega arith)
      found_stored found_short)

  -- its line begins after the EOL
  pub white_starts : length at.bits - length (drop place at.bits) ≡ failed_at settings_now at.bits ctx.held.taken
  white_starts = again_starts from rows ctx at stands aligned_after_row place ctx.ticks within_place gap_said kept_repairs
      (omega arith) gap_work

-- ---- A white row that is taken

module _ {from start : ℕ} {rows kept : RowState} {old new : Context} {before after : BitsAt} {lines : WhiteLines}
    (stands : IsStanding from rows old before) (aligned_after_row : rows.stand ≡ AfterRow)
    (follow : MayFollow old.held.settings old.held.has_eols old.held.reference lines) (there : start ≡ before.place)
    (takes : TakesWhite lines start rows kept old new before after) where
  abbrev rows_after : RowState
  rows_after = record { started_at = before.place + lines.gap; damage = None; cut = false; missed = None; stand = AfterRow }

  rows_are : kept ≡ rows_after
  rows_are = takes.kept_is ∙ ap (λ (n : ℕ). record rows_after { started_at = n + lines.gap }) there

  -- it is the next one
  pub taken_reads : ReadsNext (seen rows old before) (seen kept new after) (Ok true)
  taken_reads =
      subst (λ (r : RowState). ReadsNext (seen rows old before) (seen r new after) (Ok true)) (sym rows_are)
      (subst (λ (x : Context). ReadsNext (seen rows old before) (seen rows_after x after) (Ok true)) (sym takes.new_is)
      (white_reads from rows old before stands aligned_after_row lines follow takes.unmet after takes.passes))

  -- the reading is after it
  pub taken_stands : IsStanding from kept new after
  taken_stands =
      subst (λ (r : RowState). IsStanding from r new after) (sym rows_are)
      (subst (λ (x : Context). IsStanding from rows_after x after) (sym takes.new_is)
      (white_stands from rows old before stands aligned_after_row lines follow takes.unmet after takes.passes))

  -- its line begins there
  pub taken_starts : length before.bits - length (drop kept.started_at before.bits)
      ≡ failed_at old.held.settings before.bits old.held.taken
  taken_starts =
      ap (λ (r : RowState). length before.bits - length (drop r.started_at before.bits)) rows_are
      ∙ white_starts from rows old before stands aligned_after_row lines follow takes.unmet after takes.passes

  pub taken_within : kept.started_at ≤ length before.bits
  taken_within = omega (
    arith,
    ap (λ (r : RowState). r.started_at) rows_are,
    line_within old.held.settings old.held.has_eols old.held.reference lines before after follow takes.passes,
  )

-- a white row has no changes
pub white_unchanging : {settings : DecodeSettings} {has_eols : Bool} {reference : Row} {lines : WhiteLines}
    → MayFollow settings has_eols reference lines → [] ≡ changes reference
white_unchanging {settings} follow = sym (ap changes follow.white ∙ changes-pixels settings.columns [] tt)
