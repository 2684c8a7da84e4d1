-- Parts of lines, of whose fronts only the number of pixels is known.
use Rattle.fax_feeds.proofs.Names.{◌≡◌, ◌∙◌, ◌+◌, ◌-◌, ◌<◌, ◌≤◌, ℕ, Bool, true, false, [], ◌++◌, length}
use Rattle.fax_feeds.proofs.Names.{min, Ok, Err}
use Rattle.fax_feeds.proofs.Names.{replicate, length-append, length-replicate, append-nil, ltb, ◌&&◌, refl, sym}
use Rattle.fax_feeds.proofs.Names.{ap, subst, arith}
use Rattle.fax_feeds.proofs.Names.{Bits, Color, DecodeSettings, Row, is_black, paint}
use Rattle.fax_feeds.proofs.Names.{Line, Turn, line_here}
use Rattle.fax_feeds.proofs.Names.{lt-ltb, le-leb, common_steps, Mode, read_code, mode_codes, codes_of, ArePassed}
use Rattle.fax_feeds.proofs.Names.{List, changes}
use Rattle.fax_feeds.proofs.Names.{line_1d, line_2d, line_by, start, not, EncodingMode, Group3_2D, BitsAt, Context}
use Rattle.fax_feeds.proofs.Names.{here, length-drop}
use Rattle.std.specs.Prelude.{if◌then◌else◌}
use Rattle.fax_bits.proofs.CodeWords.ReadRuns.{read_code_shorter, words_not_empty}
use Rattle.fax_feeds.proofs.Names.{cases_lt}
use Rattle.fax_feeds.proofs.Names.{Pass, Vertical, b1, b2, right_of, right_of_painted, opposite, ℤ, pos, ◌+ℤ◌, ◌∷◌}
use Rattle.fax_bits.specs.declared.error.DecodeError.TheVariants.{Overflow}
use Rattle.fax_feeds.specs.declared.line_parts.KeptPart.{KeptPart}
use Rattle.fax_feeds.specs.declared.line_parts.Word.{Word}
use Rattle.fax_reading.specs.Continuations.{is_short}
use Rattle.fax_reading.specs.Lines.{Pen, place_from}
use Rattle.fax_reading.specs.LinesGoOn.{LinePart, OpenRun, after_run, left_of, line_from_part, mode_added, part_before}
use Rattle.fax_reading.specs.LinesGoOn.{read_on, word_added}
use Rattle.fax_feeds.specs.LineParts.{GoesOnBy, ContinuesLine, IsLawfulPart, IsPartOf, Leads, ReadsWord, EndsLine}
use Rattle.fax_feeds.proofs.Names.{Option, None, Some}
use Rattle.fax_feeds.specs.LineParts.{GoesInRun, IsInRun, LeadsToPart, PaintsTo, PassesRun, WentOn, part_at, part_by}
use Rattle.fax_bits.specs.Faults.{misses_end}
use Rattle.fax_bits.specs.declared.error.DecodeError.{DecodeError}
use Rattle.fax_feeds.proofs.Names.{inl, inr}
use Rattle.fax_feeds.specs.LineParts.{first_kept, left_to_read, pen_of_part, run_of_part}
use Rattle.fax_reading.proofs.Continuations.LinesGoOn.{LeadsOn, line_from_is, part_leads_on, part_size, word_leads}
use Rattle.fax_feeds.proofs.Names.{too_many_pixels}

-- ---- What is painted

-- more pixels than there are can't fail
fits_painted : (strict : Bool) (room count : ℕ) → count ≤ room → (strict && ltb room count) ≡ false
fits_painted true room count le = grind (arith, common_steps)
fits_painted false room count le = refl

pub paints_all : (settings : DecodeSettings) (front : Row) (color : Color) (count painted : ℕ) → length front ≡ painted
    → painted ≤ settings.columns → count ≤ settings.columns - painted → PaintsTo settings front color count (painted + count)
paints_all settings front color count painted is within le =
    let fits : count ≤ settings.columns - length front = omega (arith, is, le) in (
      front ++ replicate (min count (settings.columns - length front)) (is_black color),
      omega (
        arith,
        is,
        le,
        within,
        length-append front (replicate (min count (settings.columns - length front)) (is_black color)),
        length-replicate (min count (settings.columns - length front)) (is_black color),
      ),
      rw (fits_painted settings.strict (settings.columns - length front) count fits) refl,
    )

pub paints_row : (settings : DecodeSettings) (front : Row) (color : Color) (count painted : ℕ) → length front ≡ painted
    → painted ≤ settings.columns → settings.columns - painted < count → settings.strict ≡ false
    → PaintsTo settings front color count settings.columns
paints_row settings front color count painted is within gt lenient = (
  front ++ replicate (min count (settings.columns - length front)) (is_black color),
  omega (
    arith,
    is,
    gt,
    within,
    length-append front (replicate (min count (settings.columns - length front)) (is_black color)),
    length-replicate (min count (settings.columns - length front)) (is_black color),
  ),
  rw lenient refl,
)

-- strict data has no more pixels than there is room for
unpainted : (settings : DecodeSettings) (front : Row) (color : Color) (count painted : ℕ) → length front ≡ painted
    → settings.strict ≡ true → settings.columns - painted < count
    → paint settings.strict settings.columns front color count ≡ Err too_many_pixels
unpainted settings front color count painted is strict more = grind (arith, common_steps)

-- ---- The line that begins some bits goes on from a part of it

-- a part, where more bits follow
before_at : (more : Bits) (in_run : Bool) (run : OpenRun) (pen : Pen)
    → part_before more (part_by in_run run pen) ≡ part_by in_run run (record pen { rest = pen.rest ++ more })
before_at more false run pen = refl
before_at more true run pen = refl

module _ (settings : DecodeSettings) (reference : Row) {start : Bits} (old new : KeptPart) (rest after : Bits)
    (part : IsPartOf settings reference start old rest) where
  -- after a word it goes on from the part that the word leads to
  pub goes_on_after : LeadsToPart new after (read_on settings reference (part_at old part.front rest)).turn
      → IsPartOf settings reference start new after
  goes_on_after leads = record {
    front = leads.0;
    painted = leads.1;
    line = λ more. part.line more
        ∙ ap (line_from_part settings reference) (sym (before_at more old.in_run (run_of_part old)
        (pen_of_part old part.front rest)))
        ∙ word_leads settings reference (part_at old part.front rest) (part_at new leads.0 after) leads.2 more
        ∙ ap (line_from_part settings reference) (before_at more new.in_run (run_of_part new) (pen_of_part new leads.0 after));
  }

  -- if the line ends with the word, that is the line
  pub ends_following : {short : Bool} → EndsLine short (read_on settings reference (part_at old part.front rest)).turn
      → is_short (line_here settings reference start) ≡ short
  ends_following ends =
      let here : line_here settings reference start ≡ line_from_part settings reference (part_at old part.front rest)
      = ap (line_here settings reference) (sym (append-nil start)) ∙ part.line []
      ∙ ap (λ (b : Bits). line_from_part settings reference (part_at old part.front b)) (append-nil rest) in
      ap is_short (here ∙ line_from_is settings reference (part_at old part.front rest)
      ∙ ap (λ (t : Turn LinePart Line). line_of t) ends.1) ∙ ends.2
    where
      line_of : Turn LinePart Line → Line
      line_of (Turn.next part) = line_from_part settings reference part
      line_of (Turn.done line) = line

-- what is left to read of a part
left_at : (in_run : Bool) (run : OpenRun) (pen : Pen) → part_size (part_by in_run run pen) ≡ left_to_read in_run pen.rest
left_at false run pen = refl
left_at true run pen = refl

-- a word leaves less to read
pub reads_some : (settings : DecodeSettings) (reference : Row) (old new : KeptPart) (rest after : Bits)
    → GoesOnBy settings reference (λ front. (read_on settings reference (part_at old front rest)).turn) old new after Word.GoesOn
    → left_to_read new.in_run after < left_to_read old.in_run rest
reads_some settings reference old new rest after goes =
    let front : Row = replicate old.painted false in
    let leads = goes.leads front (length-replicate old.painted false) in
    let on = subst (LeadsOn (part_at old front rest)) leads.2 (part_leads_on settings reference (part_at old front rest)) in
    omega (
      arith,
      on.1,
      left_at old.in_run (run_of_part old) (pen_of_part old front rest),
      left_at new.in_run (run_of_part new) (pen_of_part new leads.0 after),
    )

-- ---- What a word leads to

-- a0 by the number of pixels painted
right_is : (front : Row) → right_of front ≡ right_of_painted (length front)
right_is [] = refl
right_is (pixel ∷ front) = refl

-- a part before a step of a two-dimensional line
abbrev at_mode : Row → Color → Bits → LinePart
at_mode front color rest = LinePart.at_step true (record { front = front; color = color; rest = rest })

-- a turn leads to a part with a front of as many pixels
abbrev pub LeadsToFront : ℕ → (Row → LinePart) → Turn LinePart Line → Type 0
LeadsToFront painted part_with turn = (row : Row) × (length row ≡ painted) × (turn ≡ Turn.next (part_with row))

module _ (settings : DecodeSettings) (reference : Row) (front : Row) (color : Color) (rest : Bits) where
  abbrev pen : Pen
  pen = record { front = front; color = color; rest = rest }

  abbrev by_mode : Mode → Turn LinePart Line
  by_mode mode = (mode_added settings.strict settings.columns reference pen mode).turn

  -- pixels that fit, or don't, after a pass
  pub pass_goes : (count painted : ℕ) → b2 reference (right_of_painted (length front)) color - length front ≡ count
      → PaintsTo settings front color count painted
      → LeadsToFront painted (λ row. at_mode row color rest) (by_mode Pass)
  pass_goes count painted is paints = grind (arith, common_steps, right_is)

  pub pass_ends : (count : ℕ) → b2 reference (right_of_painted (length front)) color - length front ≡ count
      → paint settings.strict settings.columns front color count ≡ Err too_many_pixels → EndsLine false (by_mode Pass)
  pass_ends count is fails =
      let place : b2 reference (right_of front) color - length front ≡ count
      = ap (λ (n : ℕ). b2 reference n color - length front) (right_is front) ∙ is in
      (Line.broken front too_many_pixels, rw (place, fails) refl, refl)

  -- after a vertical mode
  pub turn_goes : (k : ℤ) (place painted : ℕ)
      → place_from (length front) (pos (b1 reference (right_of_painted (length front)) color) +ℤ k) ≡ Ok place
      → PaintsTo settings front color (place - length front) painted
      → LeadsToFront painted (λ row. at_mode row (opposite color) rest) (by_mode (Vertical k))
  turn_goes k place painted is paints =
      let there : place_from (length front) (pos (b1 reference (right_of front) color) +ℤ k) ≡ Ok place
      = ap (λ (n : ℕ). place_from (length front) (pos (b1 reference n color) +ℤ k)) (right_is front) ∙ is in
      (paints.0, paints.1, rw (there, paints.2) refl)

  pub turn_unpainted : (k : ℤ) (place : ℕ)
      → place_from (length front) (pos (b1 reference (right_of_painted (length front)) color) +ℤ k) ≡ Ok place
      → paint settings.strict settings.columns front color (place - length front) ≡ Err too_many_pixels
      → EndsLine false (by_mode (Vertical k))
  turn_unpainted k place is fails =
      let there : place_from (length front) (pos (b1 reference (right_of front) color) +ℤ k) ≡ Ok place
      = ap (λ (n : ℕ). place_from (length front) (pos (b1 reference n color) +ℤ k)) (right_is front) ∙ is in
      (Line.broken front too_many_pixels, rw (there, fails) refl, refl)

  pub turn_ends : (k : ℤ)
      → place_from (length front) (pos (b1 reference (right_of_painted (length front)) color) +ℤ k) ≡ Err Overflow
      → EndsLine false (by_mode (Vertical k))
  turn_ends k is =
      let there : place_from (length front) (pos (b1 reference (right_of front) color) +ℤ k) ≡ Err Overflow
      = ap (λ (n : ℕ). place_from (length front) (pos (b1 reference n color) +ℤ k)) (right_is front) ∙ is in
      (Line.broken front Overflow, rw there refl, refl)

  -- after a word of a run
  abbrev by_word : OpenRun → ℕ → Turn LinePart Line
  by_word run n = (word_added settings.strict settings.columns run pen n).turn

  pub word_overflows : (run : OpenRun) (n : ℕ) → 4294967295 < run.total + n → EndsLine false (by_word run n)
  word_overflows run n gt = (Line.broken front Overflow, rw (lt-ltb 4294967295 (run.total + n) gt) refl, refl)

  fits_32 : (n : ℕ) → n ≤ 4294967295 → ltb 4294967295 n ≡ false
  fits_32 n le = grind (arith, common_steps)

  pub run_ends : (run : OpenRun) (n : ℕ) → run.total + n ≤ 4294967295 → n < 64
      → paint settings.strict settings.columns front color (run.total + n) ≡ Err too_many_pixels → EndsLine false (by_word run n)
  run_ends run n le last fails =
      (Line.broken front too_many_pixels, rw (fits_32 (run.total + n) le, lt-ltb n 64 last, fails) refl, refl)

  pub run_turns : (run : OpenRun) (n : ℕ) (row : Row) → run.total + n ≤ 4294967295 → n < 64
      → paint settings.strict settings.columns front color (run.total + n) ≡ Ok row
      → by_word run n ≡ Turn.next (after_run run (record { front = row; color = opposite color; rest = rest }))
  run_turns run n row le last paints = rw (fits_32 (run.total + n) le, lt-ltb n 64 last, paints) refl

  -- ---- One word more

  -- a mode is read, unless the row is full
  pub mode_read : (mode : Mode) (after : Bits) → length front < settings.columns → read_code mode_codes rest ≡ Ok (mode, after)
      → (read_on settings reference (at_mode front color rest)).turn
      ≡ (mode_added settings.strict settings.columns reference (record pen { rest = after }) mode).turn
  mode_read mode after narrow reads = grind (arith, common_steps)

  pub full_ends : (is_2d : Bool) → settings.columns ≤ length front
      → EndsLine false (read_on settings reference (LinePart.at_step is_2d pen)).turn
  full_ends is_2d full = (Line.whole front rest, rw (le-leb settings.columns (length front) full) refl, refl)

  pub run_begins : length front < settings.columns → (read_on settings reference (LinePart.at_step false pen)).turn
      ≡ Turn.next (LinePart.in_run (record { is_2d = false; another = false; total = 0 }) pen)
  run_begins narrow = grind (arith, common_steps)

  pub word_is_read : (run : OpenRun) (n : ℕ) (after : Bits) → read_code (codes_of color) rest ≡ Ok (n, after)
      → (read_on settings reference (LinePart.in_run run pen)).turn
      ≡ (word_added settings.strict settings.columns run (record pen { rest = after }) n).turn
  word_is_read run n after reads = rw reads refl

-- ---- A part that is kept

-- before a mode
pub at_mode_is : (part : KeptPart) (row : Row) (color : Color) (rest : Bits) → part.in_run ≡ false → part.is_2d ≡ true
    → part.color ≡ color → at_mode row color rest ≡ part_at part row rest
at_mode_is part row color rest none is_2d same = rw (none, is_2d, same) refl

-- the changes that are passed are not right of a0 where more pixels are painted
pub passed_on : (places : List ℕ) (painted more passed : ℕ) → painted ≤ more → ArePassed places painted passed
    → ArePassed places more passed
passed_on places painted more passed le are = grind (arith, common_steps)

pub lawful_after : (settings : DecodeSettings) (reference : Row) (part : KeptPart) (painted passed : ℕ)
    → ArePassed (changes reference) painted passed → part.passed ≡ passed → painted ≤ part.painted
    → part.painted ≤ settings.columns → IsLawfulPart settings reference part
lawful_after settings reference part painted passed are same more within = grind (arith, common_steps, passed_on)

-- ---- A line begins with a part

module _ (settings : DecodeSettings) (reference : Row) (bits : Bits) where
  abbrev line_of_kind : Bool → Bits → Line
  line_of_kind true here = line_2d settings.strict settings.columns reference here
  line_of_kind false here = line_1d settings.strict settings.columns here

  kind_is : (is_2d : Bool) (here : Bits) → line_of_kind is_2d here
      ≡ line_from_part settings reference (LinePart.at_step is_2d (start here))
  kind_is true here = refl
  kind_is false here = refl

  -- without a tag
  pub begins_by : (is_2d : Bool)
      → ((more : Bits) → line_here settings reference (bits ++ more) ≡ line_of_kind is_2d (bits ++ more))
      → IsPartOf settings reference bits (first_kept is_2d) bits
  begins_by is_2d is = record { front = []; painted = refl; line = λ more. is more ∙ kind_is is_2d (bits ++ more) }

  -- after its tag
  pub begins_tagged : (rest : Bits) (tag : Bool) → settings.encoding ≡ Group3_2D → bits ≡ tag ∷ rest
      → IsPartOf settings reference bits (first_kept (not tag)) rest
  begins_tagged rest tag encoding is = record {
    front = [];
    painted = refl;
    line = λ more. ap (λ (e : EncodingMode). line_by e settings.strict settings.columns reference (bits ++ more)) encoding
        ∙ ap (λ (b : Bits). line_by Group3_2D settings.strict settings.columns reference (b ++ more)) is ∙ by_tag tag more;
  }
    where
      by_tag : (tag : Bool) (more : Bits) → line_by Group3_2D settings.strict settings.columns reference (tag ∷ rest ++ more)
          ≡ line_from_part settings reference (LinePart.at_step (not tag) (start (rest ++ more)))
      by_tag true more = refl
      by_tag false more = refl

-- ---- Words that are read one after another

-- what is left of a part are the pen's bits
bits_left_are : (in_run : Bool) (run : OpenRun) (pen : Pen) → left_of (part_by in_run run pen) ≡ pen.rest
bits_left_are false run p = refl
bits_left_are true run p = refl

module _ (old part new : KeptPart) (ctx : Context) (ticks : ℕ) (now : Context) (before at after : BitsAt)
    (so_far : WentOn old part ctx (record ctx { ticks = ticks }) before at) where
  -- a word more
  went_on : ReadsWord part new (record ctx { ticks = ticks }) now at after Word.GoesOn → WentOn old new ctx now before after
  went_on reads = record {
    part = λ start is.
        let there = so_far.part start is in
        goes_on_after ctx.held.settings ctx.held.reference part new (here at) (here after) there
        (reads.goes.leads there.front there.painted);
    lawful = reads.goes.lawful;
    frame = reads.frame;
    same_bits = reads.same_bits ∙ so_far.same_bits;
    onward = omega (arith, so_far.onward, shorter);
    counts = omega (arith, so_far.counts, reads.counts);
    work = omega (arith, so_far.work, reads.paid refl);
  }
    where
      front : Row
      front = replicate part.painted false

      leads : LeadsToPart new (here after) (read_on ctx.held.settings ctx.held.reference (part_at part front (here at))).turn
      leads = reads.goes.leads front (length-replicate part.painted false)

      on : LeadsOn (part_at part front (here at)) (Turn.next (part_at new leads.0 (here after)))
      on = subst (LeadsOn (part_at part front (here at))) leads.2
          (part_leads_on ctx.held.settings ctx.held.reference (part_at part front (here at)))

      shorter : length (here after) ≤ length (here at)
      shorter = omega (
        arith,
        ap length (sym (bits_left_are part.in_run (run_of_part part) (pen_of_part part front (here at))) ∙ on.0.1),
        length-append on.0.0 (left_of (part_at new leads.0 (here after))),
        ap length (bits_left_are new.in_run (run_of_part new) (pen_of_part new leads.0 (here after))),
      )

  ends_so : (short : Bool) (word : Word) → ReadsWord part new (record ctx { ticks = ticks }) now at after word
      → ((turn : Turn LinePart Line) → Leads word new (here after) turn → EndsLine short turn) → (start : Bits)
      → IsPartOf ctx.held.settings ctx.held.reference start old (here before)
      → is_short (line_here ctx.held.settings ctx.held.reference start) ≡ short
  ends_so short word reads ends start is =
      let there = so_far.part start is in
      ends_following ctx.held.settings ctx.held.reference part new (here at) (here after) there
      (ends (read_on ctx.held.settings ctx.held.reference (part_at part there.front (here at))).turn
      (reads.goes.leads there.front there.painted))

  module _ (back : BitsAt) (put_back : back ≡ at) (begun : before.place ≤ length before.bits)
      (within : at.place ≤ length at.bits) where
    onward_back : before.place ≤ back.place
    onward_back = grind (arith, common_steps, length-drop)

    -- the next word is missing
    stops_short : ReadsWord part new (record ctx { ticks = ticks }) now at after Word.Missing
        → ContinuesLine old new ctx now before back true
    stops_short reads =
        let same : new ≡ part = reads.missing refl in
        record {
          part = λ e start is. grind (arith, common_steps, so_far.part start is);
          said = ends_so true Word.Missing reads (λ turn ends. ends);
          lawful = reads.goes.lawful;
          frame = reads.frame;
          same_bits = ap (λ (b : BitsAt). b.bits) put_back ∙ so_far.same_bits;
          onward = onward_back;
          counts = omega (arith, so_far.counts, reads.counts);
          work = omega (arith, so_far.work, reads.work, ap (λ (b : BitsAt). length (here b)) put_back);
        }

    -- the line ends with the next word
    stops_whole : ReadsWord part new (record ctx { ticks = ticks }) now at after Word.Ends
        → ContinuesLine old new ctx now before back false
    stops_whole reads = record {
      part = λ e. cc;
      said = ends_so false Word.Ends reads (λ turn ends. ends);
      lawful = reads.goes.lawful;
      frame = reads.frame;
      same_bits = ap (λ (b : BitsAt). b.bits) put_back ∙ so_far.same_bits;
      onward = onward_back;
      counts = omega (arith, so_far.counts, reads.counts);
      work = omega (arith, so_far.work, reads.work, ap (λ (b : BitsAt). length (here b)) put_back);
    }

-- ---- Words of a line that was read so far

module _ {old part new : KeptPart} {ctx mid now : Context} {before at after : BitsAt} {found : Word}
    (went : WentOn old part ctx mid before at) (reads : ReadsWord part new mid now at after found) where
  went_to_word : WentOn old part ctx (record ctx { ticks = mid.ticks }) before at
  went_to_word = subst (λ (x : Context). WentOn old part ctx x before at) went.frame went

  word_read : (word : Word) → found ≡ word → ReadsWord part new (record ctx { ticks = mid.ticks }) now at after word
  word_read word is = subst (ReadsWord part new (record ctx { ticks = mid.ticks }) now at after) is
      (subst (λ (x : Context). ReadsWord part new x now at after found) went.frame reads)

  pub goes_by_word : found ≡ Word.GoesOn → WentOn old new ctx now before after
  goes_by_word is = went_on old part new ctx mid.ticks now before at after went_to_word (word_read Word.GoesOn is)

  module _ (place : ℕ) (is : place ≡ at.place) (begun : before.place ≤ length before.bits)
      (within : at.place ≤ length at.bits) where
    put_back : record before { place = place } ≡ at
    put_back = ap (λ (n : ℕ). record before { place = n }) is ∙ ap (λ (b : Bits). record at { bits = b }) (sym went.same_bits)

    pub lacks_word : found ≡ Word.Missing → ContinuesLine old new ctx now before (record before { place = place }) true
    lacks_word missing = stops_short old part new ctx mid.ticks now before at after went_to_word _ put_back begun within
        (word_read Word.Missing missing)

    pub ends_with_word : found ≡ Word.Ends → ContinuesLine old new ctx now before (record before { place = place }) false
    ends_with_word ends = stops_whole old part new ctx mid.ticks now before at after went_to_word _ put_back begun within
        (word_read Word.Ends ends)

-- what was read before is read on from
module _ (old mid new : KeptPart) (ctx there now : Context) (before at after : BitsAt)
    (so_far : WentOn old mid ctx there before at) where
  pub went_further : WentOn mid new there now at after → WentOn old new ctx now before after
  went_further on = grind (arith, common_steps)

  pub went_then_stopped : (short : Bool) → before.place ≤ length before.bits → ContinuesLine mid new there now at after short
      → ContinuesLine old new ctx now before after short
  went_then_stopped short begun on = grind (arith, common_steps, length-drop)

-- ---- A word of a run of a one-dimensional line

module _ (settings : DecodeSettings) (reference : Row) (part : KeptPart) (at : IsInRun part) (rest : Bits) where
  -- by the word that is next
  word_turns : (front : Row) (n : ℕ) (after : Bits) → read_code (codes_of part.color) rest ≡ Ok (n, after)
      → (read_on settings reference (part_at part front rest)).turn
      ≡ (word_added settings.strict settings.columns (run_of_part part) (pen_of_part part front after) n).turn
  word_turns front n after reads =
      rw at.run (word_is_read settings reference front part.color rest (run_of_part part) n after reads)

  -- if none is, the line ends
  pub word_fails : (error : DecodeError) → read_code (codes_of part.color) rest ≡ Err error → (start : Bits)
      → IsPartOf settings reference start part rest → is_short (line_here settings reference start) ≡ misses_end error
  word_fails error reads start is =
      let ends : EndsLine (misses_end error) (read_on settings reference (part_at part is.front rest)).turn
      = rw (at.run, reads) (Line.broken is.front error, refl, refl) in
      ends_following settings reference part part rest rest is ends

  module _ (n : ℕ) (after : Bits) (reads : read_code (codes_of part.color) rest ≡ Ok (n, after)) where
    -- a make-up word
    makeup_adds : (front : Row) → 64 ≤ n → part.total + n ≤ 4294967295
        → (word_added settings.strict settings.columns (run_of_part part) (pen_of_part part front after) n).turn
        ≡ Turn.next (part_at (record part { total = part.total + n }) front after)
    makeup_adds front long fits = rw at.run (grind (arith, common_steps, fits_32))

    pub part_after_makeup : 64 ≤ n → part.total + n ≤ 4294967295 → (start : Bits) → IsPartOf settings reference start part rest
        → IsPartOf settings reference start (record part { total = part.total + n }) after
    part_after_makeup long fits start is =
        goes_on_after settings reference part (record part { total = part.total + n }) rest after is
        (is.front, is.painted, word_turns is.front n after reads ∙ makeup_adds is.front long fits)

    -- too many of them
    pub makeup_ends : 4294967295 < part.total + n → (start : Bits) → IsPartOf settings reference start part rest
        → is_short (line_here settings reference start) ≡ false
    makeup_ends over start is =
        let ends : EndsLine false (read_on settings reference (part_at part is.front rest)).turn
        = subst (EndsLine false) (sym (word_turns is.front n after reads))
        (word_overflows settings reference is.front part.color after (run_of_part part) n over) in
        ends_following settings reference part part rest rest is ends

-- ---- A run that a word ends

module _ (settings : DecodeSettings) (reference : Row) (part : KeptPart) (at : IsInRun part) (n : ℕ) (rest after : Bits)
    (reads : read_code (codes_of part.color) rest ≡ Ok (n, after)) (last : n < 64) (fits : part.total + n ≤ 4294967295) where
  -- where the next run begins
  abbrev pub next_run : KeptPart
  next_run = record part { painted = part.painted + (part.total + n); color = opposite part.color; total = 0 }

  -- before it, with as many pixels
  abbrev following : ℕ → KeptPart
  following painted = record part { painted = painted; color = opposite part.color; in_run = false }

  run_leads : (front : Row) (painted : ℕ) → PaintsTo settings front part.color (part.total + n) painted
      → LeadsToPart (following painted) after (read_on settings reference (part_at part front rest)).turn
  run_leads front painted paints =
      let leads = word_turns settings reference part at rest front n after reads
      ∙ run_turns settings reference front part.color after (run_of_part part) n paints.0 fits last paints.2 in (
        paints.0,
        paints.1,
        leads ∙ ap (λ (b : Bool). Turn.next (if b then LinePart.in_run (record {
          is_2d = part.is_2d;
          another = false;
          total = 0;
        }) (record { front = paints.0; color = opposite part.color; rest = after }) else LinePart.at_step part.is_2d (record {
          front = paints.0;
          color = opposite part.color;
          rest = after;
        }))) at.last,
      )

  begins : (front : Row) → length front ≡ part.painted + (part.total + n) → part.painted + (part.total + n) < settings.columns
      → LeadsToPart next_run after
      (read_on settings reference (part_at (following (part.painted + (part.total + n))) front after)).turn
  begins front is within = (
    front,
    is,
    rw (at.line, at.run, at.last)
        (run_begins settings reference front (opposite part.color) after (omega (arith, is, within))),
  )

  pub part_after_run : part.painted + (part.total + n) < settings.columns → (start : Bits)
      → IsPartOf settings reference start part rest → IsPartOf settings reference start next_run after
  part_after_run within start is =
      let painted : ℕ = part.painted + (part.total + n) in
      let paints = paints_all settings is.front part.color (part.total + n) part.painted is.painted (omega (arith, within))
      (omega (arith, within)) in
      let there = goes_on_after settings reference part (following painted) rest after is (run_leads is.front painted paints) in
      goes_on_after settings reference (following painted) next_run after after there (begins there.front there.painted within)

  -- a row that is full ends the line
  full_after : (start : Bits) (is : IsPartOf settings reference start part rest)
      → PaintsTo settings is.front part.color (part.total + n) settings.columns
      → is_short (line_here settings reference start) ≡ false
  full_after start is paints =
      let full : KeptPart = following settings.columns in
      let there = goes_on_after settings reference part full rest after is (run_leads is.front settings.columns paints) in
      ends_following settings reference full full after after there
      (full_ends settings reference there.front (opposite part.color) after part.is_2d (omega (arith, there.painted)))

  -- so does one that has no room for the run
  pub run_ends_line : part.painted ≤ settings.columns → settings.columns ≤ part.painted + (part.total + n) → (start : Bits)
      → IsPartOf settings reference start part rest → is_short (line_here settings reference start) ≡ false
  run_ends_line within full start is = elim (cases_lt (settings.columns - part.painted) (part.total + n)) [
    | inl more ↦ by_rule settings.strict refl more
    | inr fit ↦ full_after start is
        (subst (PaintsTo settings is.front part.color (part.total + n)) (omega (arith, full, fit, within))
        (paints_all settings is.front part.color (part.total + n) part.painted is.painted within fit))
  ]
    where
      by_rule : (strict : Bool) → settings.strict ≡ strict → settings.columns - part.painted < part.total + n
          → is_short (line_here settings reference start) ≡ false
      by_rule false lenient more =
          full_after start is
          (paints_row settings is.front part.color (part.total + n) part.painted is.painted within more lenient)
      by_rule true strict more =
          let ends : EndsLine false (read_on settings reference (part_at part is.front rest)).turn
          = subst (EndsLine false) (sym (word_turns settings reference part at rest is.front n after reads))
          (run_ends settings reference is.front part.color after (run_of_part part) n fits last
          (unpainted settings is.front part.color (part.total + n) part.painted is.painted strict more)) in
          ends_following settings reference part part rest rest is ends

-- ---- What a word of a run leaves

-- the line goes on within a run
pub goes_in_run : (old new : KeptPart) (ctx now : Context) (before after : BitsAt) (n : ℕ) (color : Color)
    → read_code (codes_of old.color) (here before) ≡ Ok (n, here after) → now ≡ record ctx { ticks = ctx.ticks + 1 }
    → after.bits ≡ before.bits → IsLawfulPart ctx.held.settings ctx.held.reference new → new.passed ≡ old.passed → IsInRun new
    → new.color ≡ color → ((start : Bits) → IsPartOf ctx.held.settings ctx.held.reference start old (here before)
    → IsPartOf ctx.held.settings ctx.held.reference start new (here after)) → GoesInRun old new ctx now before after color
goes_in_run old new ctx now before after n color reads frame same lawful passed run turned part =
    let shorter = read_code_shorter (codes_of old.color) (here before) n (here after) (words_not_empty old.color) reads in
    let ticks = ap (λ (x : Context). x.ticks) frame in
    record {
      went = record {
        part = part;
        lawful = lawful;
        frame = frame ∙ ap (λ (m : ℕ). record ctx { ticks = m }) (sym ticks);
        same_bits = same;
        onward = omega (arith, shorter);
        counts = omega (arith, ticks);
        work = omega (arith, ticks, shorter, passed);
      };
      run = run;
      color_is = turned;
      shorter = shorter;
    }

-- or it ends
pub stops_in_run : (part : KeptPart) (ctx now : Context) (before after : BitsAt) (short : Bool)
    → now ≡ record ctx { ticks = ctx.ticks + 1 } → after.bits ≡ before.bits → before.place ≤ after.place
    → IsLawfulPart ctx.held.settings ctx.held.reference part → (short ≡ true → after ≡ before)
    → ((start : Bits) → IsPartOf ctx.held.settings ctx.held.reference start part (here before)
    → is_short (line_here ctx.held.settings ctx.held.reference start) ≡ short)
    → ContinuesLine part part ctx now before after short
stops_in_run part ctx now before after short frame same onward lawful stays said =
    let ticks = ap (λ (x : Context). x.ticks) frame in
    record {
      part = λ e start is. subst (λ (b : BitsAt). IsPartOf ctx.held.settings ctx.held.reference start part (here b))
          (sym (stays e)) is;
      said = said;
      lawful = lawful;
      frame = frame ∙ ap (λ (m : ℕ). record ctx { ticks = m }) (sym ticks);
      same_bits = same;
      onward = onward;
      counts = omega (arith, ticks);
      work = omega (
        arith,
        ticks,
        onward,
        ap length same,
        length-drop after.place after.bits,
        length-drop before.place before.bits,
      );
    }

-- a run goes on after its first word
pub passes_further : (result : Option Bool) (old mid new : KeptPart) (ctx there now : Context) (before at after : BitsAt)
    (color : Color) → before.place ≤ length before.bits → GoesInRun old mid ctx there before at color
    → PassesRun result mid new there now at after color → PassesRun result old new ctx now before after color
passes_further None old mid new ctx there now before at after color begun goes on = record {
  went = went_further old mid new ctx there now before at after goes.went on.went;
  run = on.run;
  color_is = on.color_is;
  shorter = omega (arith, goes.shorter, on.shorter);
}
passes_further (Some short) old mid new ctx there now before at after color begun goes on =
    went_then_stopped old mid new ctx there now before at after goes.went short begun on
