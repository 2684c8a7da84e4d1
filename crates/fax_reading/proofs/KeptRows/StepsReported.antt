-- An EOL and the line after it, as they are tested.
use Rattle.fax_reading.proofs.Names.{ComesBefore1D, AreWholeBytes, common_steps, EncodingMode, IsInStepFrom, looked_ahead, looked}
use Rattle.fax_reading.proofs.Names.{EndsByWords, length-drop, EndsBefore, RowsFollow, after_eol, eols_here, run_found}
use Rattle.fax_reading.proofs.Names.{TellsStep, tag_tests, cond-true, Group3_1D, Group3_2D, leb-true, next_eol, read_run, line_1d}
use Rattle.fax_reading.proofs.Names.{length-replicate, DecodeSettings, ModesEndBefore, most_for_lines, length-append, DecodeError}
use Rattle.fax_reading.proofs.Names.{opposite, line_by, length, IsTrue, le-leb, Group4, subst, false, arith, Color, None}
use Rattle.fax_reading.proofs.Names.{refl, Bits, Line, drop, true, Bool, Some, leb, ◌∷◌, Err, ◌≡◌, inl, inr, min, Row, Pen, ◌+◌}
use Rattle.fax_reading.proofs.Names.{◌-◌, ◌*◌, ◌<◌, ◌≤◌, ◌↔◌, [], Ok, ap, ℕ}
use Rattle.fax_bits.proofs.BitReading.{ConsecutiveEols.after_eol_shorter, ConsecutiveEols.next_eol_found, ZeroRuns.looked_eol}
use Rattle.fax_bits.proofs.Repetition.Repeated.{next_is}
use Rattle.fax_reading.proofs.DamagedLines.{EolsAlike.one_alone, EolsAlike.IsGroup3, EolsAlike.counted, AnyReference.modes_read}
use Rattle.fax_reading.proofs.DrawingLines.Drawings.{step_1d_is, drawn_by, step_1d}
use Rattle.fax_reading.proofs.Work.WordsPay.{stands_count}
use Rattle.fax_reading.proofs.{DamagedLines.DamageByK.unreferred, CodeWords.WordsFound.run_stands, DrawingLines.ReadLines.drawn1}
use Rattle.fax_reading.proofs.{KeptRows.RowsAfterDamage.rows_after, DamagedLines.RunsAlike.Unreferred}
use Rattle.fax_reading.proofs.{Work.EolsPassed.looked_ahead_most, Work.EolsPassed.few_tag_tests, DrawingLines.DrawnLines.run_open}

-- ---- Runs that are passed

abbrev pen_of_runs : Row → Color → Bits → Pen
pen_of_runs front color rest = record { front = front; color = color; rest = rest }

abbrev line_from : ℕ → Pen → Line
line_from columns pen = drawn_by (step_1d false columns) pen

-- so many pixels of the line were passed, and its next run has this colour and is here
abbrev pub RunsPassed : ℕ → Bits → ℕ → Color → Bits → Type 0
RunsPassed columns begun passed color here = (front : Row) × (length front ≡ passed)
    × (line_1d false columns begun ≡ line_from columns (pen_of_runs front color here))

-- a run more
pub run_passed : (columns : ℕ) (begun : Bits) (passed : ℕ) (color : Color) (here rest : Bits) (n : ℕ) → passed < columns
    → RunsPassed columns begun passed color here → read_run color here ≡ Ok (n, rest)
    → RunsPassed columns begun (passed + min n (columns - passed)) (opposite color) rest
run_passed columns begun passed color here rest n few (front, long, is) read =
    let next = run_open false columns (pen_of_runs front color here) (omega (arith, few, long)) in
    grind (arith, common_steps, length-append, length-replicate, next)

-- all its columns
pub runs_whole : (columns : ℕ) (begun : Bits) (passed : ℕ) (color : Color) (here : Bits) → columns ≤ passed
    → RunsPassed columns begun passed color here → (row : Row) × (line_1d false columns begun ≡ Line.whole row here)
runs_whole columns begun passed color here full (front, long, is) =
    grind (arith, common_steps, drawn1, step_1d_is, cond-true, le-leb)

-- no run, before that
pub runs_broken : (columns : ℕ) (begun : Bits) (passed : ℕ) (color : Color) (here : Bits) (fault : DecodeError)
    → passed < columns → RunsPassed columns begun passed color here → read_run color here ≡ Err fault
    → (row : Row) (rest : Bits) → line_1d false columns begun ≡ Line.whole row rest → ⊥
runs_broken columns begun passed color here fault few (front, long, is) read row rest e = grind (arith, common_steps, run_open)

pub run_work : (color : Color) (here rest : Bits) (n : ℕ) → read_run color here ≡ Ok (n, rest)
    → length (run_found color (0, here)) + length rest ≤ length here
run_work color here rest n e = grind (arith, common_steps, run_stands color 0 here, stands_count)

pub no_run_work : (color : Color) (here : Bits) → length (run_found color (0, here)) ≤ length here
no_run_work color here =
    let words = run_stands color 0 here in omega (arith, stands_count here (run_found color (0, here)) words.0 words.1)

-- ---- Where a line ends

-- a whole line that ends here
pub whole_before : (columns : ℕ) (after here rest : Bits) (row : Row) (before : Bool) → line_1d false columns here
    ≡ Line.whole row rest → (IsTrue before ↔ (length after + 12 ≤ length rest)) → IsTrue before ↔ EndsBefore columns after here
whole_before columns after here rest row before whole is = (
  λ t other end e. subst (λ (b : Bits). length after + 12 ≤ length b) (grind (arith, common_steps)) (is.0 t),
  λ ends. is.1 (ends row rest whole),
)

-- two offsets, twelve bits apart
pub places_before : (bits : Bits) (place end : ℕ) → place ≤ length bits → end ≤ length bits
    → IsTrue (leb (place + 12) end) ↔ (length (drop end bits) + 12 ≤ length (drop place bits))
places_before bits place end within there = grind (arith, common_steps, leb-true, length-drop, le-leb)

-- a broken line
pub broken_before : (columns : ℕ) (after here : Bits) → ((row : Row) (rest : Bits)
    → line_1d false columns here ≡ Line.whole row rest → ⊥) → IsTrue true ↔ EndsBefore columns after here
broken_before columns after here broken = (λ t row rest e. absurd (broken row rest e), λ ends. refl)

-- whatever row it is read against, a line ends where its runs or modes do
pub ends_any : (encoding : EncodingMode) (columns : ℕ) (after line : Bits) → EndsByWords encoding columns after line
    → (reference row : Row) (rest : Bits) → line_by encoding false columns reference line ≡ Line.whole row rest
    → length after + 12 ≤ length rest
ends_any Group3_1D columns after line ends reference row rest e = ends row rest e
ends_any Group3_2D columns after [] ends reference row rest e = absurd cc
ends_any Group3_2D columns after (true ∷ line) ends reference row rest e = ends row rest e
ends_any Group3_2D columns after (false ∷ line) ends reference row rest e =
    ends rest (modes_read false columns reference line row rest e)
ends_any Group4 columns after line ends reference row rest e = ends rest (modes_read false columns reference line row rest e)

pub words_end : (encoding : EncodingMode) (columns : ℕ) (after line : Bits) → IsGroup3 encoding
    → ((reference row : Row) (rest : Bits) → line_by encoding false columns reference line ≡ Line.whole row rest → length after
    + 12 ≤ length rest) → (encoding ≡ Group3_2D → (modes : Bits) → line ≡ false ∷ modes → ModesEndBefore after modes)
    → EndsByWords encoding columns after line
words_end Group3_1D columns after line is ends modes = ends []
words_end Group3_2D columns after [] is ends modes = tt
words_end Group3_2D columns after (true ∷ line) is ends modes = ends []
words_end Group3_2D columns after (false ∷ line) is ends modes = modes refl line refl
words_end Group4 columns after line (inl is) ends modes = absurd cc
words_end Group4 columns after line (inr is) ends modes = absurd cc

-- ---- The line after the second EOL

unreferred_by : (settings : DecodeSettings) (next following : Bits) (count : ℕ) → IsGroup3 settings.encoding
    → eols_here settings next ≡ (count, following) → (settings.encoding ≡ Group3_2D → ComesBefore1D settings next)
    → Unreferred settings (count, following)
unreferred_by settings next following count given counted tag = grind (arith, common_steps, counted, unreferred)

-- ---- The tests together

pub reported_by : (settings : DecodeSettings) (here line next after following : Bits) (count : ℕ) → IsGroup3 settings.encoding
    → settings.strict ≡ false → eols_here settings here ≡ (1, line) → next_eol line ≡ Some next → after_eol 0 next ≡ Some after
    → EndsByWords settings.encoding settings.columns after line → eols_here settings next ≡ (count, following)
    → (settings.encoding ≡ Group3_2D → ComesBefore1D settings next) → TellsStep settings here line following
reported_by settings here line next after following count group3 lenient alone next_is after_is ends counted tag = record {
  step = grind (
    arith,
    common_steps,
    one_alone settings here line group3 alone,
    ends_any settings.encoding settings.columns after line ends,
    unreferred_by settings next following count group3 counted tag,
  );
  modes = (λ two modes tag. grind (arith, common_steps));
  tag = tag;
}

-- the EOL after the line is the next one
pub step_next : (settings : DecodeSettings) (here line next other following : Bits) → eols_here settings here ≡ (1, line)
    → next_eol line ≡ Some next → (reported : TellsStep settings here other following) → reported.step.next ≡ next
step_next settings here line next other following alone next_is reported = grind (arith, common_steps)

-- a line that doesn't end by its words shows no step
pub no_step_beyond : (settings : DecodeSettings) (here line next after : Bits) → IsGroup3 settings.encoding
    → settings.strict ≡ false → eols_here settings here ≡ (1, line) → next_eol line ≡ Some next → after_eol 0 next ≡ Some after
    → (EndsByWords settings.encoding settings.columns after line → ⊥) → (other following : Bits)
    → TellsStep settings here other following → ⊥
no_step_beyond settings here line next after group3 lenient alone next_is after_is beyond other following reported =
    grind (arith, common_steps, words_end)

-- ---- What the tests count

-- EOLs
pub eols_work : (encoding : EncodingMode) (here rest : Bits) (before now : ℕ) → now + 2 * length rest ≤ before + 2 * length here
    + tag_tests encoding + looked_ahead encoding rest → now + length rest ≤ before + 2 * length here + 3
eols_work encoding here rest before now work = omega (arith, work, few_tag_tests encoding, looked_ahead_most encoding rest)

-- an EOL, the line after it, and the next EOL
pub line_test_work : (settings : DecodeSettings) (here line next after : Bits) (begun at_line sought read now : ℕ)
    → IsGroup3 settings.encoding → eols_here settings here ≡ (1, line) → next_eol line ≡ Some next → after_eol 0 next ≡ Some after
    → at_line + length line ≤ begun + 2 * length here + 3 → sought + length next ≡ at_line + length line + looked next → read
    ≡ sought + looked next → now ≤ read + length line + 1 → now + 2 * length next + 3 ≤ begun + most_for_lines (length here)
line_test_work settings here line next after begun at_line sought read now group3 alone next_is after_is first skipped passed
    tested = grind (
      arith,
      looked_eol 0 next after after_is,
      after_eol_shorter 0 here line (one_alone settings here line group3 alone).0.0,
      next_eol_found line next next_is,
    )

-- ---- What a call that tests the settings first returns

-- two positions with the same bits
same_place : (bits : Bits) (place other : ℕ) → place ≤ length bits → other ≤ length bits → drop place bits ≡ drop other bits
    → place ≡ other
same_place bits place other within there e =
    omega (arith, within, there, ap length e, length-drop place bits, length-drop other bits)

pub step_found : (settings : DecodeSettings) (bits line : Bits) (to found : ℕ) → IsGroup3 settings.encoding → settings.strict
    ≡ false → settings.rows ≡ 0 → 0 < settings.columns → to ≤ length bits → found ≤ length bits → TellsStep settings
    (drop to bits) line (drop found bits) → (place : ℕ) → (Some found ≡ Some place) ↔ IsInStepFrom settings bits to place
step_found settings bits line to found group3 lenient unlimited wide within there reported place =
    grind (arith, common_steps, same_place)

pub no_step_found : (settings : DecodeSettings) (bits : Bits) (to : ℕ) → ((place : ℕ) → IsInStepFrom settings bits to place → ⊥)
    → (place : ℕ) → (None ≡ Some place) ↔ IsInStepFrom settings bits to place
no_step_found settings bits to none place = (λ e. absurd cc, λ given. absurd (none place given))

-- the rows after it
pub rows_follow : (settings : DecodeSettings) (bits : Bits) (to place : ℕ) → AreWholeBytes bits
    → IsInStepFrom settings bits to place → RowsFollow settings bits to place
rows_follow settings bits to place whole given two line to2 whole_two same eol sought sought_too no_rtc no_rtc_too =
    rows_after settings bits whole two given.line (drop place bits) to to2 whole_two (grind (arith, common_steps))
