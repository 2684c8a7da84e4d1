-- A line that is read a word at a time and not drawn, in data of which more may come: what is kept of it.
use Rattle.std.specs.Prelude.{◌≡◌, ◌≤◌, ◌<◌, ◌+◌, ◌*◌, ℕ, Bool, true, false, ◌++◌, length, Option, None, Some}
use Rattle.fax_bits.specs.declared.settings.DecodeSettings.{DecodeSettings}
use Rattle.fax_bits.specs.declared.codes.Color.{Color}
use Rattle.fax_bits.specs.declared.codes.Mode.{Mode}
use Rattle.std.specs.Prelude.{Ok}
use Rattle.fax_feeds.specs.declared.line_parts.KeptPart.{KeptPart}
use Rattle.fax_bits.specs.declared.codes.Color.TheVariants.{White}
use Rattle.fax_feeds.specs.declared.line_parts.RunStep.{RunStep}
use Rattle.fax_feeds.specs.declared.line_parts.Word.{Word}
use Rattle.fax_bits.specs.Bits.{Bits, BitsAt, here}
use Rattle.fax_reading.specs.Context.{ArePassed, Context, Held}
use Rattle.fax_reading.specs.Continuations.{is_short}
use Rattle.fax_reading.specs.Lines.{Line, Pen}
use Rattle.fax_reading.specs.LinesGoOn.{LinePart, OpenRun, line_from_part, mode_added, read_on}
use Rattle.fax_reading.specs.PlainReading.{line_here}
use Rattle.fax_bits.specs.Repetition.{Turn}
use Rattle.fax_reading.specs.Rows.{Row, changes, opposite, paint}

-- the pen of a part that is kept, with a front, where these bits are left to read (T.4, 4.1.1 and 4.2.1.3)
abbrev pub pen_of_part : KeptPart → Row → Bits → Pen
pen_of_part part front rest = record { front = front; color = part.color; rest = rest }

-- the run of which words are read, if the part is within one
abbrev pub run_of_part : KeptPart → OpenRun
run_of_part part = record { is_2d = part.is_2d; another = part.another; total = part.total }

-- the part of a line that is kept, with a front, where these bits are left to read: before a step, or within a run (T.4, 4.1.1
-- and 4.2.1.3)
abbrev pub part_by : Bool → OpenRun → Pen → LinePart
part_by false run pen = LinePart.at_step run.is_2d pen
part_by true run pen = LinePart.in_run run pen

abbrev pub part_at : KeptPart → Row → Bits → LinePart
part_at part front rest = part_by part.in_run (run_of_part part) (pen_of_part part front rest)

-- the part before any word
abbrev pub first_kept : Bool → KeptPart
first_kept is_2d = record { is_2d = is_2d; in_run = false; another = false; color = White; total = 0; painted = 0; passed = 0 }

-- a part of a line has no more pixels than columns, and the changes that are passed are not right of a0 (T.4, 4.2.1.1)
pub record IsLawfulPart (settings : DecodeSettings) (reference : Row) (part : KeptPart) : Type 0 where
  pub within : part.painted ≤ settings.columns
  pub passed : ArePassed (changes reference) part.painted part.passed

-- The line that begins these bits goes on from a part of it, whatever bits follow, with a front of as many pixels (T.4, 4.1 and
-- 4.2; T.6, 2.2).
pub record IsPartOf (settings : DecodeSettings) (reference : Row) (start : Bits) (part : KeptPart) (rest : Bits) : Type 0 where
  pub front : Row
  pub painted : length front ≡ part.painted
  pub line : (more : Bits)
      → line_here settings reference (start ++ more) ≡ line_from_part settings reference (part_at part front (rest ++ more))

-- ---- One word: not part of the trusted specification

-- a word is missing where a line is short
abbrev pub is_missing : Word → Bool
is_missing Word.GoesOn = false
is_missing Word.Missing = true
is_missing Word.Ends = false

-- a front is painted up to this many pixels
abbrev pub PaintsTo : DecodeSettings → Row → Color → ℕ → ℕ → Type 0
PaintsTo settings front color count painted =
    (row : Row) × (length row ≡ painted) × (paint settings.strict settings.columns front color count ≡ Ok row)

-- a word leads to a part, with a front of as many pixels
abbrev pub LeadsToPart : KeptPart → Bits → Turn LinePart Line → Type 0
LeadsToPart part rest turn = (row : Row) × (length row ≡ part.painted) × (turn ≡ Turn.next (part_at part row rest))

-- or the line ends with it, short or not
abbrev pub EndsLine : Bool → Turn LinePart Line → Type 0
EndsLine short turn = (line : Line) × (turn ≡ Turn.done line) × (is_short line ≡ short)

abbrev pub Leads : Word → KeptPart → Bits → Turn LinePart Line → Type 0
Leads Word.GoesOn part rest turn = LeadsToPart part rest turn
Leads Word.Missing part rest turn = EndsLine true turn
Leads Word.Ends part rest turn = EndsLine false turn

-- What a call leaves of a part that goes on with these turns, given a front, with these bits after it.
pub record GoesOnBy (settings : DecodeSettings) (reference : Row) (turn_of : Row → Turn LinePart Line) (old new : KeptPart)
    (rest : Bits) (word : Word) : Type 0 where
  pub leads : (front : Row) → length front ≡ old.painted → Leads word new rest (turn_of front)
  pub lawful : IsLawfulPart settings reference new

-- it goes on after this mode (T.4, 4.2.1.3)
abbrev pub GoesOnByMode : Mode → Held → KeptPart → KeptPart → Word → Type 0
GoesOnByMode mode held old new word = (rest : Bits) → GoesOnBy held.settings held.reference
    (λ front. (mode_added held.settings.strict held.settings.columns held.reference (pen_of_part old front rest) mode).turn)
    old new rest word

-- A call that goes on after a mode counts a tick for each change that it passes, and at most one more.
pub record CountsMode (old new : KeptPart) (ctx now : Context) : Type 0 where
  pub frame : now ≡ record ctx { ticks = now.ticks }
  pub counts : ctx.ticks ≤ now.ticks
  pub work : now.ticks + old.passed ≤ ctx.ticks + new.passed + 1

-- twice the bits that are left, and one more before a step, as it may read none
abbrev pub left_to_read : Bool → Bits → ℕ
left_to_read false rest = 2 * length rest + 1
left_to_read true rest = 2 * length rest

-- What a call that reads a word leaves: a word counts at most twice, and each change of the reference row once a line.
pub record ReadsWord (old new : KeptPart) (ctx now : Context) (before after : BitsAt) (word : Word) : Type 0 where
  pub goes : GoesOnBy ctx.held.settings ctx.held.reference
      (λ front. (read_on ctx.held.settings ctx.held.reference (part_at old front (here before))).turn) old new (here after) word
  pub frame : now ≡ record ctx { ticks = now.ticks }
  pub same_bits : after.bits ≡ before.bits
  pub missing : word ≡ Word.Missing → new ≡ old
  pub counts : ctx.ticks ≤ now.ticks
  pub work : now.ticks + old.passed ≤ ctx.ticks + new.passed + 2
  pub paid : word ≡ Word.GoesOn
      → now.ticks + old.passed + 2 * length (here after) ≤ ctx.ticks + new.passed + 2 * length (here before)

-- What a call leaves that reads words from a part of a line on: whether the line is short, and the part from which it then goes
-- on; whatever bits the line begins (T.4, 4.1 and 4.2; T.6, 2.2).
pub record ContinuesLine (old new : KeptPart) (ctx now : Context) (before after : BitsAt) (short : Bool) : Type 0 where
  pub part : short ≡ true → (start : Bits) → IsPartOf ctx.held.settings ctx.held.reference start old (here before)
      → IsPartOf ctx.held.settings ctx.held.reference start new (here after)
  pub said : (start : Bits) → IsPartOf ctx.held.settings ctx.held.reference start old (here before)
      → is_short (line_here ctx.held.settings ctx.held.reference start) ≡ short
  pub lawful : IsLawfulPart ctx.held.settings ctx.held.reference new
  pub frame : now ≡ record ctx { ticks = now.ticks }
  pub same_bits : after.bits ≡ before.bits
  pub onward : before.place ≤ after.place
  pub counts : ctx.ticks ≤ now.ticks
  pub work : now.ticks + old.passed + 2 * length (here after) ≤ ctx.ticks + new.passed + 2 * length (here before) + 2

-- a part is within a run of a one-dimensional line (T.4, 4.1.1)
pub record IsInRun (part : KeptPart) : Type 0 where
  pub line : part.is_2d ≡ false
  pub run : part.in_run ≡ true
  pub last : part.another ≡ false

-- What a call leaves that reads some words of a part of a line, which goes on.
pub record WentOn (old new : KeptPart) (ctx now : Context) (before after : BitsAt) : Type 0 where
  pub part : (start : Bits) → IsPartOf ctx.held.settings ctx.held.reference start old (here before)
      → IsPartOf ctx.held.settings ctx.held.reference start new (here after)
  pub lawful : IsLawfulPart ctx.held.settings ctx.held.reference new
  pub frame : now ≡ record ctx { ticks = now.ticks }
  pub same_bits : after.bits ≡ before.bits
  pub onward : length (here after) ≤ length (here before)
  pub counts : ctx.ticks ≤ now.ticks
  pub work : now.ticks + old.passed + 2 * length (here after) ≤ ctx.ticks + new.passed + 2 * length (here before)

-- a call that reads some words of a one-dimensional line leaves a part within a run of this colour
pub record GoesInRun (old new : KeptPart) (ctx now : Context) (before after : BitsAt) (color : Color) : Type 0 where
  pub went : WentOn old new ctx now before after
  pub run : IsInRun new
  pub color_is : new.color ≡ color
  pub shorter : length (here after) < length (here before)

-- What a call leaves that reads a word of a run of this colour: the next run, the same one, or the line ends, short or not.
abbrev pub StepsInRun : RunStep → KeptPart → KeptPart → Context → Context → BitsAt → BitsAt → Color → Type 0
StepsInRun RunStep.Next old new ctx now before after color = GoesInRun old new ctx now before after (opposite color)
StepsInRun RunStep.Same old new ctx now before after color = GoesInRun old new ctx now before after color
StepsInRun RunStep.Short old new ctx now before after color = ContinuesLine old new ctx now before after true
StepsInRun RunStep.Ended old new ctx now before after color = ContinuesLine old new ctx now before after false

-- What a call leaves that reads all words of a run of this colour: the next run, or the line ends, short or not.
abbrev pub PassesRun : Option Bool → KeptPart → KeptPart → Context → Context → BitsAt → BitsAt → Color → Type 0
PassesRun None old new ctx now before after color = GoesInRun old new ctx now before after (opposite color)
PassesRun (Some short) old new ctx now before after color = ContinuesLine old new ctx now before after short

-- what a word of a one-dimensional line changes of a part
abbrev pub OnlyPaints : KeptPart → KeptPart → Type 0
OnlyPaints old new = new ≡ record old { color = new.color; total = new.total; painted = new.painted }
