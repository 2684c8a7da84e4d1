-- What the calls of a context leave: those that draw a line or a part of one, and those that read lines.
use Rattle.std.specs.Prelude.{◌≡◌, ◌+◌, ◌≤◌, ◌↔◌, ◌⊎◌, ◌||◌, ℕ, suc, max, List, length, Bool, false, [], Result, Ok, Err, OnOk}
use Rattle.std.specs.Prelude.{OnErr, IfErr}
use Rattle.fax_bits.specs.declared.codes.Color.TheVariants.{White}
use Rattle.fax_bits.specs.declared.codes.Mode.{Mode}
use Rattle.fax_bits.specs.declared.error.DecodeError.{DecodeError}
use Rattle.fax_bits.specs.declared.error.DecodeError.TheVariants.{OutOfMemory}
use Rattle.fax_bits.specs.declared.settings.EncodingMode.TheVariants.{Group4}
use Rattle.fax_reading.specs.Answers.{OnAnswer, StoresChange, TellsCut, pen_of, strict_step_of_mode, words_of_mode}
use Rattle.fax_bits.specs.Bits.{Bits, BitsAt, here}
use Rattle.fax_reading.specs.Context.{ArePassed, Context, exceeds, painted_front, passed_changes, redrawn}
use Rattle.fax_reading.specs.Rows.{changes, pixels, too_many_pixels}
use Rattle.fax_reading.specs.Space.{most_room, room_for}
use Rattle.fax_reading.specs.UsualModes.{GoesOn2d}
use Rattle.fax_reading.specs.UsualRuns.{GoesOn}

-- What is passed of the reference row's changes while b1 is sought: none right of a0, no fewer than before, each with a tick, and
-- there is one tick more (T.4, 4.2.1.1).
pub record PassesChanges (places : List ℕ) (painted before after old new : ℕ) : Type 0 where
  pub passed : ArePassed places painted after
  pub forward : before ≤ after
  pub work : new + before ≡ old + after + 1

-- A line is at its start: nothing of it is painted, white is next, and no change of the reference row is passed (T.4, 4.1.1 and
-- 4.2.1.1).
pub record IsAtStart (ctx : Context) : Type 0 where
  pub front : ctx.held.front ≡ []
  pub color : ctx.held.color ≡ White
  pub passed : ctx.passed ≡ 0

-- What a call leaves that looks for b1: the changes that aren't right of a0 are passed, each with a tick, and there is one tick
-- more (T.4, 4.2.1.1).
pub record SeeksB1 (old new : Context) : Type 0 where
  pub edge : length old.held.reference ≡ old.held.settings.columns
  pub within : length old.held.front ≤ old.held.settings.columns
  pub held : new.held ≡ old.held
  pub cut : new.cut ≡ old.cut
  pub passed : new.passed ≡ passed_changes (changes old.held.reference) (length old.held.front)
  pub passed_within : new.passed ≤ length (changes old.held.reference)
  pub forward : old.passed ≤ new.passed
  pub work : new.ticks + old.passed ≡ old.ticks + new.passed + 1
  pub space : new.space ≡ old.space

-- What a call leaves that paints pixels of the present colour at the end of the front. Those that the row has no room for are
-- cut off, and that is kept; strict data may not have them. A change is stored only if the last pixel has another colour, and
-- after an error nothing has changed (T.4, 4.1.1).
pub record PushesPixels (count : ℕ) (old new : Context) (answer : Result (Unit {0}) DecodeError) : Type 0 where
  pub painted : OnOk answer (painted_front old.held count ≡ Ok new.held.front)
  pub frame : OnOk answer (new ≡ record old {
    held = redrawn old.held new.held.front old.held.color;
    cut = old.cut || exceeds old.held count;
    space = new.space;
  })
  pub too_many : (answer ≡ Err too_many_pixels) ↔ (painted_front old.held count ≡ Err too_many_pixels)
  pub memory : answer ≡ Err OutOfMemory → StoresChange old.held count
  pub only : IfErr answer (λ e. (e ≡ too_many_pixels) ⊎ (e ≡ OutOfMemory))
  pub unchanged : OnErr answer (new ≡ old)
  pub few : length (changes new.held.front) ≤ suc (length (changes old.held.front))
  pub space : new.space ≤ max old.space (room_for (length (changes old.held.front)))

-- What a call changes that draws: of what the context holds, the front and the colour; and of the data, the place.
pub record OnlyDraws (old new : Context) (before after : BitsAt) : Type 0 where
  pub held : new.held ≡ redrawn old.held new.held.front new.held.color
  pub same_bits : after.bits ≡ before.bits

-- It counts a tick for each of these words; if one of them is missing or wrong, at most one more.
pub record CountsWords (words old new : ℕ) (answer : Result (Unit {0}) DecodeError) : Type 0 where
  pub exact : OnOk answer (new ≡ old + words)
  pub at_least : old + words ≤ new
  pub at_most : new ≤ old + words + 1

-- What a call leaves of a list of changes that is full and can't grow (auxiliary).
pub record StaysFull (old new : List ℕ) (room room_after : ℕ) : Type 0 where
  pub full : room ≤ length old
  pub unchanged : new ≡ old
  pub left : room_after ≡ room

-- A list has no more room than before, or than one of this many changes has once it has grown (auxiliary).
abbrev pub GrowsFor : ℕ → ℕ → ℕ → Type 0
GrowsFor stored before after = after ≤ max before (room_for stored)

-- The lists have no more room than before, or than they have once they have grown while these bits were read (auxiliary).
abbrev pub GrowsForBits : Bits → Context → Context → Type 0
GrowsForBits bits old new = new.space ≤ max old.space (most_room old.held.settings bits)

-- Lists of changes show the same pixels (auxiliary).
abbrev pub ShowSame : ℕ → List ℕ → List ℕ → Type 0
ShowSame painted old new = pixels painted new ≡ pixels painted old

-- In Group 4 no EOLs are expected (T.6, 2.2).
abbrev pub ExpectsNoEols : Context → Context → Type 0
ExpectsNoEols old new = old.held.settings.encoding ≡ Group4 → new.held.has_eols ≡ false

-- What a call leaves that draws a mode, besides the pen: a tick for each word of its runs, one for each change that is passed,
-- and at most three more (T.4, 4.2.1.3; T.6, 2.2).
pub record DrawsOneMode (mode : Mode) (old new : Context) (answer : Result (Unit {0}) DecodeError)
    (before after : BitsAt) : Type 0 where
  pub held : new.held ≡ redrawn old.held new.held.front new.held.color
  pub same_bits : after.bits ≡ before.bits
  pub counts : old.ticks ≤ new.ticks
  pub at_least : OnAnswer answer (old.ticks + length (words_of_mode old.held (here before) mode) ≤ new.ticks)
  pub at_most : new.ticks + old.passed ≤ old.ticks + length (words_of_mode old.held (here before) mode) + new.passed + 3
  pub within : old.passed ≤ length (changes old.held.reference) → new.passed ≤ length (changes old.held.reference)
  pub cut : OnOk answer
      (TellsCut (strict_step_of_mode old.held (here before) mode) (pen_of new.held (here after)) old.cut new.cut)
  pub space : new.space ≤ max old.space (room_for (suc (length (changes old.held.front))))

-- What a call leaves that draws runs of a line as long as they are usual: the line goes on from there (T.4, 4.1.1).
pub record DrawsUsualRuns (old new : Context) (before after : BitsAt) : Type 0 where
  pub drawn : GoesOn old.held.settings.strict old.held.settings.columns (pen_of old.held (here before))
      (pen_of new.held (here after)) old.ticks new.ticks
  pub held : new.held ≡ redrawn old.held new.held.front new.held.color
  pub cut : new.cut ≡ old.cut
  pub same_bits : after.bits ≡ before.bits
  pub onward : before.place ≤ after.place
  pub space : new.space ≡ old.space

-- What a call leaves that draws modes from the start of a line as long as they are usual: the line goes on from there (T.4,
-- 4.2.1.3; T.6, 2.2).
pub record DrawsUsualModes (old new : Context) (before after : BitsAt) : Type 0 where
  pub drawn : GoesOn2d old.held.settings.strict old.held.settings.columns old.held.reference (pen_of old.held (here before))
      (pen_of new.held (here after)) old.ticks new.ticks old.passed new.passed
  pub held : new.held ≡ redrawn old.held new.held.front new.held.color
  pub cut : new.cut ≡ old.cut
  pub within : new.passed ≤ length (changes old.held.reference)
  pub same_bits : after.bits ≡ before.bits
  pub space : new.space ≤ max old.space
      (room_for (max (length (changes old.held.reference)) (suc (length (changes new.held.front)))))

-- What a call leaves that draws a line at once, or nothing, and says which (T.4, 4.2.1.3; T.6, 2.2).
pub record DrawsAtOnce (old new : Context) (before after : BitsAt) (drawn : Bool) : Type 0 where
  pub draws : DrawsUsualModes old new before after
  pub unchanged : drawn ≡ false → (new ≡ old) × (after ≡ before)
  pub space : new.space ≡ old.space
