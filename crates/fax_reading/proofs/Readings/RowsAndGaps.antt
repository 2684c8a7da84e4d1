-- The turns of the plain reading with the rows so far: what is between rows, over a state and not over numbers.
use Rattle.fax_reading.proofs.Names.{arith, common_steps, ◌≡◌, ℕ, Bool, true, false, cond, not, ◌||◌, length, Option, Some, None}
use Rattle.fax_reading.proofs.Names.{Ok, Err, refl, and_parts, cases_Bool, false≢true, InvalidCode}
use Rattle.fax_reading.proofs.Names.{DecodeSettings, DecodeError, Bits, Row, repaired, Line, next_eol, Turn, is_over, misses_eol}
use Rattle.fax_reading.proofs.Names.{Progress, Gap, with_row, aligned_after_row, add_row, after_line, Move, eols_here}
use Rattle.fax_reading.proofs.Names.{from_next_eol, ends_with, at_gap, pass_gap}

-- EOLs were counted after the rows so far
abbrev pub unless_over : DecodeSettings → Progress → ℕ × Bits → Move
unless_over settings so_far (count, rest) = cond
    (is_over settings (length so_far.rows) (count, rest)) (ends_with so_far (Ok rest)) (Turn.next (record so_far { rest = rest }))

-- the next EOL was looked for
abbrev pub seek_from : DecodeSettings → Progress → Option Bits → Move
seek_from settings so_far (Some found) = unless_over settings so_far (eols_here settings found)
seek_from settings so_far None = Turn.next (record so_far { has_eols = false })

-- no EOL follows a row in data that has them
abbrev pub seek_eol : DecodeSettings → Progress → Move
seek_eol settings so_far =
    cond settings.strict (ends_with so_far (Err InvalidCode)) (seek_from settings so_far (next_eol so_far.rest))

-- what comes after a row
abbrev pub after_row : DecodeSettings → Progress → Move
after_row settings so_far = cond (misses_eol settings (length so_far.rows) so_far.has_eols so_far.rest)
    (seek_eol settings so_far) (unless_over settings so_far (eols_here settings so_far.rest))

-- a row is added, before these bits
abbrev pub row_added : DecodeSettings → Progress → Row → Bits → Move
row_added settings so_far row rest = after_row settings (with_row so_far row (aligned_after_row settings so_far.has_eols rest))

-- ---- Each is what the definition says.

-- a choice of gaps is a choice of moves
at_gap-cond : (so_far : Progress) (b : Bool) (x y : Gap) → at_gap so_far (cond b x y) ≡ cond b (at_gap so_far x) (at_gap so_far y)
at_gap-cond so_far b x y = grind arith

-- two choices are equal if both cases are, each where it applies
cond-same : {A : Type 0} (b : Bool) (x y z w : A) → (b ≡ true → x ≡ z) → (b ≡ false → y ≡ w) → cond b x y ≡ cond b z w
cond-same b x y z w one two = grind arith

-- from the next EOL on
from_eol : (settings : DecodeSettings) (so_far : Progress) (next : Option Bits) → so_far.has_eols ≡ true
    → at_gap so_far (from_next_eol settings (length so_far.rows) so_far.rest next) ≡ seek_from settings so_far next
from_eol settings so_far next is = grind (arith, at_gap-cond, cond-same)

-- an EOL is missed only where EOLs are sought
pub missed_sought : (settings : DecodeSettings) (taken : ℕ) (h : Bool) (here : Bits) → misses_eol settings taken h here ≡ true
    → h ≡ true
missed_sought settings taken h here e = grind (arith, common_steps, and_parts)

pub unmissed : (settings : DecodeSettings) (taken : ℕ) (here : Bits) → misses_eol settings taken false here ≡ false
unmissed settings taken here = grind (arith, common_steps, cases_Bool, false≢true, missed_sought)

-- what follows the rows
pub pass_gap-is : (settings : DecodeSettings) (so_far : Progress) → pass_gap settings so_far ≡ after_row settings so_far
pass_gap-is settings so_far = grind (arith, common_steps, at_gap-cond, cond-same, missed_sought, from_eol)

-- a whole line adds its row
pub after_whole-is : (settings : DecodeSettings) (so_far : Progress) (row : Row) (rest : Bits)
    → after_line settings so_far (Line.whole row rest) ≡ row_added settings so_far row rest
after_whole-is settings so_far row rest = pass_gap-is settings
    (with_row so_far row (aligned_after_row settings so_far.has_eols rest))

-- a damaged line ends the reading, or adds its repaired row
pub after_damage-is : (settings : DecodeSettings) (so_far : Progress) (front : Row) (fault : DecodeError)
    → after_line settings so_far (Line.broken front fault) ≡ cond (settings.strict || not so_far.has_eols)
    (ends_with so_far (Err fault)) (row_added settings so_far (repaired settings.columns front) so_far.rest)
after_damage-is settings so_far front fault = either_way (settings.strict || not so_far.has_eols)
  where
    row : Row
    row = repaired settings.columns front

    either_way : (b : Bool)
        → add_row settings so_far (cond b (Err fault) (Ok (row, aligned_after_row settings so_far.has_eols so_far.rest)))
        ≡ cond b (ends_with so_far (Err fault)) (row_added settings so_far row so_far.rest)
    either_way true = refl
    either_way false = pass_gap-is settings (with_row so_far row (aligned_after_row settings so_far.has_eols so_far.rest))
