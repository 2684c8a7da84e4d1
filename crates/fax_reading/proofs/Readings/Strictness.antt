-- What a strict run reads, a lenient run reads too.
use Rattle.fax_reading.proofs.Readings.TurnsMoveOn.{unless_over_keeps}
use Rattle.fax_reading.proofs.Names.{IsPrefix, Progress, cases_lt, aligned, line_by, move_on, Ending, end_of, Result, ◌<◌}
use Rattle.fax_reading.proofs.Names.{Line, Move, not, ◌∷◌, inl, inr, Row, ◌≡◌, ℕ}
use Rattle.fax_reading.proofs.Names.{StrictThenLenient, DecodeSettings, EncodingMode, bytes_before, common_steps, DecodeError, []}
use Rattle.fax_reading.proofs.Names.{ending_from, false≢true, row_before, after_line, first_gap, cases_eq}
use Rattle.fax_reading.proofs.Names.{eq-eqb, ne_eqb, false, subst, arith, plain, true, cond, ◌&&◌, List, ◌++◌, IsOk, Bits, Turn}
use Rattle.fax_bits.proofs.Repetition.Repeated.{after_turn, Follows}
use Rattle.fax_reading.proofs.Readings.RowsAndGaps.{after_whole-is, unless_over, after_row, seek_eol}
use Rattle.fax_reading.proofs.Readings.TurnsMoveOn.{turn_extends, prefix_trans, move_adds, Adds}
use Rattle.fax_reading.proofs.{Continuations.StrictLines.strict_line, Readings.GapsAndRows.readings_follow}

-- ---- Lines

-- a whole line is the same
abbrev pub Agrees : Line → Line → Type 0
Agrees (Line.whole row rest) other = other ≡ Line.whole row rest
Agrees (Line.broken front fault) other = Unit {0}

pub line_by_agrees : (encoding : EncodingMode) (columns : ℕ) (reference : Row) (here : Bits)
    → Agrees (line_by encoding true columns reference here) (line_by encoding false columns reference here)
line_by_agrees encoding columns reference here = grind (arith, strict_line encoding false columns reference here)

-- ---- Runs

module _ (settings : DecodeSettings) (wide : 0 < settings.columns) where
  -- the strict settings, and the lenient ones
  abbrev strictly : DecodeSettings
  strictly = record settings { strict = true }

  -- the lenient ones
  abbrev leniently : DecodeSettings
  leniently = record settings { strict = false }

  -- one state in both readings
  abbrev SameRun : Progress → Progress → Type 0
  SameRun s t = s ≡ t

  -- the rows are a prefix of the other's, and all is the same where it ended without a fault
  abbrev Precedes : Ending → Ending → Type 0
  Precedes r q = IsPrefix r.rows q.rows × (IsOk r.outcome → r ≡ q)

  module _ (rest : Progress → Ending) (extends : (t : Progress) → IsPrefix t.rows (rest t).rows) where
    adds_extend : (rows : List Row) (m : Move) → Adds rows m → IsPrefix rows (after_turn rest m).rows
    adds_extend rows (Turn.next t) k = prefix_trans rows t.rows (rest t).rows k (extends t)
    adds_extend rows (Turn.done e) k = k

    same_turn : (m : Move) → Follows SameRun Precedes rest m m
    same_turn m = grind (arith, common_steps)

    after_row_follows : (run : Progress) → Follows SameRun Precedes rest (after_row strictly run) (after_row leniently run)
    after_row_follows run = grind
        (arith, common_steps, seek_eol, unless_over, turn_extends, unless_over_keeps, false≢true, same_turn)

    after_line_follows : (run : Progress) (line other : Line) → Agrees line other → Adds run.rows (after_line leniently run other)
        → Follows SameRun Precedes rest (after_line strictly run line) (after_line leniently run other)
    after_line_follows run (Line.whole row here) other agrees adds =
        rw (agrees, after_whole-is strictly run row here, after_whole-is leniently run row here) (after_row_follows (record run
        { rows = run.rows ++ row ∷ []; rest = cond (settings.rows_are_byte_aligned && not run.has_eols) (aligned here) here }))
    after_line_follows run (Line.broken front fault) other agrees adds = grind (arith, common_steps, false≢true, adds_extend)

    move_follows : (s t : Progress) → SameRun s t → Follows SameRun Precedes rest (move_on strictly s) (move_on leniently t)
    move_follows s t same = subst (λ (r : Progress). Follows SameRun Precedes rest (move_on strictly s) (move_on leniently r))
        same (after_line_follows s _ _
        (line_by_agrees settings.encoding settings.columns (row_before settings.columns s.rows) s.rest) (move_adds leniently s))

  first_gap_follows : (encoding : EncodingMode) (bits : Bits) → Follows SameRun Precedes (ending_from (move_on leniently))
      (first_gap encoding strictly bits) (first_gap encoding leniently bits)
  first_gap_follows encoding bits = grind (arith, common_steps)

  precedes : (bits : Bits) → Precedes (end_of strictly bits) (end_of leniently bits)
  precedes bits = readings_follow strictly leniently wide wide SameRun Precedes move_follows
      (first_gap settings.encoding strictly bits) _ (first_gap_follows settings.encoding bits)

pub ok_outcome : (bits : Bits) (r : Result Bits DecodeError) → IsOk (bytes_before bits r) → IsOk r
ok_outcome bits r ok = grind (arith, common_steps)

-- the strict reading's rows come first, and all is the same where it ends without a fault
pub strict_first : (settings : DecodeSettings) (bits : Bits) → IsPrefix (plain (record settings { strict = true }) bits).rows
    (plain (record settings { strict = false }) bits).rows × (IsOk (plain (record settings { strict = true }) bits).outcome
    → plain (record settings { strict = true }) bits ≡ plain (record settings { strict = false }) bits)
strict_first settings bits = elim (cases_eq settings.columns 0) [
  | inl none ↦ grind (arith, eq-eqb)
  | inr not_none ↦ let wide : 0
      < settings.columns = elim (cases_lt 0 settings.columns) [ inl lt ↦ lt | inr ge ↦ absurd (not_none (omega arith)) ] in
      let both = precedes settings wide bits in
      grind (arith, ok_outcome, ne_eqb)
]

-- the law
pub strict_then_lenient : StrictThenLenient
strict_then_lenient settings bits are = strict_first settings bits
