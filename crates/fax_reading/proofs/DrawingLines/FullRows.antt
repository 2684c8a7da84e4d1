-- A whole line has all its pixels, and no line has more than there are columns.
use Rattle.fax_reading.proofs.Names.{UnexpectedEof, EncodingMode, common_steps, mode_codes, read_code, front_of, line_1d, line_2d}
use Rattle.fax_reading.proofs.Names.{line_by, length, arith, start, Bits, Bool, Line, Step, Turn, Pen, Row, suc, ◌≡◌, ◌≤◌, [], ℕ}
use Rattle.fax_reading.proofs.DrawingLines.Drawings.{step_unless_full, step_1d_is, step_2d_is, mode_step, drawn_by, run_then, try}
use Rattle.fax_reading.proofs.DrawingLines.KeptInLines.{line_1d_keeps, line_2d_keeps, fronts_kept, AreKept}
use Rattle.fax_reading.proofs.DrawingLines.ReadLines.{draw_mode_goes_on, draw_run_goes_on, try_goes_on, EndsNoLine, full_by}
use Rattle.fax_bits.proofs.Repetition.Repeated.{repeated_keeps}
use Rattle.fax_reading.proofs.DrawingLines.Drawings.{step_1d, step_2d}

-- no step paints beyond the columns
widths : (strict : Bool) (columns : ℕ)
    → AreKept strict columns (λ front rest. length front ≤ columns) (λ line. length (front_of line) ≤ columns)
widths strict columns = fronts_kept strict columns (λ front. length front ≤ columns) (λ line. length (front_of line) ≤ columns)
    (λ front color n row e within. grind (arith, common_steps)) (λ front within fault. within) (λ front rest within. within)

line_1d_within : (strict : Bool) (columns : ℕ) (here : Bits) → length (front_of (line_1d strict columns here)) ≤ columns
line_1d_within strict columns here = line_1d_keeps (widths strict columns) (start here) (omega arith)

line_2d_within : (strict : Bool) (columns : ℕ) (reference : Row) (here : Bits)
    → length (front_of (line_2d strict columns reference here)) ≤ columns
line_2d_within strict columns reference here = line_2d_keeps (widths strict columns) reference (start here) (omega arith)

-- no line of any kind has more pixels
pub line_by_within : (encoding : EncodingMode) (strict : Bool) (columns : ℕ) (reference : Row) (here : Bits)
    → length (front_of (line_by encoding strict columns reference here)) ≤ columns
line_by_within encoding strict columns reference here = grind (arith, line_1d_within, line_2d_within)

-- what a line has, if it is whole
abbrev pub IsFull : ℕ → Line → Type 0
IsFull columns (Line.whole row rest) = columns ≤ length row
IsFull columns (Line.broken front fault) = Unit {0}

module _ (columns : ℕ) (step : Pen → Step) (body : Pen → Step) (goes : (p : Pen) → EndsNoLine (body p))
    (same : (p : Pen) → step p ≡ step_unless_full columns p (body p)) where
  ends : (s : Pen) (l : Line) → step s ≡ Turn.done l → IsFull columns l
  ends s l e = grind (arith, full_by)

  drawn_full : (pen : Pen) → IsFull columns (drawn_by step pen)
  drawn_full pen = repeated_keeps step (Line.broken [] UnexpectedEof) (λ p. Unit {0}) (IsFull columns) tt (λ s t p e. tt)
      (λ s l p e. ends s l e) (suc (length pen.rest)) pen tt

-- a one-dimensional line that is whole is full
pub line_1d_full : (strict : Bool) (columns : ℕ) (here : Bits) → IsFull columns (line_1d strict columns here)
line_1d_full strict columns here = drawn_full columns (step_1d strict columns) (λ p. run_then strict columns p Turn.next)
    (λ p. draw_run_goes_on strict columns p Turn.next (λ q. tt)) (λ p. step_1d_is strict columns p) (start here)

-- and so is a two-dimensional one
pub line_2d_full : (strict : Bool) (columns : ℕ) (reference : Row) (here : Bits)
    → IsFull columns (line_2d strict columns reference here)
line_2d_full strict columns reference here = drawn_full columns (step_2d strict columns reference) (λ p. try p.front (read_code
    mode_codes p.rest) (λ mode. mode_step strict columns reference (record p { rest = mode.1 }) mode.0)) (λ p. try_goes_on p.front
    (read_code mode_codes p.rest) _ (λ mode. draw_mode_goes_on strict columns reference (record p { rest = mode.1 }) mode.0))
    (λ p. step_2d_is strict columns reference p) (start here)

-- and so is each line of Group 3
pub line_by_full : (encoding : EncodingMode) (strict : Bool) (columns : ℕ) (reference : Row) (here : Bits)
    → IsFull columns (line_by encoding strict columns reference here)
line_by_full encoding strict columns reference here = grind (arith, line_1d_full, line_2d_full)
