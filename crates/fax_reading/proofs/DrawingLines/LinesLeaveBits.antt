-- What a line leaves is a suffix of the bits that it began with.
use Rattle.fax_reading.proofs.Names.{append_assoc, EncodingMode, line_1d, line_2d, line_by, arith, start, Line, Step, Bool, ◌++◌}
use Rattle.fax_reading.proofs.Names.{refl, Bits, ◌≡◌, ◌∷◌, sym, ◌∙◌, Row, Pen, ap, ℕ}
use Rattle.fax_reading.proofs.DrawingLines.Drawings.{step_1d, step_2d}
use Rattle.fax_reading.proofs.DrawingLines.WhatFollows.{line_2d_found, line_1d_found, LineFound}

-- the second bits are a suffix of the first
abbrev pub LeavesBits : Bits → Bits → Type 0
LeavesBits here rest = (before : Bits) × (here ≡ before ++ rest)

-- a suffix of a suffix is a suffix
pub leaves_trans : (a b c : Bits) → LeavesBits a b → LeavesBits b c → LeavesBits a c
leaves_trans a b c f g = (f.0 ++ g.0, f.1 ∙ ap (λ (x : Bits). f.0 ++ x) g.1 ∙ sym (append_assoc f.0 g.0 c))

-- what a whole line leaves
abbrev pub LineLeaves : Bits → Line → Type 0
LineLeaves here (Line.whole row rest) = LeavesBits here rest
LineLeaves here (Line.broken front fault) = Unit {0}

found_leaves : (step : Pen → Step) (here : Bits) (line : Line) → ((row : Row) (rest : Bits) → line ≡ Line.whole row rest
    → LineFound step (start here) row rest) → LineLeaves here line
found_leaves step here (Line.whole row rest) found = let f = found row rest refl in (f.bits, f.is)
found_leaves step here (Line.broken front fault) found = tt

-- a one-dimensional line leaves a suffix of its bits
pub line_1d_leaves : (strict : Bool) (columns : ℕ) (here : Bits) → LineLeaves here (line_1d strict columns here)
line_1d_leaves strict columns here =
    found_leaves (step_1d strict columns) here (line_1d strict columns here) (line_1d_found strict columns here)

-- and a two-dimensional one
line_2d_leaves : (strict : Bool) (columns : ℕ) (reference : Row) (here : Bits)
    → LineLeaves here (line_2d strict columns reference here)
line_2d_leaves strict columns reference here = found_leaves (step_2d strict columns reference) here
    (line_2d strict columns reference here) (line_2d_found strict columns reference here)

after_tag : (tag : Bool) (here : Bits) (line : Line) → LineLeaves here line → LineLeaves (tag ∷ here) line
after_tag tag here (Line.whole row rest) leaves = (tag ∷ leaves.0, ap (λ (b : Bits). tag ∷ b) leaves.1)
after_tag tag here (Line.broken front fault) leaves = tt

-- so does a line of any kind
pub line_by_leaves : (encoding : EncodingMode) (strict : Bool) (columns : ℕ) (reference : Row) (here : Bits)
    → LineLeaves here (line_by encoding strict columns reference here)
line_by_leaves encoding strict columns reference here = grind (arith, line_1d_leaves, after_tag, line_2d_leaves)
