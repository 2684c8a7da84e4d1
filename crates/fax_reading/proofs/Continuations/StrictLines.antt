-- The strict reading of a line that isn't short.
use Rattle.fax_reading.proofs.Names.{Group3_2D, draw_mode, Vertical, repeated, opposite, draw_run, run_here, is_short, painted}
use Rattle.fax_reading.proofs.Names.{line_by, line_1d, line_2d, draw_1d, Drawing, length, Group4, arith, false, Color, paint, ◌≡◌}
use Rattle.fax_reading.proofs.Names.{start, go_on, ◌>>=◌, zero, Bool, true, refl, Mode, Pass, Bits, Turn, Line, suc, ◌∷◌, ◌⊎◌, []}
use Rattle.fax_reading.proofs.Names.{too_many_pixels, DecodeSettings, UnexpectedEof, LineIsSettled, common_steps, EncodingMode, ℕ}
use Rattle.fax_reading.proofs.Names.{unless_fault, unless_full, turn_following, Horizontal, mode_here, line_here, Group3_1D}
use Rattle.fax_reading.proofs.Names.{draw_2d}
use Rattle.fax_reading.proofs.{Continuations.LinesContinued.line_settled, Names.inl, Names.inr, Names.Row, Names.Pen}
use Rattle.fax_reading.specs.Laws.{strictly}

-- a turn of the strict reading is the same, or a run that is too long ends its line
abbrev pub IsStricter : {A : Type 0} → Turn A Line → Turn A Line → Type 0
IsStricter turn other = (turn ≡ other) ⊎ ((front : Row) × (turn ≡ Turn.done (Line.broken front too_many_pixels)))

-- one step after another
strict_after : {A B : Type 0} (turn other : Turn A Line) (after other_after : A → Turn B Line) → IsStricter turn other
    → ((x : A) → IsStricter (after x) (other_after x)) → IsStricter (turn_following turn after) (turn_following other other_after)
strict_after {A} {B} turn other after other_after (inl same) second = grind (arith, common_steps)
strict_after {A} turn other after other_after (inr ends) second = grind (arith, common_steps)

-- painting
strict_paint : (strict : Bool) (columns : ℕ) (front : Row) (color : Color) (n : ℕ)
    → IsStricter (unless_fault front (paint true columns front color n)) (unless_fault front (paint strict columns front color n))
strict_paint strict columns front color n = grind arith

module _ (strict : Bool) (columns : ℕ) where
  strict_run : (pen : Pen) → IsStricter (draw_run true columns pen).turn (draw_run strict columns pen).turn
  strict_run pen = strict_after (run_here pen).turn (run_here pen).turn (λ run. (drew true run).turn)
      (λ run. (drew strict run).turn) (inl refl) (λ run. strict_after (painted true columns pen run.0).turn (painted strict
      columns pen run.0).turn (λ front. Turn.next (record { front = front; color = opposite pen.color; rest = run.1 }))
      (λ front. Turn.next (record { front = front; color = opposite pen.color; rest = run.1 }))
      (strict_paint strict columns pen.front pen.color run.0) (λ front. inl refl))
    where
      drew : Bool → ℕ × Bits → Drawing Pen
      drew exact run = painted exact columns pen run.0
          >>= (λ front. go_on (record { front = front; color = opposite pen.color; rest = run.1 }))

  strict_mode : (reference : Row) (pen : Pen) (mode : Mode)
      → IsStricter (draw_mode true columns reference pen mode).turn (draw_mode strict columns reference pen mode).turn
  strict_mode reference pen Pass = grind (arith, common_steps, strict_after, strict_paint)
  strict_mode reference pen Horizontal = strict_after (draw_run true columns pen).turn (draw_run strict columns pen).turn
      (λ p. (draw_run true columns p).turn) (λ p. (draw_run strict columns p).turn) (strict_run pen) strict_run
  strict_mode reference pen (Vertical k) = grind (arith, common_steps, strict_after, strict_paint)

  strict_1d : (pen : Pen) → IsStricter (draw_1d true columns pen).turn (draw_1d strict columns pen).turn
  strict_1d pen = strict_after (unless_full columns pen).turn (unless_full columns pen).turn
      (λ p. (draw_run true columns p).turn) (λ p. (draw_run strict columns p).turn) (inl refl) strict_run

  strict_2d : (reference : Row) (pen : Pen)
      → IsStricter (draw_2d true columns reference pen).turn (draw_2d strict columns reference pen).turn
  strict_2d reference pen = strict_after (unless_full columns pen).turn (unless_full columns pen).turn
      (λ p. (after true p).turn) (λ p. (after strict p).turn) (inl refl) (λ p. strict_after (mode_here p).turn
      (mode_here p).turn (λ mode. (drew true p mode).turn) (λ mode. (drew strict p mode).turn) (inl refl)
      (λ mode. strict_mode reference (record p { rest = mode.1 }) mode.0))
    where
      drew : Bool → Pen → Mode × Bits → Drawing Pen
      drew exact p mode = draw_mode exact columns reference (record p { rest = mode.1 }) mode.0

      after : Bool → Pen → Drawing Pen
      after exact p = mode_here p >>= drew exact p

-- so is a line of such steps
abbrev IsStricterLine : Line → Line → Type 0
IsStricterLine line other = (line ≡ other) ⊎ ((front : Row) × (line ≡ Line.broken front too_many_pixels))

strict_turns : (step other : Pen → Turn Pen Line) (late : Line) → ((pen : Pen) → IsStricter (step pen) (other pen)) → (n : ℕ)
    (pen : Pen) → IsStricterLine (repeated step late n pen) (repeated other late n pen)
strict_turns step other late stricter zero pen = inl refl
strict_turns step other late stricter (suc n) pen = grind (arith, strict_turns step other late stricter n)

-- The strict reading of a line is the same, or a run that is too long ends it.
pub strict_line : (encoding : EncodingMode) (strict : Bool) (columns : ℕ) (reference : Row) (here : Bits)
    → IsStricterLine (line_by encoding true columns reference here) (line_by encoding strict columns reference here)
strict_line encoding strict columns reference here = by_encoding encoding here
  where
    runs : (bits : Bits) → IsStricterLine (line_1d true columns bits) (line_1d strict columns bits)
    runs bits = strict_turns (λ pen. (draw_1d true columns pen).turn) (λ pen. (draw_1d strict columns pen).turn)
        (Line.broken [] UnexpectedEof) (strict_1d strict columns) (suc (length bits)) (start bits)

    modes : (bits : Bits) → IsStricterLine (line_2d true columns reference bits) (line_2d strict columns reference bits)
    modes bits = strict_turns (λ pen. (draw_2d true columns reference pen).turn)
        (λ pen. (draw_2d strict columns reference pen).turn) (Line.broken [] UnexpectedEof)
        (strict_2d strict columns reference) (suc (length bits)) (start bits)

    by_encoding : (kind : EncodingMode) (bits : Bits)
        → IsStricterLine (line_by kind true columns reference bits) (line_by kind strict columns reference bits)
    by_encoding Group3_1D bits = runs bits
    by_encoding Group3_2D [] = inl refl
    by_encoding Group3_2D (true ∷ bits) = runs bits
    by_encoding Group3_2D (false ∷ bits) = modes bits
    by_encoding Group4 bits = modes bits

-- The strict reading of a line that isn't short is settled too.
pub strict_settled : (settings : DecodeSettings) (reference : Row) (here : Bits)
    → is_short (line_here settings reference here) ≡ false → LineIsSettled (strictly settings) reference here
strict_settled settings reference here known = line_settled (strictly settings) reference here (grind
    (arith, common_steps, strict_line settings.encoding settings.strict settings.columns reference here))
