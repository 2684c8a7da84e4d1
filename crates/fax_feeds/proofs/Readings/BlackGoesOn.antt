-- A black pixel that a line paints is painted whatever bits follow.
use Rattle.fax_feeds.proofs.Names.{common_steps}
use Rattle.fax_feeds.proofs.Names.{◌≡◌, ◌∙◌, ℕ, Bool, true, false, cond, [], ◌++◌, Result, Ok, Err, refl}
use Rattle.fax_feeds.proofs.Names.{sym, ap}
use Rattle.fax_feeds.proofs.Names.{subst, arith, append-nil, Bits, DecodeError, DecodeSettings, Row, Line, line_here, front_of}
use Rattle.std.proofs.lemmas.List.Elements.{Contains-append_left}
use Rattle.fax_bits.specs.Repetition.{Turn}
use Rattle.fax_bits.specs.Runs.{run_from}
use Rattle.fax_reading.specs.Lines.{Pen, drawn, draw_run, go_on, turn_following, unless_fault}
use Rattle.fax_reading.specs.LinesGoOn.{LacksWord, LinePart, OpenRun, draw_step, line_after_turn}
use Rattle.fax_reading.specs.LinesGoOn.{line_from_part, part_before}
use Rattle.fax_reading.specs.Rows.{opposite, paint}
use Rattle.fax_reading.proofs.Continuations.LinesGoOn.{line_from_is, short_line_goes_on}
use Rattle.fax_reading.proofs.Continuations.ShortLines.{line_stays}
use Rattle.fax_reading.proofs.DrawingLines.DrawnLines.{Stays, drawn_1d_keeps, drawn_2d_keeps, paint_ok}
use Rattle.fax_rows.proofs.Readings.RowsTried.{same_front}
use Rattle.fax_reading.specs.Answers.{HasBlack, Step}
use Rattle.fax_reading.specs.Continuations.{is_short}

black_stays : Stays HasBlack
black_stays row more black = Contains-append_left row more true black

-- what a turn has painted has a black pixel
abbrev TurnHasBlack : Step → Type 0
TurnHasBlack (Turn.next pen) = HasBlack pen.front
TurnHasBlack (Turn.done line) = HasBlack (front_of line)

then_black : (turn : Step) (after : Pen → Step) → TurnHasBlack turn → ((pen : Pen) → HasBlack pen.front
    → TurnHasBlack (after pen)) → TurnHasBlack (turn_following turn after)
then_black (Turn.next pen) after black on = on pen black
then_black (Turn.done line) after black on = black

module _ (strict : Bool) (columns : ℕ) where
  -- a run that is read and painted
  run_black : (pen : Pen) (result : Result (ℕ × Bits) DecodeError) → HasBlack pen.front
      → TurnHasBlack (turn_following (unless_fault pen.front result) (λ found.
      turn_following (unless_fault pen.front (paint strict columns pen.front pen.color found.0)) (λ row.
      Turn.next (record { front = row; color = opposite pen.color; rest = found.1 }))))
  run_black pen (Err fault) black = black
  run_black pen (Ok found) black = grind (arith, common_steps, paint_ok, black_stays)

  -- and the run that follows it in its horizontal mode, if one does
  another_black : (another : Bool) (pen : Pen) → HasBlack pen.front
      → TurnHasBlack (cond another (draw_run strict columns pen) (go_on pen)).turn
  another_black true pen black = run_black pen (run_from pen.color (0, pen.rest)) black
  another_black false pen black = black

-- what a part of a line has painted
abbrev painted_in : LinePart → Row
painted_in (LinePart.begins here) = []
painted_in (LinePart.at_step is_2d pen) = pen.front
painted_in (LinePart.in_run run pen) = pen.front

no_black : HasBlack [] → ⊥
no_black black = absurd (omega (arith, black.1))

module _ (settings : DecodeSettings) (reference : Row) where
  steps_black : (is_2d : Bool) (pen : Pen) → HasBlack pen.front
      → HasBlack (front_of (drawn (draw_step is_2d settings.strict settings.columns reference) pen))
  steps_black true pen black = drawn_2d_keeps HasBlack black_stays settings.strict settings.columns reference pen black
  steps_black false pen black = drawn_1d_keeps HasBlack black_stays settings.strict settings.columns pen black

  line_black : (is_2d : Bool) (turn : Step) → TurnHasBlack turn
      → HasBlack (front_of (line_after_turn (drawn (draw_step is_2d settings.strict settings.columns reference)) turn))
  line_black is_2d (Turn.next pen) black = steps_black is_2d pen black
  line_black is_2d (Turn.done line) black = black

  -- a black pixel of a part is one of the line from there, whatever follows
  part_black : (more : Bits) (part : LinePart) → HasBlack (painted_in part)
      → HasBlack (front_of (line_from_part settings reference (part_before more part)))
  part_black more (LinePart.begins here) black = absurd (no_black black)
  part_black more (LinePart.at_step is_2d pen) black = steps_black is_2d (record pen { rest = pen.rest ++ more }) black
  part_black more (LinePart.in_run run pen) black =
      let longer : Pen = record pen { rest = pen.rest ++ more } in
      line_black run.is_2d _ (then_black _ (λ p. (cond run.another (draw_run settings.strict settings.columns p) (go_on p)).turn)
      (run_black settings.strict settings.columns longer (run_from pen.color (run.total, longer.rest)) black)
      (another_black settings.strict settings.columns run.another))

  -- where the next word isn't whole, the line has no more pixels than the part
  in_run_front : (run : OpenRun) (pen : Pen) → LacksWord (LinePart.in_run run pen)
      → front_of (line_from_part settings reference (LinePart.in_run run pen)) ≡ pen.front
  in_run_front run pen lacks = ap front_of (line_from_is settings reference (LinePart.in_run run pen)) ∙ rw lacks refl

  step_front : (is_2d : Bool) (pen : Pen) → LacksWord (LinePart.at_step is_2d pen)
      → front_of (line_from_part settings reference (LinePart.at_step is_2d pen)) ≡ pen.front
  step_front is_2d pen lacks = grind (arith, common_steps, line_from_is, in_run_front)

  none_front : front_of (line_here settings reference []) ≡ []
  none_front = grind (arith, common_steps, line_from_is, step_front)

  lacking_front : (part : LinePart) → LacksWord part → front_of (line_from_part settings reference part) ≡ painted_in part
  lacking_front (LinePart.begins here) lacks = grind (arith, common_steps, none_front)
  lacking_front (LinePart.at_step is_2d pen) lacks = step_front is_2d pen lacks
  lacking_front (LinePart.in_run run pen) lacks = in_run_front run pen lacks

-- a part before no bits is that part
before_none : (part : LinePart) → part_before [] part ≡ part
before_none (LinePart.begins here) = ap LinePart.begins (append-nil here)
before_none (LinePart.at_step is_2d pen) = grind (arith, common_steps, append-nil)
before_none (LinePart.in_run run pen) = ap (λ (b : Bits). LinePart.in_run run (record pen { rest = b })) (append-nil pen.rest)

pub black_goes_on : (settings : DecodeSettings) (reference : Row) (here more : Bits)
    → HasBlack (front_of (line_here settings reference here)) → HasBlack (front_of (line_here settings reference (here ++ more)))
black_goes_on settings reference here more black = by_short (is_short (line_here settings reference here)) refl
  where
    by_short : (short : Bool) → is_short (line_here settings reference here) ≡ short
        → HasBlack (front_of (line_here settings reference (here ++ more)))
    by_short false e =
        let same = ap front_of ((line_stays settings reference here e).line more)
        ∙ same_front more (line_here settings reference here) in
        subst HasBlack (sym same) black
    by_short true e =
        let (part, goes) = short_line_goes_on settings reference here e in
        let front : front_of (line_here settings reference here) ≡ painted_in part =
        grind (arith, common_steps, append-nil, before_none, lacking_front, goes.line []) in
        subst (λ (l : Line). HasBlack (front_of l)) (sym (goes.line more))
        (part_black settings reference more part (subst HasBlack front black))
