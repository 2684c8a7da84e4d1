-- The runs that a pen has drawn, whatever follows them, and the runs that no line can have.
use Rattle.hayro_ccitt.proofs.Names.{◌≡◌, ℕ, ◌+◌, ◌<◌, ◌≤◌, List, Result, Ok, Err, IfErr, [], ◌++◌, length, drop, ap, sym}
use Rattle.hayro_ccitt.proofs.Names.{subst, ◌∙◌, append_assoc, arith, inl, Bits, BitsAt, Row, Horizontal, read_run, here}
use Rattle.hayro_ccitt.proofs.EncodedPictures.EncodedLines.{run_read}
use Rattle.fax_conforms.specs.declared.lines.Pen.{Pen}
use Rattle.fax_conforms.specs.declared.stops.Rule.{Rule}
use Rattle.fax_conforms.specs.declared.stops.Stop.{Stop}
use Rattle.fax_conforms.specs.Standing.{Spot, Leads, Passes, LineFrom, ModeFrom, RunsFrom, spot_of, IsDrawn, NextRun, PaintsRun}
use Rattle.fax_conforms.specs.Stops.{Breaks, IsWrongRun, RunEndsAt, EndsAt}
use Rattle.fax_conforms.proofs.LinesBegin.{runs_begin, horizontal_begins, second_begins}
use Rattle.fax_conforms.proofs.PensDrawn.{len, inside, white}
use Rattle.fax_conforms.proofs.RunsDrawn.{front_len, run_next, horizontal_next, second_next, run_drawn, horizontal_drawn, right}
use Rattle.fax_conforms.proofs.SpelledRuns.{run_is_spelled}

-- a wrong run is not the one that is right
wrong_run : (columns place : ℕ) (pen : Pen) (rule : Rule) (here more after : Bits) (other : ℕ) → IsWrongRun columns pen rule here
    → NextRun columns pen more after other → Breaks rule place here more
wrong_run columns place pen Rule.Run here more after other none next = (pen.color, none, other, (after, next.read))
wrong_run columns place pen Rule.RowEnd here more after other (run, is, over) next =
    inl (pen.color, run, other, is, (after, next.read), omega (arith, next.within, over))
wrong_run columns place pen Rule.NoPixels here more after other (is, begun, open_end) next =
    inl (pen.color, other, is, (after, next.read), next.some begun open_end)
wrong_run columns place pen Rule.Mode here more after other none next = absurd none
wrong_run columns place pen Rule.Columns here more after other none next = absurd none
wrong_run columns place pen Rule.Eol here more after other none next = absurd none
wrong_run columns place pen Rule.Tag here more after other none next = absurd none
wrong_run columns place pen Rule.Padding here more after other none next = absurd none
wrong_run columns place pen Rule.PassToEnd here more after other none next = absurd none
wrong_run columns place pen Rule.Procedure here more after other none next = absurd none
wrong_run columns place pen Rule.Kind here more after other none next = absurd none
wrong_run columns place pen Rule.Fill here more after other none next = absurd none
wrong_run columns place pen Rule.End here more after other none next = absurd none

-- where a wrong run is
pub wrong_here : {T : Type 0} (r : Result T Stop) (columns : ℕ) (pen : Pen) (reader : BitsAt) (place : ℕ) (rule : Rule)
    → r ≡ Err (Stop.Violation (record { place = place; rule = rule })) → place ≡ reader.place → place ≤ length reader.bits
    → IsWrongRun columns pen rule (here reader) → IfErr r (RunEndsAt columns pen reader.bits (here reader))
wrong_here {T = T} r columns pen reader place rule is at within wrong =
    subst (λ (s : Result T Stop). IfErr s (RunEndsAt columns pen reader.bits (here reader))) (sym is)
    (record { within = within; is = ap (λ (n : ℕ). drop n reader.bits) (sym at); wrong = wrong })

pub run_in : (columns : ℕ) (pen : Pen) (bits others here : Bits) (stop : Stop) → others ≡ bits
    → RunEndsAt columns pen others here stop → RunEndsAt columns pen bits here stop
run_in columns pen bits others here stop same ends = subst (λ (b : Bits). RunEndsAt columns pen b here stop) same ends

-- a run that is painted is read whatever follows it
run_again : (columns : ℕ) (pen : Pen) (places : List ℕ) → columns ≤ 4294967295 → (next : Pen) (new : List ℕ) (here after : Bits)
    (paints : PaintsRun columns pen next places new here after)
    → (word : Bits) × (here ≡ word ++ after) × ((more : Bits) → read_run pen.color (word ++ more) ≡ Ok (paints.run, more))
run_again columns pen places small next new here after paints =
    let word = run_is_spelled pen.color paints.run here after paints.stands.read in
    let few : paints.run ≤ 4294967295 = omega (arith, paints.stands.within, small) in
    (word.0, word.2, λ more. run_read pen.color paints.run word.0 more word.1 few)

-- and painted
paints_again : (columns : ℕ) (pen : Pen) (places : List ℕ) (next : Pen) (new : List ℕ) (here after : Bits)
    (paints : PaintsRun columns pen next places new here after) (there end : Bits)
    → read_run pen.color there ≡ Ok (paints.run, end) → PaintsRun columns pen next places new there end
paints_again columns pen places next new here after paints there end read = record {
  run = paints.run;
  stands = record { read = read; within = paints.stands.within; some = paints.stands.some };
  painted = paints.painted;
  turned = paints.turned;
}

module _ (columns : ℕ) (pen : Pen) (places : List ℕ) (small : columns ≤ 4294967295) (drawn : IsDrawn columns pen places)
    (open_end : pen.painted < columns) where
  abbrev spot : Spot
  spot = spot_of pen places

  open_front : length spot.front < columns
  open_front = omega (arith, front_len columns pen places small drawn open_end, open_end)

  pub runs_depart : (stop : Stop) (bits here : Bits) → RunEndsAt columns pen bits here stop
      → EndsAt columns (RunsFrom spot) bits here stop
  runs_depart Stop.OutOfMemory bits here ends = tt
  runs_depart (Stop.Violation found) bits here has = record {
    within = has.within;
    passed = [];
    is = has.is;
    begins = runs_begin columns spot small open_front;
    otherwise = λ row more rest row_len stands.
        let next = run_next columns pen places small drawn open_end more row rest row_len stands in
        wrong_run columns found.place pen found.rule (drop found.place bits) more next.1 next.0
        (subst (IsWrongRun columns pen found.rule) has.is has.wrong) next.2;
  }

  module _ (reference : Row) (ref_len : length reference ≡ columns) where
    pub first_departs : (stop : Stop) (bits here : Bits) → RunEndsAt columns pen bits here stop
        → EndsAt columns (ModeFrom reference spot Horizontal) bits here stop
    first_departs Stop.OutOfMemory bits here ends = tt
    first_departs (Stop.Violation found) bits here has = record {
      within = has.within;
      passed = [];
      is = has.is;
      begins = horizontal_begins columns reference spot small ref_len (len columns pen places small drawn open_end)
          (inside columns pen places small drawn open_end) (white columns pen places small drawn open_end) open_front;
      otherwise = λ row more rest row_len stands.
          let next = horizontal_next columns pen places small drawn open_end more reference ref_len row rest row_len stands in
          wrong_run columns found.place pen found.rule (drop found.place bits) more next.1 next.0
          (subst (IsWrongRun columns pen found.rule) has.is has.wrong) next.2;
    }

  -- ---- After a run.
  module _ (next : Pen) (new : List ℕ) (here after : Bits) (paints : PaintsRun columns pen next places new here after) where
    pub run_passes : Passes columns (RunsFrom spot) (RunsFrom (spot_of next new)) here after
    run_passes = let again = run_again columns pen places small next new here after paints in record {
      passed = again.0;
      is = again.1;
      leads = λ more. run_drawn columns pen places small drawn open_end next new (again.0 ++ more) more
          (paints_again columns pen places next new here after paints (again.0 ++ more) more (again.2 more));
    }

    module _ (reference : Row) (ref_len : length reference ≡ columns) where
      pub second_departs : (stop : Stop) (bits : Bits) → RunEndsAt columns next bits after stop
          → EndsAt columns (ModeFrom reference spot Horizontal) bits here stop
      second_departs Stop.OutOfMemory bits ends = tt
      second_departs (Stop.Violation found) bits has =
          let again = run_again columns pen places small next new here after paints in
          record {
            within = has.within;
            passed = again.0;
            is = again.1 ∙ ap (λ (x : Bits). again.0 ++ x) has.is;
            begins = second_begins columns reference spot small ref_len (len columns pen places small drawn open_end)
                (inside columns pen places small drawn open_end) (white columns pen places small drawn open_end) open_front
                paints.run (pen.painted + paints.run) again.0 again.2
                (omega (arith, front_len columns pen places small drawn open_end))
                (right columns pen places small drawn open_end next new here after paints) paints.stands.within;
            otherwise = λ row more rest row_len stands.
                let two = second_next columns pen places small drawn open_end next new (again.0 ++ more) more
                (paints_again columns pen places next new here after paints (again.0 ++ more) more (again.2 more))
                reference ref_len row rest row_len stands in
                wrong_run columns found.place next found.rule (drop found.place bits) more two.1 two.0
                (subst (IsWrongRun columns next found.rule) has.is has.wrong) two.2;
          }

    module _ (last : Pen) (final : List ℕ) (end : Bits) (second : PaintsRun columns next last new final after end) where
      pub horizontal_passes : (reference : Row) → length reference ≡ columns
          → Passes columns (ModeFrom reference spot Horizontal) (LineFrom reference (spot_of last final)) here end
      horizontal_passes reference ref_len =
          let one = run_again columns pen places small next new here after paints in
          let two = run_again columns next new small last final after end second in
          record {
            passed = one.0 ++ two.0;
            is = one.1 ∙ ap (λ (x : Bits). one.0 ++ x) two.1 ∙ sym (append_assoc one.0 two.0 end);
            leads = λ more. subst
                (λ (x : Bits). Leads columns (ModeFrom reference spot Horizontal x) (LineFrom reference (spot_of last final)
                more))
                (sym (append_assoc one.0 two.0 more))
                (horizontal_drawn columns pen places small drawn open_end next new (one.0 ++ (two.0 ++ more)) (two.0 ++ more)
                (paints_again columns pen places next new here after paints (one.0 ++ (two.0 ++ more)) (two.0 ++ more)
                (one.2 (two.0 ++ more))) last final more
                (paints_again columns next new last final after end second (two.0 ++ more) more (two.2 more)) reference ref_len);
          }
