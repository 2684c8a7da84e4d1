-- The runs that a pen has drawn, in horizontal mode and in one-dimensional lines.
use Rattle.hayro_ccitt.proofs.Names.{◌≡◌, ℕ, suc, ◌+◌, ◌<◌, ◌≤◌, Bool, true, false, List, length, refl, ap, sym, subst}
use Rattle.hayro_ccitt.proofs.Names.{◌∙◌, arith, inl, inr, cases_lt, Color, Bits, Row, opposite, Horizontal, cond}
use Rattle.hayro_ccitt.proofs.PixelRows.ReferencePlaces.{opposite_twice}
use Rattle.fax_conforms.specs.declared.lines.Pen.{Pen}
use Rattle.fax_conforms.specs.Standing.{Spot, Leads, LineFrom, ModeFrom, RunsFrom, spot_of, from_of, IsDrawn, IsAbove}
use Rattle.fax_conforms.specs.Standing.{DrawsOn}
use Rattle.fax_conforms.specs.Standing.{NextRun, PaintsRun}
use Rattle.fax_conforms.proofs.ModesLead.{painted_on, horizontal_leads, horizontal_runs}
use Rattle.fax_conforms.proofs.PensDrawn.{spot_painted, spot_turned, above_on, len_front, len, inside, white}
use Rattle.fax_conforms.proofs.RunsLead.{run_leads, one_run}
use Rattle.fax_conforms.proofs.SpelledRuns.{same_run}

from_above : (begun : Bool) (painted run : ℕ) → (begun ≡ true → 0 < run) → cond begun (suc painted) 0 ≤ painted + run
from_above true painted run some = omega (arith, some refl)
from_above false painted run some = omega arith

from_some : (begun : Bool) (painted : ℕ) → 0 < cond begun (suc painted) 0 → begun ≡ true
from_some true painted lt = refl
from_some false painted lt = absurd (omega arith)

some_from : (begun : Bool) (painted : ℕ) → begun ≡ true → 0 < cond begun (suc painted) 0
some_from true painted e = omega arith
some_from false painted e = absurd cc

above_from : (begun : Bool) (painted run : ℕ) → cond begun (suc painted) 0 ≤ painted + run → begun ≡ true → 0 < run
above_from true painted run le e = omega arith
above_from false painted run le e = absurd cc

-- a pen with its colour turned twice
turned_is : (pen next : Pen) → next.color ≡ opposite pen.color → record next { color = opposite pen.color } ≡ next
turned_is pen next e = ap (λ (c : Color). record next { color = c }) (sym e)

module _ (columns : ℕ) (pen : Pen) (places : List ℕ) (small : columns ≤ 4294967295) (drawn : IsDrawn columns pen places)
    (open_end : pen.painted < columns) where
  abbrev spot : Spot
  spot = spot_of pen places

  pub front_len : length spot.front ≡ pen.painted
  front_len = len_front columns pen places small drawn open_end

  -- the run of a valid line
  pub run_next : (here : Bits) (row : Row) (rest : Bits) → length row ≡ columns → RunsFrom spot here row rest
      → (run : ℕ) × (after : Bits) × NextRun columns pen here after run
  run_next here row rest row_len stands =
      let has = one_run columns spot here small (omega (arith, front_len, open_end)) row rest row_len stands in (
        has.run,
        has.after,
        record {
          read = has.read;
          within = omega (arith, has.within, front_len);
          some = λ begun lt. has.some (some_from pen.begun pen.painted begun);
        },
      )

  -- and of a horizontal mode
  pub horizontal_next : (here : Bits) (reference : Row) → length reference ≡ columns → (row : Row) (rest : Bits)
      → length row ≡ columns → ModeFrom reference spot Horizontal here row rest
      → (run : ℕ) × (after : Bits) × NextRun columns pen here after run
  horizontal_next here reference ref_len row rest row_len stands =
      let has = horizontal_runs columns reference spot small ref_len (len columns pen places small drawn open_end)
      (inside columns pen places small drawn open_end) (white columns pen places small drawn open_end) here row rest row_len
      stands in (
        has.one,
        has.middle,
        record {
          read = has.read1;
          within = omega (arith, has.within1, front_len);
          some = λ begun lt. above_from pen.begun pen.painted has.one (omega (arith, has.above, front_len)) begun;
        },
      )

  module _ (next : Pen) (new : List ℕ) (here after : Bits) (paints : PaintsRun columns pen next places new here after) where
    abbrev run : ℕ
    run = paints.run

    abbrev flat : Pen
    flat = record next { color = pen.color }

    some : pen.begun ≡ true → 0 < run
    some begun = paints.stands.some begun open_end

    pub right : from_of pen ≤ pen.painted + run
    right = from_above pen.begun pen.painted run some

    run_spot : spot_of next new ≡ painted_on spot (pen.painted + run) (opposite pen.color)
    run_spot = ap (λ (p : Pen). spot_of p new) (sym (turned_is pen next paints.turned))
        ∙ spot_turned pen flat places new (pen.painted + run) drawn.lawful paints.painted

    pub run_drawn : Leads columns (RunsFrom spot here) (RunsFrom (spot_of next new) after)
    run_drawn = subst (λ (s : Spot). Leads columns (RunsFrom spot here) (RunsFrom s after)) (sym run_spot)
        (run_leads columns spot here small (omega (arith, front_len, open_end)) after run (pen.painted + run) paints.stands.read
        (omega (arith, front_len)) paints.stands.within (λ lt. some (from_some pen.begun pen.painted lt)))

    -- ---- The second run of horizontal mode.
    pub second_next : (reference : Row) → length reference ≡ columns → (row : Row) (rest : Bits) → length row ≡ columns
        → ModeFrom reference spot Horizontal here row rest → (two : ℕ) × (last : Bits) × NextRun columns next after last two
    second_next reference ref_len row rest row_len stands =
        let has = horizontal_runs columns reference spot small ref_len (len columns pen places small drawn open_end)
        (inside columns pen places small drawn open_end) (white columns pen places small drawn open_end) here row rest row_len
        stands in
        let same = same_run has.one run has.middle after (sym has.read1 ∙ paints.stands.read) in (
          has.two,
          has.after,
          record {
            read = rw (paints.turned, ← same.1) has.read2;
            within = omega (arith, has.within2, front_len, same.0, paints.painted.painted);
            some = λ begun lt. has.some (omega (arith, lt, front_len, same.0, paints.painted.painted));
          },
        )

    module _ (last : Pen) (final : List ℕ) (end : Bits) (second : PaintsRun columns next last new final after end) where
      abbrev two : ℕ
      two = second.run

      abbrev flat_last : Pen
      flat_last = record last { color = next.color }

      color_is : last.color ≡ pen.color
      color_is = second.turned ∙ ap opposite paints.turned ∙ opposite_twice pen.color

      begun : next.begun ≡ true
      begun = paints.painted.begun

      some_pixels : 0 < last.painted
      some_pixels = elim (cases_lt next.painted columns) [
        | inl lt ↦ let s = second.stands.some begun lt in omega (arith, s, second.painted.painted)
        | inr ge ↦ omega (arith, ge, open_end, second.painted.painted)
      ]

      pub horizontal_on : (reference : List ℕ) → IsAbove columns pen reference → DrawsOn columns reference pen last final
      horizontal_on reference above = record {
        drawn = record {
          lawful = second.painted.lawful;
          within = omega (arith, second.painted.painted, second.stands.within);
          start = λ e. absurd (let f : false ≡ true = sym e ∙ second.painted.begun in cc);
          black = λ e none. absurd (omega (arith, none, some_pixels));
        };
        above = above_on columns pen last reference above (omega (arith, paints.painted.painted, second.painted.painted))
            (second.painted.passed ∙ paints.painted.passed);
        onward = let from : from_of last ≡ suc last.painted = ap (λ (b : Bool). cond b
            (suc last.painted) 0) second.painted.begun in
            omega (arith, from, right, paints.painted.painted, second.painted.painted);
      }

      spots : spot_of last final ≡ painted_on (painted_on spot (pen.painted + run) (opposite pen.color))
          (next.painted + two) pen.color
      spots = ap (λ (c : Color). record (spot_of last final) { color = c }) color_is
          ∙ ap (λ (s : Spot). record s { color = pen.color })
          (spot_painted next flat_last new final (next.painted + two) paints.painted.lawful second.painted)
          ∙ ap (λ (s : Spot). painted_on s (next.painted + two) pen.color) run_spot

      pub horizontal_drawn : (reference : Row) → length reference ≡ columns
          → Leads columns (ModeFrom reference spot Horizontal here) (LineFrom reference (spot_of last final) end)
      horizontal_drawn reference ref_len = subst (λ (s : Spot). Leads columns (ModeFrom reference spot Horizontal here)
          (LineFrom reference s end)) (sym spots)
          (horizontal_leads columns reference spot small ref_len (len columns pen places small drawn open_end)
          (inside columns pen places small drawn open_end) (white columns pen places small drawn open_end) here after end run two
          (pen.painted + run) (next.painted + two) paints.stands.read (rw (← paints.turned) second.stands.read)
          (omega (arith, front_len)) (omega (arith, paints.painted.painted)) right second.stands.within
          (λ lt. second.stands.some begun (omega (arith, lt, paints.painted.painted))))
