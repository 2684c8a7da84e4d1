-- Runs of a one-dimensional line that are drawn in pairs.
use Rattle.fax_lines.specs.declared.pen.RowPen.{RowPen}
use Rattle.fax_lines.specs.DrawnModes.{DrawsNothing}
use Rattle.fax_lines.specs.TwoRunsHere.{DrawsRuns, MovesOn}
use Rattle.fax_lines.proofs.Names.{◌≢◌, ℕ, ◌<◌, ◌≤◌, ◌∙◌, arith, Color, White, DecodeSettings, IsOpen, GoesOn, pen_at}
use Rattle.fax_lines.proofs.DrawingLines.UsualStrokes.{goes_on_twice, open_reached, reached_open}

-- pairs of runs are drawn up to a position inside the row
pub record ArePairsDrawn (settings : DecodeSettings) (painted : ℕ) (before : RowPen) (place : ℕ) (after : RowPen) : Type 0 where
  pub drawn : GoesOn settings.strict settings.columns (pen_at painted before.row.items White before.window.at)
      (pen_at place after.row.items White after.window.at) before.ticks after.ticks
  pub row_is_open : IsOpen settings.columns place after.row.items
  pub forward : painted ≤ place
  pub moves : MovesOn before after

moves_twice : {first second last : RowPen} → MovesOn first second → MovesOn second last → MovesOn first last
moves_twice one two = record {
  same_bits = two.same_bits ∙ one.same_bits;
  onward = omega (arith, two.onward, one.onward);
  capacity = two.capacity ∙ one.capacity;
}

module _ {settings : DecodeSettings} {painted place : ℕ} {first second : RowPen}
    (pairs : ArePairsDrawn settings painted first place second) where
  -- the window and the list's room change, but nothing is drawn
  pub pairs_stay : {last : RowPen} → DrawsNothing second last → MovesOn second last
      → ArePairsDrawn settings painted first place last
  pairs_stay none moves = record {
    drawn = rw (none.at, none.items, none.count) pairs.drawn;
    row_is_open = rw none.items pairs.row_is_open;
    forward = pairs.forward;
    moves = moves_twice pairs.moves moves;
  }

  -- nothing more is of the usual kind
  pub pairs_end : DrawsRuns settings painted first place White second
  pairs_end = record {
    drawn = pairs.drawn;
    reached = open_reached settings.columns place second.row.items pairs.row_is_open;
  }

  module _ {next : ℕ} {color : Color} {last : RowPen} (runs : DrawsRuns settings place second next color last) where
    -- two more runs
    pub pairs_reach : DrawsRuns settings painted first next color last
    pairs_reach = record {
      drawn = goes_on_twice settings.strict settings.columns _ _ _ _ _ _ pairs.drawn runs.drawn;
      reached = runs.reached;
    }

    -- and the row isn't full
    pub pairs_on : next ≢ settings.columns → place < next → MovesOn second last
        → ArePairsDrawn settings painted first next last
    pairs_on inside forward moves =
        let opened = reached_open settings.columns next color last.row.items runs.reached inside in
        record {
          drawn = goes_on_twice settings.strict settings.columns _ _ _ _ _ _ pairs.drawn (rw opened.1 at runs.drawn);
          row_is_open = opened.0;
          forward = omega (arith, forward, pairs.forward);
          moves = moves_twice pairs.moves moves;
        }
