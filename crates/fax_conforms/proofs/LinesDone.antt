-- Lines that are drawn to their end.
use Rattle.hayro_ccitt.proofs.Names.{◌≡◌, ℕ, suc, ◌<◌, ◌≤◌, Bool, true, false, List, length, refl, ap, subst}
use Rattle.hayro_ccitt.proofs.Names.{◌∙◌, arith, Bits, Row, pixels, cond}
use Rattle.hayro_ccitt.proofs.PixelRows.ChangesAndPixels.{length-pixels}
use Rattle.fax_conforms.specs.declared.lines.Pen.{Pen}
use Rattle.fax_conforms.specs.Standing.{Leads, LineFrom, RunsFrom, IsOnly, spot_of, from_of, IsDrawn}
use Rattle.fax_conforms.proofs.LinesEnd.{steps_end, runs_end}

has_begun : (begun : Bool) (painted : ℕ) → (begun ≡ false → painted ≡ 0) → 0 < painted → begun ≡ true
has_begun true painted start some = refl
has_begun false painted start some = absurd (omega (arith, start refl))

module _ (columns : ℕ) (pen : Pen) (places : List ℕ) (drawn : IsDrawn columns pen places) (full : columns ≤ pen.painted)
    (wide : 0 < columns) where
  whole : pen.painted ≡ columns
  whole = let within : pen.painted ≤ columns = drawn.within in omega arith

  front_len : length (pixels pen.painted places) ≡ columns
  front_len = length-pixels pen.painted places drawn.lawful ∙ whole

  pub line_2d_done : (reference : Row) (here : Bits)
      → Leads columns (LineFrom reference (spot_of pen places) here) (IsOnly (pixels columns places) here)
  line_2d_done reference here =
      let begun : pen.begun ≡ true = has_begun pen.begun pen.painted (λ e. (drawn.start e).0) (omega (arith, whole, wide)) in
      let from : from_of pen ≡ suc columns = ap (λ (b : Bool). cond b (suc pen.painted) 0) begun ∙ ap suc whole in
      subst (λ (n : ℕ). Leads columns (LineFrom reference (spot_of pen places) here) (IsOnly (pixels n places) here)) whole
      (steps_end columns reference (spot_of pen places) here from front_len)

  pub line_1d_done : (here : Bits) → Leads columns (RunsFrom (spot_of pen places) here) (IsOnly (pixels columns places) here)
  line_1d_done here =
      subst (λ (n : ℕ). Leads columns (RunsFrom (spot_of pen places) here) (IsOnly (pixels n places) here)) whole
      (runs_end columns (spot_of pen places) here front_len)
