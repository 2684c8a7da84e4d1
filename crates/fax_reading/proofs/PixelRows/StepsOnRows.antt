-- Steps on the pixels of changes, over rows of one width.
use Rattle.fax_reading.proofs.Names.{◌≡◌, ℕ, List, [], ◌∷◌, length, refl, ap, subst, ◌∙◌, All-head, All-tail, fold, meaning_after}
use Rattle.fax_reading.proofs.Names.{Row, HaveWidth, changes, pixels}
use Rattle.fax_reading.proofs.PixelRows.ChangesAndPixels.{pixels-changes}

-- they are steps on the rows
pub over_rows : {M : Type 0} (width : ℕ) (step : M → Row → M) (meaning : M) (rows : List Row) → HaveWidth width rows
    → meaning_after (λ before places. step before (pixels width places)) meaning rows ≡ fold step meaning rows
over_rows width step meaning [] have = refl
over_rows width step meaning (row ∷ rows) have = let same : pixels width (changes row) ≡ row = subst
    (λ (n : ℕ). pixels n (changes row) ≡ row) (All-head (λ r. length r ≡ width) row rows have) (pixels-changes row) in
    ap (λ (r : Row). meaning_after (λ before places. step before (pixels width places)) (step meaning r) rows) same
    ∙ over_rows width step (step meaning row) rows (All-tail (λ r. length r ≡ width) row rows have)
