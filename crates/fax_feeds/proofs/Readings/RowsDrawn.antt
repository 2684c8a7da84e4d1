-- The changes of a row are paid by the bits of its line.
use Rattle.fax_feeds.proofs.Names.{common_steps}
use Rattle.fax_feeds.proofs.Names.{◌≡◌, ◌∙◌, ◌+◌, ◌≤◌, ◌<◌, ◌++◌, ◌∷◌, ◌⊎◌, [], Bool, true, false, Result, Ok}
use Rattle.fax_feeds.proofs.Names.{Err, refl, sym, ap, arith, length, replicate, inl, inr, cases_lt, length-append}
use Rattle.fax_feeds.proofs.Names.{append_assoc, Bits, DecodeError, DecodeSettings, Row, changes, found_here}
use Rattle.fax_feeds.proofs.Names.{front_of, line_here, row_of_line}
use Rattle.fax_reading.specs.Lines.{Line}
use Rattle.fax_reading.specs.PlainReading.{aligned_after_row}
use Rattle.fax_reading.specs.Rows.{repaired}
use Rattle.fax_reading.proofs.Work.ChangesStored.{changes_found, changes_repaired}
use Rattle.fax_reading.proofs.Work.TurnsPaid.{after_shorter, broken_row, whole_pays}
use Rattle.fax_reading.proofs.Work.WordsPay.{found_before_eol, found_within}

-- bits that begin with some, and end with no fewer than others, are those and more
pub prefix_more : (front rest seen more : Bits) → front ++ rest ≡ seen ++ more → length front ≤ length seen
    → (others : Bits) × (seen ≡ front ++ others)
prefix_more [] rest seen more e le = (seen, refl)
prefix_more (b ∷ front) rest [] more e le = absurd (omega (arith, le))
prefix_more (b ∷ front) rest (c ∷ seen) more e le =
    let same : b ≡ c = cc in
    let next : front ++ rest ≡ seen ++ more = cc in
    let (others, is) = prefix_more front rest seen more next (omega (arith, le)) in
    (others, ap (λ (x : Bits). c ∷ x) is ∙ ap (λ (x : Bool). x ∷ (front ++ others)) (sym same))

-- an EOL that ends among some bits
pub eol_among : (seen more fill after : Bits) → seen ++ more ≡ fill ++ replicate 11 false ++ true ∷ after
    → length fill + 12 ≤ length seen → (others : Bits) × (seen ≡ fill ++ replicate 11 false ++ true ∷ others)
eol_among seen more fill after e within =
    let eol : Bits = fill ++ replicate 11 false ++ true ∷ [] in
    let whole : eol ++ after ≡ seen ++ more =
    append_assoc (fill ++ replicate 11 false) (true ∷ []) after ∙ sym e in
    let long : length eol ≤ length seen = grind (arith, common_steps, length-append) in
    let (others, is) = prefix_more eol after seen more whole long in
    (others, is ∙ append_assoc (fill ++ replicate 11 false) (true ∷ []) others)

-- a line finds no more words than there are bits up to the end of an EOL, which may come later
words_before_eol : (settings : DecodeSettings) (reference : Row) (here more fill after : Bits)
    → here ++ more ≡ fill ++ replicate 11 false ++ true ∷ after
    → length (found_here settings reference here) ≤ length fill + 12
words_before_eol settings reference here more fill after e =
    grind (arith, common_steps, cases_lt, found_within, found_before_eol, length-append, eol_among)

abbrev row_of : Result (Row × Bits) DecodeError → Row
row_of (Ok x) = x.0
row_of (Err fault) = []

abbrev rest_of : Result (Row × Bits) DecodeError → Bits
rest_of (Ok x) = x.1
rest_of (Err fault) = []

-- a broken line yields its repaired front
broken_front : (settings : DecodeSettings) (h : Bool) (here rest : Bits) (front row : Row) (fault : DecodeError)
    → row_of_line settings h here (Line.broken front fault) ≡ Ok (row, rest) → repaired settings.columns front ≡ row
broken_front settings true here rest front row fault is = grind (arith, common_steps)
broken_front settings false here rest front row fault is = grind (arith, common_steps)

-- the row of a line has no more changes than bits were read, and a repaired one no more than one besides those up to an EOL's
-- end
pub row_drawn : (settings : DecodeSettings) (h : Bool) (reference : Row) (here rest : Bits) (row : Row) → 0 < settings.columns
    → row_of_line settings h here (line_here settings reference here) ≡ Ok (row, rest)
    → (length (changes row) + length rest ≤ length here)
    ⊎ ((h ≡ true) × (rest ≡ here) × (length (changes row) ≤ length here + 1) × ((more fill after : Bits)
    → here ++ more ≡ fill ++ replicate 11 false ++ true ∷ after → length (changes row) ≤ length fill + 13))
row_drawn settings h reference here rest row wide is = by_line (line_here settings reference here) refl is
  where
    stored : length (changes (front_of (line_here settings reference here))) ≤ length (found_here settings reference here)
    stored = changes_found settings.encoding settings.strict settings.columns reference here

    by_line : (line : Line) → line_here settings reference here ≡ line → row_of_line settings h here line ≡ Ok (row, rest)
        → (length (changes row) + length rest ≤ length here)
        ⊎ ((h ≡ true) × (rest ≡ here) × (length (changes row) ≤ length here + 1) × ((more fill after : Bits)
        → here ++ more ≡ fill ++ replicate 11 false ++ true ∷ after → length (changes row) ≤ length fill + 13))
    by_line (Line.whole whole after) e given =
        let pays = whole_pays settings.encoding settings.strict settings.columns reference here whole after wide e in
        let same : aligned_after_row settings h after ≡ rest = ap rest_of given in
        let drawn : front_of (line_here settings reference here) ≡ row = ap front_of e ∙ ap row_of given in
        inl (omega (
          arith,
          pays.words,
          after_shorter settings h after,
          ap length same,
          stored,
          ap (λ (r : Row). length (changes r)) drawn,
        ))
    by_line (Line.broken front fault) e given =
        let there = broken_row settings h here rest front row fault given in
        let one_more = changes_repaired settings.columns front in
        let same : length (changes (repaired settings.columns front)) ≡ length (changes row) =
        ap (λ (r : Row). length (changes r)) (broken_front settings h here rest front row fault given) in
        let drawn = ap (λ (l : Line). length (changes (front_of l))) e in
        inr (
          there.0,
          there.1,
          omega (
            arith,
            one_more,
            same,
            stored,
            drawn,
            found_within settings.encoding settings.strict settings.columns reference here,
          ),
          λ more fill after eol. omega (
            arith,
            one_more,
            same,
            stored,
            drawn,
            words_before_eol settings reference here more fill after eol,
          ),
        )
