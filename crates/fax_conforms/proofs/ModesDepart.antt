-- Modes that lead on whatever follows them, and modes that no line can have.
use Rattle.hayro_ccitt.proofs.Names.{◌≡◌, ℕ, ◌-◌, ◌<◌, ◌≤◌, White, ℤ, pos, ◌+ℤ◌, List, ◌++◌, length, Ok, arith, [], Bits, Row}
use Rattle.hayro_ccitt.proofs.Names.{Mode, Pass, Vertical, mode_codes, read_code, b1, b2, a1, pixels, inr}
use Rattle.hayro_ccitt.proofs.BitReading.ZerosInWords.{modes_free}
use Rattle.hayro_ccitt.proofs.CodeWords.ReadCodes.{read_code_again, read_code_found}
use Rattle.hayro_ccitt.proofs.PixelRows.ChangePlaces.{a1_next}
use Rattle.hayro_ccitt.proofs.PixelRows.ChangesAndPixels.{length-pixels}
use Rattle.std.specs.Prelude.{◌<ℤ◌, ◌≤ℤ◌, ◌^◌}
use Rattle.std.specs.Int.{FitsUnsigned}
use Rattle.std.proofs.lemmas.Int.{ints, by_lt_z}
use mir.Syntax.{w32}
use Rattle.fax_conforms.specs.declared.lines.Pen.{Pen}
use Rattle.fax_conforms.specs.declared.stops.Rule.TheVariants as rule
use Rattle.fax_conforms.specs.Standing.{Spot, Passes, Leads, LineFrom, ModeFrom, spot_of, from_of, IsDrawn, IsAbove}
use Rattle.fax_conforms.specs.Stops.{Breaks, ModeIsHere}
use Rattle.fax_conforms.proofs.LinesBegin.{line_begins}
use Rattle.fax_conforms.proofs.ModesLead.{mode_leads, pass_within}
use Rattle.fax_conforms.proofs.PensDrawn.{len, inside, white, len_front}
use Rattle.fax_conforms.proofs.StandingSteps.{mode_of_steps}

left_of : (b k other : ℤ) (columns place : ℕ) → pos columns <ℤ (b +ℤ k) → pos place ≡ b +ℤ other → place ≤ columns → other <ℤ k
left_of b k other columns place far is within = omega (arith, ints, far, is, within)

right_of_it : (b k other : ℤ) (from place : ℕ) → (b +ℤ k) <ℤ pos from → pos place ≡ b +ℤ other → from ≤ place → k <ℤ other
right_of_it b k other from place near is above = omega (arith, ints, near, is, above)

-- ---- A vertical mode whose position is no number of 32 bits.
pub outside_left : (b from : ℕ) (k : ℤ) → b ≤ 4294967295 → (FitsUnsigned w32 (pos b +ℤ k) → ⊥) → k <ℤ pos 0
    → (pos b +ℤ k) <ℤ pos from
outside_left b from k small none left = by_lt_z (pos b +ℤ k) (pos 0) (λ lt. omega (arith, ints, lt))
    (λ ge. absurd (none (ge, omega (arith, ints, small, left))))

pub outside_right : (b columns : ℕ) (k : ℤ) → columns ≤ 4294967295 → (FitsUnsigned w32 (pos b +ℤ k) → ⊥) → pos 0 ≤ℤ k
    → pos columns <ℤ (pos b +ℤ k)
outside_right b columns k small none right = by_lt_z (pos b +ℤ k) (pos (2 ^ 32))
    (λ lt. absurd (none (omega (arith, ints, right), lt))) (λ ge. omega (arith, ints, ge, small))

module _ (columns : ℕ) (pen : Pen) (places : List ℕ) (small : columns ≤ 4294967295) (drawn : IsDrawn columns pen places)
    (open_end : pen.painted < columns) (reference : List ℕ) (above : IsAbove columns pen reference) where
  abbrev spot : Spot
  spot = spot_of pen places

  abbrev above_it : Row
  above_it = pixels columns reference

  ref_len : length above_it ≡ columns
  ref_len = length-pixels columns reference above.lawful

  front_is : length spot.front ≡ from_of pen - 1
  front_is = len columns pen places small drawn open_end

  from_inside : from_of pen ≤ columns
  from_inside = inside columns pen places small drawn open_end

  starts_white : from_of pen ≡ 0 → pen.color ≡ White
  starts_white = white columns pen places small drawn open_end

  -- a line goes on from here
  pub begins_here : (row : Row) × (more : Bits) × (length row ≡ columns) × LineFrom above_it spot more row []
  begins_here = line_begins columns above_it spot small ref_len front_is from_inside starts_white
      (omega (arith, len_front columns pen places small drawn open_end, open_end))

  mode_on : (mode : Mode) (here after : Bits) → read_code mode_codes here ≡ Ok (mode, after)
      → Leads columns (LineFrom above_it spot here) (ModeFrom above_it spot mode after)
  mode_on = mode_leads columns above_it spot small ref_len front_is from_inside starts_white

  -- a mode is passed
  pub mode_passes : (mode : Mode) (here after : Bits) → read_code mode_codes here ≡ Ok (mode, after)
      → Passes columns (LineFrom above_it spot) (ModeFrom above_it spot mode) here after
  mode_passes mode here after read =
      let word = read_code_found mode_codes here mode after read in
      record {
        passed = word.0;
        is = word.2;
        leads = λ more. mode_on mode (word.0 ++ more) more (read_code_again mode_codes mode word.0 more modes_free word.1);
      }

  module _ (place : ℕ) (here : Bits) (row : Row) (more rest : Bits) (row_len : length row ≡ columns)
      (stands : LineFrom above_it spot more row rest) where
    -- there is no mode
    pub no_mode_departs : ((mode : Mode) (after : Bits) → read_code mode_codes here ≡ Ok (mode, after) → ⊥)
        → Breaks rule.Mode place here more
    no_mode_departs none =
        let has = mode_of_steps above_it row (from_of pen) pen.color more rest (omega (arith, row_len, from_inside))
        (omega (arith, row_len, small)) stands.1 in
        ((λ mode is. none mode is.0 is.1), has.mode, (has.after, has.read))

    -- pass mode to the row's end
    pub pass_departs : columns ≤ b2 above_it (from_of pen) pen.color → ModeIsHere Pass here → Breaks rule.PassToEnd place here
        more
    pass_departs le is = (
      is,
      λ right. pass_within columns above_it spot small ref_len front_is from_inside starts_white right.0 le row rest row_len
          ((mode_on Pass more right.0 right.1 row rest row_len).0 stands),
    )

    -- where a vertical mode is right
    record IsRight (k : ℤ) : Type 0 where
      pub there : ℕ
      pub is : pos there ≡ pos (b1 above_it (from_of pen) pen.color) +ℤ k
      pub right : from_of pen ≤ there
      pub inside : there ≤ columns

    vertical_right : (k : ℤ) → ModeIsHere (Vertical k) more → IsRight k
    vertical_right k right =
        let (goes, (exact, steps)) = (mode_on (Vertical k) more right.0 right.1 row rest row_len).0 stands in
        let one = a1_next row (from_of pen) in
        let within : a1 row (from_of pen) ≤ length row = one.within in
        record {
          there = a1 row (from_of pen);
          is = exact;
          right = one.above (omega (arith, row_len, from_inside));
          inside = omega (arith, within, row_len);
        }

    -- a vertical mode right of the row's end
    pub far_departs : (k : ℤ) → pos columns <ℤ (pos (b1 above_it (from_of pen) pen.color) +ℤ k) → ModeIsHere (Vertical k) here
        → Breaks rule.RowEnd place here more
    far_departs k far is = inr (
      k,
      is,
      λ other right.
          let it = vertical_right other right in
          left_of (pos (b1 above_it (from_of pen) pen.color)) k other columns it.there far it.is it.inside,
    )

    -- one that isn't right of a0
    pub near_departs : (k : ℤ) → (pos (b1 above_it (from_of pen) pen.color) +ℤ k) <ℤ pos (from_of pen) → ModeIsHere (Vertical k)
        here
        → Breaks rule.NoPixels place here more
    near_departs k near is = inr (
      k,
      is,
      λ other right.
          let it = vertical_right other right in
          right_of_it (pos (b1 above_it (from_of pen) pen.color)) k other (from_of pen) it.there near it.is it.right,
    )
