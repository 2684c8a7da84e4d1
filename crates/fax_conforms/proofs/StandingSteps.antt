-- Valid steps that stand here begin with a mode that is read here.
use Rattle.hayro_ccitt.proofs.Names.{◌≡◌, ℕ, ◌-◌, ◌≤◌, ◌++◌, length, Ok, refl, ap, ◌∙◌, sym, append_assoc}
use Rattle.hayro_ccitt.proofs.Names.{arith, Color, Mode, Pass, Horizontal, Vertical, Bits, Row, mode_codes, Has}
use Rattle.hayro_ccitt.proofs.Names.{read_code, opposite, a1, a2, EncodesLine2D}
use Rattle.hayro_ccitt.proofs.BitReading.ZerosInWords.{modes_free}
use Rattle.hayro_ccitt.proofs.CodeWords.ReadCodes.{read_code_again, read_code_found}
use Rattle.hayro_ccitt.proofs.EncodedPictures.EncodedLines.{run_read}
use Rattle.hayro_ccitt.proofs.PixelRows.ChangePlaces.{a1_next, a2_next}
use Rattle.fax_conforms.specs.Standing.{StepsStand, StepsAfter}
use Rattle.fax_conforms.proofs.SpelledRuns.{run_is_spelled}

-- a mode is read here, and the steps after its word are valid
pub record HasMode (reference row : Row) (from : ℕ) (color : Color) (here rest : Bits) : Type 0 where
  pub mode : Mode
  pub after : Bits
  pub read : read_code mode_codes here ≡ Ok (mode, after)
  pub steps : StepsAfter reference row from color mode after rest

mode_read : (mode : Mode) (word after here : Bits) → Has mode_codes mode word → here ≡ word ++ after
    → read_code mode_codes here ≡ Ok (mode, after)
mode_read mode word after here has is = ap (read_code mode_codes) is ∙ read_code_again mode_codes mode word after modes_free has

-- the bits after a word
split_word : (word bits rest here : Bits) → here ≡ (word ++ bits) ++ rest → here ≡ word ++ (bits ++ rest)
split_word word bits rest here is = is ∙ append_assoc word bits rest

pub mode_of_steps : (reference row : Row) (from : ℕ) (color : Color) (here rest : Bits) → from ≤ length row
    → length row ≤ 4294967295 → StepsStand reference row from color here rest → HasMode reference row from color here rest
mode_of_steps reference row from color here rest le small (bits, EncodesLine2D.over, is) = absurd (omega arith)
mode_of_steps reference row from color here rest le small (
  bits,
  EncodesLine2D.pass from2 word {bits =
      next} inside has left steps,
  is,
)
    = record {
      mode = Pass;
      after = next ++ rest;
      read = mode_read Pass word (next ++ rest) here has (split_word word next rest here is);
      steps = (left, (next, steps, refl));
    }
mode_of_steps reference row from color here rest le small
    (bits, EncodesLine2D.vertical from2 word k {bits = next} inside has exact steps, is) = record {
      mode = Vertical k;
      after = next ++ rest;
      read = mode_read (Vertical k) word (next ++ rest) here has (split_word word next rest here is);
      steps = (exact, (next, steps, refl));
    }
mode_of_steps reference row from color here rest le small
    (bits, EncodesLine2D.horizontal from2 word {first = one} {second = two} {bits = next} inside has spells1 spells2 steps, is) =
    let within1 : a1 row from ≤ length row = (a1_next row from).within in
    let within2 : a2 row from ≤ length row = (a2_next row from).within in
    let after : Bits = one ++ (two ++ (next ++ rest)) in
    let split : here ≡ word ++ after = is ∙ (simp append_assoc refl) in
    record {
      mode = Horizontal;
      after = after;
      read = mode_read Horizontal word after here has split;
      steps = (
        two ++ (next ++ rest),
        next ++ rest,
        run_read color (a1 row from - (from - 1)) one (two ++ (next ++ rest)) spells1 (omega (arith, within1)),
        run_read (opposite color) (a2 row from - a1 row from) two (next ++ rest) spells2 (omega (arith, within2)),
        (next, steps, refl),
      );
    }

pub steps_of_mode : (reference row : Row) (from : ℕ) (color : Color) (here after rest : Bits) (mode : Mode) → from ≤ length row
    → read_code mode_codes here ≡ Ok (mode, after) → StepsAfter reference row from color mode after rest
    → StepsStand reference row from color here rest
steps_of_mode reference row from color here after rest Pass le read (left, (bits, steps, split)) =
    let word = read_code_found mode_codes here Pass after read in (
      word.0 ++ bits,
      EncodesLine2D.pass from word.0 le word.1 left steps,
      word.2 ∙ ap (λ (x : Bits). word.0 ++ x) split ∙ sym (append_assoc word.0 bits rest),
    )
steps_of_mode reference row from color here after rest (Vertical k) le read (exact, (bits, steps, split)) =
    let word = read_code_found mode_codes here (Vertical k) after read in (
      word.0 ++ bits,
      EncodesLine2D.vertical from word.0 k le word.1 exact steps,
      word.2 ∙ ap (λ (x : Bits). word.0 ++ x) split ∙ sym (append_assoc word.0 bits rest),
    )
steps_of_mode reference row from color here after rest Horizontal le read (middle, last, read1, read2, (bits, steps, split)) =
    let word = read_code_found mode_codes here Horizontal after read in
    let one = run_is_spelled color (a1 row from - (from - 1)) after middle read1 in
    let two = run_is_spelled (opposite color) (a2 row from - a1 row from) middle last read2 in
    let joined : word.0 ++ (one.0 ++ (two.0 ++ (bits ++ rest))) ≡ (word.0 ++ (one.0 ++ (two.0 ++ bits))) ++ rest =
    simp append_assoc refl in (
      word.0 ++ (one.0 ++ (two.0 ++ bits)),
      EncodesLine2D.horizontal from word.0 le word.1 one.1 two.1 steps,
      word.2 ∙ ap (λ (x : Bits). word.0 ++ x) (one.2 ∙ ap (λ (x : Bits). one.0 ++ x) (two.2
          ∙ ap (λ (x : Bits). two.0 ++ x) split))
          ∙ joined,
    )
